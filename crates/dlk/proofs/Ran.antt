-- From what was read and what was given to the clauses of a run.
use Rattle.std.proofs.Common.{◌≡◌, ◌≢◌, ◌≤◌, ℕ, List, ◌++◌, take, Option, IsNone, ap, sym, subst, ◌∙◌, ◌⊎◌, inl, inr, arith}
use Rattle.dlk_desk.specs.Outside.{Outside, SameFiles, Rose}
use Rattle.dlk_desk.specs.Desk.{OnlyReads, OnlyWrites}
use Rattle.dlk_transfer.specs.Transfer.{GrowsByFront}
use Rattle.dlk_replies.specs.Forms.{Word}
use Rattle.dlk_replies.specs.Inputs.{inputs, limits, output}
use Rattle.dlk_replies.specs.Replies.{Reply, code_of}
use Rattle.dlk.specs.Answers.{Answers}
use Rattle.dlk.specs.Outputs.{output_with, after, WrittenInPart}
use Rattle.dlk.specs.Runs.{AsksFor, Asks, StartsNoWrite, Keeps, GivesWhole, OnlyWriteFailed, BreaksOff, output_to}
use Rattle.dlk.proofs.Asked.{asked_before}
use Rattle.dlk.proofs.Given.{same_through, after_through, part_through, no_name, no_bytes}

failed_through : (tells : Type 0) (old mid new : Outside) → OnlyReads tells old mid → OnlyWriteFailed mid new → OnlyWriteFailed old new
failed_through tells old mid new reads failed = record {
  cause = subst (λ (n : ℕ). Rose n new.file_faults) reads.file_faults failed.cause;
  print_faults = failed.print_faults ∙ reads.print_faults;
}

module _ (words : List Word) (old mid new : Outside) (reply : Reply) (name : Option Word) (named : name ≡ output words)
    (answer : Answers words old.files reply) (same : SameFiles old.files mid.files) (silent : mid.printed ≡ old.printed) where
  to_words : output_with name reply.written ≡ output_to words reply
  to_words = ap (λ n. output_with n reply.written) named

  whole_files : SameFiles (after (output_with name reply.written) mid.files) new.files → SameFiles (after (output_to words reply) old.files) new.files
  whole_files files = subst (λ o. SameFiles (after o old.files) new.files) to_words
      (after_through (output_with name reply.written) old.files mid.files new.files same files)

  pub gives_whole : SameFiles (after (output_with name reply.written) mid.files) new.files → new.printed ≡ mid.printed ++ reply.printed → (status : ℕ) →
      status ≡ code_of reply.status →
      GivesWhole words status old new reply
  gives_whole files printed status is = record {
    answer = answer;
    status_is = is;
    files = whole_files files;
    printed = printed ∙ ap (λ l. l ++ reply.printed) silent;
  }

  pub breaks_off : (tells : Type 0) → OnlyReads tells old mid →
      WrittenInPart (output_with name reply.written) mid.files new.files → GrowsByFront reply.printed mid.printed new.printed →
      SameFiles (after (output_with name reply.written) mid.files) new.files ⊎ (new.printed ≡ mid.printed) →
      SameFiles (after (output_with name reply.written) mid.files) new.files ⊎ OnlyWriteFailed mid new → BreaksOff words old new reply
  breaks_off tells reads files front first kept = record {
    answer = answer;
    files = subst (λ o. WrittenInPart o old.files new.files) to_words (part_through (output_with name reply.written) old.files mid.files new.files same files);
    printed = (front.0, front.1 ∙ ap (λ l. l ++ take front.0 reply.printed) silent);
    file_first = elim first [ inl whole ↦ inl (whole_files whole) | inr none ↦ inr (none ∙ silent) ];
    file_kept = elim kept [ inl whole ↦ inl (whole_files whole) | inr failed ↦ inr (failed_through tells old mid new reads failed) ];
  }

no_write_through : (tells : Type 0) (old mid new : Outside) → OnlyReads tells old mid → StartsNoWrite tells mid new → StartsNoWrite tells old new
no_write_through tells old mid new reads none = record {
  writing = none.writing ∙ reads.writing;
  target = λ t. none.target t ∙ reads.target t;
  files = λ t. same_through old.files mid.files new.files (reads.files t) (none.files t);
  file_faults = none.file_faults ∙ reads.file_faults;
}

read_alone : (tells : Type 0) (old new : Outside) → OnlyReads tells old new → StartsNoWrite tells old new
read_alone tells old new reads = record {
  writing = reads.writing;
  target = reads.target;
  files = reads.files;
  file_faults = reads.file_faults;
}

-- an answer was given, or a front of it
pub keeps_given : (tells : Type 0) (words : List Word) (status : ℕ) (old mid new : Outside) (reply : Reply) (name : Option Word) → name ≡ output words →
    OnlyReads tells old mid →
    (IsNone (output_with name reply.written) → StartsNoWrite tells mid new) → (status ≡ 2 → IsNone reply.written) → status ≢ 4 → status ≢ 6 →
    Keeps tells words status old new
keeps_given tells words status old mid new reply name named reads none refusal four six = record {
  no_output = λ no. no_write_through tells old mid new reads (none (no_name name reply.written (subst IsNone (sym named) no)));
  refused = λ two. no_write_through tells old mid new reads (none (no_bytes name reply.written (refusal two)));
  silent = λ either. elim either [ inl e ↦ absurd (four e) | inr e ↦ absurd (six e) ];
}

pub asks_given : (tells : Type 0) (words : List Word) (status : ℕ) (old mid new : Outside) →
    ((count : ℕ) × AsksFor tells (inputs words) (limits words) count old mid) →
    mid.asked ≡ old.asked ++ inputs words → OnlyWrites tells mid new → Asks tells words status old new
asks_given tells words status old mid new so_far all writes = record {
  count = so_far.0;
  inputs_only = asked_before tells (inputs words) (limits words) so_far.0 old mid new so_far.1 writes.asked writes.left;
  all = λ form few. writes.asked ∙ all;
}
