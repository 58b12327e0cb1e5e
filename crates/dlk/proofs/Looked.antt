-- From the looks of an answer to those of a run.
use Rattle.std.proofs.Common.{◌≡◌, ◌≢◌, ℕ, ◌+◌, ◌≤◌, ◌++◌, inl, inr, List, [], ◌∷◌, length, Option, None, Some, IsNone, option_map, Vec, get_or}
use Rattle.std.proofs.Common.{codes, refl, sym, ap, subst, ◌∙◌, arith}
use Rattle.std.specs.declared.alloc.Global.{Global}
use Rattle.std.proofs.lemmas.List.{append_cancel_left}
use Rattle.dlk_tree.specs.Trees.{Tree}
use Rattle.dlk_calculus.specs.Pairs.{Pair}
use Rattle.dlk_desk.specs.Outside.{Outside, Files}
use Rattle.dlk_replies.specs.declared.command.Command.{Command}
use Rattle.dlk_replies.specs.declared.command.Command.TheVariants.{Subst}
use Rattle.dlk_replies.specs.declared.reply.Status.{Status}
use Rattle.dlk_replies.specs.declared.reply.Status.TheVariants.{Closed, Done, Open, Refused, Words}
use Rattle.dlk_replies.specs.declared.form.Role.TheVariants.{File, Substitution}
use Rattle.dlk_replies.specs.Forms.{Word, command_of, inputs_of, limit_of, limits_of, others_of}
use Rattle.dlk_replies.specs.Inputs.{inputs, inputs_of_form, first_too_long}
use Rattle.dlk_replies.specs.Replies.{Reply, code_of, printing, refusal}
use Rattle.dlk_answers.specs.Answers.{Does, Responds, refuses, does, too_long}
use Rattle.dlk_jobs_text.specs.Substitutes.{Substitutes, AreRead, not_admissible, too_big, too_deep}
use Rattle.dlk_jobs_text.specs.Looks.{RefusesResult, subst_looks}
use Rattle.dlk_answers.specs.Looks.{CommandLooksAtFew}
use Rattle.dlk_answers.proofs.OneReply.{none_or_some}
use Rattle.dlk.specs.Answers.{bytes_of, Answers, no_form, command}
use Rattle.dlk.specs.Cuts.{cut_bytes_of}
use Rattle.dlk.specs.Looks.{RunsSubst, MakesNone, nothing, big, deep, RefusesShort, LooksAtFewFor, PrintsNone, LooksAtFew}
use Rattle.dlk.proofs.Cut.{Alike, are_read}
use Rattle.dlk.proofs.Judged.{within}

-- without a look
pub none_looked : (words : List Word) (files : Files) (old new : ℕ) → new ≡ old → LooksAtFewFor words files old new
none_looked words files old new is = λ e pairs reply runs refused answer. omega (arith, is)

-- the first letter of why something is refused
abbrev letter : Reply → ℕ
letter reply = get_or reply.printed 9 0

-- an input that is too long is no result
not_too_long : (name : Word) → RefusesResult (too_long name) → ⊥
not_too_long name (inl e) = let same : 116 ≡ 110 = ap letter e in absurd (omega (arith, same))
not_too_long name (inr (inl e)) = let same : 116 ≡ 114 = ap letter e in absurd (omega (arith, same))
not_too_long name (inr (inr e)) = let same : 116 ≡ 114 = ap letter e in absurd (omega (arith, same))

is_substituted : (others : List Word) (file substitution : List ℕ) (reply : Reply) → Does Subst others (file ∷ substitution ∷ []) reply →
    Substitutes file substitution reply
is_substituted [] file substitution reply h = h
is_substituted (word ∷ words) file substitution reply h = absurd h

-- what a command looked at in inputs that are cut past their limits
module _ (words : List Word) (files : Files) (cuts whole : List (List ℕ)) (alike : Alike (inputs_of Subst words) (limits_of Subst) cuts whole) (old new : ℕ)
    (looks : CommandLooksAtFew Subst cuts old new) (e : Tree) (pairs : List Pair) (file substitution : List ℕ) (texts : whole ≡ file ∷ substitution ∷ [])
    (read : AreRead file substitution e pairs) where
  by_response : (reply : Reply) → Responds Subst words whole reply → RefusesResult reply → new ≤ old + subst_looks pairs e
  by_response reply (refuses name long) refused = absurd (not_too_long name refused)
  by_response reply (does short r job) refused =
      looks file substitution refl (alike.same (sym alike.first ∙ short) ∙ texts) e pairs reply read
      (is_substituted (others_of Subst words) file substitution reply
      (subst (λ (all : List (List ℕ)). Does Subst (others_of Subst words) all reply) texts job)) refused

same_texts : {a b : List (List ℕ)} → Some a ≡ Some b → a ≡ b
same_texts e = cc

same_command : {a b : Command} → Some a ≡ Some b → a ≡ b
same_command e = cc

-- the form and the texts of a run of `subst`
runs_form : (words : List Word) (files : Files) (e : Tree) (pairs : List Pair) → RunsSubst words files e pairs → command_of words ≡ Some Subst
runs_form words files e pairs h = ap command_of h.form

runs_texts : (words : List Word) (files : Files) (e : Tree) (pairs : List Pair) → (h : RunsSubst words files e pairs) →
    bytes_of files (inputs words) ≡ Some (h.file ∷ h.pairs_file ∷ [])
runs_texts words files e pairs h = ap (λ (w : List Word). bytes_of files (inputs w)) h.form ∙ h.texts

module _ (words : List Word) (files : Files) (cuts : List (List ℕ)) (old new : ℕ) (form : command_of words ≡ Some Subst)
    (count : length (inputs_of Subst words) ≡ length (limits_of Subst))
    (read : cut_bytes_of files (inputs_of Subst words) (limits_of Subst) ≡ Some cuts) (looks : CommandLooksAtFew Subst cuts old new) where
  named : inputs words ≡ inputs_of Subst words
  named = ap (λ o. inputs_of_form o words) form

  by_answer : (e : Tree) (pairs : List Pair) (file substitution : List ℕ) → bytes_of files (inputs_of Subst words) ≡ Some (file ∷ substitution ∷ []) →
      AreRead file substitution e pairs → (reply : Reply) → Answers words files reply → RefusesResult reply → new ≤ old + subst_looks pairs e
  by_answer e pairs file substitution there are_texts reply (no_form none) refused = absurd (none_or_some (sym none ∙ form))
  by_answer e pairs file substitution there are_texts reply (command c is texts found r responds) refused =
      let h = are_read files (inputs_of Subst words) (limits_of Subst) count cuts read in
      let c_is : c ≡ Subst = same_command (sym is ∙ form) in
      let found_here : bytes_of files (inputs_of Subst words) ≡ Some texts =
      subst (λ (d : Command). bytes_of files (inputs_of d words) ≡ Some texts) c_is found in
      let texts_are : texts ≡ h.0 = same_texts (sym found_here ∙ h.1) in
      let whole : h.0 ≡ file ∷ substitution ∷ [] = same_texts (sym h.1 ∙ there) in
      by_response words files cuts h.0 h.2 old new looks e pairs file substitution whole are_texts reply
      (subst (λ (ts : List (List ℕ)). Responds Subst words ts reply) texts_are (subst (λ (d : Command). Responds d words texts reply) c_is responds)) refused

  subst_looked : LooksAtFewFor words files old new
  subst_looked = λ e pairs reply h refused answer.
      by_answer e pairs h.file h.pairs_file
      (subst (λ (names : List Word). bytes_of files names ≡ Some (h.file ∷ h.pairs_file ∷ [])) named (runs_texts words files e pairs h))
      h.are_read reply answer refused

pub command_looked : (words : List Word) (c : Command) (files : Files) (cuts : List (List ℕ)) (old new : ℕ) → command_of words ≡ Some c →
    length (inputs_of c words) ≡ length (limits_of c) → cut_bytes_of files (inputs_of c words) (limits_of c) ≡ Some cuts → CommandLooksAtFew c cuts old new →
    LooksAtFewFor words files old new
command_looked words c files cuts old new is count read looks = λ e pairs reply h refused answer.
    let form = runs_form words files e pairs h in
    let c_is : c ≡ Subst = same_command (sym is ∙ form) in
    subst_looked words files cuts old new form (subst (λ (d : Command). length (inputs_of d words) ≡ length (limits_of d)) c_is count)
    (subst (λ (d : Command). cut_bytes_of files (inputs_of d words) (limits_of d) ≡ Some cuts) c_is read)
    (subst (λ (d : Command). CommandLooksAtFew d cuts old new) c_is looks) e pairs reply h refused answer

pub none_written : (written : Option (Vec ℕ Global)) → IsNone written → option_map (λ v. v.items) written ≡ None
none_written None e = refl
none_written (Some v) e = absurd cc

-- a reply with status 2 that prints what a refusal prints, and writes nothing, is the refusal
refused_status : (s : Status) → code_of s ≡ 2 → s ≡ Refused
refused_status Closed e = absurd (omega (arith, e))
refused_status Done e = absurd (omega (arith, e))
refused_status Open e = absurd (omega (arith, e))
refused_status Refused e = refl
refused_status Words e = absurd (omega (arith, e))

prints_alone : (reply : Reply) → code_of reply.status ≡ 2 → reply.written ≡ None → reply ≡ printing Refused reply.printed
prints_alone reply two none = let status = refused_status reply.status two in λ i. record { status = status i; printed = reply.printed; written = none i }

refuses_alone : (reply : Reply) → RefusesResult reply → reply ≡ printing Refused reply.printed
refuses_alone reply (inl e) = e ∙ ap (λ (r : Reply). printing Refused r.printed) (sym e)
refuses_alone reply (inr (inl e)) = e ∙ ap (λ (r : Reply). printing Refused r.printed) (sym e)
refuses_alone reply (inr (inr e)) = e ∙ ap (λ (r : Reply). printing Refused r.printed) (sym e)

-- the refusal of what the pairs make, which is the answer
both_short : (a b : Word) (file pairs_file : List ℕ) → length file ≤ limit_of File → length pairs_file ≤ limit_of Substitution →
    first_too_long (a ∷ b ∷ []) (limit_of File ∷ limit_of Substitution ∷ []) (file ∷ pairs_file ∷ []) ≡ None
both_short a b file pairs_file f p = rw (within (limit_of File) file f, within (limit_of Substitution) pairs_file p) refl

makes_none : (file pairs_file : List ℕ) (e : Tree) (pairs : List Pair) → AreRead file pairs_file e pairs → MakesNone pairs e →
    (reply : Reply) × RefusesResult reply × Substitutes file pairs_file reply
makes_none file pairs_file e pairs read (nothing formed none) = (refusal (codes "not-admissible"), inl refl, not_admissible e pairs read formed none)
makes_none file pairs_file e pairs read (big t r past) = (refusal (codes "result-too-big"), inr (inl refl), too_big e pairs read t r past)
makes_none file pairs_file e pairs read (deep t r small past) = (refusal (codes "result-too-deep"), inr (inr refl), too_deep e pairs read t r small past)

answer_is : (words : List Word) (files : Files) (e : Tree) (pairs : List Pair) (runs : RunsSubst words files e pairs) → RefusesShort words files e pairs runs →
    (reply : Reply) → Substitutes runs.file runs.pairs_file reply → Answers words files reply
answer_is words files e pairs runs short reply is =
    subst (λ (w : List Word). Answers w files reply) (sym runs.form)
    (command Subst refl (runs.file ∷ runs.pairs_file ∷ []) runs.texts reply
    (does (both_short runs.expression runs.substitution runs.file runs.pairs_file short.file short.pairs_file) reply is))

module _ (words : List Word) (old new : Outside) (before after : ℕ) (looks : LooksAtFewFor words old.files before after) where
  refused_looked : (e : Tree) (pairs : List Pair) (runs : RunsSubst words old.files e pairs) → RefusesShort words old.files e pairs runs →
      after ≤ before + subst_looks pairs e
  refused_looked e pairs runs short =
      let made = makes_none runs.file runs.pairs_file e pairs runs.are_read short.none in
      looks e pairs made.0 runs made.1 (answer_is words old.files e pairs runs short made.0 made.2)

  printed_looked : (said : Reply) → Answers words old.files said → (code_of said.status ≡ 2 → said.written ≡ None) → new.printed ≡ old.printed ++ said.printed →
      (e : Tree) (pairs : List Pair) → RunsSubst words old.files e pairs → PrintsNone (code_of said.status) old new → after ≤ before + subst_looks pairs e
  printed_looked said answer alone printed e pairs runs (two, reply, refused, says) =
      let same : said.printed ≡ reply.printed = append_cancel_left old.printed said.printed reply.printed (sym printed ∙ says) in
      let is : said ≡ reply = prints_alone said two (alone two) ∙ ap (printing Refused) same ∙ sym (refuses_alone reply refused) in
      looks e pairs reply runs refused (subst (λ (r : Reply). Answers words old.files r) is answer)

  -- the answer was given
  pub given_looked : (said : Reply) → Answers words old.files said → (code_of said.status ≡ 2 → said.written ≡ None) →
      new.printed ≡ old.printed ++ said.printed →
      LooksAtFew words (code_of said.status) old new before after
  given_looked said answer alone printed = λ e pairs runs either.
      elim either [
        | inl h ↦ printed_looked said answer alone printed e pairs runs h
        | inr short ↦ refused_looked e pairs runs short
      ]

  -- it was not
  pub ungiven_looked : (status : ℕ) → status ≢ 2 → LooksAtFew words status old new before after
  ungiven_looked status other = λ e pairs runs either.
      elim either [
        | inl h ↦ absurd (other h.0)
        | inr short ↦ refused_looked e pairs runs short
      ]
