-- What a run of the program does to the outside.
use Rattle.std.specs.Prelude.{◌≡◌, ◌⊎◌, ◌+◌, ◌<◌, ◌≤◌, ℕ, List, ◌++◌, length, take, Option, IsSome, IsNone, IsSomeAnd}
use Rattle.dlk_calculus.specs.Places.{At}
use Rattle.dlk_desk.specs.Outside.{Outside, Rose, SameFiles}
use Rattle.dlk_desk.specs.Desk.{OnlyReads}
use Rattle.dlk_transfer.specs.Transfer.{GrowsByFront, LosesAtMost}
use Rattle.dlk_replies.specs.Forms.{Word, command_of}
use Rattle.dlk_replies.specs.Inputs.{inputs, limits, output}
use Rattle.dlk_replies.specs.Replies.{Reply, code_of}
use Rattle.dlk.specs.Answers.{bytes_of, Answers}
use Rattle.dlk.specs.Outputs.{Output, output_with, after, WrittenInPart}

-- On every desk: status 3 has wrong words as its cause, 4 a read fault and 5 a write fault, and no status is above 6.
pub record Caused (words : List Word) (status : ℕ) (old new : Outside) : Type 0 where
  pub known : status ≤ 6
  pub words_only : status ≡ 3 → IsNone (command_of words)
  pub no_form : IsNone (command_of words) → (status ≡ 3) ⊎ (status ≡ 5) ⊎ (status ≡ 6)
  pub read_fault : status ≡ 4 → Rose old.read_faults new.read_faults
  pub write_fault : status ≡ 5 → Rose old.write_faults new.write_faults

-- The first `count` of these inputs were asked for, in their order. Of the last of those at most one byte past its limit was taken. What
-- was taken of an earlier one can't be seen, since a desk tells only what is left of the file being read.
pub record AsksFor (tells : Type 0) (names : List Word) (limits : List ℕ) (count : ℕ) (old new : Outside) : Type 0 where
  pub within : count ≤ length names
  pub asked : new.asked ≡ old.asked ++ take count names
  pub none : tells → count ≡ 0 → new.left ≡ old.left
  pub last : tells → (name : Word) (limit : ℕ) → At names count name → At limits count limit →
      IsSomeAnd (old.files name) (λ bytes. LosesAtMost (limit + 1) bytes new.left)

-- On every desk: what is asked for are the inputs of the words in their order, and with status 0, 1 or 2 all of them.
pub record Asks (tells : Type 0) (words : List Word) (status : ℕ) (old new : Outside) : Type 0 where
  pub count : ℕ
  pub inputs_only : AsksFor tells (inputs words) (limits words) count old new
  pub all : IsSome (command_of words) → status < 3 → new.asked ≡ old.asked ++ inputs words

-- no write was started or failed, and no file has changed
pub record StartsNoWrite (tells : Type 0) (old new : Outside) : Type 0 where
  pub writing : new.writing ≡ old.writing
  pub target : tells → new.target ≡ old.target
  pub files : tells → SameFiles old.files new.files
  pub file_faults : new.file_faults ≡ old.file_faults

-- On every desk: without an output, and with status 2, no write is started. With a read fault or for want of memory nothing is
-- printed either, and no count of write faults has risen.
pub record Keeps (tells : Type 0) (words : List Word) (status : ℕ) (old new : Outside) : Type 0 where
  pub no_output : IsNone (output words) → StartsNoWrite tells old new
  pub refused : status ≡ 2 → StartsNoWrite tells old new
  pub silent : (status ≡ 4) ⊎ (status ≡ 6) → OnlyReads tells old new

-- each input is there
abbrev pub HasInputs : List Word → Outside → Type 0
HasInputs words old = IsSome (bytes_of old.files (inputs words))

-- the file that is written where the words are these and this is the reply
abbrev pub output_to : List Word → Reply → Option Output
output_to words reply = output_with (output words) reply.written

-- this is the answer, and it was given whole
pub record GivesWhole (words : List Word) (status : ℕ) (old new : Outside) (reply : Reply) : Type 0 where
  pub answer : Answers words old.files reply
  pub status_is : status ≡ code_of reply.status
  pub files : SameFiles (after (output_to words reply) old.files) new.files
  pub printed : new.printed ≡ old.printed ++ reply.printed

-- a write of a file failed, and no print did
pub record OnlyWriteFailed (old new : Outside) : Type 0 where
  pub cause : Rose old.file_faults new.file_faults
  pub print_faults : new.print_faults ≡ old.print_faults

-- This is the answer, and a front of it was given: its file first, and what is printed behind the whole file alone. Unless writing it
-- failed the file is whole, whatever came of printing.
pub record BreaksOff (words : List Word) (old new : Outside) (reply : Reply) : Type 0 where
  pub answer : Answers words old.files reply
  pub files : WrittenInPart (output_to words reply) old.files new.files
  pub printed : GrowsByFront reply.printed old.printed new.printed
  pub file_first : SameFiles (after (output_to words reply) old.files) new.files ⊎ (new.printed ≡ old.printed)
  pub file_kept : SameFiles (after (output_to words reply) old.files) new.files ⊎ OnlyWriteFailed old new

-- The answer is given; or a read failed; or giving the answer failed; or memory ran out.
abbrev pub Answered : List Word → ℕ → Outside → Outside → Type 0
Answered words status old new =
    ((reply : Reply) × GivesWhole words status old new reply) ⊎ (status ≡ 4) ⊎ ((status ≡ 5) × ((reply : Reply) × BreaksOff words old new reply)) ⊎ (status ≡ 6)

-- Where neither count rose, the answer is given, or memory ran out.
abbrev pub Completes : List Word → ℕ → Outside → Outside → Type 0
Completes words status old new =
    (¬ Rose old.read_faults new.read_faults) → (¬ Rose old.write_faults new.write_faults) →
    ((reply : Reply) × GivesWhole words status old new reply) ⊎ (status ≡ 6)
