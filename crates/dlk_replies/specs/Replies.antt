-- What the program answers: a status, what is printed, and the bytes of the output file, if one is written.
use Rattle.std.specs.Prelude.{ℕ, List, ◌++◌, Option, None, codes}
use Rattle.dlk_print.specs.Lines.{line}
use Rattle.dlk_replies.specs.declared.reply.Status.{Status}
use Rattle.dlk_replies.specs.declared.reply.Status.TheVariants.{Closed, Done, Open, Refused, Words}

-- The words have the name of the output file.
pub record Reply : Type 0 where
  pub status : Status
  pub printed : List ℕ
  pub written : Option (List ℕ)

-- the exit status of the program where it gives the whole of a reply with this status
abbrev pub code_of : Status → ℕ
code_of Closed = 0
code_of Done = 0
code_of Open = 1
code_of Refused = 2
code_of Words = 3

-- a reply that writes no file
abbrev pub printing : Status → List ℕ → Reply
printing status bytes = record { status = status; printed = bytes; written = None }

-- a refusal of one line
abbrev pub refusal : List ℕ → Reply
refusal why = printing Refused (line (codes "refused: " ++ why))

abbrev pub refused_words : Reply
refused_words = printing Words (line (codes "refused: words"))
