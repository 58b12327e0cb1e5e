-- What `print` answers to a file.
use Rattle.std.specs.Prelude.{ℕ, List}
use Rattle.dlk_tree.specs.Trees.{Tree}
use Rattle.dlk_grammar.specs.declared.token.Dots.TheVariants.{Allowed}
use Rattle.dlk_grammar.specs.declared.token.Form.TheVariants.{Expression}
use Rattle.dlk_grammar.specs.Texts.{TreeText, TreeTextFault, TextFault}
use Rattle.dlk_grammar.specs.Shown.{spell, shown}
use Rattle.dlk_replies.specs.declared.form.Role.TheVariants.{File}
use Rattle.dlk_replies.specs.declared.reply.Status.TheVariants.{Done}
use Rattle.dlk_replies.specs.Replies.{Reply, printing}
use Rattle.dlk_print.specs.Lines.{line}
use Rattle.dlk_replies.specs.Refusals.{text_refused}

-- the file is a text of this formula, program or term, maybe with argument dots and `_`
abbrev pub FileText : List ℕ → Tree → Type 0
FileText file t = TreeText Expression Allowed file t

-- why the file is none
abbrev pub FileFault : List ℕ → TextFault → Type 0
FileFault file why = TreeTextFault Expression Allowed file why

-- the canonical text, on a line
abbrev pub printed : Tree → Reply
printed t = printing Done (line (spell (shown t)))

-- Prints file reply: this is what is answered to the file. One case an answer.
pub data Prints (file : List ℕ) : Reply → Type 0 where
  bad_text : (why : TextFault) → FileFault file why → Prints file (text_refused File why)
  prints : (t : Tree) → FileText file t → Prints file (printed t)
