-- What is written, in the parts in which it is appended.
use Rattle.std.proofs.Common.{ℕ, List, ◌++◌, append_assoc}
use Rattle.std.specs.Prelude.{codes}
use Rattle.dlk_print.proofs.Left.{Left, unbegun}
use Rattle.dlk_lines.specs.Written.{call}

-- a word with arguments
pub unbegun_call : (old word arguments : List ℕ) → Left old (call word arguments) old (word ++ (codes "(" ++ (arguments ++ codes ")")))
unbegun_call old word arguments = unbegun old (simp append_assoc)

-- a number and a step
pub unbegun_line : (old number step : List ℕ) → Left old (number ++ codes " " ++ step) old (number ++ (codes " " ++ step))
unbegun_line old number step = unbegun old (simp append_assoc)

-- a word, a fact and something behind it
pub unbegun_fact : (old word fact rest : List ℕ) → Left old (word ++ fact ++ codes " " ++ rest) old ((word ++ fact) ++ (codes " " ++ rest))
unbegun_fact old word fact rest = unbegun old (simp append_assoc)

-- a word, a fact and two things behind it
pub unbegun_facts : (old word fact first second : List ℕ) →
    Left old (word ++ fact ++ codes " " ++ first ++ codes " " ++ second) old ((word ++ fact) ++ ((codes " " ++ first) ++ (codes " " ++ second)))
unbegun_facts old word fact first second = unbegun old (simp append_assoc)
