-- The report of a proof, and its text.
use Rattle.std.specs.Prelude.{ℕ, ◌+◌, Bool, true, false, List, [], ◌∷◌, ◌++◌, length, map, codes, decimal, All, IsAscii}
use Rattle.dlk_calculus.specs.Sequents.{Sequent}
use Rattle.dlk_calculus.specs.Provables.{Provable}
use Rattle.dlk_grammar.specs.Shown.{spell, shown_sequent}
use Rattle.dlk_print.specs.Lines.{line}

-- what a report says
pub record Parts : Type 0 where
  pub closed : Bool
  pub conclusion : List ℕ
  pub goals : List (List ℕ)
  pub leaves : List (List ℕ)
  pub lines : ℕ

abbrev pub is_closed : List Sequent → Bool
is_closed [] = true
is_closed (goal ∷ goals) = false

-- the canonical text of a sequent
abbrev pub text_of : Sequent → List ℕ
text_of s = spell (shown_sequent s)

-- the report of a provable that so many lines have shown
abbrev pub parts_of : Provable → ℕ → Parts
parts_of p lines = record {
  closed = is_closed p.goals;
  conclusion = text_of p.conclusion;
  goals = map text_of p.goals;
  leaves = map text_of p.leaves;
  lines = lines;
}

-- each of its texts is ASCII
pub record HasAsciiTexts (r : Parts) : Type 0 where
  pub conclusion : IsAscii r.conclusion
  pub goals : All IsAscii r.goals
  pub leaves : All IsAscii r.leaves

-- each text with this name and its number, from i on
abbrev pub numbered : List ℕ → ℕ → List (List ℕ) → List ℕ
numbered name i [] = []
numbered name i (text ∷ texts) = line (name ++ codes " " ++ decimal i ++ codes " " ++ text) ++ numbered name (i + 1) texts

abbrev pub first_word : Bool → List ℕ
first_word true = codes "closed"
first_word false = codes "open"

-- the text of a report
abbrev pub report_of : Parts → List ℕ
report_of r =
    line (first_word r.closed)
    ++ (line (codes "conclusion " ++ r.conclusion)
    ++ (line (codes "goals " ++ decimal (length r.goals))
    ++ (numbered (codes "goal") 1 r.goals
    ++ (line (codes "leaves " ++ decimal (length r.leaves))
    ++ (numbered (codes "leaf") 1 r.leaves
    ++ line (codes "lines " ++ decimal r.lines))))))

-- what is printed of a provable that so many lines have shown
abbrev pub text_report : Provable → ℕ → List ℕ
text_report p lines = report_of (parts_of p lines)
