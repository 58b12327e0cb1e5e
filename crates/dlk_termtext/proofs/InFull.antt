-- What texts in full say.
use Rattle.std.proofs.Common.{ℕ, List, ◌⊎◌, inl, inr}
use Rattle.dlk_tree.specs.Trees.{Tree}
use Rattle.dlk_calculus.specs.Pairs.{Pair}
use Rattle.dlk_calculus.specs.Sequents.{Sequent}
use Rattle.dlk_grammar.specs.declared.token.Form.TheVariants.{Formula}
use Rattle.dlk_grammar.specs.declared.token.Dots.TheVariants.{Refused}
use Rattle.dlk_grammar.specs.Texts.{TreeText, SequentText, PairsText}
use Rattle.dlk_machine.proofs.SomeText.{some_tree, some_sequent, some_pairs}
use Rattle.dlk_machine.proofs.TextLaws.{one_tree_text, one_sequent_text, one_pairs_text, tree_or_fault, sequent_or_fault, pairs_or_fault}
use Rattle.dlk_lines.specs.Spelled.{InFull}
use Rattle.dlk_lines.specs.Laws.{SaysOne, SaysOrNot}

pub full_says_one : SaysOne InFull
full_says_one = record { one_sequent = one_sequent_text; one_formula = one_tree_text Formula Refused; one_list = one_pairs_text }

sequent_or_none : (text : List ℕ) → ((s : Sequent) × SequentText text s) ⊎ ((s : Sequent) → ¬ SequentText text s)
sequent_or_none text = elim (some_sequent text) [
  | inl read ↦ inl read
  | inr fault ↦ inr (λ s is. sequent_or_fault text s fault.0 is fault.1)
]

formula_or_none : (text : List ℕ) → ((h : Tree) × TreeText Formula Refused text h) ⊎ ((h : Tree) → ¬ TreeText Formula Refused text h)
formula_or_none text = elim (some_tree Formula Refused text) [
  | inl read ↦ inl read
  | inr fault ↦ inr (λ h is. tree_or_fault Formula Refused text h fault.0 is fault.1)
]

pairs_or_none : (text : List ℕ) → ((pairs : List Pair) × PairsText text pairs) ⊎ ((pairs : List Pair) → ¬ PairsText text pairs)
pairs_or_none text = elim (some_pairs text) [
  | inl read ↦ inl read
  | inr fault ↦ inr (λ pairs is. pairs_or_fault text pairs fault.0 is fault.1)
]

pub full_or_not : SaysOrNot InFull
full_or_not = record { some_sequent = sequent_or_none; some_formula = formula_or_none; some_list = pairs_or_none }
