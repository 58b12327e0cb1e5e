-- A name stands for at most one strategy, and a strategy becomes at most one.
use Rattle.std.proofs.Common.{◌≡◌, ℕ, List, [], ◌∷◌, None, refl, sym, ap, ◌∙◌}
use Rattle.std.specs.Prelude.{bytes_eq, codes, if◌then◌else◌}
use Rattle.dlk_tree.specs.declared.op.Op.TheVariants.{True}
use Rattle.dlk_tree.specs.Trees.{Tree}
use Rattle.dlk_calculus.specs.Notation.{leaf}
use Rattle.dlk_tacsyn.specs.Tactics.{Argument, AnyLeft, Word, GivenFormula, GivenTerm, Atom}
use Rattle.dlk_tacsyn.specs.Tactics.{Tactic, Tactics, Choice, Sequence, Branch, Repeat, One, no_parts, part}
use Rattle.dlk_tacsyn.specs.Rows.{library_row_of}
use Rattle.dlk_library.specs.Library.{loop_of, weakening_of, cut_of, invariant_of, ghost_of, step_of, propositional_of}
use Rattle.dlk_library.specs.Library.{Expands, by_loop, by_weakening, by_cut, by_invariant, by_ghost, by_step, by_connectives}
use Rattle.dlk_library.specs.Expanded.{Expansion, stands_for, itself, Expanded, AllExpanded}
use Rattle.dlk_library.proofs.Names.{has_row, prop_row, weakening_row, invariant_row, step_row, loop_row, cut_row, ghost_row}

-- an argument, and those behind it
abbrev first : List Argument → Argument
first [] = AnyLeft
first (a ∷ rest) = a

abbrev behind : List Argument → List Argument
behind [] = []
behind (a ∷ rest) = rest

-- what an argument gives
abbrev formula_in : Argument → Tree
formula_in (GivenFormula h) = h
formula_in _ = leaf True

abbrev term_in : Argument → Tree
term_in (GivenTerm e) = e
term_in _ = leaf True

abbrev word_in : Argument → List ℕ
word_in (Word name) = name
word_in _ = []

-- what a name of the library stands for, by its arguments
abbrev meant : List ℕ → List Argument → ℕ → Tactic
meant name args at =
    if bytes_eq name (codes "loop") then loop_of at (formula_in (first args)) (first (behind args))
    else if bytes_eq name (codes "dW") then weakening_of at (first args)
    else if bytes_eq name (codes "dC") then cut_of at (formula_in (first args)) (first (behind args))
    else if bytes_eq name (codes "dI") then invariant_of at (first args)
    else if bytes_eq name (codes "dG")
    then ghost_of at (word_in (first args)) (term_in (first (behind args))) (term_in (first (behind (behind args)))) (first (behind (behind (behind args))))
    else if bytes_eq name (codes "step") then step_of at (first args)
    else propositional_of at

module _ (atom : Atom) where
  is_so : (name : List ℕ) (args : List Argument) → atom.name ≡ name → atom.arguments ≡ args →
      meant atom.name atom.arguments atom.at ≡ meant name args atom.at
  is_so name args n a = ap (λ x. meant x atom.arguments atom.at) n ∙ ap (λ xs. meant name xs atom.at) a

  is_meant : (t : Tactic) → Expands atom t → meant atom.name atom.arguments atom.at ≡ t
  is_meant _ (by_loop j p n a) = is_so _ _ n a
  is_meant _ (by_weakening p n a) = is_so _ _ n a
  is_meant _ (by_cut r p n a) = is_so _ _ n a
  is_meant _ (by_invariant p n a) = is_so _ _ n a
  is_meant _ (by_ghost y e d p n a) = is_so _ _ n a
  is_meant _ (by_step p n a) = is_so _ _ n a
  is_meant _ (by_connectives n a) = is_so _ _ n a

  pub one_meaning : (t u : Tactic) → Expands atom t → Expands atom u → t ≡ u
  one_meaning t u a b = sym (is_meant t a) ∙ is_meant u b

  not_itself : (t : Tactic) → Expands atom t → library_row_of atom.name ≡ None → ⊥
  not_itself _ (by_loop j p n a) none = has_row _ _ (ap library_row_of n ∙ loop_row) none
  not_itself _ (by_weakening p n a) none = has_row _ _ (ap library_row_of n ∙ weakening_row) none
  not_itself _ (by_cut r p n a) none = has_row _ _ (ap library_row_of n ∙ cut_row) none
  not_itself _ (by_invariant p n a) none = has_row _ _ (ap library_row_of n ∙ invariant_row) none
  not_itself _ (by_ghost y e d p n a) none = has_row _ _ (ap library_row_of n ∙ ghost_row) none
  not_itself _ (by_step p n a) none = has_row _ _ (ap library_row_of n ∙ step_row) none
  not_itself _ (by_connectives n a) none = has_row _ _ (ap library_row_of n ∙ prop_row) none

  one_atom : (t u : Tactic) → Expansion atom t → Expansion atom u → t ≡ u
  one_atom _ _ (stands_for a) (stands_for b) = one_meaning _ _ a b
  one_atom _ _ (stands_for a) (itself none) = absurd (not_itself _ a none)
  one_atom _ _ (itself none) (stands_for b) = absurd (not_itself _ b none)
  one_atom _ _ (itself none) (itself other) = refl

mutual
  pub one_become : (t a b : Tactic) → Expanded t a → Expanded t b → a ≡ b
  one_become (Choice parts) a b h k = h.2 ∙ ap Choice (ones_become parts h.0 k.0 h.1 k.1) ∙ sym k.2
  one_become (Sequence parts) a b h k = h.2 ∙ ap Sequence (ones_become parts h.0 k.0 h.1 k.1) ∙ sym k.2
  one_become (Branch byte parts) a b h k = h.2 ∙ ap (Branch byte) (ones_become parts h.0 k.0 h.1 k.1) ∙ sym k.2
  one_become (Repeat body times) a b h k = h.2 ∙ ap (λ c. Repeat c times) (one_become body h.0 k.0 h.1 k.1) ∙ sym k.2
  one_become (One atom) a b h k = one_atom atom a b h k

  ones_become : (t a b : Tactics) → AllExpanded t a → AllExpanded t b → a ≡ b
  ones_become no_parts no_parts no_parts h k = refl
  ones_become no_parts no_parts (part u us) h k = absurd k
  ones_become no_parts (part u us) b h k = absurd h
  ones_become (part t ts) no_parts b h k = absurd h
  ones_become (part t ts) (part a more) no_parts h k = absurd k
  ones_become (part t ts) (part a more) (part b others) h k =
      let one : a ≡ b = one_become t a b h.0 k.0 in
      let rest : more ≡ others = ones_become ts more others h.1 k.1 in
      λ i. part (one i) (rest i)
