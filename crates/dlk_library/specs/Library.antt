-- The library: names that stand for strategies. Each is at a byte of the text, and acts at a place p of the goal.
use Rattle.std.specs.Prelude.{◌≡◌, ℕ, List, [], ◌∷◌, codes}
use Rattle.dlk_tree.specs.Trees.{Tree}
use Rattle.dlk_tacsyn.specs.Tactics.{Argument, AnyLeft, AnyRight, Word, GivenFormula, GivenTerm, Atom, Tactic, Repeat}
use Rattle.dlk_library.specs.Parts.{atom, in_turn, first_of, branches, nothing, rule_at, use_at, use_with, generalized, for_r, for_ghost}

-- cutR("J",P); <(nil, useAt(I,P); G(P); implyR(1))
abbrev pub base_and_step : ℕ → Tree → Argument → Tactic
base_and_step byte j p = in_turn (
    atom byte (codes "cutR") (GivenFormula j ∷ p ∷ []) ∷
    branches byte (nothing byte ∷ generalized byte (codes "I") p ∷ []) ∷
    []
    )

-- loop("J",P): boxCut("J",P); <(cutR("J",P); <(nil, useAt(I,P); G(P); implyR(1)), nil)
abbrev pub loop_of : ℕ → Tree → Argument → Tactic
loop_of byte j p = in_turn (
    atom byte (codes "boxCut") (GivenFormula j ∷ p ∷ []) ∷
    branches byte (base_and_step byte j p ∷ nothing byte ∷ []) ∷
    []
    )

-- dW(P): useAt(DWeq,P); G(P); implyR(1)
abbrev pub weakening_of : ℕ → Argument → Tactic
weakening_of byte p = generalized byte (codes "DWeq") p

-- dC("R",P): useAt(DC,P,"r(||)~>R")
abbrev pub cut_of : ℕ → Tree → Argument → Tactic
cut_of byte r p = use_with byte (codes "DC") p (for_r r)

-- dI(P): useAt(DI,P); <(useAt(testb,P); implyR(P), implyR(P))
abbrev pub invariant_of : ℕ → Argument → Tactic
invariant_of byte p = in_turn (
    use_at byte (codes "DI") p ∷
    branches byte (
    in_turn (use_at byte (codes "testb") p ∷ rule_at byte (codes "implyR") p ∷ []) ∷
    rule_at byte (codes "implyR") p ∷
    []
    ) ∷
    []
    )

-- dG(y,"a","b",P): useAt(DG,P,"y_~~y,a(|y|)~>a,b(|y|)~>b"), both pairs as terms
abbrev pub ghost_of : ℕ → List ℕ → Tree → Tree → Argument → Tactic
ghost_of byte y a b p = use_with byte (codes "DG") p (for_ghost y a b)

-- step(P): useAt(assignb,P) | useAt(dassignb,P) | useAt(assigneq,P) | useAt(testb,P) | useAt(choiceb,P) | useAt(composeb,P) | useAt(randomb,P)
-- | useAt(diamond,P)
abbrev pub step_of : ℕ → Argument → Tactic
step_of byte p = first_of (
    use_at byte (codes "assignb") p ∷
    use_at byte (codes "dassignb") p ∷
    use_at byte (codes "assigneq") p ∷
    use_at byte (codes "testb") p ∷
    use_at byte (codes "choiceb") p ∷
    use_at byte (codes "composeb") p ∷
    use_at byte (codes "randomb") p ∷
    use_at byte (codes "diamond") p ∷
    []
    )

-- close | closeTrue('R) | closeFalse('L) | .. | equivR('R)
abbrev pub connective : ℕ → Tactic
connective byte = first_of (
    atom byte (codes "close") [] ∷
    rule_at byte (codes "closeTrue") AnyRight ∷
    rule_at byte (codes "closeFalse") AnyLeft ∷
    rule_at byte (codes "notL") AnyLeft ∷
    rule_at byte (codes "notR") AnyRight ∷
    rule_at byte (codes "andL") AnyLeft ∷
    rule_at byte (codes "orR") AnyRight ∷
    rule_at byte (codes "implyR") AnyRight ∷
    rule_at byte (codes "equivL") AnyLeft ∷
    rule_at byte (codes "andR") AnyRight ∷
    rule_at byte (codes "orL") AnyLeft ∷
    rule_at byte (codes "implyL") AnyLeft ∷
    rule_at byte (codes "equivR") AnyRight ∷
    []
    )

-- prop: (close | closeTrue('R) | .. | equivR('R))*200
abbrev pub propositional_of : ℕ → Tactic
propositional_of byte = Repeat (connective byte) 200

-- Expands atom t: the atom stands for the strategy t. One row a name.
pub data Expands (atom : Atom) : Tactic → Type 0 where
  by_loop : (j : Tree) (p : Argument) → atom.name ≡ codes "loop" → atom.arguments ≡ GivenFormula j ∷ p ∷ [] → Expands atom (loop_of atom.at j p)
  by_weakening : (p : Argument) → atom.name ≡ codes "dW" → atom.arguments ≡ p ∷ [] → Expands atom (weakening_of atom.at p)
  by_cut : (r : Tree) (p : Argument) → atom.name ≡ codes "dC" → atom.arguments ≡ GivenFormula r ∷ p ∷ [] → Expands atom (cut_of atom.at r p)
  by_invariant : (p : Argument) → atom.name ≡ codes "dI" → atom.arguments ≡ p ∷ [] → Expands atom (invariant_of atom.at p)
  by_ghost : (y : List ℕ) (a b : Tree) (p : Argument) → atom.name ≡ codes "dG" → atom.arguments ≡ Word y ∷ GivenTerm a ∷ GivenTerm b ∷ p ∷ [] →
      Expands atom (ghost_of atom.at y a b p)
  by_step : (p : Argument) → atom.name ≡ codes "step" → atom.arguments ≡ p ∷ [] → Expands atom (step_of atom.at p)
  by_connectives : atom.name ≡ codes "prop" → atom.arguments ≡ [] → Expands atom (propositional_of atom.at)
