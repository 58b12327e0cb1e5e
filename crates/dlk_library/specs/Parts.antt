-- Parts of the strategies that names of the library stand for. Each has the byte of the name.
use Rattle.std.specs.Prelude.{ℕ, List, [], ◌∷◌, Some, None, codes}
use Rattle.dlk_tree.specs.Trees.{Tree}
use Rattle.dlk_tree.specs.declared.op.Sym.{Sym}
use Rattle.dlk_tree.specs.declared.op.Kind.TheVariants.{UnitFunc, UnitPred}
use Rattle.dlk_calculus.specs.Notation.{y_}
use Rattle.dlk_calculus.specs.Pairs.{Extra}
use Rattle.dlk_sequent.specs.declared.sequent.Place.TheVariants.{Succ}
use Rattle.dlk_tacsyn.specs.Tactics.{Argument, AtPlace, Word, GivenExtra, Tactic, Choice, Sequence, Branch, One}
use Rattle.dlk_tacsyn.specs.Strategies.{parts}

abbrev pub atom : ℕ → List ℕ → List Argument → Tactic
atom byte name arguments = One (record { name = name; arguments = arguments; at = byte })

-- s; t; ..
abbrev pub in_turn : List Tactic → Tactic
in_turn ts = Sequence (parts ts)

-- s | t | ..
abbrev pub first_of : List Tactic → Tactic
first_of ts = Choice (parts ts)

-- <(s, t, ..)
abbrev pub branches : ℕ → List Tactic → Tactic
branches byte ts = Branch byte (parts ts)

-- nil
abbrev pub nothing : ℕ → Tactic
nothing byte = atom byte (codes "nil") []

-- RULE(P)
abbrev pub rule_at : ℕ → List ℕ → Argument → Tactic
rule_at byte name p = atom byte name (p ∷ [])

-- implyR(1)
abbrev pub imply_first : ℕ → Tactic
imply_first byte = rule_at byte (codes "implyR") (AtPlace (Succ 1) [])

-- useAt(NAME,P)
abbrev pub use_at : ℕ → List ℕ → Argument → Tactic
use_at byte name p = atom byte (codes "useAt") (Word name ∷ p ∷ [])

-- useAt(NAME,P,"..")
abbrev pub use_with : ℕ → List ℕ → Argument → Extra → Tactic
use_with byte name p extra = atom byte (codes "useAt") (Word name ∷ p ∷ GivenExtra extra ∷ [])

-- useAt(NAME,P); G(P); implyR(1)
abbrev pub generalized : ℕ → List ℕ → Argument → Tactic
generalized byte name p = in_turn (use_at byte name p ∷ rule_at byte (codes "G") p ∷ imply_first byte ∷ [])

-- r(||)~>e
abbrev pub for_r : Tree → Extra
for_r e = record { renames = []; pairs = record { sym = record { kind = UnitPred; name = codes "r"; arity = 0; taboo = None }; by = e } ∷ [] }

-- a(|y|) or b(|y|): of all variables but y
abbrev pub all_but : List ℕ → List ℕ → Sym
all_but name y = record { kind = UnitFunc; name = name; arity = 0; taboo = Some y }

-- y_~~y, a(|y|)~>e, b(|y|)~>d
abbrev pub for_ghost : List ℕ → Tree → Tree → Extra
for_ghost y e d = record {
  renames = (y_, y) ∷ [];
  pairs = record { sym = all_but (codes "a") y; by = e } ∷ record { sym = all_but (codes "b") y; by = d } ∷ [];
}
