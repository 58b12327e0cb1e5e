-- What `derive` does at a place of a goal: the uses of its plan in turn, or nothing, for a reason.
use Rattle.std.specs.Prelude.{◌≡◌, ◌⊎◌, ℕ, List, [], ◌∷◌, Option, Some, codes}
use Rattle.dlk_tree.specs.Trees.{Tree}
use Rattle.dlk_calculus.specs.Notation.{diff, diff_formula}
use Rattle.dlk_calculus.specs.Paths.{subtree}
use Rattle.dlk_sequent.specs.declared.sequent.Place.{Place}
use Rattle.dlk_tacsyn.specs.Tactics.{AtPlace, Word, Atom}
use Rattle.dlk_derive.specs.Derivative.{OfTerm, OfFormula, IsDerivative}
use Rattle.dlk_derive.specs.Plans.{Call, plan_at}

-- why there is no plan
pub data DeriveWhy : Type 0 where
  -- the place or the path isn't there
  NoPlace : DeriveWhy
  -- no `( )'` stands there
  WrongShape : DeriveWhy
  -- the tree under it has no derivative
  NoMatch : DeriveWhy

-- t is the `( )'` of k
abbrev pub IsDifferential : Tree → Tree → Type 0
IsDifferential t k = (t ≡ diff k) ⊎ (t ≡ diff_formula k)

-- Plans there path calls: in what stands at a place of a goal, if anything does, these uses differentiate the `( )'` at the path
pub data Plans (there : Option Tree) (path : List ℕ) : List Call → Type 0 where
  of_term : (e k d : Tree) → there ≡ Some e → subtree e path ≡ Some (diff k) → OfTerm k d → Plans there path (plan_at k path)
  of_formula : (e k d : Tree) → there ≡ Some e → subtree e path ≡ Some (diff_formula k) → OfFormula k d → Plans there path (plan_at k path)

-- NoPlan there path why: no uses differentiate what stands at the path, for the first of three reasons
pub data NoPlan (there : Option Tree) (path : List ℕ) : DeriveWhy → Type 0 where
  no_place : ((e t : Tree) → there ≡ Some e → ¬ (subtree e path ≡ Some t)) → NoPlan there path NoPlace
  wrong_shape : (e t : Tree) → there ≡ Some e → subtree e path ≡ Some t → ((k : Tree) → ¬ IsDifferential t k) → NoPlan there path WrongShape
  no_match : (e t k : Tree) → there ≡ Some e → subtree e path ≡ Some t → IsDifferential t k → ((d : Tree) → ¬ IsDerivative t d) → NoPlan there path NoMatch

-- the atom for a use at a place, which stands at this byte
abbrev pub use_of : ℕ → Place → Call → Atom
use_of byte place call = record { name = codes "useAt"; arguments = Word call.its_axiom ∷ AtPlace place call.path ∷ []; at = byte }
