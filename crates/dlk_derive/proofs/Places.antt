-- What stands at a path in the formula at a place, and the kid of a `( )'`.
use Rattle.std.proofs.Common.{◌≡◌, ◌∙◌, sym, ap, subst, ℕ, List, [], ◌∷◌, length, get_or, Option, Some, None, ◌⊎◌, inl, inr, arith}
use Rattle.std.specs.Prelude.{All, MatchOption}
use Rattle.dlk_tree.specs.declared.op.Op.{Op}
use Rattle.dlk_tree.specs.declared.op.Op.TheVariants as Op'
use Rattle.dlk_tree.specs.Table.{kid_sorts}
use Rattle.dlk_tree.specs.Trees.{Tree, node, no_kids, kid, WellMade}
use Rattle.dlk_store.specs.declared.Id.{Id}
use Rattle.dlk_store.specs.Stores.{IsId, tree, kid_trees}
use Rattle.dlk_store.proofs.Kids.{node_arity}
use Rattle.dlk_calculus.specs.Paths.{subtree}
use Rattle.dlk_sequent.specs.declared.sequent.Place.{Place}
use Rattle.dlk_sequent.specs.declared.sequent.Sequent.{Sequent}
use Rattle.dlk_sequent.specs.Sequents.{sequent_at}
use Rattle.dlk_sequent.specs.Spines.{LeadsTo}
use Rattle.dlk_uses.specs.Uses.{formula_at}
use Rattle.dlk_uses.specs.Places.{IsFormulaAt}
use Rattle.dlk_derive.specs.Derivative.{IsDerivative}
use Rattle.dlk_derive.specs.Derives.{NoPlace, WrongShape, NoMatch, IsDifferential, Plans, NoPlan, no_place, wrong_shape, no_match}
use Rattle.dlk_derive.specs.Plans.{plan_at}
use Rattle.dlk_derive.proofs.Planned.{planned}
use Rattle.dlk_derive.specs.Ties.{IsTreeAt, IsDifferentialOf}

pub none_there : (there : Option Tree) (path : List ℕ) → there ≡ None → NoPlan there path NoPlace
none_there there path n = no_place (λ e t is at. cc)

pub at_formula : (trees : List Tree) (s : Sequent) (place : Place) (path : List ℕ) (formula : Id) (r : Option Id) → IsFormulaAt s place formula →
    MatchOption r (subtree (tree trees formula) path ≡ None) (LeadsTo trees formula path) →
    MatchOption r (NoPlan (formula_at (sequent_at trees s) place) path NoPlace) (IsTreeAt trees s place path)
at_formula trees s place path formula None f h =
    let stands = f.stands trees in
    no_place (λ e t is at.
    let same : tree trees formula ≡ e = cc in
    let there : subtree (tree trees formula) path ≡ Some t = ap (λ v. subtree v path) same ∙ at in cc)
at_formula trees s place path formula (Some k) f h = record { formula = tree trees formula; known = h.known; stands = f.stands trees; leads = h.stands }

only_kid : (trees : List Tree) (id : Id) (op : Op) (ks : List Id) (d : Id) → length ks ≡ 1 → tree trees id ≡ node op (kid_trees trees ks) →
    All (IsId trees) ks → ((k : Tree) → IsDifferential (node op (kid k no_kids)) k) → IsDifferentialOf trees id (get_or ks 0 d)
only_kid trees id op [] d n e known h = absurd (omega arith)
only_kid trees id op (k ∷ []) d n e known h =
    record { known = known 0 k (omega arith); stands = subst (λ t. IsDifferential t (tree trees k)) (sym e) (h (tree trees k)) }
only_kid trees id op (k ∷ j ∷ ks) d n e known h = absurd (omega arith)

kid_of_diff : (trees : List Tree) (id : Id) (op : Op) (ks : List Id) (d : Id) → All WellMade trees → IsId trees id →
    tree trees id ≡ node op (kid_trees trees ks) → All (IsId trees) ks → op ≡ Op'.Diff → IsDifferentialOf trees id (get_or ks 0 d)
kid_of_diff trees id op ks d made h e known is =
    only_kid trees id op ks d (node_arity trees id op ks made h e ∙ ap (λ o. length (kid_sorts o)) is) e known
    (λ k. inl (ap (λ o. node o (kid k no_kids)) is))

kid_of_diff_formula : (trees : List Tree) (id : Id) (op : Op) (ks : List Id) (d : Id) → All WellMade trees → IsId trees id →
    tree trees id ≡ node op (kid_trees trees ks) → All (IsId trees) ks → op ≡ Op'.DiffF → IsDifferentialOf trees id (get_or ks 0 d)
kid_of_diff_formula trees id op ks d made h e known is =
    only_kid trees id op ks d (node_arity trees id op ks made h e ∙ ap (λ o. length (kid_sorts o)) is) e known
    (λ k. inr (ap (λ o. node o (kid k no_kids)) is))

pub kid_of_differential : (trees : List Tree) (id : Id) (op : Op) (ks : List Id) (d : Id) → All WellMade trees → IsId trees id →
    tree trees id ≡ node op (kid_trees trees ks) → All (IsId trees) ks → (op ≡ Op'.Diff) ⊎ (op ≡ Op'.DiffF) → IsDifferentialOf trees id (get_or ks 0 d)
kid_of_differential trees id op ks d made h e known (inl is) = kid_of_diff trees id op ks d made h e known is
kid_of_differential trees id op ks d made h e known (inr is) = kid_of_diff_formula trees id op ks d made h e known is

-- ---- why there is no plan for the tree that stands there

pub no_shape : (trees : List Tree) (s : Sequent) (place : Place) (path : List ℕ) (found : Id) → IsTreeAt trees s place path found →
    ((k : Tree) → ¬ IsDifferential (tree trees found) k) → NoPlan (formula_at (sequent_at trees s) place) path WrongShape
no_shape trees s place path found at h = wrong_shape at.formula (tree trees found) at.stands at.leads h

pub no_derivative : (trees : List Tree) (s : Sequent) (place : Place) (path : List ℕ) (found k : Id) → IsTreeAt trees s place path found →
    IsDifferentialOf trees found k → ¬ ((d : Tree) × IsDerivative (tree trees found) d) → NoPlan (formula_at (sequent_at trees s) place) path NoMatch
no_derivative trees s place path found k at under h =
    no_match at.formula (tree trees found) (tree trees k) at.stands at.leads under.stands (λ d g. h (d, g))

pub a_plan : (trees : List Tree) (s : Sequent) (place : Place) (path : List ℕ) (found k : Id) → IsTreeAt trees s place path found →
    IsDifferentialOf trees found k → ((d : Tree) × IsDerivative (tree trees found) d) →
    Plans (formula_at (sequent_at trees s) place) path (plan_at (tree trees k) path)
a_plan trees s place path found k at under w =
    planned (formula_at (sequent_at trees s) place) path at.formula (tree trees found) (tree trees k) w.0 at.stands at.leads under.stands w.1
