-- The table of captures, by ids.
use Rattle.std.proofs.Common.{◌≡◌, refl, sym, ap, subst, ◌∙◌, suc, List, [], ◌∷◌, arith}
use Rattle.std.specs.Prelude.{All}
use Rattle.dlk_tree.specs.declared.op.Op.{Op}
use Rattle.dlk_tree.specs.declared.op.Op.TheVariants as Op'
use Rattle.dlk_tree.specs.Table.{Fits}
use Rattle.dlk_tree.specs.Trees.{Tree, node}
use Rattle.dlk_tree.specs.Statics.{bound}
use Rattle.dlk_store.specs.declared.Id.{Id}
use Rattle.dlk_store.specs.Stores.{IsId, tree, StandsFor, kid_trees, sorts_at, Keeps}
use Rattle.dlk_store.specs.Kids.{kid_trees-kept, sorts_at-kept}
use Rattle.dlk_calculus.specs.Kids.{first, later}
use Rattle.dlk_calculus.specs.Captures.{captures}
use Rattle.dlk_subst.specs.declared.scope.Scope.{Scope}
use Rattle.dlk_subst.specs.Scopes.{scope_set, IsKnownScope, first_scope, scope_of, later_ids, reach_of}
use Rattle.dlk_subst.specs.Growth.{known_kept}

first_set : (trees : List Tree) (new : List Id) → scope_set trees (first_scope new) ≡ bound (first (kid_trees trees new))
first_set trees [] = refl
first_set trees (id ∷ ids) = refl

-- the scope of a node is what its operator captures
scope_captures : (trees : List Tree) (op : Op) (new : List Id) (made : Id) → tree trees made ≡ node op (kid_trees trees new) →
    scope_set trees (scope_of op new made) ≡ (captures op).set (kid_trees trees new)
scope_captures trees Op'.Box new made is = first_set trees new
scope_captures trees Op'.Dia new made is = first_set trees new
scope_captures trees Op'.Seq new made is = first_set trees new
scope_captures trees Op'.Loop new made is = first_set trees new
scope_captures trees (Op'.System items) new made is = ap bound is
scope_captures trees _ new made is = refl

first_known : (trees : List Tree) (new : List Id) → All (IsId trees) new → IsKnownScope trees (first_scope new)
first_known trees [] all = tt
first_known trees (id ∷ ids) all = all 0 id (omega arith)

scope_known : (trees : List Tree) (op : Op) (new : List Id) (made : Id) → All (IsId trees) new → IsId trees made → Fits op (sorts_at trees new) →
    IsKnownScope trees (scope_of op new made)
scope_known trees (Op'.Forall x) new made all known fits = fits.parts_fit
scope_known trees (Op'.Exists x) new made all known fits = fits.parts_fit
scope_known trees Op'.Box new made all known fits = first_known trees new all
scope_known trees Op'.Dia new made all known fits = first_known trees new all
scope_known trees Op'.Seq new made all known fits = first_known trees new all
scope_known trees Op'.Loop new made all known fits = first_known trees new all
scope_known trees (Op'.System items) new made all known fits = known
scope_known trees _ new made all known fits = tt

later_known : (trees : List Tree) (ids : List Id) → All (IsId trees) ids → All (IsId trees) (later_ids ids)
later_known trees [] all = all
later_known trees (id ∷ ids) all = λ i d h. all (suc i) d (omega arith)

reach_known : (trees : List Tree) (op : Op) (ids : List Id) → All (IsId trees) ids → All (IsId trees) (reach_of op ids)
reach_known trees Op'.Box ids all = later_known trees ids all
reach_known trees Op'.Dia ids all = later_known trees ids all
reach_known trees Op'.Seq ids all = later_known trees ids all
reach_known trees _ ids all = all

later_trees : (trees : List Tree) (ids : List Id) → kid_trees trees (later_ids ids) ≡ later (kid_trees trees ids)
later_trees trees [] = refl
later_trees trees (id ∷ ids) = refl

-- the kids reached are those of the table
reach_trees : (trees : List Tree) (op : Op) (ids : List Id) → kid_trees trees (reach_of op ids) ≡ (captures op).reach (kid_trees trees ids)
reach_trees trees Op'.Box ids = later_trees trees ids
reach_trees trees Op'.Dia ids = later_trees trees ids
reach_trees trees Op'.Seq ids = later_trees trees ids
reach_trees trees _ ids = refl

-- of a node that was made: its scope, and the kids in which it captures
module _ {before now : List Tree} (kept : Keeps before now) (op copy : Op) (same : op ≡ copy) (new : List Id) (known : All (IsId before) new)
    (made : Id) (stands : StandsFor now made (node copy (kid_trees before new))) (scope : Scope) (is : scope ≡ scope_of op new made) where
  pub made_scope : scope_set now scope ≡ (captures op).set (kid_trees before new)
  made_scope =
      let kids = kid_trees-kept kept new known in
      let node_is : tree now made ≡ node op (kid_trees now new) = stands.tree_is ∙ (λ i. node (sym same i) (sym kids i)) in
      ap (scope_set now) is ∙ scope_captures now op new made node_is ∙ ap (captures op).set kids

  pub made_known : Fits op (sorts_at before new) → IsKnownScope now scope
  made_known fits =
      subst (IsKnownScope now) (sym is)
      (scope_known now op new made (known_kept kept new known) stands.known (subst (Fits op) (sym (sorts_at-kept kept new known)) fits))

module _ {before now : List Tree} (kept : Keeps before now) (op : Op) (old ids : List Id) (known : All (IsId before) old) (is : ids ≡ reach_of op old) where
  pub reached_trees : kid_trees now ids ≡ (captures op).reach (kid_trees before old)
  reached_trees = ap (kid_trees now) is ∙ reach_trees now op old ∙ ap (captures op).reach (kid_trees-kept kept old known)

  pub reached_known : All (IsId now) ids
  reached_known = subst (All (IsId now)) (sym is) (reach_known now op old (known_kept kept old known))
