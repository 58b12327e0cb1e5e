-- The new system, of its items and kids.
use Rattle.std.proofs.Common.{◌≡◌, sym, ap, subst, ◌∙◌, List, [], Result}
use Rattle.std.specs.Prelude.{All, IfOk, IsTrue}
use Rattle.std.proofs.lemmas.List.Elements.{All-map}
use Rattle.dlk_tree.specs.declared.op.OdeItem.{OdeItem}
use Rattle.dlk_tree.specs.declared.op.Op.{Op}
use Rattle.dlk_tree.specs.declared.op.Op.TheVariants as Op'
use Rattle.dlk_tree.specs.declared.op.Op.TheVariants.{True}
use Rattle.dlk_tree.specs.Table.{Fits, are_items}
use Rattle.dlk_tree.specs.Trees.{Tree, node, Forest, no_kids, sorts, WellMade}
use Rattle.dlk_store.specs.declared.Id.{Id}
use Rattle.dlk_store.specs.Stores.{kid_trees, sorts_at}
use Rattle.dlk_store.specs.Kids.{sorts-kid_trees}
use Rattle.dlk_calculus.specs.Kids.{last}
use Rattle.dlk_calculus.specs.Captures.{Stays}
use Rattle.dlk_calculus.specs.Pairs.{Pair as TreePair, AreWellMade}
use Rattle.dlk_calculus.specs.Subst.{IsAdmissible, SubstAt, new_members, items_of, kids_of}
use Rattle.dlk_calculus.proofs.Systems.{system_fits}
use Rattle.dlk_sequent.specs.declared.subst.Pair.{Pair}
use Rattle.dlk_sequent.specs.Substitutions.{pair_at, pairs_at, AreKnownPairs}
use Rattle.dlk_subst.specs.Results.{IsResult, HasNone}

-- replacements in a store are well made
pub pairs_made : (trees : List Tree) (pairs : List Pair) → All WellMade trees → AreKnownPairs trees pairs → AreWellMade (pairs_at trees pairs)
pairs_made trees pairs made known = All-map (λ (p : TreePair). WellMade p.by) (pair_at trees) pairs (λ i p h. made _ (node True no_kids) (known i p h))

-- the items of a system
abbrev items_in : Op → List OdeItem
items_in (Op'.System items) = items
items_in _ = []

-- a system with the items and kids that stand for the old ones
module _ (trees : List Tree) (pairs : List TreePair) (items put : List OdeItem) (op : Op) (old : Forest) (new slice ids : List Id)
    (s : op ≡ Op'.System put) (p : put ≡ items_of (new_members pairs items (kid_trees trees new)))
    (q : slice ≡ ids) (q' : kid_trees trees ids ≡ kids_of (new_members pairs items (kid_trees trees new)) (last (kid_trees trees new))) where
  op_is : op ≡ Op'.System (items_of (new_members pairs items (kid_trees trees new)))
  op_is = s ∙ ap Op'.System p

  kids_are : kid_trees trees slice ≡ kids_of (new_members pairs items (kid_trees trees new)) (last (kid_trees trees new))
  kids_are = ap (kid_trees trees) q ∙ q'

  -- items that a system may have fit the kids
  pub spliced_fits : AreWellMade pairs → Fits (Op'.System items) (sorts_at trees new) → (others : List OdeItem) → op ≡ Op'.System others →
      IsTrue (are_items others) → Fits op (sorts_at trees slice)
  spliced_fits made fits others e good =
      let before = subst (Fits (Op'.System items)) (sym (sorts-kid_trees trees new)) fits in
      let same : others ≡ items_of (new_members pairs items (kid_trees trees new)) = ap items_in (sym e ∙ op_is) in
      let after = (system_fits pairs made items (kid_trees trees new) before).1 (subst (λ l. IsTrue (are_items l)) same good) in
      subst (Fits op) (sorts-kid_trees trees slice) (subst (λ X. X) (λ i. Fits (sym op_is i) (sorts (sym kids_are i))) after)

  pub spliced_ok : {E : Type 0} (now : List Tree) (result : Result Id E)
      → IfOk result (IsResult (Stays (IsAdmissible pairs) op old (kid_trees trees slice)) now)
      → IfOk result (IsResult (SubstAt pairs (Op'.System items) old (kid_trees trees new)) now)
  spliced_ok now result ok =
      subst (λ X. X) (λ i. IfOk result (IsResult (Stays (IsAdmissible pairs) (op_is i) old (kids_are i)) now)) ok

  pub spliced_none : HasNone (λ t. Stays (IsAdmissible pairs) op old (kid_trees trees slice) t × WellMade t)
      → HasNone (λ t. SubstAt pairs (Op'.System items) old (kid_trees trees new) t × WellMade t)
  spliced_none none = λ t made. none t (subst (λ X. X) (λ i. Stays (IsAdmissible pairs) (sym op_is i) old (sym kids_are i) t) made.0, made.1)
