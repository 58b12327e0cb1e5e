use Rattle.std.proofs.Common.{◌≡◌, [], drop}
use Rattle.std.specs.Prelude.{All}
use Rattle.dlk_store.specs.Stores.{IsId, kid_trees}
use Rattle.dlk_calculus.specs.Kids.{last}
use Rattle.dlk_calculus.specs.Subst.{new_members, items_of, kids_of}
use Rattle.dlk_sequent.specs.Substitutions.{pairs_at}
use Rattle.dlk_subst.specs.Counts.{replacement_subtrees}
use Rattle.dlk_subst.specs.Looked.{SeesMore}
use Rattle.dlk_subst.specs.Splices.{AreKidsOf, whole_items, whole_kids}
use Rattle.dlk_subst.proofs.splice.all_spliced.Given as goal

-- what was put, and what the items that are left give, make up the whole
abbrev pub invariant-loop-item : goal.invariant-loop-item
invariant-loop-item g l =
    let trees = g.S.Store.trees l.store in
    let pairs = pairs_at trees l.pairs in
    let members = new_members pairs l.items (kid_trees trees l.kids) in
    record {
      items_are : whole_items trees pairs l.new (drop l.item-index l.items) l.left ≡ items_of members;
      kids_are : whole_kids trees pairs l.new (drop l.item-index l.items) l.left ≡ kids_of members (last (kid_trees trees l.kids));
      left_are : AreKidsOf trees (drop l.item-index l.items) l.left;
      known : All (IsId trees) l.new.kids.items;
      left_known : All (IsId trees) l.left;
      sees : SeesMore trees (replacement_subtrees pairs) [] l.seen.items l.fn.steps l.steps;
    }
