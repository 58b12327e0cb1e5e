use Rattle.std.proofs.Common.{◌≡◌, ◌≤◌, length, false}
use Rattle.dlk_tree.specs.Trees.{size}
use Rattle.dlk_store.specs.Stores.{tree, kid_trees}
use Rattle.dlk_store.proofs.Made.{Made, Gives}
use Rattle.dlk_match.specs.Abstract.{is_variable, abstracted}
use Rattle.dlk_match.specs.Entered.{entered}
use Rattle.dlk_match.proofs.abstraction.+abstract_var.Given as goal

abbrev pub decreases-abstract_var : goal.decreases-abstract_var
decreases-abstract_var g l = size (tree (g.S.Store.trees l.store.now) l.id)

-- the kids so far have the dot for the variable, of as many as are entered in a node that isn't the variable
abbrev pub invariant-loop-i : goal.invariant-loop-i
invariant-loop-i g l =
    let before = g.S.Store.trees l.fn.store in
    let now = g.S.Store.trees l.store in
    record {
      grows : g.S.Store.grows l.fn.store l.store;
      made : Made (Gives (abstracted l.v)) before now l.fn.id l.op l.kids.items l.new.items l.i;
      other : is_variable l.v l.op ≡ false;
      count : l.count ≡ entered l.v l.op (kid_trees before l.kids.items);
      few : l.count ≤ length l.kids.items;
    }
