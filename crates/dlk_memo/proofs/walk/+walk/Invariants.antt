use Rattle.std.proofs.Common.{◌+◌}
use Rattle.dlk_tree.specs.Trees.{root, size}
use Rattle.dlk_store.specs.Stores.{tree}
use Rattle.dlk_store.proofs.Made.{Made}
use Rattle.dlk_memo.specs.Tables.{IsRight, OpensNone, Spends}
use Rattle.dlk_memo.proofs.walk.+walk.Given as goal

abbrev pub decreases-walk : goal.decreases-walk
decreases-walk g l = size (tree (g.S.Store.trees l.store.now) l.id)

-- the kids so far are made, and the table has what was made
abbrev pub invariant-loop-kid : goal.invariant-loop-kid
invariant-loop-kid g l =
    let before = g.S.Store.trees l.fn.store in
    let now = g.S.Store.trees l.store in
    let job = g.R.Rule.job l.fn.rule before in
    record {
      grows : g.S.Store.grows l.fn.store l.store;
      made : Made (g.R.Rule.Makes job) before now l.fn.id (root (tree before l.fn.id)) l.kids l.new l.kid-index;
      right : IsRight (g.R.Rule.Makes job) now l.done;
      opens : OpensNone l.initial.done l.done;
      spends : Spends g.S.Store.unique (1 + g.R.Rule.looks job) (tree before l.fn.id) now l.initial.done l.done l.initial.steps l.steps;
    }
