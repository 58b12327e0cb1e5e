use Rattle.std.proofs.Common.{◌≡◌, ◌++◌, sym, subst}
use Rattle.std.proofs.lemmas.Result.{on_ok_weaker}
use Rattle.dlk_nodes.specs.Put.{AreBegun}
use Rattle.dlk_nodes.specs.Tables.{nodes_at}
use Rattle.dlk_nodes.specs.Terms.{new_in_each}
use Rattle.dlk_nodes.proofs.Begun.{begun_more, in_both, both_added, both_begun}
use Rattle.dlk_nodes.proofs.adding.add_sequent.Goals as goal

pub returns-in_err-add_each-clause-begun : goal.returns-in_err-add_each-clause-begun
returns-in_err-add_each-clause-begun g c =
    let trees = g.S.Store.trees c.args.store.now in
    let nodes = nodes_at trees c.args.table.now in
    let new = nodes_at trees c.add_each.new.table in
    let ante = nodes_at trees c.args.s.now.ante in
    let succ = nodes_at trees c.args.s.now.succ in
    let begun = subst (λ l. AreBegun nodes new (new_in_each nodes (nodes_at trees l))) c.as_slice.ensures c.in_err-add_each.ensures.begun in
    subst (AreBegun nodes new) (sym (in_both nodes ante succ))
    (begun_more nodes new (new_in_each nodes ante) (new_in_each (nodes ++ new_in_each nodes ante) succ) begun)

pub returns-clause-added : goal.returns-clause-added
returns-clause-added g c =
    let trees = g.S.Store.trees c.args.store.now in
    let nodes = nodes_at trees c.args.table.now in
    let mid = nodes_at trees c.add_each.new.table in
    let new = nodes_at trees c.add_each-2.new.table in
    let ante = nodes_at trees c.args.s.now.ante in
    let succ = nodes_at trees c.args.s.now.succ in
    let first = subst (λ l. mid ≡ nodes ++ new_in_each nodes (nodes_at trees l)) c.as_slice.ensures c.in_ok-add_each.ensures.added in
    on_ok_weaker c.add_each-2.result (λ (h : new ≡ mid ++ new_in_each mid (nodes_at trees c.as_slice-2.result.now)).
    both_added nodes mid new ante succ first (subst (λ l. new ≡ mid ++ new_in_each mid (nodes_at trees l)) c.as_slice-2.ensures h))
    c.add_each-2.ensures.added

pub returns-clause-begun : goal.returns-clause-begun
returns-clause-begun g c =
    let trees = g.S.Store.trees c.args.store.now in
    let nodes = nodes_at trees c.args.table.now in
    let mid = nodes_at trees c.add_each.new.table in
    let new = nodes_at trees c.add_each-2.new.table in
    let ante = nodes_at trees c.args.s.now.ante in
    let succ = nodes_at trees c.args.s.now.succ in
    let first = subst (λ l. mid ≡ nodes ++ new_in_each nodes (nodes_at trees l)) c.as_slice.ensures c.in_ok-add_each.ensures.added in
    both_begun nodes mid new ante succ first (subst (λ l. AreBegun mid new (new_in_each mid (nodes_at trees l))) c.as_slice-2.ensures
    c.add_each-2.ensures.begun)
