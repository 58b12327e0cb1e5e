use Rattle.std.proofs.lemmas.List.{take_rest}
use Rattle.std.proofs.lemmas.Result.{on_ok_weaker}
use Rattle.dlk_store.specs.declared.Id.{Id}
use Rattle.dlk_smt.proofs.Gained.{Gains-node}
use Rattle.dlk_smt.proofs.collected.Symbols.+add_trees.Goals as goal

pub returns : goal.returns
returns g t c =
    let trees = g.S.Store.trees c.args.store.now in
    let ks = c.args.ids.now in
    let d : Id = record { 0 = 0 } in
    on_ok_weaker c.add_trees-2.result (λ h. Gains-node c.args.self.now c.add_own.new.self c.add_trees.new.self c.add_trees-2.new.self trees ks d
    c.look-node.result.op.now c.look-node.result.kids.now
    c.in-len1-up.len_at_least c.look-node.ensures.node c.in_ok-add_own.ensures c.in_ok-add_trees.ensures (rw (take_rest ks 1) at h)) c.add_trees-2.ensures
