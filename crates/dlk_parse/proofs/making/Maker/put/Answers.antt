use Rattle.std.proofs.Common.{◌-◌, length, ◌≡◌}
use Rattle.dlk_tree.specs.Table.{kid_sorts}
use Rattle.dlk_parse.proofs.Nodes.{put_made}
use Rattle.dlk_parse.proofs.making.Maker.put.Goals as goal

pub returns-clause-put : goal.returns-clause-put
returns-clause-put g c =
    let ids = c.args.self.now.ids in
    let at : c.saturating_sub-at.result ≡ length ids.items - length (kid_sorts c.args.op) =
    cc (c.saturating_sub-at.ensures, c.len.ensures, c.arity_of.ensures, ids.ok.0) in
    put_made c.args.op ids.items c.truncate.new.self.items c.push.new.self.items c.in_ok-id.id c.saturating_sub-at.result at
    (g.met.S.Store.grows_keeps c.args.store.now c.make.new.self c.in_ok-id.ensures.grows) c.requires.known
    (rw c.deref.ensures.value at c.in_ok-id.ensures.made) c.truncate.ensures.items c.in_ok-push.ensures.items
