use Rattle.std.proofs.Common.{sym, subst}
use Rattle.dlk_tree.specs.declared.op.OdeItem.{OdeItem}
use Rattle.dlk_sequent.specs.Substitutions.{pairs_at}
use Rattle.dlk_subst.specs.Splices.{PutsItem}
use Rattle.dlk_subst.proofs.Splicing.{constant_put}
use Rattle.dlk_subst.proofs.splice.Spliced.put.Goals as goal

pub returns-in_ok-put_constant-in-Const-clause-puts : goal.returns-in_ok-put_constant-in-Const-clause-puts
returns-in_ok-put_constant-in-Const-clause-puts g c =
    let trees = g.S.Store.trees c.args.store.now in
    let pairs = pairs_at trees c.args.pairs.now in
    let put = constant_put trees pairs c.in-Const.s c.args.kids.now c.args.self.now c.put_constant.new.self c.in_ok-put_constant-in-Const.ensures.puts in
    subst (λ (item : OdeItem). PutsItem trees pairs item c.args.kids.now c.args.self.now c.put_constant.new.self c.args.kids.now) (sym c.in-Const.is) put
