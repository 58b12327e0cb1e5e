use Rattle.std.proofs.Common.{◌<◌, ◌≤◌, sym, subst, length, arith}
use Rattle.std.proofs.lemmas.Bool.Decides.{nat_tests}
use Rattle.dlk_tree.specs.declared.op.Op.{Op}
use Rattle.dlk_store.specs.Stores.{kid_trees}
use Rattle.dlk_calculus.specs.Plug.{PlugAt}
use Rattle.dlk_subst.specs.Results.{IsResult, HasNone, args_at}
use Rattle.dlk_subst.proofs.Arguments.{arg_holds, arg_none}
use Rattle.dlk_subst.proofs.plug.plug_at.Goals as goal

pub returns-in-Some-clause-ok : goal.returns-in-Some-clause-ok
returns-in-Some-clause-ok g c =
    let trees = g.S.Store.trees c.args.store.now in
    let ids = c.args.args.now in
    let within : c.from.result < length ids = grind (arith, nat_tests, c.in-Some.ensures.lookup.0) in
    let at =
    arg_holds trees ids c.in-Dot.n c.from.result c.in-Some.arg.now c.in-Some.arg.now c.from.ensures within c.in-Some.ensures.lookup.1 c.requires.args in
    subst (λ (op : Op). IsResult (PlugAt (args_at trees ids) op (kid_trees trees c.args.old.now) (kid_trees trees c.args.new.now)) trees
    c.in-Some.arg.now) (sym c.in-Dot.is) at

pub returns-in-None-clause-none : goal.returns-in-None-clause-none
returns-in-None-clause-none g c e =
    let trees = g.S.Store.trees c.args.store.now in
    let ids = c.args.args.now in
    let past : length ids ≤ c.from.result = grind (arith, nat_tests, c.in-None.ensures.lookup.0) in
    subst (λ (op : Op). HasNone (PlugAt (args_at trees ids) op (kid_trees trees c.args.old.now) (kid_trees trees c.args.new.now))) (sym c.in-Dot.is)
    (arg_none trees ids c.in-Dot.n (omega (arith, past, c.from.ensures)))
