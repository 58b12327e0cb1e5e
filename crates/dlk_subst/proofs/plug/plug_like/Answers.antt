use Rattle.std.proofs.Common.{◌<◌, ◌≤◌, sym, subst, ◌∙◌, length, arith}
use Rattle.std.specs.Prelude.{IfOk}
use Rattle.std.proofs.lemmas.Bool.Decides.{nat_tests}
use Rattle.dlk_tree.specs.declared.op.Op.{Op}
use Rattle.dlk_tree.specs.Trees.{Tree, root}
use Rattle.dlk_store.specs.Stores.{tree, kid_trees}
use Rattle.dlk_calculus.specs.Plug.{PlugAt}
use Rattle.dlk_subst.specs.Results.{IsResult, HasNone, args_at}
use Rattle.dlk_subst.proofs.Arguments.{arg_holds, arg_none}
use Rattle.dlk_subst.proofs.Dots.{gives_dot, stays_captured, stays_plugged}
use Rattle.dlk_subst.proofs.plug.plug_like.Goals as goal

pub returns-in-Some-clause-ok : goal.returns-in-Some-clause-ok
returns-in-Some-clause-ok g c =
    let trees = g.S.Store.trees c.args.store.now in
    let ids = c.args.args.now in
    let is = gives_dot (root (tree trees c.args.like)) c.in-Gives.n (sym c.in-Gives.is ∙ c.requires.effect) in
    let within : c.from.result < length ids = grind (arith, nat_tests, c.in-Some.ensures.lookup.0) in
    let at =
    arg_holds trees ids c.in-Gives.n c.from.result c.in-Some.arg.now c.in-Some.arg.now c.from.ensures within c.in-Some.ensures.lookup.1 c.requires.args in
    subst (λ (op : Op). IsResult (PlugAt (args_at trees ids) op (kid_trees trees c.args.old.now) (kid_trees trees c.args.new.now)) trees
    c.in-Some.arg.now) (sym is) at

pub returns-in-None-clause-none : goal.returns-in-None-clause-none
returns-in-None-clause-none g c e =
    let trees = g.S.Store.trees c.args.store.now in
    let ids = c.args.args.now in
    let is = gives_dot (root (tree trees c.args.like)) c.in-Gives.n (sym c.in-Gives.is ∙ c.requires.effect) in
    let past : length ids ≤ c.from.result = grind (arith, nat_tests, c.in-None.ensures.lookup.0) in
    subst (λ (op : Op). HasNone (PlugAt (args_at trees ids) op (kid_trees trees c.args.old.now) (kid_trees trees c.args.new.now))) (sym is)
    (arg_none trees ids c.in-Gives.n (omega (arith, past, c.from.ensures)))

pub keep_clear_like-requires-clause-captures : goal.keep_clear_like-requires-clause-captures
keep_clear_like-requires-clause-captures g c =
    let trees = g.S.Store.trees c.args.store.now in
    stays_captured (root (tree trees c.args.like)) c.in-Stays.captures (sym c.in-Stays.is ∙ c.requires.effect)

pub returns-in-Stays-clause-ok : goal.returns-in-Stays-clause-ok
returns-in-Stays-clause-ok g c =
    let trees = g.S.Store.trees c.args.store.now in
    let is = stays_plugged (args_at trees c.args.args.now) (root (tree trees c.args.like)) (kid_trees trees c.args.old.now) (kid_trees trees c.args.new.now)
    c.in-Stays.captures (sym c.in-Stays.is ∙ c.requires.effect) in
    subst (λ (R : Tree → Type 0). IfOk c.keep_clear_like.result (IsResult R (g.S.Store.trees c.keep_clear_like.new.store))) (sym is)
    c.keep_clear_like.ensures.ok

pub returns-in-Stays-clause-none : goal.returns-in-Stays-clause-none
returns-in-Stays-clause-none g c e =
    let trees = g.S.Store.trees c.args.store.now in
    let is = stays_plugged (args_at trees c.args.args.now) (root (tree trees c.args.like)) (kid_trees trees c.args.old.now) (kid_trees trees c.args.new.now)
    c.in-Stays.captures (sym c.in-Stays.is ∙ c.requires.effect) in
    subst (λ (R : Tree → Type 0). HasNone R) (sym is) (c.keep_clear_like.ensures.none e)
