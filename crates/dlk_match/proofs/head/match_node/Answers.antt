use Rattle.std.proofs.Common.{sym, subst, ◌∙◌, ap}
use Rattle.std.specs.Prelude.{IfOk}
use Rattle.dlk_tree.specs.declared.op.Op.{Op}
use Rattle.dlk_tree.specs.declared.op.Op.TheVariants as Op'
use Rattle.dlk_store.specs.Stores.{tree, kid_trees}
use Rattle.dlk_sequent.specs.Substitutions.{AreKnownPairs}
use Rattle.dlk_sequent.specs.Extras.{extra_at}
use Rattle.dlk_match.specs.Tried.{HeadIs}
use Rattle.dlk_match.proofs.Heads.{applied_head, no_predicational}
use Rattle.dlk_match.proofs.head.match_node.Goals as goal

pub returns-in_ok-apply-in-Apply-clause-matched : goal.returns-in_ok-apply-in-Apply-clause-matched
returns-in_ok-apply-in-Apply-clause-matched g c =
    let before = g.S.Store.trees c.args.store.now in
    let now = g.S.Store.trees c.apply.new.store in
    let is = c.in_ok-apply-in-Apply.field-0 in
    rw c.taken.ensures (applied_head (kid_trees before c.args.keys.now) (tree before c.args.target) now (extra_at before c.args.extra.now)
    (extra_at now c.apply.new.extra) c.in-Apply.s is c.args.op.now c.in-Apply.is c.in_ok-apply-in-Apply.ensures.matched)

pub returns-in-Predicational-clause-matched : goal.returns-in-Predicational-clause-matched
returns-in-Predicational-clause-matched g c =
    let trees = g.S.Store.trees c.args.store.now in
    no_predicational (kid_trees trees c.args.keys.now) (tree trees c.args.target)
    (extra_at trees c.args.extra.now) c.args.op.now c.in-Predicational.field-0 c.in-Predicational.is

pub returns-in-System-clause-matched : goal.returns-in-System-clause-matched
returns-in-System-clause-matched g c =
    let before = g.S.Store.trees c.args.store.now in
    let now = g.S.Store.trees c.match_system.new.store in
    let keys = kid_trees before c.args.keys.now in
    let op_is = ap Op'.System c.items.ensures ∙ sym c.in-System.is in
    subst (λ (op : Op). IfOk c.match_system.result (HeadIs op keys (tree before c.args.target) now (extra_at before c.args.extra.now)
    (extra_at now c.match_system.new.extra))) op_is
    (c.match_system.ensures.matched keys)

pub returns-in_ok-match_other-in_default-clause-matched : goal.returns-in_ok-match_other-in_default-clause-matched
returns-in_ok-match_other-in_default-clause-matched g c =
    c.in_ok-match_other-in_default.ensures.matched (kid_trees (g.S.Store.trees c.args.store.now) c.args.keys.now)

pub returns-in_ok-match_other-in_default-clause-known : goal.returns-in_ok-match_other-in_default-clause-known
returns-in_ok-match_other-in_default-clause-known g c =
    subst (AreKnownPairs (g.S.Store.trees c.args.store.now)) (sym c.in_ok-match_other-in_default.ensures.pairs) c.requires.extra

pub returns-in_ok-match_other-in_default-clause-grows : goal.returns-in_ok-match_other-in_default-clause-grows
returns-in_ok-match_other-in_default-clause-grows g c = g.met.S.Store.grows_refl c.args.store.now
