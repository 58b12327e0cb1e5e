use Rattle.std.proofs.lemmas.Result.{err_from_is_err_and}
use Rattle.dlk_calculus.specs.Rules.{BoundR}
use Rattle.dlk_sequent.specs.Sequents.{sequent_at}
use Rattle.dlk_rules.proofs.OverIds.{fresh_fault, stands_kept, right_put, one_stands, made}
use Rattle.dlk_rules.proofs.quantifiers.bound_right.Goals as goal

pub returns-in_err-g-clause-fault : goal.returns-in_err-g-clause-fault
returns-in_err-g-clause-fault g c =
    let s = sequent_at (g.S.Store.trees c.args.store.now) c.args.s.now in
    let r = err_from_is_err_and c.from_residual.result c.from_residual.ensures.1 in
    rw (r.1, r.2) (fresh_fault (BoundR c.args.j c.args.y.now) s c.in_err-g.field-0.0 (λ p. tt) c.in_err-g.ensures.fault)

pub returns-clause-made : goal.returns-clause-made
returns-clause-made g c =
    let old = c.args.store.now in
    let new = c.rebound_at.new.store in
    let trees = g.S.Store.trees in
    let at = c.in_ok-g.ensures.ok in
    let keeps = g.met.S.Store.grows_keeps old new c.in_ok-g.ensures.grows in
    made (BoundR c.args.j c.args.y.now) (trees old) (trees new) c.args.s.now c.in_ok-one.field-0 at.place_is at.parts at.bound tt at.fresh
    (one_stands (right_put (stands_kept keeps c.args.s.now c.requires) at.g_stands c.args.j)
    (rw (c.set.ensures, c.in_ok-premise.ensures) at c.in_ok-one.ensures))
