use Rattle.std.proofs.lemmas.Result.{err_from_is_err_and}
use Rattle.dlk_calculus.specs.Rules.{ExchangeR}
use Rattle.dlk_sequent.specs.Sequents.{sequent_at}
use Rattle.dlk_rules.proofs.OverIds.{one_stands, stands_old, made, place_fault, right_put}
use Rattle.dlk_rules.proofs.structural.exchange_right.Goals as goal

pub returns-in_err-f-clause-fault : goal.returns-in_err-f-clause-fault
returns-in_err-f-clause-fault g c =
    let trees = g.S.Store.trees c.args.store.now in
    let r = err_from_is_err_and c.from_residual.result c.from_residual.ensures.1 in
    rw (r.1, r.2) (place_fault (ExchangeR c.args.j c.args.k) (sequent_at trees c.args.s.now) trees c.args.s.now.succ c.args.j c.in_err-f.field-0.0
    (λ p. p.0) c.in_err-f.ensures.fault)

pub returns-clause-made : goal.returns-clause-made
returns-clause-made g c =
    let trees = g.S.Store.trees c.args.store.now in
    let f = c.in_ok-f.ensures.ok in
    let h = c.in_ok-g.ensures.ok in
    made (ExchangeR c.args.j c.args.k) trees trees c.args.s.now c.in_ok-one.field-0 (f.place_is, h.place_is) (f.f, h.f) (f.at, h.at) tt tt
    (one_stands (right_put (right_put (stands_old trees c.args.s.now c.requires) h.stands c.args.j) f.stands c.args.k)
    (rw (c.set-2.ensures, c.set.ensures, c.in_ok-premise.ensures) at c.in_ok-one.ensures))
