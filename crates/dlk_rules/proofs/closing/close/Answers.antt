use Rattle.std.proofs.Common.{sym, ◌∙◌}
use Rattle.std.proofs.lemmas.Result.{err_from_is_err_and}
use Rattle.dlk_calculus.specs.Rules.{Close}
use Rattle.dlk_calculus.proofs.RuleLaws.{first_not_equal}
use Rattle.dlk_sequent.specs.Sequents.{sequent_at}
use Rattle.dlk_rules.proofs.OverIds.{none_stands, made, place_fault}
use Rattle.dlk_rules.proofs.closing.close.Goals as goal

pub returns-in_err-f-clause-fault : goal.returns-in_err-f-clause-fault
returns-in_err-f-clause-fault g c =
    let trees = g.S.Store.trees c.args.store.now in
    let r = err_from_is_err_and c.from_residual.result c.from_residual.ensures.1 in
    rw (r.1, r.2) (place_fault (Close c.args.i c.args.j) (sequent_at trees c.args.s.now) trees c.args.s.now.ante c.args.i c.in_err-f.field-0.0
    (λ p. p.0) c.in_err-f.ensures.fault)

pub returns-then-not-same-clause-fault : goal.returns-then-not-same-clause-fault
returns-then-not-same-clause-fault g c =
    let trees = g.S.Store.trees c.args.store.now in
    let f = c.in_ok-f.ensures.ok in
    let h = c.in_ok-g.ensures.ok in
    first_not_equal (Close c.args.i c.args.j) (sequent_at trees c.args.s.now) (f.place_is, h.place_is) (f.f, h.f) (f.at, h.at)
    (λ e. let is = c.same.ensures.1 (f.stands.tree_is ∙ e ∙ sym h.stands.tree_is) in let is_not = c.if-not-same.true in cc)

pub returns-clause-made : goal.returns-clause-made
returns-clause-made g c =
    let trees = g.S.Store.trees c.args.store.now in
    let f = c.in_ok-f.ensures.ok in
    let h = c.in_ok-g.ensures.ok in
    let is = sym f.stands.tree_is ∙ c.same.ensures.0 c.if-not-same.false ∙ h.stands.tree_is in
    made (Close c.args.i c.args.j) trees trees c.args.s.now c.new.result (f.place_is, h.place_is) (f.f, h.f) (f.at, h.at) is tt
    (none_stands trees c.new.result.items c.new.ensures.items)
