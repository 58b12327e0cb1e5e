use Rattle.dlk_calculus.specs.Places.{without_place}
use Rattle.dlk_calculus.specs.Sequents.{◌==>◌}
use Rattle.dlk_calculus.specs.Rules.{SkolemR}
use Rattle.dlk_calculus.proofs.RuleLaws.{first_not_fresh}
use Rattle.dlk_sequent.specs.Sequents.{sequent_at}
use Rattle.dlk_rules.proofs.OverIds.{stands_old, right_put, one_stands, made}
use Rattle.dlk_rules.proofs.Quantified.{unread, not_unread}
use Rattle.dlk_rules.proofs.quantifiers.skolem_right.Goals as goal

pub returns-then-is_read_beside_right-clause-fault : goal.returns-then-is_read_beside_right-clause-fault
returns-then-is_read_beside_right-clause-fault g c =
    let t = sequent_at (g.S.Store.trees c.args.store.now) c.args.s.now in
    let at = c.in_ok-v.ensures.ok in
    first_not_fresh (SkolemR c.args.j) t at.place_is (c.in_ok-v.v.name, at.f) at.at tt
    (not_unread at (t.ante ==> without_place t.succ c.args.j) c.if-is_read_beside_right.ensures)

pub returns-clause-made : goal.returns-clause-made
returns-clause-made g c =
    let trees = g.S.Store.trees c.args.store.now in
    let t = sequent_at trees c.args.s.now in
    let at = c.in_ok-v.ensures.ok in
    made (SkolemR c.args.j) trees trees c.args.s.now c.in_ok-one.field-0 at.place_is (c.in_ok-v.v.name, at.f) at.at tt
    (unread at (t.ante ==> without_place t.succ c.args.j) c.if-is_read_beside_right.ensures)
    (one_stands (right_put (stands_old trees c.args.s.now c.requires) at.f_stands c.args.j)
    (rw (c.set.ensures, c.in_ok-premise.ensures) at c.in_ok-one.ensures))
