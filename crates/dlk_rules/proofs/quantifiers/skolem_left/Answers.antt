use Rattle.dlk_calculus.specs.Places.{without_place}
use Rattle.dlk_calculus.specs.Sequents.{◌==>◌}
use Rattle.dlk_calculus.specs.Rules.{SkolemL}
use Rattle.dlk_calculus.proofs.RuleLaws.{first_not_fresh}
use Rattle.dlk_sequent.specs.Sequents.{sequent_at}
use Rattle.dlk_rules.proofs.OverIds.{stands_old, left_put, one_stands, made}
use Rattle.dlk_rules.proofs.Quantified.{unread, not_unread}
use Rattle.dlk_rules.proofs.quantifiers.skolem_left.Goals as goal

pub returns-then-is_read_beside_left-clause-fault : goal.returns-then-is_read_beside_left-clause-fault
returns-then-is_read_beside_left-clause-fault g c =
    let t = sequent_at (g.S.Store.trees c.args.store.now) c.args.s.now in
    let at = c.in_ok-v.ensures.ok in
    first_not_fresh (SkolemL c.args.i) t at.place_is (c.in_ok-v.v.name, at.f) at.at tt
    (not_unread at (without_place t.ante c.args.i ==> t.succ) c.if-is_read_beside_left.ensures)

pub returns-clause-made : goal.returns-clause-made
returns-clause-made g c =
    let trees = g.S.Store.trees c.args.store.now in
    let t = sequent_at trees c.args.s.now in
    let at = c.in_ok-v.ensures.ok in
    made (SkolemL c.args.i) trees trees c.args.s.now c.in_ok-one.field-0 at.place_is (c.in_ok-v.v.name, at.f) at.at tt
    (unread at (without_place t.ante c.args.i ==> t.succ) c.if-is_read_beside_left.ensures)
    (one_stands (left_put (stands_old trees c.args.s.now c.requires) at.f_stands c.args.i)
    (rw (c.set.ensures, c.in_ok-premise.ensures) at c.in_ok-one.ensures))
