use Rattle.dlk_session.proofs.Stated.{not_refused, stated_row, stated_step, stated_known}
use Rattle.dlk_session.proofs.goals.stated.Goals as goal

pub unreachable-requires : goal.unreachable-requires
unreachable-requires g c =
    not_refused g.S.Store.trees c.args.kernel.now c.in_ok-alone_right.field-0 c.args.model c.in-Err-Refused.field-0-0 c.requires.none
    c.in_ok-alone_right.ensures
    c.requires.formula c.requires.small c.requires.shallow (rw c.in-Err-Refused.field-0-is at c.in-Err-Refused.ensures.fault)

pub returns-in-Ok-clause-step : goal.returns-in-Ok-clause-step
returns-in-Ok-clause-step g c =
    let trees = g.S.Store.trees in
    let old = c.args.kernel.now in
    let new = c.step.new.self in
    let keeps = g.met.S.Store.grows_keeps old.store new.store c.step.ensures.grows in
    stated_step (trees old.store) (trees new.store) c.in_ok-alone_right.field-0 c.args.model keeps c.requires.model c.in_ok-alone_right.ensures

pub returns-in-Ok-clause-known : goal.returns-in-Ok-clause-known
returns-in-Ok-clause-known g c =
    let trees = g.S.Store.trees in
    let old = c.args.kernel.now in
    let new = c.step.new.self in
    let keeps = g.met.S.Store.grows_keeps old.store new.store c.step.ensures.grows in
    stated_known (trees old.store) (trees new.store) c.in_ok-alone_right.field-0 c.args.model keeps c.requires.model c.in_ok-alone_right.ensures

pub returns-in-Ok-clause-row : goal.returns-in-Ok-clause-row
returns-in-Ok-clause-row g c =
    let trees = g.S.Store.trees in
    stated_row trees c.args.kernel.now _ c.in_ok-alone_right.field-0 c.args.model c.requires.none c.in_ok-alone_right.ensures c.in-Ok.ensures.ok
