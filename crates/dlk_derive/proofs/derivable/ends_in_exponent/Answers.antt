use Rattle.std.proofs.Common.{◌∙◌, sym, ap}
use Rattle.dlk_derive.specs.Decided.{is_exponent}
use Rattle.dlk_derive.proofs.derivable.ends_in_exponent.Goals as goal
use Rattle.dlk_sequent.proofs.Last.{last_kid}

pub returns-clause-value : goal.returns-clause-value
returns-clause-value g c =
    let trees = g.S.Store.trees c.args.store.now in
    c.is_exponent.ensures.value ∙ ap is_exponent (sym (last_kid trees c.args.ids.now c.in-Some.id.now (sym c.in-Some.ensures.value)))
