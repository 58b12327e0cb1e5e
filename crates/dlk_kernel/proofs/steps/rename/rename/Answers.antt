use Rattle.dlk_calculus.proofs.PlaceLaws.{At_All}
use Rattle.dlk_sequent.specs.Sequents.{IsKnown}
use Rattle.dlk_sequent.proofs.Kept.{IsKnown-kept}
use Rattle.std.proofs.lemmas.List.Elements.{All-weaker}
use Rattle.dlk_kernel.specs.Kernel.{IsKnownRow}
use Rattle.dlk_calculus.proofs.StepLaws.{first_no_fact_to_rename}
use Rattle.dlk_kernel.proofs.RowLaws.{no_such_fact}
use Rattle.dlk_kernel.proofs.Limited.{rename_within}
use Rattle.dlk_kernel.proofs.Renamed.{renamed_given, renamed_known}
use Rattle.dlk_kernel.proofs.steps.rename.rename.Goals as goal

pub returns-in_default-clause-fault : goal.returns-in_default-clause-fault
returns-in_default-clause-fault g c =
    first_no_fact_to_rename _ c.args.fact c.args.x.now c.args.y.now
    (no_such_fact (g.S.Store.trees c.args.store.now) c.args.rows.now c.args.fact c.in_default.ensures)

pub swap_sequent-requires : goal.swap_sequent-requires
swap_sequent-requires g c =
    rw c.value.ensures
    ((At_All (IsKnownRow (g.S.Store.trees c.args.store.now)) c.args.rows.now c.args.fact c.in-Some.row.now c.requires c.in-Some.ensures).conclusion)

pub swap_sequents-requires : goal.swap_sequents-requires
swap_sequents-requires g c =
    let row = At_All (IsKnownRow (g.S.Store.trees c.args.store.now)) c.args.rows.now c.args.fact c.in-Some.row.now c.requires c.in-Some.ensures in
    let keeps = g.met.S.Store.grows_keeps c.args.store.now c.swap_sequent.new.store c.swap_sequent.ensures.grows in
    rw c.as_slice.ensures (All-weaker (IsKnown _) (IsKnown _) (IsKnown-kept keeps) c.in-Some.row.now.goals row.goals)

pub returns-clause-given : goal.returns-clause-given
returns-clause-given g c =
    let row = At_All (IsKnownRow (g.S.Store.trees c.args.store.now)) c.args.rows.now c.args.fact c.in-Some.row.now c.requires c.in-Some.ensures in
    let first = g.met.S.Store.grows_keeps c.args.store.now c.swap_sequent.new.store c.swap_sequent.ensures.grows in
    let then = g.met.S.Store.grows_keeps c.swap_sequent.new.store c.swap_sequents.new.store c.swap_sequents.ensures.grows in
    rw c.in_ok-conclusion-2.ensures
    (renamed_given _ _ _ first then c.args.x.now c.args.y.now c.args.rows.now c.args.fact c.in-Some.row.now c.in-Some.ensures row _
    c.is_name.ensures.name c.is_name-2.ensures.name (rw c.value.ensures at c.in_ok-conclusion.ensures.made) c.in_ok-conclusion.ensures.known
    (rw c.as_slice.ensures at c.in_ok-goals.ensures.made) c.in_ok-leaves.ensures)

pub returns-clause-known : goal.returns-clause-known
returns-clause-known g c =
    let row = At_All (IsKnownRow (g.S.Store.trees c.args.store.now)) c.args.rows.now c.args.fact c.in-Some.row.now c.requires c.in-Some.ensures in
    let first = g.met.S.Store.grows_keeps c.args.store.now c.swap_sequent.new.store c.swap_sequent.ensures.grows in
    let then = g.met.S.Store.grows_keeps c.swap_sequent.new.store c.swap_sequents.new.store c.swap_sequents.ensures.grows in
    rw c.in_ok-conclusion-2.ensures
    (renamed_known _ _ _ first then c.args.x.now c.args.y.now c.args.rows.now c.args.fact c.in-Some.row.now c.in-Some.ensures row _
    c.in_ok-conclusion.ensures.known c.in_ok-goals.ensures.known c.in_ok-leaves.ensures)

pub returns-clause-within : goal.returns-clause-within
returns-clause-within g c = rename_within c.args.fact c.args.x.now c.args.y.now _

pub returns-in_err-goals-clause-grows : goal.returns-in_err-goals-clause-grows
returns-in_err-goals-clause-grows g c =
    g.met.S.Store.grows_trans c.args.store.now c.swap_sequent.new.store c.swap_sequents.new.store c.swap_sequent.ensures.grows c.swap_sequents.ensures.grows

pub returns-in_err-conclusion-2-clause-grows : goal.returns-in_err-conclusion-2-clause-grows
returns-in_err-conclusion-2-clause-grows g c =
    g.met.S.Store.grows_trans c.args.store.now c.swap_sequent.new.store c.swap_sequents.new.store c.swap_sequent.ensures.grows c.swap_sequents.ensures.grows

pub returns-in_err-leaves-clause-grows : goal.returns-in_err-leaves-clause-grows
returns-in_err-leaves-clause-grows g c =
    g.met.S.Store.grows_trans c.args.store.now c.swap_sequent.new.store c.swap_sequents.new.store c.swap_sequent.ensures.grows c.swap_sequents.ensures.grows

pub returns-clause-grows : goal.returns-clause-grows
returns-clause-grows g c =
    g.met.S.Store.grows_trans c.args.store.now c.swap_sequent.new.store c.swap_sequents.new.store c.swap_sequent.ensures.grows c.swap_sequents.ensures.grows
