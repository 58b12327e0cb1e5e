use Rattle.std.proofs.Common.{map, rules}
use Rattle.dlk_sequent.specs.Sequents.{sequent_at}
use Rattle.dlk_kernel.proofs.Measured.{past_nodes, past_levels, past_sides, within}
use Rattle.dlk_kernel.proofs.limits.limit_sequents.Goals as goal

pub returns-then-not-are_sequents_within-clause-past : goal.returns-then-not-are_sequents_within-clause-past
returns-then-not-are_sequents_within-clause-past g c = past_nodes (map (sequent_at (g.S.Store.trees c.args.store.now)) c.args.all.now) (search rules)

pub returns-then-not-are_sequents_within-2-clause-past : goal.returns-then-not-are_sequents_within-2-clause-past
returns-then-not-are_sequents_within-2-clause-past g c =
    past_levels (map (sequent_at (g.S.Store.trees c.args.store.now)) c.args.all.now) (search rules) (search rules)

pub returns-then-not-have_few-clause-past : goal.returns-then-not-have_few-clause-past
returns-then-not-have_few-clause-past g c =
    past_sides (map (sequent_at (g.S.Store.trees c.args.store.now)) c.args.all.now) (search rules) (search rules) (search rules)

pub returns-clause-within : goal.returns-clause-within
returns-clause-within g c = within (map (sequent_at (g.S.Store.trees c.args.store.now)) c.args.all.now) (search rules) (search rules) (search rules)
