use Rattle.std.proofs.Common.{ap, sym, subst, ◌∙◌, arith}
use Rattle.std.proofs.lemmas.List.{length-map}
use Rattle.dlk_calculus.proofs.PlaceLaws.{At_place}
use Rattle.dlk_kernel.specs.Kernel.{facts, provable_at}
use Rattle.dlk_sequent.specs.Sequents.{sequent_at, IsKnown}
use Rattle.dlk_jobs_terms.proofs.KeptSteps.{last_there}
use Rattle.dlk_jobs_terms.proofs.taken.lemma_rows.Goals as goal

pub conclusion-requires : goal.conclusion-requires
conclusion-requires g c =
    let trees = g.S.Store.trees in
    let kernel = c.replayed.new.kernel in
    let kept = c.in_ok-outcome.ensures.kept in
    let there = last_there (trees kernel.store) c.args.lemma.now (facts trees kernel) c.in_ok-outcome.outcome kept in
    let place = At_place (facts trees kernel) c.in_ok-outcome.outcome.fact kept.last there in
    let low = place.0 in
    let high = place.1 in
    (low, omega (arith, high, length-map kernel.rows (provable_at (trees kernel.store))))

pub returns-clause-lemma : goal.returns-clause-lemma
returns-clause-lemma g c =
    let trees = g.S.Store.trees in
    let kernel = c.replayed.new.kernel in
    let kept = c.in_ok-outcome.ensures.kept in
    let there = last_there (trees kernel.store) c.args.lemma.now (facts trees kernel) c.in_ok-outcome.outcome kept in
    let same = c.in-Ok.ensures in
    record {
      rows = facts trees kernel;
      last = kept.last;
      replays = kept.replays;
      concludes = c.conclusion.ensures.conclusion kept.last there ∙ ap (sequent_at (trees kernel.store)) (sym same);
      steps_known = c.in_ok-outcome.ensures.known;
      known = subst (IsKnown (trees kernel.store)) (sym same) c.conclusion.ensures.known;
    }
