use Rattle.std.proofs.Common.{◌≡◌, ◌+◌, ap, map, length, subst, sym, ◌∙◌, arith}
use Rattle.std.proofs.lemmas.List.{length-map}
use Rattle.dlk_calculus.specs.Limited.{IsLimited}
use Rattle.dlk_calculus.specs.Places.{At}
use Rattle.dlk_calculus.proofs.PlaceLaws.{At_All}
use Rattle.dlk_kernel.specs.Kernel.{facts, provable_at}
use Rattle.dlk_rules.specs.Steps.{step_at}
use Rattle.dlk_sequent.specs.Sequents.{sequent_at}
use Rattle.dlk_link.specs.Linked.{Joins}
use Rattle.dlk_link.proofs.LinkedSteps.{last_item}
use Rattle.dlk_link.proofs.linking.merges_behind.Goals as goal

pub goals-requires : goal.goals-requires
goals-requires g c =
    let kernel = c.args.kernel.now in
    let some = c.requires.some in
    let count = c.rows-last.ensures.count in
    let size = length-map kernel.rows (provable_at (g.S.Store.trees kernel.store)) in
    (omega (arith, some, count, size), omega (arith, count))

pub merges_into-requires-clause-few : goal.merges_into-requires-clause-few
merges_into-requires-clause-few g c =
    let trees = g.S.Store.trees in
    let kernel = c.args.kernel.now in
    let last = last_item (facts trees kernel) c.requires.some in
    let size = length-map kernel.rows (provable_at (trees kernel.store)) in
    let at : At (facts trees kernel) c.rows-last.result last.0 = subst (λ k. At (facts trees kernel) k last.0) (size ∙ sym c.rows-last.ensures.count) last.1 in
    let few = (At_All IsLimited (facts trees kernel) c.rows-last.result last.0 c.rows-last.ensures.limited at).few_goals in
    let goals = ap (λ l. length l) (c.goals.ensures.goals last.0 at) in
    omega (arith, few, goals, length-map c.goals.result.now (sequent_at (trees kernel.store)))

pub returns-clause-joins : goal.returns-clause-joins
returns-clause-joins g c = λ p last.
    let trees = g.S.Store.trees in
    let kernel = c.args.kernel.now in
    let size = length-map kernel.rows (provable_at (trees kernel.store)) in
    let at : At (facts trees kernel) c.rows-last.result p = subst (λ k. At (facts trees kernel) k p) (size ∙ sym c.rows-last.ensures.count) last in
    let count : c.rows-last.result ≡ length (facts trees kernel) = c.rows-last.ensures.count ∙ sym size in
    let made = map (step_at (trees kernel.store)) c.in_ok-merges.merges.items in
    let m = c.args.lemma in
    let s = sequent_at (trees kernel.store) c.args.c.now in
    subst (λ l. Joins s (length (facts trees kernel) + m) (length (facts trees kernel)) (length (facts trees kernel) + m) l made)
    (sym (c.goals.ensures.goals p at))
    (subst (λ n. Joins s (n + m) n (n + m) (map (sequent_at (trees kernel.store)) c.goals.result.now) made) count c.in_ok-merges.ensures.joins)
