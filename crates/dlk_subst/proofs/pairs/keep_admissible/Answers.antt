use Rattle.std.proofs.Common.{sym, ap, subst}
use Rattle.dlk_tree.specs.Trees.{node}
use Rattle.dlk_store.specs.Stores.{StandsFor, kid_trees}
use Rattle.dlk_calculus.specs.Subst.{IsAdmissible}
use Rattle.dlk_sequent.specs.Substitutions.{pairs_at}
use Rattle.dlk_sequent.specs.Growth.{pairs_at-kept}
use Rattle.dlk_subst.specs.Scopes.{scope_set, scope_by, reach_by}
use Rattle.dlk_subst.specs.Growth.{pairs_kept}
use Rattle.dlk_subst.proofs.Captured.{made_scope, made_known, reached_trees, reached_known}
use Rattle.dlk_subst.proofs.Staying.{stays, stays_not}
use Rattle.dlk_subst.proofs.pairs.keep_admissible.Goals as goal

pub admits-requires-clause-pairs : goal.admits-requires-clause-pairs
admits-requires-clause-pairs g c =
    pairs_kept (g.met.S.Store.grows_keeps c.args.store.now c.make.new.self c.in_ok-made.ensures.grows) c.args.pairs.now c.requires.pairs

pub admits-requires-clause-scope : goal.admits-requires-clause-scope
admits-requires-clause-scope g c =
    let kept = g.met.S.Store.grows_keeps c.args.store.now c.make.new.self c.in_ok-made.ensures.grows in
    made_known kept c.args.op.now c.in_ok-clone.field-0 c.in_ok-clone.ensures.cases c.args.new.now c.requires.new c.in_ok-made.made
    c.in_ok-made.ensures.made (scope_by c.in_ok-captures.captures c.args.new.now c.in_ok-made.made) (ap (λ k. scope_by k c.args.new.now
    c.in_ok-made.made) c.in_ok-captures.ensures) c.requires.fits

pub admits-requires-clause-kids : goal.admits-requires-clause-kids
admits-requires-clause-kids g c =
    reached_known (g.met.S.Store.grows_keeps c.args.store.now c.make.new.self c.in_ok-made.ensures.grows) c.args.op.now c.args.old.now
    (reach_by c.in_ok-captures.captures c.args.old.now) c.requires.old (ap (λ k. reach_by k c.args.old.now) c.in_ok-captures.ensures)

pub returns-then-admits-clause-ok : goal.returns-then-admits-clause-ok
returns-then-admits-clause-ok g c =
    let before = g.S.Store.trees c.args.store.now in
    let now = g.S.Store.trees c.make.new.self in
    let op = c.args.op.now in
    let kept = g.met.S.Store.grows_keeps c.args.store.now c.make.new.self c.in_ok-made.ensures.grows in
    let set = made_scope kept op c.in_ok-clone.field-0 c.in_ok-clone.ensures.cases c.args.new.now c.requires.new c.in_ok-made.made c.in_ok-made.ensures.made
    (scope_by c.in_ok-captures.captures c.args.new.now c.in_ok-made.made) (ap (λ k. scope_by k c.args.new.now c.in_ok-made.made) c.in_ok-captures.ensures) in
    let kids = reached_trees kept op c.args.old.now (reach_by c.in_ok-captures.captures c.args.old.now) c.requires.old (ap (λ k. reach_by k
    c.args.old.now) c.in_ok-captures.ensures) in
    let stands =
    subst (λ o. StandsFor now c.in_ok-made.made (node o (kid_trees before c.args.new.now))) (sym c.in_ok-clone.ensures.cases) c.in_ok-made.ensures.made in
    let holds = subst (λ pairs. IsAdmissible pairs (scope_set now (scope_by c.in_ok-captures.captures c.args.new.now c.in_ok-made.made))
    (kid_trees now (reach_by c.in_ok-captures.captures c.args.old.now)))
    (pairs_at-kept kept c.args.pairs.now c.requires.pairs) (c.admits.ensures.0 c.if-admits.true) in
    stays (IsAdmissible (pairs_at before c.args.pairs.now)) op (kid_trees before c.args.old.now) (kid_trees before c.args.new.now) set kids now
    c.in_ok-made.made stands holds

pub returns-else-admits-clause-none : goal.returns-else-admits-clause-none
returns-else-admits-clause-none g c e =
    let before = g.S.Store.trees c.args.store.now in
    let now = g.S.Store.trees c.make.new.self in
    let op = c.args.op.now in
    let kept = g.met.S.Store.grows_keeps c.args.store.now c.make.new.self c.in_ok-made.ensures.grows in
    let set = made_scope kept op c.in_ok-clone.field-0 c.in_ok-clone.ensures.cases c.args.new.now c.requires.new c.in_ok-made.made c.in_ok-made.ensures.made
    (scope_by c.in_ok-captures.captures c.args.new.now c.in_ok-made.made) (ap (λ k. scope_by k c.args.new.now c.in_ok-made.made) c.in_ok-captures.ensures) in
    let kids = reached_trees kept op c.args.old.now (reach_by c.in_ok-captures.captures c.args.old.now) c.requires.old (ap (λ k. reach_by k
    c.args.old.now) c.in_ok-captures.ensures) in
    stays_not (IsAdmissible (pairs_at before c.args.pairs.now)) op (kid_trees before c.args.old.now) (kid_trees before c.args.new.now) set kids
    (λ holds.
    let yes = c.admits.ensures.1 (subst (λ pairs. IsAdmissible pairs (scope_set now (scope_by c.in_ok-captures.captures c.args.new.now
    c.in_ok-made.made)) (kid_trees now (reach_by c.in_ok-captures.captures c.args.old.now)))
    (sym (pairs_at-kept kept c.args.pairs.now c.requires.pairs)) holds) in
    cc)
