use Rattle.std.proofs.Common.{◌-◌, take, ap, ◌∙◌, arith}
use Rattle.std.proofs.lemmas.List.{append-nil}
use Rattle.dlk_session.proofs.Holding.{within_rows, left_some, run_undone, undone_held, undone_shared, none_undone}
use Rattle.dlk_session.proofs.session.Session.undo.Goals as goal

pub returns-in_default-clause-undoes : goal.returns-in_default-clause-undoes
returns-in_default-clause-undoes g c =
    let left = c.in_default.ensures.rest ∙ ap (λ n. take (n - 1) c.self.inside.earlier.items) c.in_default.ensures.cases.0 in
    rw (← c.self.view_is) (none_undone g.S.Store.trees _ c.pop.new.self.items (c.in_default.ensures.items ∙ append-nil c.pop.new.self.items ∙ left) left)

pub release-requires : goal.release-requires
release-requires g c = within_rows g.S.Store.trees _ c.self.invariant.0 c.pop.new.self.items c.in-Some.count c.in-Some.ensures.items

pub goals_left-requires : goal.goals_left-requires
goals_left-requires g c =
    left_some g.S.Store.trees _ c.self.invariant.0 c.pop.new.self.items c.in-Some.count c.in-Some.ensures.items c.release.new.self c.release.ensures.rows

pub invariant_of-self-2 : goal.invariant_of-self-2
invariant_of-self-2 g c = (
  undone_held g.S.Store.trees _ c.self.invariant.0 c.pop.new.self.items c.in-Some.count c.in-Some.ensures.items c.release.new.self c.truncate.new.self.items
      c.release.ensures.store c.release.ensures.rows c.truncate.ensures.items,
  undone_shared g.S.Store.trees c.self.inside.kernel.store c.release.new.self.store c.self.inside.shared c.min-self-inside.result c.in-Some.count
      c.self.inside.steps.items c.truncate.new.self.items _
      (omega (arith, c.min-self-inside.ensures)) (omega (arith, c.min-self-inside.ensures)) c.release.ensures.store c.truncate.ensures.items c.self.invariant.1,
)

pub returns-clause-undoes : goal.returns-clause-undoes
returns-clause-undoes g c =
    rw (c.goals_left.ensures.goals, ← c.self.view_is)
    (run_undone g.S.Store.trees _ c.self.invariant.0 c.pop.new.self.items c.in-Some.count c.in-Some.ensures.items
    c.release.new.self c.truncate.new.self.items c.release.ensures.store c.release.ensures.rows c.truncate.ensures.items)
