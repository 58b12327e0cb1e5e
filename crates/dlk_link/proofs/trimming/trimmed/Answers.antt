use Rattle.std.proofs.Common.{◌≡◌, ◌≤◌, ◌-◌, ap, take, drop, length, map, subst, sym, ◌∙◌, arith}
use Rattle.std.specs.List.{All}
use Rattle.std.proofs.lemmas.List.{length-map, take_rest}
use Rattle.std.proofs.lemmas.List.Elements.{All-drop}
use Rattle.dlk_kernel.specs.Kernel.{facts, provable_at}
use Rattle.dlk_kernel.specs.Taken.{Takes}
use Rattle.dlk_rules.specs.Steps.{step_at, HasKnownIds}
use Rattle.dlk_link.proofs.Kept.{take_length}
use Rattle.dlk_link.proofs.InTurn.{taken_few, taken_earlier}
use Rattle.dlk_link.proofs.Front.{front, others_taken, whole_taken, released, others_are}
use Rattle.dlk_link.proofs.trimming.trimmed.Goals as goal

pub kept_steps-requires-clause-few : goal.kept_steps-requires-clause-few
kept_steps-requires-clause-few g c =
    let old = g.S.Store.trees c.args.kernel.now.store in
    let few = taken_few (map (step_at old) c.args.term.items) (facts g.S.Store.trees c.args.kernel.now) c.requires.taken in
    omega (arith, few, length-map c.args.term.items (step_at old))

pub kept_steps-requires-clause-earlier : goal.kept_steps-requires-clause-earlier
kept_steps-requires-clause-earlier g c =
    taken_earlier (g.S.Store.trees c.args.kernel.now.store) c.args.term.items (facts g.S.Store.trees c.args.kernel.now) c.requires.taken

pub overflow_cast-same : goal.overflow_cast-same
overflow_cast-same g c =
    let old = g.S.Store.trees c.args.kernel.now.store in
    let rows = facts g.S.Store.trees c.args.kernel.now in
    let term = map (step_at old) c.args.term.items in
    let one = g.met.S.Store.one_id c.rows.ensures.unique c.args.kernel.now.store in
    let its = front term (map (step_at old) c.in_ok-kept.kept.items) rows c.in_ok-kept.same c.requires.taken
    (c.in_ok-kept.ensures.trimmed old one c.requires.known)
    in
    let within = its.few in
    omega (arith, within, take_length term rows c.requires.taken, taken_few term rows c.requires.taken)

pub release-requires : goal.release-requires
release-requires g c =
    let old = g.S.Store.trees c.args.kernel.now.store in
    let rows = facts g.S.Store.trees c.args.kernel.now in
    let one = g.met.S.Store.one_id c.rows.ensures.unique c.args.kernel.now.store in
    let its = front (map (step_at old) c.args.term.items) (map (step_at old) c.in_ok-kept.kept.items) rows c.in_ok-kept.same c.requires.taken
    (c.in_ok-kept.ensures.trimmed old one c.requires.known) in
    let within = its.few in
    omega (arith, within, length-map c.args.kernel.now.rows (provable_at old))

pub offset_bounds-deref-same : goal.offset_bounds-deref-same
offset_bounds-deref-same g c =
    let old = g.S.Store.trees c.args.kernel.now.store in
    let rows = facts g.S.Store.trees c.args.kernel.now in
    let one = g.met.S.Store.one_id c.rows.ensures.unique c.args.kernel.now.store in
    let its = front (map (step_at old) c.args.term.items) (map (step_at old) c.in_ok-kept.kept.items) rows c.in_ok-kept.same c.requires.taken
    (c.in_ok-kept.ensures.trimmed old one c.requires.known) in
    let short = its.short in
    omega (arith, short, length-map c.in_ok-kept.kept.items (step_at old), ap length c.deref.ensures.value)

pub slice_bounds-take_known-count : goal.slice_bounds-take_known-count
slice_bounds-take_known-count g c =
    let old = g.S.Store.trees c.args.kernel.now.store in
    let rows = facts g.S.Store.trees c.args.kernel.now in
    let one = g.met.S.Store.one_id c.rows.ensures.unique c.args.kernel.now.store in
    let its = front (map (step_at old) c.args.term.items) (map (step_at old) c.in_ok-kept.kept.items) rows c.in_ok-kept.same c.requires.taken
    (c.in_ok-kept.ensures.trimmed old one c.requires.known) in
    let short = its.short in
    omega (arith, short, length-map c.in_ok-kept.kept.items (step_at old), ap length c.deref.ensures.value)

pub slice_bounds-take_known-start : goal.slice_bounds-take_known-start
slice_bounds-take_known-start g c =
    let old = g.S.Store.trees c.args.kernel.now.store in
    let rows = facts g.S.Store.trees c.args.kernel.now in
    let one = g.met.S.Store.one_id c.rows.ensures.unique c.args.kernel.now.store in
    let its = front (map (step_at old) c.args.term.items) (map (step_at old) c.in_ok-kept.kept.items) rows c.in_ok-kept.same c.requires.taken
    (c.in_ok-kept.ensures.trimmed old one c.requires.known) in
    let short = its.short in
    omega (arith, short, length-map c.in_ok-kept.kept.items (step_at old), ap length c.deref.ensures.value)

pub take_known-requires-clause-known : goal.take_known-requires-clause-known
take_known-requires-clause-known g c =
    let trees = g.S.Store.trees in
    let old = trees c.args.kernel.now.store in
    let one = g.met.S.Store.one_id c.rows.ensures.unique c.args.kernel.now.store in
    let kept = c.in_ok-kept.kept.items in
    let same = c.in_ok-kept.same in
    let slice = c.deref.result.now in
    let plan = take (length slice - same) (drop same slice) in
    let plan_is : plan ≡ drop same kept = take_rest slice same ∙ ap (drop same) c.deref.ensures.value in
    subst (λ s. All (HasKnownIds (trees s)) plan) (sym c.release.ensures.store)
    (subst (All (HasKnownIds old)) (sym plan_is) (All-drop (HasKnownIds old) same kept (c.in_ok-kept.ensures.known old one c.requires.known)))

pub take_known-requires-clause-taken : goal.take_known-requires-clause-taken
take_known-requires-clause-taken g c =
    let trees = g.S.Store.trees in
    let kernel = c.args.kernel.now in
    let old = trees kernel.store in
    let rows = facts trees kernel in
    let one = g.met.S.Store.one_id c.rows.ensures.unique kernel.store in
    let term = map (step_at old) c.args.term.items in
    let kept = map (step_at old) c.in_ok-kept.kept.items in
    let same = c.in_ok-kept.same in
    let slice = c.deref.result.now in
    let trimmed = c.in_ok-kept.ensures.trimmed old one c.requires.known in
    let its = front term kept rows same c.requires.taken trimmed in
    let some : 1 ≤ length term = let n = c.requires.some in omega (arith, n, length-map c.args.term.items (step_at old)) in
    let shows = c.trimmed_is_taken.ensures.last term kept rows c.requires.taken some (trimmed.0, trimmed.1) in
    let back = released trees kernel c.release.new.self same c.release.ensures.store c.release.ensures.rows in
    let are = others_are (trees c.release.new.self.store) old c.in_ok-kept.kept.items slice same (ap trees c.release.ensures.store) c.deref.ensures.value in (
      shows.kept_rows,
      subst (λ r. Takes r (map (step_at (trees c.release.new.self.store)) (take (length slice - same) (drop same slice))) shows.kept_rows)
          (sym back) (subst (λ l. Takes (take same rows) l shows.kept_rows) (sym are) (others_taken kept rows shows.kept_rows same its shows.takes)),
    )

pub returns-clause-trimmed : goal.returns-clause-trimmed
returns-clause-trimmed g c =
    let one = g.met.S.Store.one_id c.rows.ensures.unique c.args.kernel.now.store in
    let trimmed = c.in_ok-kept.ensures.trimmed (g.S.Store.trees c.args.kernel.now.store) one c.requires.known in
    (trimmed.0, trimmed.1)

pub returns-clause-rows : goal.returns-clause-rows
returns-clause-rows g c =
    let trees = g.S.Store.trees in
    let kernel = c.args.kernel.now in
    let old = trees kernel.store in
    let rows = facts trees kernel in
    let after = facts trees c.take_known.new.kernel in
    let one = g.met.S.Store.one_id c.rows.ensures.unique kernel.store in
    let kept = map (step_at old) c.in_ok-kept.kept.items in
    let same = c.in_ok-kept.same in
    let slice = c.deref.result.now in
    let its = front (map (step_at old) c.args.term.items) kept rows same c.requires.taken (c.in_ok-kept.ensures.trimmed old one c.requires.known) in
    let back = released trees kernel c.release.new.self same c.release.ensures.store c.release.ensures.rows in
    let are = others_are (trees c.release.new.self.store) old c.in_ok-kept.kept.items slice same (ap trees c.release.ensures.store) c.deref.ensures.value in
    whole_taken kept rows after same its (subst (λ l. Takes (take same rows) l after) are
    (subst (λ r. Takes r (map (step_at (trees c.release.new.self.store)) (take (length slice - same) (drop same slice))) after) back
    c.in_ok-take_known.ensures.taken))

pub returns-clause-known : goal.returns-clause-known
returns-clause-known g c =
    let one = g.met.S.Store.one_id c.rows.ensures.unique c.args.kernel.now.store in
    c.in_ok-kept.ensures.known (g.S.Store.trees c.args.kernel.now.store) one c.requires.known

pub returns-clause-grows : goal.returns-clause-grows
returns-clause-grows g c =
    subst (λ s. g.S.Store.grows s c.take_known.new.kernel.store) c.release.ensures.store c.take_known.ensures.grows
