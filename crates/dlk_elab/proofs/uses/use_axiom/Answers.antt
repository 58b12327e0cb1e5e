use Rattle.dlk_kernel.proofs.RowsKept.{rows_stay, rows_same_after, rows_longer}
use Rattle.std.proofs.Common.{◌≡◌, List, Err, length, map, sym, ap, subst, ◌∙◌, arith}
use Rattle.std.proofs.lemmas.List.{length-map}
use Rattle.std.proofs.lemmas.Result.{err_from_is_err_and}
use Rattle.dlk_tree.specs.Trees.{sort}
use Rattle.dlk_calculus.specs.Provables.{Provable}
use Rattle.dlk_kernel.specs.Faults.{IsStepFault}
use Rattle.dlk_kernel.specs.Kernel.{provable_at, facts}
use Rattle.dlk_kernel.specs.Taken.{Takes}
use Rattle.dlk_rules.specs.Steps.{step_at}
use Rattle.dlk_store.specs.Stores.{tree}
use Rattle.dlk_sequent.specs.Spines.{top}
use Rattle.dlk_tacsyn.specs.Ties.{atom_at}
use Rattle.dlk_elab.specs.declared.fault.TacFault.TheVariants.{UnknownName}
use Rattle.dlk_elab.specs.Atoms.{FirstFault}
use Rattle.dlk_elab.proofs.Elaborates.{goal_small, steps_same, known_later}
use Rattle.dlk_elab.proofs.UseTaken.{Laws, few_renames, planned_there, not_instanced, proves, rest_known, not_finished, made_by_use}
use Rattle.dlk_elab.proofs.uses.use_axiom.Goals as goal

pub returns-in_err-found-clause-unknown : goal.returns-in_err-found-clause-unknown
returns-in_err-found-clause-unknown g c =
    let p = err_from_is_err_and c.from_residual.result c.from_residual.ensures.1 in
    rw (p.1, p.2) (λ none. let why : c.in_err-found.field-0.0 ≡ UnknownName = cc (c.in_err-found.ensures.unknown none) in ap Err why)

pub instance-requires : goal.instance-requires
instance-requires g c =
    let trees = g.S.Store.trees c.args.kernel.now.store in
    let rows = facts g.S.Store.trees c.args.kernel.now in
    let atom = atom_at trees c.args.atom.now in
    let mid = g.S.Store.trees c.find.new.kernel.store in
    let found = c.in_ok-found.found in
    let is = c.in_ok-found.ensures.found in
    let laws : Laws = record {
      few = c.uses_rename_few.ensures;
      keeps_sort = c.match_keeps_sort.ensures;
      made = c.axioms_have_own_names.ensures.made;
      shapes = c.uses_have_shapes.ensures.axioms;
      instances = c.uses_have_shapes.ensures.instances;
    } in
    let few = few_renames rows c.args.target atom mid c.args.used found is laws in
    omega (arith, few, c.requires.rows, c.rows.ensures.count, c.rows.ensures.few)

pub returns-in_err-plan-clause-unknown : goal.returns-in_err-plan-clause-unknown
returns-in_err-plan-clause-unknown g c = λ none. absurd (cc (c.in_ok-found.ensures.unknown none))

pub returns-in_err-take_in_turn-clause-fault : goal.returns-in_err-take_in_turn-clause-fault
returns-in_err-take_in_turn-clause-fault g c =
    let trees = g.S.Store.trees c.args.kernel.now.store in
    let rows = facts g.S.Store.trees c.args.kernel.now in
    let atom = atom_at trees c.args.atom.now in
    let mid = g.S.Store.trees c.find.new.kernel.store in
    let found = c.in_ok-found.found in
    let is = c.in_ok-found.ensures.found in
    let plan = c.in_ok-plan.plan.items in
    let counted : c.args.target.rows ≡ length rows = c.requires.rows ∙ sym (length-map c.args.kernel.now.rows (provable_at trees)) in
    let planned = planned_there rows c.args.target atom mid c.args.used found is plan c.args.target.rows counted (c.in_ok-plan.ensures mid is.known) in
    let p = err_from_is_err_and c.from_residual-in_err-take_in_turn.result c.from_residual-in_err-take_in_turn.ensures.1 in
    rw (p.1, p.2) (not_instanced rows c.args.target atom mid c.args.used found is plan planned c.in_err-take_in_turn.field-0.0
    (subst (λ (r : List Provable). IsStepFault (FirstFault r (map (step_at mid) plan)) c.in_err-take_in_turn.field-0.0) c.find.ensures.same.provables
    (rw c.as_slice.ensures.value at c.in_err-take_in_turn.ensures.fault)))

pub returns-in_err-take_in_turn-clause-unknown : goal.returns-in_err-take_in_turn-clause-unknown
returns-in_err-take_in_turn-clause-unknown g c = λ none. absurd (cc (c.in_ok-found.ensures.unknown none))

pub returns-in_err-take_in_turn-clause-grows : goal.returns-in_err-take_in_turn-clause-grows
returns-in_err-take_in_turn-clause-grows g c =
    g.met.S.Store.grows_trans c.args.kernel.now.store c.find.new.kernel.store c.take_in_turn.new.kernel.store c.find.ensures.grows c.take_in_turn.ensures.grows

pub behind-requires-clause-goal : goal.behind-requires-clause-goal
behind-requires-clause-goal g c =
    let small = goal_small (facts g.S.Store.trees c.args.kernel.now) c.args.target.fact c.args.target.goal c.rows.ensures.limited c.requires.goal in
    omega (arith, small)

pub behind-requires-clause-spine : goal.behind-requires-clause-spine
behind-requires-clause-spine g c =
    let mid = g.S.Store.trees c.find.new.kernel.store in
    let found = c.in_ok-found.found in
    let is = c.in_ok-found.ensures.found in
    let new = g.S.Store.trees c.take_in_turn.new.kernel.store in
    let keeps = g.met.S.Store.grows_keeps c.find.new.kernel.store c.take_in_turn.new.kernel.store c.take_in_turn.ensures.grows in
    c.spine_stays.ensures.spine mid new found.way keeps is.spine

pub behind-requires-clause-formula : goal.behind-requires-clause-formula
behind-requires-clause-formula g c =
    let mid = g.S.Store.trees c.find.new.kernel.store in
    let found = c.in_ok-found.found in
    let is = c.in_ok-found.ensures.found in
    let new = g.S.Store.trees c.take_in_turn.new.kernel.store in
    let keeps = g.met.S.Store.grows_keeps c.find.new.kernel.store c.take_in_turn.new.kernel.store c.take_in_turn.ensures.grows in
    ap sort (c.spine_stays.ensures.top mid new found.way keeps is.spine) ∙ is.formula

pub behind-requires-clause-proves : goal.behind-requires-clause-proves
behind-requires-clause-proves g c =
    let trees = g.S.Store.trees c.args.kernel.now.store in
    let rows = facts g.S.Store.trees c.args.kernel.now in
    let atom = atom_at trees c.args.atom.now in
    let mid = g.S.Store.trees c.find.new.kernel.store in
    let found = c.in_ok-found.found in
    let is = c.in_ok-found.ensures.found in
    let laws : Laws = record {
      few = c.uses_rename_few.ensures;
      keeps_sort = c.match_keeps_sort.ensures;
      made = c.axioms_have_own_names.ensures.made;
      shapes = c.uses_have_shapes.ensures.axioms;
      instances = c.uses_have_shapes.ensures.instances;
    } in
    let plan = c.in_ok-plan.plan.items in
    let counted : c.args.target.rows ≡ length rows = c.requires.rows ∙ sym (length-map c.args.kernel.now.rows (provable_at trees)) in
    let planned = planned_there rows c.args.target atom mid c.args.used found is plan c.args.target.rows counted (c.in_ok-plan.ensures mid is.known) in
    let new = g.S.Store.trees c.take_in_turn.new.kernel.store in
    let keeps = g.met.S.Store.grows_keeps c.find.new.kernel.store c.take_in_turn.new.kernel.store c.take_in_turn.ensures.grows in
    let between = facts g.S.Store.trees c.take_in_turn.new.kernel in
    let taken : Takes rows (map (step_at mid) plan) between =
    subst (λ (r : List Provable). Takes r (map (step_at mid) plan) between) c.find.ensures.same.provables
    (rw c.as_slice.ensures.value at c.in_ok-take_in_turn.ensures.taken) in
    proves rows c.args.target atom mid c.args.used found is plan planned between taken laws (tree new found.way.found)
    (c.spine_stays.ensures.found mid new found.way keeps is.spine)

pub returns-in_err-rest-clause-unknown : goal.returns-in_err-rest-clause-unknown
returns-in_err-rest-clause-unknown g c = λ none. absurd (cc (c.in_ok-found.ensures.unknown none))

pub returns-in_err-rest-clause-grows : goal.returns-in_err-rest-clause-grows
returns-in_err-rest-clause-grows g c =
    let first = g.met.S.Store.grows_trans c.args.kernel.now.store c.find.new.kernel.store c.take_in_turn.new.kernel.store c.find.ensures.grows
    c.take_in_turn.ensures.grows in
    g.met.S.Store.grows_trans c.args.kernel.now.store c.take_in_turn.new.kernel.store c.behind.new.kernel.store first c.behind.ensures.grows

pub take_in_turn-requires-2 : goal.take_in_turn-requires-2
take_in_turn-requires-2 g c =
    let trees = g.S.Store.trees c.args.kernel.now.store in
    let rows = facts g.S.Store.trees c.args.kernel.now in
    let atom = atom_at trees c.args.atom.now in
    let mid = g.S.Store.trees c.find.new.kernel.store in
    let found = c.in_ok-found.found in
    let is = c.in_ok-found.ensures.found in
    let plan = c.in_ok-plan.plan.items in
    let counted : c.args.target.rows ≡ length rows = c.requires.rows ∙ sym (length-map c.args.kernel.now.rows (provable_at trees)) in
    let planned = planned_there rows c.args.target atom mid c.args.used found is plan c.args.target.rows counted (c.in_ok-plan.ensures mid is.known) in
    let new = g.S.Store.trees c.take_in_turn.new.kernel.store in
    let keeps = g.met.S.Store.grows_keeps c.find.new.kernel.store c.take_in_turn.new.kernel.store c.take_in_turn.ensures.grows in
    let between = facts g.S.Store.trees c.take_in_turn.new.kernel in
    let taken : Takes rows (map (step_at mid) plan) between =
    subst (λ (r : List Provable). Takes r (map (step_at mid) plan) between) c.find.ensures.same.provables
    (rw c.as_slice.ensures.value at c.in_ok-take_in_turn.ensures.taken) in
    let later = g.S.Store.trees c.behind.new.kernel.store in
    let rest = c.in_ok-rest.rest.items in
    let top_same = c.spine_stays.ensures.top mid new found.way keeps is.spine in
    rw c.as_slice-2.ensures.value (rest_known rows c.args.target atom mid c.args.used found is plan planned between taken later
    (tree new (top found.way)) rest top_same c.in_ok-rest.ensures.made)

pub returns-in_err-take_in_turn-2-clause-fault : goal.returns-in_err-take_in_turn-2-clause-fault
returns-in_err-take_in_turn-2-clause-fault g c =
    let trees = g.S.Store.trees c.args.kernel.now.store in
    let rows = facts g.S.Store.trees c.args.kernel.now in
    let atom = atom_at trees c.args.atom.now in
    let mid = g.S.Store.trees c.find.new.kernel.store in
    let found = c.in_ok-found.found in
    let is = c.in_ok-found.ensures.found in
    let plan = c.in_ok-plan.plan.items in
    let counted : c.args.target.rows ≡ length rows = c.requires.rows ∙ sym (length-map c.args.kernel.now.rows (provable_at trees)) in
    let planned = planned_there rows c.args.target atom mid c.args.used found is plan c.args.target.rows counted (c.in_ok-plan.ensures mid is.known) in
    let new = g.S.Store.trees c.take_in_turn.new.kernel.store in
    let keeps = g.met.S.Store.grows_keeps c.find.new.kernel.store c.take_in_turn.new.kernel.store c.take_in_turn.ensures.grows in
    let between = facts g.S.Store.trees c.take_in_turn.new.kernel in
    let taken : Takes rows (map (step_at mid) plan) between =
    subst (λ (r : List Provable). Takes r (map (step_at mid) plan) between) c.find.ensures.same.provables
    (rw c.as_slice.ensures.value at c.in_ok-take_in_turn.ensures.taken) in
    let later = g.S.Store.trees c.behind.new.kernel.store in
    let rest = c.in_ok-rest.rest.items in
    let top_same = c.spine_stays.ensures.top mid new found.way keeps is.spine in
    let as_behind : facts g.S.Store.trees c.behind.new.kernel ≡ between = c.behind.ensures.same.provables in
    let p = err_from_is_err_and c.from_residual-in_err-take_in_turn-2.result c.from_residual-in_err-take_in_turn-2.ensures.1 in
    rw (p.1, p.2) (not_finished rows c.args.target atom mid c.args.used found is plan planned between taken later
    (tree new (top found.way)) rest top_same c.in_ok-rest.ensures.made
    c.in_err-take_in_turn-2.field-0.0
    (subst (λ (r : List Provable). IsStepFault (FirstFault r (map (step_at later) rest)) c.in_err-take_in_turn-2.field-0.0) as_behind
    (rw c.as_slice-2.ensures.value at c.in_err-take_in_turn-2.ensures.fault)))

pub returns-in_err-take_in_turn-2-clause-unknown : goal.returns-in_err-take_in_turn-2-clause-unknown
returns-in_err-take_in_turn-2-clause-unknown g c = λ none. absurd (cc (c.in_ok-found.ensures.unknown none))

pub returns-in_err-take_in_turn-2-clause-grows : goal.returns-in_err-take_in_turn-2-clause-grows
returns-in_err-take_in_turn-2-clause-grows g c =
    let first = g.met.S.Store.grows_trans c.args.kernel.now.store c.find.new.kernel.store c.take_in_turn.new.kernel.store c.find.ensures.grows
    c.take_in_turn.ensures.grows in
    let second = g.met.S.Store.grows_trans c.args.kernel.now.store c.take_in_turn.new.kernel.store c.behind.new.kernel.store first c.behind.ensures.grows in
    g.met.S.Store.grows_trans c.args.kernel.now.store c.behind.new.kernel.store c.take_in_turn-2.new.kernel.store second c.take_in_turn-2.ensures.grows

pub returns-in_err-all-clause-unknown : goal.returns-in_err-all-clause-unknown
returns-in_err-all-clause-unknown g c = λ none. absurd (cc (c.in_ok-found.ensures.unknown none))

pub returns-in_err-all-clause-grows : goal.returns-in_err-all-clause-grows
returns-in_err-all-clause-grows g c =
    let first = g.met.S.Store.grows_trans c.args.kernel.now.store c.find.new.kernel.store c.take_in_turn.new.kernel.store c.find.ensures.grows
    c.take_in_turn.ensures.grows in
    let second = g.met.S.Store.grows_trans c.args.kernel.now.store c.take_in_turn.new.kernel.store c.behind.new.kernel.store first c.behind.ensures.grows in
    g.met.S.Store.grows_trans c.args.kernel.now.store c.behind.new.kernel.store c.take_in_turn-2.new.kernel.store second c.take_in_turn-2.ensures.grows

pub returns-clause-made : goal.returns-clause-made
returns-clause-made g c =
    let trees = g.S.Store.trees c.args.kernel.now.store in
    let rows = facts g.S.Store.trees c.args.kernel.now in
    let atom = atom_at trees c.args.atom.now in
    let mid = g.S.Store.trees c.find.new.kernel.store in
    let found = c.in_ok-found.found in
    let is = c.in_ok-found.ensures.found in
    let plan = c.in_ok-plan.plan.items in
    let counted : c.args.target.rows ≡ length rows = c.requires.rows ∙ sym (length-map c.args.kernel.now.rows (provable_at trees)) in
    let planned = planned_there rows c.args.target atom mid c.args.used found is plan c.args.target.rows counted (c.in_ok-plan.ensures mid is.known) in
    let new = g.S.Store.trees c.take_in_turn.new.kernel.store in
    let keeps = g.met.S.Store.grows_keeps c.find.new.kernel.store c.take_in_turn.new.kernel.store c.take_in_turn.ensures.grows in
    let between = facts g.S.Store.trees c.take_in_turn.new.kernel in
    let taken : Takes rows (map (step_at mid) plan) between =
    subst (λ (r : List Provable). Takes r (map (step_at mid) plan) between) c.find.ensures.same.provables
    (rw c.as_slice.ensures.value at c.in_ok-take_in_turn.ensures.taken) in
    let later = g.S.Store.trees c.behind.new.kernel.store in
    let rest = c.in_ok-rest.rest.items in
    let top_same = c.spine_stays.ensures.top mid new found.way keeps is.spine in
    let as_behind : facts g.S.Store.trees c.behind.new.kernel ≡ between = c.behind.ensures.same.provables in
    let last = g.S.Store.trees c.take_in_turn-2.new.kernel.store in
    let after = facts g.S.Store.trees c.take_in_turn-2.new.kernel in
    let keeps_behind = g.met.S.Store.grows_keeps c.behind.new.kernel.store c.take_in_turn-2.new.kernel.store c.take_in_turn-2.ensures.grows in
    let since = g.met.S.Store.grows_trans c.find.new.kernel.store c.take_in_turn.new.kernel.store c.behind.new.kernel.store c.take_in_turn.ensures.grows
    c.behind.ensures.grows in
    let keeps_all = g.met.S.Store.grows_keeps c.find.new.kernel.store c.take_in_turn-2.new.kernel.store
    (g.met.S.Store.grows_trans c.find.new.kernel.store c.behind.new.kernel.store c.take_in_turn-2.new.kernel.store since c.take_in_turn-2.ensures.grows) in
    let others = rest_known rows c.args.target atom mid c.args.used found is plan planned between taken later
    (tree new (top found.way)) rest top_same c.in_ok-rest.ensures.made in
    made_by_use rows c.args.target atom mid c.args.used found is plan planned between taken later
    (tree new (top found.way)) rest top_same c.in_ok-rest.ensures.made
    last c.in_ok-all.all.items after c.in_ok-all.ensures
    (steps_same mid last (λ s k. c.step_stays.ensures.same mid last s keeps_all k) plan planned.known)
    (known_later mid last (λ s k. c.step_stays.ensures.known mid last s keeps_all k) plan planned.known)
    (steps_same later last (λ s k. c.step_stays.ensures.same later last s keeps_behind k) rest others)
    (known_later later last (λ s k. c.step_stays.ensures.known later last s keeps_behind k) rest others)
    (subst (λ (r : List Provable). Takes r (map (step_at later) rest) after) as_behind
    (rw c.as_slice-2.ensures.value at c.in_ok-take_in_turn-2.ensures.taken))

pub returns-clause-unknown : goal.returns-clause-unknown
returns-clause-unknown g c = λ none. absurd (cc (c.in_ok-found.ensures.unknown none))

pub returns-clause-grows : goal.returns-clause-grows
returns-clause-grows g c =
    let first = g.met.S.Store.grows_trans c.args.kernel.now.store c.find.new.kernel.store c.take_in_turn.new.kernel.store c.find.ensures.grows
    c.take_in_turn.ensures.grows in
    let second = g.met.S.Store.grows_trans c.args.kernel.now.store c.take_in_turn.new.kernel.store c.behind.new.kernel.store first c.behind.ensures.grows in
    g.met.S.Store.grows_trans c.args.kernel.now.store c.behind.new.kernel.store c.take_in_turn-2.new.kernel.store second c.take_in_turn-2.ensures.grows

pub returns-in_err-found-clause-kept : goal.returns-in_err-found-clause-kept
returns-in_err-found-clause-kept g c =
    let tr = g.S.Store.trees in let a = c.args.kernel.now in let b = c.find.new.kernel in
    rows_same_after tr a a b (rows_stay tr a) c.find.ensures.same

pub returns-in_err-plan-clause-kept : goal.returns-in_err-plan-clause-kept
returns-in_err-plan-clause-kept g c =
    let tr = g.S.Store.trees in let a = c.args.kernel.now in let b = c.find.new.kernel in
    rows_same_after tr a a b (rows_stay tr a) c.find.ensures.same

pub returns-in_err-take_in_turn-clause-kept : goal.returns-in_err-take_in_turn-clause-kept
returns-in_err-take_in_turn-clause-kept g c =
    let tr = g.S.Store.trees in let a = c.args.kernel.now in let b = c.find.new.kernel in
    let d = c.take_in_turn.new.kernel in
    rows_longer tr a b d (rows_same_after tr a a b (rows_stay tr a) c.find.ensures.same) c.take_in_turn.ensures.kept

pub returns-in_err-rest-clause-kept : goal.returns-in_err-rest-clause-kept
returns-in_err-rest-clause-kept g c =
    let tr = g.S.Store.trees in let a = c.args.kernel.now in let b = c.find.new.kernel in
    let d = c.take_in_turn.new.kernel in
    let e = c.behind.new.kernel in
    rows_same_after tr a d e
    (rows_longer tr a b d (rows_same_after tr a a b (rows_stay tr a) c.find.ensures.same) c.take_in_turn.ensures.kept) c.behind.ensures.same

pub returns-in_err-take_in_turn-2-clause-kept : goal.returns-in_err-take_in_turn-2-clause-kept
returns-in_err-take_in_turn-2-clause-kept g c =
    let tr = g.S.Store.trees in let a = c.args.kernel.now in let b = c.find.new.kernel in
    let d = c.take_in_turn.new.kernel in
    let e = c.behind.new.kernel in
    let f = c.take_in_turn-2.new.kernel in
    rows_longer tr a e f
    (rows_same_after tr a d e
    (rows_longer tr a b d (rows_same_after tr a a b (rows_stay tr a) c.find.ensures.same) c.take_in_turn.ensures.kept) c.behind.ensures.same)
    c.take_in_turn-2.ensures.kept

pub returns-in_err-all-clause-kept : goal.returns-in_err-all-clause-kept
returns-in_err-all-clause-kept g c =
    let tr = g.S.Store.trees in let a = c.args.kernel.now in let b = c.find.new.kernel in
    let d = c.take_in_turn.new.kernel in
    let e = c.behind.new.kernel in
    let f = c.take_in_turn-2.new.kernel in
    rows_longer tr a e f
    (rows_same_after tr a d e
    (rows_longer tr a b d (rows_same_after tr a a b (rows_stay tr a) c.find.ensures.same) c.take_in_turn.ensures.kept) c.behind.ensures.same)
    c.take_in_turn-2.ensures.kept

pub returns-clause-kept : goal.returns-clause-kept
returns-clause-kept g c =
    let tr = g.S.Store.trees in let a = c.args.kernel.now in let b = c.find.new.kernel in
    let d = c.take_in_turn.new.kernel in
    let e = c.behind.new.kernel in
    let f = c.take_in_turn-2.new.kernel in
    rows_longer tr a e f
    (rows_same_after tr a d e
    (rows_longer tr a b d (rows_same_after tr a a b (rows_stay tr a) c.find.ensures.same) c.take_in_turn.ensures.kept) c.behind.ensures.same)
    c.take_in_turn-2.ensures.kept
