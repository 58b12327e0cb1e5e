use Rattle.std.proofs.Common.{◌≡◌, ◌<◌, ◌++◌, refl, map, length, subst, sym, arith, eqb-true}
use Rattle.std.proofs.lemmas.Bool.{eqb-false}
use Rattle.std.specs.List.{All}
use Rattle.std.proofs.lemmas.List.{length-map}
use Rattle.std.proofs.lemmas.List.Elements.{All-append}
use Rattle.std.proofs.lemmas.Result.{err_from_is_err_and}
use Rattle.dlk_kernel.specs.Kernel.{facts}
use Rattle.dlk_kernel.specs.Taken.{Takes}
use Rattle.dlk_rules.specs.Steps.{step_at, HasKnownIds}
use Rattle.dlk_sequent.specs.Sequents.{sequent_at}
use Rattle.dlk_uses.specs.Taking.{FirstFault}
use Rattle.dlk_link.proofs.Kept.{take_length}
use Rattle.dlk_link.proofs.InTurn.{taken_few, taken_earlier, ends_some}
use Rattle.dlk_link.proofs.LinkedSteps.{all_few, joins_as, rest_as, lacks_goal, links_made, takes_made, fault_made, nothing, link_fault}
use Rattle.dlk_link.proofs.linking.linked.Goals as goal

pub overflow_cast-len : goal.overflow_cast-len
overflow_cast-len g c =
    let old = g.S.Store.trees c.args.kernel.now.store in
    let ends = c.requires.lemma_ends.1 in
    let few = taken_few (map (step_at old) c.args.lemma.items) ends.rows ends.takes in
    omega (arith, few, length-map c.args.lemma.items (step_at old))

pub merges_behind-requires-clause-some : goal.merges_behind-requires-clause-some
merges_behind-requires-clause-some g c =
    let old = g.S.Store.trees c.args.kernel.now.store in
    let term = map (step_at old) c.args.term.items in
    let long = take_length term (facts g.S.Store.trees c.args.kernel.now) c.requires.taken in
    let some = ends_some term c.requires.term_ends.0 c.requires.term_ends.1 in
    omega (arith, long, some)

pub merges_behind-requires-clause-few : goal.merges_behind-requires-clause-few
merges_behind-requires-clause-few g c =
    let old = g.S.Store.trees c.args.kernel.now.store in
    let ends = c.requires.lemma_ends.1 in
    let few = taken_few (map (step_at old) c.args.lemma.items) ends.rows ends.takes in
    omega (arith, few, length-map c.args.lemma.items (step_at old))

pub overflow_cast-len-2 : goal.overflow_cast-len-2
overflow_cast-len-2 g c =
    let old = g.S.Store.trees c.args.kernel.now.store in
    let few = taken_few (map (step_at old) c.args.term.items) (facts g.S.Store.trees c.args.kernel.now) c.requires.taken in
    omega (arith, few, length-map c.args.term.items (step_at old))

pub behind_rows-requires-clause-few : goal.behind_rows-requires-clause-few
behind_rows-requires-clause-few g c =
    let old = g.S.Store.trees c.args.kernel.now.store in
    let ends = c.requires.lemma_ends.1 in
    let few = taken_few (map (step_at old) c.args.lemma.items) ends.rows ends.takes in
    all_few c.args.lemma.items (taken_earlier old c.args.lemma.items ends.rows ends.takes) (omega (arith, few, length-map c.args.lemma.items (step_at old)))

pub behind_rows-requires-clause-room : goal.behind_rows-requires-clause-room
behind_rows-requires-clause-room g c =
    let old = g.S.Store.trees c.args.kernel.now.store in
    let few = taken_few (map (step_at old) c.args.term.items) (facts g.S.Store.trees c.args.kernel.now) c.requires.taken in
    omega (arith, few, length-map c.args.term.items (step_at old))

pub returns-then-is_empty-clause-fault : goal.returns-then-is_empty-clause-fault
returns-then-is_empty-clause-fault g c =
    let old = g.S.Store.trees c.args.kernel.now.store in
    let rows = facts g.S.Store.trees c.args.kernel.now in
    let merges = c.in_ok-merges.merges.items in
    let count = eqb-true _ 0 (sym c.if-is_empty.ensures) in
    let none : length merges ≡ 0 = omega (arith, count) in
    lacks_goal old c.args.term.items c.args.lemma.items merges (sequent_at old c.args.c.now) rows c.requires.taken
    (joins_as old rows (sequent_at old c.args.c.now) merges c.len.result (length c.args.lemma.items) (omega arith) c.in_ok-merges.ensures.joins)
    c.requires.conclusion c.requires.term_ends.0 c.requires.term_ends.1 (nothing merges none)

pub take_in_turn-requires : goal.take_in_turn-requires
take_in_turn-requires g c =
    let old = g.S.Store.trees c.args.kernel.now.store in
    subst (All (HasKnownIds old)) (sym c.deref.ensures.value) (c.in_ok-rest.ensures.known old c.requires.lemma_known (c.in_ok-merges.ensures.known old))

pub returns-in_err-take_in_turn-clause-fault : goal.returns-in_err-take_in_turn-clause-fault
returns-in_err-take_in_turn-clause-fault g c =
    let old = g.S.Store.trees c.args.kernel.now.store in
    let rows = facts g.S.Store.trees c.args.kernel.now in
    let merges = c.in_ok-merges.merges.items in
    let rest = c.in_ok-rest.rest.items in
    let count = eqb-false _ 0 (sym c.if-is_empty.ensures) in
    let some : 0 < length merges = omega (arith, count) in
    let p = err_from_is_err_and c.from_residual-in_err-take_in_turn.result c.from_residual-in_err-take_in_turn.ensures.1 in
    rw (p.1, p.2) (link_fault _ _ _ (λ why f. fault_made old c.args.term.items c.args.lemma.items merges (sequent_at old c.args.c.now) rows c.requires.taken
    (joins_as old rows (sequent_at old c.args.c.now) merges c.len.result (length c.args.lemma.items) (omega arith) c.in_ok-merges.ensures.joins)
    c.requires.conclusion c.requires.term_ends.0 c.requires.term_ends.1 rest
    (rest_as old c.args.lemma.items merges rest c.len-2.result (length c.args.term.items) (omega arith) (c.in_ok-rest.ensures.steps old))
    (c.args.term.items ++ rest) refl some why (subst (λ l. FirstFault rows (map (step_at old) l) why) c.deref.ensures.value f))
    c.in_err-take_in_turn.field-0.0 c.in_err-take_in_turn.ensures.fault)

pub returns-clause-linked : goal.returns-clause-linked
returns-clause-linked g c =
    let old = g.S.Store.trees c.args.kernel.now.store in
    let rows = facts g.S.Store.trees c.args.kernel.now in
    let merges = c.in_ok-merges.merges.items in
    let rest = c.in_ok-rest.rest.items in
    let count = eqb-false _ 0 (sym c.if-is_empty.ensures) in
    let some : 0 < length merges = omega (arith, count) in
    links_made old c.args.term.items c.args.lemma.items merges (sequent_at old c.args.c.now) rows c.requires.taken
    (joins_as old rows (sequent_at old c.args.c.now) merges c.len.result (length c.args.lemma.items) (omega arith) c.in_ok-merges.ensures.joins)
    c.requires.conclusion c.requires.term_ends.0 c.requires.term_ends.1 rest
    (rest_as old c.args.lemma.items merges rest c.len-2.result (length c.args.term.items) (omega arith) (c.in_ok-rest.ensures.steps old))
    c.append.new.self.items
    c.in_ok-append.ensures.items some

pub returns-clause-rows : goal.returns-clause-rows
returns-clause-rows g c =
    let old = g.S.Store.trees c.args.kernel.now.store in
    let rows = facts g.S.Store.trees c.args.kernel.now in
    let after = facts g.S.Store.trees c.take_in_turn.new.kernel in
    let merges = c.in_ok-merges.merges.items in
    let rest = c.in_ok-rest.rest.items in
    takes_made old c.args.term.items c.args.lemma.items merges (sequent_at old c.args.c.now) rows c.requires.taken
    (joins_as old rows (sequent_at old c.args.c.now) merges c.len.result (length c.args.lemma.items) (omega arith) c.in_ok-merges.ensures.joins)
    c.requires.conclusion c.requires.term_ends.0 c.requires.term_ends.1 rest
    (rest_as old c.args.lemma.items merges rest c.len-2.result (length c.args.term.items) (omega arith) (c.in_ok-rest.ensures.steps old))
    c.append.new.self.items
    c.in_ok-append.ensures.items after (subst (λ l. Takes rows (map (step_at old) l) after) c.deref.ensures.value c.in_ok-take_in_turn.ensures.taken)

pub returns-clause-known : goal.returns-clause-known
returns-clause-known g c =
    let old = g.S.Store.trees c.args.kernel.now.store in
    let rest = c.in_ok-rest.rest.items in
    subst (All (HasKnownIds old)) (sym c.in_ok-append.ensures.items)
    (All-append (HasKnownIds old) c.args.term.items rest c.requires.term_known
    (c.in_ok-rest.ensures.known old c.requires.lemma_known (c.in_ok-merges.ensures.known old)))
