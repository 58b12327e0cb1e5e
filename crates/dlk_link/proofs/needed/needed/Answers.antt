use Rattle.std.proofs.Common.{◌≡◌, ◌-◌, refl, subst, ap, ◌∙◌, arith, rules, length, replicate, [], false, true}
use Rattle.std.proofs.lemmas.List.{length-replicate}
use Rattle.dlk_calculus.specs.Places.{At}
use Rattle.dlk_rules.specs.Steps.{facts_in}
use Rattle.dlk_link.proofs.Marks.{SoFar, marked_last, no_true, facts_within, row_down, row_past, read_row, not_true, all_marked}
use Rattle.dlk_link.proofs.needed.needed.Goals as goal

pub loop-row-init : goal.loop-row-init
loop-row-init c =
    let some = c.requires.some in
    let items : c.in_ok-marks.marks.items ≡ replicate (length c.args.term.now) false = c.in_ok-marks.ensures.items_if_clones_equal (λ y e. search rules) in
    marked_last c.args.term.now c.in_ok-marks.marks.items (length c.args.term.now - 1) (omega (arith, some)) (ap (λ l. length l) items ∙ length-replicate
    (length c.args.term.now) false)
    (λ k h. no_true (length c.args.term.now) k (subst (λ l. At l k true) items h))

pub mark-requires : goal.mark-requires
mark-requires c =
    let inv = c.loop-row.invariant in
    let item = read_row c.args.term.now c.loop-row.row c.index-term-row.result c.index-term-row.result c.loop-row-test.true inv.reach c.index-term-row.is refl
    in
    facts_within c.args.term.now c.loop-row.row c.loop-row.marks.items c.index-term-row.result (facts_in c.facts.result) c.requires.earlier inv.count inv.reach
    item
    (c.facts.ensures [])

pub loop-row-preserved-then-index : goal.loop-row-preserved-then-index
loop-row-preserved-then-index c =
    let inv = c.loop-row.invariant in
    let some = c.loop-row-test.true in
    let reach = inv.reach in
    let size = inv.count in
    let item = read_row c.args.term.now c.loop-row.row c.index-term-row.result c.index-term-row.result some reach c.index-term-row.is refl in
    let marked = read_row c.loop-row.marks.items c.loop-row.row c.index.result.now true some (omega (arith, reach, size)) c.index.ensures c.if-index.true in
    row_down c.args.term.now c.loop-row.row c.loop-row.marks.items c.mark.new.marks.items c.index-term-row.result (facts_in c.facts.result) some
    c.requires.earlier inv item
    marked (c.facts.ensures []) c.mark.ensures

pub loop-row-preserved : goal.loop-row-preserved
loop-row-preserved c =
    let inv = c.loop-row.invariant in
    let some = c.loop-row-test.true in
    let reach = inv.reach in
    let size = inv.count in
    let unmarked = read_row c.loop-row.marks.items c.loop-row.row c.index.result.now false some (omega (arith, reach, size)) c.index.ensures c.if-index.false in
    row_past c.args.term.now c.loop-row.row c.loop-row.marks.items some inv (not_true c.loop-row.marks.items c.loop-row.row unmarked)

pub returns : goal.returns
returns c = λ trees.
    all_marked c.args.term.now c.loop-row.marks.items (subst (λ r. SoFar c.args.term.now r c.loop-row.marks.items) (omega arith) c.loop-row.invariant) trees
