use Rattle.std.proofs.Common.{◌+◌, [], ◌∷◌, map, sym, subst, ◌∙◌}
use Rattle.std.specs.Prelude.{codes}
use Rattle.std.proofs.lemmas.Result.{IfOk-weaker}
use Rattle.dlk_calculus.specs.Rules.{Close}
use Rattle.dlk_calculus.specs.Steps.{Leaf, Apply, Merge}
use Rattle.dlk_sequent.specs.Sequents.{sequent_at}
use Rattle.dlk_rules.specs.Steps.{side_of}
use Rattle.dlk_rules.proofs.WordLaws.{rule_made}
use Rattle.dlk_tacsyn.specs.Ties.{argument_at}
use Rattle.dlk_elab.specs.Atoms.{AreFor, close, leaf, a_rule}
use Rattle.dlk_elab.specs.Calls.{IsPlain}
use Rattle.dlk_elab.proofs.Plans.{plan_nil, same_plan, plan_place_fault}
use Rattle.dlk_elab.proofs.Names.{name_utf8, no_rule, name_is, not_bare}
use Rattle.dlk_elab.proofs.plan.plan.Goals as goal

pub returns-in_default-clause-fault : goal.returns-in_default-clause-fault
returns-in_default-clause-fault g c =
    absurd (c.in_default.ensures.cases.0 (rw c.bytes.ensures.bytes
    (name_utf8 c.args.atom.now.name c.requires.fitting.row c.requires.plain c.requires.fitting.row_is)))

pub returns-then-eq-clause-plan : goal.returns-then-eq-clause-plan
returns-then-eq-clause-plan g c =
    let trees = g.S.Store.trees c.args.store.now in
    let name = name_is c.args.atom.now.name c.bytes.result.now c.in-Ok.name.now (codes "nil") c.in-Ok.ensures.cases.0 c.bytes.ensures.bytes (sym
    c.eq.ensures ∙ c.if-eq.true) in
    same_plan c.args.target.rows c.args.target.fact c.args.target.goal trees c.args.s.now c.args.atom.now _ c.new.result.items c.new.ensures.items
    (plan_nil c.args.target.rows c.args.target.fact c.args.target.goal trees c.args.s.now c.args.atom.now name)

pub returns-then-eq-2-clause-plan : goal.returns-then-eq-2-clause-plan
returns-then-eq-2-clause-plan g c =
    let name = name_is c.args.atom.now.name c.bytes.result.now c.in-Ok.name.now (codes "close") c.in-Ok.ensures.cases.0 c.bytes.ensures.bytes (sym
    c.eq-2.ensures ∙ c.if-eq-2.true) in
    IfOk-weaker c.close_plan.result _ _ (λ steps h. h c.args.atom.now name) c.close_plan.ensures.plan

pub returns-then-eq-3-clause-plan : goal.returns-then-eq-3-clause-plan
returns-then-eq-3-clause-plan g c =
    let name = name_is c.args.atom.now.name c.bytes.result.now c.in-Ok.name.now (codes "leaf") c.in-Ok.ensures.cases.0 c.bytes.ensures.bytes (sym
    c.eq-3.ensures ∙ c.if-eq-3.true) in
    IfOk-weaker c.leaf_plan.result _ _ (λ steps h. h (g.S.Store.trees c.args.store.now) c.args.atom.now c.requires.sequent name) c.leaf_plan.ensures.plan

pub returns-in_default-of-clause-fault : goal.returns-in_default-of-clause-fault
returns-in_default-of-clause-fault g c =
    let same = c.in-Ok.ensures.cases.0 ∙ c.bytes.ensures.bytes in
    let bare = not_bare c.in-Ok.name.now (sym c.eq.ensures ∙ c.if-eq.false) (sym c.eq-2.ensures ∙ c.if-eq-2.false) (sym c.eq-3.ensures ∙ c.if-eq-3.false) in
    absurd (no_rule c.args.atom.now.name c.requires.fitting.row (rw same at bare) c.requires.plain c.requires.fitting.row_is
    (rw same at c.in_default-of.ensures.none))

pub returns-clause-fault : goal.returns-clause-fault
returns-clause-fault g c =
    let trees = g.S.Store.trees c.args.store.now in
    let same = c.in-Ok.ensures.cases.0 ∙ c.bytes.ensures.bytes in
    let bare = not_bare c.in-Ok.name.now (sym c.eq.ensures ∙ c.if-eq.false) (sym c.eq-2.ensures ∙ c.if-eq-2.false) (sym c.eq-3.ensures ∙ c.if-eq-3.false) in
    let name = sym same ∙ sym c.in-Some.ensures.found in
    plan_place_fault c.args.target.rows c.args.target.fact c.args.target.goal trees (sequent_at trees c.args.s.now) c.args.atom.now c.in-Some.word name
    (rw (← c.in-Some.ensures.found) at bare) (subst IsPlain name c.requires.plain) c.requires.fitting c.requires.fixed c.rule_plan.result
    c.rule_plan.ensures.fault

pub returns-then-eq-2-clause-memory : goal.returns-then-eq-2-clause-memory
returns-then-eq-2-clause-memory g c = λ is.
    let name = name_is c.args.atom.now.name c.bytes.result.now c.in-Ok.name.now (codes "close") c.in-Ok.ensures.cases.0 c.bytes.ensures.bytes (sym
    c.eq-2.ensures ∙ c.if-eq-2.true) in
    let first = c.close_plan.ensures.memory is in
    (Apply c.args.target.fact c.args.target.goal (Close first.0 first.1) ∷ [], close name first.2)

pub returns-then-eq-3-clause-memory : goal.returns-then-eq-3-clause-memory
returns-then-eq-3-clause-memory g c = λ is.
    let name = name_is c.args.atom.now.name c.bytes.result.now c.in-Ok.name.now (codes "leaf") c.in-Ok.ensures.cases.0 c.bytes.ensures.bytes (sym
    c.eq-3.ensures ∙ c.if-eq-3.true) in
    let s = sequent_at (g.S.Store.trees c.args.store.now) c.args.s.now in
    (Leaf s ∷ Merge c.args.target.fact c.args.target.goal (c.args.target.rows + 1) ∷ [], leaf name)

pub returns-clause-memory : goal.returns-clause-memory
returns-clause-memory g c = λ is.
    let trees = g.S.Store.trees c.args.store.now in
    let name = sym (c.in-Ok.ensures.cases.0 ∙ c.bytes.ensures.bytes) ∙ sym c.in-Some.ensures.found in
    let some = c.rule_plan.ensures.memory is trees in
    let made = rule_made c.in-Some.word some.0 (sym some.1) in (
      Apply c.args.target.fact c.args.target.goal made.0 ∷ [],
      a_rule c.in-Some.word made.0 name made.1
          (subst (AreFor (side_of c.in-Some.word) (map (argument_at trees) c.args.atom.now.args)) (sym made.2) some.2),
    )
