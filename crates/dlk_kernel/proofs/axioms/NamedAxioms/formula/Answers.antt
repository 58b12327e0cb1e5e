use Rattle.std.proofs.Common.{◌≡◌, rules, refl, Option, None, Some}
use Rattle.std.specs.Prelude.{IsSome, ◌↔◌}
use Rattle.std.proofs.lemmas.List.Elements.{All-push}
use Rattle.dlk_kernel.specs.declared.axioms.NamedFormula.{NamedFormula}
use Rattle.dlk_kernel.specs.Named.{IsFormulaOf}
use Rattle.dlk_kernel.proofs.Growth.{formulas_kept}
use Rattle.dlk_kernel.proofs.axioms.NamedAxioms.formula.Goals as goal

pub returns-in-Some-clause-axiom : goal.returns-in-Some-clause-axiom
returns-in-Some-clause-axiom g c =
    let h = c.find.ensures.found (g.S.Store.trees c.args.store.now) c.requires c.in-Some.formula c.in-Some.is in
    (h.found, h.named, h.stands)

-- what was not found was not named before
not_named : {A N : Type 0} (found : Option A) → ((x : A) → found ≡ Some x → ⊥) → (IsSome found ↔ N) → N → ⊥
not_named None none named n = let h = named.1 n in cc
not_named (Some x) none named n = none x refl

pub returns-in_err-push-clause-named : goal.returns-in_err-push-clause-named
returns-in_err-push-clause-named g c =
    let keeps = g.met.S.Store.grows_keeps c.args.store.now c.axiom.new.store c.axiom.ensures.grows in
    rw (c.in_err-push.ensures.items, c.self.view_is) (formulas_kept _ _ keeps c.args.self.now c.requires)

pub returns-clause-axiom : goal.returns-clause-axiom
returns-clause-axiom g c = rw (c.bytes.ensures.bytes, c.in-Some-2.is) at c.in_ok-formula.ensures.axiom

pub returns-clause-named : goal.returns-clause-named
returns-clause-named g c =
    let new = g.S.Store.trees c.axiom.new.store in
    let keeps = g.met.S.Store.grows_keeps c.args.store.now c.axiom.new.store c.axiom.ensures.grows in
    let found = rw (c.bytes.ensures.bytes, c.in-Some-2.is) at c.in_ok-formula.ensures.axiom in
    let same : c.in_ok-name.name ≡ c.args.name.now = search rules in
    let one : IsFormulaOf new c.in_ok-name.name c.in-Some-2.formula = rw same (record { found = found.0; named = found.1; stands = found.2 }) in
    rw (c.in_ok-push.ensures.items, c.self.view_is)
    (All-push (λ (n : NamedFormula). IsFormulaOf new n.name n.formula) c.args.self.now (record { name = c.in_ok-name.name; formula = c.in-Some-2.formula })
    (formulas_kept _ _ keeps c.args.self.now c.requires) one)

pub returns-in_err-formula-clause-named : goal.returns-in_err-formula-clause-named
returns-in_err-formula-clause-named g c =
    formulas_kept _ _ (g.met.S.Store.grows_keeps c.args.store.now c.axiom.new.store c.axiom.ensures.grows) c.args.self.now c.requires

pub returns-in_default-2-clause-named : goal.returns-in_default-2-clause-named
returns-in_default-2-clause-named g c =
    formulas_kept _ _ (g.met.S.Store.grows_keeps c.args.store.now c.axiom.new.store c.axiom.ensures.grows) c.args.self.now c.requires

pub returns-in_err-name-clause-named : goal.returns-in_err-name-clause-named
returns-in_err-name-clause-named g c =
    formulas_kept _ _ (g.met.S.Store.grows_keeps c.args.store.now c.axiom.new.store c.axiom.ensures.grows) c.args.self.now c.requires

pub returns-in_err-formula-clause-once : goal.returns-in_err-formula-clause-once
returns-in_err-formula-clause-once g c n = absurd (not_named c.find.result c.in_default.not-Some c.find.ensures.named n)

pub returns-in_err-formula-clause-same : goal.returns-in_err-formula-clause-same
returns-in_err-formula-clause-same g c n = absurd (not_named c.find.result c.in_default.not-Some c.find.ensures.named n)

pub returns-in_default-2-clause-once : goal.returns-in_default-2-clause-once
returns-in_default-2-clause-once g c n = absurd (not_named c.find.result c.in_default.not-Some c.find.ensures.named n)

pub returns-in_default-2-clause-same : goal.returns-in_default-2-clause-same
returns-in_default-2-clause-same g c n = absurd (not_named c.find.result c.in_default.not-Some c.find.ensures.named n)

pub returns-in_err-name-clause-once : goal.returns-in_err-name-clause-once
returns-in_err-name-clause-once g c n = absurd (not_named c.find.result c.in_default.not-Some c.find.ensures.named n)

pub returns-in_err-name-clause-same : goal.returns-in_err-name-clause-same
returns-in_err-name-clause-same g c n = absurd (not_named c.find.result c.in_default.not-Some c.find.ensures.named n)

pub returns-in_err-push-clause-once : goal.returns-in_err-push-clause-once
returns-in_err-push-clause-once g c n = absurd (not_named c.find.result c.in_default.not-Some c.find.ensures.named n)

pub returns-in_err-push-clause-same : goal.returns-in_err-push-clause-same
returns-in_err-push-clause-same g c n = absurd (not_named c.find.result c.in_default.not-Some c.find.ensures.named n)

pub returns-clause-once : goal.returns-clause-once
returns-clause-once g c n = absurd (not_named c.find.result c.in_default.not-Some c.find.ensures.named n)

pub returns-clause-same : goal.returns-clause-same
returns-clause-same g c n = absurd (not_named c.find.result c.in_default.not-Some c.find.ensures.named n)
