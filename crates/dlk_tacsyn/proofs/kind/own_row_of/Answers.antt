use Rattle.std.proofs.Common.{◌≡◌, true, false, bytes_eq, rules, sym, ap, ◌∙◌, Some}
use Rattle.std.specs.Prelude.{codes}
use Rattle.dlk_tacsyn.proofs.Words.{text_bare, text_generalized, text_box_cut, text_use, text_prop, text_at_place, text_with_formula, text_ghost}
use Rattle.dlk_tacsyn.proofs.Words.{text_derive, text_other}
use Rattle.dlk_tacsyn.proofs.kind.own_row_of.Goals as goal

pub returns-then-is_bare-clause-found : goal.returns-then-is_bare-clause-found
returns-then-is_bare-clause-found c = text_bare c.args.text.now (sym c.is_bare.ensures ∙ c.if-is_bare.true) ∙ ap (λ row. Some row) (sym c.wants.ensures)

pub returns-then-eq-clause-found : goal.returns-then-eq-clause-found
returns-then-eq-clause-found c =
    text_generalized c.args.text.now (sym c.is_bare.ensures ∙ c.if-is_bare.false) (sym c.eq.ensures ∙ c.if-eq.true)
    ∙ ap (λ row. Some row) (sym c.wants-then-eq.ensures)

pub returns-then-eq-2-clause-found : goal.returns-then-eq-2-clause-found
returns-then-eq-2-clause-found c =
    text_box_cut c.args.text.now (sym c.is_bare.ensures ∙ c.if-is_bare.false) (sym c.eq.ensures ∙ c.if-eq.false) (sym c.eq-2.ensures ∙ c.if-eq-2.true)
    ∙ ap (λ row. Some row) (sym c.wants-then-eq-2.ensures)

pub returns-then-is_use-clause-found : goal.returns-then-is_use-clause-found
returns-then-is_use-clause-found c =
    text_use c.args.text.now (sym c.is_bare.ensures ∙ c.if-is_bare.false) (sym c.eq.ensures ∙ c.if-eq.false) (sym c.eq-2.ensures ∙ c.if-eq-2.false)
    (sym c.is_use.ensures ∙ c.if-is_use.true)

pub returns-then-eq-3-clause-found : goal.returns-then-eq-3-clause-found
returns-then-eq-3-clause-found c =
    text_prop c.args.text.now (sym c.is_bare.ensures ∙ c.if-is_bare.false) (sym c.eq.ensures ∙ c.if-eq.false) (sym c.eq-2.ensures ∙ c.if-eq-2.false)
    (sym c.is_use.ensures ∙ c.if-is_use.false) (sym c.eq-3.ensures ∙ c.if-eq-3.true)
    ∙ ap (λ row. Some row) (sym c.wants-then-eq-3.ensures)

pub returns-then-is_at_place-clause-found : goal.returns-then-is_at_place-clause-found
returns-then-is_at_place-clause-found c =
    text_at_place c.args.text.now (sym c.is_bare.ensures ∙ c.if-is_bare.false) (sym c.eq.ensures ∙ c.if-eq.false) (sym c.eq-2.ensures ∙ c.if-eq-2.false)
    (sym c.is_use.ensures ∙ c.if-is_use.false) (sym c.eq-3.ensures ∙ c.if-eq-3.false) (sym c.is_at_place.ensures ∙ c.if-is_at_place.true)
    ∙ ap (λ row. Some row) (sym c.wants-then-is_at_place.ensures)

pub returns-then-is_with_formula-clause-found : goal.returns-then-is_with_formula-clause-found
returns-then-is_with_formula-clause-found c =
    text_with_formula c.args.text.now (sym c.is_bare.ensures ∙ c.if-is_bare.false) (sym c.eq.ensures ∙ c.if-eq.false) (sym c.eq-2.ensures ∙ c.if-eq-2.false)
    (sym c.is_use.ensures ∙ c.if-is_use.false) (sym c.eq-3.ensures ∙ c.if-eq-3.false) (sym c.is_at_place.ensures ∙ c.if-is_at_place.false)
    (sym c.is_with_formula.ensures ∙ c.if-is_with_formula.true)
    ∙ ap (λ row. Some row) (sym c.wants-then-is_with_formula.ensures)

pub returns-then-eq-4-clause-found : goal.returns-then-eq-4-clause-found
returns-then-eq-4-clause-found c =
    text_ghost c.args.text.now (sym c.is_bare.ensures ∙ c.if-is_bare.false) (sym c.eq.ensures ∙ c.if-eq.false) (sym c.eq-2.ensures ∙ c.if-eq-2.false)
    (sym c.is_use.ensures ∙ c.if-is_use.false) (sym c.eq-3.ensures ∙ c.if-eq-3.false) (sym c.is_at_place.ensures ∙ c.if-is_at_place.false)
    (sym c.is_with_formula.ensures ∙ c.if-is_with_formula.false) (sym c.eq-4.ensures ∙ c.if-eq-4.true)
    ∙ ap (λ row. Some row) (sym c.wants-then-eq-4.ensures)

pub returns-then-ne-clause-none : goal.returns-then-ne-clause-none
returns-then-ne-clause-none c =
    let other : bytes_eq c.args.text.now (codes "derive") ≡ false = search rules in
    text_other c.args.text.now (sym c.is_bare.ensures ∙ c.if-is_bare.false) (sym c.eq.ensures ∙ c.if-eq.false) (sym c.eq-2.ensures ∙ c.if-eq-2.false)
    (sym c.is_use.ensures ∙ c.if-is_use.false) (sym c.eq-3.ensures ∙ c.if-eq-3.false) (sym c.is_at_place.ensures ∙ c.if-is_at_place.false)
    (sym c.is_with_formula.ensures ∙ c.if-is_with_formula.false) (sym c.eq-4.ensures ∙ c.if-eq-4.false) other

pub returns-clause-found : goal.returns-clause-found
returns-clause-found c =
    let same : bytes_eq c.args.text.now (codes "derive") ≡ true = search rules in
    text_derive c.args.text.now (sym c.is_bare.ensures ∙ c.if-is_bare.false) (sym c.eq.ensures ∙ c.if-eq.false) (sym c.eq-2.ensures ∙ c.if-eq-2.false)
    (sym c.is_use.ensures ∙ c.if-is_use.false) (sym c.eq-3.ensures ∙ c.if-eq-3.false) (sym c.is_at_place.ensures ∙ c.if-is_at_place.false)
    (sym c.is_with_formula.ensures ∙ c.if-is_with_formula.false) (sym c.eq-4.ensures ∙ c.if-eq-4.false) same
    ∙ ap (λ row. Some row) (sym c.wants-2.ensures)
