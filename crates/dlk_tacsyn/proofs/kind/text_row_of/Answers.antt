use Rattle.std.proofs.Common.{sym, ◌∙◌, Some, ap, subst}
use Rattle.std.specs.Str.{IsUtf8}
use Rattle.dlk_tacsyn.specs.Rows.{wants, kinds_of, text_row_of}
use Rattle.dlk_tacsyn.proofs.Words.{rule_named, rule_unnamed, name_utf8}
use Rattle.dlk_tacsyn.proofs.kind.text_row_of.Goals as goal

pub returns-in_default-clause-none : goal.returns-in_default-clause-none
returns-in_default-clause-none c = absurd
    (c.in_default.ensures.cases.0 (subst IsUtf8 (sym c.bytes.ensures.bytes) (name_utf8 c.args.name.now c.is_name.ensures.name)))

pub returns-in-Some-clause-found : goal.returns-in-Some-clause-found
returns-in-Some-clause-found c = ap text_row_of (sym (c.in-Ok.ensures.cases.0 ∙ c.bytes.ensures.bytes)) ∙ c.in-Some.ensures.found

pub returns-in_default-of-clause-none : goal.returns-in_default-of-clause-none
returns-in_default-of-clause-none c =
    ap text_row_of (sym (c.in-Ok.ensures.cases.0 ∙ c.bytes.ensures.bytes)) ∙ c.in_default-own_row_of.ensures.none
    ∙ rule_unnamed c.in-Ok.text.now c.in_default-of.ensures.none

pub returns-clause-found : goal.returns-clause-found
returns-clause-found c =
    ap text_row_of (sym (c.in-Ok.ensures.cases.0 ∙ c.bytes.ensures.bytes)) ∙ c.in_default-own_row_of.ensures.none
    ∙ rule_named c.in-Ok.text.now c.in-Some-of.word c.in-Some-of.ensures.found
    ∙ ap (λ kinds. Some (wants kinds)) (ap kinds_of (sym c.shape.ensures) ∙ sym c.kinds_of.ensures) ∙ ap (λ row. Some row) (sym c.wants.ensures)
