use Rattle.std.proofs.Common.{◌≡◌, ◌∷◌, ◌-◌, true, false, sym, ap, subst, ◌∙◌}
use Rattle.dlk_nodes.specs.Details.{SpellsDot}
use Rattle.dlk_nodes.proofs.DetailLaws.{dot_found, dot_parts, no_dot, empty, some_left, none_left}
use Rattle.dlk_nodes.proofs.details.dot.Goals as goal

pub returns-in_default-clause-fault : goal.returns-in_default-clause-fault
returns-in_default-clause-fault c = λ n s. no_dot n (subst (λ t. SpellsDot t n) (empty _ c.in_default.ensures.cases) s)

pub returns-then-not-is_empty-clause-fault : goal.returns-then-not-is_empty-clause-fault
returns-then-not-is_empty-clause-fault c = λ n s.
    some_left _ c.if-not-is_empty.ensures (dot_parts c.in-Some.digit.now c.in-Some.rest.now n (subst (λ t. SpellsDot t n) c.in-Some.ensures.cases.0 s)).1

pub returns-then-not-is_dot_digit-clause-fault : goal.returns-then-not-is_dot_digit-clause-fault
returns-then-not-is_dot_digit-clause-fault c = λ n s.
    let w = dot_parts c.in-Some.digit.now c.in-Some.rest.now n (subst (λ t. SpellsDot t n) c.in-Some.ensures.cases.0 s) in
    let clash : false ≡ true = c.if-not-is_dot_digit.ensures ∙ w.0 in
    cc clash

pub returns-clause-found : goal.returns-clause-found
returns-clause-found c =
    let digit = c.in-Some.digit.now in
    subst (λ t. SpellsDot t (digit - 48)) (sym (c.in-Some.ensures.cases.0 ∙ ap (λ r. digit ∷ r) (none_left c.in-Some.rest.now c.if-not-is_empty.ensures)))
    (dot_found digit (sym c.if-not-is_dot_digit.ensures))
