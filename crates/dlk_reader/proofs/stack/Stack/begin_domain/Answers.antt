use Rattle.std.proofs.Common.{◌++◌, refl, sym, ap, ◌∙◌, append_assoc}
use Rattle.std.proofs.lemmas.Result.{err_from_is_err_and}
use Rattle.dlk_tree.specs.declared.op.Sort.TheVariants.{Term}
use Rattle.dlk_grammar.specs.declared.token.Infix.TheVariants.{And}
use Rattle.dlk_grammar.specs.Lexemes.{Op as Operator}
use Rattle.dlk_grammar.specs.Phrases.{Evolve, add}
use Rattle.dlk_machine.specs.Machine.{Inside, Evolves, Domain, as_sort, items_step, close}
use Rattle.dlk_reader.specs.declared.stack.Stack.{Stack}
use Rattle.dlk_reader.specs.declared.parts.Holder.TheVariants as holder
use Rattle.dlk_reader.specs.declared.parts.Part.TheVariants as part
use Rattle.dlk_reader.specs.Codes.{postfix_terms}
use Rattle.dlk_reader.specs.Shows.{piece_code, stack_code, Shows, Writes}
use Rattle.dlk_reader.proofs.Agree.{agrees_ok, agrees_err}
use Rattle.dlk_reader.proofs.HolderSteps.{evolves_err, settled_in}
use Rattle.dlk_reader.proofs.stack.Stack.begin_domain.Goals as goal

pub returns-in_err-settle : goal.returns-in_err-settle
returns-in_err-settle c = λ S n l p k m at.
    let w = err_from_is_err_and c.from_residual.result c.from_residual.ensures.1 in
    let before = stack_code S ++ postfix_terms l in
    let a = c.in_err-settle.ensures p before m (at.out ∙ sym (append_assoc (stack_code S) (postfix_terms l) (piece_code p))) in
    rw (w.1, w.2) (agrees_err {X = Unit {0}} (λ _ t. Writes c.settle.new.out.items before t)
    (Shows (record { parts = c.args.self.now.parts; out = c.settle.new.out })) c.in_err-settle.field-0.0 (as_sort Term p)
    (λ t. items_step S n (add l (Evolve c.args.name t)) (Operator And)) a)

pub returns-in_err-equations : goal.returns-in_err-equations
returns-in_err-equations c = λ S n l p k m at.
    let r = c.from_residual-in_err-equations in
    let w = err_from_is_err_and r.result r.ensures.1 in
    rw (w.1, w.2) (evolves_err (Shows (record { parts = c.args.self.now.parts; out = c.settle.new.out })) c.args.equations c.args.name n l
    c.in_err-equations.field-0.0 (close (Operator And) (Evolves n l c.args.name) S p) k c.in_err-equations.ensures)

pub returns : goal.returns
returns c = λ S n l p k m at.
    let before = stack_code S ++ postfix_terms l in
    let a = c.in_ok-settle.ensures p before m (at.out ∙ sym (append_assoc (stack_code S) (postfix_terms l) (piece_code p))) in
    let w = agrees_ok {X = Unit {0}} (λ _ t. Writes c.settle.new.out.items before t) tt (as_sort Term p) a in
    let mid : Stack = record { parts = c.args.self.now.parts; out = c.settle.new.out } in
    let e = c.in_ok-equations.ensures n l (Evolve c.args.name w.0) k refl in
    rw w.1 (c.open.ensures S (Inside (Domain n (add l (Evolve c.args.name w.0)))) (ap (λ x. part.Inside (holder.Domain x)) e)
    (settled_in S (Evolves n l c.args.name) w.0 c.args.self.now mid (piece_code p) at refl w.2))
