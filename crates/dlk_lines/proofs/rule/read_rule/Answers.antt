use Rattle.std.proofs.Common.{◌≡◌, Err, sym, ap, subst, ◌∙◌}
use Rattle.std.proofs.lemmas.Result.{err_from_is_err_and}
use Rattle.dlk_lines.specs.declared.fault.LineFault.TheVariants.{Memory}
use Rattle.dlk_lines.specs.Parts.{Bracketed}
use Rattle.dlk_lines.specs.Wants.{ArgumentsWant}
use Rattle.dlk_lines.proofs.Forms.{no_brackets, no_word, no_arguments, called_rule}
use Rattle.dlk_lines.proofs.Refusals.{fault_of_whole}
use Rattle.dlk_lines.proofs.rule.read_rule.Goals as goal

pub returns-in_default-clause-fault : goal.returns-in_default-clause-fault
returns-in_default-clause-fault g c = no_brackets _ c.args.text.now c.in_default.ensures.none

pub returns-in_default-of_bytes-clause-fault : goal.returns-in_default-of_bytes-clause-fault
returns-in_default-of_bytes-clause-fault g c =
    no_word _ c.args.text.now _ _ c.in-Some.ensures.found c.in_default-of_bytes.ensures.none

pub returns-in_err-arguments-clause-fault : goal.returns-in_err-arguments-clause-fault
returns-in_err-arguments-clause-fault g c =
    let e = err_from_is_err_and c.from_residual.result c.from_residual.ensures.1 in
    let same = c.in-Some-of_bytes.ensures.found in
    rw (e.1, e.2)
    (fault_of_whole (no_arguments _ c.args.text.now _ _ c.in-Some-of_bytes.word _ c.in-Some.ensures.found same c.shape.ensures) _
    c.in_err-arguments.ensures.fault)

pub returns-in-Some-rule-clause-found : goal.returns-in-Some-rule-clause-found
returns-in-Some-rule-clause-found g c =
    let same = c.in-Some-of_bytes.ensures.found in
    called_rule _ _ c.args.text.now _ _ _ _ _ c.in-Some.ensures.found same c.in_ok-arguments.ensures.found
    (c.in-Some-rule.ensures (g.S.Store.trees c.read_arguments.new.store))

pub returns-in-Some-rule-clause-known : goal.returns-in-Some-rule-clause-known
returns-in-Some-rule-clause-known g c = (c.in-Some-rule.ensures (g.S.Store.trees c.read_arguments.new.store)).known c.in_ok-arguments.ensures.known

pub returns-in-None-clause-fault : goal.returns-in-None-clause-fault
returns-in-None-clause-fault g c = absurd (c.in-None.ensures (c.in_ok-arguments.ensures.shape ∙ c.shape.ensures))

pub returns-in_err-arguments-clause-memory : goal.returns-in_err-arguments-clause-memory
returns-in_err-arguments-clause-memory g c =
    let e = err_from_is_err_and c.from_residual.result c.from_residual.ensures.1 in
    let same = c.in-Some-of_bytes.ensures.found in
    rw (e.1, e.2) (λ is. let why : c.in_err-arguments.field-0.0 ≡ Memory = cc is in record {
      word = c.in-Some-of_bytes.word;
      arguments = c.in-Some.arguments.now;
      text_is = subst (λ w. Bracketed c.args.text.now w c.in-Some.arguments.now) (sym same) c.in-Some.ensures.found;
      arguments_want = subst (λ s. ArgumentsWant s c.in-Some.arguments.now) c.shape.ensures (c.in_err-arguments.ensures.memory (ap Err why));
    })
