use Rattle.std.proofs.Common.{◌≡◌, Err, ap}
use Rattle.std.proofs.lemmas.Result.{err_from_is_err_and}
use Rattle.dlk_lines.specs.declared.fault.LineFault.TheVariants.{Memory}
use Rattle.dlk_nodes.proofs.DetailLaws.{primed_parts, plain_spelled, primed_spelled, some_left, none_left}
use Rattle.dlk_nodes.proofs.details.variable.Goals as goal

pub returns-then-not-is_empty-clause-fault : goal.returns-then-not-is_empty-clause-fault
returns-then-not-is_empty-clause-fault c = λ v s. some_left _ c.if-not-is_empty.ensures (primed_parts c.args.text.now _ _ v c.in-Some.ensures.found s).nothing

pub returns-in_err-name-clause-memory : goal.returns-in_err-name-clause-memory
returns-in_err-name-clause-memory c =
    let e = err_from_is_err_and c.from_residual.result c.from_residual.ensures.1 in
    rw (e.1, e.2) (λ is. let why : c.in_err-name.field-0.0 ≡ Memory = cc is in plain_spelled c.args.text.now (c.in_err-name.ensures.memory (ap Err why)))

pub returns-in_err-name-2-clause-memory : goal.returns-in_err-name-2-clause-memory
returns-in_err-name-2-clause-memory c =
    let e = err_from_is_err_and c.from_residual-in_err-name-2.result c.from_residual-in_err-name-2.ensures.1 in
    rw (e.1, e.2) (λ is. let why : c.in_err-name-2.field-0.0 ≡ Memory = cc is in
    primed_spelled c.args.text.now _ _ c.in-Some.ensures.found (none_left _ c.if-not-is_empty.ensures) (c.in_err-name-2.ensures.memory (ap Err why)))
