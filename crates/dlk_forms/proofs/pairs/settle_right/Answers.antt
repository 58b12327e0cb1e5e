use Rattle.std.proofs.Common.{Some}
use Rattle.std.proofs.lemmas.Result.{err_from_is_err_and}
use Rattle.dlk_grammar.specs.Substitutions.{to}
use Rattle.dlk_machine.specs.Machine.{whole}
use Rattle.dlk_reader.specs.Shows.{IsWhole}
use Rattle.dlk_forms.specs.PairReaders.{IsPairOf}
use Rattle.dlk_reader.proofs.Agree.{agrees_err}
use Rattle.dlk_forms.proofs.pairs.settle_right.Goals as goal

pub returns-in_err-settle_whole-in-TextOf : goal.returns-in_err-settle_whole-in-TextOf
returns-in_err-settle_whole-in-TextOf c = λ S p h.
    let w = err_from_is_err_and c.from_residual-in_err-settle_whole-in-TextOf.result c.from_residual-in_err-settle_whole-in-TextOf.ensures.1 in
    rw (w.1, w.2, c.in-TextOf.is) (agrees_err {X = Unit {0}} (λ _ t. IsWhole c.settle_whole.new.self t)
    (IsPairOf c.settle_whole.new.self) c.in_err-settle_whole-in-TextOf.field-0.0 (whole c.in-TextOf.sort S p)
    (λ t. Some (to c.in-TextOf.symbol t)) (c.in_err-settle_whole-in-TextOf.ensures S p h))
