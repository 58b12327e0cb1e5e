use Rattle.std.proofs.Common.{Some, refl}
use Rattle.std.proofs.lemmas.Result.{err_from_is_err_and}
use Rattle.dlk_machine.specs.Machine.{step}
use Rattle.dlk_machine.specs.Pairs.{InRight, right_sort}
use Rattle.dlk_reader.specs.Shows.{seen, Shows}
use Rattle.dlk_forms.specs.PairReaders.{wants, ShowsPair}
use Rattle.dlk_forms.specs.declared.pairs.PairMode.TheVariants as pair
use Rattle.dlk_reader.proofs.Agree.{agrees_err, ok_maps}
use Rattle.dlk_forms.proofs.PairSteps.{keeps_pairs}
use Rattle.dlk_forms.proofs.pairs.PairsSoFar.right_step.Goals as goal

pub returns-in_err-mode : goal.returns-in_err-mode
returns-in_err-mode c = λ l x p h.
    let v = wants c.args.right in
    let w = err_from_is_err_and c.from_residual.result c.from_residual.ensures.1 in
    let new = record c.args.self.now { stack = c.step.new.self } in
    rw (w.1, w.2) (agrees_err (Shows c.step.new.self) (ShowsPair new l) c.in_err-mode.field-0.0 (step (right_sort v) x (seen c.args.lexeme))
    (λ y. Some (InRight v y)) (rw (c.right_sort-sort.ensures) at (c.in_err-mode.ensures x h)))

pub returns : goal.returns
returns c = λ l x p h.
    let v = wants c.args.right in
    let mode = c.in_ok-mode.mode in
    let new = record c.args.self.now { stack = c.step.new.self } in
    ok_maps (Shows c.step.new.self) (ShowsPair new l) mode (pair.InRight c.args.right mode) (step (right_sort v) x (seen c.args.lexeme)) (InRight v)
    (λ y k. record { inner = y; state = refl; pairs = keeps_pairs c.args.self.now c.step.new.self l p; shows = k })
    (rw (c.right_sort-sort.ensures) at (c.in_ok-mode.ensures x h))
