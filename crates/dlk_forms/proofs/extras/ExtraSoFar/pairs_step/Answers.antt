use Rattle.std.proofs.Common.{Some, refl}
use Rattle.std.proofs.lemmas.Result.{err_from_is_err_and}
use Rattle.dlk_machine.specs.Pairs.{pairs_step}
use Rattle.dlk_machine.specs.Extras.{InPairs}
use Rattle.dlk_reader.specs.Shows.{seen}
use Rattle.dlk_forms.specs.PairReaders.{ShowsWithin}
use Rattle.dlk_forms.specs.ExtraReaders.{ShowsExtraAt}
use Rattle.dlk_forms.specs.declared.extras.ExtraMode.TheVariants as extra
use Rattle.dlk_forms.specs.declared.extras.ExtraSoFar.{ExtraSoFar}
use Rattle.dlk_reader.proofs.Agree.{agrees_err, ok_maps}
use Rattle.dlk_forms.proofs.extras.ExtraSoFar.pairs_step.Goals as goal

pub returns-in_err-mode : goal.returns-in_err-mode
returns-in_err-mode c = λ x h.
    let n = c.args.self.now.renames.items in
    let w = err_from_is_err_and c.from_residual.result c.from_residual.ensures.1 in
    let new : ExtraSoFar = record c.args.self.now { pairs = c.step.new.self } in
    rw (w.1, w.2) (agrees_err (ShowsWithin c.step.new.self) (ShowsExtraAt new) c.in_err-mode.field-0.0 (pairs_step x (seen c.args.lexeme))
    (λ y. Some (InPairs n y)) (c.in_err-mode.ensures x h))

pub returns : goal.returns
returns c = λ x h.
    let n = c.args.self.now.renames.items in
    let mode = c.in_ok-mode.mode in
    let new : ExtraSoFar = record c.args.self.now { pairs = c.step.new.self } in
    ok_maps (ShowsWithin c.step.new.self) (ShowsExtraAt new) mode (extra.InPairs (Some mode)) (pairs_step x (seen c.args.lexeme)) (InPairs n)
    (λ y k. record { inner = y; state = refl; shows = k }) (c.in_ok-mode.ensures x h)
