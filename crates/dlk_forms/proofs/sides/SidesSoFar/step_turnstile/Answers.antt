use Rattle.std.proofs.lemmas.Result.{err_from_is_err_and}
use Rattle.dlk_tree.specs.declared.op.Sort.TheVariants.{Formula}
use Rattle.dlk_grammar.specs.Phrases.{snoc}
use Rattle.dlk_machine.specs.Machine.{ended}
use Rattle.dlk_machine.specs.Sequents.{turn}
use Rattle.dlk_forms.specs.Readers.{ShowsBetween, ShowsSidesAt}
use Rattle.dlk_forms.proofs.SideSteps.{finished_ok, finished_err, inside_shown}
use Rattle.dlk_forms.proofs.sides.SidesSoFar.step_turnstile.Goals as goal

pub returns-in_err-finish : goal.returns-in_err-finish
returns-in_err-finish c = λ x h.
    let s = inside_shown c.args.self.now c.args.mode c.in-Some.mode x c.in-Some.is h in
    let e = err_from_is_err_and c.from_residual.result c.from_residual.ensures.1 in
    rw (e.1, e.2, s.3) (finished_err {W = _} (λ _ m. ShowsBetween c.finish.new.self s.0 m)
    (ShowsSidesAt c.finish.new.self) c.in_err-finish.field-0.0 s.1 (ended Formula s.2) (λ t. turn s.0 (snoc s.1 t))
    (c.in_err-finish.ensures s.0 s.1 s.2 s.4))

pub returns : goal.returns
returns c = λ x h.
    let s = inside_shown c.args.self.now c.args.mode c.in-Some.mode x c.in-Some.is h in
    let t = finished_ok c.finish.new.self s.0 s.1 s.2 (c.in_ok-finish.ensures s.0 s.1 s.2 s.4) in
    rw (s.3, t.1) (c.turn-2.ensures.agrees s.0 (snoc s.1 t.0) t.2)
