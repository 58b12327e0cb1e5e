use Rattle.std.proofs.lemmas.Result.{err_from_is_err_and}
use Rattle.dlk_grammar.specs.Phrases.{none, snoc}
use Rattle.dlk_forms.specs.Readers.{ShowsBetween, IsCodeOf}
use Rattle.dlk_forms.proofs.SideSteps.{finished_ok, inside_shown, between_shown, both_ended, fresh_ended, unfinished}
use Rattle.dlk_forms.proofs.sides.SidesSoFar.end.Goals as goal

pub returns-in_default : goal.returns-in_default
returns-in_default c = λ x h.
    let s = between_shown c.args.self c.args.mode x c.in_default.is h in
    rw (s.1, fresh_ended s.0) (c.both.ensures.agrees s.0 none s.2)

pub returns-in_err-finish : goal.returns-in_err-finish
returns-in_err-finish c = λ x h.
    let s = inside_shown c.args.self c.args.mode c.in-Some.mode x c.in-Some.is h in
    let e = err_from_is_err_and c.from_residual.result c.from_residual.ensures.1 in
    rw (e.1, e.2, s.3) (unfinished (λ _ m. ShowsBetween c.finish.new.self s.0 m) IsCodeOf c.in_err-finish.field-0.0 s.0 s.1 s.2
    (c.in_err-finish.ensures s.0 s.1 s.2 s.4))

pub returns : goal.returns
returns c = λ x h.
    let s = inside_shown c.args.self c.args.mode c.in-Some.mode x c.in-Some.is h in
    let t = finished_ok c.finish.new.self s.0 s.1 s.2 (c.in_ok-finish.ensures s.0 s.1 s.2 s.4) in
    rw (s.3, both_ended s.0 s.1 s.2 t.0 t.1) (c.both-2.ensures.agrees s.0 (snoc s.1 t.0) t.2)
