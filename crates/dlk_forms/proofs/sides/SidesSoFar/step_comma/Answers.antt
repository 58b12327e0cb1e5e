use Rattle.std.proofs.Common.{[], refl}
use Rattle.std.proofs.lemmas.Result.{err_from_is_err_and}
use Rattle.dlk_tree.specs.declared.op.Sort.TheVariants.{Formula}
use Rattle.dlk_grammar.specs.Lexemes.{Comma}
use Rattle.dlk_grammar.specs.Phrases.{snoc}
use Rattle.dlk_machine.specs.Machine.{as_sort}
use Rattle.dlk_machine.specs.Sequents.{Reading, sequent_step}
use Rattle.dlk_reader.specs.Shows.{IsWhole}
use Rattle.dlk_reader.specs.Ends.{at_comma}
use Rattle.dlk_forms.specs.Readers.{ShowsBetween, ShowsSidesAt}
use Rattle.dlk_reader.proofs.Agree.{agrees_ok, agrees_err, agrees_memory}
use Rattle.dlk_reader.proofs.Commas.{goes_to, ends_at}
use Rattle.dlk_forms.proofs.Steps.{keeps_side}
use Rattle.dlk_forms.proofs.SideSteps.{next_formula, formula_at_comma, begins}
use Rattle.dlk_forms.proofs.sides.SidesSoFar.step_comma.Goals as goal

pub returns-in-GoesOn : goal.returns-in-GoesOn
returns-in-GoesOn c = λ w l x h.
    let k = c.at_comma.new.self in
    let r = goes_to k c.in-GoesOn.mode (at_comma Formula x) (rw c.in-GoesOn.is at (c.in_ok-mode.ensures x h.shows)) in
    rw (formula_at_comma w l x, r.1) (record {
      mode = c.in-GoesOn.mode;
      mode_is = refl;
      reading = record { side = keeps_side c.args.self.now k w l h.side; shows = r.2 };
    })

pub returns-in_err-settle_whole-in-Ends : goal.returns-in_err-settle_whole-in-Ends
returns-in_err-settle_whole-in-Ends c = λ w l x h.
    let new = record c.args.self.now { stack = c.settle_whole.new.self } in
    let r = ends_at c.at_comma.new.self c.in-Ends.last (at_comma Formula x) (rw c.in-Ends.is at (c.in_ok-mode.ensures x h.shows)) in
    let e = err_from_is_err_and c.from_residual-in_err-settle_whole-in-Ends.result c.from_residual-in_err-settle_whole-in-Ends.ensures.1 in
    rw (e.1, e.2, formula_at_comma w l x, r.1) (agrees_err {X = Unit {0}} (λ _ t. IsWhole c.settle_whole.new.self t)
    (ShowsSidesAt new) c.in_err-settle_whole-in-Ends.field-0.0 (as_sort Formula r.0) (next_formula w l)
    (c.in_err-settle_whole-in-Ends.ensures [] r.0 r.2))

pub returns-in_err-keep-in-Ends : goal.returns-in_err-keep-in-Ends
returns-in_err-keep-in-Ends c = λ w l x h.
    let r = ends_at c.at_comma.new.self c.in-Ends.last (at_comma Formula x) (rw c.in-Ends.is at (c.in_ok-mode.ensures x h.shows)) in
    let t = agrees_ok {X = Unit {0}} (λ _ t. IsWhole c.settle_whole.new.self t) tt (as_sort Formula r.0) (c.in_ok-settle_whole-in-Ends.ensures [] r.0 r.2) in
    let e = err_from_is_err_and c.from_residual-in_err-keep-in-Ends.result c.from_residual-in_err-keep-in-Ends.ensures.1 in
    rw (e.1, e.2) (agrees_memory {X = Unit {0}} (λ _ m. ShowsBetween c.keep.new.self w m)
    (ShowsSidesAt c.keep.new.self) c.in_err-keep-in-Ends.field-0.0 (snoc l t.0) (sequent_step (Reading w l x) Comma)
    (c.in_err-keep-in-Ends.ensures w l t.0 (keeps_side c.args.self.now c.settle_whole.new.self w l h.side) t.2))

pub returns-in_ok-keep-in-Ends : goal.returns-in_ok-keep-in-Ends
returns-in_ok-keep-in-Ends c = λ w l x h.
    let r = ends_at c.at_comma.new.self c.in-Ends.last (at_comma Formula x) (rw c.in-Ends.is at (c.in_ok-mode.ensures x h.shows)) in
    let t = agrees_ok {X = Unit {0}} (λ _ t. IsWhole c.settle_whole.new.self t) tt (as_sort Formula r.0) (c.in_ok-settle_whole-in-Ends.ensures [] r.0 r.2) in
    rw (formula_at_comma w l x, r.1, t.1) (begins c.keep.new.self w (snoc l t.0)
    (c.in_ok-keep-in-Ends.ensures w l t.0 (keeps_side c.args.self.now c.settle_whole.new.self w l h.side) t.2))
