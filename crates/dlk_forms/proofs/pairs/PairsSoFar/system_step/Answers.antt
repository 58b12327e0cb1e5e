use Rattle.std.proofs.Common.{Some, sym, ◌∙◌}
use Rattle.std.proofs.lemmas.Result.{err_from_is_err_and}
use Rattle.dlk_tree.specs.declared.op.Sort.TheVariants.{Program}
use Rattle.dlk_machine.specs.Machine.{step}
use Rattle.dlk_machine.specs.Pairs.{system_state}
use Rattle.dlk_reader.specs.Shows.{seen, Shows}
use Rattle.dlk_forms.specs.PairReaders.{ShowsPair}
use Rattle.dlk_forms.specs.declared.pairs.PairMode.TheVariants as pair
use Rattle.dlk_forms.specs.declared.pairs.PairsSoFar.{PairsSoFar}
use Rattle.dlk_reader.proofs.Agree.{agrees_err, ok_maps}
use Rattle.dlk_forms.proofs.PairSteps.{keeps_pairs, system_domain, system_other, system_ends, in_system}
use Rattle.dlk_forms.proofs.pairs.PairsSoFar.system_step.Goals as goal

pub returns-then-is_and : goal.returns-then-is_and
returns-then-is_and c = λ l x p h. rw (system_domain c.args.symbol x (seen c.args.lexeme) (sym c.is_and.ensures ∙ c.if-is_and.true)) tt

pub returns-in_err-mode : goal.returns-in_err-mode
returns-in_err-mode c = λ l x p h.
    let w = err_from_is_err_and c.from_residual.result c.from_residual.ensures.1 in
    let new : PairsSoFar = record c.args.self.now { stack = c.step.new.self } in
    rw (w.1, w.2, system_other c.args.symbol x (seen c.args.lexeme) (sym c.is_and.ensures ∙ c.if-is_and.false))
    (agrees_err (Shows c.step.new.self) (ShowsPair new l) c.in_err-mode.field-0.0 (step Program x (seen c.args.lexeme))
    (λ y. Some (system_state c.args.symbol y)) (c.in_err-mode.ensures x h))

pub returns-then-is_system : goal.returns-then-is_system
returns-then-is_system c = λ l x p h.
    let new : PairsSoFar = record c.args.self.now { stack = c.step.new.self } in
    rw (system_other c.args.symbol x (seen c.args.lexeme) (sym c.is_and.ensures ∙ c.if-is_and.false))
    (ok_maps (Shows c.step.new.self) (ShowsPair new l) c.in_ok-mode.mode (pair.SystemEnds c.args.symbol) (step Program x (seen c.args.lexeme))
    (system_state c.args.symbol)
    (λ y k. system_ends new l c.args.symbol c.in_ok-mode.mode y (sym (c.is_system.ensures y k) ∙ c.if-is_system.true)
    (keeps_pairs c.args.self.now c.step.new.self l p) k) (c.in_ok-mode.ensures x h))

pub returns : goal.returns
returns c = λ l x p h.
    let new : PairsSoFar = record c.args.self.now { stack = c.step.new.self } in
    rw (system_other c.args.symbol x (seen c.args.lexeme) (sym c.is_and.ensures ∙ c.if-is_and.false))
    (ok_maps (Shows c.step.new.self) (ShowsPair new l) c.in_ok-mode.mode (pair.InSystem c.args.symbol c.in_ok-mode.mode)
    (step Program x (seen c.args.lexeme)) (system_state c.args.symbol)
    (λ y k. in_system new l c.args.symbol c.in_ok-mode.mode y (sym (c.is_system.ensures y k) ∙ c.if-is_system.false)
    (keeps_pairs c.args.self.now c.step.new.self l p) k) (c.in_ok-mode.ensures x h))
