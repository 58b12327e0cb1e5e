use Rattle.std.proofs.Common.{Option, [], refl, subst}
use Rattle.dlk_machine.specs.Pairs.{Begins, pair_step}
use Rattle.dlk_reader.specs.Shows.{seen}
use Rattle.dlk_forms.specs.PairReaders.{ShowsPairsAt}
use Rattle.dlk_forms.specs.declared.pairs.PairMode.{PairMode}
use Rattle.dlk_forms.proofs.PairSteps.{within_shown, within_other}
use Rattle.dlk_forms.proofs.pairs.PairsSoFar.step.Goals as goal

pub returns-in_default : goal.returns-in_default
returns-in_default c = λ x h.
    let s = subst (λ (m : Option PairMode). ShowsPairsAt c.args.self.now m x) c.in_default.is h in
    rw s.state (within_shown c.pair_step.new.self [] c.pair_step.result (pair_step Begins (seen c.args.lexeme))
    (c.pair_step.ensures [] Begins (record { state = refl; rests = s.rests })))

pub returns : goal.returns
returns c = λ x h.
    let s = subst (λ (m : Option PairMode). ShowsPairsAt c.args.self.now m x) c.in-Some.is h in
    rw (s.state, within_other s.pairs s.pair c.args.lexeme c.in_default-lexeme.not-Comma)
    (within_shown c.pair_step-2.new.self s.pairs c.pair_step-2.result (pair_step s.pair (seen c.args.lexeme))
    (c.pair_step-2.ensures s.pairs s.pair s.shows))
