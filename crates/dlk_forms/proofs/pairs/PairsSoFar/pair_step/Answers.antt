use Rattle.std.proofs.Common.{subst}
use Rattle.dlk_machine.specs.Pairs.{pair_step}
use Rattle.dlk_reader.specs.Shows.{seen}
use Rattle.dlk_forms.specs.PairReaders.{left_state, ShowsPair}
use Rattle.dlk_forms.specs.declared.pairs.PairMode.{PairMode}
use Rattle.dlk_forms.proofs.PairSteps.{left_agrees}
use Rattle.dlk_forms.proofs.pairs.PairsSoFar.pair_step.Goals as goal

pub returns-in-Left : goal.returns-in-Left
returns-in-Left c = λ l x h.
    let s = subst (λ (m : PairMode). ShowsPair c.args.self.now l m x) c.in-Left.is h in
    rw s.state (left_agrees c.args.self.now l s.rests c.left_step.result (pair_step (left_state c.in-Left.mode) (seen c.args.lexeme))
    c.left_step.ensures.agrees)

pub returns-in-LeftEnds : goal.returns-in-LeftEnds
returns-in-LeftEnds c = λ l x h.
    let s = subst (λ (m : PairMode). ShowsPair c.args.self.now l m x) c.in-LeftEnds.is h in
    rw s.state (c.right_begins.ensures c.args.self.now l s.rests)

pub returns-in-BraceWanted : goal.returns-in-BraceWanted
returns-in-BraceWanted c = λ l x h.
    let s = subst (λ (m : PairMode). ShowsPair c.args.self.now l m x) c.in-BraceWanted.is h in
    rw s.state (c.brace_step.ensures c.args.self.now l s.rests)
