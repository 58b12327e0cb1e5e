use Rattle.dlk_calculus.specs.Sequents.{Sequent}
use Rattle.dlk_grammar.specs.Texts.{SequentText, SequentTextFault}
use Rattle.dlk_machine.proofs.TextLaws.{sequent_or_fault}
use Rattle.dlk_termtext.proofs.Refusals.{text_refused}
use Rattle.dlk_termtext.proofs.full.FullTextsSpelled.sequent.Goals as goal

pub returns-in-Err-clause-fault : goal.returns-in-Err-clause-fault
returns-in-Err-clause-fault g c =
    rw c.line_fault.ensures (text_refused {holds = (s : Sequent) → ¬ SequentText c.args.text.now s} (SequentTextFault c.args.text.now)
    (λ why f s is. sequent_or_fault c.args.text.now s why is f) _ c.in-Err.ensures.fault)
