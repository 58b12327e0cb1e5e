use Rattle.std.proofs.Common.{List}
use Rattle.dlk_calculus.specs.Pairs.{Pair}
use Rattle.dlk_grammar.specs.Texts.{PairsText, PairsTextFault}
use Rattle.dlk_machine.proofs.TextLaws.{pairs_or_fault}
use Rattle.dlk_termtext.proofs.Refusals.{text_refused}
use Rattle.dlk_termtext.proofs.full.FullTextsSpelled.pairs.Goals as goal

pub returns-in-Err-clause-fault : goal.returns-in-Err-clause-fault
returns-in-Err-clause-fault g c =
    rw c.line_fault.ensures (text_refused {holds = (pairs : List Pair) → ¬ PairsText c.args.text.now pairs} (PairsTextFault c.args.text.now)
    (λ why f pairs is. pairs_or_fault c.args.text.now pairs why is f) _ c.in-Err.ensures.fault)
