use Rattle.dlk_tree.specs.Trees.{Tree}
use Rattle.dlk_grammar.specs.Texts.{TreeText, TreeTextFault}
use Rattle.dlk_grammar.specs.declared.token.Form.TheVariants.{Formula}
use Rattle.dlk_grammar.specs.declared.token.Dots.TheVariants.{Refused}
use Rattle.dlk_machine.proofs.TextLaws.{tree_or_fault}
use Rattle.dlk_termtext.proofs.Refusals.{text_refused}
use Rattle.dlk_termtext.proofs.full.FullTextsSpelled.formula.Goals as goal

pub returns-in-Err-clause-fault : goal.returns-in-Err-clause-fault
returns-in-Err-clause-fault g c =
    rw c.line_fault.ensures (text_refused {holds = (h : Tree) → ¬ TreeText Formula Refused c.args.text.now h} (TreeTextFault Formula Refused c.args.text.now)
    (λ why f h is. tree_or_fault Formula Refused c.args.text.now h why is f) _ c.in-Err.ensures.fault)
