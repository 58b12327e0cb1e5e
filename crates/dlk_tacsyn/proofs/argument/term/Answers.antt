use Rattle.std.proofs.Common.{◌≡◌, Some, None, sym, ap, ◌∙◌}
use Rattle.dlk_tree.specs.Trees.{Tree}
use Rattle.dlk_grammar.specs.declared.token.Form.TheVariants.{Term}
use Rattle.dlk_grammar.specs.declared.token.Dots.TheVariants.{Refused}
use Rattle.dlk_grammar.specs.Texts.{TreeText, TreeTextFault}
use Rattle.dlk_tacsyn.specs.States.{ByReading}
use Rattle.dlk_tacsyn.proofs.Quoted.{text_read, text_unread, unread_fault}
use Rattle.dlk_tacsyn.proofs.argument.term.Goals as goal

pub returns-in-Ok-clause-found : goal.returns-in-Ok-clause-found
returns-in-Ok-clause-found g c = λ read reading.
    text_read (λ (e : Tree). TreeText Term Refused c.args.text.now e) (c.tree_texts.ensures.one Term Refused c.args.text.now)
    (read.term c.args.text.now) (reading.terms c.args.text.now) c.in-Ok.ensures.found.0 c.in-Ok.ensures.found.1
    ∙ ap (λ z. Some z) (sym c.in-Ok.ensures.found.2.tree_is)

pub returns-in-Err-clause-fault : goal.returns-in-Err-clause-fault
returns-in-Err-clause-fault g c =
    rw c.unread.ensures (
    unread_fault c.args.at (TreeTextFault Term Refused c.args.text.now) (ByReading (λ read. read.term c.args.text.now ≡ None))
    (λ w is read reading.
    text_unread (λ (e : Tree). TreeText Term Refused c.args.text.now e)
    (λ t r. c.tree_texts.ensures.no_fault Term Refused c.args.text.now t w r is) (read.term c.args.text.now) (reading.terms c.args.text.now))
    c.in-Err.fault c.in-Err.ensures.fault
    )
