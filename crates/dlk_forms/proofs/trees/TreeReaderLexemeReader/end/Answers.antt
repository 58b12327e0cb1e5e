use Rattle.dlk_grammar.specs.declared.token.Dots.{Dots}
use Rattle.dlk_grammar.specs.declared.token.Form.{Form}
use Rattle.dlk_machine.specs.Forms.{machine_of}
use Rattle.dlk_forms.specs.Parsing.{Comes}
use Rattle.dlk_forms.specs.Readers.{ShowsTree, IsTreeCode}
use Rattle.dlk_forms.proofs.Parsing.{ends, ends_each, each}
use Rattle.dlk_forms.proofs.trees.TreeReaderLexemeReader.end.Goals as goal

pub returns : goal.returns
returns c =
    let comes = λ (d : Dots) (wanted : Form). Comes d (machine_of wanted) (ShowsTree d wanted) IsTreeCode in
    ends_each (λ (d : Dots). each (comes d)) c.args.self c.whole.result (λ d. ends_each (comes d) c.args.self c.whole.result (λ wanted.
    ends d (machine_of wanted) (ShowsTree d wanted) IsTreeCode c.args.self c.whole.result (c.whole.ensures d wanted)))
