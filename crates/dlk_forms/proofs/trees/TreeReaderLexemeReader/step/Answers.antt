use Rattle.dlk_grammar.specs.declared.token.Dots.{Dots}
use Rattle.dlk_grammar.specs.declared.token.Form.{Form}
use Rattle.dlk_machine.specs.Forms.{machine_of}
use Rattle.dlk_reader.specs.Outcomes.{leaving}
use Rattle.dlk_reader.specs.Shows.{seen}
use Rattle.dlk_forms.specs.Parsing.{Comes}
use Rattle.dlk_forms.specs.Readers.{ShowsTree, IsTreeCode}
use Rattle.dlk_forms.proofs.Parsing.{steps, steps_each, each}
use Rattle.dlk_forms.proofs.trees.TreeReaderLexemeReader.step.Goals as goal

pub returns : goal.returns
returns c =
    let comes = λ (d : Dots) (wanted : Form). Comes d (machine_of wanted) (ShowsTree d wanted) IsTreeCode in
    let k = seen c.args.lexeme in
    let left = leaving c.go_on.new.self c.go_on.result in
    steps_each (λ (d : Dots). each (comes d)) c.args.self.now k left (λ d. steps_each (comes d) c.args.self.now k left (λ wanted.
    steps d (machine_of wanted) (ShowsTree d wanted) IsTreeCode c.args.self.now k left (c.go_on.ensures d wanted)))
