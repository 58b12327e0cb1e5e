use Rattle.dlk_grammar.specs.declared.token.Dots.TheVariants.{Refused}
use Rattle.dlk_machine.specs.Sequents.{sequent_reader}
use Rattle.dlk_reader.specs.Outcomes.{leaving}
use Rattle.dlk_reader.specs.Shows.{seen}
use Rattle.dlk_forms.specs.Readers.{ShowsSides, IsCodeOf}
use Rattle.dlk_forms.proofs.Parsing.{steps}
use Rattle.dlk_forms.proofs.sides.SidesReaderLexemeReader.step.Goals as goal

pub returns : goal.returns
returns c = steps Refused sequent_reader ShowsSides IsCodeOf c.args.self.now (seen c.args.lexeme) (leaving c.go_on.new.self c.go_on.result)
    c.go_on.ensures.agrees
