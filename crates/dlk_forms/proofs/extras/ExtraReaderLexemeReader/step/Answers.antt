use Rattle.dlk_grammar.specs.declared.token.Dots.TheVariants.{Allowed}
use Rattle.dlk_machine.specs.Extras.{extra_reader}
use Rattle.dlk_reader.specs.Outcomes.{leaving}
use Rattle.dlk_reader.specs.Shows.{seen}
use Rattle.dlk_forms.specs.ExtraReaders.{ShowsExtra}
use Rattle.dlk_forms.specs.Said.{IsCodeOfExtra}
use Rattle.dlk_forms.proofs.Parsing.{steps}
use Rattle.dlk_forms.proofs.extras.ExtraReaderLexemeReader.step.Goals as goal

pub returns : goal.returns
returns c = steps Allowed extra_reader ShowsExtra IsCodeOfExtra c.args.self.now (seen c.args.lexeme) (leaving c.go_on.new.self c.go_on.result) c.go_on.ensures
