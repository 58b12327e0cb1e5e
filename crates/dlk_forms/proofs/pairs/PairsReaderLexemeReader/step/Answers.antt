use Rattle.dlk_grammar.specs.declared.token.Dots.TheVariants.{Allowed}
use Rattle.dlk_machine.specs.Pairs.{pairs_reader}
use Rattle.dlk_reader.specs.Outcomes.{leaving}
use Rattle.dlk_reader.specs.Shows.{seen}
use Rattle.dlk_forms.specs.PairReaders.{ShowsPairs}
use Rattle.dlk_forms.specs.Said.{IsCodeOfPairs}
use Rattle.dlk_forms.proofs.Parsing.{steps}
use Rattle.dlk_forms.proofs.pairs.PairsReaderLexemeReader.step.Goals as goal

pub returns : goal.returns
returns c = steps Allowed pairs_reader ShowsPairs IsCodeOfPairs c.args.self.now (seen c.args.lexeme) (leaving c.go_on.new.self c.go_on.result) c.go_on.ensures
