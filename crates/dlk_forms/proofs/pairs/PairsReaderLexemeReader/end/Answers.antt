use Rattle.dlk_grammar.specs.declared.token.Dots.TheVariants.{Allowed}
use Rattle.dlk_machine.specs.Pairs.{pairs_reader}
use Rattle.dlk_forms.specs.PairReaders.{ShowsPairs}
use Rattle.dlk_forms.specs.Said.{IsCodeOfPairs}
use Rattle.dlk_forms.proofs.Parsing.{ends}
use Rattle.dlk_forms.proofs.pairs.PairsReaderLexemeReader.end.Goals as goal

pub returns : goal.returns
returns c = ends Allowed pairs_reader ShowsPairs IsCodeOfPairs c.args.self c.end.result c.end.ensures
