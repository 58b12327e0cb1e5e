use Rattle.dlk_grammar.specs.declared.token.Dots.TheVariants.{Allowed}
use Rattle.dlk_machine.specs.Extras.{extra_reader}
use Rattle.dlk_forms.specs.ExtraReaders.{ShowsExtra}
use Rattle.dlk_forms.specs.Said.{IsCodeOfExtra}
use Rattle.dlk_forms.proofs.Parsing.{ends}
use Rattle.dlk_forms.proofs.extras.ExtraReaderLexemeReader.end.Goals as goal

pub returns : goal.returns
returns c = ends Allowed extra_reader ShowsExtra IsCodeOfExtra c.args.self c.end.result c.end.ensures
