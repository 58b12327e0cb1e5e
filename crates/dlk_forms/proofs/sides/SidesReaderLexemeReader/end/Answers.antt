use Rattle.dlk_grammar.specs.declared.token.Dots.TheVariants.{Refused}
use Rattle.dlk_machine.specs.Sequents.{sequent_reader}
use Rattle.dlk_forms.specs.Readers.{ShowsSides, IsCodeOf}
use Rattle.dlk_forms.proofs.Parsing.{ends}
use Rattle.dlk_forms.proofs.sides.SidesReaderLexemeReader.end.Goals as goal

pub returns : goal.returns
returns c = ends Refused sequent_reader ShowsSides IsCodeOf c.args.self c.end.result c.end.ensures
