use Rattle.dlk_lex.specs.Sources.{left_in}
use Rattle.dlk_reader.proofs.Tokens.{Reached}
use Rattle.dlk_reader.proofs.reading.read_up.Given as goal

-- what is left to read gives what all gives
abbrev pub invariant-loop-reader : goal.invariant-loop-reader
invariant-loop-reader g l = Reached g.R.LexemeReader.comes l.fn.reader l.fn.source.origin l.reader l.source

abbrev pub decreases-loop-reader : goal.decreases-loop-reader
decreases-loop-reader g l = left_in l.source
