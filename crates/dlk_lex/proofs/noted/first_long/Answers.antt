use Rattle.dlk_grammar.specs.Readings.{IsLong}
use Rattle.dlk_lex.proofs.FirstTokens.{none_more, fails_from}
use Rattle.dlk_lex.proofs.noted.first_long.Goals as goal

pub returns : goal.returns
returns c seen h = none_more IsLong seen c.args.token.now c.args.long c.in_default.is (fails_from c.is_long.ensures c.if-is_long.false) h
