use Rattle.std.proofs.Common.{refl, arith}
use Rattle.dlk_grammar.specs.Readings.{IsLong, OpensTooDeep}
use Rattle.dlk_lex.proofs.FirstTokens.{none_yet}
use Rattle.dlk_lex.proofs.noted.Noted.new.Goals as goal

pub returns : goal.returns
returns c = record {
  starts = c.new.ensures.items;
  long = none_yet IsLong;
  levels = record { low = omega arith; deep = none_yet OpensTooDeep; level = λ e. refl };
}
