use Rattle.dlk_grammar.specs.Grammar.{ReadsSequent}
use Rattle.dlk_grammar.specs.Readings.{grammar}
use Rattle.dlk_grammar.specs.Substitutions.{ReadsSubstitution}
use Rattle.dlk_grammar.specs.Extras.{ReadsExtra}
use Rattle.dlk_machine.proofs.Stopping.{one_stop}
use Rattle.dlk_machine.proofs.laws.one_stop.Goals as goal

pub returns : goal.returns
returns c = record {
  trees = λ form d s i j x y. one_stop d (grammar form) x y;
  sequents = λ d s i j x y. one_stop d ReadsSequent x y;
  pairs = λ d s i j x y. one_stop d ReadsSubstitution x y;
  extras = λ d s i j x y. one_stop d ReadsExtra x y;
}
