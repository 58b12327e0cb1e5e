use Rattle.dlk_grammar.specs.Grammar.{ReadsSequent}
use Rattle.dlk_grammar.specs.Readings.{grammar}
use Rattle.dlk_grammar.specs.Substitutions.{ReadsSubstitution}
use Rattle.dlk_grammar.specs.Extras.{ReadsExtra}
use Rattle.dlk_machine.proofs.Stopping.{said_nowhere}
use Rattle.dlk_machine.proofs.laws.no_stop.Goals as goal

pub returns : goal.returns
returns c = record {
  trees = λ form d s p i x y. said_nowhere d (grammar form) p x y;
  sequents = λ d s p i x y. said_nowhere d ReadsSequent p x y;
  pairs = λ d s p i x y. said_nowhere d ReadsSubstitution p x y;
  extras = λ d s p i x y. said_nowhere d ReadsExtra p x y;
}
