use Rattle.std.proofs.Common.{◌≤◌, List, [], length, arith}
use Rattle.dlk_calculus.specs.Steps.{Step}
use Rattle.dlk_nodes.specs.TermFiles.{all_nodes, term_text}
use Rattle.dlk_replay.specs.Formats.{SaysLine}
use Rattle.dlk_recorder.proofs.FewNodes.{few_nodes}
use Rattle.dlk_recorder.proofs.TakenWritable.{taken_steps_writable}
use Rattle.dlk_recorder.proofs.WholeFile as law
use Rattle.dlk_recorder.proofs.laws.recorded_is_accepted.Goals as goal

few : (steps : List Step) → length (term_text steps) ≤ 999999999 → length (all_nodes [] steps) ≤ 999999999
few steps short = let within = few_nodes steps in omega (arith, within, short)

pub returns : goal.returns
returns c = record {
  accepted = λ steps rows taken symbols some short.
      law.written_accepted SaysLine steps rows taken (taken_steps_writable steps rows taken symbols) (few steps short) some;
  steps = λ steps rows taken symbols short. law.written_says SaysLine steps rows taken (taken_steps_writable steps rows taken symbols) (few steps short);
}
