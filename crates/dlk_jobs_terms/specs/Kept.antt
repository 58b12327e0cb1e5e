-- What a replay has shown that keeps the steps of a term, or of a lemma.
use Rattle.std.specs.Prelude.{◌≡◌, ℕ, List, length, map, All}
use Rattle.dlk_tree.specs.Trees.{Tree}
use Rattle.dlk_calculus.specs.Provables.{Provable}
use Rattle.dlk_replay.specs.declared.fault.Outcome.{Outcome}
use Rattle.dlk_rules.specs.Steps.{step_at, HasKnownIds}
use Rattle.dlk_sequent.specs.Sequents.{sequent_at, IsKnown}
use Rattle.dlk_jobs_check.specs.Terms.{Replays}
use Rattle.dlk_jobs_terms.specs.declared.taken.Lemma.{Lemma}

-- the term was replayed, which gave these rows by the steps that are kept; the fact is the last row, and the line is its line
pub record IsKept (trees : List Tree) (term : List ℕ) (rows : List Provable) (outcome : Outcome) : Type 0 where
  pub last : Provable
  pub replays : Replays term (map (step_at trees) outcome.steps.items) rows last
  pub line : outcome.line ≡ replays.accepts.line
  pub fact : outcome.fact ≡ length rows

-- a lemma was replayed: its steps, and what the last row concludes
pub record IsLemma (trees : List Tree) (text : List ℕ) (lemma : Lemma) : Type 0 where
  pub rows : List Provable
  pub last : Provable
  pub replays : Replays text (map (step_at trees) lemma.steps.items) rows last
  pub concludes : last.conclusion ≡ sequent_at trees lemma.concludes
  pub steps_known : All (HasKnownIds trees) lemma.steps.items
  pub known : IsKnown trees lemma.concludes
