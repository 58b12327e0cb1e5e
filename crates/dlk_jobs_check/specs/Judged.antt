-- What is found of a model and of a term, one after the other: how each is refused, and what a term that is replayed or taken has shown.
use Rattle.std.specs.Prelude.{◌≡◌, ◌≢◌, ℕ, List, length}
use Rattle.dlk_tree.specs.Trees.{Tree}
use Rattle.dlk_calculus.specs.Provables.{Provable}
use Rattle.dlk_calculus.specs.Steps.{Step}
use Rattle.dlk_grammar.specs.Texts.{TextFault}
use Rattle.dlk_guard.specs.Guarded.{Line, lines}
use Rattle.dlk_guard.specs.Watched.{after_all}
use Rattle.dlk_replay.specs.Files.{Verdict, bad, file_lines}
use Rattle.dlk_replay.specs.declared.fault.Ending.{Ending}
use Rattle.dlk_replay.specs.declared.fault.LineWhy.{LineWhy}
use Rattle.dlk_replay.specs.declared.fault.ReplayFault.{ReplayFault}
use Rattle.dlk_replay.specs.declared.fault.ReplayFault.TheVariants.{Bad, Memory}
use Rattle.dlk_replies.specs.declared.ended.Ended.{Ended}
use Rattle.dlk_replies.specs.declared.ended.Ended.TheVariants as end
use Rattle.dlk_replies.specs.declared.form.Role.TheVariants.{Model}
use Rattle.dlk_replies.specs.Ended.{EndsIn}
use Rattle.dlk_replies.specs.Replies.{Reply}
use Rattle.dlk_replies.specs.Refusals.{text_refused}
use Rattle.dlk_jobs_check.specs.Terms.{ModelFault, proves, refused_line, other_conclusion, Replays, TakesTerm}

-- the model is none
abbrev pub RefusesModel : List ℕ → Reply → Type 0
RefusesModel model reply = (why : TextFault) × ModelFault model why × (reply ≡ text_refused Model why)

-- the first wrong line of a term; the words say of which term it is
abbrev pub RefusesLine : List ℕ → List ℕ → Reply → Type 0
RefusesLine words term reply = (n : ℕ) × (why : LineWhy) × Verdict (file_lines term) (bad n why) × (reply ≡ refused_line words n why)

-- the provable, by this line, shows another sequent than that of the formula
abbrev pub RefusesConclusion : Tree → ℕ → Provable → Reply → Type 0
RefusesConclusion f line p reply = (p.conclusion ≢ proves f) × (reply ≡ other_conclusion line f p.conclusion)

-- the end by this fault of a term
abbrev pub IsTermRefused : List ℕ → ReplayFault → Ended → Type 0
IsTermRefused words (Bad line why) ended = EndsIn (λ reply. reply ≡ refused_line words line why) ended
IsTermRefused words Memory ended = ended ≡ end.Memory

-- the number of the last row, and how many rows there are
pub record Counts (rows : List Provable) (ending : Ending) : Type 0 where
  pub fact : ending.fact ≡ length rows
  pub lines : ending.lines ≡ length rows

-- the term was replayed while a watcher looked on
pub record IsReplayed {V : Type 0} (after : V → Line → V) (term : List ℕ) (rows : List Provable) (ending : Ending) (old new : V) : Type 0 where
  pub steps : List Step
  pub last : Provable
  pub replays : Replays term steps rows last
  pub line : ending.line ≡ replays.accepts.line
  pub seen : new ≡ after_all after old (lines steps rows)
  pub counts : Counts rows ending

-- the term was taken for the model while a watcher looked on
pub record IsTaken {V : Type 0} (after : V → Line → V) (model term : List ℕ) (rows : List Provable) (ending : Ending) (old new : V) : Type 0 where
  pub steps : List Step
  pub last : Provable
  pub takes : TakesTerm model term steps rows last
  pub seen : new ≡ after_all after old (lines steps rows)
  pub counts : Counts rows ending
