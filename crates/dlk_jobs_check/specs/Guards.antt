-- What `guard` answers to a model and a term.
use Rattle.std.specs.Prelude.{ℕ, List, [], ◌++◌, length, codes, decimal}
use Rattle.dlk_tree.specs.declared.op.OdeItem.TheVariants.{Const}
use Rattle.dlk_tree.specs.Statics.{prime}
use Rattle.dlk_calculus.specs.Provables.{Provable}
use Rattle.dlk_calculus.specs.Steps.{Step}
use Rattle.dlk_grammar.specs.Shown.{spell, variable, item_text}
use Rattle.dlk_guard.specs.declared.why.Why.{Why}
use Rattle.dlk_guard.specs.declared.why.Why.TheVariants.{OdeConstant, NotSmooth, NotEvolved, Primed, GhostNotSmooth, DifferentialContext, Dforall, RawFact}
use Rattle.dlk_guard.specs.Guarded.{lines, Guarded, FirstUnguarded}
use Rattle.dlk_print.specs.Lines.{line}
use Rattle.dlk_replies.specs.declared.reply.Layout.TheVariants.{Text}
use Rattle.dlk_replies.specs.Replies.{Reply, printing}
use Rattle.dlk_jobs_check.specs.Terms.{Replays, TakesTerm, RefusesTerm}
use Rattle.dlk_jobs_check.specs.Checks.{reported}

-- the word for why a line is unguarded, with the name that it is about. One row a reason.
abbrev pub guard_word : Why → List ℕ
-- the constant as it stands in a system
guard_word (OdeConstant s) = codes "di-constant " ++ spell (item_text (Const s) [])
guard_word NotSmooth = codes "di-not-smooth"
guard_word (NotEvolved x) = codes "di-not-evolved " ++ x
guard_word (Primed x) = codes "di-primed " ++ spell (variable (prime x))
guard_word GhostNotSmooth = codes "dg-not-smooth"
guard_word DifferentialContext = codes "differential-context"
guard_word Dforall = codes "dforall"
guard_word RawFact = codes "raw-fact"

abbrev pub guarded_line : List ℕ
guarded_line = line (codes "guarded")

-- unguarded line N: WHY
abbrev pub unguarded_line : ℕ → Why → List ℕ
unguarded_line n why = line (codes "unguarded line " ++ (decimal n ++ (codes ": " ++ guard_word why)))

-- the line of the guard: the steps of the term, each with the row that it gives, are guarded, or the first that isn't is named
pub data GuardSays (term : List ℕ) : List ℕ → Type 0 where
  is_guarded : (steps : List Step) (rows : List Provable) (p : Provable) → Replays term steps rows p → Guarded (lines steps rows) →
      GuardSays term guarded_line
  is_unguarded : (steps : List Step) (rows : List Provable) (p : Provable) → Replays term steps rows p → (n : ℕ) (why : Why) →
      FirstUnguarded (lines steps rows) n why → GuardSays term (unguarded_line n why)

-- a reply with a line before what it prints, and no file
abbrev pub with_line_first : List ℕ → Reply → Reply
with_line_first said reply = printing reply.status (said ++ reply.printed)

-- Guards model term reply: where the term is taken, the line of the guard and the report
pub data Guards (model term : List ℕ) : Reply → Type 0 where
  refuses : (reply : Reply) → RefusesTerm model term reply → Guards model term reply
  guards : (steps : List Step) (rows : List Provable) (p : Provable) → TakesTerm model term steps rows p → (said : List ℕ) → GuardSays term said →
      Guards model term (with_line_first said (reported Text p (length rows)))
