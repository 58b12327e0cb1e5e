-- The answer to a strategy that isn't read or doesn't end in a proof, by the error, and by why it is so.
use Rattle.std.specs.Prelude.{◌≡◌, ◌⊎◌, ℕ, List}
use Rattle.dlk_tacsyn.specs.Faults.{Fault, Syntax, Nesting, Repeat, UnknownAtom, Arguments}
use Rattle.dlk_tacsyn.specs.Strategies.{StrategyFault}
use Rattle.dlk_tacsyn.specs.declared.fault.TacSyntax.{TacSyntax}
use Rattle.dlk_tacsyn.specs.declared.fault.TacSyntax.TheVariants as syntax
use Rattle.dlk_elab.specs.declared.fault.FailWhy.{FailWhy}
use Rattle.dlk_strategy.specs.Runs.{Outcome, Fails, Budget}
use Rattle.dlk_strategy.specs.declared.fault.RunFault.{RunFault}
use Rattle.dlk_strategy.specs.declared.fault.RunFault.TheVariants as run
use Rattle.dlk_replies.specs.Replies.{Reply}
use Rattle.dlk_jobs_prove.specs.Proves.{strategy_refused, failed, over_budget}

-- the answer to a text with this fault; there is none for want of memory
abbrev pub IsStrategyRefused : TacSyntax → Reply → Type 0
IsStrategyRefused (syntax.Syntax at) reply = reply ≡ strategy_refused (Syntax at)
IsStrategyRefused (syntax.Nesting at) reply = reply ≡ strategy_refused (Nesting at)
IsStrategyRefused (syntax.Repeat at) reply = reply ≡ strategy_refused (Repeat at)
IsStrategyRefused (syntax.UnknownAtom at) reply = reply ≡ strategy_refused (UnknownAtom at)
IsStrategyRefused (syntax.Arguments at) reply = reply ≡ strategy_refused (Arguments at)
IsStrategyRefused syntax.Memory reply = ⊥

-- the answer to a run that ends so
abbrev pub IsRunRefused : RunFault → Reply → Type 0
IsRunRefused (run.Fails at why) reply = reply ≡ failed at why
IsRunRefused (run.Budget at) reply = reply ≡ over_budget at
IsRunRefused run.Memory reply = ⊥

-- the text is no strategy
abbrev pub RefusesStrategy : List ℕ → Reply → Type 0
RefusesStrategy text reply = (why : Fault) × StrategyFault text why × (reply ≡ strategy_refused why)

-- the run fails, or one more atom would be past the budget
abbrev pub RefusesRun : (Outcome → Type 0) → Reply → Type 0
RefusesRun becomes reply =
    ((at : ℕ) × (used : ℕ) × (why : FailWhy) × becomes (Fails at why used) × (reply ≡ failed at why)) ⊎
    ((at : ℕ) × becomes (Budget at) × (reply ≡ over_budget at))
