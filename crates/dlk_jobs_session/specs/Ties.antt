-- What the lines of a script over ids stand for, and their faults beside want of memory.
use Rattle.std.specs.Prelude.{ℕ, List, map, All}
use Rattle.dlk_tree.specs.Trees.{Tree}
use Rattle.dlk_store.specs.declared.Id.{Id}
use Rattle.dlk_store.specs.Stores.{StandsFor}
use Rattle.dlk_tacsyn.specs.Ties.{tactic_at}
use Rattle.dlk_tacsyn.specs.declared.fault.TacSyntax.{TacSyntax}
use Rattle.dlk_tacsyn.specs.declared.fault.TacSyntax.TheVariants as syntax
use Rattle.dlk_strategy.specs.Ties.{IsStrategy}
use Rattle.dlk_lines.specs.declared.fault.LineFault.{LineFault}
use Rattle.dlk_lines.specs.declared.fault.LineFault.TheVariants.{Malformed, Memory}
use Rattle.dlk_session.specs.Sessions.{Apply, Undo, Show, Save}
use Rattle.dlk_session.specs.Sessions.{Line as TheLine}
use Rattle.dlk_jobs_check.specs.Terms.{ModelText}
use Rattle.dlk_jobs_session.specs.Scripts.{Script}
use Rattle.dlk_jobs_session.specs.declared.script.Line.{Line}
use Rattle.dlk_jobs_session.specs.declared.script.Line.TheVariants as line
use Rattle.dlk_jobs_session.specs.declared.script.ScriptFault.{ScriptFault}
use Rattle.dlk_jobs_session.specs.declared.script.ScriptFault.TheVariants as fault

abbrev pub line_at : List Tree → Line → TheLine
line_at trees (line.Apply goal strategy) = Apply goal (tactic_at trees strategy)
line_at trees line.Undo = Undo
line_at trees line.Show = Show
line_at trees line.Save = Save

-- its ids are those of the store, and the atoms of its strategy those of a text
abbrev pub IsKnownLine : List Tree → Line → Type 0
IsKnownLine trees (line.Apply goal strategy) = IsStrategy trees strategy
IsKnownLine trees line.Undo = Unit {0}
IsKnownLine trees line.Show = Unit {0}
IsKnownLine trees line.Save = Unit {0}

-- a text that is no strategy makes its line Malformed
abbrev pub of_syntax : TacSyntax → LineFault
of_syntax (syntax.Syntax at) = Malformed
of_syntax (syntax.Nesting at) = Malformed
of_syntax (syntax.Repeat at) = Malformed
of_syntax (syntax.UnknownAtom at) = Malformed
of_syntax (syntax.Arguments at) = Malformed
of_syntax syntax.Memory = Memory

-- the error tells of this line; want of memory is free
abbrev pub IsScriptFaultOf : (ℕ → Type 0) → ScriptFault → Type 0
IsScriptFaultOf allowed (fault.Wrong n) = allowed n
IsScriptFaultOf allowed fault.Memory = Unit {0}

-- a model's formula and the lines of a script, read into a store
pub record AreRead (model script : List ℕ) (trees : List Tree) (id : Id) (lines : List Line) : Type 0 where
  pub formula : Tree
  pub reads : ModelText model formula
  pub stands : StandsFor trees id formula
  pub says : Script script (map (line_at trees) lines)
  pub known : All (IsKnownLine trees) lines
