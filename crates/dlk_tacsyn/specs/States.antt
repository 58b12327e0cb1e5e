-- What the machine over ids stands for.
use Rattle.std.specs.Prelude.{List, map, fold, All}
use Rattle.dlk_tree.specs.Trees.{Tree}
use Rattle.dlk_tacsyn.specs.declared.frame.Frame.{Frame}
use Rattle.dlk_tacsyn.specs.declared.frame.Brackets.{Brackets}
use Rattle.dlk_tacsyn.specs.declared.reader.Pending.{Pending}
use Rattle.dlk_tacsyn.specs.declared.reader.Pending.TheVariants as pending
use Rattle.dlk_tacsyn.specs.declared.reader.Reader.{Reader}
use Rattle.dlk_tacsyn.specs.Strategies.{Reading, IsReading}
use Rattle.dlk_tacsyn.specs.Ties.{tactic_at, TacticIsKnown}
use Rattle.dlk_tacsyn.specs.Steps.{Frame as TreeFrame, Stack, bottom, within, Pending as TreePending, Nothing, Named, Called, Whole, State, state}

-- it holds, however the quoted texts are read
abbrev pub ByReading : (Reading → Type 0) → Type 0
ByReading holds = (read : Reading) → IsReading read → holds read

-- a bracket over the trees of its ids
abbrev pub frame_at : List Tree → Frame → TreeFrame
frame_at trees f = record {
  opened = f.opened;
  level = f.level;
  branches = map (tactic_at trees) f.branches.items;
  choices = map (tactic_at trees) f.choices.items;
  steps = map (tactic_at trees) f.steps.items;
}

abbrev pub stack_at : List Tree → List Frame → Stack
stack_at trees frames = fold (λ s f. within s (frame_at trees f)) bottom frames

abbrev pub pending_at : List Tree → Pending → TreePending
pending_at trees pending.Nothing = Nothing
pending_at trees (pending.Named at x) = Named at x
pending_at trees (pending.Called call) = Called call
pending_at trees (pending.Whole t) = Whole (tactic_at trees t)

abbrev pub state_at : List Tree → Reader → State
state_at trees r = state (stack_at trees r.brackets.outer.items) (frame_at trees r.brackets.inner) (pending_at trees r.last)

-- its ids are those of the store
pub record FrameIsKnown (trees : List Tree) (f : Frame) : Type 0 where
  pub branches : All (TacticIsKnown trees) f.branches.items
  pub choices : All (TacticIsKnown trees) f.choices.items
  pub steps : All (TacticIsKnown trees) f.steps.items

pub record BracketsAreKnown (trees : List Tree) (b : Brackets) : Type 0 where
  pub outer : All (FrameIsKnown trees) b.outer.items
  pub inner : FrameIsKnown trees b.inner

abbrev pub PendingIsKnown : List Tree → Pending → Type 0
PendingIsKnown trees pending.Nothing = Unit {0}
PendingIsKnown trees (pending.Named at x) = Unit {0}
PendingIsKnown trees (pending.Called call) = Unit {0}
PendingIsKnown trees (pending.Whole t) = TacticIsKnown trees t

pub record ReaderIsKnown (trees : List Tree) (r : Reader) : Type 0 where
  pub brackets : BracketsAreKnown trees r.brackets
  pub last : PendingIsKnown trees r.last
