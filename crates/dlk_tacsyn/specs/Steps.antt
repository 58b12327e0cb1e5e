-- Strategies part by part: a machine that keeps what is open. It answers what the definition says of the parts of a script.
use Rattle.std.specs.Prelude.{ℕ, ◌+◌, List, [], ◌∷◌, ◌++◌, Option, Some, None}
use Rattle.dlk_sequent.specs.declared.sequent.Place.TheVariants.{Ante, Succ}
use Rattle.dlk_scripts.specs.declared.part.Part.{Part}
use Rattle.dlk_scripts.specs.declared.part.PartKind.{PartKind}
use Rattle.dlk_scripts.specs.declared.part.PartKind.TheVariants as kind
use Rattle.dlk_tacsyn.specs.declared.argument.Written.{Written}
use Rattle.dlk_tacsyn.specs.declared.argument.Written.TheVariants as written
use Rattle.dlk_tacsyn.specs.declared.argument.Current.{Current}
use Rattle.dlk_tacsyn.specs.declared.argument.Current.TheVariants as current
use Rattle.dlk_tacsyn.specs.declared.argument.OpenAtom.{OpenAtom}
use Rattle.dlk_tacsyn.specs.declared.frame.Opened.{Opened}
use Rattle.dlk_tacsyn.specs.declared.frame.Opened.TheVariants.{Group, Fork}
use Rattle.dlk_tacsyn.specs.Tactics.{Tactic, Choice, Sequence, Branch}
use Rattle.dlk_tacsyn.specs.Faults.{Syntax}
use Rattle.dlk_tacsyn.specs.Strategies.{Outcome, Reading, Says, Fails, ◌>>=◌, parts, whole, opened, repeated, atom_of}

-- an open bracket: what stands in it before the last `,`, then before the last `|`, then before the last `;`
pub record Frame : Type 0 where
  pub opened : Opened
  pub level : ℕ
  pub branches : List Tactic
  pub choices : List Tactic
  pub steps : List Tactic

-- the open brackets round one
pub data Stack : Type 0 where
  bottom : Stack
  within : Stack → Frame → Stack

-- what stands behind the last `;`, `|`, `,` or bracket
pub data Pending : Type 0 where
  Nothing : Pending
  Named : ℕ → List ℕ → Pending
  Called : OpenAtom → Pending
  Whole : Tactic → Pending

pub record State : Type 0 where
  pub outer : Stack
  pub inner : Frame
  pub last : Pending

abbrev pub state : Stack → Frame → Pending → State
state outer inner last = record { outer = outer; inner = inner; last = last }

abbrev pub empty_frame : Opened → ℕ → Frame
empty_frame by level = record { opened = by; level = level; branches = []; choices = []; steps = [] }

abbrev pub start : State
start = state bottom (empty_frame Group 0) Nothing

abbrev pub end_step : Frame → Tactic → Frame
end_step f t = record { opened = f.opened; level = f.level; branches = f.branches; choices = f.choices; steps = f.steps ++ t ∷ [] }

abbrev pub end_sequence : Frame → Tactic → Frame
end_sequence f t =
    record { opened = f.opened; level = f.level; branches = f.branches; choices = f.choices ++ whole Sequence (f.steps ++ t ∷ []) ∷ []; steps = [] }

abbrev pub end_choice : Frame → Tactic → Frame
end_choice f t = record {
  opened = f.opened;
  level = f.level;
  branches = f.branches ++ whole Choice (f.choices ++ whole Sequence (f.steps ++ t ∷ []) ∷ []) ∷ [];
  choices = [];
  steps = [];
}

-- what stood in the bracket as one strategy
abbrev pub closed : Opened → List Tactic → Tactic
closed Group ts = whole Choice ts
closed (Fork at) ts = Branch at (parts ts)

abbrev pub behind_close : ℕ → Stack → Frame → Outcome State
behind_close at bottom f = Fails (Syntax at)
behind_close at (within outer g) f = Says (state outer g (Whole (closed f.opened f.branches)))

abbrev pub behind_open : ℕ → Stack → Frame → Opened → Outcome State
behind_open at outer f by = opened f.level at (Says (state (within outer f) (empty_frame by (f.level + 1)) Nothing))

-- what stands in the brackets of an atom, with one part more
abbrev pub with_part : PartKind → Current → Option Current
with_part (kind.Name x) current.Nothing = Some (current.Given (written.Word x))
with_part kind.AnyLeft current.Nothing = Some (current.Given written.AnyLeft)
with_part kind.AnyRight current.Nothing = Some (current.Given written.AnyRight)
with_part (kind.Quoted s) current.Nothing = Some (current.Given (written.Quoted s))
with_part kind.Minus current.Nothing = Some current.Minus
with_part (kind.Number n) current.Nothing = Some (current.Given (written.At (Succ n) []))
with_part (kind.Number n) current.Minus = Some (current.Given (written.At (Ante n) []))
with_part kind.Point (current.Given w) = Some (current.Given w)
with_part (kind.Number n) (current.Given (written.At place path)) = Some (current.Given (written.At place (path ++ n ∷ [])))
with_part _ _ = None

abbrev pub with_current : OpenAtom → Current → OpenAtom
with_current c x = record { at = c.at; name = c.name; before = c.before; current = x }

-- the arguments of an atom whose bracket closes, or that goes on with `,`
abbrev pub given : List Written → Current → Option (List Written)
given ws current.Nothing = None
given ws current.Minus = None
given ws (current.Given w) = Some (ws ++ w ∷ [])

abbrev pub after_nothing : ℕ → PartKind → Stack → Frame → Outcome State
after_nothing at (kind.Name x) outer f = Says (state outer f (Named at x))
after_nothing at kind.Open outer f = behind_open at outer f Group
after_nothing at kind.Fork outer f = behind_open at outer f (Fork at)
after_nothing at _ outer f = Fails (Syntax at)

abbrev pub after_whole : ℕ → PartKind → Stack → Frame → Tactic → Outcome State
after_whole at kind.Semicolon outer f t = Says (state outer (end_step f t) Nothing)
after_whole at kind.Bar outer f t = Says (state outer (end_sequence f t) Nothing)
after_whole at kind.Comma outer f t = Says (state outer (end_choice f t) Nothing)
after_whole at kind.Close outer f t = behind_close at outer (end_choice f t)
after_whole at kind.Star outer f t = Says (state outer f (Whole t))
after_whole at (kind.Number n) outer f t = repeated at n t >>= (λ u. Says (state outer f (Whole u)))
after_whole at _ outer f t = Fails (Syntax at)

abbrev pub go_on_call : ℕ → Stack → Frame → OpenAtom → Option Current → Outcome State
go_on_call at outer f c None = Fails (Syntax at)
go_on_call at outer f c (Some x) = Says (state outer f (Called (with_current c x)))

abbrev pub next_argument : ℕ → Stack → Frame → OpenAtom → Option (List Written) → Outcome State
next_argument at outer f c None = Fails (Syntax at)
next_argument at outer f c (Some ws) = Says (state outer f (Called (record { at = c.at; name = c.name; before = ws; current = current.Nothing })))

module _ (read : Reading) where
  abbrev pub end_call : ℕ → OpenAtom → Option (List Written) → Outcome Tactic
  end_call at c None = Fails (Syntax at)
  end_call at c (Some ws) = atom_of read c.at c.name ws

  abbrev pub after_call : ℕ → PartKind → Stack → Frame → OpenAtom → Outcome State
  after_call at kind.Comma outer f c = next_argument at outer f c (given c.before c.current)
  after_call at kind.Close outer f c = end_call at c (given c.before c.current) >>= (λ t. Says (state outer f (Whole t)))
  after_call at k outer f c = go_on_call at outer f c (with_part k c.current)

  abbrev pub after_name : ℕ → PartKind → Stack → Frame → ℕ → List ℕ → Outcome State
  after_name at kind.Open outer f place x = Says (state outer f (Called (record { at = place; name = x; before = []; current = current.Nothing })))
  after_name at k outer f place x = atom_of read place x [] >>= after_whole at k outer f

  -- the state behind a part
  abbrev pub after : ℕ → PartKind → Stack → Frame → Pending → Outcome State
  after at k outer f Nothing = after_nothing at k outer f
  after at k outer f (Named place x) = after_name at k outer f place x
  after at k outer f (Called c) = after_call at k outer f c
  after at k outer f (Whole t) = after_whole at k outer f t

  abbrev pub step : State → Part → Outcome State
  step s p = after p.at p.kind s.outer s.inner s.last

  -- the state behind parts
  abbrev pub run : State → List Part → Outcome State
  run s [] = Says s
  run s (p ∷ ps) = step s p >>= (λ next. run next ps)

  -- the strategy that stands last
  abbrev pub settled : Pending → Outcome Tactic
  settled Nothing = Fails (Syntax 0)
  settled (Named at x) = atom_of read at x []
  settled (Called c) = Fails (Syntax 0)
  settled (Whole t) = Says t

  -- the strategy of the text, where its parts end
  abbrev pub finish : State → Outcome Tactic
  finish s = settled s.last >>= (λ t. Says (closed s.inner.opened (end_choice s.inner t).branches))

  -- what becomes of parts
  abbrev pub outcome_of : List Part → Outcome Tactic
  outcome_of ps = run start ps >>= (λ s. finish s)
