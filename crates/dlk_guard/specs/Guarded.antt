-- Guarded proofs. The calculus isn't sound over the reals; what is guarded keeps off the places where it goes wrong.
--
-- A row of the axiom DI or DG is raw, and so is what `subst` and `rename` make of a raw row, until it is a good instance of its axiom. A
-- raw row is no fault by itself: an instance is made by a `subst` of the axiom. It is one to use it, in a `merge` or as what is proved.
-- The line that is named is the one that uses it, and its reason is why the row that it uses is raw.
use Rattle.std.specs.Prelude.{◌≡◌, ℕ, ◌-◌, ◌<◌, List, [], ◌∷◌, ◌++◌, take, length, Bool, true, false, ◌||◌, not, ◌==◌, if◌then◌else◌, Option, Some}
use Rattle.std.specs.Prelude.{None, option_map, option_and_then, codes}
use Rattle.std.specs.List.{list_any}
use Rattle.std.specs.Str.{bytes_eq}
use Rattle.dlk_tree.specs.declared.op.Op.{Op}
use Rattle.dlk_tree.specs.declared.op.Op.TheVariants as Op'
use Rattle.dlk_tree.specs.Trees.{Tree, node, Forest, no_kids, kid}
use Rattle.dlk_tree.specs.Occurs.{any_has, is_hole}
use Rattle.dlk_calculus.specs.Pairs.{Pair}
use Rattle.dlk_calculus.specs.Places.{at, At}
use Rattle.dlk_calculus.specs.Sequents.{Sequent}
use Rattle.dlk_calculus.specs.Provables.{Provable}
use Rattle.dlk_calculus.specs.Steps.{Step, Start, UseAxiom, UseRule, Leaf, Apply, Merge, Substitute, Rename}
use Rattle.dlk_guard.specs.declared.why.Why.{Why}
use Rattle.dlk_guard.specs.declared.why.Why.TheVariants.{DifferentialContext, Dforall, RawFact}
use Rattle.dlk_guard.specs.declared.raw.RawAxiom.{RawAxiom}
use Rattle.dlk_guard.specs.declared.raw.RawAxiom.TheVariants.{Di, Dg}
use Rattle.dlk_guard.specs.declared.raw.Raw.{Raw}
use Rattle.dlk_guard.specs.Instances.{first_of, unless, instance_why}

-- a line of a term that is a step, with the conclusion of the row that it gives; lines of nodes are left out
pub record Line : Type 0 where
  pub step : Step
  pub conclusion : Sequent

-- the lines of steps with the rows that they give
abbrev pub lines : List Step → List Provable → List Line
lines [] rows = []
lines (step ∷ steps) [] = []
lines (step ∷ steps) (p ∷ rows) = record { step = step; conclusion = p.conclusion } ∷ lines steps rows

-- ---- raw rows

abbrev pub raw_axiom : List ℕ → Option RawAxiom
raw_axiom name = if bytes_eq name (codes "DI") then Some Di else if bytes_eq name (codes "DG") then Some Dg else None

-- the formula that stands alone on the right
abbrev pub shown : List Tree → List Tree → Option Tree
shown [] (f ∷ []) = Some f
shown [] [] = None
shown [] (f ∷ g ∷ succ) = None
shown (f ∷ ante) succ = None

abbrev pub shown_why : RawAxiom → Option Tree → Option Why
shown_why origin (Some f) = instance_why origin f
shown_why origin None = Some RawFact

-- what is made of a row, raw or not, is raw where that row is, and this is no good instance
abbrev pub made_of : Option Raw → Sequent → Option Raw
made_of None s = None
made_of (Some raw) s = option_map (λ why. record { origin = raw.origin; why = why }) (shown_why raw.origin (shown s.ante s.succ))

-- the mark of a row: none where it isn't raw or isn't there
abbrev pub mark_at : List (Option Raw) → ℕ → Option Raw
mark_at marks fact = option_and_then (λ mark. mark) (at marks fact)

-- the mark of what the step gives behind rows with these marks
abbrev pub mark_of : List (Option Raw) → Step → Sequent → Option Raw
mark_of marks (Start t) s = None
-- the axiom itself, of which no instance was made, is a raw fact
mark_of marks (UseAxiom name) s = option_map (λ origin. record { origin = origin; why = RawFact }) (raw_axiom name)
mark_of marks (UseRule name) s = None
mark_of marks (Leaf t) s = None
mark_of marks (Apply fact goal rule) s = None
mark_of marks (Merge fact goal by) s = None
mark_of marks (Substitute fact pairs) s = made_of (mark_at marks fact) s
mark_of marks (Rename fact x y) s = made_of (mark_at marks fact) s

abbrev pub mark : List (Option Raw) → Line → Option Raw
mark marks l = mark_of marks l.step l.conclusion

-- the marks of lines, each by those before it
abbrev pub marks_behind : List (Option Raw) → List Line → List (Option Raw)
marks_behind before [] = before
marks_behind before (l ∷ more) = marks_behind (before ++ mark before l ∷ []) more

abbrev pub marks : List Line → List (Option Raw)
marks all = marks_behind [] all

-- ---- lines that are refused

abbrev pub is_differential : Op → Bool
is_differential Op'.DiffF = true
is_differential _ = false

-- `_` stands below a ( )' of a formula
abbrev mutual
  pub has_hole_in_differential : Tree → Bool
  has_hole_in_differential (node op kids) = if is_differential op then any_has is_hole kids else any_hole_in_differential kids

  pub any_hole_in_differential : Forest → Bool
  any_hole_in_differential no_kids = false
  any_hole_in_differential (kid t rest) = has_hole_in_differential t || any_hole_in_differential rest

abbrev pub is_differential_context : Pair → Bool
is_differential_context p = has_hole_in_differential p.by

abbrev pub why_raw : Option Raw → Option Why
why_raw mark = option_map (λ (raw : Raw). raw.why) mark

-- why a step behind rows with these marks is refused. One row a condition.
abbrev pub misuse : List (Option Raw) → Step → Option Why
misuse marks (Start t) = None
-- Dforall is not used
misuse marks (UseAxiom name) = unless (not (bytes_eq name (codes "Dforall"))) Dforall
misuse marks (UseRule name) = None
misuse marks (Leaf t) = None
misuse marks (Apply fact goal rule) = None
-- no raw row is merged; no rule can be applied to one, since it has no goals
misuse marks (Merge fact goal by) = first_of (why_raw (mark_at marks fact) ∷ why_raw (mark_at marks by) ∷ [])
-- nothing is put below a ( )' of a formula
misuse marks (Substitute fact pairs) = unless (not (list_any is_differential_context pairs)) DifferentialContext
misuse marks (Rename fact x y) = None

-- and the last row isn't raw
abbrev pub why_last : Bool → Option Raw → Option Why
why_last is_last mark = if is_last then why_raw mark else None

-- why a line is refused, behind rows with these marks
abbrev pub line_why : List (Option Raw) → Bool → Line → Option Why
line_why marks is_last l = first_of (misuse marks l.step ∷ why_last is_last (mark marks l) ∷ [])

-- line n is refused for this reason; lines count from 1, and no lines of nodes among them, so n is the number of the step
abbrev pub IsRefused : List Line → ℕ → Why → Type 0
IsRefused all n why = (l : Line) × At all n l × (line_why (marks (take (n - 1) all)) (n == length all) l ≡ Some why)

-- no line is refused
pub record Guarded (all : List Line) : Type 0 where
  pub none : (n : ℕ) (why : Why) → ¬ IsRefused all n why

-- the first line that is refused, with its reason
pub record FirstUnguarded (all : List Line) (n : ℕ) (why : Why) : Type 0 where
  pub refused : IsRefused all n why
  pub first : (m : ℕ) (other : Why) → m < n → ¬ IsRefused all m other

-- the step names neither DI, DG nor Dforall, and puts nothing below a ( )' of a formula
abbrev pub HasPlainStep : Step → Type 0
HasPlainStep (UseAxiom name) = (raw_axiom name ≡ None) × (bytes_eq name (codes "Dforall") ≡ false)
HasPlainStep (Substitute fact pairs) = list_any is_differential_context pairs ≡ false
HasPlainStep _ = Unit {0}

-- so of a line
abbrev pub IsPlain : Line → Type 0
IsPlain l = HasPlainStep l.step
