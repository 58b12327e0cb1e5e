-- The laws of lines, from those of step lines.
use Rattle.std.proofs.Common.{◌≡◌, ◌≢◌, ℕ, List, refl, ◌⊎◌, inl, inr, subst}
use Rattle.std.specs.Prelude.{codes}
use Rattle.dlk_calculus.specs.Steps.{Step, IsProper}
use Rattle.dlk_machine.proofs.TextLaws.{pairs_text_well_made}
use Rattle.dlk_lines.specs.Spelled.{InFull}
use Rattle.dlk_lines.specs.Lines.{IsStepLine}
use Rattle.dlk_lines.proofs.LineForms.{one_step_line, done_is_none}
use Rattle.dlk_lines.proofs.Proper.{line_proper as step_line_proper}
use Rattle.dlk_lines.proofs.SomeLine.{some_step_line}
use Rattle.dlk_lines.proofs.SomeParts.{same_bytes}
use Rattle.dlk_termtext.specs.Lines.{Line, Numbered, Done, IsLine, of_step, done}
use Rattle.dlk_termtext.proofs.InFull.{full_says_one, full_or_not}

-- what a line is made of
abbrev LineParts : List ℕ → Line → Type 0
LineParts text (Numbered n step) = IsStepLine InFull text n step
LineParts text Done = text ≡ codes "done"

pub line_parts : (text : List ℕ) (l : Line) → IsLine text l → LineParts text l
line_parts _ _ (of_step is) = is
line_parts _ _ done = refl

-- a text that is neither `done` nor a step line is no line
pub no_line : (text : List ℕ) → text ≢ codes "done" → ((n : ℕ) (step : Step) → ¬ IsStepLine InFull text n step) → (l : Line) → ¬ IsLine text l
no_line text other none (Numbered n step) is = none n step (line_parts text (Numbered n step) is)
no_line text other none Done is = other (line_parts text Done is)

-- no step line is `done`
apart : (text : List ℕ) (n : ℕ) (step : Step) → IsStepLine InFull text n step → text ≢ codes "done"
apart text n step is e = done_is_none InFull n step (subst (λ t. IsStepLine InFull t n step) e is)

-- a text says one line
pub one_line : (text : List ℕ) (l m : Line) → IsLine text l → IsLine text m → l ≡ m
one_line text (Numbered n step) (Numbered n' step') a b =
    let same = one_step_line InFull full_says_one text n n' step step' (line_parts text (Numbered n step) a) (line_parts text (Numbered n' step') b) in
    λ i. Numbered (same.0 i) (same.1 i)
one_line text (Numbered n step) Done a b = absurd (apart text n step (line_parts text (Numbered n step) a) (line_parts text Done b))
one_line text Done (Numbered n step) a b = absurd (apart text n step (line_parts text (Numbered n step) b) (line_parts text Done a))
one_line text Done Done a b = refl

-- or none
pub some_line : (text : List ℕ) → ((l : Line) × IsLine text l) ⊎ ((l : Line) → ¬ IsLine text l)
some_line text = elim (same_bytes text (codes "done")) [
  | yes e ↦ inl (Done, rw e done)
  | no other ↦ elim (some_step_line InFull full_or_not text) [
    | inl s ↦ inl (Numbered s.0 s.1, of_step s.2)
    | inr none ↦ inr (no_line text other none)
  ]
]

-- the step of a line is a proper one
pub line_proper : (text : List ℕ) (number : ℕ) (step : Step) → IsLine text (Numbered number step) → IsProper step
line_proper text number step is = step_line_proper InFull pairs_text_well_made text number step (line_parts text (Numbered number step) is)
