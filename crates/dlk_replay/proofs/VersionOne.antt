-- What a line of version 1 says.
use Rattle.std.proofs.Common.{◌≡◌, ℕ, ◌+◌, List, length, refl, ap, ◌⊎◌, inl, inr, subst}
use Rattle.std.proofs.lemmas.Bool.{cases_eq}
use Rattle.dlk_calculus.specs.Steps.{Step, IsProper}
use Rattle.dlk_termtext.specs.Lines.{Line, Numbered, Done, IsLine}
use Rattle.dlk_termtext.proofs.LineLaws.{one_line, line_proper, some_line}
use Rattle.dlk_replay.specs.Formats.{Said, TakesStep, HasOtherNumber, TakesNone, EndsFile, SaysLine}

-- ---- it says one thing

not_done : (line : List ℕ) (m : ℕ) (step : Step) → IsLine line (Numbered m step) → IsLine line Done → ⊥
not_done line m step a b = let e : Numbered m step ≡ Done = one_line line (Numbered m step) Done a b in cc

same_number : (line : List ℕ) (m n : ℕ) (s t : Step) → IsLine line (Numbered m s) → IsLine line (Numbered n t) → m ≡ n
same_number line m n s t a b = let e : Numbered m s ≡ Numbered n t = one_line line (Numbered m s) (Numbered n t) a b in cc

same_step : (line : List ℕ) (m n : ℕ) (s t : Step) → IsLine line (Numbered m s) → IsLine line (Numbered n t) → s ≡ t
same_step line m n s t a b = let e : Numbered m s ≡ Numbered n t = one_line line (Numbered m s) (Numbered n t) a b in cc

pub one_said : (before : List (List ℕ)) (line : List ℕ) (s t : Said) → SaysLine before line s → SaysLine before line t → s ≡ t
one_said before line (TakesStep s) (TakesStep t) a b = ap TakesStep (same_step line (length before + 1) (length before + 1) s t a b)
one_said before line (TakesStep s) HasOtherNumber a b = absurd (b.3 (same_number line b.0 (length before + 1) b.1 s b.2 a))
one_said before line (TakesStep s) TakesNone a b = absurd b
one_said before line (TakesStep s) EndsFile a b = absurd (not_done line (length before + 1) s a b)
one_said before line HasOtherNumber (TakesStep t) a b = absurd (a.3 (same_number line a.0 (length before + 1) a.1 t a.2 b))
one_said before line HasOtherNumber HasOtherNumber a b = refl
one_said before line HasOtherNumber TakesNone a b = absurd b
one_said before line HasOtherNumber EndsFile a b = absurd (not_done line a.0 a.1 a.2 b)
one_said before line TakesNone t a b = absurd a
one_said before line EndsFile (TakesStep t) a b = absurd (not_done line (length before + 1) t b a)
one_said before line EndsFile HasOtherNumber a b = absurd (not_done line b.0 b.1 b.2 a)
one_said before line EndsFile TakesNone a b = absurd b
one_said before line EndsFile EndsFile a b = refl

-- ---- or none

-- what a line says where it is known which line a text is
said_if_line : (before : List (List ℕ)) (line : List ℕ) → ((l : Line) × IsLine line l) ⊎ ((l : Line) → ¬ IsLine line l) →
    ((s : Said) × SaysLine before line s) ⊎ ((s : Said) → ¬ SaysLine before line s)
said_if_line before line (inl (Numbered number step, is)) = elim (cases_eq number (length before + 1)) [
  | inl right ↦ inl (TakesStep step, subst (λ n. IsLine line (Numbered n step)) right is)
  | inr other ↦ inl (HasOtherNumber, (number, step, is, other))
]
said_if_line before line (inl (Done, is)) = inl (EndsFile, is)
said_if_line before line (inr none) = inr says_none
  where
    says_none : (s : Said) → ¬ SaysLine before line s
    says_none (TakesStep step) is = none (Numbered (length before + 1) step) is
    says_none HasOtherNumber is = none (Numbered is.0 is.1) is.2
    says_none TakesNone is = is
    says_none EndsFile is = none Done is

pub some_said : (before : List (List ℕ)) (line : List ℕ) → ((s : Said) × SaysLine before line s) ⊎ ((s : Said) → ¬ SaysLine before line s)
some_said before line = said_if_line before line (some_line line)
