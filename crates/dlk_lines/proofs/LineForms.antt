-- The forms of step lines, from the front of a text on.
use Rattle.std.proofs.Common.{◌≡◌, ◌≢◌, ℕ, ◌≤◌, true, false, List, [], ◌∷◌, ◌++◌, length, get_or, refl, ap, ◌∙◌, append_assoc, arith}
use Rattle.std.specs.Prelude.{codes, IsTrue}
use Rattle.std.specs.List.{list_all}
use Rattle.std.proofs.lemmas.Bool.{and_parts}
use Rattle.dlk_grammar.specs.Tokens.{is_digit}
use Rattle.dlk_calculus.specs.Steps.{Step}
use Rattle.dlk_lines.specs.Spelled.{Spelling}
use Rattle.dlk_lines.specs.Laws.{SaysOne}
use Rattle.dlk_lines.specs.Lines.{IsStep, IsStepLine, numbered}
use Rattle.dlk_lines.specs.Parts.{NumberThen}
use Rattle.dlk_lines.proofs.Numbers.{one_number_then, number_parts}
use Rattle.dlk_lines.proofs.StepForms.{before_space, one_step}

-- what a step line's text is made of
pub record NumberedParts (w : Spelling) (text : List ℕ) (n : ℕ) (step : Step) : Type 0 where
  pub rest : List ℕ
  pub number_is : NumberThen text 32 n rest
  pub step_is : IsStep w rest step

pub line_parts : (w : Spelling) (text : List ℕ) (n : ℕ) (step : Step) → IsStepLine w text n step → NumberedParts w text n step
line_parts w _ _ _ (numbered {n} {text} {number} {step} is of) = record { rest = text; number_is = before_space n text number is; step_is = of }

pub numbered_line : (w : Spelling) (text : List ℕ) (n : ℕ) (step : Step) → NumberedParts w text n step → IsStepLine w text n step
numbered_line w text n step parts =
    let d = parts.number_is.digits in
    let behind : d ++ 32 ∷ parts.rest ≡ d ++ codes " " ++ parts.rest = simp append_assoc in
    let e : text ≡ d ++ codes " " ++ parts.rest = parts.number_is.text_is ∙ behind in
    rw e (numbered parts.number_is.is_number parts.step_is)

pub no_number : (w : Spelling) (text : List ℕ) → ((n : ℕ) (rest : List ℕ) → ¬ NumberThen text 32 n rest) → (n : ℕ) (step : Step) → ¬ IsStepLine w text n step
no_number w text none n step is = let h = line_parts w text n step is in none n h.rest h.number_is

pub no_step : (w : Spelling) (text rest : List ℕ) (place : ℕ) → NumberThen text 32 place rest → ((step : Step) → ¬ IsStep w rest step) →
    (n : ℕ) (step : Step) → ¬ IsStepLine w text n step
no_step w text rest place number_is none n step is =
    let h = line_parts w text n step is in
    let same = one_number_then text 32 place n rest h.rest refl number_is h.number_is in
    none step (rw same.1 h.step_is)

-- `done` begins with no digit
pub done_or_number : (n : ℕ) (rest : List ℕ) → ¬ NumberThen (codes "done") 32 n rest
done_or_number n rest number_is =
    let parts = number_parts number_is.digits n number_is.is_number in
    no_digit number_is.digits rest parts.digits parts.some number_is.text_is
  where
    no_digit : (digits behind : List ℕ) → IsTrue (list_all is_digit digits) → 1 ≤ length digits → codes "done" ≢ digits ++ 32 ∷ behind
    no_digit [] behind all some e = absurd (omega arith)
    no_digit (d ∷ ds) behind all some e =
        let same : 100 ≡ d = ap (λ l. get_or l 0 0) e in
        let digit : false ≡ true = ap is_digit same ∙ (and_parts (is_digit d) (list_all is_digit ds) all).0 in
        cc

pub done_is_none : (w : Spelling) (n : ℕ) (step : Step) → ¬ IsStepLine w (codes "done") n step
done_is_none w = no_number w (codes "done") done_or_number

-- a text says one number and one step
pub one_step_line : (w : Spelling) → SaysOne w → (text : List ℕ) (m n : ℕ) (s t : Step) → IsStepLine w text m s → IsStepLine w text n t → (m ≡ n) × (s ≡ t)
one_step_line w one text m n s t a b =
    let h = line_parts w text m s a in
    let k = line_parts w text n t b in
    let same = one_number_then text 32 m n h.rest k.rest refl h.number_is k.number_is in
    (same.0, one_step w one k.rest s t (rw (← same.1) h.step_is) k.step_is)
