-- The steps that the lines of a file say.
use Rattle.std.proofs.Common.{◌≡◌, ◌∙◌, refl, sym, subst, ap, ℕ, ◌+◌, List, [], ◌∷◌, ◌++◌, length, append_assoc}
use Rattle.std.proofs.lemmas.List.{append-nil}
use Rattle.dlk_calculus.specs.Provables.{Provable}
use Rattle.dlk_calculus.specs.Steps.{Step, StepOf}
use Rattle.dlk_kernel.specs.Taken.{Takes}
use Rattle.dlk_kernel.specs.Taken as took
use Rattle.dlk_replay.specs.Files.{StepLines, no_lines, one_more, no_row, accepted, Verdict, whole, SaySteps, done, more, none, FileSteps}
use Rattle.dlk_replay.specs.Formats.{Said, TakesStep, HasOtherNumber, TakesNone, EndsFile, Format, SaysInFile}
use Rattle.dlk_replay.proofs.OneSaid.{one_said_in_file}
use Rattle.dlk_replay.proofs.RowsGiven.{as_many}

-- ---- one list of steps

-- what steps there are, by what the first line says and by those of the other lines
abbrev Goes : List (List ℕ) → List Step → (List Step → Type 0) → Said → Type 0
Goes lines steps again (TakesStep step) = (rest : List Step) × (steps ≡ step ∷ rest) × again rest
Goes lines steps again HasOtherNumber = ⊥
Goes lines steps again TakesNone = again steps
Goes lines steps again EndsFile = steps ≡ []

one_going : (lines : List (List ℕ)) (a b : List Step) (A B : List Step → Type 0) → ((x y : List Step) → A x → B y → x ≡ y) → (s : Said) →
    Goes lines a A s → Goes lines b B s → a ≡ b
one_going lines a b A B again (TakesStep step) x y = x.1 ∙ ap (λ rest. step ∷ rest) (again x.0 y.0 x.2 y.2) ∙ sym y.1
one_going lines a b A B again HasOtherNumber x y = absurd x
one_going lines a b A B again TakesNone x y = again a b x y
one_going lines a b A B again EndsFile x y = x ∙ sym y

-- In a format in which a line says one thing, lines say one list of steps.
module _ (Says : Format) (one_said : (before : List (List ℕ)) (line : List ℕ) (s t : Said) → Says before line s → Says before line t → s ≡ t) where
  abbrev SaysFrom : List (List ℕ) → List (List ℕ) → List Step → Type 0
  SaysFrom [] before steps = ⊥
  SaysFrom (line ∷ lines) before steps = (s : Said) × Says before line s × Goes lines steps (λ rest. SaysFrom lines (before ++ line ∷ []) rest) s

  says_from : (before lines : List (List ℕ)) (steps : List Step) → SaySteps Says before lines steps → SaysFrom lines before steps
  says_from _ _ _ (done is) = (EndsFile, is, refl)
  says_from _ _ _ (more {before} {lines} {line} {step} {steps} is others) =
      (TakesStep step, is, (steps, refl, says_from (before ++ line ∷ []) lines steps others))
  says_from _ _ _ (none {before} {lines} {line} {steps} is others) = (TakesNone, is, says_from (before ++ line ∷ []) lines steps others)

  one_from : (lines before : List (List ℕ)) (a b : List Step) → SaysFrom lines before a → SaysFrom lines before b → a ≡ b
  one_from [] before a b x y = absurd x
  one_from (line ∷ lines) before a b x y =
      let again : List Step → Type 0 = λ rest. SaysFrom lines (before ++ line ∷ []) rest in
      let same : x.0 ≡ y.0 = one_said before line x.0 y.0 x.1 y.1 in
      one_going lines a b again again (one_from lines (before ++ line ∷ [])) y.0 (subst (λ s. Goes lines a again s) same x.2) y.2

  pub one_list : (before lines : List (List ℕ)) (a b : List Step) → SaySteps Says before lines a → SaySteps Says before lines b → a ≡ b
  one_list before lines a b x y = one_from lines before a b (says_from before lines a x) (says_from before lines b y)

pub one_list_of_steps : (before lines : List (List ℕ)) (a b : List Step) → SaySteps SaysInFile before lines a → SaySteps SaysInFile before lines b → a ≡ b
one_list_of_steps before lines a b x y = one_list SaysInFile one_said_in_file before lines a b x y

-- ---- the steps of first lines

-- first lines say these steps, which give these rows; what the lines behind them say comes behind
pub record FrontSays (Says : Format) (front : List (List ℕ)) (steps : List Step) (rows : List Provable) : Type 0 where
  pub taken : Takes [] steps rows
  pub said : (left : List (List ℕ)) (behind : List Step) → SaySteps Says front left behind → SaySteps Says [] (front ++ left) (steps ++ behind)

module _ (Says : Format) where
  pub front_none : FrontSays Says [] [] []
  front_none = record { taken = took.none; said = λ left behind says. says }

  pub front_more : (front : List (List ℕ)) (steps : List Step) (rows : List Provable) (line : List ℕ) (step : Step) (p : Provable) →
      FrontSays Says front steps rows → Says front line (TakesStep step) → StepOf rows step p →
      FrontSays Says (front ++ line ∷ []) (steps ++ step ∷ []) (rows ++ p ∷ [])
  front_more front steps rows line step p f is given = record {
    taken = took.more f.taken given;
    said = λ left behind says.
        let all : SaySteps Says [] (front ++ line ∷ left) (steps ++ step ∷ behind) = f.said (line ∷ left) (step ∷ behind) (more is says) in
        subst (λ ls. SaySteps Says [] ls ((steps ++ step ∷ []) ++ behind)) (sym (append_assoc front (line ∷ []) left))
        (subst (SaySteps Says [] (front ++ line ∷ left)) (sym (append_assoc steps (step ∷ []) behind)) all);
  }

  -- a line that gives no row says no step
  pub front_skipped : (front : List (List ℕ)) (steps : List Step) (rows : List Provable) (line : List ℕ) → FrontSays Says front steps rows →
      Says front line TakesNone → FrontSays Says (front ++ line ∷ []) steps rows
  front_skipped front steps rows line f is = record {
    taken = f.taken;
    said = λ left behind says.
        subst (λ ls. SaySteps Says [] ls (steps ++ behind)) (sym (append_assoc front (line ∷ []) left)) (f.said (line ∷ left) behind (none is says));
  }

  pub front_done : (front : List (List ℕ)) (steps : List Step) (rows : List Provable) (line : List ℕ) → FrontSays Says front steps rows →
      Says front line EndsFile → SaySteps Says [] (front ++ line ∷ []) steps
  front_done front steps rows line f is = subst (SaySteps Says [] (front ++ line ∷ [])) (append-nil steps) (f.said (line ∷ []) [] (done is))

  pub front_many : (front : List (List ℕ)) (steps : List Step) (rows : List Provable) → FrontSays Says front steps rows → length steps ≡ length rows
  front_many front steps rows f = as_many steps rows f.taken

  front_says : (front : List (List ℕ)) (rows : List Provable) (last : ℕ) → StepLines Says front rows last →
      (steps : List Step) × FrontSays Says front steps rows
  front_says _ _ _ no_lines = ([], front_none)
  front_says _ _ _ (one_more {lines} {rows} {last} {line} {step} {p} before is given) =
      let said = front_says lines rows last before in
      (said.0 ++ step ∷ [], front_more lines said.0 rows line step p said.1 is given)
  front_says _ _ _ (no_row {lines} {rows} {last} {line} before is) =
      let said = front_says lines rows last before in
      (said.0, front_skipped lines said.0 rows line said.1 is)

-- ---- accepted files

accepted_both : (lines : List (List ℕ)) (rows : List Provable) (last : ℕ) → Verdict lines (accepted rows last) →
    (s : List Step) × FileSteps lines s × Takes [] s rows
accepted_both _ _ _ (whole {steps} {rows} {last} {line} is some ends) =
    let said = front_says SaysInFile steps rows last is in
    (said.0, front_done SaysInFile steps said.0 rows line said.1 ends, said.1.taken)

pub accepted_says_steps : (lines : List (List ℕ)) (rows : List Provable) (last : ℕ) → Verdict lines (accepted rows last) → (s : List Step) × FileSteps lines s
accepted_says_steps lines rows last is = let both = accepted_both lines rows last is in (both.0, both.1)

pub accepted_takes_steps : (lines : List (List ℕ)) (rows : List Provable) (last : ℕ) (s : List Step) → Verdict lines (accepted rows last) →
    FileSteps lines s → Takes [] s rows
accepted_takes_steps lines rows last s is says =
    let both = accepted_both lines rows last is in
    subst (λ t. Takes [] t rows) (one_list_of_steps [] lines both.0 s both.1 says) both.2

pub accepted_as_many : (lines : List (List ℕ)) (rows : List Provable) (last : ℕ) (s : List Step) → Verdict lines (accepted rows last) →
    FileSteps lines s → length s ≡ length rows
accepted_as_many lines rows last s is says = as_many s rows (accepted_takes_steps lines rows last s is says)
