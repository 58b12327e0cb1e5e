-- How far a replay has come.
use Rattle.std.proofs.Common.{◌≡◌, ℕ, ◌+◌, ◌≤◌, List, [], ◌∷◌, ◌++◌, length, take, refl, ap, sym, ◌∙◌, append_assoc, arith, subst}
use Rattle.std.proofs.lemmas.List.{length_push, append-nil, take_at, nil_from_length}
use Rattle.dlk_calculus.specs.Provables.{Provable}
use Rattle.dlk_calculus.specs.Steps.{Step, Adds, Fault}
use Rattle.dlk_replay.specs.declared.fault.LineWhy.{LineWhy}
use Rattle.dlk_replay.specs.declared.fault.LineWhy.TheVariants as why
use Rattle.dlk_replay.specs.Files.{StepLines, no_lines, one_more, no_row, accepted, bad, Becomes, whole, ended, unread, done_first, done_before}
use Rattle.dlk_replay.specs.Files.{misnumbered, faulty, RowsOf, of_steps, of_all, SaySteps}
use Rattle.dlk_replay.specs.Formats.{Said, TakesStep, HasOtherNumber, TakesNone, EndsFile, Format}
use Rattle.dlk_replay.proofs.SaidSteps.{FrontSays, front_none, front_more, front_skipped, front_done}

-- the lines before those that are left, as many as the place: they say these steps, which gave these rows, the last of them at this line
pub record Reached (Says : Format) (all left : List (List ℕ)) (place last : ℕ) (steps : List Step) (rows : List Provable) : Type 0 where
  pub front : List (List ℕ)
  pub all_is : all ≡ front ++ left
  pub place_is : place ≡ length front
  pub lines : StepLines Says front rows last
  pub said : FrontSays Says front steps rows

-- why the next line is not as it must be. One case a reason.
abbrev pub IsWrong : Format → List (List ℕ) → List Provable → List ℕ → LineWhy → Type 0
IsWrong Says before rows line why.Malformed = (s : Said) → ¬ Says before line s
IsWrong Says before rows line why.WrongNumber = Says before line HasOtherNumber
IsWrong Says before rows line why.NoEnd = ⊥
IsWrong Says before rows line (why.Step reason) = (step : Step) × Says before line (TakesStep step) × Fault rows step reason

module _ (Says : Format) (all : List (List ℕ)) where
  unfoldable pub reached_none : Reached Says all all 0 0 [] []
  reached_none = record { front = []; all_is = refl; place_is = refl; lines = no_lines; said = front_none Says }

  module _ (left : List (List ℕ)) (place last : ℕ) (steps : List Step) (rows : List Provable) where
    -- the rows of the lines before the next
    pub front_rows : Reached Says all left place last steps rows → RowsOf Says (take place all) rows
    front_rows r =
        let e : take place all ≡ r.front = ap (take place) r.all_is ∙ take_at r.front left place (sym r.place_is) in
        rw e (of_steps r.lines)

  module _ (place last : ℕ) (steps : List Step) (rows : List Provable) where
    pub no_end : Reached Says all [] place last steps rows → Becomes Says all (bad (place + 1) why.NoEnd)
    no_end r =
        let e : r.front ≡ all = sym (r.all_is ∙ append-nil r.front) in
        subst (λ l. Becomes Says l (bad (place + 1) why.NoEnd)) e (subst (λ k. Becomes Says r.front (bad (k + 1) why.NoEnd)) (sym r.place_is) (ended r.lines))

    pub all_accepted : (line : List ℕ) → (r : Reached Says all (line ∷ []) place last steps rows) → 1 ≤ length rows → Says r.front line EndsFile →
        Becomes Says all (accepted rows last)
    all_accepted line r some ends = subst (λ l. Becomes Says l (accepted rows last)) (sym r.all_is) (whole r.lines some ends)

    pub all_said : (line : List ℕ) → (r : Reached Says all (line ∷ []) place last steps rows) → Says r.front line EndsFile → SaySteps Says [] all steps
    all_said line r ends = subst (λ l. SaySteps Says [] l steps) (sym r.all_is) (front_done Says r.front steps rows line r.said ends)

    -- a line after the end
    pub goes_on : (left : List (List ℕ)) (line next : List ℕ) → (r : Reached Says all (line ∷ next ∷ left) place last steps rows) → 1 ≤ length rows →
        Says r.front line EndsFile → Becomes Says all (bad (place + 1 + 1) why.Malformed)
    goes_on left line next r some ends =
        let two : length r.front + 2 ≡ place + 1 + 1 = omega (arith, r.place_is) in
        subst (λ l. Becomes Says l (bad (place + 1 + 1) why.Malformed)) (sym r.all_is)
        (subst (λ k. Becomes Says (r.front ++ line ∷ next ∷ left) (bad k why.Malformed)) two (done_before next left r.lines some ends))

  module _ (left : List (List ℕ)) (line : List ℕ) (place last : ℕ) (steps : List Step) (rows : List Provable) where
    unfoldable pub reached_more : (step : Step) (new : List Provable) (r : Reached Says all (line ∷ left) place last steps rows) →
        Says r.front line (TakesStep step) →
        Adds rows step new → Reached Says all left (place + 1) (place + 1) (steps ++ step ∷ []) new
    reached_more step new r is adds =
        let place_is : length r.front + 1 ≡ place + 1 = ap (λ n. n + 1) (sym r.place_is) in
        let lines : StepLines Says (r.front ++ line ∷ []) (rows ++ adds.provable ∷ []) (length r.front + 1) = one_more r.lines is adds.is_its in
        record {
          front = r.front ++ line ∷ [];
          all_is = r.all_is ∙ sym (append_assoc r.front (line ∷ []) left);
          place_is = sym (length_push r.front line ∙ place_is);
          lines = subst (λ rs. StepLines Says (r.front ++ line ∷ []) rs (place + 1)) (sym adds.after_is)
              (subst (λ n. StepLines Says (r.front ++ line ∷ []) (rows ++ adds.provable ∷ []) n) place_is lines);
          said = subst (FrontSays Says (r.front ++ line ∷ []) (steps ++ step ∷ [])) (sym adds.after_is)
              (front_more Says r.front steps rows line step adds.provable r.said is adds.is_its);
        }

    -- the next line gave no row
    unfoldable pub reached_skip : (r : Reached Says all (line ∷ left) place last steps rows) → Says r.front line TakesNone →
        Reached Says all left (place + 1) last steps rows
    reached_skip r is = record {
      front = r.front ++ line ∷ [];
      all_is = r.all_is ∙ sym (append_assoc r.front (line ∷ []) left);
      place_is = sym (length_push r.front line ∙ ap (λ n. n + 1) (sym r.place_is));
      lines = no_row r.lines is;
      said = front_skipped Says r.front steps rows line r.said is;
    }

    -- the next line is bad, seen from the whole file
    placed : (reason : LineWhy) (r : Reached Says all (line ∷ left) place last steps rows) →
        Becomes Says (r.front ++ line ∷ left) (bad (length r.front + 1) reason) → Becomes Says all (bad (place + 1) reason)
    placed reason r becomes =
        subst (λ l. Becomes Says l (bad (place + 1) reason)) (sym r.all_is)
        (subst (λ k. Becomes Says (r.front ++ line ∷ left) (bad (k + 1) reason)) (sym r.place_is) becomes)

    pub bad_line : (reason : LineWhy) (r : Reached Says all (line ∷ left) place last steps rows) → IsWrong Says r.front rows line reason →
        Becomes Says all (bad (place + 1) reason)
    bad_line why.Malformed r none = placed why.Malformed r (unread left r.lines none)
    bad_line why.WrongNumber r other = placed why.WrongNumber r (misnumbered left r.lines other)
    bad_line why.NoEnd r none = elim none [ ]
    bad_line (why.Step reason) r (step, says, fault) = placed (why.Step reason) r (faulty left r.lines says fault)

    -- the end before any step
    pub begins_done : (r : Reached Says all (line ∷ left) place last steps rows) → length rows ≡ 0 → Says r.front line EndsFile →
        Becomes Says all (bad (place + 1) why.Malformed)
    begins_done r none ends =
        let empty : rows ≡ [] = nil_from_length rows none in
        placed why.Malformed r (done_first left (subst (λ rs. StepLines Says r.front rs last) empty r.lines) ends)

    pub done_left : (r : Reached Says all (line ∷ left) place last steps rows) → Says r.front line EndsFile → RowsOf Says (take (place + 1) all) rows
    done_left r ends =
        let e : all ≡ (r.front ++ line ∷ []) ++ left = r.all_is ∙ sym (append_assoc r.front (line ∷ []) left) in
        let n : length (r.front ++ line ∷ []) ≡ place + 1 = length_push r.front line ∙ ap (λ k. k + 1) (sym r.place_is) in
        let front : take (place + 1) all ≡ r.front ++ line ∷ [] = ap (take (place + 1)) e ∙ take_at (r.front ++ line ∷ []) left (place + 1) n in
        rw front (of_all r.lines ends)
