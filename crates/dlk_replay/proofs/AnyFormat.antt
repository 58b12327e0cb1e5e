-- What becomes of a file, line by line, in any format.
use Rattle.std.proofs.Common.{◌≡◌, ℕ, ◌+◌, ◌≤◌, List, [], ◌∷◌, ◌++◌, length, refl, ap, sym, ◌∙◌, append_assoc, arith, ◌⊎◌, inl, inr, subst}
use Rattle.std.proofs.lemmas.List.{append-nil}
use Rattle.std.proofs.lemmas.Bool.{cases_order}
use Rattle.std.specs.Prelude.{◌==◌, if◌then◌else◌}
use Rattle.dlk_calculus.specs.Provables.{Provable}
use Rattle.dlk_calculus.specs.Steps.{Step, IsProper, StepOf, Fault, History}
use Rattle.dlk_calculus.specs.declared.reason.Reason.{Reason}
use Rattle.dlk_calculus.specs.declared.reason.Reason.TheVariants.{NoFact, NoGoal, UnknownName, NoPlace, WrongShape, NotEqual, NotFresh, NotArith}
use Rattle.dlk_calculus.specs.declared.reason.Reason.TheVariants.{IllSubst, FreeInSubst, NotAdmissible, TooBig, TooDeep, SideFull, GoalsFull}
use Rattle.dlk_calculus.specs.declared.reason.Reason.TheVariants.{LeavesFull, LinesFull}
use Rattle.dlk_calculus.specs.Reasons.{rank}
use Rattle.dlk_calculus.proofs.StepLaws.{one_given}
use Rattle.dlk_calculus.proofs.LimitLaws.{verdict_cases}
use Rattle.dlk_calculus.proofs.Histories.{History-none, History-more}
use Rattle.dlk_replay.specs.declared.fault.LineWhy.TheVariants as why
use Rattle.dlk_replay.specs.Files.{StepLines, no_lines, one_more, no_row, Answer, accepted, bad, Becomes, whole, ended, unread, done_first}
use Rattle.dlk_replay.specs.Files.{done_before, misnumbered, faulty}
use Rattle.dlk_replay.specs.Formats.{Said, TakesStep, HasOtherNumber, TakesNone, EndsFile, Format}

pub steps_history : (Says : Format) (lines : List (List ℕ)) (rows : List Provable) (last : ℕ) → StepLines Says lines rows last → History rows
steps_history Says _ _ _ no_lines = History-none
steps_history Says _ _ _ (one_more {lines} {rows} {last} {line} {step} {p} before is given) =
    History-more rows step p (steps_history Says lines rows last before) given.given
steps_history Says _ _ _ (no_row {lines} {rows} {last} {line} before is) = steps_history Says lines rows last before

-- the reason of a place in their order
abbrev reason_of : ℕ → Reason
reason_of n = if n == 1 then NoFact else if n == 2 then NoGoal else if n == 3 then UnknownName else if n == 4 then NoPlace else if n == 5 then WrongShape else
    if n == 6 then NotEqual else if n == 7 then NotFresh else if n == 8 then NotArith else if n == 9 then IllSubst else if n == 10 then FreeInSubst else
    if n == 11 then NotAdmissible else if n == 12 then TooBig else if n == 13 then TooDeep else if n == 14 then SideFull else if n == 15 then GoalsFull else
    if n == 16 then LeavesFull else LinesFull

ranked : (a : Reason) → reason_of (rank a) ≡ a
ranked NoFact = refl
ranked NoGoal = refl
ranked UnknownName = refl
ranked NoPlace = refl
ranked WrongShape = refl
ranked NotEqual = refl
ranked NotFresh = refl
ranked NotArith = refl
ranked IllSubst = refl
ranked FreeInSubst = refl
ranked NotAdmissible = refl
ranked TooBig = refl
ranked TooDeep = refl
ranked SideFull = refl
ranked GoalsFull = refl
ranked LeavesFull = refl
ranked LinesFull = refl

one_rank : (a b : Reason) → rank a ≡ rank b → a ≡ b
one_rank a b e = sym (ranked a) ∙ ap reason_of e ∙ ranked b

one_fault : (rows : List Provable) (step : Step) (a b : Reason) → Fault rows step a → Fault rows step b → a ≡ b
one_fault rows step a b f g =
    elim (cases_order (rank a) (rank b)) [
      | inl same ↦ one_rank a b same
      | inr other ↦ elim other [ inl less ↦ absurd (g.first a less f.against) | inr more ↦ absurd (f.first b more g.against) ]
    ]

fault_or_row : (rows : List Provable) (step : Step) (reason : Reason) (p : Provable) → Fault rows step reason → StepOf rows step p → ⊥
fault_or_row rows step reason p f given = given.allowed reason f.against

-- what becomes of a file whose first n lines have given these rows and whose next line is `done`
abbrev at_end : ℕ → List Provable → ℕ → List (List ℕ) → Answer
at_end n [] last rest = bad (n + 1) why.Malformed
at_end n (p ∷ ps) last [] = accepted (p ∷ ps) last
at_end n (p ∷ ps) last (line ∷ lines) = bad (n + 2) why.Malformed

-- the same by what the next line says
abbrev After : ℕ → List Provable → ℕ → List (List ℕ) → (List Provable → ℕ → Type 0) → Answer → Said → Type 0
After n rows last rest again a (TakesStep step) =
    ((p : Provable) × StepOf rows step p × again (rows ++ p ∷ []) (n + 1)) ⊎ ((reason : Reason) × Fault rows step reason × (a ≡ bad (n + 1) (why.Step reason)))
After n rows last rest again a HasOtherNumber = a ≡ bad (n + 1) why.WrongNumber
After n rows last rest again a TakesNone = again rows last
After n rows last rest again a EndsFile = a ≡ at_end n rows last rest

one_after : (n : ℕ) (rows : List Provable) (last : ℕ) (rest : List (List ℕ)) (A B : List Provable → ℕ → Type 0) (a b : Answer) →
    ((new : List Provable) (at : ℕ) → A new at → B new at → a ≡ b) →
    (s : Said) → After n rows last rest A a s → After n rows last rest B b s → a ≡ b
one_after n rows last rest A B a b again (TakesStep step) (inl x) (inl y) =
    let same : x.0 ≡ y.0 = one_given rows step x.0 y.0 x.1.given y.1.given in
    again (rows ++ y.0 ∷ []) (n + 1) (subst (λ (p : Provable). A (rows ++ p ∷ []) (n + 1)) same x.2) y.2
one_after n rows last rest A B a b again (TakesStep step) (inl x) (inr y) = absurd (fault_or_row rows step y.0 x.0 y.1 x.1)
one_after n rows last rest A B a b again (TakesStep step) (inr x) (inl y) = absurd (fault_or_row rows step x.0 y.0 x.1 y.1)
one_after n rows last rest A B a b again (TakesStep step) (inr x) (inr y) =
    x.2 ∙ ap (λ (r : Reason). bad (n + 1) (why.Step r)) (one_fault rows step x.0 y.0 x.1 y.1) ∙ sym y.2
one_after n rows last rest A B a b again HasOtherNumber x y = x ∙ sym y
one_after n rows last rest A B a b again TakesNone x y = again rows last x y
one_after n rows last rest A B a b again EndsFile x y = x ∙ sym y

at_end_first : (n last : ℕ) (rest : List (List ℕ)) → bad (n + 1) why.Malformed ≡ at_end n [] last rest
at_end_first n last rest = refl

at_end_whole : (n : ℕ) (rows : List Provable) (last : ℕ) → 1 ≤ length rows → accepted rows last ≡ at_end n rows last []
at_end_whole n [] last some = absurd (omega (arith, some))
at_end_whole n (p ∷ ps) last some = refl

at_end_before : (n : ℕ) (rows : List Provable) (last : ℕ) (line : List ℕ) (lines : List (List ℕ)) → 1 ≤ length rows →
    bad (n + 2) why.Malformed ≡ at_end n rows last (line ∷ lines)
at_end_before n [] last line lines some = absurd (omega (arith, some))
at_end_before n (p ∷ ps) last line lines some = refl

-- In a format in which a line says one thing, one thing becomes of each file.
module _ (Says : Format) (one_said : (before : List (List ℕ)) (line : List ℕ) (s t : Said) → Says before line s → Says before line t → s ≡ t) where
  -- what becomes of a file whose first lines have given these rows, by the lines that are left
  abbrev Ends : List (List ℕ) → List (List ℕ) → List Provable → ℕ → Answer → Type 0
  Ends [] before rows last a = a ≡ bad (length before + 1) why.NoEnd
  Ends (line ∷ rest) before rows last a =
      (((s : Said) → ¬ Says before line s) × (a ≡ bad (length before + 1) why.Malformed))
      ⊎ ((s : Said) × Says before line s × After (length before) rows last rest (λ new at. Ends rest (before ++ line ∷ []) new at a) a s)

  one_end : (rest before : List (List ℕ)) (rows : List Provable) (last : ℕ) (a b : Answer) → Ends rest before rows last a → Ends rest before rows last b → a ≡ b
  one_end [] before rows last a b x y = x ∙ sym y
  one_end (line ∷ rest) before rows last a b (inl x) (inl y) = x.1 ∙ sym y.1
  one_end (line ∷ rest) before rows last a b (inl x) (inr y) = absurd (x.0 y.0 y.1)
  one_end (line ∷ rest) before rows last a b (inr x) (inl y) = absurd (y.0 x.0 x.1)
  one_end (line ∷ rest) before rows last a b (inr x) (inr y) =
      let again : Answer → List Provable → ℕ → Type 0 = λ c new at. Ends rest (before ++ line ∷ []) new at c in
      let same : x.0 ≡ y.0 = one_said before line x.0 y.0 x.1 y.1 in
      one_after (length before) rows last rest (again a) (again b) a b (λ new at. one_end rest (before ++ line ∷ []) new at a b) y.0
      (subst (λ s. After (length before) rows last rest (again a) a s) same x.2) y.2

  after_steps : (steps rest : List (List ℕ)) (rows : List Provable) (last : ℕ) (a : Answer) → StepLines Says steps rows last → Ends rest steps rows last a →
      Ends (steps ++ rest) [] [] 0 a
  after_steps _ rest _ _ a no_lines ends = ends
  after_steps _ rest _ _ a (one_more {lines} {rows} {last} {line} {step} {p} before is given) ends =
      let next : Ends (line ∷ rest) lines rows last a = inr (TakesStep step, is, inl (p, given, ends)) in
      rw append_assoc (after_steps lines (line ∷ rest) rows last a before next)
  after_steps _ rest _ _ a (no_row {lines} {rows} {last} {line} before is) ends =
      let next : Ends (line ∷ rest) lines rows last a = inr (TakesNone, is, ends) in
      rw append_assoc (after_steps lines (line ∷ rest) rows last a before next)

  becomes_ends : (lines : List (List ℕ)) (a : Answer) → Becomes Says lines a → Ends lines [] [] 0 a
  becomes_ends _ _ (whole {steps} {rows} {last} {line} is some ends) =
      after_steps steps (line ∷ []) rows last (accepted rows last) is (inr (EndsFile, ends, at_end_whole (length steps) rows last some))
  becomes_ends _ _ (ended {steps} {rows} {last} is) =
      subst (λ l. Ends l [] [] 0 (bad (length steps + 1) why.NoEnd)) (append-nil steps)
      (after_steps steps [] rows last (bad (length steps + 1) why.NoEnd) is refl)
  becomes_ends _ _ (unread {steps} {rows} {last} {line} after is none) =
      after_steps steps (line ∷ after) rows last (bad (length steps + 1) why.Malformed) is (inl (none, refl))
  becomes_ends _ _ (done_first {steps} {last} {line} after is ends) =
      after_steps steps (line ∷ after) [] last (bad (length steps + 1) why.Malformed) is (inr (EndsFile, ends, at_end_first (length steps) last after))
  becomes_ends _ _ (done_before {steps} {rows} {last} {line} next after is some ends) =
      after_steps steps (line ∷ next ∷ after) rows last (bad (length steps + 2) why.Malformed) is
      (inr (EndsFile, ends, at_end_before (length steps) rows last next after some))
  becomes_ends _ _ (misnumbered {steps} {rows} {last} {line} after is other) =
      after_steps steps (line ∷ after) rows last (bad (length steps + 1) why.WrongNumber) is (inr (HasOtherNumber, other, refl))
  becomes_ends _ _ (faulty {steps} {rows} {last} {line} {step} {reason} after is says fault) =
      after_steps steps (line ∷ after) rows last (bad (length steps + 1) (why.Step reason)) is (inr (TakesStep step, says, inr (reason, fault, refl)))

  pub one_becomes : (lines : List (List ℕ)) (a b : Answer) → Becomes Says lines a → Becomes Says lines b → a ≡ b
  one_becomes lines a b x y = one_end lines [] [] 0 a b (becomes_ends lines a x) (becomes_ends lines b y)

-- In a format in which it is known what each line says, and each line that says a step says a proper one, something becomes of each file.
module _ (Says : Format) (decided : (before : List (List ℕ)) (line : List ℕ) → ((s : Said) × Says before line s) ⊎ ((s : Said) → ¬ Says before line s))
    (proper : (before : List (List ℕ)) (line : List ℕ) (step : Step) → Says before line (TakesStep step) → IsProper step) where
  after_done : (steps rest : List (List ℕ)) (rows : List Provable) (last : ℕ) (line : List ℕ) → StepLines Says steps rows last → Says steps line EndsFile →
      (a : Answer) × Becomes Says (steps ++ line ∷ rest) a
  after_done steps rest [] last line is ends = (bad (length steps + 1) why.Malformed, done_first rest is ends)
  after_done steps [] (p ∷ ps) last line is ends = (accepted (p ∷ ps) last, whole is (omega arith) ends)
  after_done steps (next ∷ rest) (p ∷ ps) last line is ends = (bad (length steps + 2) why.Malformed, done_before next rest is (omega arith) ends)

  some_from : (rest steps : List (List ℕ)) (rows : List Provable) (last : ℕ) → StepLines Says steps rows last → (a : Answer) × Becomes Says (steps ++ rest) a
  some_from [] steps rows last is =
      (bad (length steps + 1) why.NoEnd, subst (λ s. Becomes Says s (bad (length steps + 1) why.NoEnd)) (sym (append-nil steps)) (ended is))
  some_from (line ∷ rest) steps rows last is = elim (decided steps line) [
    | inl says ↦ by_line says.0 says.1 (λ new at more. let found = some_from rest (steps ++ line ∷ []) new at more in (found.0, rw append_assoc at found.1))
    | inr none ↦ (bad (length steps + 1) why.Malformed, unread rest is none)
  ]
    where
      by_line : (s : Said) → Says steps line s →
          ((new : List Provable) (at : ℕ) → StepLines Says (steps ++ line ∷ []) new at → (a : Answer) × Becomes Says (steps ++ line ∷ rest) a) →
          (a : Answer) × Becomes Says (steps ++ line ∷ rest) a
      by_line (TakesStep step) says again = elim (verdict_cases rows step (proper steps line step says)) [
        | inl taken ↦ again (rows ++ taken.0 ∷ []) (length steps + 1) (one_more is says taken.1)
        | inr against ↦ (bad (length steps + 1) (why.Step against.0), faulty rest is says against.1)
      ]
      by_line HasOtherNumber says again = (bad (length steps + 1) why.WrongNumber, misnumbered rest is says)
      by_line TakesNone says again = again rows last (no_row is says)
      by_line EndsFile says again = after_done steps rest rows last line is says

  pub some_becomes : (lines : List (List ℕ)) → (a : Answer) × Becomes Says lines a
  some_becomes lines = some_from lines [] [] 0 no_lines
