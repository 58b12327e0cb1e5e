-- Lines of a session: what each keeps, and that it answers one thing.
use Rattle.std.proofs.Common.{◌≡◌, ℕ, zero, suc, ◌+◌, ◌-◌, ◌*◌, ◌≤◌, inl, inr, List, [], ◌∷◌, ◌++◌, take, length, Some, None, refl, sym, ap, subst}
use Rattle.std.proofs.Common.{◌∙◌, arith, append_assoc, length-append, length-take}
use Rattle.std.proofs.lemmas.Bool.{cases_lt}
use Rattle.std.proofs.lemmas.List.{append-nil, same_from_push, take-append-le, take_all}
use Rattle.std.proofs.Math.Seq.{take-append_seam}
use Rattle.dlk_tree.specs.Trees.{Tree}
use Rattle.dlk_calculus.specs.Limits.{most_rows}
use Rattle.dlk_calculus.specs.Places.{At}
use Rattle.dlk_calculus.specs.Places.{at as item_at}
use Rattle.dlk_calculus.specs.Provables.{Provable}
use Rattle.dlk_calculus.specs.Sequents.{alone_right}
use Rattle.dlk_calculus.specs.Steps.{Step, Start}
use Rattle.dlk_kernel.specs.Taken.{Takes}
use Rattle.dlk_kernel.specs.Taken.{none as no_step, more as one_step}
use Rattle.dlk_tacsyn.specs.Tactics.{Tactic}
use Rattle.dlk_elab.specs.declared.fault.FailWhy.{FailWhy}
use Rattle.dlk_elab.specs.Outcomes.{Progress, Outcome, Done, Fails, Budget, most_runs, most_steps, main_goals}
use Rattle.dlk_elab.proofs.FewSteps.{takes_length}
use Rattle.dlk_report.specs.Reports.{text_report}
use Rattle.dlk_session.specs.declared.reply.Reply.{Reply}
use Rattle.dlk_session.specs.declared.reply.Reply.TheVariants as reply
use Rattle.dlk_session.specs.Kept.{AreEarlier, none as none_earlier, more as one_earlier, IsKept}
use Rattle.dlk_session.specs.Sessions.{Becoming, State, Begins, Applies, no_goal, done, fails, spent, Undoes, nothing, undone}
use Rattle.dlk_session.specs.Sessions.{Line, Answer, Replies, Shows, Turn, applies, undoes, shows, saves, Turns, none, more}

-- ---- steps that are taken

takes_both : (rows mid after : List Provable) (first second : List Step) → Takes rows first mid → Takes mid second after →
    Takes rows (first ++ second) after
takes_both rows mid _ first _ p no_step = subst (λ xs. Takes rows xs mid) (sym (append-nil first)) p
takes_both rows mid _ first _ p (one_step {steps = second} {mid = between} {step} {p = row} before is) =
    subst (λ xs. Takes rows xs (between ++ row ∷ [])) (append_assoc first second (step ∷ [])) (one_step (takes_both rows mid between first second p before) is)

-- the rows stand behind those of before
pub rows_behind : (rows after : List Provable) (steps : List Step) → Takes rows steps after → (new : List Provable) × (after ≡ rows ++ new)
rows_behind rows _ _ no_step = ([], sym (append-nil rows))
rows_behind rows _ _ (one_step {steps} {mid} {step} {p} before is) =
    let first = rows_behind rows mid steps before in
    (first.0 ++ p ∷ [], ap (λ xs. xs ++ p ∷ []) first.1 ∙ append_assoc rows first.0 (p ∷ []))

-- so many of the steps give so many of the rows
takes_some : (steps : List Step) (rows : List Provable) (n : ℕ) → Takes [] steps rows → n ≤ length steps → Takes [] (take n steps) (take n rows)
takes_some _ _ zero no_step few = no_step
takes_some _ _ (suc n) no_step few = absurd (omega (arith, few))
takes_some _ _ n (one_step {steps} {mid} {step} {p} before is) few =
    let many = takes_length [] steps mid before in
    let all = length-append steps (step ∷ []) in
    let rows = length-append mid (p ∷ []) in
    elim (cases_lt (length steps) n) [
      | inl past ↦
          let whole = take_all n (steps ++ step ∷ []) (omega (arith, past, all)) in
          let each = take_all n (mid ++ p ∷ []) (omega (arith, past, rows, many)) in
          rw (whole, each) (one_step before is)
      | inr within ↦
          let front = take-append-le n steps (step ∷ []) within in
          let first = take-append-le n mid (p ∷ []) (omega (arith, within, many)) in
          rw (front, first) (takes_some steps mid n before within)
    ]

-- ---- what can be undone

pub record WasEarlier (before : List ℕ) (count most : ℕ) : Type 0 where
  pub earlier : AreEarlier before count
  pub some : 1 ≤ count
  pub within : count ≤ most

pub last_earlier : (counts before : List ℕ) (count most : ℕ) → AreEarlier counts most → counts ≡ before ++ count ∷ [] → WasEarlier before count most
last_earlier _ before count most none_earlier e = let n = length-append before (count ∷ []) in absurd (omega (arith, n, ap length e))
last_earlier _ before count most (one_earlier {before = others} {count = last} rest some within) e =
    let same = same_from_push others before last count e in
    let number = same.1 in
    record {
      earlier = subst (λ (xs : List ℕ). AreEarlier xs count) same.0 (subst (AreEarlier others) same.1 rest);
      some = omega (arith, some, number);
      within = omega (arith, within, number);
    }

-- ---- what a state keeps

pub begins_kept : (formula : Tree) (now : State) → Begins formula now → IsKept now
begins_kept formula now begins =
    let first : State = record { steps = Start (alone_right formula) ∷ []; rows = begins.provable ∷ []; earlier = []; used = 0; saved = None } in
    let kept : IsKept first = record {
      taken = one_step no_step begins.start;
      some = omega arith;
      few = omega arith;
      used = omega arith;
      earlier = none_earlier;
    } in
    subst IsKept (sym begins.is) kept

pub kept_room : (now : State) → IsKept now → length now.rows + most_steps * (most_runs - now.used) ≤ most_rows
kept_room now kept =
    let count = takes_length [] now.steps now.rows kept.taken in
    let few = kept.few in
    let used = kept.used in
    omega (arith, count, few, used)

at_one : (rows : List Provable) (n : ℕ) (p q : Provable) → At rows n p → At rows n q → p ≡ q
at_one rows n p q a b = let e : item_at rows n ≡ Some q = b in cc

pushed : (xs : List ℕ) (n : ℕ) → xs ++ n ∷ [] ≡ [] → ⊥
pushed xs n e = let all = length-append xs (n ∷ []) in absurd (omega (arith, all, ap length e))

pub undo_kept : (now next : State) (says : Reply) → IsKept now → Undoes now says next → IsKept next
undo_kept now _ _ kept (nothing e) = kept
undo_kept now _ _ kept (undone before count e) =
    let was = last_earlier now.earlier before count (length now.steps) kept.earlier e in
    let some = was.some in
    let within = was.within in
    let few = kept.few in
    let left : length (take count now.steps) ≡ count = length-take count now.steps ∙ omega (arith, within) in
    record {
      taken = takes_some now.steps now.rows count kept.taken within;
      some = omega (arith, left, some);
      few = omega (arith, left, within, few);
      used = kept.used;
      earlier = subst (AreEarlier before) (sym left) was.earlier;
    }

undo_one : (now next other : State) (a b : Reply) → Undoes now a next → Undoes now b other → (a ≡ b) × (next ≡ other)
undo_one now _ _ _ _ (nothing e) (nothing e') = (refl, refl)
undo_one now _ _ _ _ (nothing e) (undone before count e') = absurd (pushed before count (sym e' ∙ e))
undo_one now _ _ _ _ (undone before count e') (nothing e) = absurd (pushed before count (sym e' ∙ e))
undo_one now _ _ _ _ (undone before count e) (undone others last e') =
    let same = same_from_push before others count last (sym e ∙ e') in
    let front = same.0 in
    let number = same.1 in (
      λ i. reply.Ok (length (main_goals (take (number i) now.rows))),
      λ i. record now { steps = take (number i) now.steps; rows = take (number i) now.rows; earlier = front i },
    )

module _ (becomes : Becoming)
    (taken : (t : Tactic) (rows : List Provable) (goal used : ℕ) (made : Progress) (left : ℕ) → becomes t rows goal used (Done made left) →
    Takes rows made.steps made.rows)
    (counted : (t : Tactic) (rows : List Provable) (goal used : ℕ) (made : Progress) (left : ℕ) → used ≤ most_runs →
    becomes t rows goal used (Done made left) → (used ≤ made.used) × (made.used ≤ most_runs) × (length made.steps ≤ most_steps * (made.used - used)))
    (failed : (t : Tactic) (rows : List Provable) (goal used at count : ℕ) (why : FailWhy) → used ≤ most_runs →
    becomes t rows goal used (Fails at why count) → (used ≤ count) × (count ≤ most_runs)) where
  pub apply_kept : (goal : ℕ) (t : Tactic) (now next : State) (says : Reply) → IsKept now → Applies becomes goal t now says next → IsKept next
  apply_kept goal t now _ _ kept (no_goal none_there) = kept
  apply_kept goal t now _ _ kept (done {made} {left} there h) =
      let count = counted t now.rows goal now.used made left kept.used h in
      let all = length-append now.steps made.steps in
      let few = kept.few in
      let some = kept.some in
      let up = count.0 in
      let steps = count.2 in
      record {
        taken = takes_both [] now.rows made.rows now.steps made.steps kept.taken (taken t now.rows goal now.used made left h);
        some = omega (arith, some, all);
        few = omega (arith, few, all, up, steps);
        used = count.1;
        earlier = one_earlier kept.earlier kept.some (omega (arith, all));
      }
  apply_kept goal t now _ _ kept (fails {at} {used} {why} there h) =
      let count = failed t now.rows goal now.used at used why kept.used h in
      let up = count.0 in
      let few = kept.few in
      record { taken = kept.taken; some = kept.some; few = omega (arith, few, up); used = count.1; earlier = kept.earlier }
  apply_kept goal t now _ _ kept (spent {at} there h) =
      let few = kept.few in
      let used = kept.used in
      record { taken = kept.taken; some = kept.some; few = omega (arith, few, used); used = omega arith; earlier = kept.earlier }

  pub turn_kept : (now next : State) (line : Line) (answer : Answer) → IsKept now → Turn becomes now line answer next → IsKept next
  turn_kept now _ _ _ kept (applies {goal} {strategy} {says} {next} h) = apply_kept goal strategy now next says kept h
  turn_kept now _ _ _ kept (undoes {says} {next} h) = undo_kept now next says kept h
  turn_kept now _ _ _ kept (shows is) = kept
  turn_kept now _ _ _ kept saves = record { taken = kept.taken; some = kept.some; few = kept.few; used = kept.used; earlier = kept.earlier }

  -- what an undone run gives back
  pub record GivenBack (now next last : State) : Type 0 where
    pub steps : last.steps ≡ now.steps
    pub rows : last.rows ≡ now.rows
    pub earlier : last.earlier ≡ now.earlier

  undo_back : (now : State) (goal left : ℕ) (t : Tactic) (made : Progress) (last : State) (says : Reply) → IsKept now →
      becomes t now.rows goal now.used (Done made left) →
      Undoes (record now { steps = now.steps ++ made.steps; rows = made.rows; earlier = now.earlier ++ length now.steps ∷ []; used = made.used }) says last →
      GivenBack now (record now { steps = now.steps ++ made.steps; rows = made.rows; earlier = now.earlier ++ length now.steps ∷ []; used = made.used }) last
  undo_back now goal left t made _ _ kept h (nothing e) = absurd (pushed now.earlier (length now.steps) e)
  undo_back now goal left t made _ _ kept h (undone before count e) =
      let same = same_from_push now.earlier before (length now.steps) count e in
      let more_rows = rows_behind now.rows made.rows made.steps (taken t now.rows goal now.used made left h) in
      let rows_made = takes_length [] now.steps now.rows kept.taken in
      let many : length now.rows ≡ length now.steps = omega (arith, rows_made) in
      record {
        steps = ap (λ n. take n (now.steps ++ made.steps)) (sym same.1) ∙ take-append_seam now.steps made.steps;
        rows =
            ap (λ n. take n made.rows) (sym same.1 ∙ sym many) ∙ ap (take (length now.rows)) more_rows.1 ∙ take-append_seam now.rows more_rows.0;
        earlier = sym same.0;
      }

  given_back : (now next last : State) (goal goals : ℕ) (t : Tactic) (first says : Reply) → IsKept now → Applies becomes goal t now first next →
      first ≡ reply.Ok goals → Undoes next says last → GivenBack now next last
  given_back now _ last goal goals t _ says kept (no_goal none_there) e undo = absurd (cc e)
  given_back now _ last goal goals t _ says kept (done {made} {left} there h) e undo = undo_back now goal left t made last says kept h undo
  given_back now _ last goal goals t _ says kept (fails there h) e undo = absurd (cc e)
  given_back now _ last goal goals t _ says kept (spent there h) e undo = absurd (cc e)

  pub gives_back : (now next last : State) (goal goals : ℕ) (t : Tactic) (says : Reply) → IsKept now → Applies becomes goal t now (reply.Ok goals) next →
      Undoes next says last → GivenBack now next last
  gives_back now next last goal goals t says kept h undo = given_back now next last goal goals t (reply.Ok goals) says kept h refl undo

pub undo_counts : (now last : State) (says : Reply) → Undoes now says last → last.used ≡ now.used
undo_counts now _ _ (nothing e) = refl
undo_counts now _ _ (undone before count e) = refl

module _ (becomes : Becoming)
    (one : (t : Tactic) (rows : List Provable) (goal used : ℕ) (a b : Outcome) → becomes t rows goal used a → becomes t rows goal used b → a ≡ b) where
  same_made : (made other : Progress) (left more_left : ℕ) → Done made left ≡ Done other more_left → made ≡ other
  same_made made other left more_left e = cc e

  same_at : (at byte used count : ℕ) (why reason : FailWhy) → Fails at why used ≡ Fails byte reason count → at ≡ byte
  same_at at byte used count why reason e = cc e

  same_why : (at byte used count : ℕ) (why reason : FailWhy) → Fails at why used ≡ Fails byte reason count → why ≡ reason
  same_why at byte used count why reason e = cc e

  same_used : (at byte used count : ℕ) (why reason : FailWhy) → Fails at why used ≡ Fails byte reason count → used ≡ count
  same_used at byte used count why reason e = cc e

  same_byte : (at byte : ℕ) → Budget at ≡ Budget byte → at ≡ byte
  same_byte at byte e = cc e

  apply_one : (goal : ℕ) (t : Tactic) (now next other : State) (a b : Reply) → Applies becomes goal t now a next → Applies becomes goal t now b other →
      (a ≡ b) × (next ≡ other)
  apply_one goal t now _ _ _ _ (no_goal out) (no_goal out') = (refl, refl)
  apply_one goal t now _ _ _ _ (no_goal out) (done there h) = absurd (out there)
  apply_one goal t now _ _ _ _ (no_goal out) (fails there h) = absurd (out there)
  apply_one goal t now _ _ _ _ (no_goal out) (spent there h) = absurd (out there)
  apply_one goal t now _ _ _ _ (done there h) (no_goal out) = absurd (out there)
  apply_one goal t now _ _ _ _ (done {made} {left} there h) (done {made = other} {left = left'} there' h') =
      let same = same_made made other left left' (one t now.rows goal now.used (Done made left) (Done other left') h h') in (
        λ i. reply.Ok (length (main_goals (same i).rows)),
        λ i. record now { steps = now.steps ++ (same i).steps; rows = (same i).rows; earlier = now.earlier ++ length now.steps ∷ []; used = (same i).used },
      )
  apply_one goal t now _ _ _ _ (done {made} {left} there h) (fails {at} {used} {why} there' h') =
      let e = one t now.rows goal now.used (Done made left) (Fails at why used) h h' in absurd (cc e)
  apply_one goal t now _ _ _ _ (done {made} {left} there h) (spent {at} there' h') =
      let e = one t now.rows goal now.used (Done made left) (Budget at) h h' in absurd (cc e)
  apply_one goal t now _ _ _ _ (fails there h) (no_goal out) = absurd (out there)
  apply_one goal t now _ _ _ _ (fails {at} {used} {why} there' h') (done {made} {left} there h) =
      let e = one t now.rows goal now.used (Done made left) (Fails at why used) h h' in absurd (cc e)
  apply_one goal t now _ _ _ _ (fails {at} {used} {why} there h) (fails {at = byte} {used = count} {why = reason} there' h') =
      let e = one t now.rows goal now.used (Fails at why used) (Fails byte reason count) h h' in
      let where_at = same_at at byte used count why reason e in
      let reasons = same_why at byte used count why reason e in
      let counts = same_used at byte used count why reason e in
      (λ i. reply.Fails (where_at i) (reasons i), λ i. record now { used = counts i })
  apply_one goal t now _ _ _ _ (fails {at} {used} {why} there h) (spent {at = byte} there' h') =
      let e = one t now.rows goal now.used (Fails at why used) (Budget byte) h h' in absurd (cc e)
  apply_one goal t now _ _ _ _ (spent there h) (no_goal out) = absurd (out there)
  apply_one goal t now _ _ _ _ (spent {at} there' h') (done {made} {left} there h) =
      let e = one t now.rows goal now.used (Done made left) (Budget at) h h' in absurd (cc e)
  apply_one goal t now _ _ _ _ (spent {at = byte} there' h') (fails {at} {used} {why} there h) =
      let e = one t now.rows goal now.used (Fails at why used) (Budget byte) h h' in absurd (cc e)
  apply_one goal t now _ _ _ _ (spent {at} there h) (spent {at = byte} there' h') =
      let e = same_byte at byte (one t now.rows goal now.used (Budget at) (Budget byte) h h') in
      (λ i. reply.Budget (e i), refl)

  pub turn_one : (now next other : State) (line : Line) (a b : Answer) → Turn becomes now line a next → Turn becomes now line b other →
      (a ≡ b) × (next ≡ other)
  turn_one now _ _ _ _ _ (applies {goal} {strategy} {says} {next} h) (applies {says = says'} {next = next'} h') =
      let same = apply_one goal strategy now next next' says says' h h' in (ap Replies same.0, same.1)
  turn_one now _ _ _ _ _ (undoes {says} {next} h) (undoes {says = says'} {next = next'} h') =
      let same = undo_one now next next' says says' h h' in (ap Replies same.0, same.1)
  turn_one now _ _ _ _ _ (shows {p} is) (shows {p = q} is') =
      let same = at_one now.rows (length now.rows) p q is is' in (ap (λ (r : Provable). Shows (text_report r (length now.rows))) same, refl)
  turn_one now _ _ _ _ _ saves saves = (refl, refl)

  pub turns_one : (now last other : State) (lines : List Line) (a b : List Answer) → Turns becomes now lines a last → Turns becomes now lines b other →
      (a ≡ b) × (last ≡ other)
  turns_one _ _ _ _ _ _ none none = (refl, refl)
  turns_one _ _ _ _ _ _ (more {now} {next} {last} {line} {lines} {answer} {answers} h rest)
      (more {next = next'} {last = last'} {answer = answer'} {answers = answers'} h' rest') =
      let same = turn_one now next next' line answer answer' h h' in
      let others = turns_one next' last last' lines answers answers' (subst (λ (s : State). Turns becomes s lines answers last) same.1 rest) rest' in
      let first = same.0 in
      let behind = others.0 in
      (λ i. first i ∷ behind i, others.1)
