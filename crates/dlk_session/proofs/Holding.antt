-- Sessions over stores that grow: what they hold, and the states that they stand for.
use Rattle.std.proofs.Common.{◌≡◌, ℕ, ◌-◌, ◌*◌, ◌≤◌, ◌<◌, List, [], ◌∷◌, ◌++◌, take, drop, map, length, Option, Some, None, refl, sym, ap, subst, ◌∙◌}
use Rattle.std.proofs.Common.{arith, length-append, length-take}
use Rattle.std.specs.List.{All}
use Rattle.std.specs.Prelude.{option_map}
use Rattle.std.proofs.lemmas.List.{map-append, length-map, take-map, take-take, take-append-le, take-append-drop, take_all}
use Rattle.std.proofs.Math.Seq.{take-length}
use Rattle.std.proofs.lemmas.List.Elements.{All-nil, All-cons, All-head, All-tail, All-append, All-weaker, All-take}
use Rattle.dlk_tree.specs.Trees.{Tree}
use Rattle.dlk_store.specs.Stores.{Keeps}
use Rattle.dlk_calculus.specs.Limits.{most_rows}
use Rattle.dlk_calculus.specs.Places.{IsPlace}
use Rattle.dlk_calculus.specs.Provables.{Provable}
use Rattle.dlk_calculus.specs.Sequents.{alone_right}
use Rattle.dlk_calculus.specs.Steps.{Start, Adds}
use Rattle.dlk_rules.specs.declared.step.Step.{Step}
use Rattle.dlk_rules.specs.Steps.{step_at, HasKnownIds}
use Rattle.dlk_kernel.specs.Kernel.{State as KernelState, facts, provable_at, ExtendsRows, SameRows}
use Rattle.dlk_kernel.specs.Taken.{Takes}
use Rattle.dlk_tacsyn.specs.Tactics.{Tactic}
use Rattle.dlk_elab.specs.declared.fault.FailWhy.{FailWhy}
use Rattle.dlk_elab.specs.Outcomes.{Progress, Done, Fails, Budget, most_runs, most_steps, main_goals}
use Rattle.dlk_elab.specs.Ties.{progress_at}
use Rattle.dlk_elab.proofs.FewSteps.{takes_length}
use Rattle.dlk_session.specs.declared.reply.Reply.{Reply}
use Rattle.dlk_session.specs.declared.reply.Reply.TheVariants as reply
use Rattle.dlk_session.specs.Sessions.{Becoming, State, Begins, Applies, done, fails, spent, Undoes, nothing, undone, saving}
use Rattle.dlk_session.specs.Kept.{IsKept}
use Rattle.dlk_session.specs.Held.{Held, state, AreSaved, saved_steps, AreShared, IsHeld}
use Rattle.dlk_session.proofs.Turning.{begins_kept, apply_kept, undo_kept, WasEarlier, last_earlier}

-- ---- what was saved

module _ (trees : List Tree) where
  pub shared_none : (steps : List Step) (saved : Option (List Step)) → AreShared trees 0 steps saved
  shared_none steps saved = record { within = omega arith; there = omega arith; same = refl }

  pub shared_more : (count : ℕ) (steps new all : List Step) (saved : Option (List Step)) → all ≡ steps ++ new → AreShared trees count steps saved →
      AreShared trees count all saved
  shared_more count steps new all saved is s =
      let n = length-append steps new in
      record {
        within = omega (arith, s.within, n, ap length is);
        there = s.there;
        same = s.same ∙ ap (map (step_at trees)) (sym (take-append-le count steps new s.within) ∙ ap (take count) (sym is));
      }

  pub shared_fewer : (count fewer cut : ℕ) (steps left : List Step) (saved : Option (List Step)) → fewer ≤ count → fewer ≤ cut → left ≡ take cut steps →
      AreShared trees count steps saved → AreShared trees fewer left saved
  shared_fewer count fewer cut steps left saved few within is s =
      let n = length-take cut steps in
      let f = step_at trees in
      let all = saved_steps saved in
      record {
        within = omega (arith, few, within, s.within, n, ap length is);
        there = omega (arith, few, s.there);
        same = ap (map f) (sym (take-take fewer count all few)) ∙ sym (take-map f fewer (take count all)) ∙ ap (take fewer) s.same
            ∙ take-map f fewer (take count steps) ∙ ap (map f)
            (take-take fewer count steps few ∙ sym (take-take fewer cut steps within) ∙ ap (take fewer) (sym is));
      }

  -- all of them are
  pub shared_all : (steps saved : List Step) → map (step_at trees) saved ≡ map (step_at trees) steps → AreShared trees (length steps) steps (Some saved)
  shared_all steps saved same =
      let a = length-map saved (step_at trees) in
      let b = length-map steps (step_at trees) in
      let count : length saved ≤ length steps = omega (arith, a, b, ap length same) in
      record {
        within = omega arith;
        there = omega (arith, a, b, ap length same);
        same = ap (map (step_at trees)) (take_all (length steps) saved count) ∙ same ∙ sym (ap (map (step_at trees)) (take-length steps));
      }

  -- copies of the others behind the first ones
  pub saved_again : (count : ℕ) (steps new all : List Step) (saved : Option (List Step)) → AreShared trees count steps saved →
      map (step_at trees) new ≡ map (step_at trees) (drop count steps) → all ≡ take count (saved_steps saved) ++ new →
      map (step_at trees) all ≡ map (step_at trees) steps
  saved_again count steps new all saved s same is =
      let f = step_at trees in
      ap (map f) is ∙ map-append f (take count (saved_steps saved)) new ∙ (λ i. s.same i ++ same i) ∙ sym (map-append f (take count steps) (drop count steps))
      ∙ ap (map f) (take-append-drop count steps)

  pub saved_known_again : (count : ℕ) (new all : List Step) (saved : Option (List Step)) → AreSaved trees saved → All (HasKnownIds trees) new →
      all ≡ take count (saved_steps saved) ++ new → All (HasKnownIds trees) all
  saved_known_again count new all None h known is =
      let Known : Step → Type 0 = HasKnownIds trees in
      subst (All Known) (sym is) (All-append Known (take count []) new (All-take Known count [] (All-nil Known)) known)
  saved_known_again count new all (Some steps) h known is =
      let Known : Step → Type 0 = HasKnownIds trees in
      subst (All Known) (sym is) (All-append Known (take count steps) new (All-take Known count steps h.known) known)

  -- where nothing was saved, there are no first ones
  pub none_before : (count : ℕ) (new : List Step) → new ≡ take count [] ++ new
  none_before count new = sym (ap (λ xs. xs ++ new) (take_all count [] (omega arith)))

-- ---- sessions over a store

module _ {S : Type 0} (trees : S → List Tree) where
  pub row_count : (held : Held S) → IsHeld trees held → length held.kernel.rows ≡ length held.steps
  row_count held h =
      let rows = length-map held.kernel.rows (provable_at (trees held.kernel.store)) in
      let steps = length-map held.steps (step_at (trees held.kernel.store)) in
      let same = takes_length [] (state trees held).steps (state trees held).rows h.kept.taken in
      omega (arith, rows, steps, same)

  pub some_rows : (held : Held S) → IsHeld trees held → 1 ≤ length held.kernel.rows
  some_rows held h =
      let count = row_count held h in
      let steps = length-map held.steps (step_at (trees held.kernel.store)) in
      let some = h.kept.some in
      omega (arith, count, steps, some)

  -- ---- the first step

  -- what is held then
  abbrev pub first : KernelState S → List Step → Held S
  first kernel steps = record { kernel = kernel; steps = steps; earlier = []; used = 0; saved = None }

  pub begun : (formula : Tree) (kernel : KernelState S) (step : Step) (steps : List Step) → steps ≡ step ∷ [] →
      step_at (trees kernel.store) step ≡ Start (alone_right formula) → Adds [] (Start (alone_right formula)) (facts trees kernel) →
      Begins formula (state trees (first kernel steps))
  begun formula kernel step steps are is adds = record {
    provable = adds.provable;
    start = adds.is_its;
    is =
        let one = ap (map (step_at (trees kernel.store))) are ∙ ap (λ s. s ∷ []) is in
        let row = adds.after_is in
        λ i. record { steps = one i; rows = row i; earlier = []; used = 0; saved = None };
  }

  pub begun_held : (formula : Tree) (kernel : KernelState S) (step : Step) (steps : List Step) → steps ≡ step ∷ [] →
      step_at (trees kernel.store) step ≡ Start (alone_right formula) → Adds [] (Start (alone_right formula)) (facts trees kernel) →
      HasKnownIds (trees kernel.store) step → IsHeld trees (first kernel steps)
  begun_held formula kernel step steps are is adds known = record {
    kept = begins_kept formula (state trees (first kernel steps)) (begun formula kernel step steps are is adds);
    known =
        let Known : Step → Type 0 = HasKnownIds (trees kernel.store) in
        subst (All Known) (sym are) (All-cons Known step [] known (All-nil Known));
    saved = tt;
  }

  -- ---- rows

  -- rows that were added are taken back
  pub rows_back : (old mid k : KernelState S) (rows : ℕ) → ExtendsRows trees old mid → rows ≡ length old.rows → k.rows ≡ take rows mid.rows →
      k.store ≡ mid.store → SameRows trees old k
  rows_back old mid k rows extends is_rows e_rows e_store =
      let store : facts trees k ≡ map (provable_at (trees mid.store)) k.rows = ap (λ s. map (provable_at (trees s)) k.rows) e_store in
      let kept : map (provable_at (trees mid.store)) k.rows ≡ take (length old.rows) (facts trees mid) =
      ap (map (provable_at (trees mid.store))) (e_rows ∙ ap (λ n. take n mid.rows) is_rows)
      ∙ sym (take-map (provable_at (trees mid.store)) (length old.rows) mid.rows) in
      record { ids = e_rows ∙ ap (λ n. take n mid.rows) is_rows ∙ extends.ids; provables = store ∙ kept ∙ extends.provables }

  pub zero_no_goal : (k : KernelState S) (goal : ℕ) → goal ≡ 0 → ¬ IsPlace (main_goals (facts trees k)) goal
  zero_no_goal k goal e p = absurd (omega (arith, e, p.0))

  pub past_no_goal : (k : KernelState S) (goal n : ℕ) → n ≡ length (main_goals (facts trees k)) → n < goal → ¬ IsPlace (main_goals (facts trees k)) goal
  past_no_goal k goal n e less p = absurd (omega (arith, e, less, p.1))

  pub is_goal : (k : KernelState S) (goal n : ℕ) → n ≡ length (main_goals (facts trees k)) → (goal ≡ 0 → ⊥) → goal ≤ n →
      IsPlace (main_goals (facts trees k)) goal
  is_goal k goal n e some few = (omega (arith, some), omega (arith, e, few))

  -- ---- undoing

  module _ (held : Held S) (h : IsHeld trees held) (before : List ℕ) (count : ℕ) (is : held.earlier ≡ before ++ count ∷ []) where
    -- it was within
    pub was : WasEarlier before count (length (state trees held).steps)
    was = last_earlier held.earlier before count (length (state trees held).steps) h.kept.earlier is

    pub within_rows : count ≤ length held.kernel.rows
    within_rows =
        let w = was.within in
        let rows = row_count held h in
        let steps = length-map held.steps (step_at (trees held.kernel.store)) in
        omega (arith, w, rows, steps)

    abbrev pub cut : KernelState S → List Step → Held S
    cut kernel steps = record { kernel = kernel; steps = steps; earlier = before; used = held.used; saved = held.saved }

    pub left_some : (kernel : KernelState S) → kernel.rows ≡ take count held.kernel.rows → 1 ≤ length kernel.rows
    left_some kernel rows =
        let some = was.some in
        let within = within_rows in
        let n = length-take count held.kernel.rows in
        omega (arith, ap length rows, some, within, n)

    pub run_undone : (kernel : KernelState S) (steps : List Step) → kernel.store ≡ held.kernel.store → kernel.rows ≡ take count held.kernel.rows →
        steps ≡ take count held.steps → Undoes (state trees held) (reply.Ok (length (main_goals (facts trees kernel)))) (state trees (cut kernel steps))
    run_undone kernel steps store rows are =
        let facts_are : take count (facts trees held.kernel) ≡ facts trees kernel =
        take-map (provable_at (trees held.kernel.store)) count held.kernel.rows
        ∙ (λ i. map (provable_at (trees (sym store i))) (sym rows i)) in
        let steps_are : take count (map (step_at (trees held.kernel.store)) held.steps) ≡ map (step_at (trees kernel.store)) steps =
        take-map (step_at (trees held.kernel.store)) count held.steps ∙ (λ i. map (step_at (trees (sym store i))) (sym are i)) in
        let P : State → Reply → Type 0 = λ next says. Undoes (state trees held) says next in
        let state_is : record (state trees held)
        { steps = take count (state trees held).steps; rows = take count (state trees held).rows; earlier = before } ≡ state trees (cut kernel steps) =
        λ i. record {
          steps = steps_are i;
          rows = facts_are i;
          earlier = before;
          used = held.used;
          saved =
              option_map (map (step_at (trees (sym store i)))) held.saved;
        } in
        let by_state : Undoes (state trees held) (reply.Ok (length (main_goals (take count (state trees held).rows)))) (state trees (cut kernel steps)) =
        subst (λ (next : State). Undoes (state trees held) (reply.Ok (length (main_goals (take count (state trees held).rows)))) next) state_is
        (undone before count is) in
        subst (λ (rs : List Provable). Undoes (state trees held) (reply.Ok (length (main_goals rs))) (state trees (cut kernel steps))) facts_are by_state

    pub undone_held : (kernel : KernelState S) (steps : List Step) → kernel.store ≡ held.kernel.store → kernel.rows ≡ take count held.kernel.rows →
        steps ≡ take count held.steps → IsHeld trees (cut kernel steps)
    undone_held kernel steps store rows are = record {
      kept = undo_kept (state trees held) (state trees (cut kernel steps)) (reply.Ok (length (main_goals (facts trees kernel)))) h.kept
          (run_undone kernel steps store rows are);
      known = subst (λ (s : S). All (HasKnownIds (trees s)) steps) (sym store)
          (subst (All (HasKnownIds (trees held.kernel.store))) (sym are) (All-take (HasKnownIds (trees held.kernel.store)) count held.steps h.known));
      saved = subst (λ (s : S). AreSaved (trees s) held.saved) (sym store) h.saved;
    }

  -- what is shared of what is left
  pub undone_shared : (old new : S) (shared fewer count : ℕ) (all steps : List Step) (saved : Option (List Step)) → fewer ≤ shared → fewer ≤ count →
      new ≡ old → steps ≡ take count all → AreShared (trees old) shared all saved → AreShared (trees new) fewer steps saved
  undone_shared old new shared fewer count all steps saved less within store are h =
      subst (λ (s : S). AreShared (trees s) fewer steps saved) (sym store) (shared_fewer (trees old) shared fewer count all steps saved less within are h)

  -- nothing is there to be undone
  pub none_undone : (held : Held S) (earlier : List ℕ) → held.earlier ≡ [] → earlier ≡ [] →
      Undoes (state trees held) reply.Nothing (state trees (record held { earlier = earlier }))
  none_undone held earlier is now =
      let same : held.earlier ≡ earlier = is ∙ sym now in
      let state_is : state trees held ≡ state trees (record held { earlier = earlier }) = λ i. record (state trees held) { earlier = same i } in
      subst (λ (next : State). Undoes (state trees held) reply.Nothing next) state_is (nothing is)

  -- ---- saving

  few_steps : (held : Held S) → IsHeld trees held → length held.steps ≤ most_rows
  few_steps held h =
      let few = h.kept.few in
      let used = h.kept.used in
      let steps = length-map held.steps (step_at (trees held.kernel.store)) in
      omega (arith, few, used, steps)

  pub save_held : (held : Held S) (copies : List Step) → IsHeld trees held →
      map (step_at (trees held.kernel.store)) copies ≡ map (step_at (trees held.kernel.store)) held.steps →
      All (HasKnownIds (trees held.kernel.store)) copies → IsHeld trees (record held { saved = Some copies })
  save_held held copies h same known =
      let few = few_steps held h in
      let a = length-map copies (step_at (trees held.kernel.store)) in
      let b = length-map held.steps (step_at (trees held.kernel.store)) in
      record {
        kept = record { taken = h.kept.taken; some = h.kept.some; few = h.kept.few; used = h.kept.used; earlier = h.kept.earlier };
        known = h.known;
        saved = record { known = known; few = omega (arith, few, a, b, ap length same) };
      }

  pub save_state : (held : Held S) (copies : List Step) → map (step_at (trees held.kernel.store)) copies ≡ map (step_at (trees held.kernel.store)) held.steps →
      state trees (record held { saved = Some copies }) ≡ saving (state trees held)
  save_state held copies same = λ i. record {
    steps = (state trees held).steps;
    rows = facts trees held.kernel;
    earlier = held.earlier;
    used =
        held.used;
    saved = Some (same i);
  }

-- Steps stay while the store grows.
module _ (known : (old new : List Tree) (step : Step) → Keeps old new → HasKnownIds old step → HasKnownIds new step)
    (same : (old new : List Tree) (step : Step) → Keeps old new → HasKnownIds old step → step_at new step ≡ step_at old step) where
  -- ---- steps

  module _ (old new : List Tree) (keeps : Keeps old new) where
    steps_same : (xs : List Step) → All (HasKnownIds old) xs → map (step_at new) xs ≡ map (step_at old) xs
    steps_same [] h = refl
    steps_same (x ∷ xs) h =
        let one : step_at new x ≡ step_at old x = same old new x keeps (All-head (HasKnownIds old) x xs h) in
        let others : map (step_at new) xs ≡ map (step_at old) xs = steps_same xs (All-tail (HasKnownIds old) x xs h) in
        λ i. one i ∷ others i

    steps_known : (xs : List Step) → All (HasKnownIds old) xs → All (HasKnownIds new) xs
    steps_known xs h = All-weaker (HasKnownIds old) (HasKnownIds new) (λ x. known old new x keeps) xs h

    saved_same : (saved : Option (List Step)) → AreSaved old saved → option_map (map (step_at new)) saved ≡ option_map (map (step_at old)) saved
    saved_same None h = refl
    saved_same (Some xs) h = ap Some (steps_same xs h.known)

    saved_known : (saved : Option (List Step)) → AreSaved old saved → AreSaved new saved
    saved_known None h = tt
    saved_known (Some xs) h = record { known = steps_known xs h.known; few = h.few }

    first_same : (count : ℕ) (xs ys : List Step) → All (HasKnownIds old) xs → All (HasKnownIds old) ys →
        map (step_at old) (take count xs) ≡ map (step_at old) (take count ys) → map (step_at new) (take count xs) ≡ map (step_at new) (take count ys)
    first_same count xs ys h k e =
        steps_same (take count xs) (All-take (HasKnownIds old) count xs h) ∙ e ∙ sym (steps_same (take count ys) (All-take (HasKnownIds old) count ys k))

    -- the first ones are those that were saved
    pub shared_grown : (count : ℕ) (steps : List Step) (saved : Option (List Step)) → All (HasKnownIds old) steps → AreSaved old saved →
        AreShared old count steps saved → AreShared new count steps saved
    shared_grown count steps None h k s =
        record { within = s.within; there = s.there; same = first_same count [] steps (All-nil (HasKnownIds old)) h s.same }
    shared_grown count steps (Some xs) h k s = record { within = s.within; there = s.there; same = first_same count xs steps k.known h s.same }

  -- ---- states

  module _ {S : Type 0} (trees : S → List Tree) where
    -- rows that stay, with another count of runs
    recounted : (held : Held S) (kernel : KernelState S) (used : ℕ) → IsHeld trees held → Keeps (trees held.kernel.store) (trees kernel.store) →
        SameRows trees held.kernel kernel → state trees (record held { kernel = kernel; used = used }) ≡ record (state trees held) { used = used }
    recounted held kernel used h keeps same =
        let steps = steps_same (trees held.kernel.store) (trees kernel.store) keeps held.steps h.known in
        let saved = saved_same (trees held.kernel.store) (trees kernel.store) keeps held.saved h.saved in
        λ i. record { steps = steps i; rows = same.provables i; earlier = held.earlier; used = used; saved = saved i }

    -- the rest of what is held
    holds_as : (held : Held S) (kernel : KernelState S) (used : ℕ) (next : State) → IsHeld trees held → Keeps (trees held.kernel.store) (trees kernel.store) →
        state trees (record held { kernel = kernel; used = used }) ≡ next → IsKept next → IsHeld trees (record held { kernel = kernel; used = used })
    holds_as held kernel used next h keeps is kept = record {
      kept = subst IsKept (sym is) kept;
      known = steps_known (trees held.kernel.store) (trees kernel.store) keeps held.steps h.known;
      saved = saved_known (trees held.kernel.store) (trees kernel.store) keeps held.saved h.saved;
    }

    -- a session whose store has grown
    pub same_state : (held : Held S) (kernel : KernelState S) → IsHeld trees held → Keeps (trees held.kernel.store) (trees kernel.store) →
        SameRows trees held.kernel kernel → state trees (record held { kernel = kernel }) ≡ state trees held
    same_state held kernel h keeps same = recounted held kernel held.used h keeps same

    pub still_held : (held : Held S) (kernel : KernelState S) → IsHeld trees held → Keeps (trees held.kernel.store) (trees kernel.store) →
        SameRows trees held.kernel kernel → IsHeld trees (record held { kernel = kernel })
    still_held held kernel h keeps same = holds_as held kernel held.used (state trees held) h keeps (same_state held kernel h keeps same) h.kept

    -- with what is shared
    pub still_shared : (held : Held S) (kernel : KernelState S) (shared : ℕ) →
        IsHeld trees held × AreShared (trees held.kernel.store) shared held.steps held.saved →
        Keeps (trees held.kernel.store) (trees kernel.store) → SameRows trees held.kernel kernel →
        IsHeld trees (record held { kernel = kernel }) × AreShared (trees kernel.store) shared held.steps held.saved
    still_shared held kernel shared h keeps rows = (
      still_held held kernel h.0 keeps rows,
      shared_grown (trees held.kernel.store) (trees kernel.store) keeps shared held.steps held.saved h.0.known h.0.saved h.1,
    )

    -- ---- a run

    module _ (becomes : Becoming)
        (taken : (t : Tactic) (rows : List Provable) (goal used : ℕ) (made : Progress) (left : ℕ) → becomes t rows goal used (Done made left) →
        Takes rows made.steps made.rows)
        (counted : (t : Tactic) (rows : List Provable) (goal used : ℕ) (made : Progress) (left : ℕ) → used ≤ most_runs →
        becomes t rows goal used (Done made left) → (used ≤ made.used) × (made.used ≤ most_runs) × (length made.steps ≤ most_steps * (made.used - used)))
        (failed : (t : Tactic) (rows : List Provable) (goal used at count : ℕ) (why : FailWhy) → used ≤ most_runs →
        becomes t rows goal used (Fails at why count) → (used ≤ count) × (count ≤ most_runs))
        (held : Held S) (shared : ℕ) (h : IsHeld trees held × AreShared (trees held.kernel.store) shared held.steps held.saved) (goal : ℕ) (t : Tactic)
        (there : IsPlace (main_goals (facts trees held.kernel)) goal) (kernel : KernelState S)
        (keeps : Keeps (trees held.kernel.store) (trees kernel.store)) where
      -- what a run has made of a session
      pub record Ran (new : Held S) (says : Reply) : Type 0 where
        pub applies : Applies becomes goal t (state trees held) says (state trees new)
        pub holds : IsHeld trees new × AreShared (trees new.kernel.store) shared new.steps new.saved

      kept_so : (new : Held S) (says : Reply) → Applies becomes goal t (state trees held) says (state trees new) → IsKept (state trees new)
      kept_so new says is = apply_kept becomes taken counted failed goal t (state trees held) (state trees new) says h.0.kept is

      -- it isn't done
      recounted_ran : (used : ℕ) (says : Reply) → SameRows trees held.kernel kernel →
          Applies becomes goal t (state trees held) says (record (state trees held) { used = used }) → Ran (record held { kernel = kernel; used = used }) says
      recounted_ran used says same is =
          let applies = subst (λ (next : State). Applies becomes goal t (state trees held) says next) (sym (recounted held kernel used h.0 keeps same)) is in
          record {
            applies = applies;
            holds = (
              holds_as held kernel used (state trees (record held { kernel = kernel; used = used })) h.0 keeps refl
                  (kept_so (record held { kernel = kernel; used = used }) says applies),
              shared_grown (trees held.kernel.store) (trees kernel.store) keeps shared held.steps held.saved h.0.known h.0.saved h.1,
            );
          }

      pub ran_fails : (at used : ℕ) (why : FailWhy) → SameRows trees held.kernel kernel →
          becomes t (facts trees held.kernel) goal held.used (Fails at why used) →
          Ran (record held { kernel = kernel; used = used }) (reply.Fails at why)
      ran_fails at used why same is = recounted_ran used (reply.Fails at why) same (fails there is)

      pub ran_spent : (at : ℕ) → SameRows trees held.kernel kernel → becomes t (facts trees held.kernel) goal held.used (Budget at) →
          Ran (record held { kernel = kernel; used = most_runs }) (reply.Budget at)
      ran_spent at same is = recounted_ran most_runs (reply.Budget at) same (spent there is)

      -- it is done
      abbrev pub made : List Step → List ℕ → ℕ → Held S
      made steps earlier used = record { kernel = kernel; steps = steps; earlier = earlier; used = used; saved = held.saved }

      run_done : (new steps : List Step) (earlier : List ℕ) (mark used count : ℕ) → steps ≡ held.steps ++ new → earlier ≡ held.earlier ++ mark ∷ [] →
          mark ≡ length held.kernel.rows → becomes t (facts trees held.kernel) goal held.used (Done (progress_at trees kernel new used) count) →
          Applies becomes goal t (state trees held) (reply.Ok (length (main_goals (facts trees kernel)))) (state trees (made steps earlier used))
      run_done new steps earlier mark used count are is_earlier is_mark is =
          let before = steps_same (trees held.kernel.store) (trees kernel.store) keeps held.steps h.0.known in
          let all : map (step_at (trees kernel.store)) steps ≡ map (step_at (trees held.kernel.store)) held.steps ++ map (step_at (trees kernel.store)) new =
          ap (map (step_at (trees kernel.store))) are ∙ map-append (step_at (trees kernel.store)) held.steps new
          ∙ ap (λ xs. xs ++ map (step_at (trees kernel.store)) new) before in
          let saved = saved_same (trees held.kernel.store) (trees kernel.store) keeps held.saved h.0.saved in
          let length_is : mark ≡ length (state trees held).steps =
          is_mark ∙ row_count trees held h.0 ∙ sym (length-map held.steps (step_at (trees held.kernel.store))) in
          let counts : earlier ≡ held.earlier ++ length (state trees held).steps ∷ [] = is_earlier ∙ ap (λ n. held.earlier ++ n ∷ []) length_is in
          let next : State = record (state trees held) {
            steps = (state trees held).steps ++ map (step_at (trees kernel.store)) new;
            rows = facts trees kernel;
            earlier = held.earlier ++ length (state trees held).steps ∷ [];
            used = used;
          } in
          let state_is : next ≡ state trees (made steps earlier used) =
          λ i. record { steps = sym all i; rows = facts trees kernel; earlier = sym counts i; used = used; saved = sym saved i } in
          subst (λ (s : State). Applies becomes goal t (state trees held) (reply.Ok (length (main_goals (facts trees kernel)))) s) state_is (done there is)

      pub ran_done : (new steps : List Step) (earlier : List ℕ) (mark used count left : ℕ) → steps ≡ held.steps ++ new → earlier ≡ held.earlier ++ mark ∷ [] →
          mark ≡ length held.kernel.rows → All (HasKnownIds (trees kernel.store)) new →
          becomes t (facts trees held.kernel) goal held.used (Done (progress_at trees kernel new used) count) →
          left ≡ length (main_goals (facts trees kernel)) →
          Ran (made steps earlier used) (reply.Ok left)
      ran_done new steps earlier mark used count left are is_earlier is_mark known_new is left_is =
          let Known : Step → Type 0 = HasKnownIds (trees kernel.store) in
          let old_known = steps_known (trees held.kernel.store) (trees kernel.store) keeps held.steps h.0.known in
          let applies = run_done new steps earlier mark used count are is_earlier is_mark is in
          let grown = shared_grown (trees held.kernel.store) (trees kernel.store) keeps shared held.steps held.saved h.0.known h.0.saved h.1 in
          record {
            applies = subst (λ n. Applies becomes goal t (state trees held) (reply.Ok n) (state trees (made steps earlier used))) (sym left_is) applies;
            holds = (
              record {
                kept = kept_so (made steps earlier used) (reply.Ok (length (main_goals (facts trees kernel)))) applies;
                known = subst (All Known) (sym are) (All-append Known held.steps new old_known known_new);
                saved = saved_known (trees held.kernel.store) (trees kernel.store) keeps held.saved h.0.saved;
              },
              shared_more (trees kernel.store) shared held.steps new steps held.saved are grown,
            );
          }
