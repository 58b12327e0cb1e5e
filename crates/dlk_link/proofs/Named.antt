-- Each kept step but the last is named by a later one.
use Rattle.std.proofs.Common.{◌≡◌, refl, sym, ap, subst, ◌∙◌, ℕ, zero, suc, ◌+◌, ◌<◌, ◌≤◌, List, [], ◌∷◌, ◌++◌, ◌⊎◌, inl, inr, length, arith, length-append}
use Rattle.std.proofs.Common.{append-nil, get_or}
use Rattle.std.proofs.lemmas.Option.{slice_get_within}
use Rattle.std.proofs.lemmas.Bool.{cases_order}
use Rattle.dlk_calculus.specs.Limits.{most_rows}
use Rattle.dlk_calculus.specs.Places.{At}
use Rattle.dlk_calculus.specs.Provables.{Provable}
use Rattle.dlk_calculus.specs.Steps.{Step, Start, UseAxiom, UseRule, Leaf, Apply, Merge, Substitute, Rename, Gives, StepOf, IsWithin}
use Rattle.dlk_calculus.specs.Steps.{start, use_axiom, use_rule, leaf, apply, merge, substitute, rename}
use Rattle.dlk_calculus.proofs.PlaceLaws.{at_suc}
use Rattle.dlk_rules.specs.Facts.{facts_of, renumbered}
use Rattle.dlk_link.proofs.Names.{HasFact, in_from_contains, contains_from_in}
use Rattle.dlk_link.specs.Kept.{Keeps, ShowsSame}
use Rattle.dlk_link.specs.Neat.{AreNamed}
use Rattle.dlk_kernel.specs.Taken.{Takes, none, more}
use Rattle.dlk_link.specs.Trimmed.{IsNeeded, the_last, is_named, new_number, moved, Trims, Trimmed, nothing_read, not_needed, kept_before, is_kept}
use Rattle.dlk_link.proofs.Kept.{at_more, at_last, at_either, at_some, old_number, last_number, take_last, take_length, trims_keep, nowhere}

names_moved : (to : ℕ → ℕ) (step : Step) (fact : ℕ) → HasFact step fact → HasFact (renumbered to step) (to fact)
names_moved to (Start s) fact h = h
names_moved to (UseAxiom name) fact h = h
names_moved to (UseRule name) fact h = h
names_moved to (Leaf s) fact h = h
names_moved to (Apply f goal rule) fact (inl e) = inl (ap to e)
names_moved to (Apply f goal rule) fact (inr e) = inr e
names_moved to (Merge f goal by) fact (inl e) = inl (ap to e)
names_moved to (Merge f goal by) fact (inr (inl e)) = inr (inl (ap to e))
names_moved to (Merge f goal by) fact (inr (inr e)) = inr (inr e)
names_moved to (Substitute f pairs) fact (inl e) = inl (ap to e)
names_moved to (Substitute f pairs) fact (inr e) = inr e
names_moved to (Rename f x y) fact (inl e) = inl (ap to e)
names_moved to (Rename f x y) fact (inr e) = inr e

pub same_moved : (to other : ℕ → ℕ) (step : Step) → ((fact : ℕ) → HasFact step fact → to fact ≡ other fact) → renumbered to step ≡ renumbered other step
same_moved to other (Start s) h = refl
same_moved to other (UseAxiom name) h = refl
same_moved to other (UseRule name) h = refl
same_moved to other (Leaf s) h = refl
same_moved to other (Apply f goal rule) h = ap (λ k. Apply k goal rule) (h f (inl refl))
same_moved to other (Merge f goal by) h = let a = h f (inl refl) in let b = h by (inr (inl refl)) in λ i. Merge (a i) goal (b i)
same_moved to other (Substitute f pairs) h = ap (λ k. Substitute k pairs) (h f (inl refl))
same_moved to other (Rename f x y) h = ap (λ k. Rename k x y) (h f (inl refl))

-- the facts that a taken step names are rows
fact_there : (rows : List Provable) (step : Step) (p : Provable) (fact : ℕ) → Gives rows step p → HasFact step fact → (q : Provable) × At rows fact q
fact_there rows step p fact (start s is) h = absurd h
fact_there rows step p fact (use_axiom name a is) h = absurd h
fact_there rows step p fact (use_rule name r is) h = absurd h
fact_there rows step p fact (leaf s is arithmetic) h = absurd h
fact_there rows step p fact (apply f goal rule q s premises row here proper makes) (inl e) = (q, subst (λ k. At rows k q) (sym e) row)
fact_there rows step p fact (apply f goal rule q s premises row here proper makes) (inr e) = absurd e
fact_there rows step p fact (merge f goal by q r new row other here are) (inl e) = (q, subst (λ k. At rows k q) (sym e) row)
fact_there rows step p fact (merge f goal by q r new row other here are) (inr (inl e)) = (r, subst (λ k. At rows k r) (sym e) other)
fact_there rows step p fact (merge f goal by q r new row other here are) (inr (inr e)) = absurd e
fact_there rows step p fact (substitute f pairs q r row made formed free makes) (inl e) = (q, subst (λ k. At rows k q) (sym e) row)
fact_there rows step p fact (substitute f pairs q r row made formed free makes) (inr e) = absurd e
fact_there rows step p fact (rename f x y q row a b) (inl e) = (q, subst (λ k. At rows k q) (sym e) row)
fact_there rows step p fact (rename f x y q row a b) (inr e) = absurd e

pub place_of : {A : Type 0} (items : List A) (n : ℕ) (x : A) → At items n x → (1 ≤ n) × (n ≤ length items)
place_of items zero x h = absurd (cc h)
place_of items (suc n) x h = let lt = slice_get_within items n x (sym (at_suc items n) ∙ h) in (omega arith, omega (arith, lt))

-- and earlier ones
pub facts_before : (steps : List Step) (rows : List Provable) (n : ℕ) (step : Step) (fact : ℕ) → Takes [] steps rows → At steps n step → HasFact step fact →
    (1 ≤ fact) × (fact < n)
facts_before _ _ n step fact none h named = absurd (nowhere n step h)
facts_before _ _ n step fact (more {steps = steps} {mid = mid} {step = last} {p = p} takes gives) h named =
    at_end (facts_before steps mid n step fact takes) (at_either steps last step n h)
  where
    at_end : (At steps n step → HasFact step fact → (1 ≤ fact) × (fact < n)) → (At steps n step ⊎ ((n ≡ length steps + 1) × (step ≡ last))) →
        (1 ≤ fact) × (fact < n)
    at_end before (inl e) = before e named
    at_end before (inr e) =
        let found = fact_there mid last p fact gives.given (subst (λ s. HasFact s fact) e.1 named) in
        let place = place_of mid fact found.0 found.1 in
        let count = take_length steps mid takes in
        let here = e.0 in let a = place.0 in let b = place.1 in (a, omega (arith, here, b, count))

-- what is kept of a needed row, and that each kept step is of one
record Shows (term read kept : List Step) (numbers : List ℕ) : Type 0 where
  numbered : length numbers ≡ length read
  stands : (row : ℕ) (step : Step) → IsNeeded term row → At read row step → At kept (new_number numbers row) (moved numbers step)
  onto : (k : ℕ) → 1 ≤ k → k ≤ length kept → (row : ℕ) × (step : Step) × IsNeeded term row × At read row step × (new_number numbers row ≡ k)

-- with one number more, steps of before are moved as before
moved_still : (read : List Step) (rows : List Provable) (numbers : List ℕ) (x row : ℕ) (step : Step) → length numbers ≡ length read → Takes [] read rows →
    At read row step →
    moved (numbers ++ x ∷ []) step ≡ moved numbers step
moved_still read rows numbers x row step e takes h =
    same_moved (new_number (numbers ++ x ∷ [])) (new_number numbers) step (λ fact named. still fact (facts_before read rows row step fact takes h named))
  where
    still : (fact : ℕ) → (1 ≤ fact) × (fact < row) → new_number (numbers ++ x ∷ []) fact ≡ new_number numbers fact
    still zero b = let a = b.0 in absurd (omega (arith, a))
    still (suc f) b =
        let lt = b.1 in let place = (place_of read row step h).1 in
        old_number numbers x (suc f) read (get_or read f step) e (at_some read f step (omega (arith, lt, place)))

-- the step that is read last
moved_new : (read : List Step) (rows : List Provable) (numbers : List ℕ) (x : ℕ) (step : Step) → length numbers ≡ length read →
    Takes [] (read ++ step ∷ []) rows →
    moved (numbers ++ x ∷ []) step ≡ moved numbers step
moved_new read rows numbers x step e takes =
    same_moved (new_number (numbers ++ x ∷ [])) (new_number numbers) step
    (λ fact named. still fact (facts_before (read ++ step ∷ []) rows (length read + 1) step fact takes (at_last read step) named))
  where
    still : (fact : ℕ) → (1 ≤ fact) × (fact < length read + 1) → new_number (numbers ++ x ∷ []) fact ≡ new_number numbers fact
    still zero b = let a = b.0 in absurd (omega (arith, a))
    still (suc f) b = let lt = b.1 in old_number numbers x (suc f) read (get_or read f step) e (at_some read f step (omega (arith, lt)))

shows : (term read kept : List Step) (numbers : List ℕ) (rows : List Provable) → Takes [] read rows → Trims term read kept numbers →
    Shows term read kept numbers
shows term _ _ _ rows takes nothing_read = record {
  numbered = refl;
  stands = λ row step need h. absurd (nowhere row step h);
  onto = λ k a b. absurd (omega (arith, a, b));
}
shows term _ kept _ rows takes (not_needed {read = read} {numbers = numbers} s before needless) =
    let last = take_last (read ++ s ∷ []) read s rows refl takes in
    let was = shows term read kept numbers last.mid last.takes before in
    record {
      numbered = let n = was.numbered in omega (arith, n, length-append read (s ∷ []), length-append numbers (0 ∷ []));
      stands = λ row step need h. elim (at_either read s step row h) [
        | inl e ↦ subst (λ k. At kept k (moved (numbers ++ 0 ∷ []) step)) (sym (old_number numbers 0 row read step was.numbered e))
            (subst (λ z. At kept (new_number numbers row) z) (sym (moved_still read last.mid numbers 0 row step was.numbered last.takes e)) (was.stands row
            step need e))
        | inr e ↦ absurd (needless (subst (IsNeeded term) e.0 need))
      ];
      onto = λ k a b. let f = was.onto k a b in
          (f.0, f.1, f.2, at_more read (s ∷ []) f.0 f.1 f.3, old_number numbers 0 f.0 read f.1 was.numbered f.3 ∙ f.4);
    }
shows term _ kept _ rows takes (kept_before {read = read} {numbers = numbers} s n before need_s stands) =
    let last = take_last (read ++ s ∷ []) read s rows refl takes in
    let was = shows term read kept numbers last.mid last.takes before in
    record {
      numbered = let m = was.numbered in omega (arith, m, length-append read (s ∷ []), length-append numbers (n ∷ []));
      stands = λ row step need h. elim (at_either read s step row h) [
        | inl e ↦ subst (λ k. At kept k (moved (numbers ++ n ∷ []) step)) (sym (old_number numbers n row read step was.numbered e))
            (subst (λ z. At kept (new_number numbers row) z) (sym (moved_still read last.mid numbers n row step was.numbered last.takes e)) (was.stands row
            step need e))
        | inr e ↦
            let m = was.numbered in let place = e.0 in
            let its : row ≡ length numbers + 1 = omega (arith, place, m) in
            subst (λ k. At kept (new_number (numbers ++ n ∷ []) k) (moved (numbers ++ n ∷ []) step)) (sym its)
            (subst (λ k. At kept k (moved (numbers ++ n ∷ []) step)) (sym (last_number numbers n))
            (subst (λ z. At kept n (moved (numbers ++ n ∷ []) z)) (sym e.1) (subst (λ z. At kept n z) (sym (moved_new read rows numbers n s was.numbered
            takes)) stands)))
      ];
      onto = λ k a b. let f = was.onto k a b in
          (f.0, f.1, f.2, at_more read (s ∷ []) f.0 f.1 f.3, old_number numbers n f.0 read f.1 was.numbered f.3 ∙ f.4);
    }
shows term _ _ _ rows takes (is_kept {read = read} {kept = kept} {numbers = numbers} s before need_s new) =
    let last = take_last (read ++ s ∷ []) read s rows refl takes in
    let was = shows term read kept numbers last.mid last.takes before in
    let n = length kept + 1 in
    let all = kept ++ moved numbers s ∷ [] in
    record {
      numbered = let m = was.numbered in omega (arith, m, length-append read (s ∷ []), length-append numbers (n ∷ []));
      stands = λ row step need h. elim (at_either read s step row h) [
        | inl e ↦ subst (λ k. At all k (moved (numbers ++ n ∷ []) step)) (sym (old_number numbers n row read step was.numbered e))
            (subst (λ z. At all (new_number numbers row) z) (sym (moved_still read last.mid numbers n row step was.numbered last.takes e))
            (at_more kept (moved numbers s ∷ []) (new_number numbers row) (moved numbers step) (was.stands row step need e)))
        | inr e ↦
            let m = was.numbered in let place = e.0 in
            let its : row ≡ length numbers + 1 = omega (arith, place, m) in
            subst (λ k. At all (new_number (numbers ++ n ∷ []) k) (moved (numbers ++ n ∷ []) step)) (sym its)
            (subst (λ k. At all k (moved (numbers ++ n ∷ []) step)) (sym (last_number numbers n))
            (subst (λ z. At all n (moved (numbers ++ n ∷ []) z)) (sym e.1)
            (subst (λ z. At all n z) (sym (moved_new read rows numbers n s was.numbered takes)) (at_last kept (moved numbers s)))))
      ];
      onto = λ k a b. elim (last_or_before k (length kept) (let c = b in omega (arith, c, length-append kept (moved numbers s ∷ [])))) [
        | inl e ↦
            let f = was.onto k a e in (f.0, f.1, f.2, at_more read (s ∷ []) f.0 f.1 f.3, old_number numbers n f.0 read f.1 was.numbered f.3 ∙ f.4)
        | inr e ↦
            let m = was.numbered in
            let its : length numbers + 1 ≡ length read + 1 = omega (arith, m) in
            (length read + 1, s, need_s, at_last read s, sym (ap (new_number (numbers ++ n ∷ [])) its) ∙ last_number numbers n ∙ sym e)
      ];
    }
  where
    last_or_before : (k n : ℕ) → k ≤ n + 1 → (k ≤ n) ⊎ (k ≡ n + 1)
    last_or_before k n h = elim (cases_order k (n + 1)) [
      | inl e ↦ inr e
      | inr (inl lt) ↦ inl (omega (arith, lt))
      | inr (inr gt) ↦ absurd (omega (arith, gt, h))
    ]

module _ (taken : (rows : List Provable) (step : Step) (p : Provable) → Gives rows step p → IsWithin step p → length rows < most_rows → StepOf rows step p)
    (as_taken : (rows : List Provable) (step : Step) (p : Provable) → StepOf rows step p → Gives rows step p × IsWithin step p × (length rows < most_rows))
    (one : (rows : List Provable) (step : Step) (p q : Provable) → Gives rows step p → Gives rows step q → p ≡ q) where
  module _ (term kept : List Step) (numbers : List ℕ) (rows : List Provable) (takes : Takes [] term rows) (some : 1 ≤ length term) (trims : Trims term term
      kept numbers) where
    shown : Shows term term kept numbers
    shown = shows term term kept numbers rows takes trims

    kept_taken : Keeps term numbers rows kept
    kept_taken = trims_keep taken as_taken one term term [] kept numbers rows (sym (append-nil term)) takes trims

    -- a fact has a smaller number than the row that names it
    smaller : (row fact : ℕ) (step : Step) → IsNeeded term row → At term row step → HasFact step fact → new_number numbers fact < new_number numbers row
    smaller row fact step need h named =
        (facts_before kept kept_taken.kept_rows (new_number numbers row) (moved numbers step) (new_number numbers fact) kept_taken.takes (shown.stands row step
        need h)
        (names_moved (new_number numbers) step fact named)).1

    below_last : (row : ℕ) → IsNeeded term row → new_number numbers row ≤ new_number numbers (length term)
    below_last _ the_last = omega arith
    below_last _ (is_named {row = row} {fact = fact} {step = step} need h named) =
        let a = smaller row fact step need h (in_from_contains (facts_of step) fact named) in let b = below_last row need in omega (arith, a, b)

    last_step : (step : Step) × At term (length term) step
    last_step = found (length term) some refl
      where
        found : (n : ℕ) → 1 ≤ n → length term ≡ n → (step : Step) × At term n step
        found zero a e = absurd (omega (arith, a))
        found (suc n) a e = (get_or term n (UseAxiom []), at_some term n (UseAxiom []) (omega (arith, e)))

    is_last : new_number numbers (length term) ≡ length kept
    is_last =
        let l = last_step in
        let place = place_of kept (new_number numbers (length term)) (moved numbers l.0) (shown.stands (length term) l.0 the_last l.1) in
        let a = place.0 in let b = place.1 in
        let f = shown.onto (length kept) (omega (arith, a, b)) (omega arith) in
        let less = below_last f.0 f.2 in let e = f.4 in
        omega (arith, less, e, b)

    later_names : (row : ℕ) → IsNeeded term row → new_number numbers row < length kept →
        (later : ℕ) × (step : Step) × At kept later step × HasFact step (new_number numbers row) × (new_number numbers row < later)
    later_names _ the_last lt = let e = is_last in absurd (omega (arith, lt, e))
    later_names _ (is_named {row = row} {fact = fact} {step = step} need h named) lt =
        let has = in_from_contains (facts_of step) fact named in (
          new_number numbers row,
          moved numbers step,
          shown.stands row step need h,
          names_moved (new_number numbers) step fact has,
          smaller row fact step need h
              has,
        )

  pub last_kept : (term kept : List Step) (numbers : List ℕ) (rows : List Provable) → Takes [] term rows → 1 ≤ length term → Trims term term kept numbers →
      new_number numbers (length term) ≡ length kept
  last_kept term kept numbers rows takes some trims = is_last term kept numbers rows takes some trims

  pub named_later : (term kept : List Step) (numbers : List ℕ) (rows : List Provable) → Takes [] term rows → 1 ≤ length term → Trims term term kept numbers →
      AreNamed kept
  named_later term kept numbers rows takes some trims n a lt =
      let f = (shows term term kept numbers rows takes trims).onto n a (omega (arith, lt)) in
      let e = f.4 in
      let found = later_names term kept numbers rows takes some trims f.0 f.2 (omega (arith, lt, e)) in
      (found.0, found.1, found.2, contains_from_in (facts_of found.1) n (subst (λ k. HasFact found.1 k) e found.3), let g = found.4 in omega (arith, g, e))

  pub shows_same : (term kept : List Step) (rows : List Provable) → Takes [] term rows → 1 ≤ length term → Trimmed term kept → ShowsSame rows kept
  shows_same term kept rows takes some trimmed =
      let keeps = kept_taken term kept trimmed.0 rows takes some trimmed.1 in
      let last = is_last term kept trimmed.0 rows takes some trimmed.1 ∙ sym (take_length kept keeps.kept_rows keeps.takes) in
      record {
        kept_rows = keeps.kept_rows;
        takes = keeps.takes;
        few = keeps.few;
        same = λ p h. subst (λ n. At keeps.kept_rows n p) last (keeps.same (length term) p the_last (subst (λ n. At rows n p) (take_length term rows takes) h));
      }
