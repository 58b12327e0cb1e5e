-- What is kept of a term is taken, and gives the same rows.
use Rattle.std.proofs.Common.{◌≡◌, refl, sym, ap, subst, ◌∙◌, ℕ, zero, suc, ◌+◌, ◌-◌, ◌<◌, List, [], ◌∷◌, ◌++◌, length, ◌⊎◌, inl, inr, Some, arith}
use Rattle.std.proofs.Common.{length-append, append_assoc, get_or}
use Rattle.std.specs.List.{slice_get}
use Rattle.std.proofs.lemmas.Option.{get_or_from_slice_get, slice_get_within, slice_get-get_or}
use Rattle.std.proofs.lemmas.List.{get_or_append_left, get_or-append-add}
use Rattle.dlk_calculus.specs.Limits.{most_rows}
use Rattle.dlk_calculus.specs.Places.{At}
use Rattle.dlk_calculus.specs.Provables.{Provable}
use Rattle.dlk_calculus.specs.Steps.{Step, Start, UseAxiom, UseRule, Leaf, Apply, Merge, Substitute, Rename, Gives, StepOf, IsWithin}
use Rattle.dlk_calculus.proofs.PlaceLaws.{at_suc}
use Rattle.dlk_rules.specs.Facts.{renumbered}
use Rattle.dlk_kernel.specs.Taken.{Takes, none, more}
use Rattle.dlk_link.specs.Trimmed.{IsNeeded, is_named, new_number, moved, Trims, nothing_read, not_needed, kept_before, is_kept}
use Rattle.dlk_link.specs.Kept.{Keeps}
use Rattle.dlk_link.proofs.Moved.{gives_moved, within_moved}

pub at_more : {A : Type 0} (items others : List A) (place : ℕ) (x : A) → At items place x → At (items ++ others) place x
at_more items others zero x h = absurd (cc h)
at_more items others (suc n) x h =
    let here : slice_get items n ≡ Some x = sym (at_suc items n) ∙ h in
    let lt = slice_get_within items n x here in
    let is : get_or (items ++ others) n x ≡ x = get_or_append_left items others x n lt ∙ get_or_from_slice_get items n x x here in
    at_suc (items ++ others) n ∙ slice_get-get_or (items ++ others) n x (omega (arith, lt, length-append items others)) ∙ ap Some is

pub at_last : {A : Type 0} (front : List A) (x : A) → At (front ++ x ∷ []) (length front + 1) x
at_last front x =
    let is : get_or (front ++ x ∷ []) (length front + 0) x ≡ x = get_or-append-add front (x ∷ []) 0 x in
    let n : suc (length front + 0) ≡ length front + 1 = omega arith in
    subst (λ k. At (front ++ x ∷ []) k x) n
    (at_suc (front ++ x ∷ []) (length front + 0) ∙ slice_get-get_or (front ++ x ∷ []) (length front + 0) x (omega (arith, length-append front (x ∷ []))) ∙ ap
    Some is)

get_either : {A : Type 0} (items : List A) (x y : A) (n : ℕ) → slice_get (items ++ x ∷ []) n ≡ Some y →
    (slice_get items n ≡ Some y) ⊎ ((n ≡ length items) × (y ≡ x))
get_either [] x y zero h = inr (refl, cc)
get_either [] x y (suc n) h = absurd (cc h)
get_either (z ∷ items) x y zero h = inl h
get_either (z ∷ items) x y (suc n) h = elim (get_either items x y n h) [ inl e ↦ inl e | inr e ↦ inr (ap suc e.0, e.1) ]

pub at_either : {A : Type 0} (items : List A) (x y : A) (place : ℕ) → At (items ++ x ∷ []) place y →
    (At items place y) ⊎ ((place ≡ length items + 1) × (y ≡ x))
at_either items x y zero h = absurd (cc h)
at_either items x y (suc n) h = elim (get_either items x y n (sym (at_suc (items ++ x ∷ []) n) ∙ h)) [
  | inl e ↦ inl (at_suc items n ∙ e)
  | inr e ↦ let same = e.0 in inr (omega (arith, same), e.1)
]

-- a place that is there has an item
pub at_some : {A : Type 0} (items : List A) (n : ℕ) (d : A) → n < length items → At items (suc n) (get_or items n d)
at_some items n d lt = at_suc items n ∙ slice_get-get_or items n d lt

-- a row of before keeps its number where one number more is known
pub old_number : (numbers : List ℕ) (x row : ℕ) {A : Type 0} (rows : List A) (p : A) → length numbers ≡ length rows → At rows row p →
    new_number (numbers ++ x ∷ []) row ≡ new_number numbers row
old_number numbers x zero rows p e h = absurd (cc h)
old_number numbers x (suc n) rows p e h =
    let lt = slice_get_within rows n p (sym (at_suc rows n) ∙ h) in
    let here = at_some numbers n 0 (omega (arith, e, lt)) in
    let there = at_more numbers (x ∷ []) (suc n) (get_or numbers n 0) here in
    rw (there, here) refl

pub last_number : (numbers : List ℕ) (x : ℕ) → new_number (numbers ++ x ∷ []) (length numbers + 1) ≡ x
last_number numbers x = let h = at_last numbers x in rw h refl

-- ---- steps in turn

pub snoc_parts : {A : Type 0} (xs ys : List A) (x y : A) → xs ++ x ∷ [] ≡ ys ++ y ∷ [] → (xs ≡ ys) × (x ≡ y)
snoc_parts [] [] x y e = (refl, cc)
snoc_parts [] (z ∷ ys) x y e = absurd (not_short ys y (tails e))
  where
    tails : x ∷ [] ≡ z ∷ (ys ++ y ∷ []) → [] ≡ ys ++ y ∷ []
    tails e = cc

    not_short : {A : Type 0} (ys : List A) (y : A) → [] ≡ ys ++ y ∷ [] → ⊥
    not_short [] y e = cc
    not_short (w ∷ ys) y e = cc
snoc_parts (w ∷ xs) [] x y e = absurd (not_long xs x (tails e))
  where
    tails : w ∷ (xs ++ x ∷ []) ≡ y ∷ [] → xs ++ x ∷ [] ≡ []
    tails e = cc

    not_long : {A : Type 0} (xs : List A) (x : A) → xs ++ x ∷ [] ≡ [] → ⊥
    not_long [] x e = cc
    not_long (v ∷ xs) x e = cc
snoc_parts (w ∷ xs) (z ∷ ys) x y e =
    let heads : w ≡ z = cc in
    let tails : xs ++ x ∷ [] ≡ ys ++ y ∷ [] = cc in
    let below = snoc_parts xs ys x y tails in
    let same = below.0 in (cc, below.1)

pub record Last (before : List Step) (step : Step) (rows : List Provable) : Type 0 where
  pub mid : List Provable
  pub p : Provable
  pub takes : Takes [] before mid
  pub gives : StepOf mid step p
  pub rows_are : rows ≡ mid ++ p ∷ []

pub take_last : (steps before : List Step) (step : Step) (rows : List Provable) → steps ≡ before ++ step ∷ [] → Takes [] steps rows → Last before step rows
take_last _ before step _ e none = absurd (nothing before e)
  where
    nothing : (before : List Step) → [] ≡ before ++ step ∷ [] → ⊥
    nothing [] e = cc
    nothing (s ∷ before) e = cc
take_last _ before step _ e (more {steps = steps} {mid = mid} {step = other} {p = p} takes gives) =
    let same = snoc_parts steps before other step e in
    record { mid = mid; p = p; takes = subst (λ l. Takes [] l mid) same.0 takes; gives = subst (λ s. StepOf mid s p) same.1 gives; rows_are = refl }

pub take_length : (steps : List Step) (rows : List Provable) → Takes [] steps rows → length rows ≡ length steps
take_length _ _ none = refl
take_length _ _ (more {steps = steps} {mid = mid} {step = step} {p = p} takes gives) =
    let h = take_length steps mid takes in omega (arith, h, length-append mid (p ∷ []), length-append steps (step ∷ []))

pub same_step : (step : Step) → renumbered (λ fact. fact) step ≡ step
same_step (Start s) = refl
same_step (UseAxiom name) = refl
same_step (UseRule name) = refl
same_step (Leaf s) = refl
same_step (Apply fact goal rule) = refl
same_step (Merge fact goal by) = refl
same_step (Substitute fact pairs) = refl
same_step (Rename fact x y) = refl

pub gives_more : (rows others : List Provable) (step : Step) (p : Provable) → Gives rows step p → Gives (rows ++ others) step p
gives_more rows others step p g =
    subst (λ s. Gives (rows ++ others) s p) (same_step step) (gives_moved rows (rows ++ others) (λ fact. fact) step p (λ fact q named h. at_more rows others
    fact q h) g)

-- there is no item among none
pub nowhere : {A : Type 0} (n : ℕ) (x : A) → At [] n x → ⊥
nowhere zero x h = cc
nowhere (suc n) x h = let e = sym (at_suc [] n) ∙ h in cc

-- a step that was taken has its row, which it still gives
pub taken_at : (steps : List Step) (rows : List Provable) (n : ℕ) (step : Step) → Takes [] steps rows → At steps n step →
    (p : Provable) × At rows n p × Gives rows step p
taken_at _ _ n step none h = absurd (nowhere n step h)
taken_at _ _ n step (more {steps = steps} {mid = mid} {step = last} {p = p} takes gives) h = elim (at_either steps last step n h) [
  | inl e ↦ let found = taken_at steps mid n step takes e in (found.0, at_more mid (p ∷ []) n found.0 found.1, gives_more mid (p ∷ []) step found.0 found.2)
  | inr e ↦
      let count = take_length steps mid takes in
      let place : length mid + 1 ≡ n = let here = e.0 in omega (arith, here, count) in (
        p,
        subst (λ k. At (mid ++ p ∷ []) k p) place (at_last mid p),
        subst (λ s. Gives (mid ++ p ∷ []) s p) (sym e.1) (gives_more mid (p ∷ []) last p
            gives.given),
      )
]

-- a needed step gives its row behind the kept ones, too: the facts that it names are needed
moved_gives : (term read rest : List Step) (numbers : List ℕ) (mid kept_rows : List Provable) (step : Step) (p : Provable) →
    term ≡ (read ++ step ∷ []) ++ rest → IsNeeded term (length read + 1) →
    ((row : ℕ) (q : Provable) → IsNeeded term row → At mid row q → At kept_rows (new_number numbers row) q) → Gives mid step p →
    Gives kept_rows (moved numbers step) p
moved_gives term read rest numbers mid kept_rows step p is need same gives =
    let its : At term (length read + 1) step =
    subst (λ l. At l (length read + 1) step) (sym is) (at_more (read ++ step ∷ []) rest (length read + 1) step (at_last read step)) in
    gives_moved mid kept_rows (new_number numbers) step p (λ fact q named h. same fact q (is_named need its named) h) gives

module _ (taken : (rows : List Provable) (step : Step) (p : Provable) → Gives rows step p → IsWithin step p → length rows < most_rows → StepOf rows step p)
    (as_taken : (rows : List Provable) (step : Step) (p : Provable) → StepOf rows step p → Gives rows step p × IsWithin step p × (length rows < most_rows))
    (one : (rows : List Provable) (step : Step) (p q : Provable) → Gives rows step p → Gives rows step q → p ≡ q) where
  pub trims_keep : (term read rest kept : List Step) (numbers : List ℕ) (rows : List Provable) → term ≡ read ++ rest → Takes [] read rows →
      Trims term read kept numbers → Keeps term numbers rows kept
  trims_keep term _ rest kept numbers rows is takes nothing_read =
      record {
        kept_rows = [];
        takes = none;
        few = omega arith;
        numbered = no_rows rows takes;
        same = λ row p need h. absurd (nothing_there rows row p takes h);
      }
    where
      no_rows : (rows : List Provable) → Takes [] [] rows → 0 ≡ length rows
      no_rows rows t = let h = take_length [] rows t in omega (arith, h)

      nothing_there : (rows : List Provable) (row : ℕ) (p : Provable) → Takes [] [] rows → At rows row p → ⊥
      nothing_there [] zero p t h = cc
      nothing_there [] (suc n) p t h = let e = sym (at_suc [] n) ∙ h in cc
      nothing_there (q ∷ rows) row p t h = let e = take_length [] (q ∷ rows) t in omega (arith, e)
  trims_keep term _ rest kept _ rows is takes (not_needed {read = read} {numbers = numbers} step before needless) =
      let last = take_last (read ++ step ∷ []) read step rows refl takes in
      let was = trims_keep term read (step ∷ rest) kept numbers last.mid (is ∙ append_assoc read (step ∷ []) rest) last.takes before in
      let count = take_length read last.mid last.takes in
      subst (λ rs. Keeps term (numbers ++ 0 ∷ []) rs kept) (sym last.rows_are)
      (record {
        kept_rows = was.kept_rows;
        takes = was.takes;
        few = let f = was.few in omega (arith, f, length-append last.mid (last.p ∷ []));
        numbered = let n = was.numbered in omega (arith, n, length-append last.mid (last.p ∷ []), length-append numbers (0 ∷ []));
        same = λ row p need h. elim (at_either last.mid last.p p row h) [
          | inl e ↦ subst (λ k. At was.kept_rows k p) (sym (old_number numbers 0 row last.mid p was.numbered e)) (was.same row p need e)
          | inr e ↦ let place = e.0 in absurd (needless (subst (IsNeeded term) (omega (arith, place, count)) need))
        ];
      })
  trims_keep term _ rest kept _ rows is takes (kept_before {read = read} {numbers = numbers} step n before need_step stands) =
      let last = take_last (read ++ step ∷ []) read step rows refl takes in
      let here : term ≡ read ++ (step ∷ rest) = is ∙ append_assoc read (step ∷ []) rest in
      let was = trims_keep term read (step ∷ rest) kept numbers last.mid here last.takes before in
      let count = take_length read last.mid last.takes in
      let gives = moved_gives term read rest numbers last.mid was.kept_rows step last.p is need_step was.same (as_taken last.mid step last.p last.gives).0 in
      let found = taken_at kept was.kept_rows n (moved numbers step) was.takes stands in
      let same_row : found.0 ≡ last.p = one was.kept_rows (moved numbers step) found.0 last.p found.2 gives in
      subst (λ rs. Keeps term (numbers ++ n ∷ []) rs kept) (sym last.rows_are)
      (record {
        kept_rows = was.kept_rows;
        takes = was.takes;
        few = let f = was.few in omega (arith, f, length-append last.mid (last.p ∷ []));
        numbered = let m = was.numbered in omega (arith, m, length-append last.mid (last.p ∷ []), length-append numbers (n ∷ []));
        same = λ row p need h. elim (at_either last.mid last.p p row h) [
          | inl e ↦ subst (λ k. At was.kept_rows k p) (sym (old_number numbers n row last.mid p was.numbered e)) (was.same row p need e)
          | inr e ↦
              let place = e.0 in let m = was.numbered in
              let its : row ≡ length numbers + 1 = omega (arith, place, m) in
              subst (λ k. At was.kept_rows (new_number (numbers ++ n ∷ []) k) p) (sym its)
              (subst (λ k. At was.kept_rows k p) (sym (last_number numbers n)) (subst (λ x. At was.kept_rows n x) (same_row ∙ sym e.1) found.1))
        ];
      })
  trims_keep term _ rest _ _ rows is takes (is_kept {read = read} {kept = kept} {numbers = numbers} step before need_step new) =
      let last = take_last (read ++ step ∷ []) read step rows refl takes in
      let here : term ≡ read ++ (step ∷ rest) = is ∙ append_assoc read (step ∷ []) rest in
      let was = trims_keep term read (step ∷ rest) kept numbers last.mid here last.takes before in
      let count = take_length read last.mid last.takes in
      let told = as_taken last.mid step last.p last.gives in
      let gives = moved_gives term read rest numbers last.mid was.kept_rows step last.p is need_step was.same told.0 in
      let room = told.2 in
      let f = was.few in
      let kept_count = take_length kept was.kept_rows was.takes in
      let n = length kept + 1 in
      let now = taken was.kept_rows (moved numbers step) last.p gives (within_moved (new_number numbers) step last.p told.1) (omega (
        arith,
        room,
        f,
        kept_count,
      )) in
      subst (λ rs. Keeps term (numbers ++ n ∷ []) rs (kept ++ moved numbers step ∷ [])) (sym last.rows_are)
      (record {
        kept_rows = was.kept_rows ++ last.p ∷ [];
        takes = more was.takes now;
        few = omega (arith, f, length-append last.mid (last.p ∷ []), length-append kept (moved numbers step ∷ []));
        numbered = let m = was.numbered in omega (arith, m, length-append last.mid (last.p ∷ []), length-append numbers (n ∷ []));
        same = λ row p need h. elim (at_either last.mid last.p p row h) [
          | inl e ↦
              subst (λ k. At (was.kept_rows ++ last.p ∷ []) k p) (sym (old_number numbers n row last.mid p was.numbered e))
              (at_more was.kept_rows (last.p ∷ []) (new_number numbers row) p (was.same row p need e))
          | inr e ↦
              let place = e.0 in let m = was.numbered in
              let its : row ≡ length numbers + 1 = omega (arith, place, m) in
              let end : length was.kept_rows + 1 ≡ n = omega (arith, kept_count) in
              subst (λ k. At (was.kept_rows ++ last.p ∷ []) (new_number (numbers ++ n ∷ []) k) p) (sym its)
              (subst (λ k. At (was.kept_rows ++ last.p ∷ []) k p) (sym (last_number numbers n))
              (subst (λ k. At (was.kept_rows ++ last.p ∷ []) k p) end (subst (λ x. At (was.kept_rows ++ last.p ∷ []) (length was.kept_rows + 1) x) (sym e.1)
              (at_last was.kept_rows last.p))))
        ];
      })
