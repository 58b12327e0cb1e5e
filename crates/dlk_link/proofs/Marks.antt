-- The rows that the last one needs, found from the last one down.
use Rattle.std.proofs.Common.{◌≡◌, ◌≢◌, refl, sym, ap, subst, ◌∙◌, ℕ, zero, suc, ◌+◌, ◌-◌, ◌<◌, ◌≤◌, Bool, true, false, List, [], ◌∷◌, ◌++◌, ◌⊎◌, inl, inr}
use Rattle.std.proofs.Common.{length, map, take, arith, append-nil}
use Rattle.std.proofs.Common.{get_or, set, length-set, get_or-set_other, get_or-set_same, replicate, Option, Some, None}
use Rattle.std.specs.List.{Contains}
use Rattle.std.proofs.lemmas.Bool.{cases_order}
use Rattle.std.proofs.lemmas.List.{length-map, take_more}
use Rattle.std.proofs.lemmas.List.Elements.{Contains-append_cases, Contains-append_left, Contains-append_right}
use Rattle.std.proofs.lemmas.Option.{get_or_from_slice_get, slice_get_within, slice_get-get_or}
use Rattle.dlk_tree.specs.Trees.{Tree}
use Rattle.dlk_calculus.specs.Places.{At}
use Rattle.dlk_calculus.specs.Steps.{Step as TreeStep}
use Rattle.dlk_calculus.proofs.PlaceLaws.{at_one, at_suc, At-map, At_place, At_read}
use Rattle.dlk_rules.specs.declared.step.Step.{Step}
use Rattle.dlk_rules.specs.declared.step.Step.TheVariants as step
use Rattle.dlk_rules.specs.Facts.{facts_of}
use Rattle.dlk_rules.specs.Steps.{step_at, facts_in}
use Rattle.dlk_link.specs.Marks.{NameEarlier, AreMarks, Marks}
use Rattle.dlk_link.specs.Trimmed.{IsNeeded, the_last, is_named}

-- ---- marks of some rows

true_at : (marks : List Bool) (k : ℕ) → k < length marks → get_or marks k false ≡ true → At marks (suc k) true
true_at marks k lt e = at_suc marks k ∙ slice_get-get_or marks k false lt ∙ ap Some e

at_true : (marks : List Bool) (k : ℕ) → At marks (suc k) true → (k < length marks) × (get_or marks k false ≡ true)
at_true marks k h =
    let e = sym (at_suc marks k) ∙ h in (slice_get_within marks k true e, get_or_from_slice_get marks k true false e)

pub no_marks : (marks : List Bool) → Marks marks marks []
no_marks marks = record { count = refl; only = λ row h. inl h; kept = λ row h. h; all = λ row c. absurd (omega (arith, c.1)) }

pub one_mark : (marks : List Bool) (f : ℕ) → f < length marks → Marks marks (set marks f true) (suc f ∷ [])
one_mark marks f lt = record { count = length-set marks f true; only = only; kept = kept; all = all }
  where
    size : length (set marks f true) ≡ length marks
    size = length-set marks f true

    only : (row : ℕ) → At (set marks f true) row true → At marks row true ⊎ Contains (suc f ∷ []) row
    only zero h = absurd (cc h)
    only (suc k) h = elim (cases_order k f) [
      | inl e ↦ inr (0, omega arith, ap suc (sym e))
      | inr (inl l) ↦ inl (other k (λ e. omega (arith, e, l)) h)
      | inr (inr g) ↦ inl (other k (λ e. omega (arith, e, g)) h)
    ]
      where
        other : (k : ℕ) → k ≢ f → At (set marks f true) (suc k) true → At marks (suc k) true
        other k ne h =
            let t = at_true (set marks f true) k h in
            let within = t.0 in
            true_at marks k (let s = size in omega (arith, within, s)) (sym (get_or-set_other marks f k true false ne) ∙ t.1)

    kept : (row : ℕ) → At marks row true → At (set marks f true) row true
    kept zero h = absurd (cc h)
    kept (suc k) h = elim (cases_order k f) [
      | inl e ↦ here k e
      | inr (inl l) ↦ other k (λ e. omega (arith, e, l)) h
      | inr (inr g) ↦ other k (λ e. omega (arith, e, g)) h
    ]
      where
        here : (k : ℕ) → k ≡ f → At (set marks f true) (suc k) true
        here k e = true_at (set marks f true) k (let s = size in omega (arith, e, s, lt))
            (ap (λ j. get_or (set marks f true) j false) e ∙ get_or-set_same marks f true false lt)

        other : (k : ℕ) → k ≢ f → At marks (suc k) true → At (set marks f true) (suc k) true
        other k ne h =
            let t = at_true marks k h in
            let within = t.0 in
            true_at (set marks f true) k (let s = size in omega (arith, within, s)) (get_or-set_other marks f k true false ne ∙ t.1)

    all : (row : ℕ) → Contains (suc f ∷ []) row → At (set marks f true) row true
    all row (zero, l, e) =
        subst (λ r. At (set marks f true) r true) e
        (true_at (set marks f true) f (let s = size in omega (arith, s, lt)) (get_or-set_same marks f true false lt))
    all row (suc k, l, e) = absurd (omega (arith, l))

pub more_marks : (a b c : List Bool) (xs ys : List ℕ) → Marks a b xs → Marks b c ys → Marks a c (xs ++ ys)
more_marks a b c xs ys m n = record {
  count = n.count ∙ m.count;
  only = λ row h. elim (n.only row h) [
    | inl x ↦ elim (m.only row x) [ inl y ↦ inl y | inr y ↦ inr (Contains-append_left xs ys row y) ]
    | inr x ↦ inr (Contains-append_right xs ys row x)
  ];
  kept = λ row h. n.kept row (m.kept row h);
  all = λ row h. elim (Contains-append_cases xs ys row h) [ inl x ↦ n.kept row (m.all row x) | inr x ↦ n.all row x ];
}

facts_join : (xs ys : List (Option ℕ)) → facts_in (xs ++ ys) ≡ facts_in xs ++ facts_in ys
facts_join [] ys = refl
facts_join (None ∷ xs) ys = facts_join xs ys
facts_join (Some f ∷ xs) ys = ap (λ l. f ∷ l) (facts_join xs ys)

pub facts_more : (facts : List (Option ℕ)) (i : ℕ) → i < length facts →
    facts_in (take (i + 1) facts) ≡ facts_in (take i facts) ++ facts_in (get_or facts i None ∷ [])
facts_more facts i lt = ap facts_in (take_more facts i None lt) ∙ facts_join (take i facts) (get_or facts i None ∷ [])

pub fact_among : (facts : List (Option ℕ)) (i f : ℕ) → i < length facts → get_or facts i None ≡ Some f → Contains (facts_in facts) f
fact_among [] i f lt e = absurd (omega (arith, lt))
fact_among (None ∷ facts) zero f lt e = absurd (cc e)
fact_among (Some g ∷ facts) zero f lt e = let same : g ≡ f = cc in (0, omega arith, same)
fact_among (None ∷ facts) (suc i) f lt e = fact_among facts i f (omega (arith, lt)) e
fact_among (Some g ∷ facts) (suc i) f lt e = let c = fact_among facts i f (omega (arith, lt)) e in let l = c.1 in (suc c.0, omega (arith, l), c.2)

-- one fact more is looked at
pub mark_next : (start marks new : List Bool) (facts : List (Option ℕ)) (i f : ℕ) → i < length facts → get_or facts i None ≡ Some f → 1 ≤ f →
    f - 1 < length marks →
    Marks start marks (facts_in (take i facts)) → new ≡ set marks (f - 1) true → Marks start new (facts_in (take (i + 1) facts))
mark_next start marks new facts i f lt e low high so_far is =
    let one : suc (f - 1) ≡ f = omega (arith, low) in
    let last : facts_in (get_or facts i None ∷ []) ≡ f ∷ [] = ap (λ o. facts_in (o ∷ [])) e in
    let both = more_marks start marks (set marks (f - 1) true) (facts_in (take i facts)) (suc (f - 1) ∷ []) so_far (one_mark marks (f - 1) high) in
    let joined : facts_in (take (i + 1) facts) ≡ facts_in (take i facts) ++ suc (f - 1) ∷ [] =
    facts_more facts i lt ∙ ap (λ l. facts_in (take i facts) ++ l) (last ∙ ap (λ k. k ∷ []) (sym one)) in
    subst (λ l. Marks start new l) (sym joined) (subst (λ m. Marks start m (facts_in (take i facts) ++ suc (f - 1) ∷ [])) (sym is) both)

pub skip_next : (start marks new : List Bool) (facts : List (Option ℕ)) (i : ℕ) → i < length facts → get_or facts i None ≡ None →
    Marks start marks (facts_in (take i facts)) → new ≡ marks → Marks start new (facts_in (take (i + 1) facts))
skip_next start marks new facts i lt e so_far is =
    let last : facts_in (get_or facts i None ∷ []) ≡ [] = ap (λ o. facts_in (o ∷ [])) e in
    let joined : facts_in (take (i + 1) facts) ≡ facts_in (take i facts) =
    facts_more facts i lt ∙ ap (λ l. facts_in (take i facts) ++ l) last ∙ append-nil (facts_in (take i facts)) in
    subst (λ l. Marks start new l) (sym joined) (subst (λ m. Marks start m (facts_in (take i facts))) (sym is) so_far)

pub no_true : (n k : ℕ) → ¬ At (replicate n false) k true
no_true n zero h = cc
no_true zero (suc k) h = let e = sym (at_suc (replicate 0 false) k) ∙ h in cc
no_true (suc n) (suc zero) h = cc
no_true (suc n) (suc (suc k)) h = no_true n (suc k) (at_suc (replicate n false) k ∙ sym (at_suc (replicate (suc n) false) (suc k)) ∙ h)

-- ---- from the last row down

pub facts_alike : (trees : List Tree) (s : Step) → facts_of (step_at trees s) ≡ facts_of (step_at [] s)
facts_alike trees (step.Start s) = refl
facts_alike trees (step.Axiom name) = refl
facts_alike trees (step.AxRule name) = refl
facts_alike trees (step.Leaf s) = refl
facts_alike trees (step.Apply fact goal rule) = refl
facts_alike trees (step.Merge fact goal by) = refl
facts_alike trees (step.Subst fact pairs) = refl
facts_alike trees (step.Rename fact x y) = refl

-- the marks are right, and what the marked rows past this one name is marked
pub record SoFar (term : List Step) (row : ℕ) (marks : List Bool) : Type 0 where
  pub reach : row ≤ length term
  pub count : length marks ≡ length term
  pub right : (trees : List Tree) (k : ℕ) → At marks k true → IsNeeded (map (step_at trees) term) k
  pub last : At marks (length term) true
  pub closed : (k : ℕ) (s : Step) → row < k → At term k s → At marks k true → (fact : ℕ) → Contains (facts_of (step_at [] s)) fact → At marks fact true

pub marked_last : (term : List Step) (marks : List Bool) (n : ℕ) → n + 1 ≡ length term → length marks ≡ length term → ((k : ℕ) → ¬ At marks k true) →
    SoFar term (length term) (set marks n true)
marked_last term marks n e size none =
    let m = one_mark marks n (omega (arith, e, size)) in
    let place : suc n ≡ length term = omega (arith, e) in
    record {
      reach = omega arith;
      count = length-set marks n true ∙ size;
      right = λ trees k h. elim (m.only k h) [
        | inl old ↦ absurd (none k old)
        | inr c ↦ subst (IsNeeded (map (step_at trees) term)) (length-map term (step_at trees) ∙ sym place ∙ only_one n k c) the_last
      ];
      last = subst (λ k. At (set marks n true) k true) place (m.all (suc n) (0, omega arith, refl));
      closed = λ k s lt at. absurd (let p = (At_place term k s at).1 in omega (arith, lt, p));
    }
  where
    only_one : (n k : ℕ) → Contains (suc n ∷ []) k → suc n ≡ k
    only_one n k (zero, l, e) = e
    only_one n k (suc j, l, e) = absurd (omega (arith, l))

-- what a step names can be marked
pub facts_within : (term : List Step) (row : ℕ) (marks : List Bool) (s : Step) (facts : List ℕ) → NameEarlier term → length marks ≡ length term →
    row ≤ length term →
    At term row s → facts ≡ facts_of (step_at [] s) → (fact : ℕ) → Contains facts fact → (1 ≤ fact) × (fact ≤ length marks)
facts_within term row marks s facts earlier size reach here facts_are fact c =
    let b = earlier row s here fact (subst (λ l. Contains l fact) facts_are c) in
    let low = b.0 in let high = b.1 in (low, omega (arith, high, size, reach))

pub row_marked : (term : List Step) (r : ℕ) (marks new : List Bool) (s : Step) (facts : List ℕ) → NameEarlier term → SoFar term (suc r) marks →
    At term (suc r) s →
    At marks (suc r) true → facts ≡ facts_of (step_at [] s) → Marks marks new facts → SoFar term r new
row_marked term r marks new s facts earlier was here needed facts_are m = record {
  reach = let h = was.reach in omega (arith, h);
  count = m.count ∙ was.count;
  right = λ trees k h. elim (m.only k h) [
    | inl old ↦ was.right trees k old
    | inr c ↦
        is_named (was.right trees (suc r) needed) (At-map (step_at trees) term (suc r) s here)
        (subst (λ l. Contains l k) (facts_are ∙ sym (facts_alike trees s)) c)
  ];
  last = m.kept (length term) was.last;
  closed = λ k t lt at marked fact has. elim (cases_order k (suc r)) [
    | inl e ↦
        let same : t ≡ s = at_one term (suc r) t s (subst (λ j. At term j t) e at) here in
        m.all fact (subst (λ l. Contains l fact) (ap (λ z. facts_of (step_at [] z)) same ∙ sym facts_are) has)
    | inr (inl l) ↦ absurd (omega (arith, l, lt))
    | inr (inr g) ↦ elim (m.only k marked) [
      | inl old ↦ m.kept fact (was.closed k t g at old fact has)
      | inr c ↦ absurd (let b = (earlier (suc r) s here k (subst (λ l. Contains l k) facts_are c)).1 in omega (arith, g, b))
    ]
  ];
}

pub row_unmarked : (term : List Step) (r : ℕ) (marks : List Bool) → SoFar term (suc r) marks → ¬ At marks (suc r) true → SoFar term r marks
row_unmarked term r marks was needless = record {
  reach = let h = was.reach in omega (arith, h);
  count = was.count;
  right = was.right;
  last = was.last;
  closed = λ k t lt at marked fact has. elim (cases_order k (suc r)) [
    | inl e ↦ absurd (needless (subst (λ j. At marks j true) e marked))
    | inr (inl l) ↦ absurd (omega (arith, l, lt))
    | inr (inr g) ↦ was.closed k t g at marked fact has
  ];
}

-- the same, row by row down
pub row_down : (term : List Step) (row : ℕ) (marks new : List Bool) (s : Step) (facts : List ℕ) → 0 < row → NameEarlier term → SoFar term row marks →
    At term row s →
    At marks row true → facts ≡ facts_of (step_at [] s) → Marks marks new facts → SoFar term (row - 1) new
row_down term zero marks new s facts some earlier was here needed facts_are m = absurd (omega (arith, some))
row_down term (suc r) marks new s facts some earlier was here needed facts_are m =
    let one : r ≡ suc r - 1 = omega arith in subst (λ k. SoFar term k new) one (row_marked term r marks new s facts earlier was here needed facts_are m)

pub row_past : (term : List Step) (row : ℕ) (marks : List Bool) → 0 < row → SoFar term row marks → ¬ At marks row true → SoFar term (row - 1) marks
row_past term zero marks some was needless = absurd (omega (arith, some))
row_past term (suc r) marks some was needless =
    let one : r ≡ suc r - 1 = omega arith in subst (λ k. SoFar term k marks) one (row_unmarked term r marks was needless)

-- an item that was read at an index
pub read_index : {A : Type 0} (items : List A) (k : ℕ) (x y : A) → k < length items → x ≡ get_or items k x → x ≡ y → At items (k + 1) y
read_index items k x y lt e same =
    let place : k + 1 - 1 ≡ k = omega arith in
    subst (λ z. At items (k + 1) z) same (At_read items (k + 1) x (omega arith, omega (arith, lt)) (e ∙ ap (λ j. get_or items j x) (sym place)))

pub read_row : {A : Type 0} (items : List A) (row : ℕ) (x y : A) → 0 < row → row ≤ length items → x ≡ get_or items (row - 1) x → x ≡ y → At items row y
read_row items row x y low high e same = subst (λ z. At items row z) same (At_read items row x (omega (arith, low), high) e)

pub not_true : (marks : List Bool) (row : ℕ) → At marks row false → ¬ At marks row true
not_true marks row a b = let e = at_one marks row false true a b in cc

-- all rows are looked at
module _ (term : List Step) (marks : List Bool) (done : SoFar term 0 marks) (trees : List Tree) where
  unmap : (items : List Step) (place : ℕ) (t : TreeStep) → At (map (step_at trees) items) place t → (s : Step) × At items place s × (t ≡ step_at trees s)
  unmap items zero t h = absurd (cc h)
  unmap [] (suc k) t h = let e = sym (at_suc (map (step_at trees) []) k) ∙ h in absurd (cc e)
  unmap (x ∷ items) (suc zero) t h = (x, refl, cc)
  unmap (x ∷ items) (suc (suc k)) t h =
      let e : At (map (step_at trees) items) (suc k) t = at_suc (map (step_at trees) items) k ∙ sym (at_suc (map (step_at trees) (x ∷ items)) (suc k)) ∙ h in
      let f = unmap items (suc k) t e in
      (f.0, at_suc (x ∷ items) (suc k) ∙ sym (at_suc items k) ∙ f.1, f.2)

  needed_marked : (row : ℕ) → IsNeeded (map (step_at trees) term) row → At marks row true
  needed_marked _ the_last = subst (λ k. At marks k true) (sym (length-map term (step_at trees))) done.last
  needed_marked _ (is_named {row = row} {fact = fact} {step = t} need at names) =
      let found = unmap term row t at in
      let low = (At_place term row found.0 found.1).0 in
      done.closed row found.0 (omega (arith, low)) found.1 (needed_marked row need) fact
      (subst (λ l. Contains l fact) (ap facts_of found.2 ∙ facts_alike trees found.0) names)

  pub all_marked : AreMarks (map (step_at trees) term) marks
  all_marked = record { count = done.count ∙ sym (length-map term (step_at trees)); marked = λ row. (done.right trees row, needed_marked row) }

pub marks_reach : (marks : List Bool) (term : List Step) (row : ℕ) → length marks ≡ length (map (step_at []) term) → row < length term → row < length marks
marks_reach marks term row e lt = omega (arith, e, lt, length-map term (step_at []))
