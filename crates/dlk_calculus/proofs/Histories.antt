-- Fronts of histories are histories, and a given provable goes on with one. What is derived is what stands in a history.
use Rattle.std.proofs.Common.{◌≡◌, ℕ, zero, suc, ◌<◌, ◌≤◌, ◌+◌, ◌-◌, List, [], ◌∷◌, ◌++◌, length, take, drop, get_or, sym, ap, subst, ◌∙◌, append_assoc}
use Rattle.std.proofs.Common.{arith, length-append, Some, ⊎_elim}
use Rattle.std.specs.List.{All}
use Rattle.std.proofs.lemmas.Bool.{cases_lt}
use Rattle.std.proofs.lemmas.Option.{slice_get_within, get_or_from_slice_get, slice_get-get_or}
use Rattle.std.proofs.lemmas.List.{take-take, take_all, take-append-le, get_or-take, get_or_append_left, length-take, append-nil}
use Rattle.std.proofs.Math.Seq.{take-append_seam, get_or-append_seam, take-suc}
use Rattle.std.proofs.lemmas.List.Elements.{All-nil, All-push}
use Rattle.dlk_calculus.specs.Places.{At, put_all}
use Rattle.dlk_calculus.specs.Sequents.{Sequent}
use Rattle.dlk_calculus.specs.Provables.{Provable, started, known, inferred, assumed, applied, merged, renamed}
use Rattle.dlk_calculus.specs.Steps.{Derives, by_itself, by_axiom, by_axiomatic_rule, by_arithmetic, by_rule, by_fact, by_substitution, by_renaming, Step}
use Rattle.dlk_calculus.specs.Steps.{Start, UseAxiom, UseRule, Leaf, Apply, Merge, Substitute, Rename, Gives, start, use_axiom, use_rule, leaf, apply, merge}
use Rattle.dlk_calculus.specs.Steps.{substitute, rename, History}
use Rattle.dlk_calculus.proofs.PlaceLaws.{At_All, split_at, At-more, At-behind, At-between, put_between}
use Rattle.dlk_calculus.proofs.StepLaws.{given_by}

pub History-none : History []
History-none n p e = absurd (omega (arith, slice_get_within [] n p e))

-- the first n rows
pub History-take : (n : ℕ) (rows : List Provable) → History rows → History (take n rows)
History-take n rows h k p e =
    let within = slice_get_within (take n rows) k p e in
    let below : k < n = omega (arith, within, length-take n rows) in
    let there : k < length rows = omega (arith, within, length-take n rows) in
    let is : get_or rows k p ≡ p = sym (get_or-take n rows k p below) ∙ get_or_from_slice_get (take n rows) k p p e in
    let given = h k p (slice_get-get_or rows k p there ∙ ap Some is) in
    (given.0, subst (λ front. Gives front given.0 p) (sym (take-take k n rows (omega arith))) given.1)

-- one more row
pub History-more : (rows : List Provable) (step : Step) (p : Provable) → History rows → Gives rows step p → History (rows ++ p ∷ [])
History-more rows step p h g k q e =
    let within = slice_get_within (rows ++ p ∷ []) k q e in
    let is : get_or (rows ++ p ∷ []) k q ≡ q = get_or_from_slice_get (rows ++ p ∷ []) k q q e in
    ⊎_elim
    (λ (less : k < length rows).
    let old : get_or rows k q ≡ q = sym (get_or_append_left rows (p ∷ []) q k less) ∙ is in
    let given = h k q (slice_get-get_or rows k q less ∙ ap Some old) in
    (given.0, subst (λ front. Gives front given.0 q) (sym (take-append-le k rows (p ∷ []) (omega arith))) given.1))
    (λ (le : length rows ≤ k).
    let last : k ≡ length rows = omega (arith, within, length-append rows (p ∷ [])) in
    let same : p ≡ q = sym (get_or-append_seam rows p [] q) ∙ ap (λ n. get_or (rows ++ p ∷ []) n q) (sym last) ∙ is in
    let front : rows ≡ take k (rows ++ p ∷ []) = sym (take-append_seam rows (p ∷ [])) ∙ ap (λ n. take n (rows ++ p ∷ [])) (sym last) in
    (step, subst (λ (r : List Provable). Gives r step q) front (subst (λ (x : Provable). Gives rows step x) same g)))
    (cases_lt k (length rows))

-- what each step gives, where the rows before have it, each row of a history has
module _ (P : Provable → Type 0) (given : (rows : List Provable) (step : Step) (p : Provable) → All P rows → Gives rows step p → P p) where
  front_has : (rows : List Provable) (n : ℕ) → History rows → n ≤ length rows → All P (take n rows)
  front_has rows zero h le = All-nil P
  front_has rows (suc n) h le = λ k d lt.
      let p = get_or rows n d in
      let before = front_has rows n h (omega arith) in
      let by = h n p (slice_get-get_or rows n d (omega arith)) in
      let after = All-push P (take n rows) p before (given (take n rows) by.0 p before by.1) in
      subst (All P) (sym (take-suc rows n d (omega arith))) after k d lt

  History-has : (rows : List Provable) → History rows → All P rows
  History-has rows h = subst (All P) (take_all (length rows) rows (omega arith)) (front_has rows (length rows) h (omega arith))

-- ---- each row of a history is derived

-- a goal between those before it and those behind it
placed : (q : Provable) (goal : ℕ) (s : Sequent) → At q.goals goal s → Derives q →
    Derives (record { conclusion = q.conclusion; goals = take (goal - 1) q.goals ++ s ∷ drop goal q.goals; leaves = q.leaves })
placed q goal s h d =
    subst (λ (goals : List Sequent). Derives (record { conclusion = q.conclusion; goals = goals; leaves = q.leaves })) (split_at q.goals goal s h) d

given_derived : (rows : List Provable) (step : Step) (p : Provable) → All Derives rows → Gives rows step p → Derives p
given_derived rows (Start s) p h g = let m = given_by rows (Start s) p g in rw m.1 (by_itself m.0)
given_derived rows (UseAxiom name) p h g = let m = given_by rows (UseAxiom name) p g in rw m.2 (by_axiom name m.0 m.1)
given_derived rows (UseRule name) p h g = let m = given_by rows (UseRule name) p g in rw m.2 (by_axiomatic_rule name m.0 m.1)
given_derived rows (Leaf s) p h g = let m = given_by rows (Leaf s) p g in rw m.2 (by_arithmetic m.0 m.1)
given_derived rows (Apply fact goal rule) p h g =
    let m = given_by rows (Apply fact goal rule) p g in
    rw m.7 (by_rule (take (goal - 1) m.0.goals) (drop goal m.0.goals) (placed m.0 goal m.1 m.4 (At_All Derives rows fact m.0 h m.3)) m.5 m.6)
given_derived rows (Merge fact goal by) p h g =
    let m = given_by rows (Merge fact goal by) p g in
    let first = placed m.0 goal m.1.conclusion m.5 (At_All Derives rows fact m.0 h m.3) in
    rw m.7 (by_fact (take (goal - 1) m.0.goals) (drop goal m.0.goals) first (At_All Derives rows by m.1 h m.4) m.6)
given_derived rows (Substitute fact pairs) p h g =
    let m = given_by rows (Substitute fact pairs) p g in
    by_substitution (At_All Derives rows fact m.0 h m.1) m.2 m.3 m.4 m.5
given_derived rows (Rename fact x y) p h g =
    let m = given_by rows (Rename fact x y) p g in
    rw m.4 (by_renaming x y (At_All Derives rows fact m.0 h m.1) m.2 m.3)

pub History-derives : (rows : List Provable) → History rows → All Derives rows
History-derives = History-has Derives given_derived

-- ---- what is derived ends a history

-- the step with its facts that many rows later
shifted : ℕ → Step → Step
shifted n (Start s) = Start s
shifted n (UseAxiom name) = UseAxiom name
shifted n (UseRule name) = UseRule name
shifted n (Leaf s) = Leaf s
shifted n (Apply fact goal rule) = Apply (n + fact) goal rule
shifted n (Merge fact goal by) = Merge (n + fact) goal (n + by)
shifted n (Substitute fact pairs) = Substitute (n + fact) pairs
shifted n (Rename fact x y) = Rename (n + fact) x y

shifted_gives : (front rows : List Provable) (step : Step) (p : Provable) → Gives rows step p → Gives (front ++ rows) (shifted (length front) step) p
unfolding shifted
shifted_gives front rows _ _ (start s h) = start s h
shifted_gives front rows _ _ (use_axiom name a e) = use_axiom name a e
shifted_gives front rows _ _ (use_rule name r e) = use_rule name r e
shifted_gives front rows _ _ (leaf s h k) = leaf s h k
shifted_gives front rows _ _ (apply fact goal rule p s premises h k real m) =
    apply (length front + fact) goal rule p s premises (At-behind front rows fact p h) k real m
shifted_gives front rows _ _ (merge fact goal by p q new h k e j) =
    merge (length front + fact) goal (length front + by) p q new (At-behind front rows fact p h) (At-behind front rows by q k) e j
shifted_gives front rows _ _ (substitute fact pairs p q h made well free is) =
    substitute (length front + fact) pairs p q (At-behind front rows fact p h) made well free is
shifted_gives front rows _ _ (rename fact x y p h a b) = rename (length front + fact) x y p (At-behind front rows fact p h) a b

-- one history behind another
module _ (first second : List Provable) (h : History first) (k : History second) (d : Provable) where
  front_append : (n : ℕ) → n ≤ length second → History (first ++ take n second)
  front_append zero le = subst History (sym (append-nil first)) h
  front_append (suc n) le =
      let p = get_or second n d in
      let by = k n p (slice_get-get_or second n d (omega arith)) in
      let given = shifted_gives first (take n second) by.0 p by.1 in
      let more = History-more (first ++ take n second) (shifted (length first) by.0) p (front_append n (omega arith)) given in
      subst History (append_assoc first (take n second) (p ∷ []) ∙ ap (λ l. first ++ l) (sym (take-suc second n d (omega arith)))) more

  History-append : History (first ++ second)
  History-append = subst (λ l. History (first ++ l)) (take_all (length second) second (omega arith)) (front_append (length second) (omega arith))

abbrev pub Ends : Provable → Type 0
Ends p = (rows : List Provable) × History (rows ++ p ∷ [])

-- what a step from no rows gives
alone : (step : Step) (p : Provable) → Gives [] step p → Ends p
alone step p g = ([], History-more [] step p History-none g)

-- with others in the place of a goal
replaced : (c : Sequent) (before after new leaves : List Sequent) (s : Sequent) →
    Ends (record { conclusion = c; goals = put_all (before ++ s ∷ after) (length before + 1) new; leaves = leaves }) →
    Ends (record { conclusion = c; goals = before ++ new ++ after; leaves = leaves })
replaced c before after new leaves s e =
    subst (λ (goals : List Sequent). Ends (record { conclusion = c; goals = goals; leaves = leaves })) (put_between before after new s) e

pub Derives-ends : (p : Provable) → Derives p → Ends p
Derives-ends _ (by_itself {s} h) = alone (Start s) (started s) (start s h)
Derives-ends _ (by_axiom name a e) = alone (UseAxiom name) (known a.formula) (use_axiom name a e)
Derives-ends _ (by_axiomatic_rule name r e) = alone (UseRule name) (inferred r.premise r.conclusion) (use_rule name r e)
Derives-ends _ (by_arithmetic {s} h k) = alone (Leaf s) (assumed s) (leaf s h k)
Derives-ends _ (by_rule {c} {s} {premises} {leaves} {rule} before after d real made) =
    let q : Provable = record { conclusion = c; goals = before ++ s ∷ after; leaves = leaves } in
    let e = Derives-ends q d in
    let rows = e.0 ++ q ∷ [] in
    let fact = length e.0 + 1 in
    let goal = length before + 1 in
    let given = apply fact goal rule q s premises (At-between e.0 q []) (At-between before s after) real made in
    replaced c before after premises leaves s (rows, History-more rows (Apply fact goal rule) (applied q goal premises) e.1 given)
Derives-ends _ (by_fact {c} {leaves} {new} {p} before after d k joined) =
    let q : Provable = record { conclusion = c; goals = before ++ p.conclusion ∷ after; leaves = leaves } in
    let e = Derives-ends q d in
    let f = Derives-ends p k in
    let first = e.0 ++ q ∷ [] in
    let second = f.0 ++ p ∷ [] in
    let rows = first ++ second in
    let fact = length e.0 + 1 in
    let by = length first + (length f.0 + 1) in
    let goal = length before + 1 in
    let is_fact = At-more first second fact q (At-between e.0 q []) in
    let is_by = At-behind first second (length f.0 + 1) p (At-between f.0 p []) in
    let given = merge fact goal by q p new is_fact is_by (At-between before p.conclusion after) joined in
    replaced c before after p.goals (leaves ++ new) p.conclusion
    (rows, History-more rows (Merge fact goal by) (merged q goal p new) (History-append first second e.1 f.1 p) given)
Derives-ends _ (by_substitution {p} {q} {pairs} d made well free is) =
    let e = Derives-ends p d in
    let rows = e.0 ++ p ∷ [] in
    let fact = length e.0 + 1 in
    (rows, History-more rows (Substitute fact pairs) q e.1 (substitute fact pairs p q (At-between e.0 p []) made well free is))
Derives-ends _ (by_renaming {p} x y d a b) =
    let e = Derives-ends p d in
    let rows = e.0 ++ p ∷ [] in
    let fact = length e.0 + 1 in
    (rows, History-more rows (Rename fact x y) (renamed x y p) e.1 (rename fact x y p (At-between e.0 p []) a b))
