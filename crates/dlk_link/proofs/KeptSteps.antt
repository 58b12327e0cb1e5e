-- Steps that are kept, with their keys.
use Rattle.std.proofs.Common.{◌≡◌, refl, sym, ap, subst, ◌∙◌, ℕ, zero, suc, ◌+◌, ◌<◌, ◌≤◌, Bool, true, false, not, List, [], ◌∷◌, ◌++◌, inl, inr, length, map}
use Rattle.std.proofs.Common.{take, drop, arith, rules}
use Rattle.std.proofs.Common.{get_or, length-append, nat_eq, true≢false}
use Rattle.std.specs.Bool.{Decides}
use Rattle.std.specs.Cmp.Lexicographic.{pointwise}
use Rattle.std.specs.List.{All, Contains, list_any, slice_get}
use Rattle.std.specs.Prelude.{Some}
use Rattle.std.proofs.lemmas.Bool.{cond-true, cond-false}
use Rattle.std.proofs.lemmas.Cmp.{nat_list_eq_equiv}
use Rattle.std.proofs.lemmas.List.Folds.{list_any_at}
use Rattle.std.proofs.lemmas.Option.{get_or_from_slice_get, slice_get_within}
use Rattle.std.proofs.Math.Seq.{take-length}
use Rattle.std.proofs.lemmas.List.{length-map, length-drop, map-append, take_more, length-take-le}
use Rattle.std.proofs.lemmas.List.Elements.{All-push, All-nil}
use Rattle.indexmap.specs.IndexSet.{insert_key}
use Rattle.dlk_tree.specs.Trees.{Tree}
use Rattle.dlk_store.specs.Stores.{HasOneId}
use Rattle.dlk_calculus.specs.Places.{At}
use Rattle.dlk_calculus.specs.Rules.{Rule, word_of, arguments_of}
use Rattle.dlk_calculus.specs.Steps.{Step as TreeStep}
use Rattle.dlk_calculus.proofs.PlaceLaws.{at_one, At-map, At_place, At_All, at_suc}
use Rattle.dlk_rules.specs.declared.step.Step.{Step}
use Rattle.dlk_rules.specs.declared.step.Step.TheVariants as step
use Rattle.dlk_rules.specs.Steps.{step_at, HasKnownIds}
use Rattle.dlk_link.specs.declared.trimming.Kept.{Kept}
use Rattle.dlk_link.specs.Keyed.{AreKeyed, Numbers, is_there, is_new}
use Rattle.dlk_link.specs.Keys.{IsKey}
use Rattle.dlk_link.specs.Marks.{AreMarks}
use Rattle.dlk_link.specs.Trimmed.{IsNeeded, moved, Trims, nothing_read, not_needed, kept_before, is_kept}
use Rattle.dlk_link.proofs.Again.{at_later, get_in}
use Rattle.dlk_link.proofs.Kept.{at_either, at_some}
use Rattle.dlk_link.proofs.KeyLaws.{one_step, one_key}
use Rattle.dlk_link.proofs.Names.{in_from_contains}

decides : (a b : List ℕ) → Decides (pointwise nat_eq a b) (a ≡ b)
decides a b = search rules

-- a key that stands among keys is found
finds : (key : List ℕ) (keys : List (List ℕ)) (place : ℕ) → At keys place key → list_any (pointwise nat_eq key) keys ≡ true
finds key keys zero h = absurd (cc h)
finds key keys (suc k) h =
    let e = sym (at_suc keys k) ∙ h in
    list_any_at (pointwise nat_eq key) keys k key (slice_get_within keys k key e)
    (ap (pointwise nat_eq key) (get_or_from_slice_get keys k key key e) ∙ nat_list_eq_equiv.refl key)

-- an item of a list has one of another list of the same length at its place
beside : {A B : Type 0} (xs : List A) (ys : List B) (place : ℕ) (x : A) (d : B) → length ys ≡ length xs → At xs place x → (y : B) × At ys place y
beside xs ys zero x d e h = absurd (cc h)
beside xs ys (suc k) x d e h =
    let lt = slice_get_within xs k x (sym (at_suc xs k) ∙ h) in (get_or ys k d, at_some ys k d (omega (arith, lt, e)))

pub unmap : (trees : List Tree) (items : List Step) (place : ℕ) (t : TreeStep) → At (map (step_at trees) items) place t →
    (s : Step) × At items place s × (t ≡ step_at trees s)
unmap trees items zero t h = absurd (cc h)
unmap trees [] (suc k) t h = let e = sym (at_suc (map (step_at trees) []) k) ∙ h in absurd (cc e)
unmap trees (x ∷ items) (suc zero) t h = (x, refl, cc)
unmap trees (x ∷ items) (suc (suc k)) t h =
    let e : At (map (step_at trees) items) (suc k) t = at_suc (map (step_at trees) items) k ∙ sym (at_suc (map (step_at trees) (x ∷ items)) (suc k)) ∙ h in
    let f = unmap trees items (suc k) t e in
    (f.0, at_suc (x ∷ items) (suc k) ∙ sym (at_suc items k) ∙ f.1, f.2)

-- keys after one more: the place of the key, and whether it is new
abbrev pub HasKeyAt : List ℕ → List (List ℕ) → ℕ → Type 0
HasKeyAt key keys n = (w : List ℕ) × (slice_get keys n ≡ Some w) × (pointwise nat_eq key w ≡ true)

module _ (one_rule : (r s : Rule) → word_of r ≡ word_of s → arguments_of r ≡ arguments_of s → r ≡ s) (trees : List Tree) (one : HasOneId trees)
    (steps : List Step) (keys : List (List ℕ)) (step : Step) (key : List ℕ) (keyed : AreKeyed trees steps keys) (known : HasKnownIds trees step)
    (is_key : IsKey trees (step_at trees step) key) where
  key_at : (all : List (List ℕ)) (n : ℕ) → HasKeyAt key all n → At all (n + 1) key
  key_at all n h =
      let place : suc n ≡ n + 1 = omega arith in
      let same : key ≡ h.0 = (decides key h.0).0 h.2 in
      subst (λ k. At all k key) place (subst (λ w. At all (suc n) w) (sym same) (at_suc all n ∙ h.1))

  -- the key is there: so is the step
  pub number_there : (all : List (List ℕ)) (n : ℕ) → all ≡ insert_key (pointwise nat_eq) keys key → list_any (pointwise nat_eq key) keys ≡ true →
      HasKeyAt key all n →
      AreKeyed trees steps all × Numbers trees steps step steps (n + 1)
  number_there all n all_is there h =
      let same : all ≡ keys = all_is ∙ cond-true (list_any (pointwise nat_eq key) keys) keys (keys ++ key ∷ []) there in
      let at : At keys (n + 1) key = subst (λ k. At k (n + 1) key) same (key_at all n h) in
      let found = beside keys steps (n + 1) key step (sym keyed.count) at in
      let equal : step_at trees found.0 ≡ step_at trees step = one_step trees one_rule (step_at trees found.0) (step_at trees step) key (keyed.keyed (n + 1)
      found.0 key found.1 at) is_key in (
        subst (AreKeyed trees steps) (sym same) keyed,
        is_there (subst (λ z. At (map (step_at trees) steps) (n + 1) z) equal (At-map (step_at trees) steps (n + 1) found.0 found.1)),
      )

  -- no equal step has another key
  not_equal : list_any (pointwise nat_eq key) keys ≡ false → ¬ Contains (map (step_at trees) steps) (step_at trees step)
  not_equal new c =
      let found = get_in (map (step_at trees) steps) (step_at trees step) (in_from_contains (map (step_at trees) steps) (step_at trees step) c) in
      let its = unmap trees steps found.0 (step_at trees step) found.1 in
      let other = beside steps keys found.0 its.0 key keyed.count its.1 in
      let same : other.0 ≡ key = one_key trees one (step_at trees step) other.0 key
      (subst (λ z. IsKey trees z other.0) (sym its.2) (keyed.keyed found.0 its.0 other.0 its.1 other.1)) is_key in
      true≢false (sym (finds key keys found.0 (subst (λ w. At keys found.0 w) same other.1)) ∙ new)

  -- it isn't: the step is kept
  pub number_new : (all : List (List ℕ)) (n : ℕ) → all ≡ insert_key (pointwise nat_eq) keys key → list_any (pointwise nat_eq key) keys ≡ false →
      HasKeyAt key all n →
      AreKeyed trees (steps ++ step ∷ []) all × Numbers trees steps step (steps ++ step ∷ []) (n + 1)
  number_new all n all_is new h =
      let longer : all ≡ keys ++ key ∷ [] = all_is ∙ cond-false (list_any (pointwise nat_eq key) keys) keys (keys ++ key ∷ []) new in
      let at : At (keys ++ key ∷ []) (n + 1) key = subst (λ k. At k (n + 1) key) longer (key_at all n h) in
      let place : n + 1 ≡ length keys + 1 = elim (at_either keys key key (n + 1) at) [
        | inl old ↦ absurd (true≢false (sym (finds key keys (n + 1) old) ∙ new))
        | inr e ↦ e.0
      ] in
      let count = keyed.count in (
        subst (AreKeyed trees (steps ++ step ∷ [])) (sym longer) (record {
          count = omega (arith, count, length-append keys (key ∷ []), length-append steps (step ∷ []));
          keyed = λ k s w a b. elim (at_either steps step s k a) [
            | inl x ↦ elim (at_either keys key w k b) [
              | inl y ↦ keyed.keyed k s w x y
              | inr y ↦ absurd (let e = y.0 in let l = (At_place steps k s x).1 in omega (arith, e, l, count))
            ]
            | inr x ↦ elim (at_either keys key w k b) [
              | inl y ↦ absurd (let e = x.0 in let l = (At_place keys k w y).1 in omega (arith, e, l, count))
              | inr y ↦ subst (λ z. IsKey trees (step_at trees z) w) (sym x.1) (subst (λ z. IsKey trees (step_at trees step) z) (sym y.1) is_key)
            ]
          ];
          known = All-push (HasKnownIds trees) steps step keyed.known known;
        }),
        subst (λ k. Numbers trees steps step (steps ++ step ∷ []) k) (sym (place ∙ ap (λ k. k + 1) count)) (is_new (not_equal new)),
      )

-- ---- row by row

pub record Row (term : List Step) (row : ℕ) (steps : List Step) (keys : List (List ℕ)) (numbers : List ℕ) (trees : List Tree) : Type 0 where
  pub keyed : AreKeyed trees steps keys
  pub trims : Trims (map (step_at trees) term) (take row (map (step_at trees) term)) (map (step_at trees) steps) numbers

-- of so many rows these steps are kept
abbrev pub KeptSoFar : List Step → ℕ → List Step → List (List ℕ) → List ℕ → Type 0
KeptSoFar term row steps keys numbers = (trees : List Tree) → HasOneId trees → All (HasKnownIds trees) term → Row term row steps keys numbers trees

pub nothing_yet : (term : List Step) → KeptSoFar term 0 [] [] []
nothing_yet term trees one known = record {
  keyed = record { count = refl; keyed = λ k s w a b. absurd (nowhere k s a); known = All-nil (HasKnownIds trees) };
  trims = nothing_read;
}
  where
    nowhere : (k : ℕ) (s : Step) → At [] k s → ⊥
    nowhere zero s h = cc
    nowhere (suc k) s h = let e = sym (at_suc [] k) ∙ h in cc

module _ (term : List Step) (row : ℕ) (within : row < length term) (steps : List Step) (keys : List (List ℕ)) (numbers : List ℕ) (marks : List Bool)
    (marked : (trees : List Tree) → AreMarks (map (step_at trees) term) marks) (so_far : KeptSoFar term row steps keys numbers) where
  module _ (trees : List Tree) (item : Step) (item_is : At term (row + 1) item) where
    all : List TreeStep
    all = map (step_at trees) term

    one_more : take (row + 1) (map (step_at trees) term) ≡ take row (map (step_at trees) term) ++ step_at trees item ∷ []
    one_more =
        let lt : row < length (map (step_at trees) term) = omega (arith, within, length-map term (step_at trees)) in
        let place : suc row ≡ row + 1 = omega arith in
        let there = subst (λ k. At (map (step_at trees) term) k (get_or (map (step_at trees) term) row (step_at trees item))) place (at_some (map (step_at
        trees) term) row (step_at trees item) lt) in
        let same = at_one (map (step_at trees) term) (row + 1) (get_or (map (step_at trees) term) row (step_at trees item)) (step_at trees item) there (At-map
        (step_at trees) term (row + 1) item item_is) in
        take_more (map (step_at trees) term) row (step_at trees item) lt ∙ ap (λ z. take row (map (step_at trees) term) ++ z ∷ []) same

    count : length (take row (map (step_at trees) term)) ≡ row
    count = length-take-le row (map (step_at trees) term) (omega (arith, within, length-map term (step_at trees)))

  pub row_left_out : ¬ At marks (row + 1) true → KeptSoFar term (row + 1) steps keys (numbers ++ 0 ∷ [])
  row_left_out unmarked trees one known =
      let was = so_far trees one known in
      let it = item in
      record {
        keyed = was.keyed;
        trims = subst (λ z. Trims (map (step_at trees) term) z (map (step_at trees) steps) (numbers ++ 0 ∷ [])) (sym (one_more trees it.0 it.1))
            (not_needed (step_at trees it.0) was.trims (λ need. unmarked (((marked trees).marked (row + 1)).1 (subst (λ k. IsNeeded (map (step_at trees) term)
            (k + 1)) (count trees it.0 it.1) need))));
      }
    where
      item : (s : Step) × At term (row + 1) s
      item = let place : suc row ≡ row + 1 = omega arith in
          (get_or term row (step.Axiom []), subst (λ k. At term k (get_or term row (step.Axiom []))) place (at_some term row (step.Axiom []) within))

  pub row_kept : At marks (row + 1) true → (item moved_item : Step) → At term (row + 1) item →
      ((trees : List Tree) → step_at trees moved_item ≡ moved numbers (step_at trees item)) →
      ((trees : List Tree) → HasKnownIds trees item → HasKnownIds trees moved_item) → (new : List Step) (new_keys : List (List ℕ)) (n : ℕ) →
      ((trees : List Tree) → HasOneId trees → HasKnownIds trees moved_item → AreKeyed trees steps keys →
      AreKeyed trees new new_keys × Numbers trees steps moved_item new n) →
      KeptSoFar term (row + 1) new new_keys (numbers ++ n ∷ [])
  row_kept is_marked item moved_item item_is same known new new_keys n told trees one all_known =
      let was = so_far trees one all_known in
      let made = told trees one (known trees (At_All (HasKnownIds trees) term (row + 1) item all_known item_is)) was.keyed in
      let need : IsNeeded (map (step_at trees) term) (length (take row (map (step_at trees) term)) + 1) =
      subst (λ k. IsNeeded (map (step_at trees) term) (k + 1)) (sym (count trees item item_is)) (((marked trees).marked (row + 1)).0 is_marked) in
      record {
        keyed = made.0;
        trims = subst (λ z. Trims (map (step_at trees) term) z (map (step_at trees) new) (numbers ++ n ∷ [])) (sym (one_more trees item item_is))
            (trimmed was.trims need new n made.1);
      }
    where
      trimmed : Trims (map (step_at trees) term) (take row (map (step_at trees) term)) (map (step_at trees) steps) numbers →
          IsNeeded (map (step_at trees) term) (length (take row (map (step_at trees) term)) + 1) → (new : List Step) (n : ℕ) →
          Numbers trees steps moved_item new n →
          Trims (map (step_at trees) term) (take row (map (step_at trees) term) ++ step_at trees item ∷ []) (map (step_at trees) new) (numbers ++ n ∷ [])
      trimmed was need _ _ (is_there {n = n} at) =
          kept_before (step_at trees item) n was need (subst (λ z. At (map (step_at trees) steps) n z) (same trees) at)
      trimmed was need _ _ (is_new other) =
          let made = is_kept (step_at trees item) was need (λ c. other (subst (λ z. Contains (map (step_at trees) steps) z) (sym (same trees)) c)) in
          let longer : map (step_at trees) steps ++ moved numbers (step_at trees item) ∷ [] ≡ map (step_at trees) (steps ++ moved_item ∷ []) =
          ap (λ z. map (step_at trees) steps ++ z ∷ []) (sym (same trees)) ∙ sym (map-append (step_at trees) steps (moved_item ∷ [])) in
          subst (λ z. Trims (map (step_at trees) term) (take row (map (step_at trees) term) ++ step_at trees item ∷ []) z (numbers ++ (length steps + 1) ∷ []))
          longer
          (subst (λ k. Trims (map (step_at trees) term) (take row (map (step_at trees) term) ++ step_at trees item ∷ [])
          (map (step_at trees) steps ++ moved numbers (step_at trees item) ∷ []) (numbers ++ (k + 1) ∷ [])) (length-map steps (step_at trees)) made)

-- all rows are read
pub all_kept : (term : List Step) (steps : List Step) (keys : List (List ℕ)) (numbers : List ℕ) (trees : List Tree) →
    Row term (length term) steps keys numbers trees →
    Trims (map (step_at trees) term) (map (step_at trees) term) (map (step_at trees) steps) numbers
all_kept term steps keys numbers trees row =
    let whole : take (length term) (map (step_at trees) term) ≡ map (step_at trees) term =
    ap (λ k. take k (map (step_at trees) term)) (sym (length-map term (step_at trees))) ∙ take-length (map (step_at trees) term) in
    subst (λ z. Trims (map (step_at trees) term) z (map (step_at trees) steps) numbers) whole row.trims

pub none_yet : (term steps : List Step) (keys : List (List ℕ)) (numbers : List ℕ) → steps ≡ [] → keys ≡ [] → numbers ≡ [] → KeptSoFar term 0 steps keys numbers
none_yet term steps keys numbers a b c =
    subst (λ s. KeptSoFar term 0 s keys numbers) (sym a) (subst (λ k. KeptSoFar term 0 [] k numbers) (sym b) (subst (λ n. KeptSoFar term 0 [] [] n) (sym c)
    (nothing_yet term)))

-- what holds at each row
pub record Invariant (term : List Step) (row : ℕ) (steps : List Step) (keys : List (List ℕ)) (numbers : List ℕ) : Type 0 where
  pub few : length steps ≤ row
  pub count : length keys ≡ length steps
  pub numbered : length numbers ≡ row
  pub kept : KeptSoFar term row steps keys numbers

pub first_row : (term steps : List Step) (keys : List (List ℕ)) (numbers : List ℕ) → steps ≡ [] → keys ≡ [] → numbers ≡ [] → Invariant term 0 steps keys numbers
first_row term steps keys numbers a b c = record {
  few = let e = ap (λ x. length x) a in omega (arith, e);
  count = ap (λ x. length x) b ∙ sym (ap (λ x. length x) a);
  numbered = ap (λ x. length x) c;
  kept = none_yet term steps keys numbers a b c;
}

pub next_row : (term : List Step) (row : ℕ) (steps new : List Step) (keys new_keys : List (List ℕ)) (numbers : List ℕ) (n : ℕ) →
    Invariant term row steps keys numbers →
    length new ≤ length steps + 1 → length new_keys ≡ length new → KeptSoFar term (row + 1) new new_keys (numbers ++ n ∷ []) →
    Invariant term (row + 1) new new_keys (numbers ++ n ∷ [])
next_row term row steps new keys new_keys numbers n was few count kept = record {
  few = let f = was.few in omega (arith, f, few);
  count = count;
  numbered = let e = was.numbered in omega (arith, e, length-append numbers (n ∷ []));
  kept = kept;
}

pub same_row : (term : List Step) (row : ℕ) (kept other : Kept) (numbers others : List ℕ) (m n : ℕ) → kept ≡ other → m ≡ n → others ≡ numbers ++ m ∷ [] →
    Invariant term row other.steps.items other.keys.keys (numbers ++ n ∷ []) → Invariant term row kept.steps.items kept.keys.keys others
same_row term row kept other numbers others m n a b c h =
    subst (λ l. Invariant term row kept.steps.items kept.keys.keys l) (sym c)
    (subst (λ (k : Kept). Invariant term row k.steps.items k.keys.keys (numbers ++ m ∷ [])) (sym a)
    (subst (λ j. Invariant term row other.steps.items other.keys.keys (numbers ++ j ∷ [])) (sym b) h))

-- ---- the steps that are left

-- what is left begins with the row of this number
pub dropped : (term : List Step) (n : ℕ) (step : Step) (rest : List Step) → step ∷ rest ≡ drop n term →
    (n < length term) × At term (n + 1) step × (rest ≡ drop (n + 1) term)
dropped [] zero step rest e = absurd (cc e)
dropped [] (suc n) step rest e = absurd (cc e)
dropped (x ∷ term) zero step rest e =
    let first : step ≡ x = cc in
    let others : rest ≡ term = cc in
    (omega arith, subst (λ z. At (x ∷ term) 1 z) (sym first) (at_some (x ∷ term) 0 x (omega arith)), others)
dropped (x ∷ term) (suc n) step rest e =
    let d = dropped term n step rest e in
    let lt = d.0 in
    let place : suc (n + 1) ≡ suc n + 1 = omega arith in
    (omega (arith, lt), subst (λ k. At (x ∷ term) k step) place (at_later x term (n + 1) step d.1), subst (λ k. rest ≡ drop k (x ∷ term)) place d.2)

-- of the rows so far these steps are kept, and the others are left
pub record RowsLeft (term left steps : List Step) (keys : List (List ℕ)) (numbers : List ℕ) : Type 0 where
  pub left_is : left ≡ drop (length numbers) term
  pub within : length numbers ≤ length term
  pub so_far : Invariant term (length numbers) steps keys numbers

pub all_left : (term left steps : List Step) (keys : List (List ℕ)) (numbers : List ℕ) → left ≡ term → steps ≡ [] → keys ≡ [] → numbers ≡ [] →
    RowsLeft term left steps keys numbers
all_left term left steps keys numbers e a b c =
    let none : length numbers ≡ 0 = ap (λ x. length x) c in
    record {
      left_is = e ∙ ap (λ k. drop k term) (sym none);
      within = omega (arith, none);
      so_far = subst (λ k. Invariant term k steps keys numbers) (sym none) (first_row term steps keys numbers a b c);
    }

pub one_read : (term left rest : List Step) (step : Step) (kept other : Kept) (steps : List Step) (keys : List (List ℕ)) (numbers others : List ℕ) (m n : ℕ) →
    left ≡ step ∷ rest → RowsLeft term left steps keys numbers → kept ≡ other → m ≡ n → others ≡ numbers ++ m ∷ [] →
    Invariant term (length numbers + 1) other.steps.items other.keys.keys (numbers ++ n ∷ []) → RowsLeft term rest kept.steps.items kept.keys.keys others
one_read term left rest step kept other steps keys numbers others m n next was a b c h =
    let size : length others ≡ length numbers + 1 = ap (λ x. length x) c ∙ length-append numbers (m ∷ []) in
    let d = dropped term (length numbers) step rest (sym next ∙ was.left_is) in
    let lt = d.0 in
    record {
      left_is = d.2 ∙ ap (λ k. drop k term) (sym size);
      within = omega (arith, size, lt);
      so_far = subst (λ k. Invariant term k kept.steps.items kept.keys.keys others) (sym size)
          (same_row term (length numbers + 1) kept other numbers others m n a b c h);
    }

pub none_left_to_read : (term left steps : List Step) (keys : List (List ℕ)) (numbers : List ℕ) → RowsLeft term left steps keys numbers → length left ≡ 0 →
    length numbers ≡ length term
none_left_to_read term left steps keys numbers was none =
    let size = ap (λ x. length x) was.left_is in
    let within = was.within in
    omega (arith, size, none, within, length-drop (length numbers) term)

-- ---- the step's number, as the code has it

pub is_not_found : {is found : Bool} → is ≡ not found → is ≡ true → found ≡ false
is_not_found {found = true} e h = absurd (true≢false (sym h ∙ e))
is_not_found {found = false} e h = refl

pub is_found : {is found : Bool} → is ≡ not found → is ≡ false → found ≡ true
is_found {found = true} e h = refl
is_found {found = false} e h = absurd (true≢false (sym e ∙ h))

pub kept_as : (trees : List Tree) (steps : List Step) (step : Step) (kept other : Kept) (n : ℕ) → kept ≡ other →
    AreKeyed trees other.steps.items other.keys.keys × Numbers trees steps step other.steps.items (n + 1) →
    AreKeyed trees kept.steps.items kept.keys.keys × Numbers trees steps step kept.steps.items (n + 1)
kept_as trees steps step kept other n e h =
    subst (λ (k : Kept). AreKeyed trees k.steps.items k.keys.keys × Numbers trees steps step k.steps.items (n + 1)) (sym e) h
