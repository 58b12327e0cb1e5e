-- Names that are given and names that are apart, told one by one.
use Rattle.std.proofs.Common.{◌≡◌, refl, sym, ap, ℕ, suc, List, [], ◌∷◌, length, map, arith, Bool, true, false, not, ◌&&◌, ◌||◌}
use Rattle.std.specs.Prelude.{◌↔◌, All, IsTrue}
use Rattle.std.specs.List.{list_any}
use Rattle.std.specs.Str.{bytes_eq}
use Rattle.std.proofs.lemmas.Bool.{and_parts}
use Rattle.std.proofs.lemmas.List.Elements.{All-cons, All-nil}
use Rattle.std.proofs.lemmas.Slice.Eq.{bytes_eq-Decides}
use Rattle.dlk_tree.specs.Table.{all_distinct}
use Rattle.dlk_match.specs.Matching.{is_own, AreGiven, AreApart}
use Rattle.dlk_match.proofs.Turns.{Names}
use Rattle.dlk_match.proofs.Growing.{and_from}

-- each passes the test, and none has the name of a later one
abbrev pub are_each : (List ℕ × List ℕ → Bool) → (List ℕ × List ℕ → List ℕ) → Names → Bool
are_each test name [] = true
are_each test name (r ∷ rest) = test r && (not (list_any (bytes_eq (name r)) (map name rest)) && are_each test name rest)

abbrev pub given_name : List (List ℕ) → List ℕ × List ℕ → Bool
given_name own r = is_own own r.0

abbrev pub name_apart : List (List ℕ) → List ℕ × List ℕ → Bool
name_apart own r = not (is_own own r.1) || bytes_eq r.0 r.1

abbrev pub all_given : List (List ℕ) → Names → Bool
all_given own renames = are_each (given_name own) (λ r. r.0) renames

abbrev pub all_apart : List (List ℕ) → Names → Bool
all_apart own renames = are_each (name_apart own) (λ r. r.1) renames

-- ---- one by one

pub each_none : (test : List ℕ × List ℕ → Bool) (name : List ℕ × List ℕ → List ℕ) (rest : Names) → length rest ≡ 0 → are_each test name rest ≡ true
each_none test name [] e = refl
each_none test name (r ∷ rest) e = absurd (omega (arith, e))

pub each_next : (test : List ℕ × List ℕ → Bool) (name : List ℕ × List ℕ → List ℕ) (r : List ℕ × List ℕ) (rest : Names)
    → test r ≡ true → list_any (bytes_eq (name r)) (map name rest) ≡ false → are_each test name (r ∷ rest) ≡ are_each test name rest
each_next test name r rest p q = go (test r) (list_any (bytes_eq (name r)) (map name rest)) p q
  where
    go : (a b : Bool) → a ≡ true → b ≡ false → a && (not b && are_each test name rest) ≡ are_each test name rest
    go true false p q = refl
    go true true p q = cc
    go false b p q = cc

-- ---- all of them

module _ (test : List ℕ × List ℕ → Bool) (name : List ℕ × List ℕ → List ℕ) (P : List ℕ × List ℕ → Type 0)
    (tells : (r : List ℕ × List ℕ) → IsTrue (test r) ↔ P r) where
  each_of : (renames : Names) → IsTrue (are_each test name renames) → All P renames × IsTrue (all_distinct (map name renames))
  each_of [] h = (All-nil P, refl)
  each_of (r ∷ rest) h =
      let parts = and_parts _ _ h in
      let more = and_parts _ _ parts.1 in
      let below = each_of rest more.1 in
      (All-cons P r rest ((tells r).0 parts.0) below.0, and_from _ _ more.0 below.1)

  of_each : (renames : Names) → All P renames → IsTrue (all_distinct (map name renames)) → IsTrue (are_each test name renames)
  of_each [] all distinct = refl
  of_each (r ∷ rest) all distinct =
      let parts = and_parts _ _ distinct in
      and_from _ _ ((tells r).1 (all 0 r (omega arith))) (and_from _ _ parts.0 (of_each rest (λ i d h. all (suc i) d (omega (arith, h))) parts.1))

pub given_is : (own : List (List ℕ)) (renames : Names) → IsTrue (all_given own renames) ↔ AreGiven own renames
given_is own renames = (
  λ h. let both = each_of (given_name own) (λ r. r.0) (λ r. IsTrue (is_own own r.0)) (λ r. (λ p. p, λ p. p)) renames h in
      record { own_ones = both.0; once = both.1 },
  λ a. of_each (given_name own) (λ r. r.0) (λ r. IsTrue (is_own own r.0)) (λ r. (λ p. p, λ p. p)) renames a.own_ones a.once,
)

tells_apart : (own : List (List ℕ)) (r : List ℕ × List ℕ) → IsTrue (name_apart own r) ↔ (IsTrue (is_own own r.1) → r.1 ≡ r.0)
tells_apart own r = go (is_own own r.1) (bytes_eq r.0 r.1) (bytes_eq-Decides r.0 r.1).0 (λ (e : r.0 ≡ r.1). (bytes_eq-Decides r.0 r.1).1 e)
  where
    go : (a b : Bool) → (b ≡ true → r.0 ≡ r.1) → (r.0 ≡ r.1 → b ≡ true) → IsTrue (not a || b) ↔ (IsTrue a → r.1 ≡ r.0)
    go true b same back = (λ h is. sym (same h), λ f. back (sym (f refl)))
    go false b same back = (λ h is. absurd (false_true is), λ f. refl)
      where
        false_true : false ≡ true → ⊥
        false_true e = cc

pub apart_is : (own : List (List ℕ)) (renames : Names) → IsTrue (all_apart own renames) ↔ AreApart own renames
apart_is own renames = (
  λ h. let both = each_of (name_apart own) (λ r. r.1) (λ r. IsTrue (is_own own r.1) → r.1 ≡ r.0) (tells_apart own) renames h in
      record { unlike = both.1; not_onto_own = both.0 },
  λ a. of_each (name_apart own) (λ r. r.1) (λ r. IsTrue (is_own own r.1) → r.1 ≡ r.0) (tells_apart own) renames a.not_onto_own a.unlike,
)
