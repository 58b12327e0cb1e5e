-- A set in which the variables that well made trees don't name are all alike has a member exactly where `nowhere` is in it or a
-- variable that they name.
use Rattle.std.proofs.Common.{◌≡◌, ◌∙◌, sym, ap, refl, ℕ, suc, zero, ◌<◌, List, [], ◌∷◌, ◌++◌, Bool, true, false, ◌||◌, ◌&&◌, length, replicate, max}
use Rattle.std.proofs.Common.{arith, ⊎_elim}
use Rattle.std.proofs.Math.ListN.{length-replicate}
use Rattle.std.proofs.lemmas.Bool.{and_parts, or_cases, or_parts, or_left, or_right, or_from, cases_Bool}
use Rattle.std.proofs.lemmas.List.Folds.{list_any-append}
use Rattle.std.proofs.lemmas.Slice.Eq.{bytes_eq-Decides}
use Rattle.std.specs.Prelude.{IsTrue, ◌↔◌}
use Rattle.std.specs.List.{list_any, list_all}
use Rattle.std.specs.Bool.{Decides}
use Rattle.std.specs.Str.{bytes_eq}
use Rattle.dlk_tree.specs.Names.{is_name, is_name_byte}
use Rattle.dlk_tree.specs.Trees.{Tree, WellMade}
use Rattle.dlk_tree.specs.Occurs.{has}
use Rattle.dlk_tree.specs.Statics.{plain, prime, both, free, bound}
use Rattle.dlk_tree.specs.Named.{any_name, is_named, has_either, nowhere}
use Rattle.dlk_tree.specs.Listed.{IsInhabited}
use Rattle.dlk_tree.specs.declared.op.Var.{Var}
use Rattle.dlk_tree.proofs.Elsewhere.{elsewhere}
use Rattle.dlk_tree.proofs.NameList.{names, names_listed, names_real, all_names}

none_empty : (xs : List (List ℕ)) → list_all is_name xs ≡ true → list_any (bytes_eq []) xs ≡ false
none_empty [] h = refl
none_empty ([] ∷ xs) h = sym h
none_empty ((b ∷ bs) ∷ xs) h = none_empty xs (and_parts _ _ h).1

-- no well made tree names the variable that is nowhere
pub not_named : (t : Tree) → WellMade t → is_named [] t ≡ false
not_named t made = names_listed (bytes_eq []) t ∙ none_empty (names t) (names_real t made)

longest : List (List ℕ) → ℕ
longest [] = 0
longest (x ∷ xs) = max (length x) (longest xs)

longer_is_none : (x : List ℕ) (xs : List (List ℕ)) → longest xs < length x → list_any (bytes_eq x) xs ≡ false
unfolding longest
longer_is_none x [] h = refl
longer_is_none x (y ∷ ys) h = or_from _ _ (go (bytes_eq x y) (bytes_eq-Decides x y)) (longer_is_none x ys (omega arith))
  where
    go : (b : Bool) → Decides b (x ≡ y) → b ≡ false
    go true d = let e = ap length (d.0 refl) in absurd (omega arith)
    go false d = refl

pub letters : (n : ℕ) → list_all is_name_byte (replicate n 97) ≡ true
letters zero = refl
letters (suc n) = letters n

-- there is always one more name
another_name : (xs : List (List ℕ)) → (x : List ℕ) × (is_name x ≡ true) × (list_any (bytes_eq x) xs ≡ false)
another_name xs =
    let n = longest xs in
    let x = replicate (suc n) 97 in
    (x, ap (λ b. b && true && true) (letters n), longer_is_none x xs (omega (arith, length-replicate {A = ℕ} (suc n) 97)))

-- a test that holds of a name of the list
module _ (test : List ℕ → Bool) where
  one_holds : (xs : List (List ℕ)) → list_all is_name xs ≡ true → list_any test xs ≡ true → (x : List ℕ) × (is_name x ≡ true) × (test x ≡ true)
  one_holds [] h e = cc
  one_holds (x ∷ xs) h e =
      let p = and_parts _ _ h in
      ⊎_elim (λ q. (x, p.0, q)) (one_holds xs p.1) (or_cases _ _ e)

  holds_of_one : (x : List ℕ) (xs : List (List ℕ)) → test x ≡ true → list_any (bytes_eq x) xs ≡ true → list_any test xs ≡ true
  holds_of_one x [] h e = e
  holds_of_one x (y ∷ ys) h e =
      ⊎_elim (λ p. or_left _ _ (ap test (sym ((bytes_eq-Decides x y).0 p)) ∙ h)) (λ p. or_right _ _ (holds_of_one x ys h p)) (or_cases _ _ e)

-- a member is one of the two variables of its name
either_of : (set : Var → Bool) (v : Var) → set v ≡ true → has_either set v.name ≡ true
either_of set v h = go v.primed refl
  where
    go : (p : Bool) → v.primed ≡ p → has_either set v.name ≡ true
    go true e = or_right _ _ (ap (λ p. set (record { name = v.name; primed = p })) (sym e) ∙ h)
    go false e = or_left _ _ (ap (λ p. set (record { name = v.name; primed = p })) (sym e) ∙ h)

-- A set in which the variables with no name in the list are all alike: whether it has a member shows at `nowhere` and at the
-- names in the list.
module _ (set : Var → Bool) (xs : List (List ℕ)) (real : list_all is_name xs ≡ true)
    (alike : (v : Var) → list_any (bytes_eq v.name) xs ≡ false → set v ≡ set nowhere) where
  some_elsewhere : set nowhere ≡ true → IsInhabited set
  some_elsewhere h =
      let x = another_name xs in
      (plain x.0, x.1, alike (plain x.0) x.2 ∙ h)

  some_listed : list_any (has_either set) xs ≡ true → IsInhabited set
  some_listed h =
      let x = one_holds (has_either set) xs real h in
      ⊎_elim (λ p. (plain x.0, x.1, p)) (λ p. (prime x.0, x.1, p)) (or_cases _ _ x.2)

  found : IsInhabited set → IsTrue (set nowhere || list_any (has_either set) xs)
  found m = ⊎_elim
      (λ e. or_right _ _ (holds_of_one (has_either set) m.0.name xs (either_of set m.0 m.2) e))
      (λ e. or_left _ _ (sym (alike m.0 e) ∙ m.2))
      (cases_Bool (list_any (bytes_eq m.0.name) xs))

  pub some_by_names : IsTrue (set nowhere || list_any (has_either set) xs) ↔ IsInhabited set
  some_by_names = (λ h. ⊎_elim some_elsewhere some_listed (or_cases _ _ h), found)

-- the same of the names in a tree
pub some_by_tree : (set : Var → Bool) (t : Tree) → WellMade t → ((v : Var) → is_named v.name t ≡ false → set v ≡ set nowhere) →
    IsTrue (set nowhere || has (any_name (has_either set)) t) ↔ IsInhabited set
some_by_tree set t made alike =
    rw (names_listed (has_either set) t) (some_by_names set (names t) (names_real t made) (λ v h. alike v (names_listed (bytes_eq v.name) t ∙ h)))

-- and of the names in two, as for a set of variables of the one that may meet one of the other
pub some_by_trees : (set : Var → Bool) (s t : Tree) → WellMade s → WellMade t →
    ((v : Var) → is_named v.name s ≡ false → is_named v.name t ≡ false → set v ≡ set nowhere) →
    IsTrue ((set nowhere || has (any_name (has_either set)) s) || (set nowhere || has (any_name (has_either set)) t)) ↔ IsInhabited set
some_by_trees set s t p q alike =
    let test = has_either set in
    rw (names_listed test s, names_listed test t, shared, ← list_any-append test (names s) (names t))
    (some_by_names set (names s ++ names t) (all_names (names s) (names t) (names_real s p) (names_real t q)) off)
  where
    shared : (n a b : Bool) → ((n || a) || (n || b)) ≡ (n || (a || b))
    shared true a b = refl
    shared false a b = refl

    off : (v : Var) → list_any (bytes_eq v.name) (names s ++ names t) ≡ false → set v ≡ set nowhere
    off v h =
        let e = or_parts _ _ (sym (list_any-append (bytes_eq v.name) (names s) (names t)) ∙ h) in
        alike v (names_listed (bytes_eq v.name) s ∙ e.0) (names_listed (bytes_eq v.name) t ∙ e.1)

-- some variable is free in t
pub some_free : (t : Tree) → WellMade t → IsTrue (free t nowhere || has (any_name (has_either (free t))) t) ↔ IsInhabited (free t)
some_free t made = some_by_tree (free t) t made (λ v h. (elsewhere t v nowhere h (not_named t made)).free)

-- some variable is free in e and bound in a
pub some_free_bound : (e a : Tree) → WellMade e → WellMade a → let set = both (free e) (bound a) in
    IsTrue ((set nowhere || has (any_name (has_either set)) e) || (set nowhere || has (any_name (has_either set)) a)) ↔ IsInhabited set
some_free_bound e a p q = some_by_trees (both (free e) (bound a)) e a p q (λ v h k.
    let one = (elsewhere e v nowhere h (not_named e p)).free in
    let other = (elsewhere a v nowhere k (not_named a q)).bound in
    λ i. one i && other i)
