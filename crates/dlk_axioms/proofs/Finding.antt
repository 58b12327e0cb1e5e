-- A table that says what there is finds what there is.
use Rattle.std.proofs.Common.{◌≡◌, refl, sym, ap, subst, ◌∙◌, Bool, true, false, cond, List, [], ◌∷◌, ◌++◌, map, Option, Some, None, find}
use Rattle.std.proofs.lemmas.List.Folds.{find-append}
use Rattle.std.proofs.lemmas.Option.{same_Some}
use Rattle.std.specs.Option.{option_map, option_copied, option_or}
use denote.Ref.{Bor}
use Rattle.dlk_axioms.specs.Answers.{Finds}

find_map : {X A : Type 0} (f : X → A) (test : A → Bool) (xs : List X) → option_map f (find (λ x. test (f x)) xs) ≡ find test (map f xs)
find_map f test [] = refl
find_map f test (x ∷ xs) = go (find_map f test xs) (test (f x))
  where
    go : option_map f (find (λ y. test (f y)) xs) ≡ find test (map f xs) →
        (b : Bool) → option_map f (cond b (Some x) (find (λ y. test (f y)) xs)) ≡ cond b (Some (f x)) (find test (map f xs))
    go rest true = refl
    go rest false = rest

finds : {X A : Type 0} (f : X → A) (o : Option X) (wanted : Option A) → option_map f o ≡ wanted → Finds (λ a x. f x ≡ a) wanted o
finds f None wanted e = sym e
finds f (Some x) None e = absurd cc
finds f (Some x) (Some a) e = (a, refl, same_Some (f x) a e)

behind : {A X : Type 0} (fits : A → X → Type 0) (wanted : Option A) (o : Option (Bor X)) →
    Finds fits wanted (option_copied o) → Finds (λ a x. fits a x.now) wanted o
behind fits wanted None h = h
behind fits wanted (Some x) h = h

-- the rows say all the items, so the first row of which a test holds says the first such item
pub find_row : {X A : Type 0} (f : X → A) (test : A → Bool) (rows : List X) (all : List A) → map f rows ≡ all →
    (o : Option (Bor X)) → option_copied o ≡ find (λ x. test (f x)) rows → Finds (λ a x. f x.now ≡ a) (find test all) o
find_row {X} {A} f test rows all same o is =
    let wanted = find test all in
    let first = finds f (find (λ x. test (f x)) rows) wanted (find_map f test rows ∙ ap (find test) same) in
    behind (λ a x. f x ≡ a) wanted o (subst (λ (found : Option X). Finds (λ (a : A) x. f x ≡ a) wanted found) (sym is) first)

or_finds : {A X : Type 0} (fits : A → X → Type 0) (first second : Option A) (o p : Option X) →
    Finds fits first o → Finds fits second p → Finds fits (option_or first second) (option_or o p)
or_finds fits first second None p h l = subst (λ w. Finds fits (option_or w second) p) (sym h) l
or_finds fits first second (Some x) p h l = (h.0, ap (λ w. option_or w second) h.1, h.2)

-- what is found in the one of two lists, or else in the other, is found in both together
pub find_either : {X A : Type 0} (fits : A → X → Type 0) (test : A → Bool) (xs ys : List A) (o p : Option X) →
    Finds fits (find test xs) o → Finds fits (find test ys) p → Finds fits (find test (xs ++ ys)) (option_or o p)
find_either fits test xs ys o p h l =
    subst (λ w. Finds fits w (option_or o p)) (sym (find-append test xs ys)) (or_finds fits (find test xs) (find test ys) o p h l)
