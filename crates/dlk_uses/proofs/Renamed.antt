-- A match renames at most as many names as an axiom has of its own, which are few.
use Rattle.std.proofs.Common.{◌≡◌, ℕ, ◌≤◌, List, [], ◌∷◌, length, Bool, true, false, not, ◌||◌, refl, sym, subst, arith, Some}
use Rattle.std.specs.Prelude.{IsTrue, All}
use Rattle.std.specs.List.{list_any, IsDistinct, AllByRecursion}
use Rattle.std.specs.Str.{bytes_eq}
use Rattle.std.specs.Cmp.Lexicographic.{nat_list_eq_equiv}
use Rattle.std.proofs.lemmas.Bool.{and_parts}
use Rattle.std.proofs.lemmas.List.{length-map}
use Rattle.std.proofs.lemmas.List.Elements.{All-head, All-tail}
use Rattle.std.proofs.lemmas.Map.Made.{length-le_from_is_member}
use Rattle.std.proofs.lemmas.Slice.Eq.{bytes_eq-Decides}
use Rattle.dlk_tree.specs.declared.op.Op.{Op}
use Rattle.dlk_tree.specs.Table.{all_distinct}
use Rattle.dlk_tree.specs.Trees.{Tree, node, Forest}
use Rattle.dlk_calculus.specs.declared.form.AxiomForm.{AxiomForm}
use Rattle.dlk_calculus.specs.declared.form.AxiomForm.TheVariants.{E, Q, C, R, I, F}
use Rattle.dlk_calculus.specs.Axioms.{Axiom, axioms, axiom_named}
use Rattle.dlk_calculus.specs.Kids.{first, last}
use Rattle.dlk_match.specs.Instances.{HasOwnNames}
use Rattle.dlk_match.specs.Matching.{AreGiven, is_own, old_names}
use Rattle.dlk_sequent.specs.declared.sequent.Place.{Place}
use Rattle.dlk_sequent.specs.declared.sequent.Place.TheVariants.{Ante, Succ}
use Rattle.dlk_uses.specs.Uses.{Direction, Forwards, Backwards, left_of, right_of, key}
use Rattle.dlk_uses.proofs.Shapes.{found_passes}

-- distinct names of a list are at most as many as the list is long

split : (b c : Bool) → IsTrue (not (b || c)) → (b ≡ false) × IsTrue (not c)
split false c h = (refl, h)
split true c h = absurd (cc h)

none_like : (x : List ℕ) (xs : List (List ℕ)) → IsTrue (not (list_any (bytes_eq x) xs)) → AllByRecursion (λ y. bytes_eq x y ≡ false) xs
none_like x [] h = tt
none_like x (y ∷ xs) h = let s = split (bytes_eq x y) (list_any (bytes_eq x) xs) h in (s.0, none_like x xs s.1)

distinct : (xs : List (List ℕ)) → IsTrue (all_distinct xs) → IsDistinct bytes_eq xs
unfolding IsDistinct
distinct [] h = tt
distinct (x ∷ xs) h = let b = and_parts (not (list_any (bytes_eq x) xs)) (all_distinct xs) h in (none_like x xs b.0, distinct xs b.1)

abbrev Names : Type 0
Names = List (List ℕ × List ℕ)

abbrev HasOwnOnes : List (List ℕ) → Names → Type 0
HasOwnOnes own renames = All (λ (r : List ℕ × List ℕ). IsTrue (is_own own r.0)) renames

among : (own : List (List ℕ)) (renames : Names) → HasOwnOnes own renames → (q : List ℕ) → list_any (bytes_eq q) (old_names renames) ≡ true →
    list_any (bytes_eq q) own ≡ true
among own [] all q h = absurd (cc h)
among own (r ∷ renames) all q h = go (among own renames (All-tail (λ (x : List ℕ × List ℕ). IsTrue (is_own own x.0)) r renames all) q) (bytes_eq q r.0) refl h
  where
    go : (list_any (bytes_eq q) (old_names renames) ≡ true → list_any (bytes_eq q) own ≡ true) → (b : Bool) → bytes_eq q r.0 ≡ b →
        (b || list_any (bytes_eq q) (old_names renames)) ≡ true → list_any (bytes_eq q) own ≡ true
    go later true e is =
        subst (λ x. list_any (bytes_eq x) own ≡ true) (sym ((bytes_eq-Decides q r.0).0 e))
        (All-head (λ (x : List ℕ × List ℕ). IsTrue (is_own own x.0)) r renames all)
    go later false e is = later is

given_few : (own : List (List ℕ)) (renames : Names) → AreGiven own renames → length renames ≤ length own
given_few own renames given =
    let few = length-le_from_is_member nat_list_eq_equiv (old_names renames) own (distinct (old_names renames) given.once) (among own renames given.own_ones) in
    let n = length-map renames (λ (r : List ℕ × List ℕ). r.0) in
    omega (arith, few, n)

-- no axiom has more than three
abbrev is_short : List (List ℕ) → Bool
is_short [] = true
is_short (a ∷ []) = true
is_short (a ∷ b ∷ []) = true
is_short (a ∷ b ∷ c ∷ []) = true
is_short (a ∷ b ∷ c ∷ d ∷ xs) = false

short : (xs : List (List ℕ)) → IsTrue (is_short xs) → length xs ≤ 3
short [] h = omega arith
short (a ∷ []) h = omega arith
short (a ∷ b ∷ []) h = omega arith
short (a ∷ b ∷ c ∷ []) h = omega arith
short (a ∷ b ∷ c ∷ d ∷ xs) h = absurd (cc h)

own_few : (name : List ℕ) (a : Axiom) → axiom_named name ≡ Some a → length a.own_names ≤ 3
own_few name a e =
    short a.own_names (found_passes (λ (x : Axiom). is_short x.own_names) (λ (x : Axiom). bytes_eq x.name name) axioms a refl e)

-- in what is looked for of an axiom its own names stand alone
abbrev EndsNames : Type 0
EndsNames = (own : List (List ℕ)) (op : Op) (kids : Forest) → HasOwnNames own (node op kids) → HasOwnNames own (first kids) × HasOwnNames own (last kids)

left_names : EndsNames → (own : List (List ℕ)) (f : Tree) → HasOwnNames own f → HasOwnNames own (left_of f)
left_names ends own (node op kids) h = (ends own op kids h).0

right_names : EndsNames → (own : List (List ℕ)) (f : Tree) → HasOwnNames own f → HasOwnNames own (right_of f)
right_names ends own (node op kids) h = (ends own op kids h).1

key_names : EndsNames → (form : AxiomForm) (direction : Direction) (place : Place) (own : List (List ℕ)) (f : Tree) → HasOwnNames own f →
    HasOwnNames own (key form direction place f)
key_names ends E Forwards place own f h = left_names ends own f h
key_names ends E Backwards place own f h = right_names ends own f h
key_names ends Q Forwards place own f h = left_names ends own f h
key_names ends Q Backwards place own f h = right_names ends own f h
key_names ends C direction place own f h = left_names ends own (right_of f) (right_names ends own f h)
key_names ends R direction place own f h = left_names ends own (right_of f) (right_names ends own f h)
key_names ends I direction (Succ j) own f h = right_names ends own f h
key_names ends I direction (Ante i) own f h = left_names ends own f h
key_names ends F direction place own f h = h

pub renamed_few : EndsNames → (name : List ℕ) (a : Axiom) (direction : Direction) (place : Place) (renames : Names) → axiom_named name ≡ Some a →
    HasOwnNames a.own_names a.formula → (HasOwnNames a.own_names (key a.form direction place a.formula) → AreGiven a.own_names renames) → length renames ≤ 3
renamed_few ends name a direction place renames named names given =
    let few = given_few a.own_names renames (given (key_names ends a.form direction place a.own_names a.formula names)) in
    let most = own_few name a named in
    omega (arith, few, most)
