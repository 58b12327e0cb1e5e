-- In an axiom only its own names stand, and it is well made. What has both has it in each kid, in the first and in the last.
use Rattle.std.proofs.Common.{◌≡◌, refl, subst, ℕ, List, [], ◌∷◌, map, Bool, true, false, not, cond, Some, find}
use Rattle.std.specs.Prelude.{All, IsTrue}
use Rattle.std.specs.List.{list_all}
use Rattle.std.specs.Str.{bytes_eq}
use Rattle.std.proofs.lemmas.Bool.{or_parts, and_parts}
use Rattle.std.proofs.lemmas.Option.{none-some, same_Some}
use Rattle.std.proofs.lemmas.List.Elements.{All-nil, All-cons, All-head, All-tail}
use Rattle.dlk_tree.specs.declared.op.Op.TheVariants.{True}
use Rattle.dlk_tree.specs.Trees.{node, Forest, no_kids, kid, trees_in, WellMade, AllWellMade}
use Rattle.dlk_tree.specs.Occurs.{has, any_has}
use Rattle.dlk_calculus.specs.Kids.{first, last}
use Rattle.dlk_calculus.specs.Axioms.{Axiom, axioms, axiom_named}
use Rattle.dlk_calculus.specs.Sequents.{IsFormula}
use Rattle.dlk_match.specs.Instances.{has_other_name, HasOwnNames}

-- what holds of what each item gives holds of what the found one gives
found_has : {A B : Type 0} (P : B → Type 0) (give : A → B) (test : A → Bool) (xs : List A) (x : A) → All P (map give xs) → find test xs ≡ Some x → P (give x)
found_has P give test [] x all e = absurd (none-some x e)
found_has P give test (y ∷ xs) x all e =
    go (λ h. found_has P give test xs x (All-tail P (give y) (map give xs) all) h) (test y) e
  where
    go : (find test xs ≡ Some x → P (give x)) → (b : Bool) → cond b (Some y) (find test xs) ≡ Some x → P (give x)
    go rest true h = subst (λ z. P (give z)) (same_Some y x h) (All-head P (give y) (map give xs) all)
    go rest false h = rest h

all_true : (bs : List Bool) → IsTrue (list_all (λ b. b) bs) → All IsTrue bs
all_true [] h = All-nil IsTrue
all_true (b ∷ bs) h = let parts = and_parts _ _ h in All-cons IsTrue b bs parts.0 (all_true bs parts.1)

abbrev has_own_names : Axiom → Bool
has_own_names a = not (has (has_other_name a.own_names) a.formula)

not_false : (b : Bool) → IsTrue (not b) → b ≡ false
not_false true h = cc
not_false false h = refl

pub own_names : (name : List ℕ) (a : Axiom) → axiom_named name ≡ Some a → HasOwnNames a.own_names a.formula
own_names name a e = not_false _ (found_has IsTrue has_own_names (λ (x : Axiom). bytes_eq x.name name) axioms a (all_true (map has_own_names axioms) refl) e)

pub well_made : All IsFormula (map (λ (a : Axiom). a.formula) axioms) → (name : List ℕ) (a : Axiom) → axiom_named name ≡ Some a → WellMade a.formula
well_made formulas name a e = (found_has IsFormula (λ (x : Axiom). x.formula) (λ (x : Axiom). bytes_eq x.name name) axioms a formulas e).well_made

pub each_own : (own : List (List ℕ)) (kids : Forest) → any_has (has_other_name own) kids ≡ false → All (HasOwnNames own) (trees_in kids)
each_own own no_kids h = All-nil (HasOwnNames own)
each_own own (kid t rest) h = let parts = or_parts _ _ h in All-cons (HasOwnNames own) t (trees_in rest) parts.0 (each_own own rest parts.1)

pub each_made : (kids : Forest) → AllWellMade kids → All WellMade (trees_in kids)
each_made no_kids h = All-nil WellMade
each_made (kid t rest) h = All-cons WellMade t (trees_in rest) h.0 (each_made rest h.1)

-- the first kid and the last, and `true` where there is none
pub ends_own : (own : List (List ℕ)) (kids : Forest) → any_has (has_other_name own) kids ≡ false → HasOwnNames own (first kids) × HasOwnNames own (last kids)
ends_own own no_kids h = (refl, refl)
ends_own own (kid t no_kids) h = let parts = or_parts _ _ h in (parts.0, parts.0)
ends_own own (kid t (kid u rest)) h = let parts = or_parts _ _ h in (parts.0, (ends_own own (kid u rest) parts.1).1)

true_made : WellMade (node True no_kids)
true_made = (record { kids_fit = refl; parts_fit = refl }, tt)

pub ends_made : (kids : Forest) → AllWellMade kids → WellMade (first kids) × WellMade (last kids)
ends_made no_kids h = (true_made, true_made)
ends_made (kid t no_kids) h = (h.0, h.0)
ends_made (kid t (kid u rest)) h = (h.0, (ends_made (kid u rest) h.1).1)
