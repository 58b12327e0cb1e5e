-- The shapes of the axioms' formulas, form by form.
use Rattle.std.proofs.Common.{◌≡◌, ℕ, List, [], ◌∷◌, Bool, true, false, ◌&&◌, cond, find, Some, refl, subst}
use Rattle.std.specs.Prelude.{IsTrue}
use Rattle.std.specs.List.{list_all}
use Rattle.std.specs.Str.{bytes_eq}
use Rattle.std.proofs.lemmas.Bool.{and_parts}
use Rattle.std.proofs.lemmas.Option.{none-some, same_Some}
use Rattle.dlk_tree.specs.declared.op.Op.TheVariants as Op'
use Rattle.dlk_tree.specs.Trees.{Tree, node, no_kids, kid}
use Rattle.dlk_calculus.specs.declared.form.AxiomForm.{AxiomForm}
use Rattle.dlk_calculus.specs.declared.form.AxiomForm.TheVariants.{E, Q, C, R, I, F}
use Rattle.dlk_calculus.specs.Axioms.{Axiom, axioms, axiom_named}
use Rattle.dlk_calculus.specs.Notation.{eq}
use Rattle.dlk_calculus.specs.Rules.{imply, equiv}
use Rattle.dlk_uses.specs.Uses.{left_of, right_of, HasShape}

-- an operator over two kids, as a test
abbrev is_equiv : Tree → Bool
is_equiv (node Op'.Equiv (kid l (kid r no_kids))) = true
is_equiv _ = false

abbrev is_imply : Tree → Bool
is_imply (node Op'.Imply (kid l (kid r no_kids))) = true
is_imply _ = false

abbrev is_eq : Tree → Bool
is_eq (node Op'.Eq (kid l (kid r no_kids))) = true
is_eq _ = false

equiv_is : (f : Tree) → IsTrue (is_equiv f) → f ≡ equiv (left_of f) (right_of f)
equiv_is (node Op'.Equiv (kid l (kid r no_kids))) h = refl
equiv_is _ h = absurd (cc h)

imply_is : (f : Tree) → IsTrue (is_imply f) → f ≡ imply (left_of f) (right_of f)
imply_is (node Op'.Imply (kid l (kid r no_kids))) h = refl
imply_is _ h = absurd (cc h)

eq_is : (f : Tree) → IsTrue (is_eq f) → f ≡ eq (left_of f) (right_of f)
eq_is (node Op'.Eq (kid l (kid r no_kids))) h = refl
eq_is _ h = absurd (cc h)

abbrev is_shaped : AxiomForm → Tree → Bool
is_shaped E f = is_equiv f
is_shaped Q f = is_eq f
is_shaped C f = is_imply f && is_equiv (right_of f)
is_shaped R f = is_imply f && is_eq (right_of f)
is_shaped I f = is_imply f
is_shaped F f = true

shape_of : (form : AxiomForm) (f : Tree) → IsTrue (is_shaped form f) → HasShape form f
shape_of E f h = equiv_is f h
shape_of Q f h = eq_is f h
shape_of C f h = let both = and_parts (is_imply f) (is_equiv (right_of f)) h in (imply_is f both.0, equiv_is (right_of f) both.1)
shape_of R f h = let both = and_parts (is_imply f) (is_eq (right_of f)) h in (imply_is f both.0, eq_is (right_of f) both.1)
shape_of I f h = imply_is f h
shape_of F f h = tt

-- what is found passes a test that all pass
pub found_passes : {A : Type 0} (passes test : A → Bool) (xs : List A) (x : A) → IsTrue (list_all passes xs) → find test xs ≡ Some x → IsTrue (passes x)
found_passes passes test [] x all e = absurd (none-some x e)
found_passes passes test (y ∷ xs) x all e =
    let both = and_parts (passes y) (list_all passes xs) all in go both.0 (λ h. found_passes passes test xs x both.1 h) (test y) e
  where
    go : IsTrue (passes y) → (find test xs ≡ Some x → IsTrue (passes x)) → (b : Bool) → cond b (Some y) (find test xs) ≡ Some x → IsTrue (passes x)
    go here rest true h = subst (λ z. IsTrue (passes z)) (same_Some y x h) here
    go here rest false h = rest h

pub axiom_shaped : (name : List ℕ) (a : Axiom) → axiom_named name ≡ Some a → HasShape a.form a.formula
axiom_shaped name a e =
    shape_of a.form a.formula (found_passes (λ (x : Axiom). is_shaped x.form x.formula) (λ (x : Axiom). bytes_eq x.name name) axioms a refl e)
