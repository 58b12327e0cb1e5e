-- The names of the library: each has a row there, and none as an atom.
use Rattle.std.proofs.Common.{◌≡◌, ℕ, Bool, true, false, List, [], ◌∷◌, Option, Some, None, ◌⊎◌, inl, inr, refl, ap, subst, ◌∙◌}
use Rattle.std.specs.Prelude.{bytes_eq, codes, ◌||◌}
use Rattle.std.proofs.lemmas.Slice.Eq.{bytes_eq-Decides}
use Rattle.dlk_tacsyn.specs.declared.kind.Kind.TheVariants.{FixedPlace, QuotedFormula, QuotedTerm, AName}
use Rattle.dlk_tacsyn.specs.Tactics.{Atom}
use Rattle.dlk_tacsyn.specs.Rows.{Row, wants, row_of, library_row_of, derive_row_of, IsFitting, IsDerivation, IsRun, IsOfText, AreOfKinds}
use Rattle.dlk_tacsyn.proofs.Words.{library_none, derive_found}

pub data IsLibraryName (name : List ℕ) : Type 0 where
  is_prop : name ≡ codes "prop" → IsLibraryName name
  is_weakening : name ≡ codes "dW" → IsLibraryName name
  is_invariant : name ≡ codes "dI" → IsLibraryName name
  is_step : name ≡ codes "step" → IsLibraryName name
  is_loop : name ≡ codes "loop" → IsLibraryName name
  is_cut : name ≡ codes "dC" → IsLibraryName name
  is_ghost : name ≡ codes "dG" → IsLibraryName name

tested : (a b : List ℕ) → (bytes_eq a b ≡ false) ⊎ (a ≡ b)
tested a b = by (bytes_eq a b) refl
  where
    by : (t : Bool) → bytes_eq a b ≡ t → (bytes_eq a b ≡ false) ⊎ (a ≡ b)
    by true e = inr ((bytes_eq-Decides a b).0 e)
    by false e = inl e

no_name : (name : List ℕ) → bytes_eq name (codes "prop") ≡ false → bytes_eq name (codes "dW") ≡ false → bytes_eq name (codes "dI") ≡ false →
    bytes_eq name (codes "step") ≡ false → bytes_eq name (codes "loop") ≡ false → bytes_eq name (codes "dC") ≡ false →
    bytes_eq name (codes "dG") ≡ false → library_row_of name ≡ None
no_name name p w v s l c g = library_none name p (λ i. (w i || v i) || s i) (λ i. l i || c i) g

-- a name is one of the library, or has no row there
pub library_name : (name : List ℕ) → (library_row_of name ≡ None) ⊎ IsLibraryName name
library_name name = elim (tested name (codes "prop")) [
  | inr e ↦ inr (is_prop e)
  | inl p ↦ elim (tested name (codes "dW")) [
    | inr e ↦ inr (is_weakening e)
    | inl w ↦ elim (tested name (codes "dI")) [
      | inr e ↦ inr (is_invariant e)
      | inl i ↦ elim (tested name (codes "step")) [
        | inr e ↦ inr (is_step e)
        | inl s ↦ elim (tested name (codes "loop")) [
          | inr e ↦ inr (is_loop e)
          | inl l ↦ elim (tested name (codes "dC")) [
            | inr e ↦ inr (is_cut e)
            | inl c ↦ elim (tested name (codes "dG")) [
              | inr e ↦ inr (is_ghost e)
              | inl g ↦ inl (no_name name p w i s l c g)
            ]
          ]
        ]
      ]
    ]
  ]
]

-- the rows of names
pub prop_row : library_row_of (codes "prop") ≡ Some (wants [])
unfolding library_row_of
prop_row = refl

pub weakening_row : library_row_of (codes "dW") ≡ Some (wants (FixedPlace ∷ []))
unfolding library_row_of
weakening_row = refl

pub invariant_row : library_row_of (codes "dI") ≡ Some (wants (FixedPlace ∷ []))
unfolding library_row_of
invariant_row = refl

pub step_row : library_row_of (codes "step") ≡ Some (wants (FixedPlace ∷ []))
unfolding library_row_of
step_row = refl

pub loop_row : library_row_of (codes "loop") ≡ Some (wants (QuotedFormula ∷ FixedPlace ∷ []))
unfolding library_row_of
loop_row = refl

pub cut_row : library_row_of (codes "dC") ≡ Some (wants (QuotedFormula ∷ FixedPlace ∷ []))
unfolding library_row_of
cut_row = refl

pub ghost_row : library_row_of (codes "dG") ≡ Some (wants (AName ∷ QuotedTerm ∷ QuotedTerm ∷ FixedPlace ∷ []))
unfolding library_row_of
ghost_row = refl

-- which no atom has
prop_own : row_of (codes "prop") ≡ None
unfolding row_of
prop_own = refl

weakening_own : row_of (codes "dW") ≡ None
unfolding row_of
weakening_own = refl

invariant_own : row_of (codes "dI") ≡ None
unfolding row_of
invariant_own = refl

step_own : row_of (codes "step") ≡ None
unfolding row_of
step_own = refl

loop_own : row_of (codes "loop") ≡ None
unfolding row_of
loop_own = refl

cut_own : row_of (codes "dC") ≡ None
unfolding row_of
cut_own = refl

ghost_own : row_of (codes "dG") ≡ None
unfolding row_of
ghost_own = refl

pub library_own : (name : List ℕ) → IsLibraryName name → row_of name ≡ None
library_own name (is_prop e) = ap row_of e ∙ prop_own
library_own name (is_weakening e) = ap row_of e ∙ weakening_own
library_own name (is_invariant e) = ap row_of e ∙ invariant_own
library_own name (is_step e) = ap row_of e ∙ step_own
library_own name (is_loop e) = ap row_of e ∙ loop_own
library_own name (is_cut e) = ap row_of e ∙ cut_own
library_own name (is_ghost e) = ap row_of e ∙ ghost_own

none_some : {A : Type 0} (o : Option A) (a : A) → o ≡ None → o ≡ Some a → ⊥
none_some o a none some = cc

some_same : {A : Type 0} (o : Option A) (a b : A) → o ≡ Some a → o ≡ Some b → a ≡ b
some_same o a b e d = cc

-- one name has the row of `derive`
pub derive_name : (name : List ℕ) (row : Row) → derive_row_of name ≡ Some row → name ≡ codes "derive"
derive_name name row is = (bytes_eq-Decides name (codes "derive")).0 (derive_found name row is).0

pub derive_own : library_row_of (codes "derive") ≡ None
unfolding library_row_of
derive_own = refl

-- and it isn't in the library
pub derivation_own : (atom : Atom) → IsDerivation atom → library_row_of atom.name ≡ None
derivation_own atom h = ap library_row_of (derive_name atom.name h.row h.row_is) ∙ derive_own

-- an atom of a text is one that a run meets where its name isn't in the library
pub run_outside : (atom : Atom) → IsOfText atom → library_row_of atom.name ≡ None → IsRun atom
run_outside atom (inl fits) none = inl fits
run_outside atom (inr (inl call)) none = absurd (none_some (library_row_of atom.name) call.row none call.row_is)
run_outside atom (inr (inr derivation)) none = inr derivation

-- the arguments of a name of the library are of its row
pub call_kinds : (atom : Atom) (row : Row) → IsLibraryName atom.name → library_row_of atom.name ≡ Some row → IsOfText atom →
    AreOfKinds row.wanted row.optional atom.arguments
call_kinds atom row is row_is (inl fits) = absurd (none_some (row_of atom.name) fits.row (library_own atom.name is) fits.row_is)
call_kinds atom row is row_is (inr (inr derivation)) = absurd (none_some (library_row_of atom.name) row (derivation_own atom derivation) row_is)
call_kinds atom row is row_is (inr (inl call)) =
    let same = some_same (library_row_of atom.name) call.row row call.row_is row_is in
    subst (λ (r : Row). AreOfKinds r.wanted r.optional atom.arguments) same call.arguments

-- what is some row is not none
pub has_row : (name : List ℕ) (row : Row) → library_row_of name ≡ Some row → library_row_of name ≡ None → ⊥
has_row name row some none = none_some (library_row_of name) row none some
