-- Names of the library over ids, by their arguments.
use Rattle.std.proofs.Common.{◌≡◌, ◌≢◌, ℕ, true, false, List, [], ◌∷◌, map, None, Some, inl, inr, refl, ap, ◌∙◌}
use Rattle.std.specs.Prelude.{bytes_eq, codes, ◌||◌}
use Rattle.std.proofs.lemmas.Bool.{or_cases, false_from_ne_true}
use Rattle.std.proofs.lemmas.Slice.Eq.{bytes_eq-Decides}
use Rattle.dlk_tree.specs.Trees.{Tree}
use Rattle.dlk_store.specs.declared.Id.{Id}
use Rattle.dlk_tacsyn.specs.declared.kind.Kind.TheVariants.{FixedPlace, QuotedFormula, QuotedTerm, AName}
use Rattle.dlk_tacsyn.specs.declared.tactic.Arg.{Arg}
use Rattle.dlk_tacsyn.specs.declared.tactic.Arg.TheVariants as arg
use Rattle.dlk_tacsyn.specs.declared.tactic.Atom.{Atom}
use Rattle.dlk_tacsyn.specs.Rows.{Row, wants, is_at_place, is_with_formula, library_row_of, IsOfText, IsOfKind, AreOfKinds}
use Rattle.dlk_tacsyn.specs.Ties.{argument_at, atom_at}
use Rattle.dlk_tacsyn.proofs.Words.{library_none}
use Rattle.dlk_library.proofs.Names.{IsLibraryName, is_prop, is_weakening, is_invariant, is_step, is_loop, is_cut, is_ghost, call_kinds}
use Rattle.dlk_library.proofs.Names.{prop_row, weakening_row, invariant_row, step_row, loop_row, cut_row, ghost_row}
use Rattle.dlk_library.proofs.SomeExpansion.{none_are}

-- a name of this row
record HasRow (name : List ℕ) (row : Row) : Type 0 where
  is : IsLibraryName name
  row_is : library_row_of name ≡ Some row

same : (a b : List ℕ) → bytes_eq a b ≡ true → a ≡ b
same a b e = (bytes_eq-Decides a b).0 e

at_place_row : (name : List ℕ) → is_at_place name ≡ true → HasRow name (wants (FixedPlace ∷ []))
at_place_row name h = elim (or_cases (bytes_eq name (codes "dW") || bytes_eq name (codes "dI")) (bytes_eq name (codes "step")) h) [
  | inl other ↦ elim (or_cases (bytes_eq name (codes "dW")) (bytes_eq name (codes "dI")) other) [
    | inl e ↦ let n = same name (codes "dW") e in record { is = is_weakening n; row_is = ap library_row_of n ∙ weakening_row }
    | inr e ↦ let n = same name (codes "dI") e in record { is = is_invariant n; row_is = ap library_row_of n ∙ invariant_row }
  ]
  | inr e ↦ let n = same name (codes "step") e in record { is = is_step n; row_is = ap library_row_of n ∙ step_row }
]

with_formula_row : (name : List ℕ) → is_with_formula name ≡ true → HasRow name (wants (QuotedFormula ∷ FixedPlace ∷ []))
with_formula_row name h = elim (or_cases (bytes_eq name (codes "loop")) (bytes_eq name (codes "dC")) h) [
  | inl e ↦ let n = same name (codes "loop") e in record { is = is_loop n; row_is = ap library_row_of n ∙ loop_row }
  | inr e ↦ let n = same name (codes "dC") e in record { is = is_cut n; row_is = ap library_row_of n ∙ cut_row }
]

module _ (trees : List Tree) where
  -- Arguments of a row, over ids.
  a_formula : (a : Arg) → IsOfKind QuotedFormula (argument_at trees a) → (h : Id) × (a ≡ arg.Formula h)
  a_formula (arg.Formula h) is = (h, refl)
  a_formula _ is = absurd is

  a_term : (a : Arg) → IsOfKind QuotedTerm (argument_at trees a) → (e : Id) × (a ≡ arg.Term e)
  a_term (arg.Term e) is = (e, refl)
  a_term _ is = absurd is

  a_word : (a : Arg) → IsOfKind AName (argument_at trees a) → (y : List ℕ) × (a ≡ arg.Word y)
  a_word (arg.Word y) is = (y, refl)
  a_word _ is = absurd is

  no_place : (args : List Arg) → ((p : Arg) → args ≢ p ∷ []) → AreOfKinds (FixedPlace ∷ []) None (map (argument_at trees) args) → ⊥
  no_place [] none h = h
  no_place (p ∷ []) none h = none p refl
  no_place (p ∷ q ∷ rest) none h = h.1

  no_formula : (args : List Arg) → ((f : Id) (p : Arg) → args ≢ arg.Formula f ∷ p ∷ []) →
      AreOfKinds (QuotedFormula ∷ FixedPlace ∷ []) None (map (argument_at trees) args) → ⊥
  no_formula [] none h = h
  no_formula (a ∷ []) none h = h.1
  no_formula (a ∷ p ∷ []) none h = let f = a_formula a h.0 in none f.0 p (ap (λ x. x ∷ p ∷ []) f.1)
  no_formula (a ∷ p ∷ q ∷ rest) none h = h.1.1

  no_ghost : (args : List Arg) → ((y : List ℕ) (d e : Id) (p : Arg) → args ≢ arg.Word y ∷ arg.Term d ∷ arg.Term e ∷ p ∷ []) →
      AreOfKinds (AName ∷ QuotedTerm ∷ QuotedTerm ∷ FixedPlace ∷ []) None (map (argument_at trees) args) → ⊥
  no_ghost [] none h = h
  no_ghost (a ∷ []) none h = h.1
  no_ghost (a ∷ b ∷ []) none h = h.1.1
  no_ghost (a ∷ b ∷ c ∷ []) none h = h.1.1.1
  no_ghost (a ∷ b ∷ c ∷ p ∷ []) none h =
      let y = a_word a h.0 in
      let d = a_term b h.1.0 in
      let e = a_term c h.1.1.0 in
      let first : a ∷ b ∷ c ∷ p ∷ [] ≡ arg.Word y.0 ∷ b ∷ c ∷ p ∷ [] = ap (λ x. x ∷ b ∷ c ∷ p ∷ []) y.1 in
      let second : arg.Word y.0 ∷ b ∷ c ∷ p ∷ [] ≡ arg.Word y.0 ∷ arg.Term d.0 ∷ c ∷ p ∷ [] = ap (λ x. arg.Word y.0 ∷ x ∷ c ∷ p ∷ []) d.1 in
      none y.0 d.0 e.0 p (first ∙ second ∙ ap (λ x. arg.Word y.0 ∷ arg.Term d.0 ∷ x ∷ p ∷ []) e.1)
  no_ghost (a ∷ b ∷ c ∷ p ∷ q ∷ rest) none h = h.1.1.1.1

  module _ (atom : Atom) (text : IsOfText (atom_at trees atom)) where
    kinds : (row : Row) → HasRow atom.name row → AreOfKinds row.wanted row.optional (map (argument_at trees) atom.args)
    kinds row has = call_kinds (atom_at trees atom) row has.is has.row_is text

    -- `prop` has no arguments
    pub prop_there : atom.name ≡ codes "prop" → map (argument_at trees) atom.args ≡ []
    prop_there n = none_are _ (kinds (wants []) (record { is = is_prop n; row_is = ap library_row_of n ∙ prop_row }))

    -- and `dG` has its own
    pub ghost_there : atom.name ≡ codes "dG" → ((y : List ℕ) (d e : Id) (p : Arg) → atom.args ≢ arg.Word y ∷ arg.Term d ∷ arg.Term e ∷ p ∷ []) → ⊥
    ghost_there n none =
        let row = wants (AName ∷ QuotedTerm ∷ QuotedTerm ∷ FixedPlace ∷ []) in
        no_ghost atom.args none (kinds row (record { is = is_ghost n; row_is = ap library_row_of n ∙ ghost_row }))

    not_at_place : ((p : Arg) → atom.args ≢ p ∷ []) → is_at_place atom.name ≡ false
    not_at_place none = false_from_ne_true _ (λ h. no_place atom.args none (kinds _ (at_place_row atom.name h)))

    not_with_formula : ((f : Id) (p : Arg) → atom.args ≢ arg.Formula f ∷ p ∷ []) → is_with_formula atom.name ≡ false
    not_with_formula none = false_from_ne_true _ (λ h. no_formula atom.args none (kinds _ (with_formula_row atom.name h)))

    module _ (no_prop : bytes_eq atom.name (codes "prop") ≡ false) (not_ghost : bytes_eq atom.name (codes "dG") ≡ false) where
      -- a name with a place alone that isn't one of those
      pub none_at_place : (p : Arg) → atom.args ≡ p ∷ [] → is_at_place atom.name ≡ false → library_row_of atom.name ≡ None
      none_at_place p are never =
          let other : (f : Id) (q : Arg) → atom.args ≢ arg.Formula f ∷ q ∷ [] = λ f q e. absurd (cc (are, e)) in
          library_none atom.name no_prop never (not_with_formula other) not_ghost

      -- with a formula and a place
      pub none_with_formula : ((p : Arg) → atom.args ≢ p ∷ []) → is_with_formula atom.name ≡ false → library_row_of atom.name ≡ None
      none_with_formula none never = library_none atom.name no_prop (not_at_place none) never not_ghost

      -- and with neither
      pub none_other : ((p : Arg) → atom.args ≢ p ∷ []) → ((f : Id) (p : Arg) → atom.args ≢ arg.Formula f ∷ p ∷ []) → library_row_of atom.name ≡ None
      none_other none other = none_with_formula none (not_with_formula other)
