-- A strategy whose atoms are those of a text becomes one.
use Rattle.std.proofs.Common.{◌≡◌, ℕ, List, [], ◌∷◌, None, inl, inr, refl, ap, ◌∙◌}
use Rattle.dlk_tree.specs.Trees.{Tree}
use Rattle.dlk_tacsyn.specs.declared.kind.Kind.TheVariants.{FixedPlace, QuotedFormula, QuotedTerm, AName}
use Rattle.dlk_tacsyn.specs.Tactics.{Argument, Word, GivenFormula, GivenTerm, Atom}
use Rattle.dlk_tacsyn.specs.Tactics.{Tactic, Tactics, Choice, Sequence, Branch, Repeat, One, no_parts, part, EachAtomOf}
use Rattle.dlk_tacsyn.specs.Rows.{wants, library_row_of, IsOfText, AreOfText, IsOfKind, AreOfKinds}
use Rattle.dlk_library.specs.Library.{loop_of, weakening_of, cut_of, invariant_of, ghost_of, step_of, propositional_of}
use Rattle.dlk_library.specs.Library.{Expands, by_loop, by_weakening, by_cut, by_invariant, by_ghost, by_step, by_connectives}
use Rattle.dlk_library.specs.Expanded.{Expansion, stands_for, itself, Expanded, AllExpanded}
use Rattle.dlk_library.proofs.Names.{IsLibraryName, is_prop, is_weakening, is_invariant, is_step, is_loop, is_cut, is_ghost, library_name, call_kinds}
use Rattle.dlk_library.proofs.Names.{prop_row, weakening_row, invariant_row, step_row, loop_row, cut_row, ghost_row}

-- The arguments of a row, taken apart.
a_formula : (a : Argument) → IsOfKind QuotedFormula a → (h : Tree) × (a ≡ GivenFormula h)
a_formula (GivenFormula h) is = (h, refl)
a_formula _ is = absurd is

a_term : (a : Argument) → IsOfKind QuotedTerm a → (e : Tree) × (a ≡ GivenTerm e)
a_term (GivenTerm e) is = (e, refl)
a_term _ is = absurd is

a_word : (a : Argument) → IsOfKind AName a → (name : List ℕ) × (a ≡ Word name)
a_word (Word name) is = (name, refl)
a_word _ is = absurd is

pub none_are : (args : List Argument) → AreOfKinds [] None args → args ≡ []
none_are [] h = refl
none_are (a ∷ rest) h = absurd h

place_is : (args : List Argument) → AreOfKinds (FixedPlace ∷ []) None args → (p : Argument) × (args ≡ p ∷ [])
place_is [] h = absurd h
place_is (p ∷ rest) h = (p, ap (λ xs. p ∷ xs) (none_are rest h.1))

formula_is : (args : List Argument) → AreOfKinds (QuotedFormula ∷ FixedPlace ∷ []) None args → (h : Tree) × (p : Argument) × (args ≡ GivenFormula h ∷ p ∷ [])
formula_is [] h = absurd h
formula_is (a ∷ rest) h =
    let f = a_formula a h.0 in
    let p = place_is rest h.1 in
    let same : a ∷ rest ≡ GivenFormula f.0 ∷ p.0 ∷ [] = ap (λ x. x ∷ rest) f.1 ∙ ap (λ xs. GivenFormula f.0 ∷ xs) p.1 in
    (f.0, p.0, same)

term_is : (args : List Argument) → AreOfKinds (QuotedTerm ∷ FixedPlace ∷ []) None args → (e : Tree) × (p : Argument) × (args ≡ GivenTerm e ∷ p ∷ [])
term_is [] h = absurd h
term_is (a ∷ rest) h =
    let e = a_term a h.0 in
    let p = place_is rest h.1 in
    let same : a ∷ rest ≡ GivenTerm e.0 ∷ p.0 ∷ [] = ap (λ x. x ∷ rest) e.1 ∙ ap (λ xs. GivenTerm e.0 ∷ xs) p.1 in
    (e.0, p.0, same)

terms_are : (args : List Argument) → AreOfKinds (QuotedTerm ∷ QuotedTerm ∷ FixedPlace ∷ []) None args →
    (d e : Tree) × (p : Argument) × (args ≡ GivenTerm d ∷ GivenTerm e ∷ p ∷ [])
terms_are [] h = absurd h
terms_are (a ∷ rest) h =
    let d = a_term a h.0 in
    let e = term_is rest h.1 in
    let same : a ∷ rest ≡ GivenTerm d.0 ∷ GivenTerm e.0 ∷ e.1 ∷ [] = ap (λ x. x ∷ rest) d.1 ∙ ap (λ xs. GivenTerm d.0 ∷ xs) e.2 in
    (d.0, e.0, e.1, same)

word_is : (args : List Argument) → AreOfKinds (AName ∷ QuotedTerm ∷ QuotedTerm ∷ FixedPlace ∷ []) None args →
    (y : List ℕ) × (d : Tree) × (e : Tree) × (p : Argument) × (args ≡ Word y ∷ GivenTerm d ∷ GivenTerm e ∷ p ∷ [])
word_is [] h = absurd h
word_is (a ∷ rest) h =
    let y = a_word a h.0 in
    let t = terms_are rest h.1 in
    let same : a ∷ rest ≡ Word y.0 ∷ GivenTerm t.0 ∷ GivenTerm t.1 ∷ t.2 ∷ [] = ap (λ x. x ∷ rest) y.1 ∙ ap (λ xs. Word y.0 ∷ xs) t.3 in
    (y.0, t.0, t.1, t.2, same)

module _ (atom : Atom) (text : IsOfText atom) where
  -- a name of the library stands for a strategy
  by_name : IsLibraryName atom.name → (t : Tactic) × Expands atom t
  by_name (is_prop e) =
      let none = none_are atom.arguments (call_kinds atom (wants []) (is_prop e) (ap library_row_of e ∙ prop_row) text) in
      (propositional_of atom.at, by_connectives e none)
  by_name (is_weakening e) =
      let p = place_is atom.arguments (call_kinds atom (wants (FixedPlace ∷ [])) (is_weakening e) (ap library_row_of e ∙ weakening_row) text) in
      (weakening_of atom.at p.0, by_weakening p.0 e p.1)
  by_name (is_invariant e) =
      let p = place_is atom.arguments (call_kinds atom (wants (FixedPlace ∷ [])) (is_invariant e) (ap library_row_of e ∙ invariant_row) text) in
      (invariant_of atom.at p.0, by_invariant p.0 e p.1)
  by_name (is_step e) =
      let p = place_is atom.arguments (call_kinds atom (wants (FixedPlace ∷ [])) (is_step e) (ap library_row_of e ∙ step_row) text) in
      (step_of atom.at p.0, by_step p.0 e p.1)
  by_name (is_loop e) =
      let f = formula_is atom.arguments (call_kinds atom (wants (QuotedFormula ∷ FixedPlace ∷ [])) (is_loop e) (ap library_row_of e ∙ loop_row) text) in
      (loop_of atom.at f.0 f.1, by_loop f.0 f.1 e f.2)
  by_name (is_cut e) =
      let f = formula_is atom.arguments (call_kinds atom (wants (QuotedFormula ∷ FixedPlace ∷ [])) (is_cut e) (ap library_row_of e ∙ cut_row) text) in
      (cut_of atom.at f.0 f.1, by_cut f.0 f.1 e f.2)
  by_name (is_ghost e) =
      let row = wants (AName ∷ QuotedTerm ∷ QuotedTerm ∷ FixedPlace ∷ []) in
      let y = word_is atom.arguments (call_kinds atom row (is_ghost e) (ap library_row_of e ∙ ghost_row) text) in
      (ghost_of atom.at y.0 y.1 y.2 y.3, by_ghost y.0 y.1 y.2 y.3 e y.4)

  some_atom : (t : Tactic) × Expansion atom t
  some_atom = elim (library_name atom.name) [
    | inl none ↦ (One atom, itself none)
    | inr is ↦ let t = by_name is in (t.0, stands_for t.1)
  ]

mutual
  pub some_become : (t : Tactic) → AreOfText t → (u : Tactic) × Expanded t u
  some_become (Choice parts) h = let new = somes_become parts h in (Choice new.0, (new.0, new.1, refl))
  some_become (Sequence parts) h = let new = somes_become parts h in (Sequence new.0, (new.0, new.1, refl))
  some_become (Branch byte parts) h = let new = somes_become parts h in (Branch byte new.0, (new.0, new.1, refl))
  some_become (Repeat body times) h = let new = some_become body h in (Repeat new.0 times, (new.0, new.1, refl))
  some_become (One atom) h = some_atom atom h

  somes_become : (ts : Tactics) → EachAtomOf IsOfText ts → (us : Tactics) × AllExpanded ts us
  somes_become no_parts h = (no_parts, tt)
  somes_become (part t ts) h =
      let u = some_become t h.0 in
      let us = somes_become ts h.1 in
      (part u.0 us.0, (u.1, us.1))
