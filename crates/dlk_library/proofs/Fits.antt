-- What a strategy becomes has fitting atoms and `derive` alone.
use Rattle.std.proofs.Common.{◌≡◌, ℕ, List, [], ◌∷◌, None, Some, inl, refl, sym, ap, subst, ◌∙◌}
use Rattle.std.specs.Prelude.{codes}
use Rattle.std.proofs.lemmas.List.Elements.{All-nil, All-cons}
use Rattle.dlk_tree.specs.declared.op.Kind.TheVariants.{UnitPred}
use Rattle.dlk_tree.specs.Trees.{Tree, WellMade}
use Rattle.dlk_calculus.specs.Pairs.{Pair, Extra, AreWellMade}
use Rattle.dlk_calculus.specs.Sequents.{IsFormula}
use Rattle.dlk_tacsyn.specs.declared.kind.Kind.TheVariants.{FixedPlace, AnyPlace, QuotedFormula, QuotedTerm, AName, QuotedExtra}
use Rattle.dlk_tacsyn.specs.Tactics.{Argument, AtPlace, AnyLeft, AnyRight, GivenFormula, Atom}
use Rattle.dlk_tacsyn.specs.Tactics.{Tactic, Tactics, Choice, Sequence, Branch, Repeat, One, no_parts, part, EachAtomOf}
use Rattle.dlk_tacsyn.specs.Rows.{Row, wants, row_of, library_row_of}
use Rattle.dlk_tacsyn.specs.Rows.{IsFitting, AreFitting, IsRun, AreRun, IsOfText, AreOfText, IsOfKind, AreOfKinds}
use Rattle.dlk_library.specs.Parts.{nothing, rule_at, imply_first, use_at, use_with, generalized, for_r, all_but, for_ghost, atom as atom_of}
use Rattle.dlk_library.specs.Library.{base_and_step, loop_of, cut_of, invariant_of, ghost_of, step_of, connective}
use Rattle.dlk_library.specs.Library.{Expands, by_loop, by_weakening, by_cut, by_invariant, by_ghost, by_step, by_connectives}
use Rattle.dlk_library.specs.Expanded.{Expansion, stands_for, itself, Expanded, AllExpanded}
use Rattle.dlk_library.proofs.Names.{IsLibraryName, is_weakening, is_invariant, is_step, is_loop, is_cut, is_ghost, call_kinds, run_outside}
use Rattle.dlk_library.proofs.Names.{weakening_row, invariant_row, step_row, loop_row, cut_row, ghost_row}

any_place : (p : Argument) → IsOfKind FixedPlace p → IsOfKind AnyPlace p
any_place (AtPlace place path) h = tt
any_place _ h = absurd h

-- The rows of atoms.
nil_row : row_of (codes "nil") ≡ Some (wants [])
unfolding row_of
nil_row = refl

close_row : row_of (codes "close") ≡ Some (wants [])
unfolding row_of
close_row = refl

use_row : row_of (codes "useAt") ≡ Some (record { wanted = AName ∷ AnyPlace ∷ []; optional = Some QuotedExtra })
unfolding row_of
use_row = refl

box_row : row_of (codes "boxCut") ≡ Some (wants (QuotedFormula ∷ AnyPlace ∷ []))
unfolding row_of
box_row = refl

cut_right_row : row_of (codes "cutR") ≡ Some (wants (QuotedFormula ∷ AnyPlace ∷ []))
unfolding row_of
cut_right_row = refl

generalize_row : row_of (codes "G") ≡ Some (wants (AnyPlace ∷ []))
unfolding row_of
generalize_row = refl

imply_right_row : row_of (codes "implyR") ≡ Some (wants (AnyPlace ∷ []))
unfolding row_of
imply_right_row = refl

-- The parts are fitting.
module _ (at : ℕ) where
  fit_nothing : AreFitting (nothing at)
  fit_nothing = record { row = wants []; row_is = nil_row; arguments = tt }

  fit_close : AreFitting (atom_of at (codes "close") [])
  fit_close = record { row = wants []; row_is = close_row; arguments = tt }

  fit_rule : (name : List ℕ) (p : Argument) → row_of name ≡ Some (wants (AnyPlace ∷ [])) → IsOfKind AnyPlace p → AreFitting (rule_at at name p)
  fit_rule name p row h = record { row = wants (AnyPlace ∷ []); row_is = row; arguments = (h, tt) }

  fit_with_formula : (name : List ℕ) (j : Tree) (p : Argument) → row_of name ≡ Some (wants (QuotedFormula ∷ AnyPlace ∷ [])) → IsFormula j →
      IsOfKind AnyPlace p → AreFitting (atom_of at name (GivenFormula j ∷ p ∷ []))
  fit_with_formula name j p row f h = record { row = wants (QuotedFormula ∷ AnyPlace ∷ []); row_is = row; arguments = (f, (h, tt)) }

  fit_use : (name : List ℕ) (p : Argument) → IsOfKind AnyPlace p → AreFitting (use_at at name p)
  fit_use name p h = record { row = _; row_is = use_row; arguments = (tt, (h, tt)) }

  fit_use_with : (name : List ℕ) (p : Argument) (extra : Extra) → IsOfKind AnyPlace p → AreWellMade extra.pairs → AreFitting (use_with at name p extra)
  fit_use_with name p extra h made = record { row = _; row_is = use_row; arguments = (tt, (h, (made, tt))) }

  fit_imply_first : AreFitting (imply_first at)
  fit_imply_first = fit_rule (codes "implyR") _ imply_right_row tt

  fit_generalized : (name : List ℕ) (p : Argument) → IsOfKind AnyPlace p → AreFitting (generalized at name p)
  fit_generalized name p h = (fit_use name p h, (fit_rule (codes "G") p generalize_row h, (fit_imply_first, tt)))

  fit_base_and_step : (j : Tree) (p : Argument) → IsFormula j → IsOfKind AnyPlace p → AreFitting (base_and_step at j p)
  fit_base_and_step j p f h =
      (fit_with_formula (codes "cutR") j p cut_right_row f h, ((fit_nothing, (fit_generalized (codes "I") p h, tt)), tt))

  fit_loop : (j : Tree) (p : Argument) → IsFormula j → IsOfKind AnyPlace p → AreFitting (loop_of at j p)
  fit_loop j p f h = (fit_with_formula (codes "boxCut") j p box_row f h, ((fit_base_and_step j p f h, (fit_nothing, tt)), tt))

  made_pair : (p : Pair) → WellMade p.by → AreWellMade (p ∷ [])
  made_pair p h = All-cons (λ (q : Pair). WellMade q.by) p [] h (All-nil (λ (q : Pair). WellMade q.by))

  fit_cut : (r : Tree) (p : Argument) → WellMade r → IsOfKind AnyPlace p → AreFitting (cut_of at r p)
  fit_cut r p made h =
      let pair : Pair = record { sym = record { kind = UnitPred; name = codes "r"; arity = 0; taboo = None }; by = r } in
      fit_use_with (codes "DC") p (for_r r) h (made_pair pair made)

  fit_ghost : (y : List ℕ) (e d : Tree) (p : Argument) → WellMade e → WellMade d → IsOfKind AnyPlace p → AreFitting (ghost_of at y e d p)
  fit_ghost y e d p a b h =
      let first : Pair = record { sym = all_but (codes "a") y; by = e } in
      let second : Pair = record { sym = all_but (codes "b") y; by = d } in
      fit_use_with (codes "DG") p (for_ghost y e d) h (All-cons (λ (q : Pair). WellMade q.by) first (second ∷ []) a (made_pair second b))

  fit_invariant : (p : Argument) → IsOfKind AnyPlace p → AreFitting (invariant_of at p)
  fit_invariant p h =
      let imply = fit_rule (codes "implyR") p imply_right_row h in
      (fit_use (codes "DI") p h, (((fit_use (codes "testb") p h, (imply, tt)), (imply, tt)), tt))

  fit_step : (p : Argument) → IsOfKind AnyPlace p → AreFitting (step_of at p)
  fit_step p h =
      (fit_use _ p h, (fit_use _ p h, (fit_use _ p h, (fit_use _ p h, (fit_use _ p h, (fit_use _ p h, (fit_use _ p h, (fit_use _ p h, tt))))))))

  fit_connective : AreFitting (connective at)
  unfolding row_of
  fit_connective = (
    fit_close,
    (
      fit_rule (codes "closeTrue") AnyRight refl tt,
      (
        fit_rule (codes "closeFalse") AnyLeft refl tt,
        (
          fit_rule (codes "notL") AnyLeft refl tt,
          (
            fit_rule (codes "notR") AnyRight refl tt,
            (
              fit_rule (codes "andL") AnyLeft refl tt,
              (
                fit_rule (codes "orR") AnyRight refl tt,
                (
                  fit_rule (codes "implyR") AnyRight refl tt,
                  (
                    fit_rule (codes "equivL") AnyLeft refl tt,
                    (
                      fit_rule (codes "andR") AnyRight refl tt,
                      (
                        fit_rule (codes "orL") AnyLeft refl tt,
                        (
                          fit_rule (codes "implyL") AnyLeft refl tt,
                          (fit_rule (codes "equivR") AnyRight refl tt, tt),
                        ),
                      ),
                    ),
                  ),
                ),
              ),
            ),
          ),
        ),
      ),
    ),
  )

-- fitting atoms are atoms that a run meets
mutual
  each_run : (t : Tactic) → AreFitting t → AreRun t
  each_run (Choice parts) h = all_run parts h
  each_run (Sequence parts) h = all_run parts h
  each_run (Branch byte parts) h = all_run parts h
  each_run (Repeat body times) h = each_run body h
  each_run (One atom) h = inl h

  all_run : (ts : Tactics) → EachAtomOf IsFitting ts → EachAtomOf IsRun ts
  all_run no_parts h = tt
  all_run (part t rest) h = (each_run t h.0, all_run rest h.1)

-- what an atom stands for
module _ (atom : Atom) (text : IsOfText atom) where
  of_row : (row : Row) (args : List Argument) → IsLibraryName atom.name → library_row_of atom.name ≡ Some row → atom.arguments ≡ args →
      AreOfKinds row.wanted row.optional args
  of_row row args is row_is e = subst (AreOfKinds row.wanted row.optional) e (call_kinds atom row is row_is text)

  expands_fits : (t : Tactic) → Expands atom t → AreFitting t
  expands_fits _ (by_loop j p n a) =
      let kinds = of_row (wants (QuotedFormula ∷ FixedPlace ∷ [])) _ (is_loop n) (ap library_row_of n ∙ loop_row) a in
      fit_loop atom.at j p kinds.0 (any_place p kinds.1.0)
  expands_fits _ (by_weakening p n a) =
      let kinds = of_row (wants (FixedPlace ∷ [])) _ (is_weakening n) (ap library_row_of n ∙ weakening_row) a in
      fit_generalized atom.at (codes "DWeq") p (any_place p kinds.0)
  expands_fits _ (by_cut r p n a) =
      let kinds = of_row (wants (QuotedFormula ∷ FixedPlace ∷ [])) _ (is_cut n) (ap library_row_of n ∙ cut_row) a in
      fit_cut atom.at r p kinds.0.well_made (any_place p kinds.1.0)
  expands_fits _ (by_invariant p n a) =
      let kinds = of_row (wants (FixedPlace ∷ [])) _ (is_invariant n) (ap library_row_of n ∙ invariant_row) a in
      fit_invariant atom.at p (any_place p kinds.0)
  expands_fits _ (by_ghost y e d p n a) =
      let kinds = of_row (wants (AName ∷ QuotedTerm ∷ QuotedTerm ∷ FixedPlace ∷ [])) _ (is_ghost n) (ap library_row_of n ∙ ghost_row) a in
      fit_ghost atom.at y e d p kinds.1.0 kinds.1.1.0 (any_place p kinds.1.1.1.0)
  expands_fits _ (by_step p n a) =
      let kinds = of_row (wants (FixedPlace ∷ [])) _ (is_step n) (ap library_row_of n ∙ step_row) a in
      fit_step atom.at p (any_place p kinds.0)
  expands_fits _ (by_connectives n a) = fit_connective atom.at

  expansion_fits : (t : Tactic) → Expansion atom t → AreRun t
  expansion_fits t (stands_for is) = each_run t (expands_fits t is)
  expansion_fits _ (itself none) = run_outside atom text none

mutual
  pub become_fits : (t u : Tactic) → AreOfText t → Expanded t u → AreRun u
  become_fits (Choice parts) u h is = subst AreRun (sym is.2) (all_fit parts is.0 h is.1)
  become_fits (Sequence parts) u h is = subst AreRun (sym is.2) (all_fit parts is.0 h is.1)
  become_fits (Branch byte parts) u h is = subst AreRun (sym is.2) (all_fit parts is.0 h is.1)
  become_fits (Repeat body times) u h is = subst AreRun (sym is.2) (become_fits body is.0 h is.1)
  become_fits (One atom) u h is = expansion_fits atom h u is

  all_fit : (ts us : Tactics) → EachAtomOf IsOfText ts → AllExpanded ts us → EachAtomOf IsRun us
  all_fit no_parts no_parts h is = tt
  all_fit no_parts (part u us) h is = absurd is
  all_fit (part t ts) no_parts h is = absurd is
  all_fit (part t ts) (part u us) h is = (become_fits t u h.0 is.0, all_fit ts us h.1 is.1)
