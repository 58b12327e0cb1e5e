-- What a strategy becomes has names that are names, where the strategy has.
use Rattle.std.proofs.Common.{◌≡◌, ℕ, List, [], ◌∷◌, None, true, refl, sym, subst}
use Rattle.std.specs.Prelude.{codes, IsTrue, All}
use Rattle.std.proofs.lemmas.List.Elements.{All-nil, All-cons, All-head, All-tail}
use Rattle.dlk_tree.specs.declared.op.Kind.TheVariants.{UnitPred}
use Rattle.dlk_tree.specs.Names.{is_name}
use Rattle.dlk_tree.specs.Table.{is_sym}
use Rattle.dlk_tree.specs.Trees.{Tree}
use Rattle.dlk_calculus.specs.Notation.{y_}
use Rattle.dlk_calculus.specs.Pairs.{Pair, Extra}
use Rattle.dlk_tacsyn.specs.Tactics.{Argument, AnyLeft, AnyRight, Word, GivenFormula, GivenTerm, GivenExtra, Atom}
use Rattle.dlk_tacsyn.specs.Tactics.{Tactic, Tactics, Choice, Sequence, Branch, Repeat, One, no_parts, part, EachAtom, EachAtomOf}
use Rattle.dlk_machine.specs.Symbols.{ReplacesSymbol}
use Rattle.dlk_tacsyn.specs.Rows.{IsRename, IsNamedExtra, IsNamed, HasNames}
use Rattle.dlk_library.specs.Parts.{nothing, rule_at, imply_first, use_at, use_with, generalized, for_r, all_but, for_ghost, atom as atom_of}
use Rattle.dlk_library.specs.Library.{base_and_step, loop_of, invariant_of, step_of, connective}
use Rattle.dlk_library.specs.Library.{Expands, by_loop, by_weakening, by_cut, by_invariant, by_ghost, by_step, by_connectives}
use Rattle.dlk_library.specs.Expanded.{Expansion, stands_for, itself, Expanded, AllExpanded}

abbrev AreNamed : Tactic → Type 0
AreNamed t = EachAtom HasNames t

no_names : All IsNamed []
no_names = All-nil IsNamed

a_name : (a : Argument) (rest : List Argument) → IsNamed a → All IsNamed rest → All IsNamed (a ∷ rest)
a_name a rest h k = All-cons IsNamed a rest h k

y_rename : (y : List ℕ) → IsTrue (is_name y) → All IsRename ((y_, y) ∷ [])
y_rename y h = All-cons IsRename (y_, y) [] (refl, h) (All-nil IsRename)

named_but : (name y : List ℕ) → is_name name ≡ true → is_name y ≡ true → is_sym (all_but name y) ≡ true
named_but name y n h = simp (n, h)

named_ghost : (y : List ℕ) (e d : Tree) → IsTrue (is_name y) → IsNamedExtra (for_ghost y e d)
named_ghost y e d h =
    let first : Pair = record { sym = all_but (codes "a") y; by = e } in
    let second : Pair = record { sym = all_but (codes "b") y; by = d } in
    let one : ReplacesSymbol first = named_but (codes "a") y refl h in
    let other : ReplacesSymbol second = named_but (codes "b") y refl h in
    let last = All-cons ReplacesSymbol second [] other (All-nil ReplacesSymbol) in
    (y_rename y h, All-cons ReplacesSymbol first (second ∷ []) one last)

named_r : (r : Tree) → IsNamedExtra (for_r r)
named_r r =
    let pair : Pair = record { sym = record { kind = UnitPred; name = codes "r"; arity = 0; taboo = None }; by = r } in
    (All-nil IsRename, All-cons ReplacesSymbol pair [] refl (All-nil ReplacesSymbol))

-- The parts have names.
module _ (at : ℕ) where
  named_nothing : AreNamed (nothing at)
  named_nothing = no_names

  named_rule : (name : List ℕ) (p : Argument) → IsNamed p → AreNamed (rule_at at name p)
  named_rule name p h = a_name p [] h no_names

  named_with_formula : (name : List ℕ) (j : Tree) (p : Argument) → IsNamed p → AreNamed (atom_of at name (GivenFormula j ∷ p ∷ []))
  named_with_formula name j p h = a_name (GivenFormula j) (p ∷ []) tt (a_name p [] h no_names)

  named_use : (name : List ℕ) (p : Argument) → IsTrue (is_name name) → IsNamed p → AreNamed (use_at at name p)
  named_use name p n h = a_name (Word name) (p ∷ []) n (a_name p [] h no_names)

  named_use_with : (name : List ℕ) (p : Argument) (extra : Extra) → IsTrue (is_name name) → IsNamed p → IsNamedExtra extra →
      AreNamed (use_with at name p extra)
  named_use_with name p extra n h x =
      a_name (Word name) (p ∷ GivenExtra extra ∷ []) n (a_name p (GivenExtra extra ∷ []) h (a_name (GivenExtra extra) [] x no_names))

  named_imply_first : AreNamed (imply_first at)
  named_imply_first = named_rule (codes "implyR") _ tt

  named_generalized : (name : List ℕ) (p : Argument) → IsTrue (is_name name) → IsNamed p → AreNamed (generalized at name p)
  named_generalized name p n h = (named_use name p n h, (named_rule (codes "G") p h, (named_imply_first, tt)))

  named_base_and_step : (j : Tree) (p : Argument) → IsNamed p → AreNamed (base_and_step at j p)
  named_base_and_step j p h = (named_with_formula (codes "cutR") j p h, ((named_nothing, (named_generalized (codes "I") p refl h, tt)), tt))

  named_loop : (j : Tree) (p : Argument) → IsNamed p → AreNamed (loop_of at j p)
  named_loop j p h = (named_with_formula (codes "boxCut") j p h, ((named_base_and_step j p h, (named_nothing, tt)), tt))

  named_invariant : (p : Argument) → IsNamed p → AreNamed (invariant_of at p)
  named_invariant p h =
      let imply = named_rule (codes "implyR") p h in
      (named_use (codes "DI") p refl h, (((named_use (codes "testb") p refl h, (imply, tt)), (imply, tt)), tt))

  named_step : (p : Argument) → IsNamed p → AreNamed (step_of at p)
  named_step p h = (
    named_use (codes "assignb") p refl h,
    (
      named_use (codes "dassignb") p refl h,
      (
        named_use (codes "assigneq") p refl h,
        (
          named_use (codes "testb") p refl h,
          (
            named_use (codes "choiceb") p refl h,
            (
              named_use (codes "composeb") p refl h,
              (
                named_use (codes "randomb") p refl h,
                (named_use (codes "diamond") p refl h, tt),
              ),
            ),
          ),
        ),
      ),
    ),
  )

  named_connective : AreNamed (connective at)
  named_connective = (
    no_names,
    (
      named_rule (codes "closeTrue") AnyRight tt,
      (
        named_rule (codes "closeFalse") AnyLeft tt,
        (
          named_rule (codes "notL") AnyLeft tt,
          (
            named_rule (codes "notR") AnyRight tt,
            (
              named_rule (codes "andL") AnyLeft tt,
              (
                named_rule (codes "orR") AnyRight tt,
                (
                  named_rule (codes "implyR") AnyRight tt,
                  (
                    named_rule (codes "equivL") AnyLeft tt,
                    (
                      named_rule (codes "andR") AnyRight tt,
                      (
                        named_rule (codes "orL") AnyLeft tt,
                        (
                          named_rule (codes "implyL") AnyLeft tt,
                          (named_rule (codes "equivR") AnyRight tt, tt),
                        ),
                      ),
                    ),
                  ),
                ),
              ),
            ),
          ),
        ),
      ),
    ),
  )

-- what an atom stands for
module _ (atom : Atom) (names : HasNames atom) where
  these : (args : List Argument) → atom.arguments ≡ args → All IsNamed args
  these args e = subst (All IsNamed) e names

  one_place : (p : Argument) → atom.arguments ≡ p ∷ [] → IsNamed p
  one_place p e = All-head IsNamed p [] (these (p ∷ []) e)

  second_place : (a p : Argument) → atom.arguments ≡ a ∷ p ∷ [] → IsNamed p
  second_place a p e = All-head IsNamed p [] (All-tail IsNamed a (p ∷ []) (these (a ∷ p ∷ []) e))

  expands_names : (t : Tactic) → Expands atom t → AreNamed t
  expands_names _ (by_loop j p n a) = named_loop atom.at j p (second_place (GivenFormula j) p a)
  expands_names _ (by_weakening p n a) = named_generalized atom.at (codes "DWeq") p refl (one_place p a)
  expands_names _ (by_cut r p n a) = named_use_with atom.at (codes "DC") p (for_r r) refl (second_place (GivenFormula r) p a) (named_r r)
  expands_names _ (by_invariant p n a) = named_invariant atom.at p (one_place p a)
  expands_names _ (by_ghost y e d p n a) =
      let all = these (Word y ∷ GivenTerm e ∷ GivenTerm d ∷ p ∷ []) a in
      let behind = All-tail IsNamed (GivenTerm e) (GivenTerm d ∷ p ∷ []) (All-tail IsNamed (Word y) (GivenTerm e ∷ GivenTerm d ∷ p ∷ []) all) in
      let place = All-head IsNamed p [] (All-tail IsNamed (GivenTerm d) (p ∷ []) behind) in
      let name = All-head IsNamed (Word y) (GivenTerm e ∷ GivenTerm d ∷ p ∷ []) all in
      named_use_with atom.at (codes "DG") p (for_ghost y e d) refl place (named_ghost y e d name)
  expands_names _ (by_step p n a) = named_step atom.at p (one_place p a)
  expands_names _ (by_connectives n a) = named_connective atom.at

  expansion_names : (t : Tactic) → Expansion atom t → AreNamed t
  expansion_names _ (stands_for is) = expands_names _ is
  expansion_names _ (itself none) = names

mutual
  pub become_named : (t u : Tactic) → EachAtom HasNames t → Expanded t u → EachAtom HasNames u
  become_named (Choice parts) u h is = subst AreNamed (sym is.2) (all_named parts is.0 h is.1)
  become_named (Sequence parts) u h is = subst AreNamed (sym is.2) (all_named parts is.0 h is.1)
  become_named (Branch byte parts) u h is = subst AreNamed (sym is.2) (all_named parts is.0 h is.1)
  become_named (Repeat body times) u h is = subst AreNamed (sym is.2) (become_named body is.0 h is.1)
  become_named (One atom) u h is = expansion_names atom h u is

  all_named : (ts us : Tactics) → EachAtomOf HasNames ts → AllExpanded ts us → EachAtomOf HasNames us
  all_named no_parts no_parts h is = tt
  all_named no_parts (part u us) h is = absurd is
  all_named (part t ts) no_parts h is = absurd is
  all_named (part t ts) (part u us) h is = (become_named t u h.0 is.0, all_named ts us h.1 is.1)
