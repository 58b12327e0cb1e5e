-- The steps of an atom are taken in turn, and what they replace are symbols.
use Rattle.std.proofs.Common.{◌≡◌, ℕ, ◌+◌, Bool, false, List, [], ◌∷◌, ◌++◌, length, Some, refl, sym, subst}
use Rattle.std.specs.List.{All}
use Rattle.std.proofs.lemmas.List.{append-nil, append_assoc}
use Rattle.std.proofs.lemmas.List.Elements.{All-nil, All-head, All-tail, All-append}
use Rattle.dlk_tree.specs.declared.op.Op.{Op}
use Rattle.dlk_tree.specs.Trees.{Tree, node, Forest, WellMade}
use Rattle.dlk_tree.specs.Occurs.{has, has_dots, is_some_dot}
use Rattle.dlk_calculus.specs.declared.form.AxiomForm.{AxiomForm}
use Rattle.dlk_calculus.specs.declared.form.AxiomForm.TheVariants.{E, Q, C, R, I, F}
use Rattle.dlk_calculus.specs.Axioms.{Axiom, axiom_named}
use Rattle.dlk_calculus.specs.Kids.{first, last}
use Rattle.dlk_calculus.specs.Pairs.{Extra}
use Rattle.dlk_calculus.specs.Paths.{subtree}
use Rattle.dlk_calculus.specs.Provables.{Provable, HasFormulas}
use Rattle.dlk_calculus.specs.Rules.{Close}
use Rattle.dlk_calculus.specs.Sequents.{Sequent, IsSequent}
use Rattle.dlk_calculus.specs.Steps.{Step, Leaf, Apply, Merge}
use Rattle.dlk_sequent.specs.declared.sequent.Place.{Place}
use Rattle.dlk_sequent.specs.declared.sequent.Place.TheVariants.{Ante, Succ}
use Rattle.dlk_kernel.specs.Taken.{Takes, none, more}
use Rattle.dlk_tacsyn.specs.Tactics.{Argument, AtPlace, Word, GivenExtra, Atom}
use Rattle.dlk_machine.specs.Symbols.{ReplacesSymbol}
use Rattle.dlk_tacsyn.specs.Rows.{IsRename, IsNamedExtra, IsNamed, HasNames}
use Rattle.dlk_match.specs.Matching.{Match}
use Rattle.dlk_match.specs.Instances.{AreNames}
use Rattle.dlk_uses.specs.Uses.{Direction, Use, left_of, right_of, side_of, Forwards, Backwards, key}
use Rattle.dlk_uses.proofs.Behind.{formula_there}
use Rattle.dlk_elab.specs.Atoms.{UseArguments, alone, with_extra, instance_of}
use Rattle.dlk_elab.specs.Atoms.{Asked, Steps, Instance, Asks, nil, close, leaf, a_rule, generalize, cut_box, use_axiom, AtomSteps, asked, uses}
use Rattle.dlk_elab.specs.Symbols.{ReplacesSymbols}
use Rattle.dlk_elab.proofs.AtomLaws.{same_instance}
use Rattle.dlk_elab.proofs.MergesFit.{goal_formulas}
use Rattle.dlk_elab.proofs.FormSymbols.{added, no_steps, leaf_symbols, apply_symbols, merge_symbols}
use Rattle.dlk_elab.proofs.FormSymbols.{instance_symbols, finishing_symbols, generalizing_symbols, cutting_symbols}

-- ---- taken in turn

-- steps that are taken behind others are taken with them
pub taken_behind : (rows between after : List Provable) (before steps : List Step) → Takes rows before between → Takes between steps after →
    Takes rows (before ++ steps) after
taken_behind rows between _ before _ first none = subst (λ xs. Takes rows xs between) (sym (append-nil before)) first
taken_behind rows between _ before _ first (more {steps = steps} {mid = mid} {step = step} {p = p} taken is) =
    subst (λ xs. Takes rows xs (mid ++ p ∷ [])) (append_assoc before steps (step ∷ [])) (more (taken_behind rows between mid before steps first taken) is)

pub atom_taken : (rows : List Provable) (fact goal : ℕ) (atom : Atom) (steps : List Step) (after : List Provable) → AtomSteps rows fact goal atom steps after →
    Takes rows steps after
atom_taken rows fact goal atom steps after (asked s is asks takes) = takes
atom_taken rows fact goal atom _ after (uses s used extra e between rest is asks first finishes behind) =
    taken_behind rows between after (instance_of (length rows) used extra) rest first behind

-- ---- symbols

-- what is given beside an axiom's name is named
given_named : (arguments : List Argument) (name : List ℕ) (place : Place) (path : List ℕ) (given : Extra) → UseArguments arguments name place path given →
    All IsNamed arguments → IsNamedExtra given
given_named _ name place path _ alone names = (All-nil IsRename, All-nil ReplacesSymbol)
given_named _ name place path given with_extra names =
    let behind = GivenExtra given ∷ [] in
    All-head IsNamed (GivenExtra given) [] (All-tail IsNamed (AtPlace place path) behind (All-tail IsNamed (Word name) (AtPlace place path ∷ behind) names))

module _ (ends_made : (op : Op) (kids : Forest) → WellMade (node op kids) → WellMade (first kids) × WellMade (last kids)) where
  left_made : (f : Tree) → WellMade f → WellMade (left_of f)
  left_made (node op kids) made = (ends_made op kids made).0

  right_made : (f : Tree) → WellMade f → WellMade (right_of f)
  right_made (node op kids) made = (ends_made op kids made).1

  side_made : (direction : Direction) (f : Tree) → WellMade f → WellMade (side_of direction f)
  side_made Forwards f made = left_made f made
  side_made Backwards f made = right_made f made

  -- what is looked for of a well-made formula is well made
  key_made : (form : AxiomForm) (direction : Direction) (place : Place) (f : Tree) → WellMade f → WellMade (key form direction place f)
  key_made E direction place f made = side_made direction f made
  key_made Q direction place f made = side_made direction f made
  key_made C direction place f made = left_made (right_of f) (right_made f made)
  key_made R direction place f made = left_made (right_of f) (right_made f made)
  key_made I direction (Succ j) f made = right_made f made
  key_made I direction (Ante i) f made = left_made f made
  key_made F direction place f made = made

  module _ (axiom_made : (name : List ℕ) (a : Axiom) → axiom_named name ≡ Some a → WellMade a.formula)
      (inner_made : (e : Tree) (path : List ℕ) (s : Tree) → WellMade e → subtree e path ≡ Some s → WellMade s)
      (inner_lacks : (test : Op → Bool) (e : Tree) (path : List ℕ) (s : Tree) → has test e ≡ false → subtree e path ≡ Some s → has test s ≡ false)
      (match_symbols : (own : List (List ℕ)) (key target : Tree) (given extra : Extra) → WellMade key → WellMade target → has_dots target ≡ false →
      AreNames given.renames → All ReplacesSymbol given.pairs → Match key own target given extra → All ReplacesSymbol extra.pairs) where
    used_symbols : (rows fact goal : ℕ) (s : Sequent) (atom : Atom) (u : Use) (x : Extra) (e : Tree) (wanted : Asked) → IsSequent s → HasNames atom →
        Asks rows fact goal s atom wanted → wanted ≡ Instance u x e → All ReplacesSymbol x.pairs
    used_symbols rows fact goal s atom u x e _ formulas names (use_axiom v f t y is there may match) q =
        let same : y ≡ x = (same_instance v u y x f e q).1 in
        let formula = formula_there s v.place f formulas there.formula in
        let named = given_named atom.arguments is.name v.place v.path v.given is.names.1 names in
        let looked_for = key v.its_axiom.form v.direction v.place v.its_axiom.formula in
        subst (λ (z : Extra). All ReplacesSymbol z.pairs) same
        (match_symbols v.its_axiom.own_names looked_for t v.given y
        (key_made v.its_axiom.form v.direction v.place v.its_axiom.formula (axiom_made is.name v.its_axiom is.is_axiom))
        (inner_made f v.path t formula.well_made there.inside) (inner_lacks is_some_dot f v.path t formula.no_dot there.inside) named.0 named.1 match)
    used_symbols rows fact goal s atom u x e _ formulas names asks q = absurd (cc q)

    asked_symbols : (rows fact goal : ℕ) (s : Sequent) (atom : Atom) (steps : List Step) → Asks rows fact goal s atom (Steps steps) → All ReplacesSymbols steps
    asked_symbols rows fact goal s atom _ (nil name) = no_steps
    asked_symbols rows fact goal s atom _ (close {i} {j} name same) = added (Apply fact goal (Close i j)) [] (apply_symbols fact goal (Close i j)) no_steps
    asked_symbols rows fact goal s atom _ (leaf name) =
        let merge = Merge fact goal (rows + 1) in
        added (Leaf s) (merge ∷ []) (leaf_symbols s) (added merge [] (merge_symbols fact goal (rows + 1)) no_steps)
    asked_symbols rows fact goal s atom _ (a_rule word rule name is args) = added (Apply fact goal rule) [] (apply_symbols fact goal rule) no_steps
    asked_symbols rows fact goal s atom _ (generalize j b f name args here) = generalizing_symbols rows (record { fact = fact; goal = goal; s = s }) j b f
    asked_symbols rows fact goal s atom _ (cut_box j b f h name args here) = cutting_symbols rows (record { fact = fact; goal = goal; s = s }) j b f h

    pub atom_symbols : (rows : List Provable) (fact goal : ℕ) (atom : Atom) (steps : List Step) (after : List Provable) → All HasFormulas rows → HasNames atom →
        AtomSteps rows fact goal atom steps after → All ReplacesSymbols steps
    atom_symbols rows fact goal atom steps after all names (asked s is asks takes) = asked_symbols (length rows) fact goal s atom steps asks
    atom_symbols rows fact goal atom _ after all names (uses s used extra e between rest is asks first behind then_on) =
        let formulas = goal_formulas rows fact goal s all is in
        All-append ReplacesSymbols (instance_of (length rows) used extra) rest
        (instance_symbols (length rows) used.its_axiom.name extra
        (used_symbols (length rows) fact goal s atom used extra e (Instance used extra e) formulas names asks refl))
        (finishing_symbols (length between) (record { fact = fact; goal = goal; s = s }) used e behind.f rest behind.finishes)
