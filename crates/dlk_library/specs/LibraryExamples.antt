-- Examples of what names of the library stand for, written out in atoms; and of a model and a strategy of `gen`.
use Rattle.std.specs.Prelude.{◌≡◌, ℕ, List, [], ◌∷◌, Some, None, codes, refl}
use Rattle.dlk_tree.specs.Trees.{Tree}
use Rattle.dlk_tree.specs.declared.op.Kind.TheVariants.{UnitFunc, UnitPred}
use Rattle.dlk_sequent.specs.declared.sequent.Place.TheVariants.{Succ}
use Rattle.dlk_tacsyn.specs.Tactics.{Argument, AtPlace, Word, GivenFormula, GivenTerm, GivenExtra, Atom}
use Rattle.dlk_tacsyn.specs.Tactics.{Sequence, Branch, One, no_parts, part}
use Rattle.dlk_library.specs.Library.{Expands, by_loop, by_weakening, by_cut, by_invariant, by_ghost}
use Rattle.std.specs.Fmt.{digits}
use Rattle.dlk_library.specs.Generated.{generated_model, generated_strategy}

-- the place 1
abbrev first_right : Argument
first_right = AtPlace (Succ 1) []

-- an atom at byte 7
abbrev at_seven : List ℕ → List Argument → Atom
at_seven name arguments = record { name = name; arguments = arguments; at = 7 }

-- dI(1): useAt(DI,1); <(useAt(testb,1); implyR(1), implyR(1))
example_invariant : Expands (at_seven (codes "dI") (first_right ∷ []))
    (Sequence (part (One (at_seven (codes "useAt") (Word (codes "DI") ∷ first_right ∷ [])))
    (part (Branch 7
    (part (Sequence (part (One (at_seven (codes "useAt") (Word (codes "testb") ∷ first_right ∷ [])))
    (part (One (at_seven (codes "implyR") (first_right ∷ []))) no_parts)))
    (part (One (at_seven (codes "implyR") (first_right ∷ []))) no_parts)))
    no_parts)))
example_invariant = by_invariant first_right refl refl

-- loop("J",1): boxCut("J",1); <(cutR("J",1); <(nil, useAt(I,1); G(1); implyR(1)), nil)
example_loop : (j : Tree) → Expands (at_seven (codes "loop") (GivenFormula j ∷ first_right ∷ []))
    (Sequence (part (One (at_seven (codes "boxCut") (GivenFormula j ∷ first_right ∷ [])))
    (part (Branch 7
    (part (Sequence (part (One (at_seven (codes "cutR") (GivenFormula j ∷ first_right ∷ [])))
    (part (Branch 7
    (part (One (at_seven (codes "nil") []))
    (part (Sequence (part (One (at_seven (codes "useAt") (Word (codes "I") ∷ first_right ∷ [])))
    (part (One (at_seven (codes "G") (first_right ∷ [])))
    (part (One (at_seven (codes "implyR") (first_right ∷ []))) no_parts)))) no_parts)))
    no_parts)))
    (part (One (at_seven (codes "nil") [])) no_parts)))
    no_parts)))
example_loop j = by_loop j first_right refl refl

-- dG(z,"a","b",1): useAt(DG,1,"y_~~z,a(|z|)~>a,b(|z|)~>b")
example_ghost : (a b : Tree) → Expands (at_seven (codes "dG") (Word (codes "z") ∷ GivenTerm a ∷ GivenTerm b ∷ first_right ∷ []))
    (One (at_seven (codes "useAt") (Word (codes "DG") ∷ first_right ∷ GivenExtra (record {
      renames = (codes "y_", codes "z") ∷ [];
      pairs = record { sym = record { kind = UnitFunc; name = codes "a"; arity = 0; taboo = Some (codes "z") }; by = a } ∷
          record { sym = record { kind = UnitFunc; name = codes "b"; arity = 0; taboo = Some (codes "z") }; by = b } ∷
          [];
    }) ∷ [])))
example_ghost a b = by_ghost (codes "z") a b first_right refl refl

-- dC("R",1): useAt(DC,1,"r(||)~>R")
example_cut : (r : Tree) → Expands (at_seven (codes "dC") (GivenFormula r ∷ first_right ∷ []))
    (One (at_seven (codes "useAt") (Word (codes "DC") ∷ first_right ∷ GivenExtra (record {
      renames = [];
      pairs = record { sym = record { kind = UnitPred; name = codes "r"; arity = 0; taboo = None }; by = r } ∷ [];
    }) ∷ [])))
example_cut r = by_cut r first_right refl refl

-- dW(1): useAt(DWeq,1); G(1); implyR(1)
example_weakening : Expands (at_seven (codes "dW") (first_right ∷ []))
    (Sequence (part (One (at_seven (codes "useAt") (Word (codes "DWeq") ∷ first_right ∷ [])))
    (part (One (at_seven (codes "G") (first_right ∷ [])))
    (part (One (at_seven (codes "implyR") (first_right ∷ []))) no_parts))))
example_weakening = by_weakening first_right refl refl

-- two assignments
example_model : generated_model 2 ≡ codes "x>=0 -> [x:=x+1;][x:=x+1;]x>=0"
example_model = refl

example_strategy : generated_strategy 2 ≡ codes "implyR(1); useAt(assignb,1)*2; leaf"
unfolding digits
example_strategy = refl
