-- Formulas by their kids, and sequents of formulas with other formulas in them.
use Rattle.std.proofs.Common.{◌≡◌, ℕ, ◌-◌, Bool, true, false, ◌||◌, List, [], ◌∷◌, ◌++◌, refl, sym, ap, ◌∙◌}
use Rattle.std.specs.Prelude.{IsTrue}
use Rattle.std.specs.List.{All}
use Rattle.std.proofs.lemmas.List.Elements.{All-cons, All-nil, All-push, All-set, All-append, All-take, All-drop}
use Rattle.dlk_tree.specs.declared.op.Op.{Op}
use Rattle.dlk_tree.specs.declared.op.Op.TheVariants as Op'
use Rattle.dlk_tree.specs.declared.op.Sort.TheVariants.{Formula, Program}
use Rattle.dlk_tree.specs.Names.{is_name}
use Rattle.dlk_tree.specs.Table.{sort_of, kid_sorts, has_parts}
use Rattle.dlk_tree.specs.Trees.{Tree, node, no_kids, kid, sort}
use Rattle.dlk_tree.specs.Occurs.{is_some_dot, is_hole}
use Rattle.dlk_calculus.specs.Notation.{one, two, assign}
use Rattle.dlk_calculus.specs.Places.{At, put, without_place}
use Rattle.dlk_calculus.specs.Rename.{swap, RenamesBound, in_forall, in_exists, in_box, in_dia}
use Rattle.dlk_calculus.specs.Rules.{imply, equiv}
use Rattle.dlk_calculus.specs.Sequents.{Sequent, ◌==>◌, alone_right, IsFormula, IsSequent}
use Rattle.dlk_calculus.proofs.PlaceLaws.{At_All}
use Rattle.dlk_calculus.proofs.Sorts.{head, tail}
use Rattle.dlk_calculus.proofs.Swapped.{swap_formula}

first_false : (a b : Bool) → a || b ≡ false → a ≡ false
first_false true b e = e
first_false false b e = refl

second_false : (a b : Bool) → a || b ≡ false → b ≡ false
second_false true b e = cc
second_false false b e = e

both_false : (a b : Bool) → a ≡ false → b ≡ false → a || b ≡ false
both_false true b p q = p
both_false false b p q = q

-- ---- the kids of a formula

-- an operator over two formulas
pub two_kids : (op : Op) (f g : Tree) → kid_sorts op ≡ Formula ∷ Formula ∷ [] → IsFormula (two op f g) → IsFormula f × IsFormula g
two_kids op f g e h =
    let k : sort f ∷ sort g ∷ [] ≡ Formula ∷ Formula ∷ [] = h.well_made.0.kids_fit ∙ e in
    let dot = second_false _ _ h.no_dot in
    let hole = second_false _ _ h.no_hole in (
      record { well_made = h.well_made.1.0; sort_is = ap head k; no_dot = first_false _ _ dot; no_hole = first_false _ _ hole },
      record {
        well_made = h.well_made.1.1.0;
        sort_is = ap (λ ss. head (tail ss)) k;
        no_dot = first_false _ _ (second_false _ _ dot);
        no_hole = first_false _ _ (second_false _ _ hole);
      },
    )

-- an operator over one formula
pub one_kid : (op : Op) (f : Tree) → kid_sorts op ≡ Formula ∷ [] → IsFormula (one op f) → IsFormula f
one_kid op f e h =
    let k : sort f ∷ [] ≡ Formula ∷ [] = h.well_made.0.kids_fit ∙ e in
    record {
      well_made = h.well_made.1.0;
      sort_is = ap head k;
      no_dot = first_false _ _ (second_false _ _ h.no_dot);
      no_hole = first_false _ _ (second_false _ _ h.no_hole);
    }

-- ---- formulas under an operator

-- a formula's operator in which no dot and no `_` stands
record IsConnective (op : Op) : Type 0 where
  sort_is : sort_of op ≡ Formula
  parts : IsTrue (has_parts op)
  no_dot : is_some_dot op ≡ false
  no_hole : is_hole op ≡ false

pair_formula : (op : Op) (f g : Tree) → IsConnective op → kid_sorts op ≡ Formula ∷ Formula ∷ [] → IsFormula f → IsFormula g →
    IsFormula (node op (kid f (kid g no_kids)))
pair_formula op f g c kids hf hg = record {
  well_made = (record { kids_fit = (λ i. hf.sort_is i ∷ hg.sort_is i ∷ []) ∙ sym kids; parts_fit = c.parts }, (hf.well_made, (hg.well_made, tt)));
  sort_is = c.sort_is;
  no_dot = both_false _ _ c.no_dot (both_false _ _ hf.no_dot (both_false _ _ hg.no_dot refl));
  no_hole = both_false _ _ c.no_hole (both_false _ _ hf.no_hole (both_false _ _ hg.no_hole refl));
}

pub imply_formula : (f g : Tree) → IsFormula f → IsFormula g → IsFormula (imply f g)
imply_formula f g p q = pair_formula Op'.Imply f g (record { sort_is = refl; parts = refl; no_dot = refl; no_hole = refl }) refl p q

pub equiv_formula : (f g : Tree) → IsFormula f → IsFormula g → IsFormula (equiv f g)
equiv_formula f g p q = pair_formula Op'.Equiv f g (record { sort_is = refl; parts = refl; no_dot = refl; no_hole = refl }) refl p q

quantified : (op : Op) (f : Tree) → IsConnective op → kid_sorts op ≡ Formula ∷ [] → IsFormula f → IsFormula (node op (kid f no_kids))
quantified op f c kids h = record {
  well_made = (record { kids_fit = (λ i. h.sort_is i ∷ []) ∙ sym kids; parts_fit = c.parts }, (h.well_made, tt));
  sort_is = c.sort_is;
  no_dot = both_false _ _ c.no_dot (both_false _ _ h.no_dot refl);
  no_hole = both_false _ _ c.no_hole (both_false _ _ h.no_hole refl);
}

-- ---- renaming a bound variable

-- a box or a diamond over an assignment
modal_formula : (op : Op) (x y : List ℕ) (e f : Tree) → IsConnective op → kid_sorts op ≡ Program ∷ Formula ∷ [] → IsTrue (is_name y) →
    IsFormula (two op (assign x e) f) →
    IsFormula (two op (assign y e) (swap x y f))
modal_formula op x y e f c kids real h =
    let k : Program ∷ sort f ∷ [] ≡ Program ∷ Formula ∷ [] = h.well_made.0.kids_fit ∙ kids in
    let dot = second_false _ _ h.no_dot in
    let hole = second_false _ _ h.no_hole in
    let inner : IsFormula f =
    record {
      well_made = h.well_made.1.1.0;
      sort_is = ap (λ ss. head (tail ss)) k;
      no_dot = first_false _ _ (second_false _ _ dot);
      no_hole = first_false _ _ (second_false _ _ hole);
    } in
    let g = swap_formula x y h.well_made.1.0.0.parts_fit real f inner in
    record {
      well_made = (
        record { kids_fit = (λ i. Program ∷ g.sort_is i ∷ []) ∙ sym kids; parts_fit = c.parts },
        ((record { kids_fit = h.well_made.1.0.0.kids_fit; parts_fit = real }, h.well_made.1.0.1), (g.well_made, tt)),
      );
      sort_is = c.sort_is;
      no_dot = both_false _ _ c.no_dot (both_false _ _ (first_false _ _ dot) (both_false _ _ g.no_dot refl));
      no_hole = both_false _ _ c.no_hole (both_false _ _ (first_false _ _ hole) (both_false _ _ g.no_hole refl));
    }

pub renamed_formula : {x y : List ℕ} {f t u : Tree} → IsTrue (is_name y) → RenamesBound x y f t u → IsFormula t → IsFormula u
renamed_formula {x} {y} {f} real in_forall h =
    let g = swap_formula x y h.well_made.0.parts_fit real f (one_kid (Op'.Forall x) f refl h) in
    quantified (Op'.Forall y) _ (record { sort_is = refl; parts = real; no_dot = refl; no_hole = refl }) refl g
renamed_formula {x} {y} {f} real in_exists h =
    let g = swap_formula x y h.well_made.0.parts_fit real f (one_kid (Op'.Exists x) f refl h) in
    quantified (Op'.Exists y) _ (record { sort_is = refl; parts = real; no_dot = refl; no_hole = refl }) refl g
renamed_formula {x} {y} {f} real (in_box e) h =
    modal_formula Op'.Box x y e f (record { sort_is = refl; parts = refl; no_dot = refl; no_hole = refl }) refl real h
renamed_formula {x} {y} {f} real (in_dia e) h =
    modal_formula Op'.Dia x y e f (record { sort_is = refl; parts = refl; no_dot = refl; no_hole = refl }) refl real h

-- ---- a sequent of formulas stays one

module _ (s : Sequent) (h : IsSequent s) where
  pub left_formula : (i : ℕ) (f : Tree) → At s.ante i f → IsFormula f
  left_formula i f k = At_All IsFormula s.ante i f h.ante k

  pub right_formula : (j : ℕ) (f : Tree) → At s.succ j f → IsFormula f
  right_formula j f k = At_All IsFormula s.succ j f h.succ k

  pub left_put : (i : ℕ) (f : Tree) → IsFormula f → IsSequent (put s.ante i f ==> s.succ)
  left_put i f p = record { ante = All-set IsFormula s.ante (i - 1) f p h.ante; succ = h.succ }

  pub right_put : (j : ℕ) (f : Tree) → IsFormula f → IsSequent (s.ante ==> put s.succ j f)
  right_put j f p = record { ante = h.ante; succ = All-set IsFormula s.succ (j - 1) f p h.succ }

  pub left_last : (f : Tree) → IsFormula f → IsSequent (s.ante ++ f ∷ [] ==> s.succ)
  left_last f p = record { ante = All-push IsFormula s.ante f h.ante p; succ = h.succ }

  pub right_last : (f : Tree) → IsFormula f → IsSequent (s.ante ==> s.succ ++ f ∷ [])
  right_last f p = record { ante = h.ante; succ = All-push IsFormula s.succ f h.succ p }

  pub left_without : (i : ℕ) → IsSequent (without_place s.ante i ==> s.succ)
  left_without i = record { ante = All-append IsFormula _ _ (All-take IsFormula (i - 1) s.ante h.ante) (All-drop IsFormula i s.ante h.ante); succ = h.succ }

  pub right_without : (j : ℕ) → IsSequent (s.ante ==> without_place s.succ j)
  right_without j = record { ante = h.ante; succ = All-append IsFormula _ _ (All-take IsFormula (j - 1) s.succ h.succ) (All-drop IsFormula j s.succ h.succ) }

pub alone : {f : Tree} → IsFormula f → IsSequent (alone_right f)
alone {f} h = record { ante = All-nil IsFormula; succ = All-cons IsFormula f [] h (All-nil IsFormula) }

pub one_sequent : (s : Sequent) → IsSequent s → All IsSequent (s ∷ [])
one_sequent s p = All-cons IsSequent s [] p (All-nil IsSequent)

pub two_sequents : (s t : Sequent) → IsSequent s → IsSequent t → All IsSequent (s ∷ t ∷ [])
two_sequents s t p q = All-cons IsSequent s (t ∷ []) p (one_sequent t q)
