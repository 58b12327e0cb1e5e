-- Trees that may come into a formula, from their kids, and kids from their tree.
use Rattle.std.proofs.Common.{◌≡◌, refl, sym, ◌∙◌, List, [], ◌∷◌, false, Bool}
use Rattle.std.specs.Prelude.{IsTrue, ◌||◌}
use Rattle.std.proofs.lemmas.Bool.{or_parts}
use Rattle.dlk_tree.specs.declared.op.Op.{Op}
use Rattle.dlk_tree.specs.declared.op.Sort.{Sort}
use Rattle.dlk_tree.specs.declared.op.Sort.TheVariants.{Formula}
use Rattle.dlk_tree.specs.Occurs.{has_dots, has_hole, is_some_dot, is_hole}
use Rattle.dlk_tree.specs.Table.{kid_sorts, has_parts, sort_of}
use Rattle.dlk_tree.specs.Trees.{Tree, sort, WellMade}
use Rattle.dlk_calculus.specs.Notation.{leaf, one, two}
use Rattle.dlk_calculus.specs.Sequents.{IsFormula}

-- well made, of this sort, without dots and `_`
pub record IsClean (s : Sort) (t : Tree) : Type 0 where
  pub well_made : WellMade t
  pub sort_is : sort t ≡ s
  pub no_dot : has_dots t ≡ false
  pub no_hole : has_hole t ≡ false

pub formula_of : (t : Tree) → IsClean Formula t → IsFormula t
formula_of t c = record { well_made = c.well_made; sort_is = c.sort_is; no_dot = c.no_dot; no_hole = c.no_hole }

pub or_false : {a b : Bool} → a ≡ false → b ≡ false → (a || b) ≡ false
or_false e f = rw (e, f) refl

-- an operator that is neither a dot nor `_`
pub record IsPlainOp (op : Op) (s : Sort) (kids : List Sort) : Type 0 where
  pub its_sort : sort_of op ≡ s
  pub its_kids : kid_sorts op ≡ kids
  pub parts : IsTrue (has_parts op)
  pub no_dot : is_some_dot op ≡ false
  pub no_hole : is_hole op ≡ false

pub clean_leaf : (op : Op) (s : Sort) → IsPlainOp op s [] → IsClean s (leaf op)
clean_leaf op s p = record {
  well_made = (record { kids_fit = sym p.its_kids; parts_fit = p.parts }, tt);
  sort_is = p.its_sort;
  no_dot = or_false p.no_dot refl;
  no_hole = or_false p.no_hole refl;
}

pub clean_one : (op : Op) (s k : Sort) (a : Tree) → IsPlainOp op s (k ∷ []) → IsClean k a → IsClean s (one op a)
clean_one op s k a p x = let e = x.sort_is in record {
  well_made = (record { kids_fit = (λ i. e i ∷ []) ∙ sym p.its_kids; parts_fit = p.parts }, (x.well_made, tt));
  sort_is = p.its_sort;
  no_dot = or_false p.no_dot (or_false x.no_dot refl);
  no_hole = or_false p.no_hole (or_false x.no_hole refl);
}

pub clean_two : (op : Op) (s k l : Sort) (a b : Tree) → IsPlainOp op s (k ∷ l ∷ []) → IsClean k a → IsClean l b → IsClean s (two op a b)
clean_two op s k l a b p x y = let e = x.sort_is in let h = y.sort_is in record {
  well_made = (record { kids_fit = (λ i. e i ∷ h i ∷ []) ∙ sym p.its_kids; parts_fit = p.parts }, (x.well_made, (y.well_made, tt)));
  sort_is = p.its_sort;
  no_dot = or_false p.no_dot (or_false x.no_dot (or_false y.no_dot refl));
  no_hole = or_false p.no_hole (or_false x.no_hole (or_false y.no_hole refl));
}

-- the kid of one, and those of two
pub kid_of_one : (op : Op) (s k : Sort) (a : Tree) → kid_sorts op ≡ k ∷ [] → IsClean s (one op a) → IsClean k a
kid_of_one op s k a kids x =
    let fits : sort a ∷ [] ≡ k ∷ [] = x.well_made.0.kids_fit ∙ kids in
    let is : sort a ≡ k = cc in
    record {
      well_made = x.well_made.1.0;
      sort_is = is;
      no_dot = (or_parts _ _ (or_parts _ _ x.no_dot).1).0;
      no_hole = (or_parts _ _ (or_parts _ _ x.no_hole).1).0;
    }

pub kids_of_two : (op : Op) (s k l : Sort) (a b : Tree) → kid_sorts op ≡ k ∷ l ∷ [] → IsClean s (two op a b) → IsClean k a × IsClean l b
kids_of_two op s k l a b kids x =
    let fits : sort a ∷ sort b ∷ [] ≡ k ∷ l ∷ [] = x.well_made.0.kids_fit ∙ kids in
    let is : sort a ≡ k = cc in
    let are : sort b ≡ l = cc in
    let dots = or_parts _ _ (or_parts _ _ x.no_dot).1 in
    let holes = or_parts _ _ (or_parts _ _ x.no_hole).1 in (
      record { well_made = x.well_made.1.0; sort_is = is; no_dot = dots.0; no_hole = holes.0 },
      record { well_made = x.well_made.1.1.0; sort_is = are; no_dot = (or_parts _ _ dots.1).0; no_hole = (or_parts _ _ holes.1).0 },
    )

pub plain : (op : Op) (s : Sort) (kids : List Sort) → sort_of op ≡ s → kid_sorts op ≡ kids → IsTrue (has_parts op) → is_some_dot op ≡ false →
    is_hole op ≡ false →
    IsPlainOp op s kids
plain op s kids a b c d e = record { its_sort = a; its_kids = b; parts = c; no_dot = d; no_hole = e }
