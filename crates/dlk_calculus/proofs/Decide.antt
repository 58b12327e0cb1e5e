-- Whether a tree is a formula, and a sequent one of formulas, is decided.
use Rattle.std.proofs.Common.{◌≡◌, Bool, true, false, List, [], ◌∷◌, refl}
use Rattle.std.specs.List.{All}
use Rattle.std.specs.Bool.{IsTrue}
use Rattle.std.proofs.lemmas.List.Elements.{All-head, All-tail, All-cons, All-nil}
use Rattle.dlk_tree.specs.declared.op.Op.{Op}
use Rattle.dlk_tree.specs.declared.op.Sort.TheVariants.{Formula}
use Rattle.dlk_tree.specs.Trees.{Tree, node, Forest, no_kids, kid, sort, sorts, WellMade, AllWellMade}
use Rattle.dlk_tree.specs.Table.{Fits, kid_sorts, has_parts}
use Rattle.dlk_tree.specs.Occurs.{has_dots, has_hole}
use Rattle.dlk_tree.specs.contracts.op.OpPartialEq.TheImpl as OpEq
use Rattle.dlk_tree.proofs.Same.{op_decides, sort_decides, sorts_decides}
use Rattle.dlk_tree.specs.TreeTests.{tree_eq}
use Rattle.dlk_tree.proofs.TreeSame.{tree_decides, decided}
use Rattle.dlk_calculus.specs.Sequents.{IsFormula, Sequent, IsSequent}

pub is_false : (b : Bool) → Dec (b ≡ false)
is_false true = no (λ e. cc)
is_false false = yes refl

pub is_true : (b : Bool) → Dec (IsTrue b)
is_true true = yes refl
is_true false = no (λ e. cc)

pub both : {A B C : Type 0} → (A → B → C) → (C → A) → (C → B) → Dec A → Dec B → Dec C
both make first second (yes a) (yes b) = yes (make a b)
both make first second (yes a) (no n) = no (λ c. n (second c))
both make first second (no n) b = no (λ c. n (first c))

pub same_op : (a b : Op) → Dec (a ≡ b)
same_op a b = decided (OpEq.ghosts.eq a b) (op_decides a b)

pub same_tree : (s t : Tree) → Dec (s ≡ t)
same_tree s t = decided (tree_eq s t) (tree_decides s t)

fits_decided : (op : Op) (kids : Forest) → Dec (Fits op (sorts kids))
fits_decided op kids =
    both (λ k p. record { kids_fit = k; parts_fit = p }) (λ f. f.kids_fit) (λ f. f.parts_fit) (decided _ (sorts_decides (sorts kids) (kid_sorts op)))
    (is_true (has_parts op))

mutual
  pub well_made_decided : (t : Tree) → Dec (WellMade t)
  well_made_decided (node op kids) = both (λ f k. (f, k)) (λ w. w.0) (λ w. w.1) (fits_decided op kids) (all_well_made_decided kids)

  all_well_made_decided : (kids : Forest) → Dec (AllWellMade kids)
  all_well_made_decided no_kids = yes tt
  all_well_made_decided (kid t rest) = both (λ f k. (f, k)) (λ w. w.0) (λ w. w.1) (well_made_decided t) (all_well_made_decided rest)

abbrev NoDotNorHole : Tree → Type 0
NoDotNorHole t = (has_dots t ≡ false) × (has_hole t ≡ false)

abbrev IsMadeFormula : Tree → Type 0
IsMadeFormula t = WellMade t × (sort t ≡ Formula)

pub is_formula : (t : Tree) → Dec (IsFormula t)
is_formula t =
    both {A = IsMadeFormula t} {B = NoDotNorHole t} (λ m n. record { well_made = m.0; sort_is = m.1; no_dot = n.0; no_hole = n.1 })
    (λ f. (f.well_made, f.sort_is)) (λ f. (f.no_dot, f.no_hole))
    (both (λ w s. (w, s)) (λ m. m.0) (λ m. m.1) (well_made_decided t) (decided _ (sort_decides (sort t) Formula)))
    (both (λ d h. (d, h)) (λ m. m.0) (λ m. m.1) (is_false (has_dots t)) (is_false (has_hole t)))

all_formulas : (ts : List Tree) → Dec (All IsFormula ts)
all_formulas [] = yes (All-nil IsFormula)
all_formulas (t ∷ ts) = both (All-cons IsFormula t ts) (All-head IsFormula t ts) (All-tail IsFormula t ts) (is_formula t) (all_formulas ts)

pub is_sequent : (s : Sequent) → Dec (IsSequent s)
is_sequent s = both (λ a b. record { ante = a; succ = b }) (λ q. q.ante) (λ q. q.succ) (all_formulas s.ante) (all_formulas s.succ)

same_trees : (ss ts : List Tree) → Dec (ss ≡ ts)
same_trees [] [] = yes refl
same_trees [] (t ∷ ts) = no (λ e. cc)
same_trees (s ∷ ss) [] = no (λ e. cc)
same_trees (s ∷ ss) (t ∷ ts) = both (λ p q i. p i ∷ q i) (λ e. cc) (λ e. cc) (same_tree s t) (same_trees ss ts)

pub same_sequent : (s t : Sequent) → Dec (s ≡ t)
same_sequent s t =
    both (λ p q i. record { ante = p i; succ = q i }) (λ e i. (e i).ante) (λ e i. (e i).succ) (same_trees s.ante t.ante) (same_trees s.succ t.succ)
