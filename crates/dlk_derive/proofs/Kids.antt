-- The kids of a node of a store, as the tests see them.
use Rattle.std.proofs.Common.{◌≡◌, ◌∙◌, refl, sym, ap, suc, ◌-◌, ◌==◌, List, [], ◌∷◌, length, Bool, true, false, ◌&&◌, cond, subst, arith}
use Rattle.std.proofs.lemmas.Bool.{eq-eqb, ne_eqb, false≢true}
use Rattle.std.specs.Prelude.{All, IsTrue, ◌↔◌}
use Rattle.dlk_tree.specs.declared.op.Op.{Op}
use Rattle.dlk_tree.specs.declared.op.Op.TheVariants as Op'
use Rattle.dlk_tree.specs.Table.{kid_sorts}
use Rattle.dlk_tree.specs.Trees.{Tree, node, Forest, sorts, WellMade}
use Rattle.dlk_store.specs.declared.Id.{Id}
use Rattle.dlk_store.specs.Stores.{IsId, tree, kid_trees}
use Rattle.dlk_store.specs.Kids.{sorts-kid_trees}
use Rattle.dlk_store.proofs.Kids.{node_fits}
use Rattle.dlk_derive.specs.Derivative.{IsDerivative}
use Rattle.dlk_derive.proofs.Decided.{found, tested}
use Rattle.dlk_derive.specs.Decided.{has_derivative, is_bare, has_all_kids, joins_terms, is_derivable, are_derivable, is_comparison, joins_formulas}
use Rattle.dlk_derive.specs.Decided.{is_derivable_formula, are_derivable_formulas}

are_all : (op : Op) (kids : Forest) → sorts kids ≡ kid_sorts op → has_all_kids op kids ≡ true
are_all (Op'.Apply s) kids h = refl
are_all _ kids h = eq-eqb _ _ (ap length h)

-- a node of a store has them all
pub all_kids : (trees : List Tree) (id : Id) (op : Op) (ks : List Id) → All WellMade trees → IsId trees id → tree trees id ≡ node op (kid_trees trees ks) →
    has_all_kids op (kid_trees trees ks) ≡ true
all_kids trees id op ks made h e = are_all op (kid_trees trees ks) (sorts-kid_trees trees ks ∙ (node_fits trees id op ks made h e).kids_fit)

pub bare_kids : (trees : List Tree) (ks : List Id) → (length ks == 0) ≡ is_bare (kid_trees trees ks)
bare_kids trees [] = refl
bare_kids trees (k ∷ ks) = ne_eqb (suc (length ks)) 0 (λ e. omega arith)

-- what the test of a term says where its operator does so
pub term_over : (t : Tree) (op : Op) (kids : Forest) → t ≡ node op kids → has_all_kids op kids ≡ true → joins_terms op kids ≡ true →
    is_derivable t ≡ are_derivable kids
term_over t op kids e n j = ap is_derivable e ∙ (λ i. j i && (n i && are_derivable kids))

pub formula_over : (t : Tree) (op : Op) (kids : Forest) {b : Bool} → t ≡ node op kids → has_all_kids op kids ≡ true → is_comparison op ≡ false →
    joins_formulas op ≡ b → is_derivable_formula t ≡ (b && are_derivable_formulas kids)
formula_over t op kids e n c j =
    ap is_derivable_formula e ∙ (λ i. cond (c i) (has_all_kids op kids && are_derivable kids) (j i && (n i && are_derivable_formulas kids)))

-- what that of a `( )'` says
pub differential_over : (t : Tree) (op : Op) (kids : Forest) → t ≡ node op kids → op ≡ Op'.Diff → has_all_kids op kids ≡ true →
    has_derivative t ≡ are_derivable kids
differential_over t op kids e is n =
    ap has_derivative (e ∙ ap (λ o. node o kids) is) ∙ ap (λ b. b && are_derivable kids) (subst (λ o. has_all_kids o kids ≡ true) is n)

pub formula_differential_over : (t : Tree) (op : Op) (kids : Forest) → t ≡ node op kids → op ≡ Op'.DiffF → has_all_kids op kids ≡ true →
    has_derivative t ≡ are_derivable_formulas kids
formula_differential_over t op kids e is n =
    ap has_derivative (e ∙ ap (λ o. node o kids) is) ∙ ap (λ b. b && are_derivable_formulas kids) (subst (λ o. has_all_kids o kids ≡ true) is n)

pub both_ways : (t : Tree) (b : Bool) → has_derivative t ≡ b → IsTrue b ↔ ((d : Tree) × IsDerivative t d)
both_ways t true e = (λ _. found t e, λ _. refl)
both_ways t false e = (λ h. absurd (false≢true h), λ w. absurd (false≢true (sym e ∙ tested w.1)))
