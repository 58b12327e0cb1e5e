-- The reasons against an instance, by what was found of each condition.
use Rattle.std.proofs.Common.{◌≡◌, ◌∙◌, refl, ap, List, [], ◌∷◌, ℕ, Bool, Option, None, Some}
use Rattle.std.specs.Prelude.{option_map}
use Rattle.dlk_tree.specs.declared.op.Sym.{Sym}
use Rattle.dlk_tree.specs.declared.op.OdeItem.{OdeItem}
use Rattle.dlk_tree.specs.declared.op.Op.{Op}
use Rattle.dlk_tree.specs.Trees.{Tree, node, Forest}
use Rattle.dlk_calculus.specs.Paths.{subtree}
use Rattle.dlk_guard.specs.declared.why.Why.TheVariants.{OdeConstant, NotSmooth, NotEvolved, Primed, RawFact}
use Rattle.dlk_guard.specs.Smooth.{domain_parts, is_smooth_formula}
use Rattle.dlk_guard.specs.Instances.{first_of, unless, first_constant, first_loose, first_primed, di_conditions, system_items, di_items, di_parts}
use Rattle.dlk_guard.specs.Instances.{di_why, dg_terms, dg_conditions, dg_items, dg_parts, dg_why}

-- ---- DI

pub chosen_is : (items : List OdeItem) (kids : Forest) (p : Tree) {constant : Option Sym} {smooth : Bool} {loose primed : Option (List ℕ)} →
    first_constant items ≡ constant → is_smooth_formula (domain_parts kids) p ≡ smooth → first_loose items (domain_parts kids) p ≡ loose →
    first_primed items kids ≡ primed →
    di_conditions items kids p
    ≡ first_of (option_map OdeConstant constant ∷ unless smooth NotSmooth ∷ option_map NotEvolved loose ∷ option_map Primed primed ∷ [])
chosen_is items kids p a b c d =
    λ i. first_of (option_map OdeConstant (a i) ∷ unless (b i) NotSmooth ∷ option_map NotEvolved (c i) ∷ option_map Primed (d i) ∷ [])

no_post : (t : Tree) → di_parts (Some t) None ≡ Some RawFact
no_post (node op kids) = refl

pub with_items : (t system p : Tree) (op : Op) (kids : Forest) → subtree t (1 ∷ 0 ∷ 0 ∷ []) ≡ Some system → subtree t (1 ∷ 0 ∷ 1 ∷ []) ≡ Some p →
    system ≡ node op kids → di_why t ≡ di_items (system_items op) kids p
with_items t system p op kids e f is = (λ i. di_parts (e i) (f i)) ∙ ap (λ s. di_parts (Some s) (Some p)) is

-- ---- DG
