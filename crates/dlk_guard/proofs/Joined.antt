-- What a node's operator says of it: of its parts as a domain, as a formula, and as a context.
use Rattle.std.proofs.Common.{◌≡◌, ◌∙◌, sym, ap, subst, List, [], ◌∷◌, Bool, true, false, ◌&&◌, cond}
use Rattle.dlk_tree.specs.declared.op.Op.{Op}
use Rattle.dlk_tree.specs.Occurs.{any_has, is_hole}
use Rattle.dlk_tree.specs.Trees.{Tree, node, Forest}
use Rattle.dlk_guard.specs.Smooth.{is_and, parts, parts_in, is_comparison, is_connective, are_smooth, is_smooth_formula, are_smooth_formulas}
use Rattle.dlk_guard.specs.Guarded.{is_differential, has_hole_in_differential, any_hole_in_differential}

pub alone : (t : Tree) (op : Op) (kids : Forest) → t ≡ node op kids → is_and op ≡ false → parts t ≡ t ∷ []
alone t op kids e f = subst (λ u. parts u ≡ u ∷ []) (sym e) (ap (λ b. cond b (parts_in kids) (node op kids ∷ [])) f)

pub joined : (t : Tree) (op : Op) (kids : Forest) → t ≡ node op kids → is_and op ≡ true → parts t ≡ parts_in kids
joined t op kids e f = ap parts e ∙ ap (λ b. cond b (parts_in kids) (node op kids ∷ [])) f

pub of_comparison : (domain : List Tree) (t : Tree) (op : Op) (kids : Forest) → t ≡ node op kids → is_comparison op ≡ true →
    is_smooth_formula domain t ≡ are_smooth domain kids
of_comparison domain t op kids e f =
    ap (is_smooth_formula domain) e ∙ ap (λ b. cond b (are_smooth domain kids) (is_connective op && are_smooth_formulas domain kids)) f

pub of_connective : (domain : List Tree) (t : Tree) (op : Op) (kids : Forest) {b : Bool} → t ≡ node op kids → is_comparison op ≡ false → is_connective op ≡ b →
    is_smooth_formula domain t ≡ (b && are_smooth_formulas domain kids)
of_connective domain t op kids e f g =
    ap (is_smooth_formula domain) e ∙ (λ i. cond (f i) (are_smooth domain kids) (g i && are_smooth_formulas domain kids))

pub beside : (t : Tree) (op : Op) (kids : Forest) → t ≡ node op kids → is_differential op ≡ false →
    has_hole_in_differential t ≡ any_hole_in_differential kids
beside t op kids e f = ap has_hole_in_differential e ∙ ap (λ b. cond b (any_has is_hole kids) (any_hole_in_differential kids)) f
