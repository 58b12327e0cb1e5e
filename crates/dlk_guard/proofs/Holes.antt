-- Where no `_` stands, none stands below a ( )'.
use Rattle.std.proofs.Common.{◌≡◌, refl, Bool, true, false, ◌||◌, cond}
use Rattle.std.proofs.lemmas.Bool.{or_parts}
use Rattle.dlk_tree.specs.declared.op.Op.{Op}
use Rattle.dlk_tree.specs.declared.op.Op.TheVariants as Op'
use Rattle.dlk_tree.specs.Trees.{Tree, node, Forest, no_kids, kid}
use Rattle.dlk_tree.specs.Occurs.{has_hole, any_has, is_hole}
use Rattle.dlk_guard.specs.Guarded.{is_differential, has_hole_in_differential, any_hole_in_differential}

chosen : (b x y : Bool) → x ≡ false → y ≡ false → cond b x y ≡ false
chosen true x y p q = p
chosen false x y p q = q

none_in_either : (x y : Bool) → x ≡ false → y ≡ false → (x || y) ≡ false
none_in_either x y p q = cc

mutual
  pub none_without_hole : (t : Tree) → has_hole t ≡ false → has_hole_in_differential t ≡ false
  none_without_hole (node op kids) h =
      let rest = (or_parts (is_hole op) (any_has is_hole kids) h).1 in
      chosen (is_differential op) (any_has is_hole kids) (any_hole_in_differential kids) rest (none_in_kids kids rest)

  none_in_kids : (kids : Forest) → any_has is_hole kids ≡ false → any_hole_in_differential kids ≡ false
  none_in_kids no_kids h = refl
  none_in_kids (kid t rest) h =
      let parts = or_parts (has_hole t) (any_has is_hole rest) h in none_in_either _ _ (none_without_hole t parts.0) (none_in_kids rest parts.1)
