-- A term without variables is smooth.
use Rattle.std.proofs.Common.{◌≡◌, refl, List, true}
use Rattle.std.proofs.lemmas.Bool.{and_parts, and_from, or_left, or_right}
use Rattle.dlk_tree.specs.declared.op.Op.{Op}
use Rattle.dlk_tree.specs.declared.op.Op.TheVariants as Op'
use Rattle.dlk_tree.specs.Table.{Fits}
use Rattle.dlk_tree.specs.Trees.{Tree, node, Forest, no_kids, kid, sorts, WellMade, AllWellMade}
use Rattle.dlk_calculus.specs.Kids.{last}
use Rattle.dlk_guard.specs.Smooth.{is_constant_op, is_constant, are_constant, joins_smooth, is_smooth, are_smooth}

last_constant : (t : Tree) (rest : Forest) → are_constant (kid t rest) ≡ true → is_constant (last (kid t rest)) ≡ true
last_constant t no_kids h = (and_parts _ _ h).0
last_constant t (kid u rest) h = last_constant u rest (and_parts _ _ h).1

divides : (domain : List Tree) (kids : Forest) → Fits Op'.Div (sorts kids) → are_constant kids ≡ true → joins_smooth domain Op'.Div kids ≡ true
divides domain no_kids fits h = let e = fits.kids_fit in cc
divides domain (kid t rest) fits h = or_left _ _ (last_constant t rest h)

joins : (domain : List Tree) (op : Op) (kids : Forest) → Fits op (sorts kids) → is_constant_op op ≡ true → are_constant kids ≡ true →
    joins_smooth domain op kids ≡ true
joins domain (Op'.Number n) kids fits c h = refl
joins domain (Op'.Apply s) kids fits c h = c
joins domain Op'.Neg kids fits c h = refl
joins domain Op'.Add kids fits c h = refl
joins domain Op'.Sub kids fits c h = refl
joins domain Op'.Mul kids fits c h = refl
joins domain Op'.Pow kids fits c h = or_right _ _ h
joins domain Op'.Div kids fits c h = divides domain kids fits h
joins domain _ kids fits c h = cc

mutual
  pub constant_smooth : (domain : List Tree) (t : Tree) → WellMade t → is_constant t ≡ true → is_smooth domain t ≡ true
  constant_smooth domain (node op kids) made h =
      let parts = and_parts _ _ h in and_from _ _ (joins domain op kids made.0 parts.0 parts.1) (constants_smooth domain kids made.1 parts.1)

  constants_smooth : (domain : List Tree) (kids : Forest) → AllWellMade kids → are_constant kids ≡ true → are_smooth domain kids ≡ true
  constants_smooth domain no_kids made h = refl
  constants_smooth domain (kid t rest) made h =
      let parts = and_parts _ _ h in and_from _ _ (constant_smooth domain t made.0 parts.0) (constants_smooth domain rest made.1 parts.1)
