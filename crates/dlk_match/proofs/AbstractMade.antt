-- What abstracts a well-made tree is well made, and of its sort.
use Rattle.std.proofs.Common.{◌≡◌, refl, sym, ap, ◌∙◌, ◌∷◌, Bool, true, false, cond}
use Rattle.dlk_tree.specs.declared.op.Var.{Var}
use Rattle.dlk_tree.specs.declared.op.Op.{Op}
use Rattle.dlk_tree.specs.declared.op.Op.TheVariants as Op'
use Rattle.dlk_tree.specs.Table.{sort_of}
use Rattle.dlk_tree.specs.Trees.{Tree, node, Forest, no_kids, kid, sort, sorts, WellMade, AllWellMade}
use Rattle.dlk_calculus.specs.Captures.{captures}
use Rattle.dlk_match.specs.Abstract.{is_variable, binds_behind, first_alone, with_dot, abstracted, abstracted_all}
use Rattle.dlk_match.proofs.Plugged.{variable_is}

-- of the same sorts, and well made
abbrev AreMadeLike : Forest → Forest → Type 0
AreMadeLike old new = (sorts new ≡ sorts old) × AllWellMade new

module _ (v : Var) where
  same_sort : (e : Tree) → sort (abstracted v e) ≡ sort e
  same_sort (node op kids) = go (is_variable v op) _ refl
    where
      go : (b : Bool) (new : Forest) → is_variable v op ≡ b → sort (cond b (node (Op'.Dot 0) no_kids) (node op new)) ≡ sort_of op
      go true new is = ap sort_of (sym (variable_is v op is))
      go false new is = refl

  same_sorts : (es : Forest) → sorts (abstracted_all v es) ≡ sorts es
  same_sorts no_kids = refl
  same_sorts (kid e es) = let a = same_sort e in let b = same_sorts es in λ i. a i ∷ b i

  -- all stay as they were, or all but the first
  first_made : (es : Forest) → AllWellMade es → AllWellMade (abstracted_all v es) → AreMadeLike es (first_alone es (abstracted_all v es))
  first_made no_kids made new = (refl, made)
  first_made (kid e es) made new = (ap (λ s. s ∷ sorts es) (same_sort e), (new.0, made.1))

  captured_made : (es : Forest) (is_behind : Bool) → AllWellMade es → AllWellMade (abstracted_all v es) →
      AreMadeLike es (cond is_behind (first_alone es (abstracted_all v es)) es)
  captured_made es true made new = first_made es made new
  captured_made es false made new = (refl, made)

  kids_made : (op : Op) (es : Forest) (is_captured : Bool) → AllWellMade es → AllWellMade (abstracted_all v es) →
      AreMadeLike es (cond is_captured (cond (binds_behind op) (first_alone es (abstracted_all v es)) es) (abstracted_all v es))
  kids_made op es true made new = captured_made es (binds_behind op) made new
  kids_made op es false made new = (same_sorts es, new)

  node_made : (op : Op) (es : Forest) → WellMade (node op es) → AllWellMade (abstracted_all v es) → WellMade (with_dot v op es (abstracted_all v es))
  node_made op es made new = go (is_variable v op)
    where
      kids : Forest
      kids = cond ((captures op).set es v) (cond (binds_behind op) (first_alone es (abstracted_all v es)) es) (abstracted_all v es)

      like : AreMadeLike es kids
      like = kids_made op es ((captures op).set es v) made.1 new

      go : (b : Bool) → WellMade (cond b (node (Op'.Dot 0) no_kids) (node op kids))
      go true = (record { kids_fit = refl; parts_fit = refl }, tt)
      go false = (record { kids_fit = like.0 ∙ made.0.kids_fit; parts_fit = made.0.parts_fit }, like.1)

  mutual
    pub abstracted_made : (e : Tree) → WellMade e → WellMade (abstracted v e)
    abstracted_made (node op kids) made = node_made op kids made (all_abstracted_made kids made.1)

    all_abstracted_made : (es : Forest) → AllWellMade es → AllWellMade (abstracted_all v es)
    all_abstracted_made no_kids made = tt
    all_abstracted_made (kid e es) made = (abstracted_made e made.0, all_abstracted_made es made.1)
