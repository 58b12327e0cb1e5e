-- A variable plugged into what abstracts a tree by it gives the tree back.
use Rattle.std.proofs.Common.{◌≡◌, refl, sym, ap, subst, ◌∙◌, List, [], ◌∷◌, Bool, true, false, cond}
use Rattle.std.proofs.lemmas.Bool.{or_parts}
use Rattle.std.proofs.lemmas.Option.{same_Some}
use Rattle.dlk_tree.specs.declared.op.Var.{Var}
use Rattle.dlk_tree.specs.declared.op.Op.{Op}
use Rattle.dlk_tree.specs.declared.op.Op.TheVariants as Op'
use Rattle.dlk_tree.specs.Trees.{Tree, node, Forest, no_kids, kid, sorts, WellMade}
use Rattle.dlk_tree.specs.Occurs.{any_has, is_some_dot}
use Rattle.dlk_tree.proofs.Same.{var_eq_decides}
use Rattle.dlk_calculus.specs.Captures.{captures}
use Rattle.dlk_calculus.specs.Plug.{Plug, PlugAll}
use Rattle.dlk_match.specs.Abstract.{is_variable, binds_behind, first_alone, with_dot, abstracted, abstracted_all}
use Rattle.dlk_match.proofs.Targets.{IsTarget, AreTargets, target_kids, target_first, target_rest, plain_at, plug_all_plain}

pub variable_is : (v : Var) (op : Op) → is_variable v op ≡ true → op ≡ Op'.Variable v
variable_is v (Op'.Variable w) e = ap Op'.Variable (sym ((var_eq_decides v w).0 e))
variable_is v _ e = cc

childless : (kids : Forest) → sorts kids ≡ [] → kids ≡ no_kids
childless no_kids e = refl
childless (kid t ts) e = cc

leaf_is : (v : Var) (op : Op) (kids : Forest) → op ≡ Op'.Variable v → WellMade (node op kids) → node op kids ≡ node (Op'.Variable v) no_kids
leaf_is v op kids e made =
    let fits = subst (λ o. WellMade (node o kids)) e made in
    let none = childless kids fits.0.kids_fit in
    λ i. node (e i) (none i)

module _ (v : Var) where
  abbrev args : List Tree
  args = node (Op'.Variable v) no_kids ∷ []

  -- each of these is given back
  abbrev EachBack : Forest → Type 0
  EachBack no_kids = Unit {0}
  EachBack (kid e rest) = ((t : Tree) → Plug args (abstracted v e) t → t ≡ e) × EachBack rest

  all_back : (es ts : Forest) → EachBack es → PlugAll args (abstracted_all v es) ts → ts ≡ es
  all_back no_kids no_kids each p = refl
  all_back no_kids (kid t ts) each p = absurd p
  all_back (kid e es) no_kids each p = absurd p
  all_back (kid e es) (kid t ts) each p =
      let a = each.0 t p.0 in
      let b = all_back es ts each.1 p.1 in
      λ i. kid (a i) (b i)

  first_back : (e : Tree) (es ts : Forest) → any_has is_some_dot es ≡ false → EachBack (kid e es) → PlugAll args (kid (abstracted v e) es) ts → ts ≡ kid e es
  first_back e es no_kids plain each p = absurd p
  first_back e es (kid t ts) plain each p =
      let a = each.0 t p.0 in
      let b = plug_all_plain args es ts plain p.1 in
      λ i. kid (a i) (b i)

  -- all stay as they were, or all but the first
  later_back : (es ts : Forest) → any_has is_some_dot es ≡ false → EachBack es → PlugAll args (first_alone es (abstracted_all v es)) ts → ts ≡ es
  later_back no_kids ts plain each p = plug_all_plain args no_kids ts plain p
  later_back (kid e es) ts plain each p = first_back e es ts (or_parts _ _ plain).1 each p

  captured_back : (es ts : Forest) (is_behind : Bool) → any_has is_some_dot es ≡ false → EachBack es →
      PlugAll args (cond is_behind (first_alone es (abstracted_all v es)) es) ts → ts ≡ es
  captured_back es ts true plain each p = later_back es ts plain each p
  captured_back es ts false plain each p = plug_all_plain args es ts plain p

  kids_back : (op : Op) (es ts : Forest) (is_captured : Bool) → any_has is_some_dot es ≡ false → EachBack es →
      PlugAll args (cond is_captured (cond (binds_behind op) (first_alone es (abstracted_all v es)) es) (abstracted_all v es)) ts → ts ≡ es
  kids_back op es ts true plain each p = captured_back es ts (binds_behind op) plain each p
  kids_back op es ts false plain each p = all_back es ts each p

  node_back : (op : Op) (es new : Forest) (t : Tree) → IsTarget (node op es) → EachBack es →
      Plug args (with_dot v op es (abstracted_all v es)) t → t ≡ node op es
  node_back op es new t target each p = go (is_variable v op) refl p
    where
      rest : Forest
      rest = cond ((captures op).set es v) (cond (binds_behind op) (first_alone es (abstracted_all v es)) es) (abstracted_all v es)

      go : (b : Bool) → is_variable v op ≡ b → Plug args (cond b (node (Op'.Dot 0) no_kids) (node op rest)) t → t ≡ node op es
      go true is q = same_Some t _ (sym q.2) ∙ sym (leaf_is v op es (variable_is v op is) target.0)
      go false is q =
          let plain = or_parts _ _ target.1 in
          plain_at args op _ q.0 t plain.0 q.2 ∙ ap (node op) (kids_back op es q.0 ((captures op).set es v) plain.1 each q.1)

  mutual
    pub plugged_back : (e t : Tree) → IsTarget e → Plug args (abstracted v e) t → t ≡ e
    plugged_back (node op kids) t target p = node_back op kids kids t target (each_back kids (target_kids op kids target)) p

    each_back : (es : Forest) → AreTargets es → EachBack es
    each_back no_kids targets = tt
    each_back (kid e es) targets = (λ t p. plugged_back e t (target_first e es targets) p, each_back es (target_rest e es targets))
