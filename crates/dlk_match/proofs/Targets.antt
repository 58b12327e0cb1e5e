-- Targets of matching: well-made trees without argument dots. Where no dot stands, plugging changes nothing.
use Rattle.std.proofs.Common.{◌≡◌, refl, ap, ◌∙◌, List, false}
use Rattle.std.proofs.lemmas.Bool.{or_parts}
use Rattle.dlk_tree.specs.declared.op.Op.{Op}
use Rattle.dlk_tree.specs.declared.op.Op.TheVariants.{Dot}
use Rattle.dlk_tree.specs.Trees.{Tree, node, Forest, no_kids, kid, WellMade, AllWellMade}
use Rattle.dlk_tree.specs.Occurs.{has_dots, any_has, is_some_dot}
use Rattle.dlk_calculus.specs.Plug.{PlugAt, Plug, PlugAll}

abbrev pub IsTarget : Tree → Type 0
IsTarget t = WellMade t × (has_dots t ≡ false)

abbrev pub AreTargets : Forest → Type 0
AreTargets ts = AllWellMade ts × (any_has is_some_dot ts ≡ false)

pub target_kids : (op : Op) (kids : Forest) → IsTarget (node op kids) → AreTargets kids
target_kids op kids h = (h.0.1, (or_parts _ _ h.1).1)

pub target_first : (t : Tree) (ts : Forest) → AreTargets (kid t ts) → IsTarget t
target_first t ts h = (h.0.0, (or_parts _ _ h.1).0)

pub target_rest : (t : Tree) (ts : Forest) → AreTargets (kid t ts) → AreTargets ts
target_rest t ts h = (h.0.1, (or_parts _ _ h.1).1)

module _ (args : List Tree) where
  pub plain_at : (op : Op) (old new : Forest) (t : Tree) → is_some_dot op ≡ false → PlugAt args op old new t → t ≡ node op new
  plain_at (Dot n) old new t h p = cc
  plain_at op old new t h p = p.1

  mutual
    pub plug_plain : (e t : Tree) → has_dots e ≡ false → Plug args e t → t ≡ e
    plug_plain (node op kids) t h p =
        let parts = or_parts _ _ h in
        plain_at op kids p.0 t parts.0 p.2 ∙ ap (node op) (plug_all_plain kids p.0 parts.1 p.1)

    pub plug_all_plain : (es ts : Forest) → any_has is_some_dot es ≡ false → PlugAll args es ts → ts ≡ es
    plug_all_plain no_kids no_kids h p = refl
    plug_all_plain no_kids (kid t ts) h p = absurd p
    plug_all_plain (kid e es) no_kids h p = absurd p
    plug_all_plain (kid e es) (kid t ts) h p =
        let parts = or_parts _ _ h in
        let a = plug_plain e t parts.0 p.0 in
        let b = plug_all_plain es ts parts.1 p.1 in
        λ i. kid (a i) (b i)
