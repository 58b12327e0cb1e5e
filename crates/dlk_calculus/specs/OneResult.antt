-- A tree has at most one result.
use Rattle.std.proofs.Common.{◌≡◌, refl, sym, subst, ◌∙◌, List, Option, None, Some}
use Rattle.dlk_tree.specs.declared.op.Sym.{Sym}
use Rattle.dlk_tree.specs.declared.op.Op.{Op}
use Rattle.dlk_tree.specs.declared.op.Op.TheVariants as Op'
use Rattle.dlk_tree.specs.Trees.{Tree, node, Forest, no_kids, kid, trees_in}
use Rattle.dlk_tree.specs.Statics.{all}
use Rattle.dlk_calculus.specs.Kids.{first}
use Rattle.dlk_calculus.specs.Captures.{Stays}
use Rattle.dlk_calculus.specs.Pairs.{Pair, replacement}
use Rattle.dlk_calculus.specs.Plug.{PlugAt, Plug, PlugAll, filled}
use Rattle.dlk_calculus.specs.Subst.{IsAdmissible, Replaced, SubstAt, Subst, SubstAll}

one_some : {A : Type 0} {o : Option A} {s t : A} → o ≡ Some s → o ≡ Some t → s ≡ t
one_some p q = cc

one_plug_at : (args : List Tree) (op : Op) (old new : Forest) (s t : Tree) → PlugAt args op old new s → PlugAt args op old new t → s ≡ t
one_plug_at args (Op'.Dot n) old new s t p q = one_some p q
one_plug_at args _ old new s t p q = p.1 ∙ sym q.1

mutual
  pub one_plug : (args : List Tree) (r s t : Tree) → Plug args r s → Plug args r t → s ≡ t
  one_plug args (node op kids) s t p q =
      let same = one_plug_all args kids p.0 q.0 p.1 q.1 in
      one_plug_at args op kids p.0 s t p.2 (subst (λ new. PlugAt args op kids new t) (sym same) q.2)

  pub one_plug_all : (args : List Tree) (rs ss ts : Forest) → PlugAll args rs ss → PlugAll args rs ts → ss ≡ ts
  one_plug_all args no_kids no_kids no_kids p q = refl
  one_plug_all args no_kids (kid s ss) ts p q = absurd p
  one_plug_all args no_kids no_kids (kid t ts) p q = absurd q
  one_plug_all args (kid r rs) no_kids ts p q = absurd p
  one_plug_all args (kid r rs) (kid s ss) no_kids p q = absurd q
  one_plug_all args (kid r rs) (kid s ss) (kid t ts) p q =
      let a = one_plug args r s t p.0 q.0 in
      let b = one_plug_all args rs ss ts p.1 q.1 in
      λ i. kid (a i) (b i)

module _ (pairs : List Pair) where
  -- where with a replacement there is one result, and the operator stays without
  one_replaced : (o : Option Tree) (op : Op) (old new : Forest) (With : Tree → Tree → Type 0) (s t : Tree) → ((r : Tree) → With r s → With r t → s ≡ t)
      → Replaced o (λ r. With r s) (Stays (IsAdmissible pairs) op old new s) → Replaced o (λ r. With r t) (Stays (IsAdmissible pairs) op old new t) → s ≡ t
  one_replaced (Some r) op old new With s t with p q = with r p q
  one_replaced None op old new With s t with p q = p.1 ∙ sym q.1

  one_given : (f : Sym) (op : Op) (old new : Forest) (s t : Tree) → Replaced (replacement pairs f) (λ r. s ≡ r) (Stays (IsAdmissible pairs) op old new s)
      → Replaced (replacement pairs f) (λ r. t ≡ r) (Stays (IsAdmissible pairs) op old new t) → s ≡ t
  one_given f op old new s t p q = one_replaced (replacement pairs f) op old new (λ r u. u ≡ r) s t (λ r a b. a ∙ sym b) p q

  one_plugged : (f : Sym) (op : Op) (old new : Forest) (s t : Tree) →
      Replaced (replacement pairs f) (λ r. Plug (trees_in new) r s) (Stays (IsAdmissible pairs) op old new s)
      → Replaced (replacement pairs f) (λ r. Plug (trees_in new) r t) (Stays (IsAdmissible pairs) op old new t) → s ≡ t
  one_plugged f op old new s t p q =
      one_replaced (replacement pairs f) op old new (λ r u. Plug (trees_in new) r u) s t (λ r a b. one_plug (trees_in new) r s t a b) p q

  pub one_subst_at : (op : Op) (old new : Forest) (s t : Tree) → SubstAt pairs op old new s → SubstAt pairs op old new t → s ≡ t
  one_subst_at (Op'.UnitFun f) old new s t p q = one_given f (Op'.UnitFun f) old new s t p q
  one_subst_at (Op'.UnitPred f) old new s t p q = one_given f (Op'.UnitPred f) old new s t p q
  one_subst_at (Op'.Const f) old new s t p q = one_given f (Op'.Const f) old new s t p q
  one_subst_at (Op'.Apply f) old new s t p q = one_plugged f (Op'.Apply f) old new s t p q
  one_subst_at (Op'.Holds f) old new s t p q = one_plugged f (Op'.Holds f) old new s t p q
  one_subst_at (Op'.Predicational f) old new s t p q =
      one_replaced (replacement pairs f) (Op'.Predicational f) old new (λ r u. IsAdmissible pairs all old × (u ≡ filled (first new) r)) s t
      (λ r a b. a.1 ∙ sym b.1) p q
  one_subst_at _ old new s t p q = p.1 ∙ sym q.1

  mutual
    pub one_subst : (e s t : Tree) → Subst pairs e s → Subst pairs e t → s ≡ t
    one_subst (node op kids) s t p q =
        let same = one_subst_all kids p.0 q.0 p.1 q.1 in
        one_subst_at op kids p.0 s t p.2 (subst (λ new. SubstAt pairs op kids new t) (sym same) q.2)

    pub one_subst_all : (es ss ts : Forest) → SubstAll pairs es ss → SubstAll pairs es ts → ss ≡ ts
    one_subst_all no_kids no_kids no_kids p q = refl
    one_subst_all no_kids (kid s ss) ts p q = absurd p
    one_subst_all no_kids no_kids (kid t ts) p q = absurd q
    one_subst_all (kid e es) no_kids ts p q = absurd p
    one_subst_all (kid e es) (kid s ss) no_kids p q = absurd q
    one_subst_all (kid e es) (kid s ss) (kid t ts) p q =
        let a = one_subst e s t p.0 q.0 in
        let b = one_subst_all es ss ts p.1 q.1 in
        λ i. kid (a i) (b i)
