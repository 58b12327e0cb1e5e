-- Of which form a tree is, is decided.
use Rattle.std.proofs.Common.{◌≡◌, ℕ, List, Bool, true, false, refl, sym, ap, ◌∙◌}
use Rattle.dlk_tree.specs.declared.op.Op.{Op}
use Rattle.dlk_tree.specs.declared.op.Op.TheVariants as Op'
use Rattle.dlk_tree.specs.declared.op.Var.{Var}
use Rattle.dlk_tree.specs.Statics.{plain}
use Rattle.dlk_tree.specs.Trees.{Tree, node, no_kids, kid, root}
use Rattle.dlk_calculus.specs.Notation.{leaf, one, two, assign}
use Rattle.dlk_calculus.proofs.Decide.{same_op}

pub is_leaf : (op : Op) (t : Tree) → Dec ((p : Unit {0}) × (t ≡ leaf op))
is_leaf op (node o no_kids) = elim (same_op o op) [ yes e ↦ yes (tt, ap leaf e) | no n ↦ no (λ h. n (ap root h.1)) ]
is_leaf op (node o (kid t ts)) = no (λ h. let e = h.1 in cc)

pub is_one : (op : Op) (t : Tree) → Dec ((f : Tree) × (t ≡ one op f))
is_one op (node o no_kids) = no (λ h. let e = h.1 in cc)
is_one op (node o (kid f no_kids)) = elim (same_op o op) [ yes e ↦ yes (f, ap (λ q. one q f) e) | no n ↦ no (λ h. n (ap root h.1)) ]
is_one op (node o (kid f (kid g ts))) = no (λ h. let e = h.1 in cc)

pub is_two : (op : Op) (t : Tree) → Dec ((p : Tree × Tree) × (t ≡ two op p.0 p.1))
is_two op (node o no_kids) = no (λ h. let e = h.1 in cc)
is_two op (node o (kid f no_kids)) = no (λ h. let e = h.1 in cc)
is_two op (node o (kid f (kid g no_kids))) = elim (same_op o op) [ yes e ↦ yes ((f, g), ap (λ q. two q f g) e) | no n ↦ no (λ h. n (ap root h.1)) ]
is_two op (node o (kid f (kid g (kid t ts)))) = no (λ h. let e = h.1 in cc)

pub same_two : (op : Op) (p q : Tree × Tree) → two op p.0 p.1 ≡ two op q.0 q.1 → p ≡ q
same_two op p q e =
    let f : p.0 ≡ q.0 = cc in
    let g : p.1 ≡ q.1 = cc in
    λ i. (f i, g i)

-- ---- operators with a name

pub is_exists : (o : Op) → Dec ((x : List ℕ) × (o ≡ Op'.Exists x))
is_exists (Op'.Exists x) = yes (x, refl)
is_exists _ = no (λ h. let e = h.1 in cc)

pub is_forall : (o : Op) → Dec ((x : List ℕ) × (o ≡ Op'.Forall x))
is_forall (Op'.Forall x) = yes (x, refl)
is_forall _ = no (λ h. let e = h.1 in cc)

is_plain : (v : Var) → Dec ((x : List ℕ) × (Op'.Assign v ≡ Op'.Assign (plain x)))
is_plain v = go v.primed refl
  where
    go : (b : Bool) → v.primed ≡ b → Dec ((x : List ℕ) × (Op'.Assign v ≡ Op'.Assign (plain x)))
    go false e = yes (v.name, λ i. Op'.Assign (record { name = v.name; primed = e i }))
    go true e = no (λ h. let k = h.1 in cc)

is_assign : (o : Op) → Dec ((x : List ℕ) × (o ≡ Op'.Assign (plain x)))
is_assign (Op'.Assign v) = is_plain v
is_assign _ = no (λ h. let e = h.1 in cc)

-- over one kid
pub is_named : (op : List ℕ → Op) → ((o : Op) → Dec ((x : List ℕ) × (o ≡ op x))) → (t : Tree) → Dec ((p : List ℕ × Tree) × (t ≡ one (op p.0) p.1))
is_named op decide (node o no_kids) = no (λ h. let e = h.1 in cc)
is_named op decide (node o (kid f no_kids)) = elim (decide o) [ yes e ↦ yes ((e.0, f), ap (λ q. one q f) e.1) | no n ↦ no (λ h. n (h.0.0, ap root h.1)) ]
is_named op decide (node o (kid f (kid g ts))) = no (λ h. let e = h.1 in cc)

pub same_named : (op : List ℕ → Op) → ((x y : List ℕ) → op x ≡ op y → x ≡ y) → (p q : List ℕ × Tree) → one (op p.0) p.1 ≡ one (op q.0) q.1 → p ≡ q
same_named op same p q e =
    let x = same p.0 q.0 (ap root e) in
    let f : p.1 ≡ q.1 = cc in
    λ i. (x i, f i)

-- over an assignment and another kid
pub is_modal : (op : Op) (t : Tree) → Dec ((p : record { x : List ℕ; e : Tree; f : Tree }) × (t ≡ two op (assign p.x p.e) p.f))
is_modal op t = elim (is_two op t) [
  | no n ↦ no (λ h. n ((assign h.0.x h.0.e, h.0.f), h.1))
  | yes p ↦ elim (is_named (λ x. Op'.Assign (plain x)) is_assign p.0.0) [
    | yes a ↦ yes (record { x = a.0.0; e = a.0.1; f = p.0.1 }, p.1 ∙ ap (λ b. two op b p.0.1) a.1)
    | no n ↦ no (λ h. n ((h.0.x, h.0.e), first p.0.0 p.0.1 (assign h.0.x h.0.e) h.0.f (sym p.1 ∙ h.1)))
  ]
]
  where
    first : (s u s' u' : Tree) → two op s u ≡ two op s' u' → s ≡ s'
    first s u s' u' e = cc
