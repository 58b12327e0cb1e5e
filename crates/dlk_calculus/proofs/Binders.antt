-- Another name for a bound variable: there is at most one result, and whether there is one doesn't hang on the name.
use Rattle.std.proofs.Common.{◌≡◌, ℕ, List, refl, ap, ◌⊎◌, inl, inr}
use Rattle.dlk_tree.specs.declared.op.Op.TheVariants as Op'
use Rattle.dlk_tree.specs.declared.op.Var.{Var}
use Rattle.dlk_tree.specs.Statics.{plain}
use Rattle.dlk_tree.specs.Trees.{Tree}
use Rattle.dlk_calculus.specs.Notation.{forall, exists, box, dia, assign}
use Rattle.dlk_calculus.specs.Rename.{swap, RenamesBound, in_forall, in_exists, in_box, in_dia, Bound}
use Rattle.dlk_calculus.proofs.Forms.{is_exists, is_forall, is_named, is_modal}

-- what a formula is that binds x over f
abbrev pub Binds : List ℕ → Tree → Tree → Type 0
Binds x f t = (t ≡ forall x f) ⊎ (t ≡ exists x f) ⊎ ((e : Tree) × (t ≡ box (assign x e) f)) ⊎ ((e : Tree) × (t ≡ dia (assign x e) f))

pub binds : {x y : List ℕ} {f t u : Tree} → RenamesBound x y f t u → Binds x f t
binds in_forall = inl refl
binds in_exists = inr (inl refl)
binds (in_box e) = inr (inr (inl (e, refl)))
binds (in_dia e) = inr (inr (inr (e, refl)))

-- ---- at most one

pub record SameBound (x z : List ℕ) (f g u v : Tree) : Type 0 where
  pub x_is : x ≡ z
  pub f_is : f ≡ g
  pub u_is : u ≡ v

pub one_bound : {x z y : List ℕ} {f g t s u v : Tree} → RenamesBound x y f t u → RenamesBound z y g s v → t ≡ s → SameBound x z f g u v
one_bound {x} {z} {y} {f} {g} in_forall in_forall e =
    let x_is : x ≡ z = cc in
    let f_is : f ≡ g = cc in
    record { x_is = x_is; f_is = f_is; u_is = λ i. forall y (swap (x_is i) y (f_is i)) }
one_bound {x} {z} {y} {f} {g} in_exists in_exists e =
    let x_is : x ≡ z = cc in
    let f_is : f ≡ g = cc in
    record { x_is = x_is; f_is = f_is; u_is = λ i. exists y (swap (x_is i) y (f_is i)) }
one_bound {x} {z} {y} {f} {g} (in_box a) (in_box b) e =
    let v_is : plain x ≡ plain z = cc in
    let x_is = ap (λ (v : Var). v.name) v_is in
    let e_is : a ≡ b = cc in
    let f_is : f ≡ g = cc in
    record { x_is = x_is; f_is = f_is; u_is = λ i. box (assign y (e_is i)) (swap (x_is i) y (f_is i)) }
one_bound {x} {z} {y} {f} {g} (in_dia a) (in_dia b) e =
    let v_is : plain x ≡ plain z = cc in
    let x_is = ap (λ (v : Var). v.name) v_is in
    let e_is : a ≡ b = cc in
    let f_is : f ≡ g = cc in
    record { x_is = x_is; f_is = f_is; u_is = λ i. dia (assign y (e_is i)) (swap (x_is i) y (f_is i)) }
one_bound _ _ e = absurd (cc e)

pub one_renamed : {x z y : List ℕ} {f g t u v : Tree} → RenamesBound x y f t u → RenamesBound z y g t v → SameBound x z f g u v
one_renamed p q = one_bound p q refl

-- ---- some, or none

-- with another name
pub another_name : {x y : List ℕ} {f t u : Tree} → RenamesBound x y f t u → (z : List ℕ) → (v : Tree) × RenamesBound x z f t v
another_name in_forall z = (_, in_forall)
another_name in_exists z = (_, in_exists)
another_name (in_box e) z = (_, in_box e)
another_name (in_dia e) z = (_, in_dia e)

pub one_binding : {y : List ℕ} {t s : Tree} (p q : Bound) → t ≡ s → RenamesBound p.x y p.f t p.g → RenamesBound q.x y q.f s q.g → p ≡ q
one_binding p q e a b =
    let same = one_bound a b e in
    λ i. record { x = same.x_is i; f = same.f_is i; g = same.u_is i }

pub bound_decided : (y : List ℕ) (t : Tree) → Dec ((p : Bound) × RenamesBound p.x y p.f t p.g)
bound_decided y t = elim (is_named Op'.Forall is_forall t) [
  | yes a ↦ yes (record { x = a.0.0; f = a.0.1; g = forall y (swap a.0.0 y a.0.1) }, rw a.1 in_forall)
  | no m ↦ elim (is_named Op'.Exists is_exists t) [
    | yes a ↦ yes (record { x = a.0.0; f = a.0.1; g = exists y (swap a.0.0 y a.0.1) }, rw a.1 in_exists)
    | no n ↦ elim (is_modal Op'.Box t) [
      | yes a ↦ yes (record { x = a.0.x; f = a.0.f; g = box (assign y a.0.e) (swap a.0.x y a.0.f) }, rw a.1 (in_box a.0.e))
      | no k ↦ elim (is_modal Op'.Dia t) [
        | yes a ↦ yes (record { x = a.0.x; f = a.0.f; g = dia (assign y a.0.e) (swap a.0.x y a.0.f) }, rw a.1 (in_dia a.0.e))
        | no l ↦ no (λ h. elim (binds h.1) [
          | inl e ↦ m ((h.0.x, h.0.f), e)
          | inr r ↦ elim r [
            | inl e ↦ n ((h.0.x, h.0.f), e)
            | inr q ↦ elim q [
              | inl e ↦ k (record { x = h.0.x; e = e.0; f = h.0.f }, e.1)
              | inr e ↦ l (record { x = h.0.x; e = e.0; f = h.0.f }, e.1)
            ]
          ]
        ])
      ]
    ]
  ]
]
