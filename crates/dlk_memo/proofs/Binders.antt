-- Whether what a quantifier asks of what stands below it was answered.
use Rattle.std.proofs.Common.{◌≡◌, ◌↔◌, Bool, true, IsTrue, refl, sym, subst, None, Some}
use Rattle.dlk_tree.specs.declared.op.Var.{Var}
use Rattle.dlk_tree.specs.declared.op.Op.{Op}
use Rattle.dlk_tree.specs.Trees.{Forest}
use Rattle.dlk_tree.specs.Statics.{just}
use Rattle.dlk_memo.specs.Binders.{quantified, Allowed, AllowsBelow}

module _ (Admissible : (Var → Bool) → Forest → Type 0) (op : Op) (old : Forest) where
  pub asked : (v : Var) → quantified op ≡ Some v → (b : Bool) → (IsTrue b ↔ Admissible (just v) old) → IsTrue b ↔ AllowsBelow Admissible op old
  asked v is b h = subst (λ o. IsTrue b ↔ Allowed Admissible o old) (sym is) h

  pub asks_nothing : quantified op ≡ None → IsTrue true ↔ AllowsBelow Admissible op old
  asks_nothing is = subst (λ o. IsTrue true ↔ Allowed Admissible o old) (sym is) (λ _. tt, λ _. refl)
