-- The unprimed variable of each primed one is numbered.
use Rattle.std.proofs.Common.{◌≡◌, ℕ, Bool, true, false, cond, ◌||◌, List, [], ◌∷◌, ◌++◌, Result, Ok, Err, OnOk, OnErr, refl, sym, ap, subst, ◌∙◌}
use Rattle.std.proofs.lemmas.List.Folds.{list_any-append}
use Rattle.dlk_tree.specs.Listed.{is_among}
use Rattle.dlk_tree.specs.Statics.{plain, prime}
use Rattle.dlk_tree.specs.Tests.{var_eq}
use Rattle.dlk_tree.specs.declared.op.Var.{Var}
use Rattle.dlk_vars.specs.Tables.{numbered}
use Rattle.dlk_vars.proofs.Numbering.{var_same}
use Rattle.dlk_shared.specs.SetTables.{ArePlainToo}

pub or_true : (a b : Bool) → a ≡ true → (a || b) ≡ true
or_true a b e = ap (λ c. c || b) e

pub no_more : (b : Bool) → (b || false) ≡ b
no_more true = refl
no_more false = refl

-- one more variable at the end
more_among : (vars : List Var) (v w : Var) → is_among (vars ++ v ∷ []) w ≡ (is_among vars w || var_eq w v)
more_among vars v w = list_any-append (var_eq w) vars (v ∷ []) ∙ ap (λ b. is_among vars w || b) (no_more (var_eq w v))

module _ (vars : List Var) (v : Var) (closed : ArePlainToo vars) (too : v.primed ≡ true → is_among vars (plain v.name) ≡ true) where
  more_plain_too : ArePlainToo (vars ++ v ∷ [])
  more_plain_too = record { plain_too = λ x h. more_among vars v (plain x) ∙ by x (is_among vars (prime x)) refl (sym (more_among vars v (prime x)) ∙ h) }
    where
      by : (x : List ℕ) (b : Bool) → is_among vars (prime x) ≡ b → (is_among vars (prime x) || var_eq (prime x) v) ≡ true
          → (is_among vars (plain x) || var_eq (plain x) v) ≡ true
      by x true e h = or_true (is_among vars (plain x)) (var_eq (plain x) v) (closed.plain_too x e)
      by x false e h =
          let is : prime x ≡ v = var_same (prime x) v (ap (λ b. b || var_eq (prime x) v) (sym e) ∙ h) in
          let there : is_among vars (plain v.name) ≡ true = too (ap (λ (w : Var). w.primed) (sym is)) in
          or_true (is_among vars (plain x)) (var_eq (plain x) v) (ap (λ (w : Var). is_among vars (plain w.name)) is ∙ there)

  pub numbered_plain_too : ArePlainToo (numbered vars v)
  numbered_plain_too = elim (is_among vars v) as (λ b. ArePlainToo (cond b vars (vars ++ v ∷ []))) [ true ↦ closed | false ↦ more_plain_too ]

  pub tried_plain_too : {T E : Type 0} (r : Result T E) (new : List Var) → OnOk r (new ≡ numbered vars v) → OnErr r (new ≡ vars) → ArePlainToo new
  tried_plain_too (Ok n) new ok err = subst ArePlainToo (sym ok) numbered_plain_too
  tried_plain_too (Err e) new ok err = subst ArePlainToo (sym err) closed
