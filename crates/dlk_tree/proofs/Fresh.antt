-- There is always one more variable.
use Rattle.std.proofs.Math.ListN.{length-replicate}
use Rattle.std.proofs.Common.{◌≡◌, ℕ, suc, ◌<◌, List, [], ◌∷◌, ◌++◌, Bool, true, false, ◌||◌, not, length, replicate, refl, sym, ap, ◌∙◌, arith, max}
use Rattle.std.specs.Bool.{Decides}
use Rattle.std.proofs.Math.Bool.{or_assoc}
use Rattle.dlk_tree.specs.Tests.{var_eq}
use Rattle.dlk_tree.specs.Listed.{is_among}
use Rattle.dlk_tree.specs.declared.op.Var.{Var}
use Rattle.dlk_tree.proofs.Same.{var_eq_decides}

-- longer than each of their names
pub longest : List Var → ℕ
longest [] = 0
longest (v ∷ vs) = max (length v.name) (longest vs)

abbrev pub fresh : List Var → Var
fresh vars = record { name = replicate (suc (longest vars)) 97; primed = false }

replicated : (n : ℕ) → length {A = ℕ} (replicate n 97) ≡ n
replicated n = length-replicate n 97

longer_not : (v w : Var) → length w.name < length v.name → var_eq v w ≡ false
longer_not v w h = go (var_eq v w) (var_eq_decides v w)
  where
    go : (b : Bool) → Decides b (v ≡ w) → b ≡ false
    go true d = let e = ap (λ (u : Var). length u.name) (d.0 refl) in absurd (omega arith)
    go false d = refl

longer_not_among : (v : Var) (vars : List Var) → longest vars < length v.name → is_among vars v ≡ false
unfolding longest
longer_not_among v [] h = refl
longer_not_among v (w ∷ vars) h =
    rw (longer_not v w (omega arith)) (longer_not_among v vars (omega arith))

-- no list has all variables
pub fresh_not_among : (vars : List Var) → is_among vars (fresh vars) ≡ false
fresh_not_among vars = longer_not_among (fresh vars) vars (omega (arith, replicated (suc (longest vars))))

pub among_append : (v : Var) (xs ys : List Var) → is_among (xs ++ ys) v ≡ (is_among xs v || is_among ys v)
among_append v [] ys = refl
among_append v (x ∷ xs) ys = ap (λ b. var_eq v x || b) (among_append v xs ys) ∙ sym (or_assoc (var_eq v x) (is_among xs v) (is_among ys v))

pub neither : (a b : Bool) → (a || b) ≡ false → (not a ≡ true) × (not b ≡ true)
neither true b e = (cc, cc)
neither false true e = (cc, cc)
neither false false e = (refl, refl)
