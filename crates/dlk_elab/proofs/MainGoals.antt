-- The goals of the last row.
use Rattle.std.proofs.Common.{◌≡◌, suc, ◌≤◌, List, [], ◌∷◌, length, refl, sym, ap, ◌∙◌, arith}
use Rattle.std.specs.List.{All}
use Rattle.std.specs.Prelude.{Some}
use Rattle.std.proofs.lemmas.List.Elements.{All-head, All-tail}
use Rattle.dlk_calculus.specs.Places.{at, At}
use Rattle.dlk_calculus.specs.Provables.{Provable}
use Rattle.dlk_calculus.specs.Limits.{most_goals}
use Rattle.dlk_calculus.specs.Limited.{IsLimited}
use Rattle.dlk_calculus.proofs.PlaceLaws.{at_suc}
use Rattle.dlk_elab.specs.Outcomes.{main_goals}

at_last : (q r : Provable) (rows : List Provable) → at (q ∷ (r ∷ rows)) (length (q ∷ (r ∷ rows))) ≡ at (r ∷ rows) (length (r ∷ rows))
at_last q r rows = at_suc (q ∷ (r ∷ rows)) (suc (length rows)) ∙ sym (at_suc (r ∷ rows) (length rows))

pub last_goals : (rows : List Provable) (p : Provable) → At rows (length rows) p → main_goals rows ≡ p.goals
last_goals [] p h = absurd (cc h)
last_goals (q ∷ []) p h = let e : Some q ≡ Some p = h in let same : q ≡ p = cc in ap (λ (r : Provable). r.goals) same
last_goals (q ∷ (r ∷ rows)) p h = last_goals (r ∷ rows) p (sym (at_last q r rows) ∙ h)

pub some_last : (rows : List Provable) → 1 ≤ length rows → (p : Provable) × At rows (length rows) p
some_last [] h = absurd (omega (arith, h))
some_last (q ∷ []) h = (q, refl)
some_last (q ∷ (r ∷ rows)) h = let found = some_last (r ∷ rows) (omega arith) in (found.0, at_last q r rows ∙ found.1)

pub few_goals : (rows : List Provable) → All IsLimited rows → length (main_goals rows) ≤ most_goals
few_goals [] h = omega arith
few_goals (q ∷ []) h = (All-head IsLimited q [] h).few_goals
few_goals (q ∷ (r ∷ rows)) h = few_goals (r ∷ rows) (All-tail IsLimited q (r ∷ rows) h)

-- where the last of some items is, there are some
pub some_items : {A : Type 0} (items : List A) (x : A) → At items (length items) x → 1 ≤ length items
some_items [] x h = absurd (cc h)
some_items (y ∷ items) x h = omega arith
