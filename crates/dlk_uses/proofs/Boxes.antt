-- The lines of the atoms for boxes fit.
use Rattle.std.proofs.Common.{◌≡◌, ℕ, ◌+◌, List, [], ◌∷◌, length, refl, sym, subst, ◌∙◌, arith}
use Rattle.std.specs.Prelude.{codes}
use Rattle.dlk_tree.specs.Trees.{Tree}
use Rattle.dlk_calculus.specs.declared.form.AxiomForm.TheVariants.{I}
use Rattle.dlk_calculus.specs.Axioms.{Axiom, AxiomaticRule}
use Rattle.dlk_calculus.specs.Notation.{a, p, q, box}
use Rattle.dlk_calculus.specs.Places.{At, put, put_all}
use Rattle.dlk_calculus.specs.Sequents.{◌==>◌, alone_right}
use Rattle.dlk_calculus.specs.Provables.{Provable, inferred, known, merged}
use Rattle.dlk_calculus.specs.Rules.{CutR, CoHideR, ImplyR, imply}
use Rattle.dlk_calculus.specs.Steps.{Step, UseRule, Apply, Merge, Substitute, IsGoal}
use Rattle.dlk_uses.specs.Uses.{Spot, generalizing, cutting_box}
use Rattle.dlk_calculus.proofs.PlaceLaws.{at_one}
use Rattle.dlk_uses.proofs.Places.{put_first, put_before, put_there}
use Rattle.dlk_uses.proofs.Fitting.{Fit, axiom_fits, rule_fits, substitute_fits, premise_fits, premises_fit, merge_fits, goal_kept, no_steps}
use Rattle.dlk_uses.proofs.Premises.{of_cutR, of_coHideR, of_implyR}
use Rattle.dlk_uses.proofs.Exchanging.{Proves, proof_kept, last_fits}
use Rattle.dlk_uses.proofs.Substituted.{pairs_of_g, of_g, pairs_of_k, of_k}

abbrev g : AxiomaticRule
g = record { name = codes "G"; premise = p; conclusion = box a p }

-- the row proves the box from the formula alone
abbrev Generalizes : List Provable → ℕ → (b f : Tree) → Type 0
Generalizes rows m b f = (row : Provable) × At rows m row × (row.conclusion ≡ alone_right (box b f)) × (row.goals ≡ alone_right f ∷ [])

g_fits : (rows : List Provable) (n m : ℕ) (b f : Tree) (steps : List Step) → n ≡ length rows → n + 1 ≡ m →
    ((after : List Provable) → n + 2 ≡ length after → Generalizes after (n + 2) b f → ((k : ℕ) (x : Provable) → At rows k x → At after k x) → Fit after steps) →
    Fit rows (UseRule (codes "G") ∷ Substitute m (pairs_of_g b f) ∷ steps)
g_fits rows n m b f steps counted one others =
    rule_fits rows n (codes "G") g _ counted refl
    (λ rows1 is1.
    substitute_fits rows1 (n + 1) m (pairs_of_g b f) (inferred p (box a p)) steps is1.counted (subst (λ i. At rows1 i (inferred p (box a p))) one is1.last)
    (λ row rows2 formed made is2.
    let two : n + 1 + 1 ≡ n + 2 = omega arith in
    let its = of_g b f row made in
    others rows2 (sym two ∙ is2.counted) (row, subst (λ k. At rows2 k row) two is2.last, its.0, its.1) (λ k x h. is2.keeps k x (is1.keeps k x h))))

pub generalizing_fits : (rows : List Provable) (now : ℕ) (spot : Spot) (j : ℕ) (b f : Tree) → now ≡ length rows →
    IsGoal rows spot.fact spot.goal spot.s → At spot.s.succ j (box b f) → Fit rows (generalizing now spot j b f)
generalizing_fits rows now spot j b f counted goal here =
    g_fits rows now (now + 1) b f _ counted refl
    (λ rows2 counted2 row keeps.
    let goal2 : IsGoal rows2 spot.fact spot.goal spot.s = (goal.0, keeps spot.fact goal.0 goal.1, goal.2) in
    premise_fits rows2 (now + 2) spot.fact spot.goal (CoHideR j) spot.s (alone_right (box b f)) _ counted2 goal2 (λ u. u.2 tt)
    (of_coHideR spot.s j (box b f) here)
    (λ row3 rows3 is3 goal3.
    let three : now + 2 + 1 ≡ now + 3 = omega arith in
    last_fits rows3 (now + 3) (now + 3) spot.goal (now + 2) (box b f) (sym three ∙ is3.counted)
    (subst (λ k. IsGoal rows3 k spot.goal (alone_right (box b f))) three goal3) (row.0, is3.keeps (now + 2) row.0 row.1, row.2)))

abbrev k : Axiom
k = record { name = codes "K"; form = I; own_names = []; formula = imply (box a (imply p q)) (imply (box a p) (box a q)) }

-- from the first cut on
cuts_fit : (rows : List Provable) (now : ℕ) (spot : Spot) (j : ℕ) (b f h : Tree) → now + 4 ≡ length rows → IsGoal rows spot.fact spot.goal spot.s →
    At spot.s.succ j (box b f) → Proves rows (now + 2) (imply (box b (imply h f)) (imply (box b h) (box b f))) → Generalizes rows (now + 4) b (imply h f) →
    Fit rows (Apply spot.fact spot.goal (CutR j (box b h)) ∷ Apply (now + 5) (spot.goal + 1) (CoHideR j) ∷
    Apply (now + 6) (spot.goal + 1) (CutR 1 (box b (imply h f))) ∷ Merge (now + 7) (spot.goal + 2) (now + 2) ∷
    Merge (now + 8) (spot.goal + 1) (now + 4) ∷ Apply (now + 9) (spot.goal + 1) (ImplyR 1) ∷ [])
cuts_fit rows now spot j b f h counted goal here proof row =
    let second = spot.goal + 1 in
    let cut = imply (box b h) (box b f) in
    let more = box b (imply h f) in
    let whole = imply more cut in
    let hidden = spot.s.ante ==> put spot.s.succ j cut in
    premises_fit rows (now + 4) spot.fact spot.goal (CutR j (box b h)) spot.s (spot.s.ante ==> put spot.s.succ j (box b h)) hidden _ counted goal
    (λ u. u.2 tt) (of_cutR spot.s j (box b h) (box b f) here)
    (λ row5 rows5 is5 g5 h5.
    let five : now + 4 + 1 ≡ now + 5 = omega arith in
    premise_fits rows5 (now + 5) (now + 5) second (CoHideR j) hidden (alone_right cut) _ (sym five ∙ is5.counted)
    (subst (λ i. IsGoal rows5 i second hidden) five h5) (λ u. u.2 tt) (of_coHideR hidden j cut (put_there spot.s.succ j (box b f) cut here))
    (λ row6 rows6 is6 g6.
    let six : now + 5 + 1 ≡ now + 6 = omega arith in
    premises_fit rows6 (now + 6) (now + 6) second (CutR 1 more) (alone_right cut) (alone_right more) (alone_right whole) _ (sym six ∙ is6.counted)
    (subst (λ i. IsGoal rows6 i second (alone_right cut)) six g6) (λ u. u.2 tt) (of_cutR (alone_right cut) 1 more cut refl)
    (λ row7 rows7 is7 g7 h7.
    let seven : now + 6 + 1 ≡ now + 7 = omega arith in
    let proof7 = proof_kept rows6 rows7 (now + 6) (now + 2) row7 whole is7
    (proof_kept rows5 rows6 (now + 5) (now + 2) row6 whole is6 (proof_kept rows rows5 (now + 4) (now + 2) row5 whole is5 proof)) in
    let at7 : At rows7 (now + 4) row.0 = is7.keeps (now + 4) row.0 (is6.keeps (now + 4) row.0 (is5.keeps (now + 4) row.0 row.1)) in
    let last7 : At rows7 (now + 7) h7.0 = subst (λ i. At rows7 i h7.0) seven h7.1 in
    let same : g7.0 ≡ h7.0 = at_one rows7 (now + 6 + 1) g7.0 h7.0 g7.1 h7.1 in
    let other : At h7.0.goals second (alone_right more) = subst (λ (x : Provable). At x.goals second (alone_right more)) same g7.2 in
    let third : second + 1 ≡ spot.goal + 2 = omega arith in
    let there : At h7.0.goals (spot.goal + 2) (alone_right whole) = subst (λ i. At h7.0.goals i (alone_right whole)) third h7.2 in
    merge_fits rows7 (now + 7) (now + 7) (spot.goal + 2) (now + 2) h7.0 proof7.0 (alone_right whole) _ (sym seven ∙ is7.counted) last7 there proof7.1
    (sym proof7.2)
    (λ new rows8 is8.
    let eight : now + 7 + 1 ≡ now + 8 = omega arith in
    let row8 = merged h7.0 (spot.goal + 2) proof7.0 new in
    let still : At row8.goals second (alone_right more) =
    put_before h7.0.goals (spot.goal + 2) proof7.0.goals second (alone_right more) other (omega arith) in
    merge_fits rows8 (now + 8) (now + 8) second (now + 4) row8 row.0 (alone_right more) _ (sym eight ∙ is8.counted)
    (subst (λ i. At rows8 i row8) eight is8.last) still (is8.keeps (now + 4) row.0 at7) (sym row.2)
    (λ new' rows9 is9.
    let nine : now + 8 + 1 ≡ now + 9 = omega arith in
    let row9 = merged row8 second row.0 new' in
    let left : At row9.goals second (alone_right (imply h f)) =
    subst (λ l. At (put_all row8.goals second l) second (alone_right (imply h f))) (sym row.3)
    (put_first row8.goals second (alone_right more) (alone_right (imply h f)) [] still) in
    premise_fits rows9 (now + 9) (now + 9) second (ImplyR 1) (alone_right (imply h f)) (h ∷ [] ==> f ∷ []) [] (sym nine ∙ is9.counted)
    (row9, subst (λ i. At rows9 i row9) nine is9.last, left) (λ u. u.2 tt) (of_implyR h f) (λ last after is g'. no_steps after))))))

pub cutting_box_fits : (rows : List Provable) (now : ℕ) (spot : Spot) (j : ℕ) (b f h : Tree) → now ≡ length rows →
    IsGoal rows spot.fact spot.goal spot.s → At spot.s.succ j (box b f) → Fit rows (cutting_box now spot j b f h)
cutting_box_fits rows now spot j b f h counted goal here =
    let second = spot.goal + 1 in
    let third = spot.goal + 2 in
    let cut = imply (box b h) (box b f) in
    let whole = imply (box b (imply h f)) cut in
    axiom_fits rows now (codes "K") k _ counted refl
    (λ rows1 is1.
    substitute_fits rows1 (now + 1) (now + 1) (pairs_of_k b h f) (known k.formula) _ is1.counted is1.last
    (λ row2 rows2 formed made is2.
    let two : now + 1 + 1 ≡ now + 2 = omega arith in
    let proof2 : Proves rows2 (now + 2) whole = (row2, subst (λ i. At rows2 i row2) two is2.last, of_k b h f row2.conclusion made.conclusion) in
    let goal2 = goal_kept rows1 rows2 (now + 1) spot.fact spot.goal row2 spot.s is2
    (goal_kept rows rows1 now spot.fact spot.goal (known k.formula) spot.s is1 goal) in
    g_fits rows2 (now + 2) (now + 3) b (imply h f) _ (sym two ∙ is2.counted) (omega arith)
    (λ rows4 counted4 row4 keeps.
    let four : now + 2 + 2 ≡ now + 4 = omega arith in
    let goal4 : IsGoal rows4 spot.fact spot.goal spot.s = (goal2.0, keeps spot.fact goal2.0 goal2.1, goal2.2) in
    let proof4 : Proves rows4 (now + 2) whole = (proof2.0, keeps (now + 2) proof2.0 proof2.1, proof2.2) in
    cuts_fit rows4 now spot j b f h (sym four ∙ counted4) goal4 here proof4 (subst (λ i. Generalizes rows4 i b (imply h f)) four row4))))
