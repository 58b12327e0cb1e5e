-- The lines of a conditional equivalence fit.
use Rattle.std.proofs.Common.{◌≡◌, ℕ, ◌+◌, List, [], ◌∷◌, length, refl, subst, arith}
use Rattle.dlk_tree.specs.Trees.{Tree}
use Rattle.dlk_calculus.specs.Places.{At, put}
use Rattle.dlk_calculus.specs.Sequents.{◌==>◌, alone_right}
use Rattle.dlk_calculus.specs.Provables.{Provable}
use Rattle.dlk_calculus.specs.Rules.{Close, Cut, CutR, CoHideR, ImplyL, ImplyR, EquivifyR, CommuteEquivR, imply, equiv}
use Rattle.dlk_calculus.specs.Steps.{Apply, Merge, IsGoal}
use Rattle.dlk_uses.specs.Uses.{Spot, by_conditional_equivalence}
use Rattle.dlk_uses.proofs.Places.{put_there}
use Rattle.dlk_uses.proofs.Fitting.{Fit, premise_fits, premises_fit, premises_fit_before, closing_fits}
use Rattle.dlk_uses.proofs.Premises.{of_cut, of_cutR, of_coHideR, of_equivifyR, of_commuteEquivR, of_implyL, of_implyR, of_close, closes}
use Rattle.dlk_uses.proofs.Exchanging.{Proves, proof_kept, last_fits}

-- from the cut with b -> (l <-> r) on: what is asked is closed twice, and then the row proves what is left
cut_off_fits : (rows : List Provable) (n k goal by : ℕ) (b l r : Tree) → n ≡ length rows → IsGoal rows n goal (b ∷ [] ==> equiv l r ∷ []) →
    Proves rows by (imply b (equiv l r)) → n + 5 ≡ k →
    Fit rows (Apply n goal (Cut (imply b (equiv l r))) ∷ Apply (n + 1) goal (ImplyL 2) ∷ Apply (n + 1 + 1) goal (Close 1 2) ∷
    Apply (n + 1 + 1 + 1) goal (Close 2 1) ∷ Apply (n + 1 + 1 + 1 + 1) goal (CoHideR 2) ∷ Merge k goal by ∷ [])
cut_off_fits rows n k goal by b l r counted g q e =
    let f = imply b (equiv l r) in
    let both = b ∷ f ∷ [] ==> equiv l r ∷ [] in
    let rest = b ∷ [] ==> equiv l r ∷ f ∷ [] in
    let asked = b ∷ [] ==> equiv l r ∷ b ∷ [] in
    let had = b ∷ equiv l r ∷ [] ==> equiv l r ∷ [] in
    premises_fit rows n n goal (Cut f) (b ∷ [] ==> equiv l r ∷ []) both rest _ counted g (λ u. u.2 tt) (of_cut (b ∷ []) (equiv l r ∷ []) f)
    (λ row1 rows1 is1 g1 h1.
    premises_fit_before rows1 (n + 1) (n + 1) goal 0 (ImplyL 2) both asked had rest _ is1.counted g1 h1 (λ u. u.2 tt)
    (of_implyL b b (equiv l r) (equiv l r ∷ []))
    (λ row2 rows2 is2 g2 h2 z2.
    closing_fits rows2 (n + 1 + 1) (n + 1 + 1) goal (Close 1 2) asked _ is2.counted g2 (closes 1 2 asked b refl refl) (of_close 1 2 asked)
    (λ rows3 row3 is3 near3.
    let g3 : IsGoal rows3 (n + 1 + 1 + 1) goal had = subst (λ i. IsGoal rows3 (n + 1 + 1 + 1) i had) (omega arith) (near3 0 had h2) in
    closing_fits rows3 (n + 1 + 1 + 1) (n + 1 + 1 + 1) goal (Close 2 1) had _ is3.counted g3 (closes 2 1 had (equiv l r) refl refl) (of_close 2 1 had)
    (λ rows4 row4 is4 near4.
    let g4 : IsGoal rows4 (n + 1 + 1 + 1 + 1) goal rest =
    subst (λ i. IsGoal rows4 (n + 1 + 1 + 1 + 1) i rest) (omega arith) (near4 0 rest (near3 1 rest z2)) in
    premise_fits rows4 (n + 1 + 1 + 1 + 1) (n + 1 + 1 + 1 + 1) goal (CoHideR 2) rest (alone_right f) _ is4.counted g4 (λ u. u.2 tt)
    (of_coHideR rest 2 f refl)
    (λ row5 rows5 is5 g5.
    last_fits rows5 (n + 1 + 1 + 1 + 1 + 1) k goal by f is5.counted
    (subst (λ i. IsGoal rows5 i goal (alone_right f)) (omega (arith, e)) g5)
    (proof_kept rows4 rows5 (n + 1 + 1 + 1 + 1) by row5 f is5
    (proof_kept rows3 rows4 (n + 1 + 1 + 1) by row4 f is4
    (proof_kept rows2 rows3 (n + 1 + 1) by row3 f is3
    (proof_kept rows1 rows2 (n + 1) by row2 f is2 (proof_kept rows rows1 n by row1 f is1 q))))))))))

pub conditional_equivalence_fits : (rows : List Provable) (now : ℕ) (spot : Spot) (j : ℕ) (b l r : Tree) → now ≡ length rows →
    IsGoal rows spot.fact spot.goal spot.s → At spot.s.succ j l → Proves rows now (imply b (equiv l r)) →
    Fit rows (by_conditional_equivalence now spot j b l r)
conditional_equivalence_fits rows now spot j b l r counted g here q =
    let f = imply b (equiv l r) in
    let third = spot.goal + 2 in
    let A = spot.s.ante in
    let S = spot.s.succ in
    let first = A ==> put S j (imply r l) in
    let second = A ==> put (put S j (imply r l)) j (imply b (imply r l)) in
    premises_fit rows now spot.fact spot.goal (CutR j r) spot.s (A ==> put S j r) first _ counted g (λ u. u.2 tt) (of_cutR spot.s j r l here)
    (λ row1 rows1 is1 g1 h1.
    premises_fit rows1 (now + 1) (now + 1) (spot.goal + 1) (CutR j b) first (A ==> put (put S j (imply r l)) j b) second _ is1.counted h1 (λ u. u.2 tt)
    (of_cutR first j b (imply r l) (put_there S j l (imply r l) here))
    (λ row2 rows2 is2 g2 h2.
    let n2 = now + 1 + 1 in
    let g2' : IsGoal rows2 n2 third second = subst (λ i. IsGoal rows2 n2 i second) (omega arith) h2 in
    premise_fits rows2 n2 n2 third (CoHideR j) second (alone_right (imply b (imply r l))) _ is2.counted g2' (λ u. u.2 tt)
    (of_coHideR second j (imply b (imply r l)) (put_there (put S j (imply r l)) j (imply r l) (imply b (imply r l)) (put_there S j l (imply r l) here)))
    (λ row3 rows3 is3 g3.
    premise_fits rows3 (n2 + 1) (n2 + 1) third (ImplyR 1) (alone_right (imply b (imply r l))) (b ∷ [] ==> imply r l ∷ []) _ is3.counted g3
    (λ u. u.2 tt) (of_implyR b (imply r l))
    (λ row4 rows4 is4 g4.
    premise_fits rows4 (n2 + 1 + 1) (n2 + 1 + 1) third (EquivifyR 1) (b ∷ [] ==> imply r l ∷ []) (b ∷ [] ==> equiv r l ∷ []) _ is4.counted g4
    (λ u. u.2 tt) (of_equivifyR (b ∷ []) r l)
    (λ row5 rows5 is5 g5.
    premise_fits rows5 (n2 + 1 + 1 + 1) (n2 + 1 + 1 + 1) third (CommuteEquivR 1) (b ∷ [] ==> equiv r l ∷ []) (b ∷ [] ==> equiv l r ∷ []) _
    is5.counted g5 (λ u. u.2 tt) (of_commuteEquivR (b ∷ []) r l)
    (λ row6 rows6 is6 g6.
    cut_off_fits rows6 (n2 + 1 + 1 + 1 + 1) (now + 11) third now b l r is6.counted g6
    (proof_kept rows5 rows6 (n2 + 1 + 1 + 1) now row6 f is6
    (proof_kept rows4 rows5 (n2 + 1 + 1) now row5 f is5
    (proof_kept rows3 rows4 (n2 + 1) now row4 f is4
    (proof_kept rows2 rows3 n2 now row3 f is3
    (proof_kept rows1 rows2 (now + 1) now row2 f is2 (proof_kept rows rows1 now now row1 f is1 q))))))
    (omega arith)))))))
