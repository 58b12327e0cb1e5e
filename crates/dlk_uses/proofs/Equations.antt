-- The lines of an equation at an inner position fit, and those of a conditional equation.
use Rattle.std.proofs.Common.{◌≡◌, ℕ, ◌+◌, List, [], ◌∷◌, length, refl, sym, ap, subst, ◌∙◌, arith, false, Some}
use Rattle.std.specs.Prelude.{codes}
use Rattle.dlk_tree.specs.declared.op.Op.TheVariants as Op'
use Rattle.dlk_tree.specs.declared.op.Sort.TheVariants.{Term}
use Rattle.dlk_tree.specs.Trees.{Tree, no_kids, kid, trees_in, sort, WellMade}
use Rattle.dlk_tree.specs.Occurs.{has_dots, has_hole}
use Rattle.dlk_calculus.specs.Notation.{leaf, eq, f, p_of}
use Rattle.dlk_calculus.specs.Pairs.{Pair}
use Rattle.dlk_calculus.specs.Paths.{subtree, put_at}
use Rattle.dlk_calculus.specs.Places.{At}
use Rattle.dlk_calculus.specs.Plug.{Plug}
use Rattle.dlk_calculus.specs.Sequents.{alone_right}
use Rattle.dlk_calculus.specs.Provables.{Provable, started, assumed, applied, merged, SubstSequent}
use Rattle.dlk_calculus.specs.Rules.{CutR, imply, equiv}
use Rattle.dlk_calculus.specs.Steps.{IsGoal}
use Rattle.dlk_sequent.specs.declared.sequent.Place.{Place}
use Rattle.dlk_uses.specs.Uses.{Direction, formula_at, Spot, by_equation, by_conditional_equation, p_of_one, ◌~>◌}
use Rattle.dlk_uses.proofs.Fitting.{Fit, Added, start_fits, leaf_fits, apply_fits, substitute_fits, merge_fits, goal_kept}
use Rattle.dlk_uses.proofs.Premises.{of_cutR}
use Rattle.dlk_uses.proofs.Exchanging.{Proves, proof_kept, old_side}
use Rattle.dlk_uses.proofs.Substituted.{Makes, parts, one_kid, makes_equiv, of_fact, cq, pairs_of_cq, of_cq}
use Rattle.dlk_uses.proofs.Terms.{term_stays}
use Rattle.dlk_uses.proofs.Blocks.{PathLaws, block_fits, put_side, equivalence_fits}

-- a well-made term
pub record IsTerm (t : Tree) : Type 0 where
  pub well_made : WellMade t
  pub sort_is : sort t ≡ Term

module _ (laws : PathLaws) where
  -- the context of one argument with a term in it
  context_is : (d : Tree) (inner : List ℕ) (l : Tree) → has_dots d ≡ false → IsTerm l →
      Makes ((p_of_one ~> put_at d inner (leaf (Op'.Dot 0))) ∷ []) (p_of l) (put_at d inner l)
  context_is d inner l no_dots term t h =
      let context = put_at d inner (leaf (Op'.Dot 0)) in
      let pairs : List Pair = (p_of_one ~> context) ∷ [] in
      let x = parts pairs (Op'.Holds p_of_one) (kid l no_kids) t h in
      let o = one_kid pairs l x.new x.all in
      let same : o.one ≡ l = term_stays context l o.one term.well_made term.sort_is o.made in
      let plugged : Plug (o.one ∷ []) context t = subst (λ n. Plug (trees_in n) context t) o.are x.at in
      laws.dot d inner l t no_dots (subst (λ a. Plug (a ∷ []) context t) same plugged)

  pub equation_fits : (rows : List Provable) (now : ℕ) (spot : Spot) (place : Place) (direction : Direction) (e : Tree) (outer inner : List ℕ) (d l r : Tree) →
      now ≡ length rows → IsGoal rows spot.fact spot.goal spot.s → formula_at spot.s place ≡ Some e → has_hole e ≡ false → has_dots d ≡ false →
      subtree e outer ≡ Some d → subtree d inner ≡ Some (old_side direction l r) → IsTerm l → IsTerm r → Proves rows now (eq l r) →
      Fit rows (by_equation now spot place direction e outer inner d l r)
  equation_fits rows now spot place direction e outer inner d l r counted goal here no_hole no_dots way inside left right proof =
      let context = put_at d inner (leaf (Op'.Dot 0)) in
      let pairs : List Pair = (p_of_one ~> context) ∷ [] in
      let both = equiv (p_of l) (p_of r) in
      let made = equiv (put_at d inner l) (put_at d inner r) in
      block_fits rows now spot (codes "CQ") cq (pairs_of_cq l r) (eq l r) both _ counted refl (of_cq l r) proof goal
      (λ rows1 counted1 proof1 goal1.
      substitute_fits rows1 (now + 3) (now + 3) pairs proof1.0 _ counted1 proof1.1
      (λ row rows2 formed makes is.
      let four : now + 3 + 1 ≡ now + 4 = omega arith in
      let says : row.conclusion ≡ alone_right made = of_fact pairs both made row.conclusion
      (makes_equiv pairs (p_of l) (p_of r) (put_at d inner l) (put_at d inner r) (context_is d inner l no_dots left) (context_is d inner r no_dots right))
      (subst (λ s. SubstSequent pairs s row.conclusion) proof1.2 makes.conclusion) in
      equivalence_fits laws rows2 (now + 4) spot place direction e outer (put_at d inner l) (put_at d inner r) (sym four ∙ is.counted)
      (goal_kept rows1 rows2 (now + 3) spot.fact spot.goal row spot.s is goal1) here no_hole
      (way ∙ ap Some (sym (put_side laws direction d inner l r inside)))
      (row, subst (λ k. At rows2 k row) four is.last, says)))

  pub conditional_equation_fits : (rows : List Provable) (now : ℕ) (spot : Spot) (place : Place) (direction : Direction) (e : Tree) (outer inner : List ℕ)
      (d b l r : Tree) → now ≡ length rows → IsGoal rows spot.fact spot.goal spot.s → formula_at spot.s place ≡ Some e → has_hole e ≡ false →
      has_dots d ≡ false → subtree e outer ≡ Some d → subtree d inner ≡ Some (old_side direction l r) → IsTerm l → IsTerm r →
      Proves rows now (imply b (eq l r)) → Fit rows (by_conditional_equation now spot place direction e outer inner d b l r)
  conditional_equation_fits rows now spot place direction e outer inner d b l r counted goal here no_hole no_dots way inside left right proof =
      let s = alone_right (eq l r) in
      let f = imply b (eq l r) in
      let asked = alone_right b ∷ alone_right f ∷ [] in
      start_fits rows now s _ counted
      (λ rows1 is1.
      let proof1 = proof_kept rows rows1 now now (started s) f is1 proof in
      let goal1 = goal_kept rows rows1 now spot.fact spot.goal (started s) spot.s is1 goal in
      apply_fits rows1 (now + 1) (now + 1) 1 (CutR 1 b) (started s) s _ is1.counted is1.last refl (λ u. u.2 tt)
      (λ premises rows2 makes given.
      let row2 = applied (started s) 1 asked in
      let is2 = subst (λ x. Added rows1 (now + 1) (applied (started s) 1 x) rows2) (of_cutR s 1 b (eq l r) refl premises makes) given in
      let two : now + 1 + 1 ≡ now + 2 = omega arith in
      let proof2 = proof_kept rows1 rows2 (now + 1) now row2 f is2 proof1 in
      let goal2 = goal_kept rows1 rows2 (now + 1) spot.fact spot.goal row2 spot.s is2 goal1 in
      merge_fits rows2 (now + 2) (now + 2) 2 now row2 proof2.0 (alone_right f) _ (sym two ∙ is2.counted) (subst (λ k. At rows2 k row2) two is2.last)
      refl proof2.1 (sym proof2.2)
      (λ new rows3 is3.
      let row3 = merged row2 2 proof2.0 new in
      let three : now + 2 + 1 ≡ now + 3 = omega arith in
      let last3 = subst (λ k. At rows3 k row3) three is3.last in
      let goal3 = goal_kept rows2 rows3 (now + 2) spot.fact spot.goal row3 spot.s is3 goal2 in
      leaf_fits rows3 (now + 3) (alone_right b) _ (sym three ∙ is3.counted)
      (λ rows4 is4.
      let four : now + 3 + 1 ≡ now + 4 = omega arith in
      let row4 = assumed (alone_right b) in
      let goal4 = goal_kept rows3 rows4 (now + 3) spot.fact spot.goal row4 spot.s is4 goal3 in
      merge_fits rows4 (now + 4) (now + 3) 1 (now + 4) row3 row4 (alone_right b) _ (sym four ∙ is4.counted) (is4.keeps (now + 3) row3 last3) refl
      (subst (λ k. At rows4 k row4) four is4.last) refl
      (λ new' rows5 is5.
      let row5 = merged row3 1 row4 new' in
      let five : now + 4 + 1 ≡ now + 5 = omega arith in
      equation_fits rows5 (now + 5) spot place direction e outer inner d l r (sym five ∙ is5.counted)
      (goal_kept rows4 rows5 (now + 4) spot.fact spot.goal row5 spot.s is5 goal4) here no_hole no_dots way inside left right
      (row5, subst (λ k. At rows5 k row5) five is5.last, refl))))))
