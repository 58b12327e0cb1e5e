-- The lines of an equivalence at an inner position, of an equation and of a conditional equation fit.
use Rattle.std.proofs.Common.{◌≡◌, ℕ, ◌+◌, List, [], ◌∷◌, length, refl, sym, ap, subst, ◌∙◌, arith, false, Some}
use Rattle.std.specs.Prelude.{codes}
use Rattle.dlk_tree.specs.declared.op.Op.TheVariants as Op'
use Rattle.dlk_tree.specs.Trees.{Tree, node, no_kids}
use Rattle.dlk_tree.specs.Occurs.{has_dots, has_hole}
use Rattle.dlk_calculus.specs.Axioms.{AxiomaticRule, rule_named}
use Rattle.dlk_calculus.specs.Notation.{leaf}
use Rattle.dlk_calculus.specs.Pairs.{Pair}
use Rattle.dlk_calculus.specs.Paths.{subtree, put_at}
use Rattle.dlk_calculus.specs.Places.{At}
use Rattle.dlk_calculus.specs.Plug.{Plug, filled}
use Rattle.dlk_calculus.specs.Sequents.{alone_right}
use Rattle.dlk_calculus.specs.Provables.{Provable, inferred, merged, Substitutes}
use Rattle.dlk_calculus.specs.Rules.{equiv}
use Rattle.dlk_calculus.specs.Steps.{Step, UseRule, Merge, Substitute, IsGoal}
use Rattle.dlk_sequent.specs.declared.sequent.Place.{Place}
use Rattle.dlk_uses.specs.Uses.{Direction, Forwards, Backwards, formula_at, Spot, by_equivalence}
use Rattle.dlk_uses.proofs.Fitting.{Fit, rule_fits, substitute_fits, merge_fits, goal_kept}
use Rattle.dlk_uses.proofs.Exchanging.{Proves, proof_kept, old_side, exchange_fits}
use Rattle.dlk_uses.proofs.Substituted.{ce, pairs_of_ce, of_ce}

-- An axiomatic rule with replacements, whose premise a row proves: what it concludes is proved.
pub block_fits : (rows : List Provable) (now : ℕ) (spot : Spot) (name : List ℕ) (r : AxiomaticRule) (pairs : List Pair) (a b : Tree) (steps : List Step) →
    now ≡ length rows → rule_named name ≡ Some r →
    ((row : Provable) → Substitutes pairs (inferred r.premise r.conclusion) row → (row.conclusion ≡ alone_right b) × (row.goals ≡ alone_right a ∷ [])) →
    Proves rows now a → IsGoal rows spot.fact spot.goal spot.s →
    ((after : List Provable) → now + 3 ≡ length after → Proves after (now + 3) b → IsGoal after spot.fact spot.goal spot.s → Fit after steps) →
    Fit rows (UseRule name ∷ Substitute (now + 1) pairs ∷ Merge (now + 2) 1 now ∷ steps)
block_fits rows now spot name r pairs a b steps counted named makes proof goal others =
    rule_fits rows now name r _ counted named
    (λ rows1 is1.
    substitute_fits rows1 (now + 1) (now + 1) pairs (inferred r.premise r.conclusion) _ is1.counted is1.last
    (λ row2 rows2 formed made is2.
    let two : now + 1 + 1 ≡ now + 2 = omega arith in
    let its = makes row2 made in
    let at : At rows2 (now + 2) row2 = subst (λ k. At rows2 k row2) two is2.last in
    let first : At row2.goals 1 (alone_right a) = subst (λ l. At l 1 (alone_right a)) (sym its.1) refl in
    let proof2 = proof_kept rows1 rows2 (now + 1) now row2 a is2 (proof_kept rows rows1 now now (inferred r.premise r.conclusion) a is1 proof) in
    let goal2 = goal_kept rows1 rows2 (now + 1) spot.fact spot.goal row2 spot.s is2
    (goal_kept rows rows1 now spot.fact spot.goal (inferred r.premise r.conclusion) spot.s is1 goal) in
    merge_fits rows2 (now + 2) (now + 2) 1 now row2 proof2.0 (alone_right a) steps (sym two ∙ is2.counted) at first proof2.1 (sym proof2.2)
    (λ new rows3 is3.
    let three : now + 2 + 1 ≡ now + 3 = omega arith in
    let row3 = merged row2 1 proof2.0 new in
    others rows3 (sym three ∙ is3.counted)
    (row3, subst (λ k. At rows3 k row3) three is3.last, its.0)
    (goal_kept rows2 rows3 (now + 2) spot.fact spot.goal row3 spot.s is3 goal2))))

-- laws of paths
pub record PathLaws : Type 0 where
  pub itself : (e : Tree) (path : List ℕ) (s : Tree) → subtree e path ≡ Some s → put_at e path s ≡ e
  pub hole : (e : Tree) (path : List ℕ) (f : Tree) → has_hole e ≡ false → filled f (put_at e path (node Op'.Hole no_kids)) ≡ put_at e path f
  pub dot : (e : Tree) (path : List ℕ) (a t : Tree) → has_dots e ≡ false → Plug (a ∷ []) (put_at e path (node (Op'.Dot 0) no_kids)) t → t ≡ put_at e path a

module _ (laws : PathLaws) where
  pub put_side : (direction : Direction) (e : Tree) (path : List ℕ) (l r : Tree) → subtree e path ≡ Some (old_side direction l r) →
      old_side direction (put_at e path l) (put_at e path r) ≡ e
  put_side Forwards e path l r h = laws.itself e path l h
  put_side Backwards e path l r h = laws.itself e path r h

  pub equivalence_fits : (rows : List Provable) (now : ℕ) (spot : Spot) (place : Place) (direction : Direction) (e : Tree) (path : List ℕ) (l r : Tree) →
      now ≡ length rows → IsGoal rows spot.fact spot.goal spot.s → formula_at spot.s place ≡ Some e → has_hole e ≡ false →
      subtree e path ≡ Some (old_side direction l r) → Proves rows now (equiv l r) → Fit rows (by_equivalence now spot place direction e path l r)
  equivalence_fits rows now spot place Forwards e path l r counted goal here no_hole inside proof =
      let k = put_at e path (leaf Op'.Hole) in
      block_fits rows now spot (codes "CE") ce (pairs_of_ce l r k) (equiv l r) (equiv (filled l k) (filled r k)) _ counted refl (of_ce l r k) proof goal
      (λ after counted' proof' goal'.
      exchange_fits after (now + 3) (now + 3) spot place Forwards (put_at e path l) (put_at e path r) counted' goal'
      (here ∙ ap Some (sym (put_side Forwards e path l r inside)))
      (subst (λ x. Proves after (now + 3) (equiv x (put_at e path r))) (laws.hole e path l no_hole)
      (subst (λ x. Proves after (now + 3) (equiv (filled l k) x)) (laws.hole e path r no_hole) proof')))
  equivalence_fits rows now spot place Backwards e path l r counted goal here no_hole inside proof =
      let k = put_at e path (leaf Op'.Hole) in
      block_fits rows now spot (codes "CE") ce (pairs_of_ce l r k) (equiv l r) (equiv (filled l k) (filled r k)) _ counted refl (of_ce l r k) proof goal
      (λ after counted' proof' goal'.
      exchange_fits after (now + 3) (now + 3) spot place Backwards (put_at e path l) (put_at e path r) counted' goal'
      (here ∙ ap Some (sym (put_side Backwards e path l r inside)))
      (subst (λ x. Proves after (now + 3) (equiv x (put_at e path r))) (laws.hole e path l no_hole)
      (subst (λ x. Proves after (now + 3) (equiv (filled l k) x)) (laws.hole e path r no_hole) proof')))
