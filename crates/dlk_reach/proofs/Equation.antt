-- An equation that a row proves, and a conditional one, is used in the smallest formula round a place: the steps are taken.
use Rattle.std.proofs.Common.{◌≡◌, ℕ, ◌+◌, ◌≤◌, List, [], ◌∷◌, ◌++◌, length, refl, sym, subst, ◌∙◌, arith, Some, false, Bool, inl, inr}
use Rattle.std.specs.Prelude.{codes, IsTrue, ◌&&◌}
use Rattle.std.specs.List.{All}
use Rattle.std.proofs.lemmas.List.Elements.{All-nil, All-cons}
use Rattle.dlk_tree.specs.declared.op.Op.TheVariants as Op'
use Rattle.dlk_tree.specs.declared.op.Sort.TheVariants.{Term}
use Rattle.dlk_tree.specs.declared.op.Var.{Var}
use Rattle.dlk_tree.specs.Trees.{Tree, Forest, no_kids, kid, sort, WellMade}
use Rattle.dlk_tree.specs.Occurs.{has_dots, any_has, has_symbol}
use Rattle.dlk_tree.specs.Statics.{none, free}
use Rattle.dlk_tree.specs.Table.{kind_row}
use Rattle.dlk_calculus.specs.Arithmetic.{is_arithmetic_sequent}
use Rattle.dlk_calculus.specs.Captures.{AreApart}
use Rattle.dlk_calculus.specs.Limits.{most_leaves, most_rows, IsSmall, IsShallow}
use Rattle.dlk_calculus.specs.Limited.{InSequent}
use Rattle.dlk_calculus.specs.Notation.{leaf, eq, f, g, p_of}
use Rattle.dlk_calculus.specs.Pairs.{Pair, IsWellFormed, IsFreeIn}
use Rattle.dlk_calculus.specs.Paths.{subtree, put_at}
use Rattle.dlk_calculus.specs.Places.{At}
use Rattle.dlk_calculus.specs.Provables.{Provable, started, assumed, inferred, AreNew}
use Rattle.dlk_calculus.specs.Provables as pr
use Rattle.dlk_calculus.specs.Rules.{CutR, imply, equiv}
use Rattle.dlk_calculus.specs.Sequents.{Sequent, alone_right, IsFormula}
use Rattle.dlk_calculus.specs.Subst.{Subst, IsAdmissible}
use Rattle.dlk_sequent.specs.declared.sequent.Place.TheVariants.{Succ}
use Rattle.dlk_uses.specs.Uses.{Forwards, any_f, any_g, p_of_one, ◌~>◌, by_equation, by_conditional_equation}
use Rattle.dlk_uses.proofs.Substituted.{pairs_of_cq, cq}
use Rattle.dlk_derive.specs.Ways.{IsPlainWay}
use Rattle.dlk_reach.proofs.Goes.{Goes, rule_goes, substitute_goes, merge_goes, apply_goes, start_goes, leaf_goes}
use Rattle.dlk_reach.proofs.Equivalence.{IsFine, fine_is, over_two, alone, few, few_each, two_goals, equiv_well, Site, with_goal, only_goal, proof_of}
use Rattle.dlk_reach.proofs.Equivalence.{Comes, equivalence_goes}
use Rattle.dlk_reach.proofs.Context.{plugged, nothing_free}
use Rattle.dlk_reach.proofs.Terms.{for_p, term_stays}

-- a well-made term
pub record IsTerm (t : Tree) : Type 0 where
  pub well_made : WellMade t
  pub sort_is : sort t ≡ Term
  pub fine : IsFine t

eq_well : (a b : Tree) → IsTerm a → IsTerm b → WellMade (eq a b)
eq_well a b m n =
    let e = m.sort_is in let h = n.sort_is in
    (record { kids_fit = λ i. e i ∷ h i ∷ []; parts_fit = refl }, (m.well_made, (n.well_made, tt)))

p_well : (a : Tree) → IsTerm a → WellMade (p_of a)
p_well a m = let e = m.sort_is in (record { kids_fit = λ i. e i ∷ []; parts_fit = refl }, (m.well_made, tt))

module _ (l r : Tree) (left : IsTerm l) (right : IsTerm r) where
  abbrev pairs : List Pair
  pairs = pairs_of_cq l r

  abbrev f_pair : Pair
  f_pair = any_f ~> l

  abbrev g_pair : Pair
  g_pair = any_g ~> r

  each : (P : Pair → Type 0) → P f_pair → P g_pair → All P pairs
  each P a b = All-cons P f_pair (g_pair ∷ []) a (All-cons P g_pair [] b (All-nil P))

  admissible : (set : Var → Bool) (trees : Forest) → IsAdmissible pairs set trees
  admissible set trees =
      each (λ (p : Pair). IsTrue ((kind_row p.sym.kind).arguments && any_has (has_symbol p.sym) trees) → AreApart set (free p.by))
      (λ h. absurd (cc h)) (λ h. absurd (cc h))

  no_free : ¬ IsFreeIn pairs
  no_free (inl h) = absurd (cc h.0)
  no_free (inr (inl h)) = absurd (cc h.0)
  no_free (inr (inr h)) = h

  f_made : Subst pairs f l
  f_made = (no_kids, tt, refl, left.well_made)

  g_made : Subst pairs g r
  g_made = (no_kids, tt, refl, right.well_made)

  p_made : (e a : Tree) → Subst pairs e a → IsTerm a → Subst pairs (p_of e) (p_of a)
  p_made e a h is = (kid a no_kids, (h, tt), (admissible none (kid e no_kids), refl), p_well a is)

  premise_made : Subst pairs (eq f g) (eq l r)
  premise_made = (kid l (kid r no_kids), (f_made, (g_made, tt)), (admissible none (kid f (kid g no_kids)), refl), eq_well l r left right)

  conclusion_made : Subst pairs (equiv (p_of f) (p_of g)) (equiv (p_of l) (p_of r))
  conclusion_made = (
    kid (p_of l) (kid (p_of r) no_kids),
    (p_made f l f_made left, (p_made g r g_made right, tt)),
    (admissible none (kid (p_of f) (kid (p_of g) no_kids)), refl),
    equiv_well (p_of l) (p_of r) (p_well l left) (p_well r right) refl refl,
  )

-- p(e) with a context of one argument
module _ (d : Tree) where
  in_context : (inner : List ℕ) (s a : Tree) → has_dots d ≡ false → subtree d inner ≡ Some s → IsPlainWay d inner → IsTerm a → WellMade (put_at d inner a) →
      Subst (for_p (put_at d inner (leaf (Op'.Dot 0)))) (p_of a) (put_at d inner a)
  in_context inner s a lacks h plain is made =
      (kid a no_kids, (term_stays (put_at d inner (leaf (Op'.Dot 0))) a is.well_made is.sort_is, tt), plugged a d inner lacks s h plain, made)

  for_equiv : (k a b c e : Tree) → Subst (for_p k) a c → Subst (for_p k) b e → WellMade (equiv c e) → Subst (for_p k) (equiv a b) (equiv c e)
  for_equiv k a b c e x y made =
      let P = λ (p : Pair). IsTrue ((kind_row p.sym.kind).arguments && any_has (has_symbol p.sym) (kid a (kid b no_kids))) → AreApart none (free p.by) in
      (kid c (kid e no_kids), (x, (y, tt)), (All-cons P (p_of_one ~> k) [] (λ h. nothing_free (free k)) (All-nil P), refl), made)

-- where an equation is used: its left side stands in the smallest formula round it
pub record TermSite (e : Tree) (outer inner : List ℕ) (d l r : Tree) : Type 0 where
  pub inside : subtree d inner ≡ Some l
  pub plain : IsPlainWay d inner
  pub no_dots : has_dots d ≡ false
  pub left : IsTerm l
  pub right : IsTerm r
  pub context_fine : IsFine (put_at d inner (leaf (Op'.Dot 0)))
  pub context_made : WellMade (put_at d inner (leaf (Op'.Dot 0)))
  pub equation_formed : IsWellFormed (pairs_of_cq l r)
  pub context_formed : IsWellFormed (for_p (put_at d inner (leaf (Op'.Dot 0))))
  pub site : Site e outer (put_at d inner l) (put_at d inner r)

pub equation_goes : (rows : List Provable) (now m : ℕ) (c : Sequent) (leaves proved new : List Sequent) (e : Tree) (outer inner : List ℕ) (d l r : Tree) →
    now ≡ length rows → now + 12 ≤ most_rows → At rows m (with_goal c e leaves) → At rows now (proof_of (eq l r) proved) →
    AreNew [] proved proved → length proved ≤ most_leaves → AreNew leaves proved new → length (leaves ++ new) ≤ most_leaves →
    InSequent IsSmall c → InSequent IsShallow c → TermSite e outer inner d l r →
    Goes rows (by_equation now (only_goal m e) (Succ 1) Forwards e outer inner d l r)
    (Comes (now + 4 + 3 + 5) c (put_at e outer (put_at d inner r)) (leaves ++ new))
equation_goes rows now m c leaves proved new e outer inner d l r counted room here proof alone_new few_proved are few_leaves small shallow place =
    let P = Comes (now + 4 + 3 + 5) c (put_at e outer (put_at d inner r)) (leaves ++ new) in
    let k = put_at d inner (leaf (Op'.Dot 0)) in
    let site = place.site in
    let dl = put_at d inner l in
    let dr = put_at d inner r in
    let applied = equiv (p_of l) (p_of r) in
    let made = equiv dl dr in
    let lf = fine_is l place.left.fine in
    let rf = fine_is r place.right.fine in
    let kf = fine_is k place.context_fine in
    let equation = over_two Op'.Eq l r place.left.fine place.right.fine in
    let both : IsSmall applied × IsShallow applied =
    let x = place.left.fine.small in let y = place.right.fine.small in let u = place.left.fine.shallow in let v = place.right.fine.shallow in
    (omega (arith, x, y), omega (arith, u, v)) in
    let outside = over_two Op'.Equiv dl dr site.left_fine site.right_fine in
    let row2 : Provable = record { conclusion = alone_right applied; goals = alone_right (eq l r) ∷ []; leaves = [] } in
    let made_well = equiv_well dl dr site.left.well_made site.right.well_made site.left.sort_is site.right.sort_is in
    rule_goes rows now (codes "CQ") cq _ P counted (omega (arith, room)) refl
    (λ rows1 is1.
    substitute_goes rows1 (now + 1) (now + 1) (pairs_of_cq l r) (inferred cq.premise cq.conclusion) row2 _ P is1.counted (omega (arith, room)) is1.last
    (each l r place.left place.right (λ (p : Pair). WellMade p.by) place.left.well_made place.right.well_made) place.equation_formed
    (λ h. no_free l r place.left place.right)
    (record {
      conclusion = (tt, (conclusion_made l r place.left place.right, tt));
      goals = ((tt, (premise_made l r place.left place.right, tt)), tt);
      leaves = refl;
    }) (
      each l r place.left place.right (λ (p : Pair). IsSmall p.by) lf.0 rf.0,
      record {
        conclusion = alone IsSmall applied both.0;
        goals = All-cons (InSequent IsSmall) (alone_right (eq l r)) [] (alone IsSmall (eq l r) equation.0) (All-nil (InSequent IsSmall));
      },
    ) (
      each l r place.left place.right (λ (p : Pair). IsShallow p.by) lf.1 rf.1,
      record {
        conclusion = alone IsShallow applied both.1;
        goals = All-cons (InSequent IsShallow) (alone_right (eq l r)) [] (alone IsShallow (eq l r) equation.1) (All-nil (InSequent IsShallow));
      },
    )
    (λ rows2 is2.
    let two : now + 1 + 1 ≡ now + 2 = omega arith in
    merge_goes rows2 (now + 2) (now + 2) 1 now row2 (proof_of (eq l r) proved) proved _ P (sym two ∙ is2.counted) (omega (arith, room))
    (subst (λ n. At rows2 n row2) two is2.last) (is2.keeps now _ (is1.keeps now _ proof)) refl alone_new (omega arith) few_proved
    (λ rows3 is3.
    let three : now + 2 + 1 ≡ now + 3 = omega arith in
    substitute_goes rows3 (now + 3) (now + 3) (for_p k) (proof_of applied proved) (proof_of made proved) _ P (sym three ∙ is3.counted) (omega (arith, room))
    (subst (λ n. At rows3 n (proof_of applied proved)) three is3.last)
    (All-cons (λ (p : Pair). WellMade p.by) (p_of_one ~> k) [] place.context_made (All-nil (λ (p : Pair). WellMade p.by))) place.context_formed
    (λ h. absurd h)
    (record {
      conclusion = (
        tt,
        (
          for_equiv d k (p_of l) (p_of r) dl dr
              (in_context d inner l l place.no_dots place.inside place.plain place.left site.left.well_made)
              (in_context d inner l r place.no_dots place.inside place.plain place.right site.right.well_made) made_well,
          tt,
        ),
      );
      goals = tt;
      leaves = refl;
    }) (
      All-cons (λ (p : Pair). IsSmall p.by) (p_of_one ~> k) [] kf.0 (All-nil (λ (p : Pair). IsSmall p.by)),
      record { conclusion = alone IsSmall made outside.0; goals = All-nil (InSequent IsSmall) },
    ) (
      All-cons (λ (p : Pair). IsShallow p.by) (p_of_one ~> k) [] kf.1 (All-nil (λ (p : Pair). IsShallow p.by)),
      record { conclusion = alone IsShallow made outside.1; goals = All-nil (InSequent IsShallow) },
    )
    (λ rows4 is4.
    let four : now + 3 + 1 ≡ now + 4 = omega arith in
    equivalence_goes rows4 (now + 4) m c leaves proved new e outer dl dr (sym four ∙ is4.counted) (omega (arith, room))
    (is4.keeps m _ (is3.keeps m _ (is2.keeps m _ (is1.keeps m _ here)))) (subst (λ n. At rows4 n (proof_of made proved)) four is4.last)
    alone_new few_proved are few_leaves small shallow site))))

-- The condition of an equation is taken for a leaf, which is added to the leaves where it isn't there yet.
pub conditional_goes : (rows : List Provable) (now m : ℕ) (c : Sequent) (leaves new : List Sequent) (e : Tree) (outer inner : List ℕ) (d b l r : Tree) →
    now ≡ length rows → now + 17 ≤ most_rows → At rows m (with_goal c e leaves) → At rows now (proof_of (imply b (eq l r)) []) →
    AreNew leaves (alone_right b ∷ []) new → length (leaves ++ new) ≤ most_leaves → InSequent IsSmall c → InSequent IsShallow c →
    IsFormula b → IsFine b → IsTrue (is_arithmetic_sequent (alone_right b)) → IsFormula (eq l r) →
    IsSmall (imply b (eq l r)) × IsShallow (imply b (eq l r)) → TermSite e outer inner d l r →
    Goes rows (by_conditional_equation now (only_goal m e) (Succ 1) Forwards e outer inner d b l r)
    (Comes (now + 5 + 4 + 3 + 5) c (put_at e outer (put_at d inner r)) (leaves ++ new))
conditional_goes rows now m c leaves new e outer inner d b l r counted room here proof are few_leaves small shallow condition condition_fine arithmetic
    formula implied place =
    let P = Comes (now + 5 + 4 + 3 + 5) c (put_at e outer (put_at d inner r)) (leaves ++ new) in
    let s = alone_right (eq l r) in
    let big = implied.0 in
    let deep = implied.1 in
    let ef : IsSmall (eq l r) × IsShallow (eq l r) = (omega (arith, big), omega (arith, deep)) in
    let bf = fine_is b condition_fine in
    let row2 : Provable = record { conclusion = s; goals = alone_right b ∷ alone_right (imply b (eq l r)) ∷ []; leaves = [] } in
    let row3 : Provable = record { conclusion = s; goals = alone_right b ∷ []; leaves = [] } in
    let only : AreNew [] (alone_right b ∷ []) (alone_right b ∷ []) = pr.added (λ h. h) pr.no_more in
    let one_goal = λ (Q : Tree → Type 0) (t : Tree) (h : Q t). All-cons (InSequent Q) (alone_right t) [] (alone Q t h) (All-nil (InSequent Q)) in
    start_goes rows now s _ P counted (omega (arith, room))
    (record { ante = All-nil IsFormula; succ = All-cons IsFormula (eq l r) [] formula (All-nil IsFormula) })
    (record { conclusion = alone IsSmall (eq l r) ef.0; goals = one_goal IsSmall (eq l r) ef.0 })
    (record { conclusion = alone IsShallow (eq l r) ef.1; goals = one_goal IsShallow (eq l r) ef.1 }) (few (eq l r))
    (λ rows1 is1.
    apply_goes rows1 (now + 1) (now + 1) 1 (CutR 1 b) (started s) s (alone_right b ∷ alone_right (imply b (eq l r)) ∷ []) _ P is1.counted (omega (arith, room))
    is1.last refl tt
    (record { places = (omega arith, omega arith); parts = eq l r; shape = (refl, condition); equals = tt; fresh = tt; premises_are = refl })
    (two_goals IsSmall s b (imply b (eq l r)) [] (alone IsSmall (eq l r) ef.0) bf.0 implied.0)
    (two_goals IsShallow s b (imply b (eq l r)) [] (alone IsShallow (eq l r) ef.1) bf.1 implied.1) (few_each b (imply b (eq l r))) (omega arith)
    (λ rows2 is2.
    let two : now + 1 + 1 ≡ now + 2 = omega arith in
    merge_goes rows2 (now + 2) (now + 2) 2 now row2 (proof_of (imply b (eq l r)) []) [] _ P (sym two ∙ is2.counted) (omega (arith, room))
    (subst (λ n. At rows2 n row2) two is2.last) (is2.keeps now _ (is1.keeps now _ proof)) refl pr.no_more (omega arith) (omega arith)
    (λ rows3 is3.
    let three : now + 2 + 1 ≡ now + 3 = omega arith in
    leaf_goes rows3 (now + 3) (alone_right b) _ P (sym three ∙ is3.counted) (omega (arith, room))
    (record { ante = All-nil IsFormula; succ = All-cons IsFormula b [] condition (All-nil IsFormula) }) arithmetic
    (record { conclusion = alone IsSmall b bf.0; goals = All-nil (InSequent IsSmall) })
    (record { conclusion = alone IsShallow b bf.1; goals = All-nil (InSequent IsShallow) }) (few b)
    (λ rows4 is4.
    let four : now + 3 + 1 ≡ now + 4 = omega arith in
    merge_goes rows4 (now + 4) (now + 3) 1 (now + 4) row3 (assumed (alone_right b)) (alone_right b ∷ []) _ P (sym four ∙ is4.counted) (omega (arith, room))
    (is4.keeps (now + 3) _ (subst (λ n. At rows3 n row3) three is3.last)) (subst (λ n. At rows4 n (assumed (alone_right b))) four is4.last) refl only
    (omega arith) (omega arith)
    (λ rows5 is5.
    let five : now + 4 + 1 ≡ now + 5 = omega arith in
    equation_goes rows5 (now + 5) m c leaves (alone_right b ∷ []) new e outer inner d l r (sym five ∙ is5.counted) (omega (arith, room))
    (is5.keeps m _ (is4.keeps m _ (is3.keeps m _ (is2.keeps m _ (is1.keeps m _ here)))))
    (subst (λ n. At rows5 n (proof_of (eq l r) (alone_right b ∷ []))) five is5.last) only (omega arith) are few_leaves small shallow place)))))
