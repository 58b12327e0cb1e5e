-- An equivalence that a row proves is used at an inner position of the only goal: the steps are taken.
use Rattle.std.proofs.Common.{◌≡◌, ℕ, ◌+◌, ◌≤◌, List, [], ◌∷◌, ◌++◌, length, refl, sym, subst, ◌∙◌, arith, Some, Bool, inl, inr}
use Rattle.std.specs.Prelude.{codes, IsTrue, ◌&&◌}
use Rattle.std.specs.List.{All}
use Rattle.std.proofs.lemmas.List.Elements.{All-nil, All-cons}
use Rattle.dlk_tree.specs.declared.op.Op.{Op}
use Rattle.dlk_tree.specs.declared.op.Op.TheVariants as Op'
use Rattle.dlk_tree.specs.declared.op.Sort.TheVariants.{Formula}
use Rattle.dlk_tree.specs.declared.op.Var.{Var}
use Rattle.dlk_tree.specs.Trees.{Tree, Forest, no_kids, kid, size, depth, sort, WellMade}
use Rattle.dlk_tree.specs.Occurs.{any_has, has_symbol}
use Rattle.dlk_tree.specs.Statics.{all, none, free}
use Rattle.dlk_tree.specs.Table.{kind_row}
use Rattle.dlk_calculus.specs.Captures.{AreApart}
use Rattle.dlk_calculus.specs.Limits.{most_leaves, most_rows, IsSmall, IsShallow}
use Rattle.dlk_calculus.specs.Limited.{InSequent, InProvable, HasFewFormulas}
use Rattle.dlk_calculus.specs.Notation.{leaf, two, p, q, c_of}
use Rattle.dlk_calculus.specs.Pairs.{Pair, IsWellFormed, IsFreeIn}
use Rattle.dlk_calculus.specs.Paths.{subtree, put_at}
use Rattle.dlk_calculus.specs.Places.{At}
use Rattle.dlk_calculus.specs.Plug.{filled}
use Rattle.dlk_calculus.specs.Provables.{Provable, inferred, AreNew, Substitutes}
use Rattle.dlk_calculus.specs.Rules.{CutR, CoHideR, EquivifyR, CommuteEquivR, imply, equiv}
use Rattle.dlk_calculus.specs.Sequents.{Sequent, alone_right, IsFormula}
use Rattle.dlk_calculus.specs.Steps.{Step, UseRule, Merge, Substitute}
use Rattle.dlk_calculus.specs.Subst.{Subst, IsAdmissible}
use Rattle.dlk_calculus.proofs.PathLaws.{put_itself, put_fill}
use Rattle.dlk_sequent.specs.declared.sequent.Place.TheVariants.{Succ}
use Rattle.dlk_uses.specs.Uses.{Forwards, Spot, any_p, any_q, context_c, ◌~>◌, exchange, by_equivalence}
use Rattle.dlk_uses.proofs.Substituted.{pairs_of_ce, ce}
use Rattle.dlk_reach.proofs.Goes.{Goes, goes_nowhere, rule_goes, substitute_goes, merge_goes, apply_goes}

-- small enough that two of them make a formula within the limits
pub record IsFine (t : Tree) : Type 0 where
  pub small : size t ≤ 30000
  pub shallow : depth t ≤ 900

pub over_two : (op : Op) (a b : Tree) → IsFine a → IsFine b → IsSmall (two op a b) × IsShallow (two op a b)
over_two op a b f g =
    let x = f.small in let y = g.small in let u = f.shallow in let v = g.shallow in (omega (arith, x, y), omega (arith, u, v))

pub alone : (P : Tree → Type 0) (a : Tree) → P a → InSequent P (alone_right a)
alone P a h = record { ante = All-nil P; succ = All-cons P a [] h (All-nil P) }

pub few : (a : Tree) → HasFewFormulas (alone_right a)
few a = record { ante = omega arith; succ = omega arith }

-- a conclusion and two goals
pub two_goals : (P : Tree → Type 0) (c : Sequent) (a b : Tree) (leaves : List Sequent) → InSequent P c → P a → P b →
    InProvable P (record { conclusion = c; goals = alone_right a ∷ alone_right b ∷ []; leaves = leaves })
two_goals P c a b leaves h x y = record {
  conclusion = h;
  goals = All-cons (InSequent P) (alone_right a) (alone_right b ∷ []) (alone P a x)
      (All-cons (InSequent P) (alone_right b) [] (alone P b y) (All-nil (InSequent P)));
}

pub few_each : (a b : Tree) → All HasFewFormulas (alone_right a ∷ alone_right b ∷ [])
few_each a b = All-cons HasFewFormulas (alone_right a) (alone_right b ∷ []) (few a)
    (All-cons HasFewFormulas (alone_right b) [] (few b) (All-nil HasFewFormulas))

module _ (l r k : Tree) (left : WellMade l) (right : WellMade r) where
  abbrev pairs : List Pair
  pairs = pairs_of_ce l r k

  abbrev p_pair : Pair
  p_pair = any_p ~> l

  abbrev q_pair : Pair
  q_pair = any_q ~> r

  abbrev c_pair : Pair
  c_pair = context_c ~> k

  each : (P : Pair → Type 0) → P p_pair → P q_pair → P c_pair → All P pairs
  each P a b c = All-cons P p_pair (q_pair ∷ c_pair ∷ []) a (All-cons P q_pair (c_pair ∷ []) b (All-cons P c_pair [] c (All-nil P)))

  -- no function or predicate is replaced
  admissible : (set : Var → Bool) (trees : Forest) → IsAdmissible pairs set trees
  admissible set trees =
      each (λ (p : Pair). IsTrue ((kind_row p.sym.kind).arguments && any_has (has_symbol p.sym) trees) → AreApart set (free p.by))
      (λ h. absurd (cc h)) (λ h. absurd (cc h)) (λ h. absurd (cc h))

  p_made : Subst pairs p l
  p_made = (no_kids, tt, refl, left)

  q_made : Subst pairs q r
  q_made = (no_kids, tt, refl, right)

  c_made : (e f : Tree) → Subst pairs e f → WellMade (filled f k) → Subst pairs (c_of e) (filled f k)
  c_made e f h made = (kid f no_kids, (h, tt), (admissible all (kid e no_kids), refl), made)

  equiv_made : (a b c d : Tree) → Subst pairs a c → Subst pairs b d → WellMade (equiv c d) → Subst pairs (equiv a b) (equiv c d)
  equiv_made a b c d g h made = (kid c (kid d no_kids), (g, (h, tt)), (admissible none (kid a (kid b no_kids)), refl), made)

  no_free : ¬ IsFreeIn pairs
  no_free (inl h) = absurd (cc h.0)
  no_free (inr (inl h)) = absurd (cc h.0)
  no_free (inr (inr (inl h))) = absurd (cc h.0)
  no_free (inr (inr (inr h))) = h

pub equiv_well : (a b : Tree) → WellMade a → WellMade b → sort a ≡ Formula → sort b ≡ Formula → WellMade (equiv a b)
equiv_well a b made more e f = (record { kids_fit = λ i. e i ∷ f i ∷ []; parts_fit = refl }, (made, (more, tt)))

-- where an equivalence is used: in the formula e the left side stands at the path
pub record Site (e : Tree) (path : List ℕ) (l r : Tree) : Type 0 where
  pub stands : subtree e path ≡ Some l
  pub formula : IsFormula e
  pub new_formula : IsFormula (put_at e path r)
  pub left : IsFormula l
  pub right : IsFormula r
  pub fine : IsFine e
  pub new_fine : IsFine (put_at e path r)
  pub left_fine : IsFine l
  pub right_fine : IsFine r
  pub context_fine : IsFine (put_at e path (leaf Op'.Hole))
  pub context_made : WellMade (put_at e path (leaf Op'.Hole))
  pub formed : IsWellFormed (pairs_of_ce l r (put_at e path (leaf Op'.Hole)))

pub fine_is : (t : Tree) → IsFine t → IsSmall t × IsShallow t
fine_is t f = let x = f.small in let y = f.shallow in (omega (arith, x), omega (arith, y))

-- a row with the only goal e
abbrev pub with_goal : Sequent → Tree → List Sequent → Provable
with_goal c e leaves = record { conclusion = c; goals = alone_right e ∷ []; leaves = leaves }

-- a row that proves f
abbrev pub proof_of : Tree → List Sequent → Provable
proof_of f leaves = record { conclusion = alone_right f; goals = []; leaves = leaves }

-- the only goal of a row, at place 1 on the right
abbrev pub only_goal : ℕ → Tree → Spot
only_goal m e = record { fact = m; goal = 1; s = alone_right e }

-- the only goal has come to be another one
pub record Comes (n : ℕ) (c : Sequent) (e : Tree) (leaves : List Sequent) (after : List Provable) : Type 0 where
  pub counted : n ≡ length after
  pub last : At after n (with_goal c e leaves)

block_goes : (rows : List Provable) (now m : ℕ) (main : Provable) (proved : List Sequent) (e : Tree) (path : List ℕ) (l r : Tree) (steps : List Step)
    (P : List Provable → Type 0) →
    now ≡ length rows → now + 3 ≤ most_rows → At rows m main → At rows now (proof_of (equiv l r) proved) → AreNew [] proved proved →
    length proved ≤ most_leaves →
    Site e path l r →
    ((after : List Provable) → now + 3 ≡ length after → At after m main → At after (now + 3) (proof_of (equiv e (put_at e path r)) proved) →
    Goes after steps P) →
    Goes rows (UseRule (codes "CE") ∷ Substitute (now + 1) (pairs_of_ce l r (put_at e path (leaf Op'.Hole))) ∷ Merge (now + 2) 1 now ∷ steps) P
block_goes rows now m main proved e path l r steps P counted room here proof new leaves site others =
    let k = put_at e path (leaf Op'.Hole) in
    let pairs = pairs_of_ce l r k in
    let from_left : filled l k ≡ e = put_fill l e path site.formula.no_hole ∙ put_itself e path l site.stands in
    let from_right : filled r k ≡ put_at e path r = put_fill r e path site.formula.no_hole in
    let left_made = site.left.well_made in
    let right_made = site.right.well_made in
    let inner_made = equiv_well l r left_made right_made site.left.sort_is site.right.sort_is in
    let outer_made = equiv_well e (put_at e path r) site.formula.well_made site.new_formula.well_made site.formula.sort_is site.new_formula.sort_is in
    let c_left : Subst pairs (c_of p) e =
    subst (λ t. Subst pairs (c_of p) t) from_left
    (c_made l r k left_made right_made p l (p_made l r k left_made right_made) (subst WellMade (sym from_left) site.formula.well_made)) in
    let c_right : Subst pairs (c_of q) (put_at e path r) =
    subst (λ t. Subst pairs (c_of q) t) from_right
    (c_made l r k left_made right_made q r (q_made l r k left_made right_made) (subst WellMade (sym from_right) site.new_formula.well_made)) in
    let row2 : Provable = record { conclusion = alone_right (equiv e (put_at e path r)); goals = alone_right (equiv l r) ∷ []; leaves = [] } in
    let makes : Substitutes pairs (inferred (equiv p q) (equiv (c_of p) (c_of q))) row2 = record {
      conclusion = (tt, (equiv_made l r k left_made right_made (c_of p) (c_of q) e (put_at e path r) c_left c_right outer_made, tt));
      goals = (
        (tt, (equiv_made l r k left_made right_made p q l r (p_made l r k left_made right_made) (q_made l r k left_made right_made) inner_made, tt)),
        tt,
      );
      leaves = refl;
    } in
    let outer = over_two Op'.Equiv e (put_at e path r) site.fine site.new_fine in
    let inner = over_two Op'.Equiv l r site.left_fine site.right_fine in
    let lf = fine_is l site.left_fine in
    let rf = fine_is r site.right_fine in
    let kf = fine_is k site.context_fine in
    rule_goes rows now (codes "CE") ce _ P counted (omega (arith, room)) refl
    (λ rows1 is1.
    substitute_goes rows1 (now + 1) (now + 1) pairs (inferred ce.premise ce.conclusion) row2 _ P is1.counted (omega (arith, room)) is1.last
    (each l r k left_made right_made (λ (p : Pair). WellMade p.by) left_made right_made site.context_made) site.formed
    (λ h. no_free l r k left_made right_made) makes (
      each l r k left_made right_made (λ (p : Pair). IsSmall p.by) lf.0 rf.0 kf.0,
      record {
        conclusion = alone IsSmall (equiv e (put_at e path r)) outer.0;
        goals = All-cons (InSequent IsSmall) (alone_right (equiv l r)) [] (alone IsSmall (equiv l r) inner.0) (All-nil (InSequent IsSmall));
      },
    ) (
      each l r k left_made right_made (λ (p : Pair). IsShallow p.by) lf.1 rf.1 kf.1,
      record {
        conclusion = alone IsShallow (equiv e (put_at e path r)) outer.1;
        goals = All-cons (InSequent IsShallow) (alone_right (equiv l r)) [] (alone IsShallow (equiv l r) inner.1) (All-nil (InSequent IsShallow));
      },
    )
    (λ rows2 is2.
    let two : now + 1 + 1 ≡ now + 2 = omega arith in
    merge_goes rows2 (now + 2) (now + 2) 1 now row2 (proof_of (equiv l r) proved) proved _ P (sym two ∙ is2.counted) (omega (arith, room))
    (subst (λ n. At rows2 n row2) two is2.last) (is2.keeps now _ (is1.keeps now _ proof)) refl new (omega arith) leaves
    (λ rows3 is3.
    let three : now + 2 + 1 ≡ now + 3 = omega arith in
    others rows3 (sym three ∙ is3.counted) (is3.keeps m main (is2.keeps m main (is1.keeps m main here)))
    (subst (λ n. At rows3 n (proof_of (equiv e (put_at e path r)) proved)) three is3.last))))

-- the goal e is cut by the new formula, and the equivalence proves that it follows
exchange_goes : (rows : List Provable) (n m by : ℕ) (c : Sequent) (leaves proved new : List Sequent) (e h : Tree) (P : List Provable → Type 0) →
    n ≡ length rows → n + 5 ≤ most_rows → At rows m (with_goal c e leaves) → At rows by (proof_of (equiv e h) proved) → AreNew leaves proved new →
    length (leaves ++ new) ≤ most_leaves → InSequent IsSmall c → InSequent IsShallow c → IsFine e → IsFine h → IsFormula h →
    ((after : List Provable) → Comes (n + 5) c h (leaves ++ new) after → P after) →
    Goes rows (exchange by n (only_goal m e) (Succ 1) Forwards h) P
exchange_goes rows n m by c leaves proved new e h P counted room here proof are few_leaves small shallow fine new_fine formula others =
    let hf = fine_is h new_fine in
    let implied = over_two Op'.Imply h e new_fine fine in
    let turned = over_two Op'.Equiv h e new_fine fine in
    let back = over_two Op'.Equiv e h fine new_fine in
    let row1 : Provable = record { conclusion = c; goals = alone_right h ∷ alone_right (imply h e) ∷ []; leaves = leaves } in
    let row3 : Provable = record { conclusion = c; goals = alone_right h ∷ alone_right (equiv h e) ∷ []; leaves = leaves } in
    let row4 : Provable = record { conclusion = c; goals = alone_right h ∷ alone_right (equiv e h) ∷ []; leaves = leaves } in
    apply_goes rows n m 1 (CutR 1 h) (with_goal c e leaves) (alone_right e) (alone_right h ∷ alone_right (imply h e) ∷ []) _ P counted (omega (arith, room))
    here refl
    tt
    (record { places = (omega arith, omega arith); parts = e; shape = (refl, formula); equals = tt; fresh = tt; premises_are = refl })
    (two_goals IsSmall c h (imply h e) leaves small hf.0 implied.0) (two_goals IsShallow c h (imply h e) leaves shallow hf.1 implied.1)
    (few_each h (imply h e)) (omega arith)
    (λ rows1 is1.
    apply_goes rows1 (n + 1) (n + 1) 2 (CoHideR 1) row1 (alone_right (imply h e)) (alone_right (imply h e) ∷ []) _ P is1.counted (omega (arith, room))
    is1.last refl
    tt
    (record { places = (omega arith, omega arith); parts = imply h e; shape = refl; equals = tt; fresh = tt; premises_are = refl })
    (two_goals IsSmall c h (imply h e) leaves small hf.0 implied.0) (two_goals IsShallow c h (imply h e) leaves shallow hf.1 implied.1)
    (few_each h (imply h e)) (omega arith)
    (λ rows2 is2.
    apply_goes rows2 (n + 1 + 1) (n + 1 + 1) 2 (EquivifyR 1) row1 (alone_right (imply h e)) (alone_right (equiv h e) ∷ []) _ P is2.counted (omega (arith, room))
    is2.last refl
    tt
    (record { places = (omega arith, omega arith); parts = (h, e); shape = refl; equals = tt; fresh = tt; premises_are = refl })
    (two_goals IsSmall c h (equiv h e) leaves small hf.0 turned.0) (two_goals IsShallow c h (equiv h e) leaves shallow hf.1 turned.1)
    (few_each h (equiv h e)) (omega arith)
    (λ rows3 is3.
    apply_goes rows3 (n + 1 + 1 + 1) (n + 1 + 1 + 1) 2 (CommuteEquivR 1) row3 (alone_right (equiv h e)) (alone_right (equiv e h) ∷ []) _ P is3.counted
    (omega (arith, room)) is3.last refl
    tt
    (record { places = (omega arith, omega arith); parts = (h, e); shape = refl; equals = tt; fresh = tt; premises_are = refl })
    (two_goals IsSmall c h (equiv e h) leaves small hf.0 back.0) (two_goals IsShallow c h (equiv e h) leaves shallow hf.1 back.1)
    (few_each h (equiv e h)) (omega arith)
    (λ rows4 is4.
    let four : n + 1 + 1 + 1 + 1 ≡ n + 4 = omega arith in
    merge_goes rows4 (n + 4) (n + 4) 2 by row4 (proof_of (equiv e h) proved) new [] P (sym four ∙ is4.counted) (omega (arith, room))
    (subst (λ k. At rows4 k row4) four is4.last) (is4.keeps by _ (is3.keeps by _ (is2.keeps by _ (is1.keeps by _ proof)))) refl are (omega arith) few_leaves
    (λ rows5 is5.
    let five : n + 4 + 1 ≡ n + 5 = omega arith in
    goes_nowhere rows5 P
    (others rows5 (record { counted = sym five ∙ is5.counted; last = subst (λ k. At rows5 k (with_goal c h (leaves ++ new))) five is5.last })))))))

-- the steps of an equivalence at an inner position are taken: the goal comes to be what it makes of it
pub equivalence_goes : (rows : List Provable) (now m : ℕ) (c : Sequent) (leaves proved new : List Sequent) (e : Tree) (path : List ℕ) (l r : Tree) →
    now ≡ length rows → now + 8 ≤ most_rows → At rows m (with_goal c e leaves) → At rows now (proof_of (equiv l r) proved) →
    AreNew [] proved proved → length proved ≤ most_leaves → AreNew leaves proved new → length (leaves ++ new) ≤ most_leaves →
    InSequent IsSmall c → InSequent IsShallow c → Site e path l r →
    Goes rows (by_equivalence now (only_goal m e) (Succ 1) Forwards e path l r) (Comes (now + 3 + 5) c (put_at e path r) (leaves ++ new))
equivalence_goes rows now m c leaves proved new e path l r counted room here proof alone_new few_proved are few_leaves small shallow site =
    block_goes rows now m (with_goal c e leaves) proved e path l r _ (Comes (now + 3 + 5) c (put_at e path r) (leaves ++ new)) counted (omega (arith, room))
    here proof
    alone_new few_proved site
    (λ rows3 counted3 here3 proof3.
    exchange_goes rows3 (now + 3) m (now + 3) c leaves proved new e (put_at e path r) (Comes (now + 3 + 5) c (put_at e path r) (leaves ++ new)) counted3
    (omega (arith, room)) here3 proof3 are few_leaves small shallow site.fine site.new_fine site.new_formula (λ after comes. comes))
