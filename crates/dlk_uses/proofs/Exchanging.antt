-- What the lines behind an instance merge fits, form by form: from a row that proves the instance.
use Rattle.std.proofs.Common.{◌≡◌, ℕ, ◌+◌, List, [], ◌∷◌, ◌++◌, length, sym, subst, arith, Some}
use Rattle.dlk_tree.specs.Trees.{Tree}
use Rattle.dlk_calculus.specs.Places.{At, put, without_place}
use Rattle.dlk_calculus.specs.Sequents.{◌==>◌, alone_right}
use Rattle.dlk_calculus.specs.Provables.{Provable}
use Rattle.dlk_calculus.specs.Rules.{CutL, CutR, CoHideR, EquivifyR, CommuteEquivR, imply, equiv}
use Rattle.dlk_calculus.specs.Steps.{Step, Apply, Merge, IsGoal}
use Rattle.dlk_sequent.specs.declared.sequent.Place.{Place}
use Rattle.dlk_sequent.specs.declared.sequent.Place.TheVariants.{Ante, Succ}
use Rattle.dlk_uses.specs.Uses.{Direction, Forwards, Backwards, formula_at, Spot, exchange, by_implication, by_fact, new_side}
use Rattle.dlk_calculus.proofs.PlaceLaws.{At-between}
use Rattle.dlk_uses.proofs.Places.{put_there}
use Rattle.dlk_uses.proofs.Fitting.{Fit, Added, no_steps, merge_fits, premise_fits, premises_fit}
use Rattle.dlk_uses.proofs.Premises.{of_cutR, of_cutL, of_coHideR, of_equivifyR, of_commuteEquivR}

-- the row proves the formula
abbrev pub Proves : List Provable → ℕ → Tree → Type 0
Proves rows m f = (q : Provable) × At rows m q × (q.conclusion ≡ alone_right f)

-- a last merge of a row that proves the goal
pub last_fits : (rows : List Provable) (n m goal by : ℕ) (f : Tree) → n ≡ length rows → IsGoal rows m goal (alone_right f) → Proves rows by f →
    Fit rows (Merge m goal by ∷ [])
last_fits rows n m goal by f e g q =
    merge_fits rows n m goal by g.0 q.0 (alone_right f) [] e g.1 g.2 q.1 (sym q.2) (λ new after added. no_steps after)

-- a row that proves something stays where it is
pub proof_kept : (rows after : List Provable) (n m : ℕ) (row : Provable) (f : Tree) → Added rows n row after → Proves rows m f → Proves after m f
proof_kept rows after n m row f is q = (q.0, is.keeps m q.0 q.1, q.2)

-- A cut at a place of the spot, and the implication that it makes, alone.

pub cut_right_fits : (rows : List Provable) (n : ℕ) (spot : Spot) (j by : ℕ) (h e f : Tree) (steps : List Step) → n ≡ length rows →
    IsGoal rows spot.fact spot.goal spot.s → At spot.s.succ j e → Proves rows by f →
    ((after : List Provable) → n + 1 + 1 ≡ length after → Proves after by f → IsGoal after (n + 1 + 1) (spot.goal + 1) (alone_right (imply h e)) →
    Fit after steps) →
    Fit rows (Apply spot.fact spot.goal (CutR j h) ∷ Apply (n + 1) (spot.goal + 1) (CoHideR j) ∷ steps)
cut_right_fits rows n spot j by h e f steps counted g here q others =
    let hidden = spot.s.ante ==> put spot.s.succ j (imply h e) in
    premises_fit rows n spot.fact spot.goal (CutR j h) spot.s (spot.s.ante ==> put spot.s.succ j h) hidden _ counted g (λ u. u.2 tt)
    (of_cutR spot.s j h e here)
    (λ row after is g0 g1.
    premise_fits after (n + 1) (n + 1) (spot.goal + 1) (CoHideR j) hidden (alone_right (imply h e)) steps is.counted g1 (λ u. u.2 tt)
    (of_coHideR hidden j (imply h e) (put_there spot.s.succ j e (imply h e) here))
    (λ row' after' is' g'. others after' is'.counted (proof_kept after after' (n + 1) by row' f is' (proof_kept rows after n by row f is q)) g'))

pub cut_left_fits : (rows : List Provable) (n : ℕ) (spot : Spot) (i by : ℕ) (h e f : Tree) (steps : List Step) → n ≡ length rows →
    IsGoal rows spot.fact spot.goal spot.s → At spot.s.ante i e → Proves rows by f →
    ((after : List Provable) → n + 1 + 1 ≡ length after → Proves after by f → IsGoal after (n + 1 + 1) (spot.goal + 1) (alone_right (imply e h)) →
    Fit after steps) →
    Fit rows (Apply spot.fact spot.goal (CutL i h) ∷ Apply (n + 1) (spot.goal + 1) (CoHideR (length spot.s.succ + 1)) ∷ steps)
cut_left_fits rows n spot i by h e f steps counted g here q others =
    let hidden = without_place spot.s.ante i ==> spot.s.succ ++ imply e h ∷ [] in
    premises_fit rows n spot.fact spot.goal (CutL i h) spot.s (put spot.s.ante i h ==> spot.s.succ) hidden _ counted g (λ u. u.2 tt)
    (of_cutL spot.s i h e here)
    (λ row after is g0 g1.
    premise_fits after (n + 1) (n + 1) (spot.goal + 1) (CoHideR (length spot.s.succ + 1)) hidden (alone_right (imply e h)) steps is.counted g1
    (λ u. u.2 tt) (of_coHideR hidden (length spot.s.succ + 1) (imply e h) (At-between spot.s.succ (imply e h) []))
    (λ row' after' is' g'. others after' is'.counted (proof_kept after after' (n + 1) by row' f is' (proof_kept rows after n by row f is q)) g'))

-- a place on the right, whose formula is what the row proves
pub fact_fits : (rows : List Provable) (now : ℕ) (spot : Spot) (j : ℕ) (e : Tree) → now ≡ length rows → IsGoal rows spot.fact spot.goal spot.s →
    At spot.s.succ j e → Proves rows now e → Fit rows (by_fact now spot j)
fact_fits rows now spot j e counted g here q =
    premise_fits rows now spot.fact spot.goal (CoHideR j) spot.s (alone_right e) _ counted g (λ u. u.2 tt) (of_coHideR spot.s j e here)
    (λ row after is g'. last_fits after (now + 1) (now + 1) spot.goal now e is.counted g' (proof_kept rows after now now row e is q))

-- b -> h, on the right where h stands, and on the left where b stands
pub implication_fits : (rows : List Provable) (now : ℕ) (spot : Spot) (j : ℕ) (b h : Tree) → now ≡ length rows → IsGoal rows spot.fact spot.goal spot.s →
    At spot.s.succ j h → Proves rows now (imply b h) → Fit rows (by_implication now spot (Succ j) b h)
implication_fits rows now spot j b h counted g here q =
    cut_right_fits rows now spot j now b h (imply b h) _ counted g here q
    (λ after counted' q' g'.
    last_fits after (now + 1 + 1) (now + 2) (spot.goal + 1) now (imply b h) counted'
    (subst (λ k. IsGoal after k (spot.goal + 1) (alone_right (imply b h))) (omega arith) g') q')

pub implication_fits_left : (rows : List Provable) (now : ℕ) (spot : Spot) (i : ℕ) (b h : Tree) → now ≡ length rows →
    IsGoal rows spot.fact spot.goal spot.s → At spot.s.ante i b → Proves rows now (imply b h) → Fit rows (by_implication now spot (Ante i) b h)
implication_fits_left rows now spot i b h counted g here q =
    cut_left_fits rows now spot i now h b (imply b h) _ counted g here q
    (λ after counted' q' g'.
    last_fits after (now + 1 + 1) (now + 2) (spot.goal + 1) now (imply b h) counted'
    (subst (λ k. IsGoal after k (spot.goal + 1) (alone_right (imply b h))) (omega arith) g') q')

-- from an implication to the equivalence, as it is and with its sides exchanged
equivified_fits : (rows : List Provable) (m k goal by : ℕ) (a b : Tree) → m ≡ length rows → IsGoal rows m goal (alone_right (imply a b)) →
    Proves rows by (equiv a b) → m + 1 ≡ k → Fit rows (Apply m goal (EquivifyR 1) ∷ Merge k goal by ∷ [])
equivified_fits rows m k goal by a b counted g q e =
    premise_fits rows m m goal (EquivifyR 1) (alone_right (imply a b)) (alone_right (equiv a b)) _ counted g (λ u. u.2 tt) (of_equivifyR [] a b)
    (λ row after is g'.
    last_fits after (m + 1) k goal by (equiv a b) is.counted (subst (λ i. IsGoal after i goal (alone_right (equiv a b))) e g')
    (proof_kept rows after m by row (equiv a b) is q))

commuted_fits : (rows : List Provable) (m k goal by : ℕ) (a b : Tree) → m ≡ length rows → IsGoal rows m goal (alone_right (imply a b)) →
    Proves rows by (equiv b a) → m + 2 ≡ k → Fit rows (Apply m goal (EquivifyR 1) ∷ Apply (m + 1) goal (CommuteEquivR 1) ∷ Merge k goal by ∷ [])
commuted_fits rows m k goal by a b counted g q e =
    premise_fits rows m m goal (EquivifyR 1) (alone_right (imply a b)) (alone_right (equiv a b)) _ counted g (λ u. u.2 tt) (of_equivifyR [] a b)
    (λ row after is g'.
    premise_fits after (m + 1) (m + 1) goal (CommuteEquivR 1) (alone_right (equiv a b)) (alone_right (equiv b a)) _ is.counted g' (λ u. u.2 tt)
    (of_commuteEquivR [] a b)
    (λ row' after' is' g2.
    last_fits after' (m + 1 + 1) k goal by (equiv b a) is'.counted
    (subst (λ i. IsGoal after' i goal (alone_right (equiv b a))) (omega (arith, e)) g2)
    (proof_kept after after' (m + 1) by row' (equiv b a) is' (proof_kept rows after m by row (equiv b a) is q))))

-- the formula that stands where one side of l <-> r does, and the one that comes there
abbrev pub old_side : Direction → Tree → Tree → Tree
old_side Forwards l r = l
old_side Backwards l r = r

pub exchange_fits : (rows : List Provable) (now by : ℕ) (spot : Spot) (place : Place) (direction : Direction) (l r : Tree) → now ≡ length rows →
    IsGoal rows spot.fact spot.goal spot.s → formula_at spot.s place ≡ Some (old_side direction l r) → Proves rows by (equiv l r) →
    Fit rows (exchange by now spot place direction (new_side direction l r))
exchange_fits rows now by spot (Succ j) Forwards l r counted g here q =
    cut_right_fits rows now spot j by r l (equiv l r) _ counted g here q
    (λ after counted' q' g'. commuted_fits after (now + 1 + 1) (now + 4) (spot.goal + 1) by r l counted' g' q' (omega arith))
exchange_fits rows now by spot (Succ j) Backwards l r counted g here q =
    cut_right_fits rows now spot j by l r (equiv l r) _ counted g here q
    (λ after counted' q' g'. equivified_fits after (now + 1 + 1) (now + 3) (spot.goal + 1) by l r counted' g' q' (omega arith))
exchange_fits rows now by spot (Ante i) Forwards l r counted g here q =
    cut_left_fits rows now spot i by r l (equiv l r) _ counted g here q
    (λ after counted' q' g'. equivified_fits after (now + 1 + 1) (now + 3) (spot.goal + 1) by l r counted' g' q' (omega arith))
exchange_fits rows now by spot (Ante i) Backwards l r counted g here q =
    cut_left_fits rows now spot i by l r (equiv l r) _ counted g here q
    (λ after counted' q' g'. commuted_fits after (now + 1 + 1) (now + 4) (spot.goal + 1) by r l counted' g' q' (omega arith))
