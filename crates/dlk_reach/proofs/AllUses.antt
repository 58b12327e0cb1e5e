-- All uses of a plan, one after another.
use Rattle.std.proofs.Common.{ℕ, ◌+◌, ◌*◌, ◌≤◌, List, [], ◌∷◌, ◌++◌, length, map, refl, subst, arith, length-append}
use Rattle.std.proofs.lemmas.List.{length-map}
use Rattle.std.proofs.lemmas.List.Elements.{All-nil, All-cons}
use Rattle.dlk_tree.specs.Trees.{Tree, node, Forest, no_kids, kid, sort, size, size_all}
use Rattle.dlk_calculus.specs.Limits.{most_leaves, most_rows, IsSmall, IsShallow}
use Rattle.dlk_calculus.specs.Limited.{InSequent, InProvable}
use Rattle.dlk_calculus.specs.Paths.{put_at}
use Rattle.dlk_calculus.specs.Places.{At}
use Rattle.dlk_calculus.specs.Provables.{Provable, started}
use Rattle.dlk_calculus.specs.Sequents.{Sequent, IsSequent, alone_right, IsFormula}
use Rattle.dlk_calculus.specs.Steps.{Start, StepOf}
use Rattle.dlk_calculus.specs.Steps.{start as by_start}
use Rattle.dlk_calculus.proofs.LimitLaws.{taken_as_given}
use Rattle.dlk_derive.specs.Plans.{Call, below, ways_for, plan, plan_all}
use Rattle.dlk_derive.specs.Rewriting as r
use Rattle.dlk_derive.specs.Rewriting.{Opens, Rewrites, none, use_one, IsNear}
use Rattle.dlk_derive.specs.Ways.{IsUsable}
use Rattle.dlk_reach.specs.Derived as d
use Rattle.dlk_reach.specs.Derived.{Gathers, none_asked, one_asked, HasOneGoal, UsedInTurn, Reaches}
use Rattle.dlk_reach.proofs.Equivalence.{IsFine, few, with_goal, Comes}
use Rattle.dlk_reach.proofs.Goes.{start_within}
use Rattle.dlk_reach.proofs.OneUse.{one_use}
use Rattle.dlk_reach.proofs.Opened.{next_clean, depth_is}
use Rattle.dlk_reach.proofs.Sites.{IsRoomy}
use Rattle.dlk_reach.proofs.Use.{Used, Stands, clean_there, put_clean, one_at_most}

gathers_join : {old : List Sequent} {asked : List Tree} {mid : List Sequent} {others : List Tree} {new : List Sequent} →
    Gathers old asked mid → Gathers mid others new → Gathers old (asked ++ others) new
gathers_join none_asked more = more
gathers_join (one_asked n rest) more = one_asked n (gathers_join rest more)

gathers_few : {old : List Sequent} {asked : List Tree} {new : List Sequent} → Gathers old asked new → length new ≤ length old + length asked
gathers_few none_asked = omega arith
gathers_few {old = old} (one_asked {b = b} {new = new} n rest) =
    let h = gathers_few rest in let k = one_at_most old (alone_right b) new n in omega (arith, h, k, length-append old new)

roomy_fine : (x : Tree) → IsRoomy x → IsFine x
roomy_fine x r = let a = r.small in let b = r.shallow in record { small = omega (arith, a); shallow = omega (arith, b) }

-- an axiom has at most one condition
asked_few : {s next : Tree} {name : List ℕ} {asked : List Tree} → Opens s name next asked → length asked ≤ 1
asked_few (r.variable x) = omega arith
asked_few (r.of_number k) = omega arith
asked_few (r.constant c) = omega arith
asked_few (r.negative a) = omega arith
asked_few (r.sum a b) = omega arith
asked_few (r.difference a b) = omega arith
asked_few (r.product a b) = omega arith
asked_few (r.power a k n) = omega arith
asked_few (r.equal a b) = omega arith
asked_few (r.unequal a b) = omega arith
asked_few (r.at_least a b) = omega arith
asked_few (r.greater a b) = omega arith
asked_few (r.at_most a b) = omega arith
asked_few (r.less a b) = omega arith
asked_few (r.both f g) = omega arith
asked_few (r.either f g) = omega arith
asked_few (r.all x f) = omega arith

-- plans are no longer than their trees
mutual
  pub plan_short : (e : Tree) → length (plan e) ≤ size e
  plan_short (node op kids) = let h = plans_short (ways_for op) kids in omega (arith, h)

  plans_short : (ways : List (List ℕ)) (kids : Forest) → length (plan_all ways kids) ≤ size_all kids
  plans_short [] kids = omega arith
  plans_short (way ∷ ways) no_kids = omega arith
  plans_short (way ∷ ways) (kid t rest) =
      let g = plan_short t in let h = plans_short ways rest in
      omega (arith, g, h, length-append (map (below way) (plan t)) (plan_all ways rest), length-map (plan t) (below way))

-- the uses in turn, behind n rows: at most so many rows are there then, and the goal is this one
record AllUsed (rows : List Provable) (most : ℕ) (c : Sequent) (calls : List Call) (goal : Tree) (leaves : List Sequent) (asked : List Tree) : Type 0 where
  after : List Provable
  used : (byte : ℕ) → UsedInTurn byte calls rows after
  rows_now : ℕ
  leaves_now : List Sequent
  comes : Comes rows_now c goal leaves_now after
  few : rows_now ≤ most
  gathers : Gathers leaves asked leaves_now

one_goal : {n : ℕ} {c : Sequent} {e : Tree} {leaves : List Sequent} {rows : List Provable} → Comes n c e leaves rows → HasOneGoal rows
one_goal {c = c} {e = e} {leaves = leaves} {rows = rows} comes =
    record { row = with_goal c e leaves; is_last = subst (λ k. At rows k (with_goal c e leaves)) comes.counted comes.last; one = refl }

-- one use, and then the others
used_first : {rows : List Provable} {n m : ℕ} {c : Sequent} {call : Call} {calls : List Call} {e mid u : Tree} {leaves : List Sequent}
    {asked others : List Tree} (most : ℕ) →
    Comes n c e leaves rows → (one : Used rows n c call mid leaves asked) → AllUsed one.after m c calls u one.leaves_now others → m ≤ most →
    AllUsed rows most c (call ∷ calls) u leaves (asked ++ others)
used_first most comes one behind within =
    let b = behind.few in
    record {
      after = behind.after;
      used = λ byte. d.first (one_goal comes) (one.atom byte) (one_goal one.comes) (behind.used byte);
      rows_now = behind.rows_now;
      leaves_now = behind.leaves_now;
      comes = behind.comes;
      few = omega (arith, b, within);
      gathers = gathers_join one.gathers behind.gathers;
    }

module _ (P : Tree → Type 0) (roomy_of : (x : Tree) → P x → IsRoomy x) (c : Sequent) (small : InSequent IsSmall c) (shallow : InSequent IsShallow c) where
  all_uses : {calls : List Call} {e u : Tree} {asked : List Tree} → Rewrites P IsUsable calls e u asked →
      (rows : List Provable) (n : ℕ) (leaves : List Sequent) → Comes n c e leaves rows → IsFormula e → IsRoomy e →
      n + 19 * length calls ≤ most_rows → length leaves + length calls ≤ most_leaves → AllUsed rows (n + 19 * length calls) c calls u leaves asked
  all_uses none rows n leaves comes formula roomy room few =
      record { after = rows; used = λ byte. d.none; rows_now = n; leaves_now = leaves; comes = comes; few = omega arith; gathers = none_asked }
  all_uses {e = e} (use_one {calls = calls} {u = u} {s = s} {next = next} {asked = asked} {others = others} call stands usable opens has rest) rows n leaves
      comes formula roomy room few =
      let next_roomy = roomy_of (put_at e call.path next) has in
      let st : Stands rows n c leaves e call.path s next = record {
        comes = comes;
        room = omega (arith, room);
        few = omega (arith, few);
        small = small;
        shallow = shallow;
        formula = formula;
        roomy = roomy;
        stands = stands;
        new_fine = roomy_fine (put_at e call.path next) next_roomy;
      } in
      let one = one_use s call.its_axiom next asked st usable opens in
      let l = clean_there e call.path s (sort s) formula stands refl in
      let y = next_clean s call.its_axiom next asked opens l in
      let m = one.few in
      let g = gathers_few one.gathers in
      let a = asked_few opens in
      used_first (n + 19 * length (call ∷ calls)) comes one
      (all_uses rest one.after one.rows_now one.leaves_now one.comes (put_clean e call.path s next (sort s) formula stands l y) next_roomy
      (omega (arith, room, m)) (omega (arith, few, g, a))) (omega (arith, m))

near_roomy : (e : Tree) (n : ℕ) → size e ≤ 150 → n ≤ 149 → (x : Tree) → IsNear e n x → IsRoomy x
near_roomy e n few less x near =
    let a = near.small in let b = near.shallow in let d = depth_is e in record { small = omega (arith, a, few, less); shallow = omega (arith, b, d, few, less) }

model_roomy : (e : Tree) → size e ≤ 150 → IsRoomy e
model_roomy e few = let d = depth_is e in record { small = omega (arith, few); shallow = omega (arith, d, few) }

model_small : (e : Tree) → size e ≤ 150 → InSequent IsSmall (alone_right e) × InSequent IsShallow (alone_right e)
model_small e few = let d = depth_is e in (
  record { ante = All-nil IsSmall; succ = All-cons IsSmall e [] (omega (arith, few)) (All-nil IsSmall) },
  record { ante = All-nil IsShallow; succ = All-cons IsShallow e [] (omega (arith, few, d)) (All-nil IsShallow) },
)

started_all : (P : Tree → Type 0) (e : Tree) → InSequent P (alone_right e) → InProvable P (started (alone_right e))
started_all P e h = record { conclusion = h; goals = All-cons (InSequent P) (alone_right e) [] h (All-nil (InSequent P)) }

-- the step that states the model is taken
model_starts : (e : Tree) → IsFormula e → InSequent IsSmall (alone_right e) → InSequent IsShallow (alone_right e) →
    StepOf [] (Start (alone_right e)) (started (alone_right e))
model_starts e formula small shallow =
    let s = alone_right e in
    let is : IsSequent s = record { ante = All-nil IsFormula; succ = All-cons IsFormula e [] formula (All-nil IsFormula) } in
    (taken_as_given [] (Start s) (started s)).1 (
      by_start s is,
      start_within s (started s) (started_all IsSmall e small) (started_all IsShallow e shallow)
          (few e),
      omega arith,
    )

-- from the row that states the model
pub from_start : (byte : ℕ) (model k u : Tree) (calls : List Call) (asked : List Tree) → IsFormula model → size model ≤ 150 → size k ≤ 149 →
    length calls ≤ size k →
    Rewrites (IsNear model (size k)) IsUsable calls model u asked → Reaches byte calls model u asked
from_start byte model k u calls asked formula few less short rewrites =
    let s = model_small model few in
    let all = all_uses (IsNear model (size k)) (near_roomy model (size k) few less) (alone_right model) s.0 s.1 rewrites
    (started (alone_right model) ∷ []) 1 [] (record { counted = refl; last = refl }) formula (model_roomy model few) (omega (arith, short, less))
    (omega (arith, short, less)) in
    let f = all.few in
    let counted = all.comes.counted in
    record {
      start = model_starts model formula s.0 s.1;
      after = all.after;
      used = all.used byte;
      few = omega (arith, f, counted, short, less);
      leaves = all.leaves_now;
      gathers = all.gathers;
      last = subst (λ n. At all.after n (with_goal (alone_right model) u all.leaves_now)) counted all.comes.last;
    }
