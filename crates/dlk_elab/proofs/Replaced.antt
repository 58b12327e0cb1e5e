-- What an atom leaves of the last row.
use Rattle.std.proofs.Common.{◌≡◌, ℕ, ◌+◌, ◌-◌, List, [], ◌∷◌, ◌++◌, length, take, drop, refl, sym, ap, subst, ◌∙◌, length-append, append_assoc}
use Rattle.dlk_calculus.specs.Places.{At, IsPlace, put_all}
use Rattle.dlk_calculus.specs.Sequents.{Sequent}
use Rattle.dlk_calculus.specs.Provables.{Provable}
use Rattle.dlk_calculus.specs.Rules.{Rule, Close}
use Rattle.dlk_calculus.specs.Steps.{Step, Leaf, Apply, Merge, Gives, IsGoal}
use Rattle.dlk_calculus.specs.Steps.{apply as by_apply, merge as by_merge}
use Rattle.dlk_calculus.proofs.PlaceLaws.{at_one, At_place, split_at, At-more, At-between}
use Rattle.dlk_tacsyn.specs.Tactics.{Atom}
use Rattle.dlk_kernel.specs.Taken.{Takes}
use Rattle.dlk_elab.specs.Atoms.{Asked, Steps, Asks, nil, close, leaf, a_rule, generalize, cut_box, AtomSteps, uses, instance_of, Replaces}
use Rattle.dlk_elab.specs.Atoms.{asked as by_asking}
use Rattle.dlk_uses.specs.Uses.{generalizing, cutting_box}
use Rattle.dlk_uses.proofs.Taking.{takes_none, takes_first}
use Rattle.dlk_elab.proofs.Replacing.{Behind, Ends, rows_kept, put_length}
use Rattle.dlk_elab.proofs.FormsReplace.{finishes_ends, generalizing_ends, cutting_box_ends}

-- What is left of a fact's row by a step on one of its goals.
record Left (p : Provable) (goal : ℕ) (q : Provable) : Type 0 where
  new : List Sequent
  conclusion : q.conclusion ≡ p.conclusion
  goals : q.goals ≡ put_all p.goals goal new

by_rule : (rows : List Provable) (fact goal : ℕ) (rule : Rule) (p q : Provable) → At rows fact p → Gives rows (Apply fact goal rule) q → Left p goal q
by_rule rows fact goal rule p q stands (by_apply _ _ _ r s premises row is_goal proper makes) =
    let same : r ≡ p = at_one rows fact r p row stands in
    record { new = premises; conclusion = ap (λ (x : Provable). x.conclusion) same; goals = ap (λ (x : Provable). put_all x.goals goal premises) same }

by_fact : (rows : List Provable) (fact goal by : ℕ) (p q : Provable) → At rows fact p → Gives rows (Merge fact goal by) q → Left p goal q
by_fact rows fact goal by p q stands (by_merge _ _ _ r other new row other_row is_goal are_new) =
    let same : r ≡ p = at_one rows fact r p row stands in
    record { new = other.goals; conclusion = ap (λ (x : Provable). x.conclusion) same; goals = ap (λ (x : Provable). put_all x.goals goal other.goals) same }

steps_are : (xs steps : List Step) → Steps xs ≡ Steps steps → xs ≡ steps
steps_are xs steps e = cc

-- the last of some rows
last : (rows : List Provable) (p : Provable) → At (rows ++ p ∷ []) (length (rows ++ p ∷ [])) p
last rows p = let n : length rows + 1 ≡ length (rows ++ p ∷ []) = sym (length-append rows (p ∷ [])) in subst (λ k. At (rows ++ p ∷ []) k p) n (At-between
    rows p [])

same_goals : (goals : List Sequent) (goal : ℕ) (s : Sequent) → At goals goal s → goals ≡ put_all goals goal (s ∷ [])
same_goals goals goal s stands = split_at goals goal s stands ∙ sym (append_assoc (take (goal - 1) goals) (s ∷ []) (drop goal goals))

one_step : (rows after : List Provable) (goal : ℕ) (p : Provable) (rule : Rule) → At rows (length rows) p →
    Takes rows (Apply (length rows) goal rule ∷ []) after →
    (new : List Sequent) × Replaces rows goal after new
one_step rows after goal p rule stands taken =
    let f = takes_first rows after (Apply (length rows) goal rule) [] taken in
    let ends : after ≡ rows ++ f.row ∷ [] = takes_none (rows ++ f.row ∷ []) after f.others in
    let l = by_rule rows (length rows) goal rule p f.row stands f.is_its.given in (
      l.new,
      record {
        old_last = p;
        new_last = f.row;
        old_is = stands;
        new_is = subst (λ r. At r (length r) f.row) (sym ends) (last rows f.row);
        conclusion = l.conclusion;
        goals = l.goals;
      },
    )

two_steps : (rows after : List Provable) (goal by : ℕ) (p : Provable) (s : Sequent) → At rows (length rows) p →
    Takes rows (Leaf s ∷ Merge (length rows) goal by ∷ []) after → (new : List Sequent) × Replaces rows goal after new
two_steps rows after goal by p s stands taken =
    let f = takes_first rows after (Leaf s) (Merge (length rows) goal by ∷ []) taken in
    let mid = rows ++ f.row ∷ [] in
    let g = takes_first mid after (Merge (length rows) goal by) [] f.others in
    let ends : after ≡ mid ++ g.row ∷ [] = takes_none (mid ++ g.row ∷ []) after g.others in
    let l = by_fact mid (length rows) goal by p g.row (At-more rows (f.row ∷ []) (length rows) p stands) g.is_its.given in (
      l.new,
      record {
        old_last = p;
        new_last = g.row;
        old_is = stands;
        new_is = subst (λ r. At r (length r) g.row) (sym ends) (last mid g.row);
        conclusion = l.conclusion;
        goals = l.goals;
      },
    )

-- what ends in the goal's place replaces it
ended_replaces : (rows after : List Provable) (goal : ℕ) (p : Provable) (there : IsPlace p.goals goal) → At rows (length rows) p → Ends p goal there after →
    (new : List Sequent) × Replaces rows goal after new
ended_replaces rows after goal p there stands h = (
  h.behind.new,
  record {
    old_last = p;
    new_last = h.last;
    old_is = stands;
    new_is = h.is_last;
    conclusion = h.behind.conclusion;
    goals = h.behind.goals;
  },
)

begun : (p : Provable) (goal : ℕ) (s : Sequent) → At p.goals goal s → Behind p goal 1 p
begun p goal s here = record { new = s ∷ []; count = refl; conclusion = refl; goals = same_goals p.goals goal s here }

replaced_by : (rows after : List Provable) (goal : ℕ) (p : Provable) (s : Sequent) (atom : Atom) (steps : List Step) (asked : Asked) →
    At rows (length rows) p → At p.goals goal s → Asks (length rows) (length rows) goal s atom asked → asked ≡ Steps steps → Takes rows steps after →
    (new : List Sequent) × Replaces rows goal after new
replaced_by rows after goal p s atom steps _ stands here (nil name) e taken =
    let none : [] ≡ steps = cc in
    let ends : after ≡ rows = takes_none rows after (subst (λ xs. Takes rows xs after) (sym none) taken) in (
      s ∷ [],
      record {
        old_last = p;
        new_last = p;
        old_is = stands;
        new_is = subst (λ r. At r (length r) p) (sym ends) stands;
        conclusion = refl;
        goals = same_goals p.goals goal s here;
      },
    )
replaced_by rows after goal p s atom steps _ stands here (close {i} {j} name first) e taken =
    let are : Apply (length rows) goal (Close i j) ∷ [] ≡ steps = cc in
    one_step rows after goal p (Close i j) stands (subst (λ xs. Takes rows xs after) (sym are) taken)
replaced_by rows after goal p s atom steps _ stands here (leaf name) e taken =
    let are : Leaf s ∷ Merge (length rows) goal (length rows + 1) ∷ [] ≡ steps = cc in
    two_steps rows after goal (length rows + 1) p s stands (subst (λ xs. Takes rows xs after) (sym are) taken)
replaced_by rows after goal p s atom steps _ stands here (a_rule word rule name its_word for) e taken =
    let are : Apply (length rows) goal rule ∷ [] ≡ steps = cc in
    one_step rows after goal p rule stands (subst (λ xs. Takes rows xs after) (sym are) taken)
replaced_by rows after goal p s atom steps _ stands here (generalize j b f name given at) e taken =
    let are = steps_are (generalizing (length rows) (record { fact = length rows; goal = goal; s = s }) j b f) steps e in
    let there = At_place p.goals goal s here in
    ended_replaces rows after goal p there stands
    (generalizing_ends p goal there after (length rows) s (begun p goal s here) (length rows) (length rows) j b f refl
    (record { rows = rows; count = refl; stands = stands; taken = subst (λ xs. Takes rows xs after) (sym are) taken }))
replaced_by rows after goal p s atom steps _ stands here (cut_box j b f h name given at) e taken =
    let are = steps_are (cutting_box (length rows) (record { fact = length rows; goal = goal; s = s }) j b f h) steps e in
    let there = At_place p.goals goal s here in
    ended_replaces rows after goal p there stands (cutting_box_ends p goal there after (length rows) s (begun p goal s here) (length rows) j b f h
    (record { rows = rows; count = refl; stands = stands; taken = subst (λ xs. Takes rows xs after) (sym are) taken }))
replaced_by rows after goal p s atom steps _ stands here asks e taken = absurd (cc e)

pub replaced : (rows after : List Provable) (goal : ℕ) (atom : Atom) (steps : List Step) → AtomSteps rows (length rows) goal atom steps after →
    (new : List Sequent) × Replaces rows goal after new
replaced rows after goal atom _ (by_asking {steps} s is_goal asks takes) =
    replaced_by rows after goal is_goal.0 s atom steps (Steps steps) is_goal.1 is_goal.2 asks refl takes
replaced rows after goal atom _ (uses s used extra e between rest is_goal asks first behind then_on) =
    let there = At_place is_goal.0.goals goal s is_goal.2 in
    ended_replaces rows after goal is_goal.0 there is_goal.1
    (finishes_ends is_goal.0 goal there after (length rows) s (begun is_goal.0 goal s is_goal.2) (length between) (length between) used e behind.f rest refl
    behind.finishes (record {
      rows = between;
      count = refl;
      stands = rows_kept rows between (instance_of (length rows) used extra) (length rows) is_goal.0 first is_goal.1;
      taken = then_on;
    }))

-- the goal that an atom is run on
its_goal : (rows after : List Provable) (goal : ℕ) (atom : Atom) (steps : List Step) → AtomSteps rows (length rows) goal atom steps after →
    (s : Sequent) × IsGoal rows (length rows) goal s
its_goal rows after goal atom _ (by_asking s is_goal asks takes) = (s, is_goal)
its_goal rows after goal atom _ (uses s used extra e between rest is_goal asks first behind then_on) = (s, is_goal)

pub counted : (rows after : List Provable) (goal : ℕ) (atom : Atom) (steps : List Step) (new : List Sequent) (p q : Provable) →
    AtomSteps rows (length rows) goal atom steps after → Replaces rows goal after new → At rows (length rows) p → At after (length after) q →
    length q.goals + 1 ≡ length p.goals + length new
counted rows after goal atom steps new p q made replaces first last =
    let old : replaces.old_last ≡ p = at_one rows (length rows) replaces.old_last p replaces.old_is first in
    let now : replaces.new_last ≡ q = at_one after (length after) replaces.new_last q replaces.new_is last in
    let g = its_goal rows after goal atom steps made in
    let row : g.1.0 ≡ p = at_one rows (length rows) g.1.0 p g.1.1 first in
    let here : At p.goals goal g.0 = subst (λ (r : Provable). At r.goals goal g.0) row g.1.2 in
    let goals : q.goals ≡ put_all p.goals goal new =
    sym (ap (λ (r : Provable). r.goals) now) ∙ replaces.goals ∙ ap (λ (r : Provable). put_all r.goals goal new) old in
    ap (λ (l : List Sequent). length l + 1) goals ∙ put_length p.goals new goal (At_place p.goals goal g.0 here)
