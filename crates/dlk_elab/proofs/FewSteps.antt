-- An atom makes few steps, so where there is room for them none is refused for want of it.
use Rattle.std.proofs.Common.{◌≡◌, ℕ, ◌+◌, ◌≤◌, ◌<◌, Bool, true, false, cond, List, [], ◌∷◌, length, Some, refl, ap, subst, arith, length-append}
use Rattle.std.specs.Str.{bytes_eq}
use Rattle.dlk_tree.specs.Trees.{Tree}
use Rattle.dlk_calculus.specs.Axioms.{Axiom, axiom_named}
use Rattle.dlk_calculus.specs.Pairs.{Pair, Extra}
use Rattle.dlk_calculus.specs.Paths.{put_at}
use Rattle.dlk_calculus.specs.Provables.{Provable}
use Rattle.dlk_calculus.specs.Rules.{RuleAgainst}
use Rattle.dlk_calculus.specs.Sequents.{Sequent}
use Rattle.dlk_calculus.specs.declared.reason.Reason.{Reason}
use Rattle.dlk_calculus.specs.declared.reason.Reason.TheVariants.{LinesFull}
use Rattle.dlk_calculus.specs.Limits.{most_rows}
use Rattle.dlk_calculus.specs.Steps.{Step, UseAxiom, Rename, Exceeds, too_big, Against, against_rule, rows_full, past_limit}
use Rattle.dlk_kernel.specs.Taken.{Takes, none, more}
use Rattle.dlk_sequent.specs.declared.sequent.Place.{Place}
use Rattle.dlk_sequent.specs.declared.sequent.Place.TheVariants.{Ante, Succ}
use Rattle.dlk_tacsyn.specs.Tactics.{Atom}
use Rattle.dlk_match.specs.Matching.{Match}
use Rattle.dlk_uses.specs.Uses.{Direction, Forwards, Backwards, Use, Spot, key, left_of, right_of, renaming, substituting, instance}
use Rattle.dlk_uses.specs.Uses.{exchange, by_equivalence, by_equation, by_conditional_equation, by_implication}
use Rattle.dlk_uses.specs.Uses.{Finishes, equivalence, equation, conditional_equivalence, conditional_equation, implication}
use Rattle.dlk_uses.specs.Uses.{fact as by_its_fact}
use Rattle.dlk_elab.specs.Atoms.{Asked, Steps, Instance, Refused, Asks, nil, close, leaf, a_rule, generalize, cut_box, use_axiom, FailWhy, AtStep}
use Rattle.dlk_elab.specs.Atoms.{AtomSteps, asked, uses, instance_of, FirstFault, AtomFault, asks_none, not_taken, not_instantiated, not_used}
use Rattle.dlk_elab.specs.Outcomes.{most_steps}
use Rattle.dlk_elab.proofs.AtomLaws.{same_instance}

renaming_few : (rows : ℕ) (renames : List (List ℕ × List ℕ)) → length (renaming rows renames) ≤ length renames
renaming_few rows [] = omega arith
renaming_few rows (r ∷ renames) = go (bytes_eq r.0 r.1) (renaming_few rows renames) (renaming_few (rows + 1) renames)
  where
    go : (b : Bool) → length (renaming rows renames) ≤ length renames → length (renaming (rows + 1) renames) ≤ length renames →
        length (cond b (renaming rows renames) (Rename rows r.0 r.1 ∷ renaming (rows + 1) renames)) ≤ length (r ∷ renames)
    go true h k = omega arith
    go false h k = omega arith

substituting_few : (rows : ℕ) (pairs : List Pair) → length (substituting rows pairs) ≤ 1
substituting_few rows [] = omega arith
substituting_few rows (p ∷ pairs) = omega arith

-- the axiom, three names at most, and a substitution
instance_few : (rows : ℕ) (name : List ℕ) (extra : Extra) → length extra.renames ≤ 3 → length (instance rows name extra) ≤ 5
instance_few rows name extra few =
    let named = UseAxiom name ∷ renaming (rows + 1) extra.renames in
    let all = length-append named (substituting (rows + length named) extra.pairs) in
    let names = renaming_few (rows + 1) extra.renames in
    let pairs = substituting_few (rows + length named) extra.pairs in
    omega (arith, few, all, names, pairs)

exchange_few : (by rows : ℕ) (spot : Spot) (place : Place) (direction : Direction) (new : Tree) → length (exchange by rows spot place direction new) ≤ 5
exchange_few by rows spot (Succ j) Forwards new = omega arith
exchange_few by rows spot (Succ j) Backwards new = omega arith
exchange_few by rows spot (Ante i) Forwards new = omega arith
exchange_few by rows spot (Ante i) Backwards new = omega arith

equivalence_few : (now : ℕ) (spot : Spot) (place : Place) (direction : Direction) (e : Tree) (path : List ℕ) (l r : Tree) →
    length (by_equivalence now spot place direction e path l r) ≤ 8
equivalence_few now spot place Forwards e path l r =
    let h = exchange_few (now + 3) (now + 3) spot place Forwards (put_at e path r) in omega (arith, h)
equivalence_few now spot place Backwards e path l r =
    let h = exchange_few (now + 3) (now + 3) spot place Backwards (put_at e path l) in omega (arith, h)

equation_few : (now : ℕ) (spot : Spot) (place : Place) (direction : Direction) (e : Tree) (outer inner : List ℕ) (d l r : Tree) →
    length (by_equation now spot place direction e outer inner d l r) ≤ 12
equation_few now spot place direction e outer inner d l r =
    let h = equivalence_few (now + 4) spot place direction e outer (put_at d inner l) (put_at d inner r) in omega (arith, h)

conditional_equation_few : (now : ℕ) (spot : Spot) (place : Place) (direction : Direction) (e : Tree) (outer inner : List ℕ) (d b l r : Tree) →
    length (by_conditional_equation now spot place direction e outer inner d b l r) ≤ 17
conditional_equation_few now spot place direction e outer inner d b l r =
    let h = equation_few (now + 5) spot place direction e outer inner d l r in omega (arith, h)

implication_few : (now : ℕ) (spot : Spot) (place : Place) (b h : Tree) → length (by_implication now spot place b h) ≤ 17
implication_few now spot (Succ j) b h = omega arith
implication_few now spot (Ante i) b h = omega arith

finishing_few : (now : ℕ) (spot : Spot) (used : Use) (e f : Tree) (steps : List Step) → Finishes now spot used e f steps → length steps ≤ 17
finishing_few now spot used e f _ (equivalence form) =
    let h = equivalence_few now spot used.place used.direction e used.path (left_of f) (right_of f) in omega (arith, h)
finishing_few now spot used e f _ (equation outer inner d form around) =
    let h = equation_few now spot used.place used.direction e outer inner d (left_of f) (right_of f) in omega (arith, h)
finishing_few now spot used e f _ (conditional_equivalence j form place) = omega arith
finishing_few now spot used e f _ (conditional_equation outer inner d form around) =
    conditional_equation_few now spot used.place used.direction e outer inner d (left_of f) (left_of (right_of f)) (right_of (right_of f))
finishing_few now spot used e f _ (implication form) = implication_few now spot used.place (left_of f) (right_of f)
finishing_few now spot used e f _ (by_its_fact j form place) = omega arith

asked_few : (rows fact goal : ℕ) (s : Sequent) (atom : Atom) (steps : List Step) → Asks rows fact goal s atom (Steps steps) → length steps ≤ most_steps
asked_few rows fact goal s atom _ (nil name) = omega arith
asked_few rows fact goal s atom _ (close name same) = omega arith
asked_few rows fact goal s atom _ (leaf name) = omega arith
asked_few rows fact goal s atom _ (a_rule word rule name is args) = omega arith
asked_few rows fact goal s atom _ (generalize j b f name args here) = omega arith
asked_few rows fact goal s atom _ (cut_box j b f h name args here) = omega arith

-- each step that is taken is a row more
pub takes_length : (rows : List Provable) (steps : List Step) (after : List Provable) → Takes rows steps after → length after ≡ length rows + length steps
takes_length rows _ _ none = omega arith
takes_length rows _ _ (more {steps} {mid} {step} {p} before is) =
    let first = takes_length rows steps mid before in
    let made = length-append mid (p ∷ []) in
    let all = length-append steps (step ∷ []) in
    omega (arith, first, made, all)

no_limit : (why : Reason) (step : Step) (p : Provable) → Exceeds why step p → why ≡ LinesFull → ⊥
no_limit _ step p (too_big n) e = absurd (cc e)
no_limit _ step p _ e = absurd (cc e)

is_full : (rows : List Provable) (step : Step) (why : Reason) → Against rows step why → why ≡ LinesFull → most_rows ≤ length rows
is_full rows step _ (rows_full full) e = full
is_full rows _ why (against_rule {rule} s is_goal against) e = absurd (subst (λ (w : Reason). RuleAgainst w rule s) e against)
is_full rows step _ (past_limit {why} p gives exceeds) e = absurd (no_limit why step p exceeds e)
is_full rows step _ _ e = absurd (cc e)

-- so there is no room for all of them, where one is refused for want of it
no_room : (rows : List Provable) (steps : List Step) → FirstFault rows steps LinesFull → most_rows < length rows + length steps
no_room rows steps f =
    let between = takes_length rows f.before f.between f.takes in
    let full = is_full f.between f.step LinesFull f.fault.against refl in
    let all = ap length f.steps_are in
    let parts = length-append f.before (f.step ∷ f.behind) in
    omega (arith, between, full, all, parts)

refuses_other : (rows fact goal : ℕ) (s : Sequent) (atom : Atom) (wanted : Asked) → Asks rows fact goal s atom wanted →
    wanted ≡ Refused (AtStep LinesFull) → ⊥
refuses_other rows fact goal s atom _ (nil name) e = absurd (cc e)
refuses_other rows fact goal s atom _ _ e = absurd (cc e)

same_reason : (why : Reason) → AtStep why ≡ AtStep LinesFull → why ≡ LinesFull
same_reason why e = cc e

module _ (few : (name : List ℕ) (a : Axiom) (direction : Direction) (place : Place) (t : Tree) (given extra : Extra) → axiom_named name ≡ Some a →
    Match (key a.form direction place a.formula) a.own_names t given extra → length extra.renames ≤ 3) where
  renames_few : (rows fact goal : ℕ) (s : Sequent) (atom : Atom) (u : Use) (x : Extra) (e : Tree) (wanted : Asked) → Asks rows fact goal s atom wanted →
      wanted ≡ Instance u x e → length x.renames ≤ 3
  renames_few rows fact goal s atom u x e _ (use_axiom v f t y is there may match) q =
      let same : y ≡ x = (same_instance v u y x f e q).1 in
      let most = few is.name v.its_axiom v.direction v.place t v.given y is.is_axiom match in
      subst (λ (z : Extra). length z.renames ≤ 3) same most
  renames_few rows fact goal s atom u x e _ asks q = absurd (cc q)

  pub atom_few : (rows : List Provable) (fact goal : ℕ) (atom : Atom) (steps : List Step) (after : List Provable) → AtomSteps rows fact goal atom steps after →
      length steps ≤ most_steps
  atom_few rows fact goal atom steps after (asked s is asks takes) = asked_few (length rows) fact goal s atom steps asks
  atom_few rows fact goal atom _ after (uses s used extra e between rest is asks first behind then_on) =
      let names = renames_few (length rows) fact goal s atom used extra e (Instance used extra e) asks refl in
      let begins = instance_few (length rows) used.its_axiom.name extra names in
      let ends = finishing_few (length between) (record { fact = fact; goal = goal; s = s }) used e behind.f rest behind.finishes in
      let all = length-append (instance_of (length rows) used extra) rest in
      omega (arith, begins, ends, all)

  atom_full : (rows : List Provable) (fact goal : ℕ) (atom : Atom) (why : FailWhy) → AtomFault rows fact goal atom why → why ≡ AtStep LinesFull →
      most_rows < length rows + most_steps
  atom_full rows fact goal atom why (asks_none s is asks) e =
      absurd (refuses_other (length rows) fact goal s atom (Refused why) asks (ap Refused e))
  atom_full rows fact goal atom _ (not_taken {why} s steps is asks f) e =
      let most = asked_few (length rows) fact goal s atom steps asks in
      let full = no_room rows steps (subst (FirstFault rows steps) (same_reason why e) f) in
      omega (arith, most, full)
  atom_full rows fact goal atom _ (not_instantiated {why} s used extra formula is asks f) e =
      let names = renames_few (length rows) fact goal s atom used extra formula (Instance used extra formula) asks refl in
      let most = instance_few (length rows) used.its_axiom.name extra names in
      let full = no_room rows (instance_of (length rows) used extra) (subst (FirstFault rows (instance_of (length rows) used extra)) (same_reason why e) f) in
      omega (arith, most, full)
  atom_full rows fact goal atom _ (not_used {why} s used extra formula between rest is asks first behind f) e =
      let names = renames_few (length rows) fact goal s atom used extra formula (Instance used extra formula) asks refl in
      let begins = instance_few (length rows) used.its_axiom.name extra names in
      let ends = finishing_few (length between) (record { fact = fact; goal = goal; s = s }) used formula behind.f rest behind.finishes in
      let made = takes_length rows (instance_of (length rows) used extra) between first in
      let full = no_room between rest (subst (FirstFault between rest) (same_reason why e) f) in
      omega (arith, begins, ends, made, full)

  pub atom_room : (rows : List Provable) (fact goal : ℕ) (atom : Atom) → AtomFault rows fact goal atom (AtStep LinesFull) →
      most_rows < length rows + most_steps
  atom_room rows fact goal atom f = atom_full rows fact goal atom (AtStep LinesFull) f refl
