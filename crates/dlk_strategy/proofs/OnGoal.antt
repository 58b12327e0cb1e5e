-- Runs on a goal of rows.
use Rattle.std.proofs.Common.{◌≡◌, ◌≢◌, ℕ, ◌+◌, ◌-◌, ◌*◌, ◌≤◌, ◌<◌, List, [], ◌∷◌, ◌++◌, length, Err, refl, sym, subst, arith, length-append}
use Rattle.std.proofs.lemmas.List.{append-nil}
use Rattle.dlk_tree.specs.Trees.{Tree}
use Rattle.dlk_calculus.specs.declared.reason.Reason.TheVariants.{LinesFull}
use Rattle.dlk_calculus.specs.Limits.{most_rows}
use Rattle.dlk_calculus.specs.Provables.{Provable}
use Rattle.dlk_calculus.specs.Sequents.{alone_right}
use Rattle.dlk_calculus.specs.Steps.{Step, Start, StepOf}
use Rattle.dlk_kernel.specs.Taken.{Takes}
use Rattle.dlk_kernel.specs.Taken.{none as no_step}
use Rattle.dlk_tacsyn.specs.Tactics.{Atom, Tactic}
use Rattle.dlk_library.specs.Expanded.{Expanded}
use Rattle.dlk_derive.specs.Derives.{DeriveWhy, NoPlace, WrongShape, NoMatch}
use Rattle.dlk_elab.specs.Atoms.{AtomSteps, AtomFault}
use Rattle.dlk_elab.proofs.FewSteps.{takes_length}
use Rattle.dlk_elab.specs.declared.fault.FailWhy.{FailWhy}
use Rattle.dlk_elab.specs.declared.fault.FailWhy.TheVariants as fail
use Rattle.dlk_elab.specs.Outcomes.{most_steps}
use Rattle.dlk_elab.specs.Ties.{IsOnFaultOf}
use Rattle.dlk_elab.proofs.StepSymbols.{taken_behind}
use Rattle.dlk_strategy.specs.declared.fault.RunFault.{RunFault}
use Rattle.dlk_strategy.specs.declared.fault.RunFault.TheVariants as fault
use Rattle.dlk_strategy.specs.Runs.{Progress, Outcome, Done, Fails, Runs, RunsModel, RunsOn, behind, most_runs}
use Rattle.dlk_strategy.specs.Ties.{Becomes, with_runs}
use Rattle.dlk_strategy.specs.Whys.{why_of}
use Rattle.dlk_strategy.proofs.Advancing.{Rises, Advances, advance_fate}
use Rattle.dlk_strategy.proofs.Blind.{blind_fate}
use Rattle.dlk_strategy.proofs.Keeping.{keeps_fate}
use Rattle.dlk_strategy.proofs.OneFate.{IsOne}
use Rattle.dlk_strategy.proofs.TakenSteps.{AnyAtom, each_any, uses_any}

-- rows, with nothing made of them so far
abbrev pub fresh : List Provable → ℕ → Progress
fresh rows used = record { steps = []; rows = rows; used = used }

-- what the interpreter makes is made by the run
pub on_done : (t u : Tactic) (rows : List Provable) (goal used left : ℕ) (before after : Progress) → before ≡ fresh rows used → Expanded t u →
    Runs u 1 goal before (Done after left) → RunsOn t rows goal used (Done after left)
on_done t u rows goal used left before after is expanded run =
    record { expansion = u; expanded = expanded; run = subst (λ (now : Progress). Runs u 1 goal now (Done after left)) is run }

fresh_fault : (t u : Tactic) (rows : List Provable) (goal used : ℕ) (after : Progress) (e : RunFault) → Expanded t u →
    Becomes (Runs u 1 goal) (fresh rows used) after (Err e) → IsOnFaultOf (RunsOn t rows goal used) (with_runs e after.used)
fresh_fault t u rows goal used after (fault.Fails at why) expanded run = record { expansion = u; expanded = expanded; run = run }
fresh_fault t u rows goal used after (fault.Budget at) expanded run = record { expansion = u; expanded = expanded; run = run }
fresh_fault t u rows goal used after fault.Memory expanded run = tt

-- and so is why it makes nothing
pub on_fault : (t u : Tactic) (rows : List Provable) (goal used : ℕ) (before after : Progress) (e : RunFault) → before ≡ fresh rows used → Expanded t u →
    Becomes (Runs u 1 goal) before after (Err e) → IsOnFaultOf (RunsOn t rows goal used) (with_runs e after.used)
on_fault t u rows goal used before after e is expanded run =
    fresh_fault t u rows goal used after e expanded (subst (λ (now : Progress). Becomes (Runs u 1 goal) now after (Err e)) is run)

-- one thing becomes of the goal
pub one_on : ((t a b : Tactic) → Expanded t a → Expanded t b → a ≡ b) → ((t : Tactic) (goals goal : ℕ) → IsOne (Runs t goals goal)) →
    (t : Tactic) (rows : List Provable) (goal used : ℕ) (a b : Outcome) → RunsOn t rows goal used a → RunsOn t rows goal used b → a ≡ b
one_on one_expansion one_fate t rows goal used a b p q =
    let same : p.expansion ≡ q.expansion = one_expansion t p.expansion q.expansion p.expanded q.expanded in
    one_fate q.expansion 1 goal (fresh rows used) a b (subst (λ (u : Tactic). Runs u 1 goal (fresh rows used) a) same p.run) q.run

-- and something does, where it does with the steps that gave the rows
pub some_on : (t u : Tactic) (steps : List Step) (rows : List Provable) (goal used : ℕ) (o : Outcome) → Expanded t u →
    Runs u 1 goal (record { steps = steps; rows = rows; used = used }) o → (fewer : Outcome) × RunsOn t rows goal used fewer
some_on t u steps rows goal used o expanded run =
    let again = subst (λ (xs : List Step). Runs u 1 goal (record { steps = xs; rows = rows; used = used }) o) (sym (append-nil steps)) run in
    let found = (blind_fate steps u 1 goal).back (fresh rows used) o again in
    (found.fewer, record { expansion = u; expanded = expanded; run = found.becomes })

-- the steps are taken in turn
module _ (atom_taken : (rows : List Provable) (fact goal : ℕ) (atom : Atom) (steps : List Step) (after : List Provable) →
    AtomSteps rows fact goal atom steps after → Takes rows steps after) where
  abbrev AreTaken : List Provable → Progress → Type 0
  AreTaken rows now = Takes rows now.steps now.rows

  taken_on : (rows : List Provable) (now : Progress) (goal : ℕ) (atom : Atom) (new : List Step) (after : List Provable) → AreTaken rows now →
      AtomSteps now.rows (length now.rows) goal atom new after → Takes rows (now.steps ++ new) after
  taken_on rows now goal atom new after taken made =
      taken_behind rows now.rows after now.steps new taken (atom_taken now.rows (length now.rows) goal atom new after made)

  pub on_taken : (t : Tactic) (rows : List Provable) (goal used : ℕ) (made : Progress) (left : ℕ) → RunsOn t rows goal used (Done made left) →
      Takes rows made.steps made.rows
  on_taken t rows goal used made left r =
      keeps_fate (AreTaken rows) AnyAtom (λ now count taken. taken) (λ n atom is. tt) uses_any
      (λ now here atom new after is taken by. taken_on rows now here atom new after taken by) r.expansion 1 goal (each_any r.expansion) (fresh rows used)
      (Done made left) no_step r.run

-- each run makes few steps
module _ (few : (rows : List Provable) (fact goal : ℕ) (atom : Atom) (steps : List Step) (after : List Provable) → AtomSteps rows fact goal atom steps after →
    length steps ≤ most_steps) where
  -- there are at most so many steps for each run that was counted since
  abbrev AreFew : ℕ → Progress → Type 0
  AreFew used now = length now.steps + most_steps * used ≤ most_steps * now.used

  few_more : (used : ℕ) (now : Progress) (goal : ℕ) (atom : Atom) (new : List Step) (rows : List Provable) → now.used < most_runs → AreFew used now →
      AtomSteps now.rows (length now.rows) goal atom new rows → AreFew used (record { steps = now.steps ++ new; rows = rows; used = now.used + 1 })
  few_more used now goal atom new rows room are made =
      let most = few now.rows (length now.rows) goal atom new rows made in
      let all = length-append now.steps new in
      omega (arith, most, all, are)

  abbrev AnyWhy : FailWhy → Type 0
  AnyWhy why = Unit {0}

  advances : (t : Tactic) (rows : List Provable) (goal used : ℕ) (o : Outcome) → RunsOn t rows goal used o →
      Advances (AreFew used) AnyWhy (λ now count up are. omega (arith, up, are)) (few_more used) (λ now here atom why room are h. tt) tt tt (λ why. tt)
      (fresh rows used) o
  advances t rows goal used o r =
      advance_fate (AreFew used) AnyWhy (λ now count up are. omega (arith, up, are)) (few_more used) (λ now here atom why room are h. tt) tt tt (λ why. tt)
      r.expansion 1 goal (fresh rows used) o (omega arith) r.run

  pub record Counted (used : ℕ) (made : Progress) : Type 0 where
    pub counted : Rises used made.used
    pub steps : length made.steps ≤ most_steps * (made.used - used)

  pub on_counted : (t : Tactic) (rows : List Provable) (goal used : ℕ) (made : Progress) (left : ℕ) → RunsOn t rows goal used (Done made left) →
      Counted used made
  on_counted t rows goal used made left r =
      let h = advances t rows goal used (Done made left) r in
      let up = h.counted.rises in
      let are = h.holds in
      record { counted = h.counted; steps = omega (arith, up, are) }

  pub on_failed : (t : Tactic) (rows : List Provable) (goal used at count : ℕ) (why : FailWhy) → RunsOn t rows goal used (Fails at why count) →
      Rises used count
  on_failed t rows goal used at count why r = (advances t rows goal used (Fails at why count) r).counted

-- where there is room for what each makes, none fails for want of it
module _ (atom_taken : (rows : List Provable) (fact goal : ℕ) (atom : Atom) (steps : List Step) (after : List Provable) →
    AtomSteps rows fact goal atom steps after → Takes rows steps after)
    (few : (rows : List Provable) (fact goal : ℕ) (atom : Atom) (steps : List Step) (after : List Provable) → AtomSteps rows fact goal atom steps after →
    length steps ≤ most_steps)
    (full : (rows : List Provable) (fact goal : ℕ) (atom : Atom) → AtomFault rows fact goal atom (fail.Step LinesFull) →
    most_rows < length rows + most_steps) where
  abbrev HasRoom : Progress → Type 0
  HasRoom now = length now.rows + most_steps * (most_runs - now.used) ≤ most_rows

  abbrev IsOther : FailWhy → Type 0
  IsOther why = why ≢ fail.Step LinesFull

  room_on : (now : Progress) (goal : ℕ) (atom : Atom) (new : List Step) (rows : List Provable) → now.used < most_runs → HasRoom now →
      AtomSteps now.rows (length now.rows) goal atom new rows → HasRoom (record { steps = now.steps ++ new; rows = rows; used = now.used + 1 })
  room_on now goal atom new rows one room made =
      let most = few now.rows (length now.rows) goal atom new rows made in
      let count = takes_length now.rows new rows (atom_taken now.rows (length now.rows) goal atom new rows made) in
      omega (arith, one, room, most, count)

  other_fault : (now : Progress) (goal : ℕ) (atom : Atom) (why : FailWhy) → now.used < most_runs → HasRoom now →
      AtomFault now.rows (length now.rows) goal atom why → IsOther why
  other_fault now goal atom why one room h = λ e.
      let past = full now.rows (length now.rows) goal atom (subst (AtomFault now.rows (length now.rows) goal atom) e h) in
      omega (arith, one, room, past)

  unplanned : (why : DeriveWhy) → IsOther (why_of why)
  unplanned NoPlace e = cc e
  unplanned WrongShape e = cc e
  unplanned NoMatch e = cc e

  pub on_room : (t : Tactic) (rows : List Provable) (goal used at count : ℕ) → length rows + most_steps * (most_runs - used) ≤ most_rows →
      RunsOn t rows goal used (Fails at (fail.Step LinesFull) count) → ⊥
  on_room t rows goal used at count room r =
      let h = advance_fate HasRoom IsOther (λ now more up there. omega (arith, up, there)) room_on other_fault (λ e. cc e) (λ e. cc e) unplanned
      r.expansion 1 goal (fresh rows used) (Fails at (fail.Step LinesFull) count) room r.run in
      h.allowed refl

-- A run on a model is one on the row that states it.

-- what it makes, without the step that states the formula
pub record MadeOn (t : Tactic) (formula : Tree) (o : Outcome) : Type 0 where
  pub provable : Provable
  pub start : StepOf [] (Start (alone_right formula)) provable
  pub made : Outcome
  pub run : RunsOn t (provable ∷ []) 1 0 made
  pub same : o ≡ behind (Start (alone_right formula) ∷ []) made

pub model_on : (t : Tactic) (formula : Tree) (o : Outcome) → RunsModel t formula o → MadeOn t formula o
model_on t formula o r =
    let first = Start (alone_right formula) ∷ [] in
    let found = (blind_fate first r.expansion 1 1).back (fresh (r.runs.provable ∷ []) 0) o r.runs.run in
    record {
      provable = r.runs.provable;
      start = r.runs.start;
      made = found.fewer;
      run = record { expansion = r.expansion; expanded = r.expanded; run = found.becomes };
      same = found.same;
    }

pub on_model : (t : Tactic) (formula : Tree) (p : Provable) (o : Outcome) → StepOf [] (Start (alone_right formula)) p → RunsOn t (p ∷ []) 1 0 o →
    RunsModel t formula (behind (Start (alone_right formula) ∷ []) o)
on_model t formula p o start r =
    let first = Start (alone_right formula) ∷ [] in
    record {
      expansion = r.expansion;
      expanded = r.expanded;
      runs = record { provable = p; start = start; run = (blind_fate first r.expansion 1 1).forth (fresh (p ∷ []) 0) o r.run };
    }
