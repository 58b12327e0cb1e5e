-- How far a run has come, and what is still to become of it.
use Rattle.std.proofs.Common.{◌≡◌, ℕ, suc, ◌+◌, ◌-◌, ◌≤◌, ◌<◌, List, map, take, length, Err, refl, sym, ap, subst, ◌∙◌, arith}
use Rattle.std.proofs.lemmas.List.{length-take, length-map, take-take, take-map}
use Rattle.std.proofs.Math.Seq.{take-length}
use Rattle.dlk_tree.specs.Trees.{Tree}
use Rattle.dlk_calculus.specs.Limits.{most_goals}
use Rattle.dlk_kernel.specs.Kernel.{State, facts, provable_at, ExtendsRows, SameRows}
use Rattle.dlk_kernel.proofs.RowsKept.{rows_stay, rows_longer}
use Rattle.dlk_elab.specs.declared.fault.FailWhy.{FailWhy}
use Rattle.dlk_strategy.specs.declared.fault.RunFault.{RunFault}
use Rattle.dlk_strategy.specs.declared.fault.RunFault.TheVariants as fault
use Rattle.dlk_strategy.specs.declared.trace.Trace.{Trace}
use Rattle.dlk_strategy.specs.Runs.{Progress, Outcome, Done, Fails, Budget, Fate, Run, Follow, done, fails, spent, Ends, FailsAt, Then, Each}
use Rattle.dlk_strategy.specs.Ties.{now, goals_of, IsReady, Extends, IsBack, Becomes, UnlessOver, HasLeft}

-- what becomes of the rest from here is what becomes of all
abbrev pub Leads : Fate → Fate → Progress → Progress → Type 0
Leads all rest first here = (o : Outcome) → rest here o → all first o

pub leads_same : (all : Fate) (first : Progress) → Leads all all first first
leads_same all first o p = p

pub leads_as : (all rest rest' : Fate) (first here : Progress) → rest ≡ rest' → Leads all rest first here → Leads all rest' first here
leads_as all rest rest' first here e leads = subst (λ (r : Fate). Leads all r first here) e leads

pub leads_done : (all fate : Fate) (then_on : ℕ → Fate) (else_on : ℕ → FailWhy → Fate) (first here made : Progress) (left : ℕ) →
    Leads all (Follow fate then_on else_on) first here →
    fate here (Done made left) → Leads all (then_on left) first made
leads_done all fate then_on else_on first here made left leads f o p = leads o (done f p)

pub leads_fails : (all fate : Fate) (then_on : ℕ → Fate) (else_on : ℕ → FailWhy → Fate) (first here next : Progress) (at used : ℕ) (why : FailWhy) →
    Leads all (Follow fate then_on else_on) first here → fate here (Fails at why used) → next ≡ record { steps = here.steps; rows = here.rows; used = used } →
    Leads all (else_on at why) first next
leads_fails all fate then_on else_on first here next at used why leads f same o p =
    leads o (fails f (subst (λ (n : Progress). else_on at why n o) same p))

pub leads_over : (all fate : Fate) (then_on : ℕ → Fate) (else_on : ℕ → FailWhy → Fate) (first here : Progress) (at : ℕ) →
    Leads all (Follow fate then_on else_on) first here →
    fate here (Budget at) → all first (Budget at)
leads_over all fate then_on else_on first here at leads f = leads (Budget at) (spent f)

-- nothing is left to be done
pub leads_end : (all : Fate) (first here : Progress) (left : ℕ) → Leads all (Ends left) first here → all first (Done here left)
leads_end all first here left leads = leads (Done here left) refl

-- the next part isn't done
pub leads_err : (all fate : Fate) (next : ℕ → Fate) (first here after : Progress) (e : RunFault) → Leads all (Then fate next) first here →
    Becomes fate here after (Err e) → Becomes all first after (Err e)
leads_err all fate next first here after (fault.Fails at why) leads f = leads (Fails at why after.used) (fails f refl)
leads_err all fate next first here after (fault.Budget at) leads f = leads (Budget at) (spent f)
leads_err all fate next first here after fault.Memory leads f = tt

-- the list's head stays the head
prefix_on : {A : Type 0} (xs ys zs : List A) → take (length xs) ys ≡ xs → take (length ys) zs ≡ ys → take (length xs) zs ≡ xs
prefix_on xs ys zs p q =
    let n = length-take (length xs) ys in
    let few : length xs ≤ length ys = omega (arith, n, ap length p) in
    sym (take-take (length xs) (length ys) zs few) ∙ ap (take (length xs)) q ∙ p

pub facts_length : {S : Type 0} (trees : S → List Tree) (k : State S) → length (facts trees k) ≡ length k.rows
facts_length trees k = length-map k.rows (provable_at (trees k.store))

module _ {S : Type 0} (trees : S → List Tree) where
  pub extends_same : (k : State S) (t : Trace) (goal goals : ℕ) → IsReady trees k t goal goals → Extends trees k t k t
  extends_same k t goal goals ready = record {
    rows = rows_stay trees k;
    steps = take-length t.steps.items;
    known = ready.known;
    counted = omega arith;
    within = ready.used;
  }

  pub extends_on : (k : State S) (t : Trace) (k' : State S) (t' : Trace) (k'' : State S) (t'' : Trace) → Extends trees k t k' t' →
      Extends trees k' t' k'' t'' → Extends trees k t k'' t''
  extends_on k t k' t' k'' t'' a b = record {
    rows = rows_longer trees k k' k'' a.rows b.rows;
    steps = prefix_on t.steps.items t'.steps.items t''.steps.items a.steps b.steps;
    known = b.known;
    counted = omega (arith, a.counted, b.counted);
    within = b.within;
  }

  pub extends_err : (k : State S) (t : Trace) (k' : State S) (t' : Trace) (k'' : State S) (t'' : Trace) (e : RunFault) → Extends trees k t k' t' →
      UnlessOver {T = ℕ} (Extends trees k' t' k'' t'') (Err e) → UnlessOver {T = ℕ} (Extends trees k t k'' t'') (Err e)
  extends_err k t k' t' k'' t'' (fault.Fails at why) a b = extends_on k t k' t' k'' t'' a b
  extends_err k t k' t' k'' t'' (fault.Budget at) a b = tt
  extends_err k t k' t' k'' t'' fault.Memory a b = tt

  -- what was made since is taken back
  pub rows_back : (old mid k : State S) (rows : ℕ) → ExtendsRows trees old mid → rows ≡ length old.rows → k.rows ≡ take rows mid.rows →
      k.store ≡ mid.store → SameRows trees old k
  rows_back old mid k rows extends is_rows e_rows e_store =
      let store : facts trees k ≡ map (provable_at (trees mid.store)) k.rows = ap (λ s. map (provable_at (trees s)) k.rows) e_store in
      let kept : map (provable_at (trees mid.store)) k.rows ≡ take (length old.rows) (facts trees mid) =
      ap (map (provable_at (trees mid.store))) (e_rows ∙ ap (λ n. take n mid.rows) is_rows)
      ∙ sym (take-map (provable_at (trees mid.store)) (length old.rows) mid.rows) in
      record { ids = e_rows ∙ ap (λ n. take n mid.rows) is_rows ∙ extends.ids; provables = store ∙ kept ∙ extends.provables }

  pub taken_back : (old : State S) (before : Trace) (mid : State S) (t : Trace) (k : State S) (after : Trace) (rows steps : ℕ) →
      Extends trees old before mid t →
      rows ≡ length old.rows → steps ≡ length before.steps.items → k.rows ≡ take rows mid.rows → k.store ≡ mid.store →
      after.steps.items ≡ take steps t.steps.items → after.used ≡ t.used →
      IsBack trees old before k after
  taken_back old before mid t k after rows steps extends is_rows is_steps e_rows e_store e_steps e_used =
      record {
        rows = rows_back old mid k rows extends.rows is_rows e_rows e_store;
        steps = e_steps ∙ ap (λ n. take n t.steps.items) is_steps ∙ extends.steps;
        counted = omega (arith, extends.counted, e_used);
        within = omega (arith, extends.within, e_used);
      }

  -- so many of the goals are done with, so many stand in their place, and of the rest becomes what becomes of all
  pub record Reached (old : State S) (before : Trace) (k : State S) (t : Trace) (goals left : ℕ) (all rest : Fate) : Type 0 where
    pub extends : Extends trees old before k t
    pub counted : HasLeft (goals_of trees old) goals (goals_of trees k) left
    pub few : goals_of trees k ≤ most_goals
    pub leads : Leads all rest (now trees old before) (now trees k t)

  pub reached_first : (k : State S) (t : Trace) (goal goals n : ℕ) (all : Fate) → IsReady trees k t goal goals → Reached k t k t n n all all
  reached_first k t goal goals n all ready =
      record { extends = extends_same k t goal goals ready; counted = refl; few = ready.few; leads = leads_same all (now trees k t) }

  -- a part on so many goals is done
  pub reached_on : (old : State S) (before : Trace) (k : State S) (t : Trace) (k' : State S) (t' : Trace) (goals left goals' left' some new : ℕ)
      (all rest fate : Fate) (next : ℕ → Fate) →
      Reached old before k t goals left all rest → rest ≡ Then fate next → fate (now trees k t) (Done (now trees k' t') new) → Extends trees k t k' t' →
      HasLeft (goals_of trees k) some (goals_of trees k') new → goals_of trees k' ≤ most_goals → goals' + left + new ≡ goals + some + left' →
      Reached old before k' t' goals' left' all (next new)
  reached_on old before k t k' t' goals left goals' left' some new all rest fate next r is made extends has few e = record {
    extends = extends_on old before k t k' t' r.extends extends;
    counted = omega (arith, r.counted, has, e);
    few = few;
    leads = leads_done all fate next FailsAt (now trees old before) (now trees k t) (now trees k' t') new
        (leads_as all rest (Then fate next) (now trees old before) (now trees k t) is r.leads) made;
  }

  -- a part isn't
  pub reached_err : (old : State S) (before : Trace) (k : State S) (t : Trace) (k' : State S) (t' : Trace) (goals left : ℕ) (all rest fate : Fate)
      (next : ℕ → Fate) (e : RunFault) →
      Reached old before k t goals left all rest → rest ≡ Then fate next → Becomes fate (now trees k t) (now trees k' t') (Err e) →
      Becomes all (now trees old before) (now trees k' t') (Err e)
  reached_err old before k t k' t' goals left all rest fate next e r is becomes =
      leads_err all fate next (now trees old before) (now trees k t) (now trees k' t') e
      (leads_as all rest (Then fate next) (now trees old before) (now trees k t) is r.leads) becomes

  pub reached_end : (old : State S) (before : Trace) (k : State S) (t : Trace) (goals left : ℕ) (all rest : Fate) →
      Reached old before k t goals left all rest → rest ≡ Ends left →
      all (now trees old before) (Done (now trees k t) left)
  reached_end old before k t goals left all rest r is =
      leads_end all (now trees old before) (now trees k t) left (leads_as all rest (Ends left) (now trees old before) (now trees k t) is r.leads)

  -- and the next part is ready
  pub reached_ready : (old : State S) (before : Trace) (k : State S) (t : Trace) (goals left : ℕ) (all rest : Fate) (goal some : ℕ) →
      Reached old before k t goals left all rest → 1 ≤ goal →
      goal + some + goals ≤ goals_of trees old + left + 1 → IsReady trees k t goal some
  reached_ready old before k t goals left all rest goal some r first room = record {
    known = r.extends.known;
    first = first;
    room = omega (arith, r.counted, room);
    few = r.few;
    used = r.extends.within;
  }

-- on each of so many goals, one more
pub each_next : (run : Run) (goals goal i left : ℕ) → i < goals →
    Each run (goals - i) goal left ≡ Then (run (goal + left)) (λ new. Each run (goals - (i + 1)) goal (left + new))
each_next run goals goal i left less =
    let e : goals - i ≡ suc (goals - (i + 1)) = omega (arith, less) in
    ap (λ n. Each run n goal left) e

pub each_none : (run : Run) (goals goal i left : ℕ) → goals ≤ i → Each run (goals - i) goal left ≡ Ends left
each_none run goals goal i left end =
    let e : goals - i ≡ 0 = omega (arith, end) in
    ap (λ n. Each run n goal left) e
