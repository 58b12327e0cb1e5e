-- `derive` alone on a model: the uses of its plan are a run, and nothing else becomes of it.
use Rattle.std.proofs.Common.{◌≡◌, ℕ, suc, ◌+◌, ◌≤◌, List, [], ◌∷◌, ◌++◌, length, map, Some, Ok, Err, refl, sym, ap, subst, ◌∙◌, arith}
use Rattle.dlk_tree.specs.Trees.{Tree}
use Rattle.dlk_sequent.specs.declared.sequent.Place.TheVariants.{Succ}
use Rattle.dlk_calculus.specs.Paths.{put_at}
use Rattle.dlk_calculus.specs.Provables.{Provable, started}
use Rattle.dlk_calculus.specs.Sequents.{alone_right}
use Rattle.dlk_calculus.specs.Steps.{Step, Start}
use Rattle.dlk_tacsyn.specs.Tactics.{Tactic}
use Rattle.dlk_library.specs.Expanded.{Expanded, itself}
use Rattle.dlk_library.proofs.Names.{derive_own}
use Rattle.dlk_derive.specs.Derives.{Plans, use_of}
use Rattle.dlk_derive.specs.Plans.{Call, plan_at}
use Rattle.dlk_derive.specs.Rewriting.{conditions}
use Rattle.dlk_reach.specs.Derived.{Derivable, UsedInTurn, none, first, HasOneGoal, Reaches}
use Rattle.dlk_strategy.specs.declared.fault.RunFault.{RunFault}
use Rattle.dlk_strategy.specs.declared.fault.RunFault.TheVariants as fault
use Rattle.dlk_strategy.specs.declared.strategy.Done.{Done as Made}
use Rattle.dlk_strategy.specs.Runs.{Progress, Outcome, Done, Fails, Budget, most_runs, main_goals, done, steps, OneByOne, plans, RunsPlain, RunsModel}
use Rattle.dlk_strategy.specs.Differentiated.{derive_at, IsDifferentiated, Differentiates}
use Rattle.dlk_strategy.specs.Ties.{IsRunFaultOf}
use Rattle.dlk_elab.proofs.MainGoals.{last_goals}

one_main : (rows : List Provable) → HasOneGoal rows → length (main_goals rows) ≡ 1
one_main rows h = ap length (last_goals rows h.row h.is_last) ∙ h.one

-- the run of these uses from these rows on is done, with one goal in the goal's place
abbrev RunsUses : ℕ → List Call → Progress → List Provable → ℕ → Type 0
RunsUses byte calls now after used =
    (made : List Step) × OneByOne (map (use_of byte (Succ 1)) calls) 1 1 now (Done (record { steps = made; rows = after; used = used }) 1)

uses_run : (byte used : ℕ) (calls : List Call) (before : List Step) (rows after : List Provable) → UsedInTurn byte calls rows after →
    used + length calls ≤ most_runs → RunsUses byte calls (record { steps = before; rows = rows; used = used }) after (used + length calls)
uses_run byte used _ before rows _ none few =
    let same : used ≡ used + 0 = omega arith in
    (before, λ i. Done (record { steps = before; rows = rows; used = sym same i }) 1)
uses_run byte used _ before rows after (first {call = call} {calls = calls} {between = between} {steps = made} one atom left rest) few =
    let a = one_main rows one in
    let b = one_main between left in
    let behind = uses_run byte (used + 1) calls (before ++ made) between after rest (omega (arith, few)) in
    let count : used + 1 + length calls ≡ used + suc (length calls) = omega arith in (
      behind.0,
      done {left = 1} (done {left = 1} (steps (omega (arith, few)) atom (omega (arith, a, b))) refl)
          (subst (λ n. OneByOne (map (use_of byte (Succ 1)) calls) 1 1 (record { steps = before ++ made; rows = between; used = used + 1 })
          (Done (record { steps = behind.0; rows = after; used = n }) 1)) count behind.1),
    )

-- what the uses reach, the run makes
pub derive_done : (byte : ℕ) (model k d : Tree) (path : List ℕ) → Reaches byte (plan_at k path) model (put_at model path d) (conditions k) →
    Plans (Some model) path (plan_at k path) → length (plan_at k path) ≤ 149 →
    (made : Progress) × RunsModel (derive_at byte path) model (Done made 1) × IsDifferentiated made.rows (length made.rows) model path k d
derive_done byte model k d path reaches planned few =
    let s = alone_right model in
    let run = uses_run byte 1 (plan_at k path) (Start s ∷ []) (started s ∷ []) reaches.after reaches.used (omega (arith, few)) in (
      record { steps = run.0; rows = reaches.after; used = 1 + length (plan_at k path) },
      record {
        expansion = derive_at byte path;
        expanded = itself derive_own;
        runs = record {
          provable = started s;
          start = reaches.start;
          run = done {left = 1} (plans s (Succ 1) path (plan_at k path) (omega arith) refl refl planned run.1) refl;
        };
      },
      record { leaves = reaches.leaves; gathers = reaches.gathers; stands = reaches.last },
    )

same_rows : (made other : Progress) (left goals : ℕ) → Done made left ≡ Done other goals → made.rows ≡ other.rows
same_rows made other left goals e = let same : made ≡ other = cc e in ap (λ (p : Progress). p.rows) same

-- a fault of what the strategy becomes is one of the strategy
lifted : (t u : Tactic) (model : Tree) → Expanded t u → (e : RunFault) → IsRunFaultOf (RunsPlain u model) e → IsRunFaultOf (RunsModel t model) e
lifted t u model becomes (fault.Fails at why) h = (h.0, record { expansion = u; expanded = becomes; runs = h.1 })
lifted t u model becomes (fault.Budget at) h = record { expansion = u; expanded = becomes; runs = h }
lifted t u model becomes fault.Memory h = tt

-- where a run on a model has one outcome
module _ (one : (t : Tactic) (formula : Tree) (a b : Outcome) → RunsModel t formula a → RunsModel t formula b → a ≡ b) where
  -- what is done is what is made
  same_made : (t : Tactic) (model : Tree) (path : List ℕ) (k d : Tree) (made now : Progress) (left goals fact : ℕ) → RunsModel t model (Done made left) →
      IsDifferentiated made.rows (length made.rows) model path k d → RunsModel t model (Done now goals) → fact ≡ length now.rows →
      IsDifferentiated now.rows fact model path k d
  same_made t model path k d made now left goals fact law is run at =
      let same : made.rows ≡ now.rows = same_rows made now left goals (one t model (Done made left) (Done now goals) law run) in
      let moved : IsDifferentiated now.rows (length now.rows) model path k d =
      subst (λ (rows : List Provable). IsDifferentiated rows (length rows) model path k d) same is in
      subst (λ (n : ℕ). IsDifferentiated now.rows n model path k d) (sym at) moved

  -- no fault but want of memory
  no_fault : (t : Tactic) (model : Tree) (made : Progress) (left : ℕ) → RunsModel t model (Done made left) → (e : RunFault) →
      IsRunFaultOf (RunsModel t model) e → e ≡ fault.Memory
  no_fault t model made left law (fault.Fails at why) h =
      let e : Done made left ≡ Fails at why h.0 = one t model (Done made left) (Fails at why h.0) law h.1 in
      absurd (cc e)
  no_fault t model made left law (fault.Budget at) h =
      let e : Done made left ≡ Budget at = one t model (Done made left) (Budget at) law h in
      absurd (cc e)
  no_fault t model made left law fault.Memory h = refl

  -- and where `derive` is done
  module _ (derives : (byte : ℕ) (model k d : Tree) (path : List ℕ) → Derivable model path k d →
      (made : Progress) × RunsModel (derive_at byte path) model (Done made 1) × IsDifferentiated made.rows (length made.rows) model path k d) where
    pub when_done : (t u : Tactic) (model : Tree) (now : Progress) (left : ℕ) (made : Made) → Expanded t u → RunsPlain u model (Done now left) →
        made.fact ≡ length now.rows → Differentiates t model now.rows (Ok made)
    when_done t u model now left made becomes run at = λ byte path k d is derivable.
        let law = derives byte model k d path derivable in
        let whole : RunsModel t model (Done now left) = record { expansion = u; expanded = becomes; runs = run } in
        let there : RunsModel (derive_at byte path) model (Done now left) = subst (λ (v : Tactic). RunsModel v model (Done now left)) is whole in
        (same_made (derive_at byte path) model path k d law.0 now 1 left made.fact law.1 law.2 there at, tt)

    pub when_refused : (t u : Tactic) (model : Tree) (e : RunFault) → Expanded t u → IsRunFaultOf (RunsPlain u model) e → Differentiates t model [] (Err e)
    when_refused t u model e becomes h = λ byte path k d is derivable.
        let law = derives byte model k d path derivable in
        let whole : IsRunFaultOf (RunsModel t model) e = lifted t u model becomes e h in
        let there : IsRunFaultOf (RunsModel (derive_at byte path) model) e = subst (λ (v : Tactic). IsRunFaultOf (RunsModel v model) e) is whole in
        (tt, no_fault (derive_at byte path) model law.0 1 law.1 e there)
