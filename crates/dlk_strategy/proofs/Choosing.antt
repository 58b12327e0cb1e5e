-- The first of strategies that doesn't fail.
use Rattle.std.proofs.Common.{◌≡◌, ℕ, ◌+◌, ◌≤◌, ◌<◌, List, [], ◌∷◌, ◌++◌, take, drop, length, get_or, Option, None, Result, Ok, Err, refl, ap, subst}
use Rattle.std.proofs.Common.{◌∙◌, arith}
use Rattle.std.proofs.lemmas.List.{drop_all, length-take, get_or-take}
use Rattle.dlk_tree.specs.Trees.{Tree}
use Rattle.dlk_store.specs.Stores.{Keeps}
use Rattle.dlk_calculus.specs.Provables.{Provable}
use Rattle.dlk_kernel.specs.Kernel.{State}
use Rattle.dlk_tacsyn.specs.declared.tactic.Tactic.{Tactic}
use Rattle.dlk_tacsyn.specs.Ties.{tactic_at}
use Rattle.dlk_strategy.specs.declared.fault.RunFault.{RunFault}
use Rattle.dlk_strategy.specs.declared.fault.RunFault.TheVariants as fault
use Rattle.dlk_strategy.specs.declared.trace.Trace.{Trace}
use Rattle.dlk_strategy.specs.Runs.{Progress, Done, Fails, Budget, Fate, done, spent, Ends, Else, Runs, Alternatives, main_goals}
use Rattle.dlk_strategy.specs.Ties.{tactics_of, goals_of, IsReady, IsBack, Becomes, BecomesTried}
use Rattle.dlk_strategy.proofs.Trying.{back_known}
use Rattle.dlk_strategy.proofs.Reached.{Leads, leads_as, leads_fails}

pub item_of_take : {A : Type 0} (n : ℕ) (xs : List A) (i : ℕ) (x : A) → i < length (take n xs) → x ≡ get_or (take n xs) i x →
    (i < length xs) × (x ≡ get_or xs i x)
item_of_take n xs i x less is =
    let long = length-take n xs in
    let few : i < n = omega (arith, less, long) in
    (omega (arith, less, long), is ∙ get_or-take n xs i x few)

-- the alternatives that are left, of which one is always the last
abbrev pub Choices : List Tree → List Tactic → Tactic → ℕ → Fate
Choices trees earlier last goal = Alternatives (tactics_of trees (earlier ++ last ∷ [])) goal

more_choices : (trees : List Tree) (rest : List Tactic) (t last : Tactic) (goal : ℕ) →
    Choices trees (t ∷ rest) last goal ≡ Else (Runs (tactic_at trees t) 1 goal) (Choices trees rest last goal)
more_choices trees [] t last goal = refl
more_choices trees (u ∷ rest) t last goal = refl

pub choices_next : (trees : List Tree) (earlier : List Tactic) (i : ℕ) (t last : Tactic) (goal : ℕ) → drop i earlier ≡ t ∷ drop (i + 1) earlier →
    Choices trees (drop i earlier) last goal ≡ Else (Runs (tactic_at trees t) 1 goal) (Choices trees (drop (i + 1) earlier) last goal)
choices_next trees earlier i t last goal e = ap (λ xs. Choices trees xs last goal) e ∙ more_choices trees (drop (i + 1) earlier) t last goal

pub choices_last : (trees : List Tree) (earlier : List Tactic) (i : ℕ) (last : Tactic) (goal : ℕ) → length earlier ≤ i →
    Choices trees (drop i earlier) last goal ≡ Runs (tactic_at trees last) 1 goal
choices_last trees earlier i last goal end = ap (λ xs. Choices trees xs last goal) (drop_all i earlier end)

module _ (first here after : Progress) (all fate rest : Fate) where
  pub choice_err : (left : Fate) (e : RunFault) → Leads all left first here → left ≡ Else fate rest → BecomesTried fate here after (Err e) →
      Becomes all first after (Err e)
  choice_err left (fault.Fails at why) leads is f = absurd f
  choice_err left (fault.Budget at) leads is f = leads_as all left (Else fate rest) first here is leads (Budget at) (spent f)
  choice_err left fault.Memory leads is f = tt

  pub choice_done : (left : Fate) (new : ℕ) → Leads all left first here → left ≡ Else fate rest → fate here (Done after new) → all first (Done after new)
  choice_done left new leads is f = leads_as all left (Else fate rest) first here is leads (Done after new) (done f refl)

  pub choice_fails : (left : Fate) (found : Option ℕ) → Leads all left first here → left ≡ Else fate rest → found ≡ None →
      BecomesTried fate here after (Ok found) →
      after ≡ record { steps = here.steps; rows = here.rows; used = after.used } → Leads all rest first after
  choice_fails left found leads is none f same =
      let failed = subst (λ (o : Option ℕ). BecomesTried fate here after (Ok o)) none f in
      leads_fails all fate Ends (λ at why. rest) first here after failed.0 after.used failed.1 (leads_as all left (Else fate rest) first here is leads)
      failed.2 same

  pub choice_last : (result : Result ℕ RunFault) → Leads all fate first here → Becomes fate here after result → Becomes all first after result
  choice_last (Ok left) leads f = leads (Done after left) f
  choice_last (Err (fault.Fails at why)) leads f = leads (Fails at why after.used) f
  choice_last (Err (fault.Budget at)) leads f = leads (Budget at) f
  choice_last (Err fault.Memory) leads f = tt

pub back_goals : {S : Type 0} (trees : S → List Tree) (k : State S) (t : Trace) (k' : State S) (t' : Trace) → IsBack trees k t k' t' →
    goals_of trees k' ≡ goals_of trees k
back_goals trees k t k' t' back = ap (λ (rows : List Provable). length (main_goals rows)) back.rows.provables

pub back_ready : {S : Type 0} (trees : S → List Tree) (k : State S) (t : Trace) (k' : State S) (t' : Trace) (goal goals : ℕ) →
    Keeps (trees k.store) (trees k'.store) →
    IsReady trees k t goal goals → IsBack trees k t k' t' → IsReady trees k' t' goal goals
back_ready trees k t k' t' goal goals keeps ready back =
    let same = back_goals trees k t k' t' back in
    record {
      known = back_known trees k t k' t' keeps ready.known back;
      first = ready.first;
      room = omega (arith, ready.room, same);
      few = omega (arith, ready.few, same);
      used = back.within;
    }
