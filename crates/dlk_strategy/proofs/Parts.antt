-- The parts of a strategy in turn, and each on a goal of its own.
use Rattle.std.proofs.Common.{◌≡◌, ℕ, ◌+◌, ◌≤◌, ◌<◌, List, ◌∷◌, drop, length, get_or, Vec, Global, Err, refl, sym, ap, subst}
use Rattle.std.specs.List.{All}
use Rattle.std.proofs.lemmas.List.{drop_all}
use Rattle.dlk_tree.specs.Trees.{Tree}
use Rattle.dlk_tacsyn.specs.declared.tactic.Tactic.{Tactic, Branch, Tactic-F, roll-Tactic, ind-Tactic}
use Rattle.dlk_tacsyn.specs.declared.tactic.Tactic.TheVariants.{rolls-Choice, rolls-Seq, rolls-Branch, rolls-Repeat, rolls-One}
use Rattle.dlk_tacsyn.specs.Tactics as the
use Rattle.dlk_tacsyn.specs.Tactics.{Tactic as TreeTactic}
use Rattle.dlk_tacsyn.specs.Ties.{tactic_at}
use Rattle.dlk_strategy.specs.declared.fault.RunFault.{RunFault}
use Rattle.dlk_strategy.specs.declared.fault.RunFault.TheVariants as fault
use Rattle.dlk_strategy.specs.Runs.{Progress, Fate, Ends, Then, Each, Runs, InTurn, OnOwn, Branched, as_many}
use Rattle.dlk_strategy.specs.Ties.{IsRunnable, tactics_of, on_one, Becomes}

module _ (trees : List Tree) (parts : List Tactic) where
  pub turn_next : (t : Tactic) (i goals goal : ℕ) → drop i parts ≡ t ∷ drop (i + 1) parts →
      InTurn (tactics_of trees (drop i parts)) goals goal ≡ Then (Runs (tactic_at trees t) goals goal)
      (λ left. InTurn (tactics_of trees (drop (i + 1) parts)) left goal)
  turn_next t i goals goal e = ap (λ xs. InTurn (tactics_of trees xs) goals goal) e

  pub turn_none : (i goals goal : ℕ) → length parts ≤ i → InTurn (tactics_of trees (drop i parts)) goals goal ≡ Ends goals
  turn_none i goals goal end = ap (λ xs. InTurn (tactics_of trees xs) goals goal) (drop_all i parts end)

  pub own_next : (t : Tactic) (i goal left : ℕ) → drop i parts ≡ t ∷ drop (i + 1) parts →
      OnOwn (tactics_of trees (drop i parts)) goal left ≡ Then (Runs (tactic_at trees t) 1 (goal + left))
      (λ new. OnOwn (tactics_of trees (drop (i + 1) parts)) goal (left + new))
  own_next t i goal left e = ap (λ xs. OnOwn (tactics_of trees xs) goal left) e

  pub own_none : (i goal left : ℕ) → length parts ≤ i → OnOwn (tactics_of trees (drop i parts)) goal left ≡ Ends left
  own_none i goal left end = ap (λ xs. OnOwn (tactics_of trees xs) goal left) (drop_all i parts end)

-- a part can be run
pub part_at : (trees : List Tree) (parts : List Tactic) (i : ℕ) (t : Tactic) → All (IsRunnable trees) parts → i < length parts → t ≡ get_or parts i t →
    IsRunnable trees t
part_at trees parts i t all less is = subst (IsRunnable trees) (sym is) (all i t less)

pub branched_err : (at parts goals : ℕ) (each : Fate) (before after : Progress) (e : RunFault) → goals ≡ parts → Becomes each before after (Err e) →
    Becomes (Branched at parts goals each) before after (Err e)
branched_err at parts goals each before after (fault.Fails byte why) is p = as_many is p
branched_err at parts goals each before after (fault.Budget byte) is p = as_many is p
branched_err at parts goals each before after fault.Memory is p = tt

abbrev pub IsNoBranch : TreeTactic → Type 0
IsNoBranch (the.Choice parts) = Unit {0}
IsNoBranch (the.Sequence parts) = Unit {0}
IsNoBranch (the.Branch at parts) = ⊥
IsNoBranch (the.Repeat body times) = Unit {0}
IsNoBranch (the.One atom) = Unit {0}

-- a strategy that is no branch runs on each of the goals
each_of : (t : TreeTactic) (goals goal : ℕ) → IsNoBranch t → Runs t goals goal ≡ Each (on_one t) goals goal 0
each_of (the.Choice parts) goals goal h = refl
each_of (the.Sequence parts) goals goal h = refl
each_of (the.Branch at parts) goals goal h = absurd h
each_of (the.Repeat body times) goals goal h = refl
each_of (the.One atom) goals goal h = refl

module _ (trees : List Tree) where
  abbrev Told : Tactic → Type 0
  Told t = ((at : ℕ) (parts : Vec Tactic Global) → t ≡ Branch at parts → ⊥) → IsNoBranch (tactic_at trees t)

  told_layer : (x : Tactic-F Tactic) → Told (roll-Tactic x)
  told_layer (Tactic-F.Choice parts) = subst Told (sym (rolls-Choice parts)) (λ h. tt)
  told_layer (Tactic-F.Seq parts) = subst Told (sym (rolls-Seq parts)) (λ h. tt)
  told_layer (Tactic-F.Branch at parts) = λ h. absurd (h at parts (rolls-Branch at parts))
  told_layer (Tactic-F.Repeat body times) = subst Told (sym (rolls-Repeat body times)) (λ h. tt)
  told_layer (Tactic-F.One atom) = subst Told (sym (rolls-One atom)) (λ h. tt)

  told : (t : Tactic) → Told t
  told = ind-Tactic Told (λ x y is. told_layer x)

  pub runs_each : (t : Tactic) (goals goal : ℕ) → ((at : ℕ) (parts : Vec Tactic Global) → t ≡ Branch at parts → ⊥) →
      Runs (tactic_at trees t) goals goal ≡ Each (on_one (tactic_at trees t)) goals goal 0
  runs_each t goals goal none = each_of (tactic_at trees t) goals goal (told t none)
