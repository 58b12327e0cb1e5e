-- Steps taken in turn by a kernel.
use Rattle.std.proofs.Common.{◌≡◌, ℕ, suc, ◌+◌, ◌<◌, List, [], ◌∷◌, ◌++◌, map, take, drop, length, get_or, sym, ap, subst, ◌∙◌}
use Rattle.std.proofs.lemmas.List.{take_more, length-map, get_or-map, take-append-drop}
use Rattle.std.proofs.Math.Seq.{drop-cons}
use Rattle.dlk_tree.specs.Trees.{Tree}
use Rattle.dlk_calculus.specs.declared.reason.Reason.{Reason}
use Rattle.dlk_calculus.specs.Provables.{Provable}
use Rattle.dlk_calculus.specs.Steps.{Adds, Fault}
use Rattle.dlk_rules.specs.declared.step.Step.{Step}
use Rattle.dlk_rules.specs.Steps.{step_at}
use Rattle.dlk_kernel.specs.Taken.{Takes, more}
use Rattle.dlk_uses.specs.Taking.{FirstFault}

module _ (old new : List Tree) (plan : List Step) (i : ℕ) (s : Step) (less : i < length plan) (read : s ≡ get_or plan i s) (same : step_at new s ≡ step_at
    old s) where
  -- the next step over trees
  here : get_or (map (step_at old) plan) i (step_at old s) ≡ step_at new s
  here = get_or-map (step_at old) plan i s (step_at old s) less ∙ ap (step_at old) (sym read) ∙ sym same

  more_taken : take (i + 1) (map (step_at old) plan) ≡ take i (map (step_at old) plan) ++ step_at new s ∷ []
  more_taken =
      take_more (map (step_at old) plan) i (step_at old s) (rw (length-map plan (step_at old)) less) ∙ ap (λ x. take i (map (step_at old) plan) ++ x ∷ []) here

  pub takes_next : (rows mid after : List Provable) → Takes rows (take i (map (step_at old) plan)) mid → Adds mid (step_at new s) after →
      Takes rows (take (i + 1) (map (step_at old) plan)) after
  takes_next rows mid after taken adds =
      subst (λ xs. Takes rows xs after) (sym more_taken)
      (subst (Takes rows (take i (map (step_at old) plan) ++ step_at new s ∷ [])) (sym adds.after_is) (more taken adds.is_its))

  split : map (step_at old) plan ≡ take i (map (step_at old) plan) ++ step_at new s ∷ drop (suc i) (map (step_at old) plan)
  split =
      sym (take-append-drop i (map (step_at old) plan))
      ∙ ap (λ l. take i (map (step_at old) plan) ++ l)
      (drop-cons (map (step_at old) plan) i (step_at old s) (rw (length-map plan (step_at old)) less) ∙ ap (λ x. x ∷ drop (suc i) (map (step_at old) plan))
      here)

  pub fault_next : (rows mid : List Provable) → Takes rows (take i (map (step_at old) plan)) mid → (why : Reason) → Fault mid (step_at new s) why →
      FirstFault rows (map (step_at old) plan) why
  fault_next rows mid taken why fault = record {
    before = take i (map (step_at old) plan);
    step = step_at new s;
    behind = drop (suc i) (map (step_at old) plan);
    steps_are = split;
    between = mid;
    takes = taken;
    fault = fault;
  }
