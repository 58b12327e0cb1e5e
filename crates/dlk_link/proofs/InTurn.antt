-- What steps have that are taken in turn.
use Rattle.std.proofs.Common.{List, [], ◌∷◌, map, length, sym, subst, append-nil, length-append}
use Rattle.std.proofs.Common.{arith, ◌≤◌}
use Rattle.std.specs.List.{Contains}
use Rattle.dlk_tree.specs.Trees.{Tree}
use Rattle.dlk_calculus.specs.declared.reason.Reason.{Reason}
use Rattle.dlk_calculus.specs.Limits.{most_rows}
use Rattle.dlk_calculus.specs.Provables.{Provable}
use Rattle.dlk_calculus.specs.Steps.{Step as TreeStep}
use Rattle.dlk_rules.specs.declared.step.Step.{Step}
use Rattle.dlk_calculus.proofs.LimitLaws.{StepOf-taken}
use Rattle.dlk_calculus.proofs.PlaceLaws.{At-map, At_place}
use Rattle.dlk_rules.specs.Facts.{facts_of}
use Rattle.dlk_rules.specs.Steps.{step_at}
use Rattle.dlk_kernel.specs.Taken.{Takes, none, more}
use Rattle.dlk_uses.proofs.Taking.{no_fault}
use Rattle.dlk_link.specs.Ends.{EndsIn}
use Rattle.dlk_link.specs.Marks.{NameEarlier}
use Rattle.dlk_link.proofs.Kept.{take_length}
use Rattle.dlk_link.proofs.Linked.{fault_on}
use Rattle.dlk_link.proofs.Marks.{facts_alike}
use Rattle.dlk_link.proofs.Named.{facts_before}
use Rattle.dlk_link.proofs.Names.{in_from_contains}
use Rattle.dlk_uses.specs.Taking.{FirstFault}

-- what is taken has no fault
pub no_fault_behind : (base : List Provable) (steps : List TreeStep) (rows : List Provable) (why : Reason) → Takes base steps rows →
    FirstFault base steps why → ⊥
no_fault_behind base steps rows why takes fault =
    no_fault rows why (fault_on base rows steps [] why takes (subst (λ l. FirstFault base l why) (sym (append-nil steps)) fault))

pub no_fault_in : (steps : List TreeStep) (rows : List Provable) (why : Reason) → Takes [] steps rows → FirstFault [] steps why → ⊥
no_fault_in = no_fault_behind []

-- steps that are taken are few, and name earlier ones
pub taken_few : (steps : List TreeStep) (rows : List Provable) → Takes [] steps rows → length steps ≤ most_rows
taken_few _ _ none = omega arith
taken_few _ _ (more {steps = steps} {mid = mid} {step = step} {p = p} takes is) =
    let count = take_length steps mid takes in
    let room = (StepOf-taken mid step p is.given is).2 in
    omega (arith, count, room, length-append steps (step ∷ []))

pub taken_earlier : (trees : List Tree) (steps : List Step) (rows : List Provable) → Takes [] (map (step_at trees) steps) rows → NameEarlier steps
taken_earlier trees steps rows takes row s at fact c =
    facts_before (map (step_at trees) steps) rows row (step_at trees s) fact takes (At-map (step_at trees) steps row s at)
    (in_from_contains (facts_of (step_at trees s)) fact (subst (λ l. Contains l fact) (sym (facts_alike trees s)) c))

-- a proof that ends has a step
pub ends_some : (steps : List TreeStep) (p : Provable) → EndsIn steps p → 1 ≤ length steps
ends_some steps p ends =
    let count = take_length steps ends.rows ends.takes in
    let place = (At_place ends.rows (length ends.rows) p ends.last).0 in
    omega (arith, count, place)
