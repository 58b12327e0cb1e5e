-- Steps taken in turn, from the first on.
use Rattle.std.proofs.Common.{◌≡◌, List, [], ◌∷◌, ◌++◌, refl, sym, subst}
use Rattle.dlk_calculus.specs.declared.reason.Reason.{Reason}
use Rattle.dlk_calculus.specs.Provables.{Provable}
use Rattle.dlk_calculus.specs.Steps.{Step, Fault, StepOf}
use Rattle.dlk_kernel.specs.Taken.{Takes, none, more}
use Rattle.dlk_uses.specs.Taking.{FirstFault}

nil_or_not : (x y : Step) (xs ys : List Step) → x ∷ xs ≡ y ∷ ys → (x ≡ y) × (xs ≡ ys)
nil_or_not x y xs ys e = (cc, cc)

-- no steps
empty : (rows after : List Provable) (steps : List Step) → Takes rows steps after → steps ≡ [] → after ≡ rows
empty rows after steps none e = refl
empty rows after steps (more {steps = []} taken is) e = absurd (cc e)
empty rows after steps (more {steps = x ∷ xs} taken is) e = absurd (cc e)

pub takes_none : (rows after : List Provable) → Takes rows [] after → after ≡ rows
takes_none rows after taken = empty rows after [] taken refl

-- the first step and those behind it
pub record First (rows : List Provable) (step : Step) (steps : List Step) (after : List Provable) : Type 0 where
  pub row : Provable
  pub is_its : StepOf rows step row
  pub others : Takes (rows ++ row ∷ []) steps after

first_of_those : (rows after : List Provable) (all steps : List Step) (step : Step) → Takes rows all after → all ≡ step ∷ steps → First rows step steps after
first_of_those rows after all steps step none e = absurd (cc e)
first_of_those rows after all steps step (more {steps = []} {mid} {step = s} {p} taken is) e =
    let m : mid ≡ rows = takes_none rows mid taken in
    let parts = nil_or_not s step [] steps e in
    record {
      row = p;
      is_its = subst (λ t. StepOf rows t p) parts.0 (subst (λ r. StepOf r s p) m is);
      others = subst (λ xs. Takes (rows ++ p ∷ []) xs (mid ++ p ∷ [])) parts.1 (subst (λ r. Takes (rows ++ p ∷ []) [] (r ++ p ∷ [])) (sym m) none);
    }
first_of_those rows after all steps step (more {steps = x ∷ xs} {mid} {step = s} {p} taken is) e =
    let parts = nil_or_not x step (xs ++ s ∷ []) steps e in
    let f : First rows x xs mid = first_of_those rows mid (x ∷ xs) xs x taken refl in
    record {
      row = f.row;
      is_its = subst (λ t. StepOf rows t f.row) parts.0 f.is_its;
      others = subst (λ ys. Takes (rows ++ f.row ∷ []) ys (mid ++ p ∷ [])) parts.1 (more f.others is);
    }

pub takes_first : (rows after : List Provable) (step : Step) (steps : List Step) → Takes rows (step ∷ steps) after → First rows step steps after
takes_first rows after step steps taken = first_of_those rows after (step ∷ steps) steps step taken refl

-- the first step is refused, or it is taken and one behind it is refused
pub data FaultFrom (rows : List Provable) (step : Step) (steps : List Step) (why : Reason) : Type 0 where
  at_once : Fault rows step why → FaultFrom rows step steps why
  later : (row : Provable) → StepOf rows step row → FirstFault (rows ++ row ∷ []) steps why → FaultFrom rows step steps why

fault_of_those : (rows between : List Provable) (step s : Step) (steps before behind : List Step) (why : Reason) → step ∷ steps ≡ before ++ s ∷ behind →
    Takes rows before between → Fault between s why → FaultFrom rows step steps why
fault_of_those rows between step s steps [] behind why e taken fault =
    let parts = nil_or_not step s steps behind e in
    at_once (subst (λ t. Fault rows t why) (sym parts.0) (subst (λ r. Fault r s why) (takes_none rows between taken) fault))
fault_of_those rows between step s steps (x ∷ xs) behind why e taken fault =
    let parts = nil_or_not step x steps (xs ++ s ∷ behind) e in
    let f : First rows x xs between = takes_first rows between x xs taken in
    later f.row (subst (λ t. StepOf rows t f.row) (sym parts.0) f.is_its)
    (record { before = xs; step = s; behind = behind; steps_are = parts.1; between = between; takes = f.others; fault = fault })

pub fault_from : (rows : List Provable) (step : Step) (steps : List Step) (why : Reason) → FirstFault rows (step ∷ steps) why → FaultFrom rows step steps why
fault_from rows step steps why f = fault_of_those rows f.between step f.step steps f.before f.behind why f.steps_are f.takes f.fault

pub no_fault : (rows : List Provable) (why : Reason) → ¬ FirstFault rows [] why
no_fault rows why f = empty_is f.before f.steps_are
  where
    empty_is : (before : List Step) → [] ≡ before ++ f.step ∷ f.behind → ⊥
    empty_is [] e = cc e
    empty_is (x ∷ xs) e = cc e
