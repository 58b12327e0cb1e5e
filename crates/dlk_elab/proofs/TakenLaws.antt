-- Steps taken in turn, from the first on.
use Rattle.std.proofs.Common.{◌≡◌, List, [], ◌∷◌, ◌++◌, refl, sym, ap, subst, ◌∙◌, ◌⊎◌, inl, inr}
use Rattle.std.specs.List.{All}
use Rattle.std.proofs.lemmas.List.Elements.{All-head, All-tail}
use Rattle.dlk_calculus.specs.declared.reason.Reason.{Reason}
use Rattle.dlk_calculus.specs.Provables.{Provable}
use Rattle.dlk_calculus.specs.Steps.{Step, IsProper, Gives, Fault, StepOf}
use Rattle.dlk_kernel.specs.Taken.{Takes, none, more}
use Rattle.dlk_uses.proofs.Taking.{takes_none, no_fault, takes_first, at_once, later, fault_from}
use Rattle.dlk_elab.specs.Atoms.{FirstFault}

-- a step before those that are taken
pub takes_before : (rows after : List Provable) (row : Provable) (step : Step) (steps : List Step) → StepOf rows step row →
    Takes (rows ++ row ∷ []) steps after → Takes rows (step ∷ steps) after
takes_before rows after row step steps is taken = led after steps taken
  where
    led : (end : List Provable) (ss : List Step) → Takes (rows ++ row ∷ []) ss end → Takes rows (step ∷ ss) end
    led end ss none = more none is
    led end ss (more taken' is') = more (led _ _ taken') is'

pub fault_here : (rows : List Provable) (step : Step) (steps : List Step) (why : Reason) → Fault rows step why → FirstFault rows (step ∷ steps) why
fault_here rows step steps why fault = record { before = []; step = step; behind = steps; steps_are = refl; between = rows; takes = none; fault = fault }

pub fault_later : (rows : List Provable) (row : Provable) (step : Step) (steps : List Step) (why : Reason) → StepOf rows step row →
    FirstFault (rows ++ row ∷ []) steps why → FirstFault rows (step ∷ steps) why
fault_later rows row step steps why is f = record {
  before = step ∷ f.before;
  step = f.step;
  behind = f.behind;
  steps_are = ap (λ xs. step ∷ xs) f.steps_are;
  between = f.between;
  takes = takes_before rows f.between row step f.before is f.takes;
  fault = f.fault;
}

-- steps give at most one list of rows
module _ (one : (rows : List Provable) (step : Step) (p q : Provable) → Gives rows step p → Gives rows step q → p ≡ q) where
  pub takes_one : (rows a b : List Provable) (steps : List Step) → Takes rows steps a → Takes rows steps b → a ≡ b
  takes_one rows a b [] s t = takes_none rows a s ∙ sym (takes_none rows b t)
  takes_one rows a b (x ∷ xs) s t =
      let f = takes_first rows a x xs s in
      let g = takes_first rows b x xs t in
      let same : f.row ≡ g.row = one rows x f.row g.row f.is_its.given g.is_its.given in
      takes_one (rows ++ g.row ∷ []) a b xs (subst (λ p. Takes (rows ++ p ∷ []) xs a) same f.others) g.others

  -- and where they give one they have no fault
  pub taken_or_fault : (rows after : List Provable) (steps : List Step) (why : Reason) → Takes rows steps after → FirstFault rows steps why → ⊥
  taken_or_fault rows after [] why taken fault = no_fault rows why fault
  taken_or_fault rows after (x ∷ xs) why taken fault =
      let f = takes_first rows after x xs taken in
      elim (fault_from rows x xs why fault) [
        | at_once here ↦ f.is_its.allowed why here.against
        | later row is behind ↦
            let same : row ≡ f.row = one rows x row f.row is.given f.is_its.given in
            taken_or_fault (rows ++ f.row ∷ []) after xs why f.others (subst (λ p. FirstFault (rows ++ p ∷ []) xs why) same behind)
      ]

  pub fault_one : ((rows : List Provable) (step : Step) (why other : Reason) → Fault rows step why → Fault rows step other → why ≡ other) →
      (rows : List Provable) (steps : List Step) (why other : Reason) → FirstFault rows steps why → FirstFault rows steps other → why ≡ other
  fault_one once rows [] why other f g = absurd (no_fault rows why f)
  fault_one once rows (x ∷ xs) why other f g =
      elim (fault_from rows x xs why f) [
        | at_once here ↦ elim (fault_from rows x xs other g) [
          | at_once there ↦ once rows x why other here there
          | later row is behind ↦ absurd (is.allowed why here.against)
        ]
        | later row is behind ↦ elim (fault_from rows x xs other g) [
          | at_once there ↦ absurd (is.allowed other there.against)
          | later row' is' behind' ↦
              let same : row ≡ row' = one rows x row row' is.given is'.given in
              fault_one once (rows ++ row' ∷ []) xs why other (subst (λ p. FirstFault (rows ++ p ∷ []) xs why) same behind) behind'
        ]
      ]

-- proper steps are taken, or have a fault
pub all_or_fault : ((rows : List Provable) (step : Step) → IsProper step → ((p : Provable) × StepOf rows step p) ⊎ ((why : Reason) × Fault rows step why)) →
    (rows : List Provable) (steps : List Step) → All IsProper steps →
    ((after : List Provable) × Takes rows steps after) ⊎ ((why : Reason) × FirstFault rows steps why)
all_or_fault decide rows [] proper = inl (rows, none)
all_or_fault decide rows (x ∷ xs) proper =
    elim (decide rows x (All-head IsProper x xs proper)) [
      | inl taken ↦ elim (all_or_fault decide (rows ++ taken.0 ∷ []) xs (All-tail IsProper x xs proper)) [
        | inl others ↦ inl (others.0, takes_before rows others.0 taken.0 x xs taken.1 others.1)
        | inr fault ↦ inr (fault.0, fault_later rows taken.0 x xs fault.0 taken.1 fault.1)
      ]
      | inr fault ↦ inr (fault.0, fault_here rows x xs fault.0 fault.1)
    ]
