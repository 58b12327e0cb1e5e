-- Linked steps are taken, or there is a first fault.
use Rattle.std.proofs.Common.{◌⊎◌, ℕ, ◌+◌, List, [], ◌∷◌, ◌++◌, length, map, sym, subst}
use Rattle.std.specs.List.{All}
use Rattle.std.proofs.lemmas.List.Elements.{All-nil, All-cons, All-head, All-tail, All-append}
use Rattle.dlk_calculus.specs.declared.reason.Reason.{Reason}
use Rattle.dlk_calculus.specs.Provables.{Provable}
use Rattle.dlk_calculus.specs.Sequents.{Sequent}
use Rattle.dlk_calculus.specs.Steps.{Step, Start, UseAxiom, UseRule, Leaf, Apply, Merge, Substitute, Rename, IsProper, StepOf, Fault}
use Rattle.dlk_elab.proofs.Elaborates.{taken_proper}
use Rattle.dlk_elab.proofs.TakenLaws.{all_or_fault}
use Rattle.dlk_kernel.specs.Taken.{Takes}
use Rattle.dlk_link.specs.Linked.{Joins, no_goals, another, the_same, Linked}
use Rattle.dlk_rules.specs.Facts.{renumbered}
use Rattle.dlk_uses.specs.Taking.{FirstFault}

-- each linked step is proper
renumbered_proper : (to : ℕ → ℕ) (step : Step) → IsProper step → IsProper (renumbered to step)
renumbered_proper to (Start s) h = h
renumbered_proper to (UseAxiom name) h = h
renumbered_proper to (UseRule name) h = h
renumbered_proper to (Leaf s) h = h
renumbered_proper to (Apply fact goal rule) h = h
renumbered_proper to (Merge fact goal by) h = h
renumbered_proper to (Substitute fact pairs) h = h
renumbered_proper to (Rename fact x y) h = h

all_renumbered : (to : ℕ → ℕ) (steps : List Step) → All IsProper steps → All IsProper (map (renumbered to) steps)
all_renumbered to [] h = All-nil IsProper
all_renumbered to (step ∷ steps) h =
    All-cons IsProper (renumbered to step) (map (renumbered to) steps) (renumbered_proper to step (All-head IsProper step steps h))
    (all_renumbered to steps (All-tail IsProper step steps h))

joins_proper : (c : Sequent) (by main rows : ℕ) (goals : List Sequent) (steps : List Step) → Joins c by main rows goals steps → All IsProper steps
joins_proper c by main rows _ _ no_goals = All-nil IsProper
joins_proper c by main rows _ steps (another {goals = g} ne joins) = joins_proper c by main rows g steps joins
joins_proper c by main rows _ _ (the_same {goals = g} {steps = rest} joins) =
    All-cons IsProper (Merge main (length g + 1) by) rest tt (joins_proper c by (rows + 1) (rows + 1) g rest joins)

module _ (decide : (rows : List Provable) (step : Step) → IsProper step → ((p : Provable) × StepOf rows step p) ⊎ ((why : Reason) × Fault rows step why)) where
  pub linked_fate : (term lemma linked : List Step) (rows others : List Provable) (goals : List Sequent) (c : Sequent) → Takes [] term rows →
      Takes [] lemma others →
      Linked term goals lemma c linked → ((after : List Provable) × Takes [] linked after) ⊎ ((why : Reason) × FirstFault [] linked why)
  linked_fate term lemma linked rows others goals c takes_term takes_lemma is =
      let to : ℕ → ℕ = λ fact. fact + length term in
      let behind = map (renumbered to) lemma in
      let proper : All IsProper (term ++ behind ++ is.joins) =
      All-append IsProper (term ++ behind) is.joins
      (All-append IsProper term behind (taken_proper [] rows term takes_term) (all_renumbered to lemma (taken_proper [] others lemma takes_lemma)))
      (joins_proper c (length term + length lemma) (length term) (length term + length lemma) goals is.joins is.joined) in
      all_or_fault decide [] linked (subst (All IsProper) (sym is.steps_are) proper)
