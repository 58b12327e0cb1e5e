-- An atom gives steps or has a fault, and one of these alone.
use Rattle.std.proofs.Common.{◌≡◌, ℕ, List, ◌++◌, length, sym, ap, subst}
use Rattle.dlk_calculus.specs.declared.reason.Reason.{Reason}
use Rattle.dlk_calculus.specs.Pairs.{Extra}
use Rattle.dlk_calculus.specs.Paths.{IsInnermost}
use Rattle.dlk_calculus.specs.Places.{At}
use Rattle.dlk_tree.specs.Trees.{Tree}
use Rattle.dlk_calculus.specs.Sequents.{Sequent}
use Rattle.dlk_calculus.specs.Provables.{Provable}
use Rattle.dlk_calculus.specs.Rules.{Rule, word_of, arguments_of}
use Rattle.dlk_calculus.specs.Steps.{Step, Gives, IsGoal, Fault}
use Rattle.dlk_calculus.proofs.PlaceLaws.{at_one}
use Rattle.dlk_rules.specs.declared.rule.RuleWord.{RuleWord}
use Rattle.dlk_rules.specs.Words.{shape_of, text_of, wanted}
use Rattle.dlk_tacsyn.specs.Tactics.{Atom}
use Rattle.dlk_kernel.specs.Taken.{Takes}
use Rattle.dlk_elab.specs.Atoms.{asked as by_asking}
use Rattle.dlk_elab.specs.Atoms.{uses, Instance, instance_of, not_instantiated, not_used, FailWhy, AtStep, Asked, Steps, Refused, Asks, AtomSteps}
use Rattle.dlk_elab.specs.Atoms.{FirstFault, AtomFault, asks_none, not_taken}
use Rattle.dlk_uses.specs.Uses.{Use, Spot, Finishes, ProvesLast, FinishesBehind}
use Rattle.dlk_match.specs.Matching.{Match}
use Rattle.dlk_elab.proofs.OneFinish.{finishes_one}
use Rattle.dlk_elab.proofs.TakenLaws.{takes_one, taken_or_fault, fault_one}
use Rattle.dlk_elab.proofs.AskLaws.{asks_one}

-- a fact has one sequent at a goal
goal_one : (rows : List Provable) (fact goal : ℕ) (s t : Sequent) → IsGoal rows fact goal s → IsGoal rows fact goal t → s ≡ t
goal_one rows fact goal s t p q =
    let same : p.0 ≡ q.0 = at_one rows fact p.0 q.0 p.1 q.1 in
    at_one q.0.goals goal s t (subst (λ (r : Provable). At r.goals goal s) same p.2) q.2

-- the parts of what uses an axiom
pub same_instance : (u v : Use) (x y : Extra) (e f : Tree) → Instance u x e ≡ Instance v y f → (u ≡ v) × (x ≡ y) × (e ≡ f)
same_instance u v x y e f h = (cc, cc, cc)

-- behind an instance: the rows so far, the goal, the use and the formula
record Behind : Type 0 where
  between : List Provable
  s : Sequent
  used : Use
  e : Tree

abbrev FinishesFrom : ℕ → ℕ → List Step → Behind → Type 0
FinishesFrom fact goal rest b = FinishesBehind b.between (record { fact = fact; goal = goal; s = b.s }) b.used b.e rest

module _ (one_provable : (rows : List Provable) (step : Step) (p q : Provable) → Gives rows step p → Gives rows step q → p ≡ q)
    (once : (rows : List Provable) (step : Step) (why other : Reason) → Fault rows step why → Fault rows step other → why ≡ other)
    (one_rule : (r s : Rule) → word_of r ≡ word_of s → arguments_of r ≡ arguments_of s → r ≡ s)
    (one_shape : (w : RuleWord) (rule : Rule) → word_of rule ≡ text_of w → shape_of (arguments_of rule) ≡ wanted w)
    (one_match : (key : Tree) (own : List (List ℕ)) (e : Tree) (given a b : Extra) → Match key own e given a → Match key own e given b → a ≡ b)
    (one_innermost : (e : Tree) (path a b c d : List ℕ) (f g : Tree) → IsInnermost e path a b f → IsInnermost e path c d g → (a ≡ c) × (b ≡ d) × (f ≡ g))
    (one_proved : (rows : List Provable) (f g : Tree) → ProvesLast rows f → ProvesLast rows g → f ≡ g) where
  -- on a goal an atom asks for one thing
  asked_one : (rows : List Provable) (fact goal : ℕ) (atom : Atom) (s t : Sequent) (x y : Asked) → IsGoal rows fact goal s → IsGoal rows fact goal t →
      Asks (length rows) fact goal s atom x → Asks (length rows) fact goal t atom y → x ≡ y
  asked_one rows fact goal atom s t x y p q a b =
      asks_one one_rule one_shape (length rows) fact goal t atom one_match x y
      (subst (λ u. Asks (length rows) fact goal u atom x) (goal_one rows fact goal s t p q) a) b

  same_steps : (a b : List Step) → Steps a ≡ Steps b → a ≡ b
  same_steps a b e = cc

  -- what two instances that an atom asks for have in common
  record SameInstance (rows : List Provable) (s t : Sequent) (u v : Use) (x y : Extra) (e f : Tree) : Type 0 where
    goal : s ≡ t
    used : u ≡ v
    formula : e ≡ f
    steps : instance_of (length rows) u x ≡ instance_of (length rows) v y

  instance_one : (rows : List Provable) (fact goal : ℕ) (atom : Atom) (s t : Sequent) (u v : Use) (x y : Extra) (e f : Tree) → IsGoal rows fact goal s →
      IsGoal rows fact goal t → Asks (length rows) fact goal s atom (Instance u x e) → Asks (length rows) fact goal t atom (Instance v y f) →
      SameInstance rows s t u v x y e f
  instance_one rows fact goal atom s t u v x y e f p q a b =
      let h = same_instance u v x y e f (asked_one rows fact goal atom s t (Instance u x e) (Instance v y f) p q a b) in
      record {
        goal = goal_one rows fact goal s t p q;
        used = h.0;
        formula = h.2;
        steps = λ i. instance_of (length rows) (h.0 i) (h.1 i);
      }

  -- two ways to go on behind instances of an axiom are one
  record SameRest (between other : List Provable) (rest more : List Step) : Type 0 where
    between_is : between ≡ other
    rest_is : rest ≡ more

  rest_one : (rows : List Provable) (fact goal : ℕ) (s t : Sequent) (u v : Use) (x y : Extra) (e f : Tree) (between other : List Provable)
      (rest more : List Step) →
      SameInstance rows s t u v x y e f → Takes rows (instance_of (length rows) u x) between → Takes rows (instance_of (length rows) v y) other →
      FinishesFrom fact goal rest (record { between = between; s = s; used = u; e = e }) →
      FinishesFrom fact goal more (record { between = other; s = t; used = v; e = f }) → SameRest between other rest more
  rest_one rows fact goal s t u v x y e f between other rest more same first second a b =
      let m : between ≡ other = takes_one one_provable rows between other (instance_of (length rows) v y)
      (subst (λ xs. Takes rows xs between) same.steps first) second in
      let there : FinishesFrom fact goal rest (record { between = other; s = t; used = v; e = f }) =
      subst (FinishesFrom fact goal rest) (λ i. record { between = m i; s = same.goal i; used = same.used i; e = same.formula i }) a in
      let spot : Spot = record { fact = fact; goal = goal; s = t } in
      let proved : there.f ≡ b.f = one_proved other there.f b.f there.proves b.proves in
      record {
        between_is = m;
        rest_is = finishes_one one_innermost (length other) spot v f b.f rest more
            (subst (λ (h : Tree). Finishes (length other) spot v f h rest) proved there.finishes) b.finishes;
      }

  pub one_steps : (rows : List Provable) (fact goal : ℕ) (atom : Atom) (s t : List Step) (a b : List Provable) → AtomSteps rows fact goal atom s a →
      AtomSteps rows fact goal atom t b → (s ≡ t) × (a ≡ b)
  one_steps rows fact goal atom _ _ a b (by_asking {steps} s p x taken) (by_asking {steps = more} t q y also) =
      let e = same_steps steps more (asked_one rows fact goal atom s t (Steps steps) (Steps more) p q x y) in
      (e, takes_one one_provable rows a b more (subst (λ xs. Takes rows xs a) e taken) also)
  one_steps rows fact goal atom _ _ a b (by_asking {steps} s p x taken) (uses t v y f other more q z first finishes then_on) =
      let e = asked_one rows fact goal atom s t (Steps steps) (Instance v y f) p q x z in absurd (cc e)
  one_steps rows fact goal atom _ _ a b (uses s u x e between rest p z first finishes then_on) (by_asking {steps} t q y taken) =
      let h = asked_one rows fact goal atom s t (Instance u x e) (Steps steps) p q z y in absurd (cc h)
  one_steps rows fact goal atom _ _ a b (uses s u x e between rest p z first finishes then_on) (uses t v y f other more q w second ends also) =
      let same = instance_one rows fact goal atom s t u v x y e f p q z w in
      let r = rest_one rows fact goal s t u v x y e f between other rest more same first second finishes ends in
      let steps = same.steps in
      let rests = r.rest_is in (
        λ i. steps i ++ rests i,
        takes_one one_provable other a b more (subst (λ xs. Takes other xs a) r.rest_is
            (subst (λ (l : List Provable). Takes l rest a) r.between_is then_on)) also,
      )

  pub one_fault : (rows : List Provable) (fact goal : ℕ) (atom : Atom) (why other : FailWhy) → AtomFault rows fact goal atom why →
      AtomFault rows fact goal atom other → why ≡ other
  one_fault rows fact goal atom why other (asks_none s p a) (asks_none t q b) =
      let e = asked_one rows fact goal atom s t (Refused why) (Refused other) p q a b in cc
  one_fault rows fact goal atom why _ (asks_none s p a) (not_taken t steps q b f) =
      let e = asked_one rows fact goal atom s t (Refused why) (Steps steps) p q a b in absurd (cc e)
  one_fault rows fact goal atom why _ (asks_none s p a) (not_instantiated t v y f q b h) =
      let e = asked_one rows fact goal atom s t (Refused why) (Instance v y f) p q a b in absurd (cc e)
  one_fault rows fact goal atom why _ (asks_none s p a) (not_used t v y f other more q b first ends h) =
      let e = asked_one rows fact goal atom s t (Refused why) (Instance v y f) p q a b in absurd (cc e)
  one_fault rows fact goal atom _ other (not_taken s steps p a f) (asks_none t q b) =
      let e = asked_one rows fact goal atom s t (Steps steps) (Refused other) p q a b in absurd (cc e)
  one_fault rows fact goal atom _ _ (not_taken {why} s steps p a f) (not_taken {why = other} t more q b g) =
      let e = same_steps steps more (asked_one rows fact goal atom s t (Steps steps) (Steps more) p q a b) in
      ap AtStep (fault_one one_provable once rows more why other (subst (λ x. FirstFault rows x why) e f) g)
  one_fault rows fact goal atom _ _ (not_taken s steps p a f) (not_instantiated t v y g q b h) =
      let e = asked_one rows fact goal atom s t (Steps steps) (Instance v y g) p q a b in absurd (cc e)
  one_fault rows fact goal atom _ _ (not_taken s steps p a f) (not_used t v y g other more q b first ends h) =
      let e = asked_one rows fact goal atom s t (Steps steps) (Instance v y g) p q a b in absurd (cc e)
  one_fault rows fact goal atom _ other (not_instantiated s u x e p a h) (asks_none t q b) =
      let k = asked_one rows fact goal atom s t (Instance u x e) (Refused other) p q a b in absurd (cc k)
  one_fault rows fact goal atom _ _ (not_instantiated s u x e p a h) (not_taken t steps q b f) =
      let k = asked_one rows fact goal atom s t (Instance u x e) (Steps steps) p q a b in absurd (cc k)
  one_fault rows fact goal atom _ _ (not_instantiated {why} s u x e p a h) (not_instantiated {why = other} t v y f q b g) =
      let same = instance_one rows fact goal atom s t u v x y e f p q a b in
      ap AtStep (fault_one one_provable once rows (instance_of (length rows) v y) why other (subst (λ xs. FirstFault rows xs why) same.steps h) g)
  one_fault rows fact goal atom _ _ (not_instantiated {why} s u x e p a h) (not_used t v y f other more q b first ends g) =
      let same = instance_one rows fact goal atom s t u v x y e f p q a b in
      absurd (taken_or_fault one_provable rows other (instance_of (length rows) v y) why first (subst (λ xs. FirstFault rows xs why) same.steps h))
  one_fault rows fact goal atom _ other (not_used s u x e between rest p a first finishes h) (asks_none t q b) =
      let k = asked_one rows fact goal atom s t (Instance u x e) (Refused other) p q a b in absurd (cc k)
  one_fault rows fact goal atom _ _ (not_used s u x e between rest p a first finishes h) (not_taken t steps q b f) =
      let k = asked_one rows fact goal atom s t (Instance u x e) (Steps steps) p q a b in absurd (cc k)
  one_fault rows fact goal atom _ _ (not_used s u x e between rest p a first finishes h) (not_instantiated {why} t v y f q b g) =
      let same = instance_one rows fact goal atom s t u v x y e f p q a b in
      absurd (taken_or_fault one_provable rows between (instance_of (length rows) v y) why (subst (λ xs. Takes rows xs between) same.steps first) g)
  one_fault rows fact goal atom _ _ (not_used {why} s u x e between rest p a first finishes h) (not_used {why = last} t v y f other more q b second ends g) =
      let same = instance_one rows fact goal atom s t u v x y e f p q a b in
      let r = rest_one rows fact goal s t u v x y e f between other rest more same first second finishes ends in
      ap AtStep (fault_one one_provable once other more why last
      (subst (λ xs. FirstFault other xs why) r.rest_is (subst (λ (l : List Provable). FirstFault l rest why) r.between_is h)) g)

  pub not_both : (rows : List Provable) (fact goal : ℕ) (atom : Atom) (s : List Step) (a : List Provable) (why : FailWhy) → AtomSteps rows fact goal atom s a →
      AtomFault rows fact goal atom why → ⊥
  not_both rows fact goal atom _ a why (by_asking {steps} s p x taken) (asks_none t q b) =
      let e = asked_one rows fact goal atom s t (Steps steps) (Refused why) p q x b in cc
  not_both rows fact goal atom _ a _ (by_asking {steps} s p x taken) (not_taken {why} t more q b f) =
      let e = same_steps steps more (asked_one rows fact goal atom s t (Steps steps) (Steps more) p q x b) in
      taken_or_fault one_provable rows a steps why taken (subst (λ xs. FirstFault rows xs why) (sym e) f)
  not_both rows fact goal atom _ a _ (by_asking {steps} s p x taken) (not_instantiated t v y f q b h) =
      let e = asked_one rows fact goal atom s t (Steps steps) (Instance v y f) p q x b in cc
  not_both rows fact goal atom _ a _ (by_asking {steps} s p x taken) (not_used t v y f other more q b first ends h) =
      let e = asked_one rows fact goal atom s t (Steps steps) (Instance v y f) p q x b in cc
  not_both rows fact goal atom _ a why (uses s u x e between rest p z first finishes then_on) (asks_none t q b) =
      let k = asked_one rows fact goal atom s t (Instance u x e) (Refused why) p q z b in cc
  not_both rows fact goal atom _ a _ (uses s u x e between rest p z first finishes then_on) (not_taken t more q b f) =
      let k = asked_one rows fact goal atom s t (Instance u x e) (Steps more) p q z b in cc
  not_both rows fact goal atom _ a _ (uses s u x e between rest p z first finishes then_on) (not_instantiated {why} t v y f q b h) =
      let same = instance_one rows fact goal atom s t u v x y e f p q z b in
      taken_or_fault one_provable rows between (instance_of (length rows) v y) why (subst (λ xs. Takes rows xs between) same.steps first) h
  not_both rows fact goal atom _ a _ (uses s u x e between rest p z first finishes then_on) (not_used {why} t v y f other more q b second ends h) =
      let same = instance_one rows fact goal atom s t u v x y e f p q z b in
      let r = rest_one rows fact goal s t u v x y e f between other rest more same first second finishes ends in
      taken_or_fault one_provable other a more why
      (subst (λ xs. Takes other xs a) r.rest_is (subst (λ (l : List Provable). Takes l rest a) r.between_is then_on)) h
