-- Bytes are one strategy or have one fault.
use Rattle.std.proofs.Common.{◌≡◌, ℕ, List, refl, sym, ap, ◌∙◌, subst, inl, inr, ◌⊎◌}
use Rattle.dlk_scripts.specs.Scripts.{Script}
use Rattle.dlk_scripts.specs.Texts.{IsScript, Stops}
use Rattle.dlk_tacsyn.specs.Tactics.{Tactic}
use Rattle.dlk_tacsyn.specs.Faults.{Fault, Nesting, UnknownAtom, Arguments}
use Rattle.dlk_tacsyn.specs.Faults as fault
use Rattle.dlk_tacsyn.specs.Strategies.{Outcome, Says, Fails, strategy_of, HasOutcome, StrategyText, StrategyFault}
use Rattle.dlk_tacsyn.proofs.Read.{QuotedLaws, reads, reads_all, one_reading}
use Rattle.dlk_tacsyn.proofs.Later.{IsLater, strategy_later}

said : Tactic → Outcome Tactic → Tactic
said d (Says t) = t
said d (Fails f) = d

same_says : (t u : Tactic) → Says t ≡ Says u → t ≡ u
unfolding said
same_says t u e = ap (said t) e

failed_by : Fault → Outcome Tactic → Fault
failed_by d (Says t) = d
failed_by d (Fails f) = f

abbrev failed : Fault → Outcome Tactic
failed f = Fails f

same_fails : (f e : Fault) → failed f ≡ failed e → f ≡ e
unfolding failed_by
same_fails f e h = ap (failed_by f) h

abbrev DoesSay : Outcome Tactic → Type 0
DoesSay (Says t) = Unit {0}
DoesSay (Fails f) = ⊥

says_fails : (t : Tactic) (f : Fault) → Says t ≡ Fails f → ⊥
says_fails t f e = subst DoesSay e tt

-- a fault of the grammar, or an outcome
data Told (bytes : List ℕ) (f : Fault) : Type 0 where
  stops : (at : ℕ) → f ≡ fault.Syntax at → Stops bytes at → Told bytes f
  fails : HasOutcome bytes (Fails f) → Told bytes f

told : (bytes : List ℕ) (f : Fault) → StrategyFault bytes f → Told bytes f
told bytes (fault.Syntax at) h = stops at refl h
told bytes (fault.Nesting at) h = fails h
told bytes (fault.Repeat at) h = fails h
told bytes (fault.UnknownAtom at) h = fails h
told bytes (fault.Arguments at) h = fails h

module _ (laws : QuotedLaws) (one_script : (bytes : List ℕ) (s u : Script) → IsScript bytes s → IsScript bytes u → s ≡ u) where
  one_outcome : (bytes : List ℕ) (o p : Outcome Tactic) → HasOutcome bytes o → HasOutcome bytes p → o ≡ p
  one_outcome bytes o p a b =
      let reading : a.read ≡ b.read = one_reading laws a.read b.read a.reading b.reading in
      let scripts : a.script ≡ b.script = one_script bytes a.script b.script a.says b.says in
      sym a.outcome_is ∙ (λ i. strategy_of (reading i) (scripts i)) ∙ b.outcome_is

  pub one_says : (bytes : List ℕ) (t u : Tactic) → StrategyText bytes t → StrategyText bytes u → t ≡ u
  one_says bytes t u a b = same_says t u (one_outcome bytes (Says t) (Says u) a b)

  module _ (no_stop : (bytes : List ℕ) (s : Script) (at : ℕ) → IsScript bytes s → Stops bytes at → ⊥) where
    says_or_told : (bytes : List ℕ) (t : Tactic) (f : Fault) → StrategyText bytes t → Told bytes f → ⊥
    says_or_told bytes t f a (stops at e h) = no_stop bytes a.script at a.says h
    says_or_told bytes t f a (fails h) = says_fails t f (one_outcome bytes (Says t) (Fails f) a h)

    pub says_or_fault : (bytes : List ℕ) (t : Tactic) (f : Fault) → StrategyText bytes t → StrategyFault bytes f → ⊥
    says_or_fault bytes t f a h = says_or_told bytes t f a (told bytes f h)

    module _ (one_stop : (bytes : List ℕ) (i j : ℕ) → Stops bytes i → Stops bytes j → i ≡ j) where
      one_told : (bytes : List ℕ) (f e : Fault) → Told bytes f → Told bytes e → f ≡ e
      one_told bytes f e (stops at p h) (stops by q k) = p ∙ ap (λ z. fault.Syntax z) (one_stop bytes at by h k) ∙ sym q
      one_told bytes f e (stops at p h) (fails k) = absurd (no_stop bytes k.script at k.says h)
      one_told bytes f e (fails h) (stops by q k) = absurd (no_stop bytes h.script by h.says k)
      one_told bytes f e (fails h) (fails k) = same_fails f e (one_outcome bytes (Fails f) (Fails e) h k)

      pub one_fault : (bytes : List ℕ) (f e : Fault) → StrategyFault bytes f → StrategyFault bytes e → f ≡ e
      one_fault bytes f e h k = one_told bytes f e (told bytes f h) (told bytes e k)

module _ (laws : QuotedLaws) where
  read_so : (bytes : List ℕ) (s : Script) (o : Outcome Tactic) → IsScript bytes s → strategy_of (reads laws) s ≡ o → HasOutcome bytes o
  read_so bytes s o is e = record { script = s; says = is; read = reads laws; reading = reads_all laws; outcome_is = e }

  by_outcome : (bytes : List ℕ) (s : Script) → IsScript bytes s → (o : Outcome Tactic) → strategy_of (reads laws) s ≡ o → IsLater o →
      ((t : Tactic) × StrategyText bytes t) ⊎ ((f : Fault) × StrategyFault bytes f)
  by_outcome bytes s is (Says t) e later = inl (t, read_so bytes s (Says t) is e)
  by_outcome bytes s is (Fails (fault.Syntax at)) e later = absurd later
  by_outcome bytes s is (Fails (fault.Nesting at)) e later = inr (Nesting at, read_so bytes s (Fails (Nesting at)) is e)
  by_outcome bytes s is (Fails (fault.Repeat at)) e later = inr (fault.Repeat at, read_so bytes s (Fails (fault.Repeat at)) is e)
  by_outcome bytes s is (Fails (fault.UnknownAtom at)) e later = inr (UnknownAtom at, read_so bytes s (Fails (UnknownAtom at)) is e)
  by_outcome bytes s is (Fails (fault.Arguments at)) e later = inr (Arguments at, read_so bytes s (Fails (Arguments at)) is e)

  pub says_or_fails : (bytes : List ℕ) → (((s : Script) × IsScript bytes s) ⊎ ((at : ℕ) × Stops bytes at)) →
      ((t : Tactic) × StrategyText bytes t) ⊎ ((f : Fault) × StrategyFault bytes f)
  says_or_fails bytes (inl p) = by_outcome bytes p.0 p.1 (strategy_of (reads laws) p.0) refl (strategy_later (reads laws) p.0)
  says_or_fails bytes (inr q) = inr (fault.Syntax q.0, q.1)
