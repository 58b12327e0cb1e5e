-- The machine behind a part, by what stood last.
use Rattle.std.proofs.Common.{◌≡◌, ℕ, List, [], ◌∷◌, Some, refl, sym, ap, ◌∙◌, length, arith}
use Rattle.dlk_scripts.specs.declared.part.Part.{Part}
use Rattle.dlk_scripts.specs.declared.part.PartKind.{PartKind}
use Rattle.dlk_scripts.specs.declared.part.PartKind.TheVariants as kind
use Rattle.dlk_tacsyn.specs.declared.argument.Written.{Written}
use Rattle.dlk_tacsyn.specs.declared.argument.OpenAtom.{OpenAtom}
use Rattle.dlk_tacsyn.specs.Tactics.{Tactic}
use Rattle.dlk_tacsyn.specs.Faults.{Fault}
use Rattle.dlk_tacsyn.specs.Strategies.{Outcome, Reading, Says, Fails, ◌>>=◌, atom_of}
use Rattle.dlk_tacsyn.specs.Steps.{Frame, Stack, Whole, State, state, end_choice, closed, given, after_whole, after_name, after_call, end_call, step}
use Rattle.dlk_tacsyn.specs.Steps.{run, settled, finish}

pub nil_of : {A : Type 0} (xs : List A) → length xs ≡ 0 → xs ≡ []
nil_of [] e = refl
nil_of (x ∷ xs) e = absurd (omega arith)

module _ (read : Reading) where
  name_other : (at : ℕ) (k : PartKind) (outer : Stack) (f : Frame) (place : ℕ) (x : List ℕ) → (k ≡ kind.Open → ⊥) →
      after_name read at k outer f place x ≡ (atom_of read place x [] >>= (λ t. after_whole at k outer f t))
  name_other at kind.Open outer f place x other = absurd (other refl)
  name_other at _ outer f place x other = refl

  pub name_ended : (at : ℕ) (k l : PartKind) (outer : Stack) (f : Frame) (place : ℕ) (x : List ℕ) (t : Tactic) (R : Outcome State) →
      l ≡ k → (k ≡ kind.Open → ⊥) → atom_of read place x [] ≡ Says t → after_whole at l outer f t ≡ R → after_name read at k outer f place x ≡ R
  name_ended at k l outer f place x t R same other found ends =
      name_other at k outer f place x other ∙ ap (λ m. m >>= (λ u. after_whole at k outer f u)) found ∙ ap (λ z. after_whole at z outer f t) (sym same) ∙ ends

  pub call_closed : (at : ℕ) (k : PartKind) (outer : Stack) (f : Frame) (c : OpenAtom) (ws : List Written) (t : Tactic) →
      k ≡ kind.Close → given c.before c.current ≡ Some ws → atom_of read c.at c.name ws ≡ Says t →
      after_call read at k outer f c ≡ Says (state outer f (Whole t))
  call_closed at k outer f c ws t closes all found =
      ap (λ z. after_call read at z outer f c) closes
      ∙ ap (λ o. end_call read at c o >>= (λ u. Says (state outer f (Whole u)))) all
      ∙ ap (λ m. m >>= (λ u. Says (state outer f (Whole u)))) found

  pub finish_ended : (s : State) (t : Tactic) (f : Frame) (u : Tactic) → settled read s.last ≡ Says t → end_choice s.inner t ≡ f →
      closed f.opened f.branches ≡ u → finish read s ≡ Says u
  finish_ended s t f u last ends is =
      ap (λ m. m >>= (λ v. Says (closed s.inner.opened (end_choice s.inner v).branches))) last ∙ (λ i. Says (closed (ends i).opened (ends i).branches))
      ∙ ap (λ z. Says z) is

  pub run_next : (X : Outcome State) (s next : State) (p : Part) (its after : List Part) → X ≡ run read s its → its ≡ p ∷ after → step read s p ≡ Says next →
      X ≡ run read next after
  run_next X s next p its after goes items steps = goes ∙ ap (run read s) items ∙ ap (λ m. m >>= (λ n. run read n after)) steps

  pub run_failed : (X : Outcome State) (s : State) (p : Part) (its after : List Part) (f : Fault) → X ≡ run read s its → its ≡ p ∷ after →
      step read s p ≡ Fails f →
      (X >>= (λ n. finish read n)) ≡ Fails f
  run_failed X s p its after f goes items steps =
      ap (λ m. m >>= (λ n. finish read n)) (goes ∙ ap (run read s) items ∙ ap (λ m. m >>= (λ n. run read n after)) steps)

  pub run_ended : (X : Outcome State) (s : State) (its : List Part) (o : Outcome Tactic) → X ≡ run read s its → its ≡ [] → finish read s ≡ o →
      (X >>= (λ n. finish read n)) ≡ o
  run_ended X s its o goes items ends = ap (λ m. m >>= (λ n. finish read n)) (goes ∙ ap (run read s) items) ∙ ends
