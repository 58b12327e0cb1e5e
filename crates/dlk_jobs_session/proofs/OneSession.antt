-- There is one answer to a model and a script.
use Rattle.std.proofs.Common.{◌≡◌, ◌<◌, ◌≤◌, ℕ, List, length, refl, sym, ap, subst, ◌∙◌, None, Some, arith}
use Rattle.dlk_tree.specs.Trees.{Tree}
use Rattle.dlk_grammar.specs.declared.token.Dots.TheVariants.{Refused}
use Rattle.dlk_grammar.specs.declared.token.Form.TheVariants.{Formula}
use Rattle.dlk_grammar.specs.Texts.{TextFault}
use Rattle.dlk_calculus.specs.Steps.{Step}
use Rattle.dlk_machine.proofs.TextLaws.{one_tree_fault}
use Rattle.dlk_recorder.specs.Terms.{term_text}
use Rattle.dlk_session.specs.Sessions.{State, Begins, Line, Answer, Turns}
use Rattle.dlk_session.proofs.Stated.{begins_one}
use Rattle.dlk_strategy.specs.Runs.{RunsOn}
use Rattle.dlk_replies.specs.declared.form.Role.TheVariants.{Model, Term}
use Rattle.dlk_replies.specs.Forms.{limit_of}
use Rattle.dlk_replies.specs.Replies.{Reply}
use Rattle.dlk_replies.specs.Refusals.{text_refused}
use Rattle.dlk_jobs_check.specs.Terms.{ModelText, ModelFault}
use Rattle.dlk_jobs_check.proofs.Ends.{one_model, model_or_fault}
use Rattle.dlk_jobs_record.specs.Records.{term_too_long}
use Rattle.dlk_jobs_session.specs.Scripts.{Script, ScriptFault}
use Rattle.dlk_jobs_session.specs.Sessions.{script_refused, Plays, played, Sessions, bad_model, bad_line, too_long, keeps_none, writes}

-- how far it comes
data Ending : Type 0 where
  AtModel : TextFault → Ending
  AtLine : ℕ → Ending
  AtEnd : List Answer → State → Ending

abbrev Comes : List ℕ → List ℕ → Ending → Type 0
Comes model script (AtModel why) = ModelFault model why
Comes model script (AtLine n) = (f : Tree) × ModelText model f × ScriptFault script n
Comes model script (AtEnd answers last) = Plays model script answers last

-- what is answered in the end
data Ended (answers : List Answer) (last : State) : Reply → Type 0 where
  long : (steps : List Step) → last.saved ≡ Some steps → limit_of Term < length (term_text steps) →
      Ended answers last (term_too_long (length (term_text steps)))
  unsaved : last.saved ≡ None → Ended answers last (played answers last None)
  saved : (steps : List Step) → last.saved ≡ Some steps → length (term_text steps) ≤ limit_of Term →
      Ended answers last (played answers last (Some (term_text steps)))

abbrev Answers : Ending → Reply → Type 0
Answers (AtModel why) reply = reply ≡ text_refused Model why
Answers (AtLine n) reply = reply ≡ script_refused n
Answers (AtEnd answers last) reply = Ended answers last reply

same_steps : (last : State) (s t : List Step) → last.saved ≡ Some s → last.saved ≡ Some t → s ≡ t
same_steps last s t p q = cc

one_ended : (answers : List Answer) (last : State) (r s : Reply) → Ended answers last r → Ended answers last s → r ≡ s
one_ended answers last _ _ (long a p x) (long b q y) = ap (λ (t : List Step). term_too_long (length (term_text t))) (same_steps last a b p q)
one_ended answers last _ _ (long a p x) (unsaved q) = absurd cc
one_ended answers last _ _ (long a p x) (saved b q y) =
    let small = subst (λ (t : List Step). length (term_text t) ≤ limit_of Term) (same_steps last b a q p) y in absurd (omega (arith, x, small))
one_ended answers last _ _ (unsaved p) (long b q y) = absurd cc
one_ended answers last _ _ (unsaved p) (unsaved q) = refl
one_ended answers last _ _ (unsaved p) (saved b q y) = absurd cc
one_ended answers last _ _ (saved a p x) (long b q y) =
    let small = subst (λ (t : List Step). length (term_text t) ≤ limit_of Term) (same_steps last a b p q) x in absurd (omega (arith, y, small))
one_ended answers last _ _ (saved a p x) (unsaved q) = absurd cc
one_ended answers last _ _ (saved a p x) (saved b q y) = ap (λ (t : List Step). played answers last (Some (term_text t))) (same_steps last a b p q)

one_answer : (end : Ending) (r s : Reply) → Answers end r → Answers end s → r ≡ s
one_answer (AtModel why) r s a b = a ∙ sym b
one_answer (AtLine n) r s a b = a ∙ sym b
one_answer (AtEnd answers last) r s a b = one_ended answers last r s a b

record Reached (model script : List ℕ) (reply : Reply) : Type 0 where
  end : Ending
  comes : Comes model script end
  answers : Answers end reply

reached : (model script : List ℕ) (reply : Reply) → Sessions model script reply → Reached model script reply
reached model script _ (bad_model why is) = record { end = AtModel why; comes = is; answers = refl }
reached model script _ (bad_line f reads n is) = record { end = AtLine n; comes = (f, reads, is); answers = refl }
reached model script _ (too_long answers last plays steps is past) = record { end = AtEnd answers last; comes = plays; answers = long steps is past }
reached model script _ (keeps_none answers last plays is) = record { end = AtEnd answers last; comes = plays; answers = unsaved is }
reached model script _ (writes answers last plays steps is short) = record { end = AtEnd answers last; comes = plays; answers = saved steps is short }

module _ (one_lines : (bytes : List ℕ) (a b : List Line) → Script bytes a → Script bytes b → a ≡ b)
    (one_wrong : (bytes : List ℕ) (m n : ℕ) → ScriptFault bytes m → ScriptFault bytes n → m ≡ n)
    (not_both : (bytes : List ℕ) (lines : List Line) (n : ℕ) → Script bytes lines → ScriptFault bytes n → ⊥)
    (one_turns : (now last other : State) (lines : List Line) (a b : List Answer) → Turns RunsOn now lines a last → Turns RunsOn now lines b other →
    (a ≡ b) × (last ≡ other)) (model script : List ℕ) where
  one_play : (a b : List Answer) (last other : State) → Plays model script a last → Plays model script b other → (a ≡ b) × (last ≡ other)
  one_play a b last other p q =
      let formula : q.formula ≡ p.formula = one_model q.reads p.reads in
      let lines : q.lines ≡ p.lines = one_lines script q.lines p.lines q.says p.says in
      let first : q.first ≡ p.first = begins_one p.formula q.first p.first (subst (λ (f : Tree). Begins f q.first) formula q.begins) p.begins in
      let turns = subst (λ (ls : List Line). Turns RunsOn p.first ls b other) lines (subst (λ (s : State). Turns RunsOn s q.lines b other) first q.turns) in
      one_turns p.first last other p.lines a b p.turns turns

  one_ending : (a b : Ending) → Comes model script a → Comes model script b → a ≡ b
  one_ending (AtModel why) (AtModel other) x y = ap AtModel (one_tree_fault Formula Refused model why other x y)
  one_ending (AtModel why) (AtLine n) x y = absurd (model_or_fault why y.1 x)
  one_ending (AtModel why) (AtEnd answers last) x y = absurd (model_or_fault why y.reads x)
  one_ending (AtLine n) (AtModel other) x y = absurd (model_or_fault other x.1 y)
  one_ending (AtLine n) (AtLine m) x y = ap AtLine (one_wrong script n m x.2 y.2)
  one_ending (AtLine n) (AtEnd answers last) x y = absurd (not_both script y.lines n y.says x.2)
  one_ending (AtEnd answers last) (AtModel other) x y = absurd (model_or_fault other x.reads y)
  one_ending (AtEnd answers last) (AtLine n) x y = absurd (not_both script x.lines n x.says y.2)
  one_ending (AtEnd answers last) (AtEnd others end) x y =
      let same = one_play answers others last end x y in
      let a = same.0 in
      let l = same.1 in
      λ i. AtEnd (a i) (l i)

  pub one_session : (r s : Reply) → Sessions model script r → Sessions model script s → r ≡ s
  one_session r s a b =
      let x = reached model script r a in
      let y = reached model script s b in
      one_answer x.end r s x.answers (subst (λ (e : Ending). Answers e s) (one_ending y.end x.end y.comes x.comes) y.answers)
