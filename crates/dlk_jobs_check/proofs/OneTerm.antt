-- A term is taken for a model in one way, or refused with one reply.
use Rattle.std.proofs.Common.{◌≡◌, ◌⊎◌, ℕ, List, [], sym, ap, ◌∙◌, inl, inr}
use Rattle.dlk_tree.specs.Trees.{Tree}
use Rattle.dlk_calculus.specs.Provables.{Provable}
use Rattle.dlk_calculus.specs.Steps.{Step}
use Rattle.dlk_calculus.proofs.Decide.{same_sequent}
use Rattle.dlk_grammar.specs.declared.token.Dots.TheVariants.{Refused}
use Rattle.dlk_grammar.specs.declared.token.Form.TheVariants.{Formula}
use Rattle.dlk_machine.proofs.TextLaws.{one_tree_fault}
use Rattle.dlk_machine.proofs.SomeText.{some_tree}
use Rattle.dlk_replay.specs.Files.{file_lines, Verdict, Answer, accepted, bad}
use Rattle.dlk_replay.specs.declared.fault.LineWhy.{LineWhy}
use Rattle.dlk_replay.proofs.SaidSteps.{one_list_of_steps, accepted_says_steps}
use Rattle.dlk_replay.proofs.Verdicts.{one_verdict, some_verdict, accepted_some}
use Rattle.dlk_replies.specs.declared.form.Role.TheVariants.{Model}
use Rattle.dlk_replies.specs.Replies.{Reply}
use Rattle.dlk_replies.specs.Refusals.{text_refused}
use Rattle.dlk_jobs_check.specs.Terms.{ModelText, proves, line_refused, other_conclusion, Accepts, Replays, TakesTerm, RefusesTerm, bad_model}
use Rattle.dlk_jobs_check.specs.Terms.{bad_line, bad_conclusion}
use Rattle.dlk_jobs_check.proofs.Ends.{last_of, one_last, one_model, model_or_fault}

-- the same rows, and the same last one at the same line
pub record SameEnd (rows others : List Provable) (line place : ℕ) (p q : Provable) : Type 0 where
  pub rows_are : rows ≡ others
  pub line_is : line ≡ place
  pub last_is : p ≡ q

not_both : {rows : List Provable} {line n : ℕ} {why : LineWhy} → accepted rows line ≡ bad n why → ⊥
not_both e = cc

pub one_accepted : {rows others : List Provable} {line place : ℕ} → accepted rows line ≡ accepted others place → rows ≡ others
one_accepted e = cc

one_place : {rows others : List Provable} {line place : ℕ} → accepted rows line ≡ accepted others place → line ≡ place
one_place e = cc

one_bad : {n m : ℕ} {why other : LineWhy} → bad n why ≡ bad m other → line_refused n why ≡ line_refused m other
one_bad {n} {m} {why} {other} e =
    let number : n ≡ m = cc in
    let reason : why ≡ other = cc in
    λ i. line_refused (number i) (reason i)

-- an accepted term has one end
pub one_end : {term : List ℕ} {rows others : List Provable} {p q : Provable} → (a : Accepts term rows p) → (b : Accepts term others q) →
    SameEnd rows others a.line b.line p q
one_end {term} {rows} {others} {p} {q} a b =
    let one = one_verdict (file_lines term) (accepted rows a.line) (accepted others b.line) a.verdict b.verdict in
    let same : rows ≡ others = one_accepted one in
    record { rows_are = same; line_is = one_place one; last_is = one_last a.before b.before p q (sym a.last ∙ same ∙ b.last) }

accepted_not_bad : {term : List ℕ} {rows : List Provable} {p : Provable} {n : ℕ} {why : LineWhy} → Accepts term rows p →
    Verdict (file_lines term) (bad n why) → ⊥
accepted_not_bad {term} {rows} {p} {n} {why} a v = not_both (one_verdict (file_lines term) (accepted rows a.line) (bad n why) a.verdict v)

-- and its lines say one list of steps
pub one_replay : {term : List ℕ} {steps others : List Step} {rows more : List Provable} {p q : Provable} → Replays term steps rows p →
    Replays term others more q → steps ≡ others
one_replay {term} {steps} {others} a b = one_list_of_steps [] (file_lines term) steps others a.says b.says

-- an accepted term is replayed
pub replays : (term : List ℕ) (rows : List Provable) (p : Provable) → Accepts term rows p → (steps : List Step) × Replays term steps rows p
replays term rows p a =
    let says = accepted_says_steps (file_lines term) rows a.line a.verdict in
    (says.0, record { accepts = a; says = says.1 })

module _ (model term : List ℕ) where
  pub one_refusal : (r s : Reply) → RefusesTerm model term r → RefusesTerm model term s → r ≡ s
  one_refusal _ _ (bad_model why a) (bad_model other b) = ap (text_refused Model) (one_tree_fault Formula Refused model why other a b)
  one_refusal _ _ (bad_model why a) (bad_line g u m other w) = absurd (model_or_fault why u a)
  one_refusal _ _ (bad_model why a) (bad_conclusion g u others q b ne) = absurd (model_or_fault why u a)
  one_refusal _ _ (bad_line f t n why v) (bad_model other b) = absurd (model_or_fault other t b)
  one_refusal _ _ (bad_line f t n why v) (bad_line g u m other w) = one_bad (one_verdict (file_lines term) (bad n why) (bad m other) v w)
  one_refusal _ _ (bad_line f t n why v) (bad_conclusion g u others q b ne) = absurd (accepted_not_bad b v)
  one_refusal _ _ (bad_conclusion f t rows p a ne) (bad_model other b) = absurd (model_or_fault other t b)
  one_refusal _ _ (bad_conclusion f t rows p a ne) (bad_line g u m other w) = absurd (accepted_not_bad a w)
  one_refusal _ _ (bad_conclusion f t rows p a ne) (bad_conclusion g u others q b other) =
      let end = one_end a b in
      let same = one_model t u in
      λ i. other_conclusion (end.line_is i) (same i) (end.last_is i).conclusion

  pub one_taken : (steps others : List Step) (rows more : List Provable) (p q : Provable) → TakesTerm model term steps rows p →
      TakesTerm model term others more q →
      (steps ≡ others) × (rows ≡ more) × (p ≡ q)
  one_taken steps others rows more p q a b =
      let end = one_end a.replays.accepts b.replays.accepts in
      (one_replay a.replays b.replays, end.rows_are, end.last_is)

  pub refused_or_taken : (r : Reply) (steps : List Step) (rows : List Provable) (p : Provable) → RefusesTerm model term r →
      TakesTerm model term steps rows p → ⊥
  refused_or_taken _ steps rows p (bad_model why a) t = model_or_fault why t.reads a
  refused_or_taken _ steps rows p (bad_line f u n why v) t = accepted_not_bad t.replays.accepts v
  refused_or_taken _ steps rows p (bad_conclusion f u others q b ne) t =
      ne (ap (λ (x : Provable). x.conclusion) (one_end b t.replays.accepts).last_is ∙ t.shows ∙ ap proves (one_model t.reads u))

  pub some_judgement : ((reply : Reply) × RefusesTerm model term reply)
      ⊎ ((steps : List Step) × (rows : List Provable) × (p : Provable) × TakesTerm model term steps rows p)
  some_judgement = elim (some_tree Formula Refused model) [
    | inl read ↦ by_verdict read.0 read.1 (some_verdict (file_lines term))
    | inr fault ↦ inl (text_refused Model fault.0, bad_model fault.0 fault.1)
  ]
    where
      by_verdict : (f : Tree) → ModelText model f → (a : Answer) × Verdict (file_lines term) a →
          ((reply : Reply) × RefusesTerm model term reply) ⊎ ((steps : List Step) × (rows : List Provable) × (p : Provable) × TakesTerm model term steps rows p)
      by_verdict f reads (bad n why, verdict) = inl (line_refused n why, bad_line f reads n why verdict)
      by_verdict f reads (accepted rows line, verdict) =
          let last = last_of rows (accepted_some (file_lines term) rows line verdict) in
          let a : Accepts term rows last.1 = record { before = last.0; last = last.2; line = line; verdict = verdict } in
          let r = replays term rows last.1 a in
          elim (same_sequent last.1.conclusion (proves f)) [
            | yes same ↦ inr (r.0, rows, last.1, record { formula = f; reads = reads; replays = r.1; shows = same })
            | no other ↦ inl (other_conclusion line f last.1.conclusion, bad_conclusion f reads rows last.1 a other)
          ]
