-- From what a replay and a judge answer to a term whose steps are kept.
use Rattle.std.proofs.Common.{◌≡◌, ◌≤◌, ℕ, List, length, map, sym, ap, ◌∙◌, subst}
use Rattle.dlk_tree.specs.Trees.{Tree}
use Rattle.dlk_calculus.specs.Places.{At}
use Rattle.dlk_calculus.specs.Provables.{Provable}
use Rattle.dlk_replay.specs.declared.fault.Outcome.{Outcome}
use Rattle.dlk_replay.specs.Files.{file_lines, accepted, Verdict, FileSteps}
use Rattle.dlk_replies.specs.Replies.{Reply}
use Rattle.dlk_rules.specs.Steps.{step_at}
use Rattle.dlk_jobs_check.specs.Judged.{RefusesConclusion}
use Rattle.dlk_jobs_check.specs.Terms.{ModelText, proves, other_conclusion, Accepts, TakesTerm, RefusesTerm, bad_conclusion}
use Rattle.dlk_jobs_check.proofs.Ends.{last_of, last_item}
use Rattle.dlk_jobs_terms.specs.Kept.{IsKept}

module _ (trees : List Tree) (term : List ℕ) (rows : List Provable) (outcome : Outcome) where
  pub kept : Verdict (file_lines term) (accepted rows outcome.line) → 1 ≤ length rows → outcome.fact ≡ length rows →
      FileSteps (file_lines term) (map (step_at trees) outcome.steps.items) → IsKept trees term rows outcome
  kept verdict some fact says =
      let last = last_of rows some in
      let accepts : Accepts term rows last.1 = record { before = last.0; last = last.2; line = outcome.line; verdict = verdict } in
      record { last = last.1; replays = record { accepts = accepts; says = says }; line = λ i. outcome.line; fact = fact }

  module _ (k : IsKept trees term rows outcome) where
    -- its last row stands at the fact
    pub last_there : At rows outcome.fact k.last
    last_there = let a = k.replays.accepts in subst (λ n. At rows n k.last) (sym k.fact) (last_item rows a.before k.last a.last)

    module _ (model : List ℕ) (f : Tree) (reads : ModelText model f) where
      pub takes : ((p : Provable) → At rows outcome.fact p → p.conclusion ≡ proves f) →
          TakesTerm model term (map (step_at trees) outcome.steps.items) rows k.last
      takes shown = record { formula = f; reads = reads; replays = k.replays; shows = shown k.last last_there }

      pub conclusion_refuses : (reply : Reply) → ((p : Provable) → At rows outcome.fact p → RefusesConclusion f outcome.line p reply) →
          RefusesTerm model term reply
      conclusion_refuses reply refused =
          let is = refused k.last last_there in
          let here = bad_conclusion f reads rows k.last k.replays.accepts is.0 in
          subst (RefusesTerm model term) (sym (is.1 ∙ ap (λ n. other_conclusion n f k.last.conclusion) k.line)) here
