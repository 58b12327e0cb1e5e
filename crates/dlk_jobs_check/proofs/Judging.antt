-- From what reading, replaying and judging answer to a term that is taken, or refused.
use Rattle.std.proofs.Common.{◌≡◌, ◌≤◌, ℕ, List, length, sym, ap, ◌∙◌, subst, codes, arith}
use Rattle.dlk_tree.specs.Trees.{Tree}
use Rattle.dlk_calculus.specs.Places.{At, IsPlace}
use Rattle.dlk_calculus.specs.Provables.{Provable}
use Rattle.dlk_calculus.specs.Steps.{Step}
use Rattle.dlk_guard.specs.Guarded.{Line, lines}
use Rattle.dlk_guard.specs.Watched.{after_all}
use Rattle.dlk_replay.specs.Files.{file_lines, Verdict, accepted, FileSteps}
use Rattle.dlk_replay.specs.Replay.{IsReplayFaultOf}
use Rattle.dlk_replay.specs.declared.fault.Ending.{Ending}
use Rattle.dlk_replay.specs.declared.fault.ReplayFault.{ReplayFault}
use Rattle.dlk_replay.specs.declared.fault.ReplayFault.TheVariants.{Bad, Memory}
use Rattle.dlk_replies.specs.declared.ended.Ended.{Ended}
use Rattle.dlk_replies.specs.Ended.{EndsIn}
use Rattle.dlk_replies.specs.Replies.{Reply}
use Rattle.dlk_replies.specs.declared.reply.Showing.{Showing}
use Rattle.dlk_replies.proofs.Ends.{ends_weaker}
use Rattle.dlk_jobs_check.specs.Terms.{ModelText, proves, refused_line, other_conclusion, Accepts, RefusesTerm, bad_model, bad_line, bad_conclusion}
use Rattle.dlk_jobs_check.specs.Checks.{Checks, reports, answered}
use Rattle.dlk_jobs_check.specs.Judged.{RefusesModel, RefusesLine, RefusesConclusion, IsTermRefused, Counts, IsReplayed, IsTaken}
use Rattle.dlk_jobs_check.proofs.Ends.{last_of, last_item}

-- the last of some rows has a place
pub last_place : {A : Type 0} {B : Type 0} (f : A → B) (items : List A) (fact : ℕ) → fact ≡ length items → 1 ≤ length items → IsPlace items fact
last_place f items fact is some = (omega (arith, is, some), omega (arith, is))

-- a term whose first wrong line was named
pub fault_ends : (words term : List ℕ) (fault : ReplayFault) (ended : Ended) → IsReplayFaultOf (file_lines term) fault → IsTermRefused words fault ended →
    EndsIn (RefusesLine words term) ended
fault_ends words term (Bad line why) ended verdict is =
    ends_weaker (λ reply. reply ≡ refused_line words line why) (RefusesLine words term) (λ reply said. (line, why, verdict, said)) ended is
fault_ends words term Memory ended verdict is = subst (EndsIn (RefusesLine words term)) (sym is) tt

module _ {V : Type 0} (after : V → Line → V) (term : List ℕ) (rows : List Provable) (ending : Ending) (old new : V) where
  pub replayed : Verdict (file_lines term) (accepted rows ending.line) → 1 ≤ length rows → Counts rows ending →
      ((taken : List Step) × FileSteps (file_lines term) taken × (new ≡ after_all after old (lines taken rows))) →
      IsReplayed after term rows ending old new
  replayed verdict some counts seen =
      let last = last_of rows some in
      let accepts : Accepts term rows last.1 = record { before = last.0; last = last.2; line = ending.line; verdict = verdict } in
      record {
        steps = seen.0;
        last = last.1;
        replays = record { accepts = accepts; says = seen.1 };
        line = λ i. ending.line;
        seen = seen.2;
        counts = counts;
      }

  module _ (r : IsReplayed after term rows ending old new) where
    -- its last row stands at the fact
    pub last_there : At rows ending.fact r.last
    last_there =
        let a = r.replays.accepts in
        subst (λ n. At rows n r.last) (sym r.counts.fact) (last_item rows a.before r.last a.last)

    module _ (model : List ℕ) (f : Tree) (reads : ModelText model f) where
      pub taken : ((p : Provable) → At rows ending.fact p → p.conclusion ≡ proves f) → IsTaken after model term rows ending old new
      taken shown = record {
        steps = r.steps;
        last = r.last;
        takes = record { formula = f; reads = reads; replays = r.replays; shows = shown r.last last_there };
        seen = r.seen;
        counts = r.counts;
      }

      pub conclusion_refuses : (reply : Reply) → ((p : Provable) → At rows ending.fact p → RefusesConclusion f ending.line p reply) →
          RefusesTerm model term reply
      conclusion_refuses reply refused =
          let is = refused r.last last_there in
          let here = bad_conclusion f reads rows r.last r.replays.accepts is.0 in
          subst (RefusesTerm model term) (sym (is.1 ∙ ap (λ n. other_conclusion n f r.last.conclusion) r.line)) here

pub model_refuses : (model term : List ℕ) (reply : Reply) → RefusesModel model reply → RefusesTerm model term reply
model_refuses model term reply (why, fault, is) = subst (RefusesTerm model term) (sym is) (bad_model why fault)

pub line_refuses : (model term : List ℕ) (f : Tree) → ModelText model f → (reply : Reply) → RefusesLine (codes "line") term reply → RefusesTerm model term reply
line_refuses model term f reads reply (n, why, verdict, is) = subst (RefusesTerm model term) (sym is) (bad_line f reads n why verdict)

-- what is shown of a term that is taken
pub shown_answer : {V : Type 0} (after : V → Line → V) (showing : Showing) (model term : List ℕ) (rows : List Provable) (ending : Ending) (old new : V) →
    IsTaken after model term rows ending old new → (reply : Reply) → ((p : Provable) → At rows ending.fact p → reply ≡ answered showing p ending.lines) →
    Checks showing model term reply
shown_answer after showing model term rows ending old new t reply says =
    let a = t.takes.replays.accepts in
    let there : At rows ending.fact t.last = subst (λ n. At rows n t.last) (sym t.counts.fact) (last_item rows a.before t.last a.last) in
    let is : reply ≡ answered showing t.last (length rows) = says t.last there ∙ ap (λ n. answered showing t.last n) t.counts.lines in
    subst (λ (r : Reply). Checks showing model term r) (sym is) (reports t.steps rows t.last t.takes)
