-- What `guard` prints of an accepted term: whether its lines are guarded, and its report.
use Rattle.std.proofs.Common.{◌≡◌, ◌<◌, ℕ, List, [], ◌∷◌, length, get_or, refl, sym, ap, subst, ◌∙◌, arith}
use Rattle.std.proofs.lemmas.List.{append_cancel_left}
use Rattle.dlk_calculus.specs.Provables.{Provable}
use Rattle.dlk_desk.specs.Outside.{Outside}
use Rattle.dlk_guard.specs.declared.why.Why.{Why}
use Rattle.dlk_guard.specs.Guarded.{lines, Guarded, FirstUnguarded}
use Rattle.dlk_replay.specs.Files.{file_lines, Answer, accepted, Verdict}
use Rattle.dlk_replies.specs.declared.command.Command.TheVariants.{Guard}
use Rattle.dlk_replies.specs.declared.reply.Layout.TheVariants.{Text}
use Rattle.dlk_replies.specs.Forms.{Word, others_of}
use Rattle.dlk_replies.specs.Replies.{Reply, code_of}
use Rattle.dlk_jobs_check.specs.Terms.{Accepts}
use Rattle.dlk_jobs_check.specs.Checks.{reports, reported}
use Rattle.dlk_jobs_check.specs.Guards.{Guards, refuses as refuses_term, guards, GuardSays, is_guarded, is_unguarded, guarded_line, unguarded_line}
use Rattle.dlk_jobs_check.proofs.GuardReports.{term_is_refused}
use Rattle.dlk_jobs_check.proofs.OneTerm.{one_accepted}
use Rattle.dlk_answers.specs.Answers.{Does}
use Rattle.dlk.specs.Answers.{Answers}
use Rattle.dlk.specs.Runs.{GivesWhole}
use Rattle.dlk.specs.Headline.{RunsGuard, TellsGuarded, IsGuarded, GuardsTruly}
use Rattle.dlk.proofs.Done.{response, is_done}
use Rattle.dlk.proofs.Judged.{reported_of}

-- one thing becomes of a file
abbrev pub OneVerdict : Type 0
OneVerdict = (all : List (List ℕ)) (a b : Answer) → Verdict all a → Verdict all b → a ≡ b

-- `unguarded` begins otherwise than `guarded`
not_guarded : (n : ℕ) (why : Why) → unguarded_line n why ≡ guarded_line → ⊥
not_guarded n why e = let first : 117 ≡ 103 = ap (λ l. get_or l 0 0) e in absurd (omega (arith, first))

module _ (one_verdict : OneVerdict) (model term : List ℕ) where
  one_rows : {rows others : List Provable} {p q : Provable} → Accepts term rows p → Accepts term others q → rows ≡ others
  one_rows {rows} {others} a b = one_accepted (one_verdict (file_lines term) (accepted rows a.line) (accepted others b.line) a.verdict b.verdict)

  tells : (rows : List Provable) (p : Provable) → Accepts term rows p → (said : List ℕ) → GuardSays term said → TellsGuarded term rows said
  tells rows p a said (is_guarded steps others q r all) =
      let here = subst (λ rs. Guarded (lines steps rs)) (one_rows r.accepts a) all in
      record { taken = steps; says = r.says; guarded = ((λ e. here), (λ g. refl)); unguarded = λ other. absurd (other refl) }
  tells rows p a said (is_unguarded steps others q r n why first) =
      let here = subst (λ rs. FirstUnguarded (lines steps rs) n why) (one_rows r.accepts a) first in
      record {
        taken = steps;
        says = r.says;
        guarded = ((λ e. absurd (not_guarded n why e)), (λ g. absurd (g.none n why here.refused)));
        unguarded = λ other. (n, why, here, refl);
      }

  guard_of : (reply : Reply) → Guards model term reply → code_of reply.status < 2 → IsGuarded model term (code_of reply.status) reply.printed
  guard_of _ (refuses_term r refused) less =
      let two : code_of r.status ≡ 2 = ap code_of (term_is_refused model term r refused) in absurd (omega (arith, less, two))
  guard_of _ (guards steps rows p t said says) less =
      let report = reported Text p (length rows) in
      let shown = reported_of Text model term t.formula t.reads report (reports steps rows p t) less in
      record {
        formula = t.formula;
        reads = t.reads;
        first = said;
        report = report.printed;
        said_is = refl;
        reported = shown;
        guard = tells shown.rows shown.proof shown.accepts said says;
      }

  job_guards : (others : List Word) (reply : Reply) → Does Guard others (model ∷ term ∷ []) reply → Guards model term reply
  job_guards [] reply h = h
  job_guards (w ∷ ws) reply h = absurd h

  answer_guards : (words : List Word) (old : Outside) (reply : Reply) → Answers words old.files reply → RunsGuard words old model term →
      code_of reply.status < 2 → IsGuarded model term (code_of reply.status) reply.printed
  answer_guards words old reply answers runs less =
      let texts = model ∷ term ∷ [] in
      let answer = response words old.files Guard texts reply answers runs.form runs.texts in
      guard_of reply (job_guards (others_of Guard words) reply (is_done Guard words texts reply answer less)) less

pub whole_guards : OneVerdict → (words : List Word) (status : ℕ) (old new : Outside) (reply : Reply) → GivesWhole words status old new reply →
    GuardsTruly words status old new
whole_guards one_verdict words status old new reply gives model term said runs less says =
    let same : reply.printed ≡ said = append_cancel_left old.printed reply.printed said (sym gives.printed ∙ says) in
    let few : code_of reply.status < 2 = omega (arith, less, gives.status_is) in
    subst (λ (n : ℕ). IsGuarded model term n said) (sym gives.status_is)
    (subst (λ (x : List ℕ). IsGuarded model term (code_of reply.status) x) same (answer_guards one_verdict model term words old reply gives.answer runs few))
