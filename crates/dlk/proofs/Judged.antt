-- A term within its limit is accepted where its lines are steps, and else its first wrong line is named.
use Rattle.std.proofs.Common.{◌≡◌, ◌↔◌, ◌<◌, ◌≤◌, ◌⊎◌, ℕ, Bool, true, false, nat_lt, List, [], ◌∷◌, ◌++◌, length, None, Some, refl, sym, ap, subst}
use Rattle.std.proofs.Common.{◌∙◌, inl, inr, arith}
use Rattle.std.proofs.lemmas.List.{append_cancel_left}
use Rattle.std.proofs.lemmas.Bool.Decides.{nat_tests}
use Rattle.dlk_tree.specs.Trees.{Tree}
use Rattle.dlk_calculus.specs.Sequents.{Sequent}
use Rattle.dlk_calculus.proofs.Leaves.{Derives-leaves}
use Rattle.dlk_desk.specs.Outside.{Outside}
use Rattle.dlk_report.specs.Reports.{is_closed}
use Rattle.dlk_replies.specs.declared.reply.Layout.{Layout}
use Rattle.dlk_replies.specs.declared.reply.Layout.TheVariants.{Text, Json}
use Rattle.dlk_replies.specs.declared.reply.Showing.TheVariants.{Reported}
use Rattle.dlk_replies.specs.declared.form.Role.TheVariants.{Model, Term}
use Rattle.dlk_replies.specs.Forms.{Word, inputs_of, limits_of, limit_of}
use Rattle.dlk_replies.specs.Inputs.{first_too_long}
use Rattle.dlk_replies.specs.Replies.{Reply, code_of}
use Rattle.dlk_jobs_check.specs.Terms.{ModelText, proves, line_refused, other_conclusion, TakesTerm, bad_model, bad_line, bad_conclusion}
use Rattle.dlk_jobs_check.specs.Checks.{Checks, refuses as refuses_term, reports, status_of, reported}
use Rattle.dlk_answers.specs.Answers.{Does, Responds, refuses, does}
use Rattle.dlk_jobs_check.proofs.Ends.{one_model, model_or_fault}
use Rattle.dlk_jobs_check.proofs.GuardReports.{term_is_refused}
use Rattle.dlk_jobs_check.proofs.OneReply.{one_check}
use Rattle.dlk_jobs_check.proofs.OneTerm.{replays}
use Rattle.dlk.specs.Answers.{Answers}
use Rattle.dlk.specs.Headline.{command_in, RunsCheck, IsReported, NamesLine, NamesConclusion, Judges, JudgesTruly}
use Rattle.dlk.proofs.Done.{response}
use Rattle.dlk.proofs.Truly.{accepted_derived}

pub closed_or_open : (b : Bool) → code_of (status_of b) < 2
closed_or_open true = omega arith
closed_or_open false = omega arith

pub closed_is_zero : (goals : List Sequent) → (code_of (status_of (is_closed goals)) ≡ 0) ↔ (goals ≡ [])
closed_is_zero [] = ((λ e. refl), (λ e. refl))
closed_is_zero (s ∷ goals) = ((λ e. absurd (omega (arith, e))), (λ e. cc))

module _ (layout : Layout) (model term : List ℕ) (f : Tree) (reads : ModelText model f) where
  pub reported_of : (reply : Reply) → Checks (Reported layout) model term reply → code_of reply.status < 2 →
      IsReported layout term f (code_of reply.status) reply.printed
  reported_of reply (refuses_term r refused) less =
      let two : code_of r.status ≡ 2 = ap code_of (term_is_refused model term r refused) in absurd (omega (arith, less, two))
  reported_of reply (reports steps rows p t) less =
      let a = t.replays.accepts in
      let derives = accepted_derived term rows p a in
      record {
        rows = rows;
        proof = p;
        accepts = a;
        derived = derives;
        conclusion = t.shows ∙ ap proves (one_model t.reads reads);
        closed = closed_is_zero p.goals;
        leaves = Derives-leaves p derives;
        report = refl;
      }

  refused_of : (reply : Reply) → Checks (Reported layout) model term reply → code_of reply.status ≡ 2 →
      NamesLine term reply.printed ⊎ NamesConclusion term f reply.printed
  refused_of reply (refuses_term _ (bad_model why fault)) two = absurd (model_or_fault why reads fault)
  refused_of reply (refuses_term _ (bad_line g t n why v)) two = inl (record { line = n; why = why; verdict = v; refusal = refl })
  refused_of reply (refuses_term _ (bad_conclusion g t rows p a ne)) two =
      let same = one_model t reads in
      inr
      (record {
        rows = rows;
        proof = p;
        accepts = a;
        other = λ e. ne (e ∙ ap proves (sym same));
        refusal = ap (λ x. (other_conclusion a.line x p.conclusion).printed) same;
      })
  refused_of reply (reports steps rows p t) two = absurd (omega (arith, two, closed_or_open (is_closed p.goals)))

  check_judges : (reply : Reply) → Checks (Reported layout) model term reply → Judges layout term f (code_of reply.status) reply.printed
  check_judges reply checks = record {
    accepted = reported_of reply checks;
    refused = refused_of reply checks;
    first_wrong = λ n why v few.
        let same = one_check (Reported layout) model term reply (line_refused n why) checks (refuses_term (line_refused n why) (bad_line f reads n why v)) in
        (ap (λ (r : Reply). code_of r.status) same, ap (λ (r : Reply). r.printed) same);
    all_steps = λ rows p a e few.
        let r = replays term rows p a in
        let takes : TakesTerm model term r.0 rows p = record { formula = f; reads = reads; replays = r.1; shows = e } in
        let same = one_check (Reported layout) model term reply (reported layout p (length rows)) checks (reports r.0 rows p takes) in
        subst (λ (r : Reply). code_of r.status < 2) (sym same) (closed_or_open (is_closed p.goals));
    another = λ rows p a ne few.
        let other = other_conclusion a.line f p.conclusion in
        let same = one_check (Reported layout) model term reply other checks (refuses_term other (bad_conclusion f reads rows p a ne)) in
        (ap (λ (r : Reply). code_of r.status) same, ap (λ (r : Reply). r.printed) same);
  }

-- inputs within their limits are not too long
pub within : (limit : ℕ) (bytes : List ℕ) → length bytes ≤ limit → nat_lt limit (length bytes) ≡ false
within limit bytes h = grind (arith, nat_tests, h)

short_enough : (names : List Word) (model term : List ℕ) → length model ≤ limit_of Model → length term ≤ limit_of Term →
    first_too_long names (limit_of Model ∷ limit_of Term ∷ []) (model ∷ term ∷ []) ≡ None
short_enough [] model term m t = refl
short_enough (a ∷ []) model term m t = rw (within (limit_of Model) model m) refl
short_enough (a ∷ b ∷ []) model term m t = rw (within (limit_of Model) model m, within (limit_of Term) term t) refl
short_enough (a ∷ b ∷ c ∷ names) model term m t = rw (within (limit_of Model) model m, within (limit_of Term) term t) refl

none_too_long : (layout : Layout) (names : List Word) (model term : List ℕ) → length model ≤ limit_of Model → length term ≤ limit_of Term →
    first_too_long names (limits_of (command_in layout)) (model ∷ term ∷ []) ≡ None
none_too_long Text = short_enough
none_too_long Json = short_enough

-- what a command in this layout answers to a model and a term
job_checks : (layout : Layout) (others : List Word) (model term : List ℕ) (reply : Reply) → Does (command_in layout) others (model ∷ term ∷ []) reply →
    Checks (Reported layout) model term reply
job_checks Text [] model term reply checks = checks
job_checks Text (w ∷ ws) model term reply checks = absurd checks
job_checks Json [] model term reply checks = checks
job_checks Json (w ∷ ws) model term reply checks = absurd checks

module _ (layout : Layout) (model term : List ℕ) (m : length model ≤ limit_of Model) (t : length term ≤ limit_of Term) where
  response_checks : (words : List Word) (reply : Reply) → Responds (command_in layout) words (model ∷ term ∷ []) reply →
      Checks (Reported layout) model term reply
  response_checks words reply (refuses name long) =
      let e : None ≡ Some name = sym (none_too_long layout (inputs_of (command_in layout) words) model term m t) ∙ long in absurd cc
  response_checks words reply (does short r job) = job_checks layout _ model term r job

  answer_checks : (words : List Word) (old : Outside) (reply : Reply) → Answers words old.files reply → RunsCheck layout words old model term →
      Checks (Reported layout) model term reply
  answer_checks words old reply answers runs =
      response_checks words reply (response words old.files (command_in layout) (model ∷ term ∷ []) reply answers runs.form runs.texts)

pub answer_judges : (words : List Word) (old new : Outside) (reply : Reply) → Answers words old.files reply → new.printed ≡ old.printed ++ reply.printed →
    JudgesTruly words (code_of reply.status) old new
answer_judges words old new reply answers printed layout model term said f runs m t reads says =
    let same : reply.printed ≡ said = append_cancel_left old.printed reply.printed said (sym printed ∙ says) in
    subst (λ (x : List ℕ). Judges layout term f (code_of reply.status) x) same
    (check_judges layout model term f reads reply (answer_checks layout model term m t words old reply answers runs))
