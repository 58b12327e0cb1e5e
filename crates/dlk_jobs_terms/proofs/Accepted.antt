-- What the commands write is accepted, and shows what it must.
use Rattle.std.proofs.Common.{◌≡◌, ◌∙◌, ◌≤◌, ℕ, ◌+◌, List, [], ◌∷◌, ◌++◌, length, map, None, Some, refl, sym, subst, arith}
use Rattle.std.specs.List.{All}
use Rattle.std.proofs.lemmas.List.Elements.{All-nil, All-cons, All-head, All-tail, All-append}
use Rattle.dlk_calculus.specs.Places.{At}
use Rattle.dlk_calculus.specs.Provables.{Provable, IsAmong}
use Rattle.dlk_calculus.specs.Sequents.{Sequent}
use Rattle.dlk_calculus.specs.Steps.{Step, Start, UseAxiom, UseRule, Leaf, Apply, Merge, Substitute, Rename}
use Rattle.dlk_calculus.proofs.PlaceLaws.{at_one, All-front, All-between}
use Rattle.dlk_kernel.specs.Taken.{Takes}
use Rattle.dlk_link.specs.Ends.{EndsIn}
use Rattle.dlk_link.specs.Linked.{Joins, no_goals, another, the_same, Linked, Joined}
use Rattle.dlk_link.specs.Neat.{AreUnlike, AreNamed}
use Rattle.dlk_link.specs.Trimmed.{moved, Trims, Trimmed, nothing_read, not_needed, kept_before, is_kept}
use Rattle.dlk_recorder.specs.Terms.{HasSymbols}
use Rattle.dlk_replay.specs.Files.{file_lines, FileSteps}
use Rattle.dlk_replies.specs.declared.form.Role.TheVariants.{Model, Term}
use Rattle.dlk_replies.specs.declared.reply.Layout.TheVariants.{Text}
use Rattle.dlk_replies.specs.declared.reply.Showing.TheVariants.{Reported}
use Rattle.dlk_replies.specs.Forms.{limit_of}
use Rattle.dlk_replies.specs.Replies.{Reply, printing}
use Rattle.dlk_replies.proofs.CarriedOut.{text_unwritten}
use Rattle.dlk_rules.specs.Facts.{renumbered}
use Rattle.dlk_jobs_check.specs.Checks.{Checks}
use Rattle.dlk_jobs_check.specs.Terms.{Replays, RefusesTerm, bad_model, bad_line as bad_term_line, bad_conclusion}
use Rattle.dlk_jobs_record.specs.Records.{Records}
use Rattle.dlk_jobs_record.proofs.TakenRows.{taken_count, some_steps}
use Rattle.dlk_jobs_record.proofs.Written.{RecordedIsWritten, written_is_checked}
use Rattle.dlk_jobs_terms.specs.Converts.{Converts, bad_line, records as writes_anew, IsConverted}
use Rattle.dlk_jobs_terms.specs.Links.{no_goal, past_limit, records, Links, refuses, bad_lemma, links, IsJoined}
use Rattle.dlk_jobs_terms.specs.Trims.{Trims as TrimsTerm, refuses as refuses_term, trims, IsTrimmed}
use Rattle.dlk_jobs_terms.proofs.EndLaws.{SaysSteps, KeptShows, last_is, one_ending, replay_takes, replay_last}

-- a refusal writes nothing
pub term_unwritten : (model term : List ℕ) (reply : Reply) → RefusesTerm model term reply → reply.written ≡ None
term_unwritten model term _ (bad_model why is) = text_unwritten Model why
term_unwritten model term _ (bad_term_line f reads n why v) = refl
term_unwritten model term _ (bad_conclusion f reads rows p a ne) = refl

refusal_writes : (model term text : List ℕ) (reply : Reply) → RefusesTerm model term reply → reply.written ≡ Some text → ⊥
refusal_writes model term text reply refused written = let none = term_unwritten model term reply refused in cc

-- ---- symbols

moved_symbols : (to : ℕ → ℕ) (step : Step) → HasSymbols step → HasSymbols (renumbered to step)
moved_symbols to (Start s) h = h
moved_symbols to (UseAxiom name) h = h
moved_symbols to (UseRule name) h = h
moved_symbols to (Leaf s) h = h
moved_symbols to (Apply fact goal rule) h = h
moved_symbols to (Merge fact goal by) h = h
moved_symbols to (Substitute fact pairs) h = h
moved_symbols to (Rename fact x y) h = h

all_moved : (to : ℕ → ℕ) (steps : List Step) → All HasSymbols steps → All HasSymbols (map (renumbered to) steps)
all_moved to [] h = All-nil HasSymbols
all_moved to (step ∷ steps) h =
    All-cons HasSymbols (renumbered to step) (map (renumbered to) steps) (moved_symbols to step (All-head HasSymbols step steps h))
    (all_moved to steps (All-tail HasSymbols step steps h))

joins_symbols : (c : Sequent) (by main rows : ℕ) (goals : List Sequent) (steps : List Step) → Joins c by main rows goals steps → All HasSymbols steps
joins_symbols c by main rows _ _ no_goals = All-nil HasSymbols
joins_symbols c by main rows _ steps (another {goals = g} ne joins) = joins_symbols c by main rows g steps joins
joins_symbols c by main rows _ _ (the_same {goals = g} {steps = rest} joins) =
    All-cons HasSymbols (Merge main (length g + 1) by) rest tt (joins_symbols c by (rows + 1) (rows + 1) g rest joins)

linked_symbols : (term lemma linked : List Step) (goals : List Sequent) (c : Sequent) → Linked term goals lemma c linked → All HasSymbols term →
    All HasSymbols lemma → All HasSymbols linked
linked_symbols term lemma linked goals c is in_term in_lemma =
    let to : ℕ → ℕ = λ fact. fact + length term in
    let behind = map (renumbered to) lemma in
    subst (All HasSymbols) (sym is.steps_are)
    (All-append HasSymbols (term ++ behind) is.joins (All-append HasSymbols term behind in_term (all_moved to lemma in_lemma))
    (joins_symbols c (length term + length lemma) (length term) (length term + length lemma) goals is.joins is.joined))

trimmed_symbols : (term read kept : List Step) (numbers : List ℕ) → Trims term read kept numbers → All HasSymbols read → All HasSymbols kept
trimmed_symbols term _ _ _ nothing_read h = All-nil HasSymbols
trimmed_symbols term _ kept _ (not_needed {read = r} {numbers = n} step before none) h =
    trimmed_symbols term r kept n before (All-front HasSymbols r (step ∷ []) h)
trimmed_symbols term _ kept _ (kept_before {read = r} {numbers = l} step n before need at) h =
    trimmed_symbols term r kept l before (All-front HasSymbols r (step ∷ []) h)
trimmed_symbols term _ _ _ (is_kept {read = r} {kept = k} {numbers = n} step before need new) h =
    All-append HasSymbols k (moved n step ∷ []) (trimmed_symbols term r k n before (All-front HasSymbols r (step ∷ []) h))
    (All-cons HasSymbols (moved n step) [] (moved_symbols _ step (All-between HasSymbols r [] step h)) (All-nil HasSymbols))

-- ---- what is written

-- what the steps of a file replace are symbols
abbrev pub HaveSymbols : Type 0
HaveSymbols = (lines : List (List ℕ)) (steps : List Step) → FileSteps lines steps → All HasSymbols steps

module _ (written : RecordedIsWritten) (have : HaveSymbols) (says : SaysSteps) where
  symbols : (term : List ℕ) (steps : List Step) (rows : List Provable) (p : Provable) → Replays term steps rows p → All HasSymbols steps
  symbols term steps rows p r = have (file_lines term) steps r.says

  pub converted : (term text : List ℕ) (reply : Reply) → Converts term reply → reply.written ≡ Some text → IsConverted term text reply
  converted term text _ (bad_line n why v) is = absurd cc
  converted term text _ (writes_anew steps rows p a reply x) is = record {
    rows = rows;
    last = p;
    accepts = a.accepts;
    is_written = written steps rows p reply text (replay_takes says term steps rows p a) (symbols term steps rows p a)
        (record { before = a.accepts.before; rows_are = a.accepts.last }) x is;
  }

  module _ (row : (term lemma steps : List Step) (rows others after : List Provable) (p q : Provable) → Takes [] term rows → Takes [] lemma others →
      At rows (length rows) p → At others (length others) q → Linked term p.goals lemma q.conclusion steps → IsAmong q.conclusion p.goals →
      Takes [] steps after → (r : Provable) × At after (length after) r × Joined p q r) where
    pub joined : (model term lemma text : List ℕ) (reply : Reply) → Links model term lemma reply → reply.written ≡ Some text →
        IsJoined model term lemma text reply
    joined model term lemma text _ (refuses reply refused) is = absurd (refusal_writes model term text reply refused is)
    joined model term lemma text _ (bad_lemma steps rows p t n why v) is = absurd cc
    joined model term lemma text _ (links steps rows p t others more q u _ (no_goal none)) is = absurd cc
    joined model term lemma text _ (links steps rows p t others more q u _ (past_limit some l linked why f)) is = absurd cc
    joined model term lemma text _ (links steps rows p t others more q u reply (records some l linked _ (last, ends, x))) is =
        let shown =
        row steps others l rows more ends.rows p q (replay_takes says term steps rows p t.replays) (replay_takes says lemma others more q u)
        (replay_last term steps rows p t.replays) (replay_last lemma others more q u) linked some ends.takes in
        let same : shown.0 ≡ last = at_one ends.rows (length ends.rows) shown.0 last shown.1 ends.last in
        let known = linked_symbols steps others l p.goals q.conclusion linked (symbols term steps rows p t.replays) (symbols lemma others more q u) in
        record {
          steps = steps;
          rows = rows;
          main = p;
          takes = t;
          others = others;
          more = more;
          by = q;
          replays = u;
          after = ends.rows;
          last = last;
          joined = subst (Joined p q) same shown.2;
          is_written = written l ends.rows last reply text ends.takes known (last_is ends.rows last ends.last) x is;
        }

    pub joined_checks : (model term lemma text : List ℕ) (reply : Reply) → Links model term lemma reply → reply.written ≡ Some text →
        (length text ≤ limit_of Term) × Checks (Reported Text) model text (printing reply.status reply.printed)
    joined_checks model term lemma text reply is text_is =
        let j = joined model term lemma text reply is text_is in
        written_is_checked model text j.takes.formula j.takes.reads j.after j.last (j.joined.conclusion ∙ j.takes.shows) reply j.is_written

  module _ (shows_same : KeptShows)
      (unlike : (term kept : List Step) → Trimmed term kept → AreUnlike kept)
      (named : (term kept : List Step) (rows : List Provable) → Takes [] term rows → 1 ≤ length term → Trimmed term kept → AreNamed kept) where
    pub trimmed : (model term text : List ℕ) (reply : Reply) → TrimsTerm model term reply → reply.written ≡ Some text → IsTrimmed model term text reply
    trimmed model term text _ (refuses_term reply refused) is = absurd (refusal_writes model term text reply refused is)
    trimmed model term text _ (trims steps rows p t kept left reply (last, ends, x)) is =
        let takes = replay_takes says term steps rows p t.replays in
        let there = replay_last term steps rows p t.replays in
        let some = some_steps steps rows p takes (last_is rows p there) in
        let shown = shows_same steps kept rows takes some left in
        let again : EndsIn kept p = record { rows = shown.kept_rows; takes = shown.takes; last = shown.same p there } in
        let same : last ≡ p = one_ending kept last p ends again in
        let recorded : Records kept p reply = subst (λ (z : Provable). Records kept z reply) same x in
        let known = trimmed_symbols steps steps kept left.0 left.1 (symbols term steps rows p t.replays) in
        let few = shown.few in
        record {
          steps = steps;
          rows = rows;
          last = p;
          takes = t;
          kept = kept;
          records = recorded;
          few = omega (arith, few, taken_count steps rows takes);
          unlike = unlike steps kept left;
          named = named steps kept rows takes some left;
          kept_rows = shown.kept_rows;
          is_written = written kept shown.kept_rows p reply text shown.takes known (last_is shown.kept_rows p (shown.same p there)) recorded is;
        }

    pub trimmed_checks : (model term text : List ℕ) (reply : Reply) → TrimsTerm model term reply → reply.written ≡ Some text →
        (length text ≤ limit_of Term) × Checks (Reported Text) model text (printing reply.status reply.printed)
    trimmed_checks model term text reply is text_is =
        let t = trimmed model term text reply is text_is in
        written_is_checked model text t.takes.formula t.takes.reads t.kept_rows t.last t.takes.shows reply t.is_written
