-- Where `closed` is printed, the model is derived from the printed leaves.
use Rattle.std.proofs.Common.{◌≡◌, ◌⊎◌, ℕ, zero, suc, List, [], ◌∷◌, ◌++◌, length, take, get_or, Option, None, Some, option_map, codes, refl, sym, ap}
use Rattle.std.proofs.Common.{subst, ◌∙◌, append-nil, arith, inl, inr}
use Rattle.std.specs.Prelude.{option_and_then}
use Rattle.std.proofs.lemmas.List.{append_cancel_left, take_all}
use Rattle.dlk_calculus.specs.Sequents.{Sequent}
use Rattle.dlk_calculus.specs.Provables.{Provable}
use Rattle.dlk_calculus.specs.Steps.{History, Derives}
use Rattle.dlk_calculus.proofs.PlaceLaws.{All-between}
use Rattle.dlk_calculus.proofs.Histories.{History-derives}
use Rattle.dlk_calculus.proofs.Leaves.{Derives-leaves}
use Rattle.dlk_desk.specs.Outside.{Outside, Files, SameFiles}
use Rattle.dlk_replay.specs.Files.{file_lines}
use Rattle.dlk_replay.proofs.Verdicts.{accepted_history}
use Rattle.dlk_print.specs.Lines.{line}
use Rattle.dlk_report.specs.Reports.{is_closed, first_word, text_report}
use Rattle.dlk_replies.specs.declared.command.Command.{Command}
use Rattle.dlk_replies.specs.declared.command.Command.TheVariants.{Check, Print, Vars, Subst, Report, Smt, Guard, Prove, Gen, Convert, Link, Trim, Session}
use Rattle.dlk_replies.specs.declared.reply.Layout.TheVariants.{Text}
use Rattle.dlk_replies.specs.declared.reply.Showing.TheVariants.{Reported}
use Rattle.dlk_replies.specs.Forms.{Word, command_of, inputs_of, others_of}
use Rattle.dlk_replies.specs.Inputs.{inputs, inputs_of_form}
use Rattle.dlk_replies.specs.Replies.{Reply, code_of, printing}
use Rattle.dlk_jobs_check.specs.Terms.{Accepts}
use Rattle.dlk_jobs_check.specs.Checks.{Checks, refuses as refuses_term, reports, reported, status_of}
use Rattle.dlk_answers.specs.Answers.{Does}
use Rattle.dlk.specs.Answers.{bytes_of, Answers, no_form, command}
use Rattle.dlk.specs.Outputs.{after}
use Rattle.dlk.specs.Runs.{output_to, GivesWhole, BreaksOff}
use Rattle.dlk.specs.Headline.{Reports, check, prove, link, trim, IsGiven, all, front, IsClosed, DerivedTruly, WritesTerm, SpeaksOf, IsDerived, ClosedTruly}
use Rattle.dlk.proofs.Refusals.{IsRefusal, term_refusal}
use Rattle.dlk.proofs.Done.{response, refused_or_done}
use Rattle.dlk.proofs.Writing.{EachIsChecked, WritesChecked, file_holds, proved_writes, linked_writes, trimmed_writes, refused_or_written}

-- a front that begins with d begins with the first of all
first_is : (n c d : ℕ) (xs ys : List ℕ) → take n (c ∷ xs) ≡ d ∷ ys → c ≡ d
first_is zero c d xs ys h = absurd (cc)
first_is (suc n) c d xs ys h = cc

-- `refused` begins otherwise than `closed`
not_refused : (n : ℕ) (printed ys : List ℕ) → get_or printed 0 0 ≡ 114 → take n printed ≡ 99 ∷ ys → ⊥
not_refused zero printed ys begins h = absurd cc
not_refused (suc n) [] ys begins h = absurd cc
not_refused (suc n) (c ∷ xs) ys begins h = omega (arith, begins, first_is (suc n) c 99 xs ys h)

not_open : (n : ℕ) (xs ys : List ℕ) → take n (111 ∷ xs) ≡ 99 ∷ ys → ⊥
not_open n xs ys h = omega (arith, first_is n 111 99 xs ys h)

closed_front : (goals : List Sequent) (others said : List ℕ) (n : ℕ) → take n (line (first_word (is_closed goals)) ++ others) ≡ codes "closed" ++ said →
    goals ≡ []
closed_front [] others said n h = refl
closed_front (goal ∷ goals) others said n h = absurd (not_open n _ _ h)

-- what is accepted ends in a derived provable
pub accepted_derived : (term : List ℕ) (rows : List Provable) (p : Provable) → Accepts term rows p → Derives p
accepted_derived term rows p a =
    All-between Derives a.before [] p (History-derives (a.before ++ p ∷ []) (subst History a.last (accepted_history (file_lines term) rows a.line a.verdict)))

-- how a reply was given: whole with its own status, or a front of it with status 5
pub data Given (reply : Reply) (status : ℕ) (said : List ℕ) : Type 0 where
  whole : status ≡ code_of reply.status → said ≡ reply.printed → Given reply status said
  broken_off : status ≡ 5 → (n : ℕ) → said ≡ take n reply.printed → Given reply status said

front_of : (reply : Reply) (status : ℕ) (said : List ℕ) → Given reply status said → (n : ℕ) × (take n reply.printed ≡ said)
front_of reply status said (whole s e) = (length reply.printed, take_all (length reply.printed) reply.printed (omega arith) ∙ sym e)
front_of reply status said (broken_off s n e) = (n, sym e)

report_given : (p : Provable) (lines status : ℕ) (said : List ℕ) → p.goals ≡ [] → Given (reported Text p lines) status said →
    IsGiven (text_report p lines) status said
report_given p lines status said closed (whole s e) =
    let zero_is : status ≡ 0 = s ∙ ap (λ (goals : List Sequent). code_of (status_of (is_closed goals))) closed in
    subst (λ (n : ℕ). IsGiven (text_report p lines) n said) (sym zero_is) (subst (λ (bytes : List ℕ). IsGiven (text_report p lines) 0 bytes) (sym e) all)
report_given p lines status said closed (broken_off s n e) =
    subst (λ (k : ℕ). IsGiven (text_report p lines) k said) (sym s) (subst (λ (bytes : List ℕ). IsGiven (text_report p lines) 5 bytes) (sym e) (front n))

-- what is printed of a reply doesn't show what it writes
printed_given : {status : ℕ} {said : List ℕ} (reply : Reply) → Given reply status said → Given (printing reply.status reply.printed) status said
printed_given reply (whole s e) = whole s e
printed_given reply (broken_off s n e) = broken_off s n e

module _ (checked : EachIsChecked) (model term said : List ℕ) (status : ℕ) where
  abbrev Says : Reply → ℕ → Type 0
  Says reply n = take n reply.printed ≡ codes "closed" ++ said

  abbrev ByTerm : Type 0
  ByTerm = IsDerived model term status (codes "closed" ++ said)

  pub refused_says : (reply : Reply) → IsRefusal reply → (n : ℕ) → Says reply n → ⊥
  refused_says reply refusal n h = not_refused n reply.printed _ refusal.begins h

  pub check_truly : (reply : Reply) → Checks (Reported Text) model term reply → (n : ℕ) → Says reply n → Given reply status (codes "closed" ++ said) → ByTerm
  check_truly reply (refuses_term r refused) n h given = absurd (refused_says r (term_refusal model term r refused) n h)
  check_truly reply (reports steps rows p t) n h given =
      let a = t.replays.accepts in
      let derives = accepted_derived term rows p a in
      let closed = closed_front p.goals _ said n h in
      record {
        shown = record {
          formula = t.formula;
          reads = t.reads;
          proof = p;
          derived = derives;
          conclusion = t.shows;
          closed = closed;
          leaves = Derives-leaves p derives;
          lines = length rows;
          report = report_given p (length rows) status (codes "closed" ++ said) closed given;
        };
        rows = rows;
        accepts = a;
        count = refl;
      }

  does_check : (others : List Word) (reply : Reply) → Does Check others (model ∷ term ∷ []) reply → Checks (Reported Text) model term reply
  does_check [] reply checks = checks
  does_check (w ∷ ws) reply checks = absurd checks

  -- the words have `check` and these files
  answer_truly : (words : List Word) (old : Outside) (reply : Reply) → Answers words old.files reply → command_of words ≡ Some Check →
      bytes_of old.files (inputs words) ≡ Some (model ∷ term ∷ []) → Given reply status (codes "closed" ++ said) → ByTerm
  answer_truly words old reply answers form there given =
      let shown = front_of reply status (codes "closed" ++ said) given in
      elim (refused_or_done Check words (model ∷ term ∷ []) reply (response words old.files Check (model ∷ term ∷ []) reply answers form there)) [
        | inl refusal ↦ absurd (refused_says reply refusal shown.0 shown.1)
        | inr job ↦ check_truly reply (does_check (others_of Check words) reply job) shown.0 shown.1 given
      ]

  -- the words have a command that has written the term
  wrote_truly : (c : Command) → ((others : List Word) (texts : List (List ℕ)) (reply : Reply) → Does c others (model ∷ texts) reply →
      WritesChecked model reply) →
      (words : List Word) (old new : Outside) (reply : Reply) → Answers words old.files reply → command_of words ≡ Some c →
      WritesTerm words old new model term →
      SameFiles (after (output_to words reply) old.files) new.files → Given reply status (codes "closed" ++ said) → ByTerm
  wrote_truly c each words old new reply answers form (texts, there) files given =
      let shown = front_of reply status (codes "closed" ++ said) given in
      elim (refused_or_written c model each words old.files texts reply answers form there.texts_are) [
        | inl refusal ↦ absurd (refused_says reply refusal shown.0 shown.1)
        | inr w ↦ let same = file_holds words old.files new.files reply there.name w.term term there.named w.written files there.written in
            let checks = subst (λ (l : List ℕ). Checks (Reported Text) model l (printing reply.status reply.printed)) same w.checks in
            check_truly (printing reply.status reply.printed) checks shown.0 shown.1 (printed_given reply given)
      ]

  pub speaks_truly : (words : List Word) (old new : Outside) (reply : Reply) (c : Command) → Answers words old.files reply → command_of words ≡ Some c →
      SpeaksOf c words old new model term →
      SameFiles (after (output_to words reply) old.files) new.files → Given reply status (codes "closed" ++ said) → ByTerm
  speaks_truly words old new reply Check answers form there files given = answer_truly words old reply answers form there given
  speaks_truly words old new reply Print answers form there files given = absurd there
  speaks_truly words old new reply Vars answers form there files given = absurd there
  speaks_truly words old new reply Subst answers form there files given = absurd there
  speaks_truly words old new reply Report answers form there files given = absurd there
  speaks_truly words old new reply Smt answers form there files given = absurd there
  speaks_truly words old new reply Guard answers form there files given = absurd there
  speaks_truly words old new reply Prove answers form there files given =
      wrote_truly Prove (proved_writes checked model) words old new reply answers form there files given
  speaks_truly words old new reply Gen answers form there files given = absurd there
  speaks_truly words old new reply Convert answers form there files given = absurd there
  speaks_truly words old new reply Link answers form there files given =
      wrote_truly Link (linked_writes checked model) words old new reply answers form there files given
  speaks_truly words old new reply Trim answers form there files given =
      wrote_truly Trim (trimmed_writes checked model) words old new reply answers form there files given
  speaks_truly words old new reply Session answers form there files given = absurd there

-- the texts of the inputs of an answer, of which the first is this model
joined : (first : Option (List ℕ)) (rest : Option (List (List ℕ))) (found : List (List ℕ)) (model : List ℕ) → first ≡ Some model →
    option_and_then (λ (bytes : List ℕ). option_map (λ (others : List (List ℕ)). bytes ∷ others) rest) first ≡ Some found →
    (texts : List (List ℕ)) × (found ≡ model ∷ texts)
joined None rest found model is e = absurd cc
joined (Some bytes) None found model is e = let none : None ≡ Some found = e in absurd cc
joined (Some bytes) (Some others) found model is e = let all : Some (bytes ∷ others) ≡ Some found = e in (others, cc)

texts_behind : (words : List Word) (files : Files) (c : Command) (reply : Reply) (name : Word) (names : List Word) (model : List ℕ) →
    Answers words files reply → command_of words ≡ Some c → inputs words ≡ name ∷ names → files name ≡ Some model →
    (texts : List (List ℕ)) × (bytes_of files (inputs words) ≡ Some (model ∷ texts))
texts_behind words files c _ name names model (no_form none) form named there = let e : None ≡ Some c = sym none ∙ form in absurd cc
texts_behind words files c _ name names model (command d is found has r responds) form named there =
    let inputs_are : inputs words ≡ inputs_of d words = ap (λ o. inputs_of_form o words) is in
    let here : bytes_of files (name ∷ names) ≡ Some found = ap (bytes_of files) (sym named ∙ inputs_are) ∙ has in
    let found_is = joined (files name) (bytes_of files names) found model there here in
    (found_is.0, ap (bytes_of files) named ∙ here ∙ ap Some found_is.1)

-- a term that a command has read or written, and to which `check` answers what was printed
abbrev ChecksSome : List ℕ → Reply → Type 0
ChecksSome model reply = (term : List ℕ) × Checks (Reported Text) model term (printing reply.status reply.printed)

abbrev ShowsSome : Command → List ℕ → Type 0
ShowsSome c model =
    (others : List Word) (texts : List (List ℕ)) (reply : Reply) → Does c others (model ∷ texts) reply → IsRefusal reply ⊎ ChecksSome model reply

printing_itself : (model term : List ℕ) (reply : Reply) → Checks (Reported Text) model term reply → IsRefusal reply ⊎ ChecksSome model reply
printing_itself model term reply (refuses_term r refused) = inl (term_refusal model term r refused)
printing_itself model term _ (reports steps rows p t) = inr (term, reports steps rows p t)

check_shows : (model : List ℕ) → ShowsSome Check model
check_shows model [] (term ∷ []) reply checks = printing_itself model term reply checks
check_shows model _ _ reply checks = absurd checks

written_shows : (model : List ℕ) (reply : Reply) → WritesChecked model reply → IsRefusal reply ⊎ ChecksSome model reply
written_shows model reply (inl refusal) = inl refusal
written_shows model reply (inr w) = inr (w.term, w.checks)

module _ (checked : EachIsChecked) (name : Word) (model said : List ℕ) (status : ℕ) where
  shows_closed : (c : Command) → ShowsSome c model → (words : List Word) (files : Files) (reply : Reply) (names : List Word) → Answers words files reply →
      command_of words ≡ Some c → inputs words ≡ name ∷ names → files name ≡ Some model → Given reply status (codes "closed" ++ said) →
      IsClosed model status (codes "closed" ++ said)
  shows_closed c each words files reply names answers form named there given =
      let shown = front_of reply status (codes "closed" ++ said) given in
      let texts = texts_behind words files c reply name names model answers form named there in
      elim (refused_or_done c words (model ∷ texts.0) reply (response words files c (model ∷ texts.0) reply answers form texts.1)) [
        | inl refusal ↦ absurd (refused_says checked model [] said status reply refusal shown.0 shown.1)
        | inr job ↦ elim (each (others_of c words) texts.0 reply job) [
          | inl refusal ↦ absurd (refused_says checked model [] said status reply refusal shown.0 shown.1)
          | inr some ↦
              (check_truly checked model some.0 said status (printing reply.status reply.printed) some.1 shown.0 shown.1 (printed_given reply given)).shown
        ]
      ]

  pub reports_closed : (words : List Word) (files : Files) (reply : Reply) → Answers words files reply → Reports name words → files name ≡ Some model →
      Given reply status (codes "closed" ++ said) → IsClosed model status (codes "closed" ++ said)
  reports_closed _ files reply answers (check term) there given =
      shows_closed Check (check_shows model) (codes "check" ∷ name ∷ term ∷ []) files reply (term ∷ []) answers refl refl there given
  reports_closed _ files reply answers (prove strategy term) there given =
      shows_closed Prove (λ others texts r job. written_shows model r (proved_writes checked model others texts r job))
      (codes "prove" ∷ name ∷ strategy ∷ term ∷ [])
      files reply (strategy ∷ []) answers refl refl there given
  reports_closed _ files reply answers (link term lemma out) there given =
      shows_closed Link (λ others texts r job. written_shows model r (linked_writes checked model others texts r job))
      (codes "link" ∷ name ∷ term ∷ lemma ∷ out ∷ [])
      files reply (term ∷ lemma ∷ []) answers refl refl there given
  reports_closed _ files reply answers (trim term out) there given =
      shows_closed Trim (λ others texts r job. written_shows model r (trimmed_writes checked model others texts r job))
      (codes "trim" ∷ name ∷ term ∷ out ∷ [])
      files reply (term ∷ []) answers refl refl there given

-- `closed` was printed where something was
silent_not : (old new said : List ℕ) → new ≡ old → new ≡ old ++ (codes "closed" ++ said) → ⊥
silent_not old new said same says =
    let none : [] ≡ codes "closed" ++ said = append_cancel_left old [] (codes "closed" ++ said) (append-nil old ∙ sym same ∙ says) in
    absurd (cc)

-- a reply that was given whole, and one that was broken off
pub whole_truly : EachIsChecked → (words : List Word) (status : ℕ) (old new : Outside) (reply : Reply) → GivesWhole words status old new reply →
    ClosedTruly words status old new
whole_truly checked words status old new reply gives c model term said form there says =
    let same : codes "closed" ++ said ≡ reply.printed = append_cancel_left old.printed (codes "closed" ++ said) reply.printed (sym says ∙ gives.printed) in
    speaks_truly checked model term said status words old new reply c gives.answer form there gives.files (whole gives.status_is same)

pub front_truly : EachIsChecked → (words : List Word) (old new : Outside) (reply : Reply) → BreaksOff words old new reply → ClosedTruly words 5 old new
front_truly checked words old new reply breaks c model term said form there says = elim breaks.file_first [
  | inl files ↦
      let same : codes "closed" ++ said ≡ take breaks.printed.0 reply.printed =
      append_cancel_left old.printed (codes "closed" ++ said) (take breaks.printed.0 reply.printed) (sym says ∙ breaks.printed.1) in
      speaks_truly checked model term said 5 words old new reply c breaks.answer form there files (broken_off refl breaks.printed.0 same)
  | inr none ↦ absurd (silent_not old.printed new.printed said none says)
]

-- where nothing was printed, `closed` was not
pub silent_truly : (words : List Word) (status : ℕ) (old new : Outside) → new.printed ≡ old.printed → ClosedTruly words status old new
silent_truly words status old new same c model term said form there says = absurd (silent_not old.printed new.printed said same says)

-- the same of what `closed` says whatever the term
pub whole_derives : EachIsChecked → (words : List Word) (status : ℕ) (old new : Outside) (reply : Reply) → GivesWhole words status old new reply →
    DerivedTruly words status old new
whole_derives checked words status old new reply gives name model said runs there says =
    let same : codes "closed" ++ said ≡ reply.printed = append_cancel_left old.printed (codes "closed" ++ said) reply.printed (sym says ∙ gives.printed) in
    reports_closed checked name model said status words old.files reply gives.answer runs there (whole gives.status_is same)

pub front_derives : EachIsChecked → (words : List Word) (old new : Outside) (reply : Reply) → BreaksOff words old new reply → DerivedTruly words 5 old new
front_derives checked words old new reply breaks name model said runs there says =
    let same : codes "closed" ++ said ≡ take breaks.printed.0 reply.printed =
    append_cancel_left old.printed (codes "closed" ++ said) (take breaks.printed.0 reply.printed) (sym says ∙ breaks.printed.1) in
    reports_closed checked name model said 5 words old.files reply breaks.answer runs there (broken_off refl breaks.printed.0 same)

pub silent_derives : (words : List Word) (status : ℕ) (old new : Outside) → new.printed ≡ old.printed → DerivedTruly words status old new
silent_derives words status old new same name model said runs there says = absurd (silent_not old.printed new.printed said same says)
