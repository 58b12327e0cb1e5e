-- Lines that are played, one behind another, and what they answer.
use Rattle.std.proofs.Common.{◌≡◌, ℕ, ◌+◌, ◌<◌, List, [], ◌∷◌, ◌++◌, length, take, map, get_or, Result, Ok, Err, sym, ap, subst, ◌∙◌, append_assoc}
use Rattle.std.specs.Prelude.{OnOk, IfErr, Option, Some, None, IfNone}
use Rattle.std.proofs.lemmas.List.{append-nil, take_more, map-append}
use Rattle.dlk_replies.specs.declared.fault.NoReply.{NoReply}
use Rattle.dlk_lines.specs.declared.fault.LineFault.{LineFault}
use Rattle.dlk_lines.specs.declared.fault.LineFault.TheVariants.{Malformed, Memory}
use Rattle.dlk_lines.specs.Read.{IsLineFaultOf}
use Rattle.dlk_session.specs.declared.reply.Reply.{Reply}
use Rattle.dlk_session.specs.declared.reply.Reply.TheVariants.{Saved}
use Rattle.dlk_session.specs.Sessions.{State, Line, Save, Answer, Replies, Turn, saves, Turns, none, more, saving}
use Rattle.dlk_strategy.specs.Runs.{RunsOn}
use Rattle.dlk_jobs_session.specs.Sessions.{answer_text, answers_text}

-- ---- results

pub on_ok : {T : Type 0} (r : Result T NoReply) (P Q : Type 0) → (P → Q) → OnOk r P → OnOk r Q
on_ok (Ok x) P Q f h = f h
on_ok (Err e) P Q f h = tt

pub if_err : {T : Type 0} (r : Result T LineFault) (P Q : Type 0) → (P → Q) → IfErr r (IsLineFaultOf P) → IfErr r (IsLineFaultOf Q)
if_err (Ok x) P Q f h = tt
if_err (Err Malformed) P Q f h = f h
if_err (Err Memory) P Q f h = tt

pub if_none : {T : Type 0} (o : Option T) (P Q : Type 0) → (P → Q) → IfNone o P → IfNone o Q
if_none None P Q f h = f h
if_none (Some x) P Q f h = tt

-- ---- lines

pub turn_saved : (now next : State) (says : Reply) → says ≡ Saved (length now.steps) → next ≡ saving now → Turn RunsOn now Save (Replies says) next
turn_saved now next says is saved =
    subst (λ (s : State). Turn RunsOn now Save (Replies says) s) (sym saved)
    (subst (λ (r : Reply). Turn RunsOn now Save (Replies r) (saving now)) (sym is) saves)

turns_more : (now mid next : State) (lines : List Line) (answers : List Answer) (line : Line) (answer : Answer) → Turns RunsOn now lines answers mid →
    Turn RunsOn mid line answer next → Turns RunsOn now (lines ++ line ∷ []) (answers ++ answer ∷ []) next
turns_more now _ next _ _ line answer none turn = more turn none
turns_more now mid next _ _ line answer (more {next = first} {lines} {answers} here rest) turn =
    more here (turns_more first mid next lines answers line answer rest turn)

text_more : (answers : List Answer) (answer : Answer) → answers_text (answers ++ answer ∷ []) ≡ answers_text answers ++ answer_text answer
text_more [] answer = append-nil (answer_text answer)
text_more (first ∷ answers) answer =
    ap (λ xs. answer_text first ++ xs) (text_more answers answer) ∙ sym (append_assoc (answer_text first) (answers_text answers) (answer_text answer))

-- so many lines are played, and what they answer is printed
pub record Played (first now : State) (lines : List Line) (out : List ℕ) : Type 0 where
  pub answers : List Answer
  pub turns : Turns RunsOn first lines answers now
  pub out_is : out ≡ answers_text answers

pub none_played : (first : State) (out : List ℕ) → out ≡ [] → Played first first [] out
none_played first out is = record { answers = []; turns = none; out_is = is }

pub more_played : (first mid next : State) (lines : List Line) (line : Line) (answer : Answer) (out more_out : List ℕ) → Played first mid lines out →
    Turn RunsOn mid line answer next → more_out ≡ out ++ answer_text answer → Played first next (lines ++ line ∷ []) more_out
more_played first mid next lines line answer out more_out p turn is = record {
  answers = p.answers ++ answer ∷ [];
  turns = turns_more first mid next lines p.answers line answer p.turns turn;
  out_is = is ∙ ap (λ xs. xs ++ answer_text answer) p.out_is ∙ sym (text_more p.answers answer);
}

-- one more of the items
pub mapped_more : {A B : Type 0} (f : A → B) (items : List A) (i : ℕ) (item : A) → i < length items → item ≡ get_or items i item →
    map f (take (i + 1) items) ≡ map f (take i items) ++ f item ∷ []
mapped_more f items i item less is =
    ap (map f) (take_more items i item less ∙ ap (λ x. take i items ++ x ∷ []) (sym is)) ∙ map-append f (take i items) (item ∷ [])
