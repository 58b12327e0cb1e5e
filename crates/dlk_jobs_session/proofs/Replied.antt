-- From the lines that were played to what is answered.
use Rattle.std.proofs.Common.{◌≡◌, ℕ, List, Option, refl, sym, subst}
use Rattle.dlk_tree.specs.Trees.{Tree}
use Rattle.dlk_calculus.specs.Steps.{Step}
use Rattle.dlk_session.specs.Sessions.{State, Begins, Line, Answer, Turns}
use Rattle.dlk_strategy.specs.Runs.{RunsOn}
use Rattle.dlk_replies.specs.Replies.{Reply}
use Rattle.dlk_jobs_check.specs.Terms.{ModelText}
use Rattle.dlk_jobs_session.specs.Scripts.{Script}
use Rattle.dlk_jobs_session.specs.Sessions.{Plays, played, Sessions, too_long, keeps_none, writes}
use Rattle.dlk_jobs_session.specs.Written.{IsFileOf, no_file, file, IsTooLong}

pub plays_so : (model script : List ℕ) (f g : Tree) (lines others : List Line) (first last : State) (answers : List Answer) → ModelText model f →
    Script script lines → Begins g first → g ≡ f → Turns RunsOn first others answers last → others ≡ lines → Plays model script answers last
plays_so model script f g lines others first last answers reads says begins same turns are = record {
  formula = f;
  reads = reads;
  lines = lines;
  says = says;
  first = first;
  begins = subst (λ (h : Tree). Begins h first) same begins;
  turns = subst (λ (ls : List Line). Turns RunsOn first ls answers last) are turns;
}

by_file : (model script : List ℕ) (answers : List Answer) (last : State) → Plays model script answers last →
    (saved : Option (List Step)) (text : Option (List ℕ)) →
    last.saved ≡ saved → IsFileOf saved text → Sessions model script (played answers last text)
by_file model script answers last plays _ _ e no_file = keeps_none answers last plays e
by_file model script answers last plays _ _ e (file {steps} short) = writes answers last plays steps e short

pub replied : (model script : List ℕ) (answers : List Answer) (last : State) (text : Option (List ℕ)) (reply : Reply) → Plays model script answers last →
    IsFileOf last.saved text → reply ≡ played answers last text → Sessions model script reply
replied model script answers last text reply plays is e =
    subst (Sessions model script) (sym e) (by_file model script answers last plays last.saved text refl is)

pub too_long_replied : (model script : List ℕ) (answers : List Answer) (last : State) (reply : Reply) → Plays model script answers last →
    IsTooLong last.saved reply → Sessions model script reply
too_long_replied model script answers last reply plays h =
    subst (Sessions model script) (sym h.reply_is) (too_long answers last plays h.steps h.saved_is h.long)
