-- What may be relied on of sessions.
use Rattle.std.specs.Prelude.{◌≡◌, ◌↔◌, ◌<◌, ℕ, List, [], ◌∷◌, ◌++◌, Option, Some, None}
use Rattle.dlk_calculus.specs.Steps.{Step}
use Rattle.dlk_desk.specs.Outside.{Outside, SameFiles}
use Rattle.dlk_elab.specs.Outcomes.{main_goals}
use Rattle.dlk_recorder.specs.Terms.{term_text}
use Rattle.dlk_replies.specs.declared.command.Command.TheVariants.{Session}
use Rattle.dlk_replies.specs.Forms.{Word, command_of}
use Rattle.dlk_replies.specs.Inputs.{inputs, output}
use Rattle.dlk_session.specs.Sessions.{State, Answer}
use Rattle.dlk_jobs_session.specs.Sessions.{Plays, answers_text}
use Rattle.dlk.specs.Answers.{bytes_of}
use Rattle.dlk.specs.Headline.{IsAccepted}

-- The file holds the term file of these steps, and `check` accepts it.
pub record IsSaved (model : List ℕ) (steps : List Step) (file : Option (List ℕ)) : Type 0 where
  pub written : file ≡ Some (term_text steps)
  pub status : ℕ
  pub report : List ℕ
  pub accepted : IsAccepted model (term_text steps) status report
  pub is_proof : status < 2

-- The texts are a formula and the lines of a script, and what is printed are the answers to these lines in turn. The status tells whether no goals
-- are left in the end. What is saved is written, and where nothing is, no file has changed.
pub record IsSession (words : List Word) (old new : Outside) (model script : List ℕ) (status : ℕ) (said : List ℕ) : Type 0 where
  pub answers : List Answer
  pub last : State
  pub plays : Plays model script answers last
  pub printed : said ≡ answers_text answers
  pub closed : (status ≡ 0) ↔ (main_goals last.rows ≡ [])
  pub saved : (steps : List Step) (name : Word) → last.saved ≡ Some steps → output words ≡ Some name → IsSaved model steps (new.files name)
  pub unsaved : last.saved ≡ None → SameFiles old.files new.files

-- What `session` prints are the answers of a session, and `check` accepts what it saves.
abbrev pub SessionsTruly : List Word → ℕ → Outside → Outside → Type 0
SessionsTruly words status old new =
    (model script said : List ℕ) → command_of words ≡ Some Session → bytes_of old.files (inputs words) ≡ Some (model ∷ script ∷ []) → status < 2 →
    new.printed ≡ old.printed ++ said → IsSession words old new model script status said
