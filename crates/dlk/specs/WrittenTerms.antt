-- What may be relied on of the terms that `convert`, `link` and `trim` write.
use Rattle.std.specs.Prelude.{◌≡◌, ◌↔◌, ◌<◌, ◌≤◌, ℕ, List, [], ◌∷◌, ◌++◌, length, Some}
use Rattle.dlk_calculus.specs.Provables.{Provable, HasLeaves}
use Rattle.dlk_calculus.specs.Steps.{Step, Derives}
use Rattle.dlk_link.specs.Linked.{Joined}
use Rattle.dlk_link.specs.Neat.{AreNamed, AreUnlike}
use Rattle.dlk_desk.specs.Outside.{Outside}
use Rattle.dlk_recorder.specs.Terms.{term_text}
use Rattle.dlk_report.specs.Reports.{text_report}
use Rattle.dlk_replies.specs.declared.command.Command.TheVariants.{Convert, Link, Trim}
use Rattle.dlk_replies.specs.declared.form.Role.TheVariants.{Term}
use Rattle.dlk_replies.specs.Forms.{Word, command_of, limit_of}
use Rattle.dlk_jobs_check.specs.Terms.{Accepts, Replays}
use Rattle.dlk.specs.Headline.{Writes, IsAccepted}

-- The term is accepted. What is written is the term file of its steps, and is accepted with the very same rows. The report is that of the last.
pub record IsConverted (term out : List ℕ) (status : ℕ) (said : List ℕ) : Type 0 where
  pub steps : List Step
  pub rows : List Provable
  pub proof : Provable
  pub of_term : Replays term steps rows proof
  pub of_out : Accepts out rows proof
  pub text : out ≡ term_text steps
  pub short : length out ≤ limit_of Term
  pub derived : Derives proof
  pub closed : (status ≡ 0) ↔ (proof.goals ≡ [])
  pub leaves : HasLeaves proof
  pub report : said ≡ text_report proof (length rows)

-- What `convert` writes stands for the same proof.
abbrev pub ConvertsTruly : List Word → ℕ → Outside → Outside → Type 0
ConvertsTruly words status old new =
    (term out said : List ℕ) → command_of words ≡ Some Convert → Writes words old new (term ∷ []) out → status < 2 →
    new.printed ≡ old.printed ++ said → IsConverted term out status said

-- The term and the lemma are accepted. What is written is accepted by `check`, with the same report and the same status, and shows what the term
-- shows, with the lemma in the place of each goal that is its conclusion.
pub record IsLinked (model term lemma out : List ℕ) (status : ℕ) (said : List ℕ) : Type 0 where
  pub accepted : IsAccepted model out status said
  pub rows : List Provable
  pub proof : Provable
  pub of_term : Accepts term rows proof
  pub lemma_rows : List Provable
  pub lemma_proof : Provable
  pub of_lemma : Accepts lemma lemma_rows lemma_proof
  pub linked_rows : List Provable
  pub linked : Provable
  pub of_out : Accepts out linked_rows linked
  pub joined : Joined proof lemma_proof linked

-- What `link` writes is accepted, and shows what the term shows with the lemma in place of the goals that it concludes.
abbrev pub LinksTruly : List Word → ℕ → Outside → Outside → Type 0
LinksTruly words status old new =
    (model term lemma out said : List ℕ) → command_of words ≡ Some Link → Writes words old new (model ∷ term ∷ lemma ∷ []) out → status < 2 →
    new.printed ≡ old.printed ++ said → IsLinked model term lemma out status said

-- The term is accepted. What is written is accepted by `check`, with the same report and the same status, and ends in the very same provable. It
-- is the term file of at most as many steps, of which each but the last is named by a later one, and no two are equal.
pub record IsTrimmed (model term out : List ℕ) (status : ℕ) (said : List ℕ) : Type 0 where
  pub accepted : IsAccepted model out status said
  pub steps : List Step
  pub rows : List Provable
  pub proof : Provable
  pub of_term : Replays term steps rows proof
  pub kept : List Step
  pub kept_rows : List Provable
  pub of_out : Accepts out kept_rows proof
  pub text : out ≡ term_text kept
  pub few : length kept ≤ length steps
  pub named : AreNamed kept
  pub unlike : AreUnlike kept

-- What `trim` writes is a term of the same proof, with no step that nothing needs.
abbrev pub TrimsTruly : List Word → ℕ → Outside → Outside → Type 0
TrimsTruly words status old new =
    (model term out said : List ℕ) → command_of words ≡ Some Trim → Writes words old new (model ∷ term ∷ []) out → status < 2 →
    new.printed ≡ old.printed ++ said → IsTrimmed model term out status said
