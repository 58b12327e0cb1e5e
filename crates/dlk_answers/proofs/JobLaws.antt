-- The laws of what each command answers, as the laws of all of them want them.
use Rattle.std.proofs.Common.{◌≡◌, ℕ, List}
use Rattle.dlk_replies.specs.declared.reply.Showing.{Showing}
use Rattle.dlk_replies.specs.Replies.{Reply}
use Rattle.dlk_jobs_text.specs.Prints.{Prints}
use Rattle.dlk_jobs_text.specs.Lists.{Lists}
use Rattle.dlk_jobs_text.specs.Substitutes.{Substitutes}
use Rattle.dlk_jobs_check.specs.Checks.{Checks}
use Rattle.dlk_jobs_check.specs.Guards.{Guards}
use Rattle.dlk_jobs_prove.specs.Proves.{Proves}
use Rattle.dlk_jobs_prove.specs.Generates.{Generates}
use Rattle.dlk_jobs_terms.specs.Converts.{Converts}
use Rattle.dlk_jobs_terms.specs.Links.{Links}
use Rattle.dlk_jobs_terms.specs.Trims.{Trims}
use Rattle.dlk_jobs_session.specs.Sessions.{Sessions}

-- there is one answer
abbrev pub One : (Reply → Type 0) → Type 0
One Answers = (r s : Reply) → Answers r → Answers s → r ≡ s

pub record OneEach : Type 0 where
  pub prints : (file : List ℕ) → One (Prints file)
  pub lists : (file : List ℕ) → One (Lists file)
  pub substitutes : (file substitution : List ℕ) → One (Substitutes file substitution)
  pub checks : (showing : Showing) (model term : List ℕ) → One (Checks showing model term)
  pub guards : (model term : List ℕ) → One (Guards model term)
  pub proves : (model strategy : List ℕ) → One (Proves model strategy)
  pub generates : (n : ℕ) → One (Generates n)
  pub converts : (term : List ℕ) → One (Converts term)
  pub links : (model term lemma : List ℕ) → One (Links model term lemma)
  pub trims : (model term : List ℕ) → One (Trims model term)
  pub sessions : (model script : List ℕ) → One (Sessions model script)

-- there is some answer
pub record SomeEach : Type 0 where
  pub prints : (file : List ℕ) → (reply : Reply) × Prints file reply
  pub lists : (file : List ℕ) → (reply : Reply) × Lists file reply
  pub substitutes : (file substitution : List ℕ) → (reply : Reply) × Substitutes file substitution reply
  pub checks : (showing : Showing) (model term : List ℕ) → (reply : Reply) × Checks showing model term reply
  pub guards : (model term : List ℕ) → (reply : Reply) × Guards model term reply
  pub proves : (model strategy : List ℕ) → (reply : Reply) × Proves model strategy reply
  pub generates : (n : ℕ) → (reply : Reply) × Generates n reply
  pub converts : (term : List ℕ) → (reply : Reply) × Converts term reply
  pub links : (model term lemma : List ℕ) → (reply : Reply) × Links model term lemma reply
  pub trims : (model term : List ℕ) → (reply : Reply) × Trims model term reply
  pub sessions : (model script : List ℕ) → (reply : Reply) × Sessions model script reply
