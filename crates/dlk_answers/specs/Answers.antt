-- What the program answers to its words and to the texts of its inputs.
use Rattle.std.specs.Prelude.{◌≡◌, ℕ, List, [], ◌∷◌, ◌++◌, Some, None, codes}
use Rattle.dlk_replies.specs.declared.command.Command.{Command}
use Rattle.dlk_replies.specs.declared.command.Command.TheVariants.{Check, Print, Vars, Subst, Report, Smt, Guard, Prove, Gen, Convert, Link, Trim, Session}
use Rattle.dlk_replies.specs.declared.reply.Layout.TheVariants.{Text, Json}
use Rattle.dlk_replies.specs.declared.reply.Showing.TheVariants.{Reported, Exported}
use Rattle.dlk_replies.specs.Forms.{Word, inputs_of, others_of, limits_of}
use Rattle.dlk_replies.specs.Inputs.{first_too_long}
use Rattle.dlk_replies.specs.Replies.{Reply, refusal}
use Rattle.dlk_jobs_check.specs.Checks.{Checks}
use Rattle.dlk_jobs_check.specs.Guards.{Guards}
use Rattle.dlk_jobs_text.specs.Prints.{Prints}
use Rattle.dlk_jobs_text.specs.Lists.{Lists}
use Rattle.dlk_jobs_text.specs.Substitutes.{Substitutes}
use Rattle.dlk_jobs_prove.specs.Proves.{Proves}
use Rattle.dlk_jobs_prove.specs.Generates.{Generates}
use Rattle.dlk_jobs_terms.specs.Converts.{Converts}
use Rattle.dlk_jobs_terms.specs.Links.{Links}
use Rattle.dlk_jobs_terms.specs.Trims.{Trims}
use Rattle.dlk_jobs_session.specs.Sessions.{Sessions}
use Rattle.dlk_grammar.specs.Tokens.{value}

abbrev pub too_long : Word → Reply
too_long name = refusal (codes "too-long " ++ name)

-- Does command others texts reply: what a command answers to the words behind its inputs and to the inputs' texts, each within its limit.
-- One row a command. That there is a reply to words and texts of its form is a law, so a row that is forgotten here is found.
abbrev pub Does : Command → List Word → List (List ℕ) → Reply → Type 0
Does Check [] (model ∷ term ∷ []) reply = Checks (Reported Text) model term reply
Does Print [] (file ∷ []) reply = Prints file reply
Does Vars [] (file ∷ []) reply = Lists file reply
Does Subst [] (file ∷ substitution ∷ []) reply = Substitutes file substitution reply
Does Report [] (model ∷ term ∷ []) reply = Checks (Reported Json) model term reply
Does Smt [] (model ∷ term ∷ []) reply = Checks Exported model term reply
Does Guard [] (model ∷ term ∷ []) reply = Guards model term reply
-- the word behind the inputs is the name of the term's file
Does Prove (term ∷ []) (model ∷ strategy ∷ []) reply = Proves model strategy reply
-- the word behind no inputs is the number
Does Gen (word ∷ []) [] reply = Generates (value word) reply
-- the word behind the inputs is the name of the file that is written
Does Convert (out ∷ []) (term ∷ []) reply = Converts term reply
Does Link (out ∷ []) (model ∷ term ∷ lemma ∷ []) reply = Links model term lemma reply
Does Trim (out ∷ []) (model ∷ term ∷ []) reply = Trims model term reply
Does Session (term ∷ []) (model ∷ script ∷ []) reply = Sessions model script reply
Does _ _ _ reply = ⊥

-- what a command answers to its words and its inputs' texts
pub data Responds (command : Command) (words : List Word) (texts : List (List ℕ)) : Reply → Type 0 where
  -- the first input that is longer than its limit
  refuses : (name : Word) → first_too_long (inputs_of command words) (limits_of command) texts ≡ Some name → Responds command words texts (too_long name)
  does : first_too_long (inputs_of command words) (limits_of command) texts ≡ None → (reply : Reply) → Does command (others_of command words) texts reply →
      Responds command words texts reply
