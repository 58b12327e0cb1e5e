-- What a command has written of a model is accepted by `check`.
use Rattle.std.proofs.Common.{◌≡◌, ◌<◌, ◌++◌, ℕ, List, [], ◌∷◌, Some, refl, sym, subst, ◌∙◌, inl, inr, arith}
use Rattle.std.proofs.lemmas.List.{append_cancel_left}
use Rattle.dlk_desk.specs.Outside.{Outside}
use Rattle.dlk_replies.specs.declared.command.Command.{Command}
use Rattle.dlk_replies.specs.declared.command.Command.TheVariants.{Prove}
use Rattle.dlk_replies.specs.declared.form.Role.{Role}
use Rattle.dlk_replies.specs.declared.form.Role.TheVariants.{Strategy}
use Rattle.dlk_replies.specs.Forms.{Word, command_of}
use Rattle.dlk_replies.specs.Replies.{Reply, code_of, printing}
use Rattle.dlk_answers.specs.Answers.{Does}
use Rattle.dlk.specs.Runs.{GivesWhole}
use Rattle.dlk.specs.Headline.{WritesTerm, IsAccepted, ProvesTruly}
use Rattle.dlk.proofs.Short.{ReadsModel, model_within}
use Rattle.dlk.proofs.Writing.{EachIsChecked, WritesChecked, file_holds, proved_writes, refused_or_written}

-- what is given whole with a status below 2 is a reply with one
pub few_given : {words : List Word} {status : ℕ} {old new : Outside} {reply : Reply} → GivesWhole words status old new reply → status < 2 →
    code_of reply.status < 2
few_given gives less = omega (arith, less, gives.status_is)

-- and prints this
pub says_given : {words : List Word} {status : ℕ} {old new : Outside} {reply : Reply} {said : List ℕ} → GivesWhole words status old new reply →
    new.printed ≡ old.printed ++ said → reply.printed ≡ said
says_given {old = old} {reply = reply} {said = said} gives says = append_cancel_left old.printed reply.printed said (sym gives.printed ∙ says)

-- the words have a command that reads a model and writes a term
pub whole_accepted : (c : Command) (roles : List Role) (model : List ℕ) → ReadsModel c roles →
    ((others : List Word) (texts : List (List ℕ)) (reply : Reply) → Does c others (model ∷ texts) reply → WritesChecked model reply) →
    (words : List Word) (status : ℕ) (old new : Outside) (reply : Reply) → GivesWhole words status old new reply → (term said : List ℕ) →
    command_of words ≡ Some c →
    WritesTerm words old new model term → status < 2 → new.printed ≡ old.printed ++ said → IsAccepted model term status said
whole_accepted c roles model first each words status old new reply gives term said form (texts, there) less says =
    let within = model_within c roles words old.files model texts reply gives.answer first form there.texts_are (few_given gives less) in
    elim (refused_or_written c model each words old.files texts reply gives.answer form there.texts_are) [
      | inl refusal ↦ absurd (omega (arith, less, gives.status_is, refusal.two))
      | inr w ↦ let same = file_holds words old.files new.files reply there.name w.term term there.named w.written gives.files there.written in
          let here : IsAccepted model w.term (code_of reply.status) reply.printed =
          record { model_short = within; short = w.short; reply = printing reply.status reply.printed; checks = w.checks; status_is = refl; said_is = refl } in
          subst (λ (t : List ℕ). IsAccepted model t status said) same
          (subst (λ (n : ℕ). IsAccepted model w.term n said) (sym gives.status_is)
          (subst (λ (x : List ℕ). IsAccepted model w.term (code_of reply.status) x) (says_given gives says) here))
    ]

pub whole_proves : EachIsChecked → (words : List Word) (status : ℕ) (old new : Outside) (reply : Reply) → GivesWhole words status old new reply →
    ProvesTruly words status old new
whole_proves checked words status old new reply gives model term said form there less says =
    whole_accepted Prove (Strategy ∷ []) model refl (proved_writes checked model) words status old new reply gives term said form there less says
