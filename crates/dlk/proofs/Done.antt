-- What a command has done where it has answered something.
use Rattle.std.proofs.Common.{◌≡◌, ◌<◌, ◌⊎◌, ℕ, List, None, Some, refl, sym, ap, subst, ◌∙◌, inl, inr, arith}
use Rattle.dlk_desk.specs.Outside.{Files}
use Rattle.dlk_replies.specs.declared.command.Command.{Command}
use Rattle.dlk_replies.specs.Forms.{Word, command_of, inputs_of, others_of}
use Rattle.dlk_replies.specs.Inputs.{inputs, inputs_of_form}
use Rattle.dlk_replies.specs.Replies.{Reply, code_of}
use Rattle.dlk_answers.specs.Answers.{Does, Responds, refuses, does}
use Rattle.dlk.specs.Answers.{bytes_of, Answers, no_form, command}
use Rattle.dlk.proofs.Refusals.{IsRefusal}

-- the answer to words of this command, whose inputs have these texts
pub response : (words : List Word) (files : Files) (c : Command) (texts : List (List ℕ)) (reply : Reply) → Answers words files reply →
    command_of words ≡ Some c → bytes_of files (inputs words) ≡ Some texts → Responds c words texts reply
response words files c texts _ (no_form none) form there = let e : None ≡ Some c = sym none ∙ form in absurd cc
response words files c texts _ (command d is found has r responds) form there =
    let same : d ≡ c = let e : Some d ≡ Some c = sym is ∙ form in cc in
    let named : inputs words ≡ inputs_of d words = ap (λ o. inputs_of_form o words) is in
    let read : found ≡ texts = let e : Some found ≡ Some texts = sym has ∙ ap (bytes_of files) (sym named) ∙ there in cc in
    subst (λ (x : Command). Responds x words texts r) same (subst (λ (ts : List (List ℕ)). Responds d words ts r) read responds)

-- it is a refusal, or what the command does
pub refused_or_done : (c : Command) (words : List Word) (texts : List (List ℕ)) (reply : Reply) → Responds c words texts reply →
    IsRefusal reply ⊎ Does c (others_of c words) texts reply
refused_or_done c words texts _ (refuses name long) = inl (record { two = refl; begins = refl })
refused_or_done c words texts _ (does short r job) = inr job

-- and with a status below 2 the latter
pub is_done : (c : Command) (words : List Word) (texts : List (List ℕ)) (reply : Reply) → Responds c words texts reply → code_of reply.status < 2 →
    Does c (others_of c words) texts reply
is_done c words texts _ (refuses name long) less = absurd (omega (arith, less))
is_done c words texts _ (does short r job) less = job
