-- There is one answer to words and files.
use Rattle.std.proofs.Common.{◌≡◌, ℕ, List, refl, sym, subst, ◌∙◌}
use Rattle.dlk_desk.specs.Outside.{Files}
use Rattle.dlk_replies.specs.declared.command.Command.{Command}
use Rattle.dlk_replies.specs.Forms.{Word}
use Rattle.dlk_replies.specs.Replies.{Reply}
use Rattle.dlk_answers.specs.Answers.{Responds}
use Rattle.dlk_answers.proofs.OneReply.{none_or_some}
use Rattle.dlk.specs.Answers.{Answers, no_form, command}

-- a command has one answer to words and texts
abbrev pub OneResponse : Type 0
OneResponse = (command : Command) (words : List Word) (texts : List (List ℕ)) (one other : Reply) → Responds command words texts one →
    Responds command words texts other → one ≡ other

pub one_reply : OneResponse → (words : List Word) (files : Files) (r s : Reply) → Answers words files r → Answers words files s → r ≡ s
one_reply one_response words files r s (no_form a) (no_form b) = refl
one_reply one_response words files r s (no_form a) (command c b texts there s' other) = absurd (none_or_some (sym a ∙ b))
one_reply one_response words files r s (command c a texts there r' one) (no_form b) = absurd (none_or_some (sym b ∙ a))
one_reply one_response words files r s (command c a texts there r' one) (command d b others there2 s' other) =
    let same : c ≡ d = cc in
    let read : texts ≡ others = cc (there, there2, same) in
    one_response d words others r s (subst (λ (x : Command). Responds x words others r) same
    (subst (λ (ts : List (List ℕ)). Responds c words ts r) read one)) other
