-- The answer to what was read is the answer to the files.
use Rattle.std.proofs.Common.{◌≡◌, ◌↔◌, ◌<◌, ℕ, List, map, length, Option, None, Some, IsSome, IsNone, option_map, Vec, refl, ap, sym, subst, ◌∙◌, arith}
use Rattle.std.specs.declared.alloc.Global.{Global}
use Rattle.dlk_desk.specs.Outside.{Outside, Files}
use Rattle.dlk_replies.specs.declared.command.Command.{Command}
use Rattle.dlk_replies.specs.Forms.{Word, form_of, command_of, limit_of, limits_of, inputs_of, others_of}
use Rattle.dlk_replies.specs.Inputs.{inputs, inputs_of_form, limits, limits_of_form}
use Rattle.dlk_replies.specs.declared.form.Form.{Form as CodeForm}
use Rattle.dlk_replies.specs.Shown.{form_shown}
use Rattle.dlk_replies.specs.Replies.{Reply}
use Rattle.dlk_answers.specs.Answers.{Does, Responds, refuses, does}
use Rattle.dlk.specs.Answers.{bytes_of, Answers, command}
use Rattle.dlk.specs.Cuts.{cut_bytes_of}
use Rattle.dlk.specs.Runs.{AsksFor}
use Rattle.dlk.proofs.Cut.{Alike, are_read}

-- the answer to inputs that are cut past their limits is that to the whole ones
pub responds_alike : (c : Command) (words : List Word) (cuts whole : List (List ℕ)) (reply : Reply) → Alike (inputs_of c words) (limits_of c) cuts whole →
    Responds c words cuts reply → Responds c words whole reply
responds_alike c words cuts whole reply h (refuses name long) = refuses name (h.first ∙ long)
responds_alike c words cuts whole reply h (does short r job) =
    does (h.first ∙ short) r (subst (λ (texts : List (List ℕ)). Does c (others_of c words) texts r) (h.same short) job)

pub answered : (words : List Word) (c : Command) (files : Files) (cuts : List (List ℕ)) (reply : Reply) → command_of words ≡ Some c →
    length (inputs_of c words) ≡ length (limits_of c) →
    cut_bytes_of files (inputs_of c words) (limits_of c) ≡ Some cuts → Responds c words cuts reply → Answers words files reply
answered words c files cuts reply is count read responds =
    let h = are_read files (inputs_of c words) (limits_of c) count cuts read in
    command c is h.0 h.1 reply (responds_alike c words cuts h.0 reply h.2 responds)

-- where the inputs of a form were read, each is there
pub have_inputs : (words : List Word) (c : Command) (files : Files) (cuts : List (List ℕ)) → command_of words ≡ Some c →
    length (inputs_of c words) ≡ length (limits_of c) →
    cut_bytes_of files (inputs_of c words) (limits_of c) ≡ Some cuts → IsSome (bytes_of files (inputs words))
have_inputs words c files cuts is count read =
    let h = are_read files (inputs_of c words) (limits_of c) count cuts read in
    let named : inputs words ≡ inputs_of c words = ap (λ o. inputs_of_form o words) is in
    subst (λ (names : List Word). IsSome (bytes_of files names)) (sym named) (subst IsSome (sym h.1) refl)

-- words of a command are not refused
no_none : {A : Type 0} (o : Option A) (x : A) → o ≡ Some x → IsNone o → ⊥
no_none None x is none = absurd cc
no_none (Some y) x is none = absurd cc

pub words_known : (words : List Word) (c : Command) (code : ℕ) → command_of words ≡ Some c → code < 3 → (code ≡ 3) ↔ IsNone (command_of words)
words_known words c code is less = ((λ three. absurd (omega (arith, less, three))), (λ none. absurd (no_none (command_of words) c is none)))

pub none_written : (written : Option (Vec ℕ Global)) → option_map (λ v. v.items) written ≡ None → IsNone written
none_written None e = refl
none_written (Some v) e = absurd cc

-- what was asked for are the inputs of the words
pub asks_words : (tells : Type 0) (words names : List Word) (c : Command) (form : CodeForm) (old new : Outside) → command_of words ≡ Some c →
    names ≡ inputs_of c words → form_shown form ≡ form_of c →
    ((count : ℕ) × AsksFor tells names (map limit_of form.inputs.now) count old new) → (count : ℕ) × AsksFor tells (inputs words) (limits words) count old new
asks_words tells words names c form old new is named is_form asks =
    let these : names ≡ inputs words = named ∙ sym (ap (λ o. inputs_of_form o words) is) in
    let limited : map limit_of form.inputs.now ≡ limits words = ap (λ f. map limit_of f.inputs) is_form ∙ sym (ap limits_of_form is) in
    (asks.0, subst (λ ns. AsksFor tells ns (limits words) asks.0 old new) these (subst (λ ls. AsksFor tells names ls asks.0 old new) limited asks.1))
