-- A model on which a command has answered with a status below 2 is within its limit.
use Rattle.std.proofs.Common.{◌≡◌, ◌<◌, ◌≤◌, ℕ, false, nat_lt, List, [], ◌∷◌, length, map, None, Some, sym, ap, subst, ◌∙◌, arith}
use Rattle.std.proofs.lemmas.Bool.Decides.{nat_tests}
use Rattle.dlk_desk.specs.Outside.{Files}
use Rattle.dlk_replies.specs.declared.command.Command.{Command}
use Rattle.dlk_replies.specs.declared.form.Role.{Role}
use Rattle.dlk_replies.specs.declared.form.Role.TheVariants.{Model}
use Rattle.dlk_replies.specs.Forms.{Word, form_of, command_of, inputs_of, limit_of}
use Rattle.dlk_replies.specs.Inputs.{inputs, inputs_of_form, first_too_long}
use Rattle.dlk_replies.specs.Replies.{Reply, code_of}
use Rattle.dlk_answers.specs.Answers.{Responds, refuses, does}
use Rattle.dlk.specs.Answers.{bytes_of, Answers}
use Rattle.dlk.proofs.Cut.{none_else}
use Rattle.dlk.proofs.Done.{response}

-- bytes that aren't past their limit are within it
not_past : (limit : ℕ) (bytes : List ℕ) → nat_lt limit (length bytes) ≡ false → length bytes ≤ limit
not_past limit bytes h = grind (arith, nat_tests, h)

-- where none of the inputs is too long, the first isn't
first_short : (files : Files) (names : List Word) (limit : ℕ) (limits bytes : List ℕ) (texts : List (List ℕ)) →
    bytes_of files names ≡ Some (bytes ∷ texts) → first_too_long names (limit ∷ limits) (bytes ∷ texts) ≡ None → length bytes ≤ limit
first_short files [] limit limits bytes texts there none =
    let same : [] ≡ bytes ∷ texts = let e : Some [] ≡ Some (bytes ∷ texts) = there in cc in absurd cc
first_short files (name ∷ names) limit limits bytes texts there none =
    let both = none_else (nat_lt limit (length bytes)) name (first_too_long names limits texts) none in not_past limit bytes both.0

-- the first input of the command is a model
abbrev pub ReadsModel : Command → List Role → Type 0
ReadsModel c roles = (form_of c).inputs ≡ Model ∷ roles

-- where such a command has answered with a status below 2, the model is within its limit
response_within : (c : Command) (roles : List Role) (words : List Word) (files : Files) (model : List ℕ) (texts : List (List ℕ)) (reply : Reply) →
    Responds c words (model ∷ texts) reply → ReadsModel c roles → bytes_of files (inputs_of c words) ≡ Some (model ∷ texts) → code_of reply.status < 2 →
    length model ≤ limit_of Model
response_within c roles words files model texts _ (refuses name long) first there less = absurd (omega (arith, less))
response_within c roles words files model texts _ (does short r job) first there less =
    let none : first_too_long (inputs_of c words) (limit_of Model ∷ map limit_of roles) (model ∷ texts) ≡ None =
    subst (λ (all : List Role). first_too_long (inputs_of c words) (map limit_of all) (model ∷ texts) ≡ None) first short in
    first_short files (inputs_of c words) (limit_of Model) (map limit_of roles) model texts there none

pub model_within : (c : Command) (roles : List Role) (words : List Word) (files : Files) (model : List ℕ) (texts : List (List ℕ)) (reply : Reply) →
    Answers words files reply → ReadsModel c roles → command_of words ≡ Some c → bytes_of files (inputs words) ≡ Some (model ∷ texts) →
    code_of reply.status < 2 → length model ≤ limit_of Model
model_within c roles words files model texts reply answers first form there less =
    let named : inputs words ≡ inputs_of c words = ap (λ o. inputs_of_form o words) form in
    let read : bytes_of files (inputs_of c words) ≡ Some (model ∷ texts) = ap (bytes_of files) (sym named) ∙ there in
    response_within c roles words files model texts reply (response words files c (model ∷ texts) reply answers form there) first read less
