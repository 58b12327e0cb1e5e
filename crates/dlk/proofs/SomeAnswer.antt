-- Where each input is there, something is answered to words and files.
use Rattle.std.proofs.Common.{◌≡◌, ℕ, ◌≤◌, ◌+◌, List, [], ◌∷◌, length, drop, Option, None, Some, IsSome, option_map, option_and_then, refl, ap, subst}
use Rattle.std.proofs.Common.{◌∙◌, arith, length-take, length-drop}
use Rattle.dlk_desk.specs.Outside.{Files}
use Rattle.dlk_replies.specs.declared.command.Command.{Command}
use Rattle.dlk_replies.specs.Forms.{Word, form_of, command_of, inputs_of}
use Rattle.dlk_replies.specs.Inputs.{inputs, inputs_of_form}
use Rattle.dlk_replies.specs.Replies.{Reply, refused_words}
use Rattle.dlk_replies.proofs.Fits.{long_enough}
use Rattle.dlk_answers.specs.Answers.{Responds}
use Rattle.dlk.specs.Answers.{bytes_of, Answers, no_form, command}

there : {A : Type 0} (o : Option A) → IsSome o → (x : A) × (o ≡ Some x)
there None is = absurd cc
there (Some x) is = (x, refl)

-- there are as many inputs as names
as_many : (files : Files) (names : List Word) (texts : List (List ℕ)) → bytes_of files names ≡ Some texts → length texts ≡ length names
as_many files [] texts e = let same : texts ≡ [] = cc in ap length same
as_many files (name ∷ names) texts e = by_file (files name) e (as_many files names)
  where
    by_file : (file : Option (List ℕ)) → option_and_then (λ bytes. option_map (λ others. bytes ∷ others) (bytes_of files names)) file ≡ Some texts →
        ((others : List (List ℕ)) → bytes_of files names ≡ Some others → length others ≡ length names) → length texts ≡ length (name ∷ names)
    by_file None e again = absurd cc
    by_file (Some bytes) e again = by_others (bytes_of files names) e again
      where
        by_others : (found : Option (List (List ℕ))) → option_map (λ others. bytes ∷ others) found ≡ Some texts →
            ((others : List (List ℕ)) → found ≡ Some others → length others ≡ length names) → length texts ≡ length (name ∷ names)
        by_others None e again = absurd cc
        by_others (Some others) e again =
            let same : bytes ∷ others ≡ texts = cc in
            omega (arith, ap length same, again others refl)

-- and as many names as the form has inputs
names_fit : (words : List Word) (c : Command) → command_of words ≡ Some c → length (inputs_of c words) ≡ length (form_of c).inputs
names_fit words c is =
    let enough : 1 + length (form_of c).inputs ≤ length words = long_enough words c is in
    omega (arith, enough, length-take (length (form_of c).inputs) (drop 1 words), length-drop 1 words)

-- a command answers something to words of its form and to as many texts as it has inputs
abbrev pub SomeResponse : Type 0
SomeResponse = (command : Command) (words : List Word) (texts : List (List ℕ)) → command_of words ≡ Some command →
    length texts ≡ length (form_of command).inputs →
    (reply : Reply) × Responds command words texts reply

pub some_reply : SomeResponse → (words : List Word) (files : Files) → IsSome (bytes_of files (inputs words)) → (reply : Reply) × Answers words files reply
some_reply some_response words files have = by_form (command_of words) refl
  where
    by_form : (form : Option Command) → command_of words ≡ form → (reply : Reply) × Answers words files reply
    by_form None is = (refused_words, no_form is)
    by_form (Some c) is =
        let named : inputs words ≡ inputs_of c words = ap (λ o. inputs_of_form o words) is in
        let read = there (bytes_of files (inputs_of c words)) (subst (λ names. IsSome (bytes_of files names)) named have) in
        let count = as_many files (inputs_of c words) read.0 read.1 ∙ names_fit words c is in
        let said = some_response c words read.0 is count in
        (said.0, command c is read.0 read.1 said.0 said.1)
