-- What the program answers to its words and files.
use Rattle.std.specs.Prelude.{◌≡◌, ℕ, List, [], ◌∷◌, Option, Some, None, option_map, option_and_then}
use Rattle.dlk_desk.specs.Outside.{Files}
use Rattle.dlk_replies.specs.declared.command.Command.{Command}
use Rattle.dlk_replies.specs.Forms.{Word, command_of, inputs_of}
use Rattle.dlk_replies.specs.Replies.{Reply, refused_words}
use Rattle.dlk_answers.specs.Answers.{Responds}

-- the bytes of all these files, if each is there
abbrev pub bytes_of : Files → List Word → Option (List (List ℕ))
bytes_of files [] = Some []
bytes_of files (name ∷ names) = option_and_then (λ bytes. option_map (λ others. bytes ∷ others) (bytes_of files names)) (files name)

-- Answers words files reply: this is what is answered, where each input is there. The first case that applies.
pub data Answers (words : List Word) (files : Files) : Reply → Type 0 where
  -- the words are none of the forms
  no_form : command_of words ≡ None → Answers words files refused_words
  command : (command : Command) → command_of words ≡ Some command → (texts : List (List ℕ)) → bytes_of files (inputs_of command words) ≡ Some texts →
      (reply : Reply) → Responds command words texts reply → Answers words files reply
