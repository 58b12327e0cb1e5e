-- The inputs and the output of the words, and which input is too long.
use Rattle.std.specs.Prelude.{ℕ, List, [], ◌∷◌, length, nat_lt, Option, Some, None, if◌then◌else◌, option_and_then}
use Rattle.dlk_replies.specs.declared.command.Command.{Command}
use Rattle.dlk_replies.specs.Forms.{Word, command_of, inputs_of, limits_of, output_of}

-- the first input that is longer than its limit
abbrev pub first_too_long : List Word → List ℕ → List (List ℕ) → Option Word
first_too_long (name ∷ names) (limit ∷ limits) (bytes ∷ texts) = if nat_lt limit (length bytes) then Some name else first_too_long names limits texts
first_too_long _ _ _ = None

-- the names of the inputs of the words: none without a form
abbrev pub inputs_of_form : Option Command → List Word → List Word
inputs_of_form None words = []
inputs_of_form (Some command) words = inputs_of command words

abbrev pub inputs : List Word → List Word
inputs words = inputs_of_form (command_of words) words

-- their limits
abbrev pub limits_of_form : Option Command → List ℕ
limits_of_form None = []
limits_of_form (Some command) = limits_of command

abbrev pub limits : List Word → List ℕ
limits words = limits_of_form (command_of words)

-- the name of the file that the words let the program write, if there is one
abbrev pub output : List Word → Option Word
output words = option_and_then (λ command. output_of command words) (command_of words)
