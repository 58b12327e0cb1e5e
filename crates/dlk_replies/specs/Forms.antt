-- The forms of the words of a command line: a verb, a word for each input, and then at most one word of another kind.
use Rattle.std.specs.Prelude.{ℕ, ◌&&◌, ◌||◌, Bool, true, false, List, [], ◌∷◌, length, take, drop, map, nat_le, Option, None, Some, find, bytes_eq, codes}
use Rattle.dlk_tree.specs.Names.{is_between}
use Rattle.dlk_grammar.specs.Tokens.{is_digit}
use Rattle.dlk_replies.specs.declared.command.Command.{Command}
use Rattle.dlk_replies.specs.declared.command.Command.TheVariants.{Check, Print, Vars, Subst, Report, Smt, Guard, Prove, Gen, Convert, Link, Trim, Session}
use Rattle.dlk_replies.specs.declared.form.Role.{Role}
use Rattle.dlk_replies.specs.declared.form.Role.TheVariants.{Model, Term, File, Substitution, Strategy, Lemma, Script}
use Rattle.dlk_replies.specs.declared.form.LastWord.{LastWord}
use Rattle.dlk_replies.specs.declared.form.LastWord.TheVariants.{Output, Number}

abbrev pub Word : Type 0
Word = List ℕ

-- the form of a command's words
pub record Form : Type 0 where
  pub verb : Word
  pub inputs : List Role  -- what the words behind the verb name, in their order
  pub last : Option LastWord  -- what the word behind those is, if there is one

abbrev pub form_of : Command → Form
form_of Check = record { verb = codes "check"; inputs = Model ∷ Term ∷ []; last = None }
form_of Print = record { verb = codes "print"; inputs = File ∷ []; last = None }
form_of Vars = record { verb = codes "vars"; inputs = File ∷ []; last = None }
form_of Subst = record { verb = codes "subst"; inputs = File ∷ Substitution ∷ []; last = None }
form_of Report = record { verb = codes "report"; inputs = Model ∷ Term ∷ []; last = None }
form_of Smt = record { verb = codes "smt"; inputs = Model ∷ Term ∷ []; last = None }
form_of Guard = record { verb = codes "guard"; inputs = Model ∷ Term ∷ []; last = None }
form_of Prove = record { verb = codes "prove"; inputs = Model ∷ Strategy ∷ []; last = Some Output }
form_of Gen = record { verb = codes "gen"; inputs = []; last = Some Number }
form_of Convert = record { verb = codes "convert"; inputs = Term ∷ []; last = Some Output }
form_of Link = record { verb = codes "link"; inputs = Model ∷ Term ∷ Lemma ∷ []; last = Some Output }
form_of Trim = record { verb = codes "trim"; inputs = Model ∷ Term ∷ []; last = Some Output }
form_of Session = record { verb = codes "session"; inputs = Model ∷ Script ∷ []; last = Some Output }

-- the word for an input in a refusal
abbrev pub word_of : Role → Word
word_of Model = codes "model"
word_of Term = codes "term"
word_of File = codes "file"
word_of Substitution = codes "subst"
word_of Strategy = codes "strategy"
word_of Lemma = codes "lemma"
word_of Script = codes "script"

-- the greatest length of an input, in bytes
abbrev pub limit_of : Role → ℕ
limit_of Model = 1048576
limit_of Term = 67108864
limit_of File = 1048576
limit_of Substitution = 1048576
limit_of Strategy = 1048576
limit_of Lemma = 67108864
limit_of Script = 1048576

-- a number from 1 to 500 without leading zeros: from 1 to 9, from 10 to 99, from 100 to 499, or 500
abbrev pub is_count : Word → Bool
is_count (a ∷ []) = is_between 49 57 a
is_count (a ∷ b ∷ []) = is_between 49 57 a && is_digit b
is_count (a ∷ b ∷ c ∷ []) = (is_between 49 52 a && (is_digit b && is_digit c)) || bytes_eq (a ∷ b ∷ c ∷ []) (codes "500")
is_count _ = false

abbrev pub is_last : LastWord → Word → Bool
is_last Output word = true
is_last Number word = is_count word

-- the words behind the inputs
abbrev pub ends_in : Option LastWord → List Word → Bool
ends_in None [] = true
ends_in None (word ∷ words) = false
ends_in (Some last) [] = false
ends_in (Some last) (word ∷ []) = is_last last word
ends_in (Some last) (word ∷ more ∷ words) = false

abbrev pub has_form : List Word → Form → Bool
has_form [] form = false
has_form (verb ∷ rest) form = bytes_eq verb form.verb && (nat_le (length form.inputs) (length rest) && ends_in form.last (drop (length form.inputs) rest))

abbrev pub commands : List Command
commands = Check ∷ Print ∷ Vars ∷ Subst ∷ Report ∷ Smt ∷ Guard ∷ Prove ∷ Gen ∷ Convert ∷ Link ∷ Trim ∷ Session ∷ []

-- the command of the words, if they have one of the forms
abbrev pub command_of : List Word → Option Command
command_of words = find (λ command. has_form words (form_of command)) commands

-- the limit of each input
abbrev pub limits_of : Command → List ℕ
limits_of command = map limit_of (form_of command).inputs

-- the names of the inputs
abbrev pub inputs_of : Command → List Word → List Word
inputs_of command words = take (length (form_of command).inputs) (drop 1 words)

-- the words behind the inputs: one or none
abbrev pub others_of : Command → List Word → List Word
others_of command words = drop (length (form_of command).inputs) (drop 1 words)

abbrev pub output_named : Option LastWord → List Word → Option Word
output_named (Some Output) (name ∷ words) = Some name
output_named (Some Output) [] = None
output_named (Some Number) words = None
output_named None words = None

-- the name of the file that is written, if the form has one
abbrev pub output_of : Command → List Word → Option Word
output_of command words = output_named (form_of command).last (others_of command words)
