-- What reads token by token, and how far it comes.
use Rattle.std.specs.Prelude.{ℕ, ◌+◌, List, [], ◌∷◌, Option, Result, Ok, Err, Some, None}
use Rattle.dlk_tree.specs.declared.op.Sort.{Sort}
use Rattle.dlk_grammar.specs.declared.token.Dots.{Dots}
use Rattle.dlk_grammar.specs.Lexemes.{Lexeme}
use Rattle.dlk_grammar.specs.Phrases.{Phrase}
use Rattle.dlk_grammar.specs.Readings.{permits}
use Rattle.dlk_machine.specs.Machine.{when, State, Wants, step, ended}

-- What reads token by token: where it starts, a step, and what was read at the end.
pub record Machine (X T : Type 0) : Type 0 where
  pub start : X
  pub step : X → Lexeme → Option X
  pub ended : X → Option T

abbrev pub or_else : {A B : Type 0} → Option A → B → (A → B) → B
or_else None b f = b
or_else (Some x) b f = f x

-- Reads on from a state, after a number of tokens: what is read, or the place of the fault.
abbrev pub parse_from : {X T : Type 0} → Dots → Machine X T → X → ℕ → List Lexeme → Result T ℕ
parse_from d m x n [] = or_else (m.ended x) (Err n) (λ t. Ok t)
parse_from d m x n (k ∷ s) = or_else (when (permits d k) (m.step x k)) (Err n) (λ y. parse_from d m y (n + 1) s)

abbrev pub parse : {X T : Type 0} → Dots → Machine X T → List Lexeme → Result T ℕ
parse d m s = parse_from d m m.start 0 s

-- The reader of a term, a formula or a program.
abbrev pub reader : Sort → Machine State Phrase
reader g = record { start = Wants []; step = step g; ended = ended g }
