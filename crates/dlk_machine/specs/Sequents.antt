-- The machine of a sequent: formulas on both sides of ==>.
use Rattle.std.specs.Prelude.{[], Option, Some, None}
use Rattle.dlk_tree.specs.declared.op.Sort.TheVariants.{Formula}
use Rattle.dlk_grammar.specs.Lexemes.{Lexeme, Comma, Turnstile}
use Rattle.dlk_grammar.specs.Phrases.{Phrases, none, snoc}
use Rattle.dlk_grammar.specs.Grammar.{Sides, Turned}
use Rattle.dlk_machine.specs.Machine.{◌>>=◌, State, Wants, step, ended}
use Rattle.dlk_machine.specs.Parse.{Machine, or_else}

-- the side that is read: the left one, or the right one behind the formulas of the left one
pub data Side : Type 0 where
  LeftSide : Side
  RightSide : Phrases → Side

-- a side of which nothing has been read, or its formulas so far with what is read of the next
pub data SequentState : Type 0 where
  Fresh : Side → SequentState
  Reading : Side → Phrases → State → SequentState

abbrev pub turn : Side → Phrases → Option SequentState
turn LeftSide l = Some (Fresh (RightSide l))
turn (RightSide l) m = None

abbrev pub inner : Side → Phrases → State → Lexeme → Option SequentState
inner w l x k = step Formula x k >>= λ y. Some (Reading w l y)

-- At a comma and at ==> a formula that is whole ends; each other token is the formula's.
abbrev pub sequent_step : SequentState → Lexeme → Option SequentState
sequent_step (Fresh w) Turnstile = turn w none
sequent_step (Fresh w) k = inner w none (Wants []) k
sequent_step (Reading w l x) Turnstile = ended Formula x >>= λ t. turn w (snoc l t)
sequent_step (Reading w l x) Comma = or_else (ended Formula x) (inner w l x Comma) (λ t. Some (Reading w (snoc l t) (Wants [])))
sequent_step (Reading w l x) k = inner w l x k

abbrev pub sequent_ended : SequentState → Option Sides
sequent_ended (Fresh (RightSide l)) = Some (Turned l none)
sequent_ended (Reading (RightSide l) m x) = ended Formula x >>= λ t. Some (Turned l (snoc m t))
sequent_ended _ = None

-- The reader of a sequent.
abbrev pub sequent_reader : Machine SequentState Sides
sequent_reader = record { start = Fresh LeftSide; step = sequent_step; ended = sequent_ended }
