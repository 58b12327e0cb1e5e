-- What a text says, as it is written: with the places of names and braces, any number of arguments and items, and the
-- formulas of `@invariant`.
use Rattle.std.specs.Prelude.{ℕ, Bool}
use Rattle.dlk_tree.specs.declared.op.Num.{Num}
use Rattle.dlk_grammar.specs.declared.token.Infix.{Infix}
use Rattle.dlk_grammar.specs.Lexemes.{Word}

-- the variables on which a symbol may depend
pub data Space : Type 0 where
  Everywhere : Space
  Except : Word → Space

mutual
  -- a term, a formula or a program
  pub data Phrase : Type 0 where
    Literal : Num → Phrase
    Argument : ℕ → Phrase
    -- a variable, or with true its differential symbol
    Variable : Word → Bool → Phrase
    Apply : Head → Phrase
    Negate : Phrase → Phrase
    Diff : Phrase → Phrase
    Truth : Phrase
    Falsity : Phrase
    Hole : Phrase
    Holds : Head → Phrase
    Context : Word → Phrase → Phrase
    Not : Phrase → Phrase
    DiffF : Phrase → Phrase
    Forall : Word → Phrase → Phrase
    Exists : Word → Phrase → Phrase
    Box : Phrase → Phrase → Phrase
    Dia : Phrase → Phrase → Phrase
    Binary : Infix → Phrase → Phrase → Phrase
    Const : Word → Phrase
    Assign : Word → Bool → Phrase → Phrase
    -- x:=*;
    AssignAny : Word → Phrase
    Test : Phrase → Phrase
    Then : Phrase → Phrase → Phrase
    Loop : Phrase → Phrase
    -- the place of its brace, its items, its domain
    System : ℕ → Items → Phrase → Phrase
    -- a program with the formulas of its @invariant
    Noted : Phrase → Phrases → Phrase

  -- phrases in order
  pub data Phrases : Type 0 where
    none : Phrases
    snoc : Phrases → Phrase → Phrases

  -- a symbol that is a term or a formula
  pub data Head : Type 0 where
    -- the place of its name, its name, its arguments
    Call : ℕ → Word → Phrases → Head
    Any : Word → Space → Head

  -- an item of a system
  pub data Item : Type 0 where
    Evolve : Word → Phrase → Item
    Flow : Word → Space → Item

  -- items in order
  pub data Items : Type 0 where
    no_items : Items
    add : Items → Item → Items
