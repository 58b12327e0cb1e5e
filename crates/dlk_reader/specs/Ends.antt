-- Where a text ends: as a formula or else as a term, and at a comma.
use Rattle.std.specs.Prelude.{◌≡◌, List, [], ◌∷◌, Option, Some}
use Rattle.dlk_tree.specs.declared.op.Sort.{Sort}
use Rattle.dlk_tree.specs.declared.op.Sort.TheVariants.{Term, Formula, Program}
use Rattle.dlk_grammar.specs.Lexemes.{Comma}
use Rattle.dlk_grammar.specs.Phrases.{Phrase}
use Rattle.dlk_machine.specs.Machine.{◌>>=◌, Part, Piece, Is, Symbol, State, Has, reduce, step}
use Rattle.dlk_reader.specs.Shows.{IsWhole, Stands, Shows}
use Rattle.dlk_reader.specs.declared.ends.Comma.{Comma as AtComma}
use Rattle.dlk_reader.specs.declared.ends.Comma.TheVariants as comma
use Rattle.dlk_reader.specs.declared.stack.Stack.{Stack}

-- what is whole may be a formula or else a term
abbrev pub either_sort : Piece → Sort
either_sort (Is Term t k) = Term
either_sort (Is Formula t k) = Formula
either_sort (Is Program t k) = Formula
either_sort (Symbol h n k) = Formula

-- a piece as a tree of this sort
pub record IsEither (k : Stack) (p : Piece) (g : Sort) (t : Phrase) : Type 0 where
  pub sort : g ≡ either_sort p
  pub whole : IsWhole k t

-- what a comma makes of what is read: a piece before it, where nothing is open, or a state behind it
pub data CommaState : Type 0 where
  EndsAt : Piece → CommaState
  GoesTo : State → CommaState

abbrev pub goes_on : Sort → State → Option CommaState
goes_on g x = step g x Comma >>= λ y. Some (GoesTo y)

abbrev pub closed_at : Sort → List Part → Piece → Option CommaState
closed_at g [] p = Some (EndsAt p)
closed_at g (e ∷ S) p = goes_on g (Has (e ∷ S) p)

abbrev pub at_comma : Sort → State → Option CommaState
at_comma g (Has S p) = reduce 0 S p >>= λ r. closed_at g r.0 r.1
at_comma g x = goes_on g x

abbrev pub ShowsComma : Stack → AtComma → CommaState → Type 0
ShowsComma k (comma.Ends last) (EndsAt p) = Stands k last [] p
ShowsComma k (comma.Ends last) (GoesTo x) = ⊥
ShowsComma k (comma.GoesOn m) (EndsAt p) = ⊥
ShowsComma k (comma.GoesOn m) (GoesTo x) = Shows k m x
