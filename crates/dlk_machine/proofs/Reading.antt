-- The reader of terms, formulas and programs reads the grammar.
use Rattle.std.proofs.Common.{◌≡◌, true, List, [], Some, refl}
use Rattle.dlk_grammar.specs.Lexemes.{Lexeme}
use Rattle.dlk_grammar.specs.Grammar.{Reads}
use Rattle.dlk_tree.specs.declared.op.Sort.{Sort}
use Rattle.dlk_tree.specs.declared.op.Sort.TheVariants.{Term, Formula, Program}
use Rattle.dlk_machine.specs.Levels.{top}
use Rattle.dlk_machine.specs.Machine.{State, Wants, allows}
use Rattle.dlk_grammar.specs.declared.token.Dots.{Dots}
use Rattle.dlk_machine.specs.Parse.{reader}
use Rattle.dlk_machine.proofs.Opening.{begun, states}
use Rattle.dlk_machine.proofs.Only.{only_at}
use Rattle.dlk_machine.proofs.Spelled.{nothing, After}
use Rattle.dlk_machine.proofs.Found.{ends}
use Rattle.dlk_machine.proofs.Live.{live, states_after}
use Rattle.dlk_machine.proofs.Parsing.{Reader}

pub allowed : (g : Sort) → allows g g ≡ true
allowed Term = refl
allowed Formula = refl
allowed Program = refl

pub reads_all : (d : Dots) (g : Sort) → Reader d (reader g) (Reads (top g))
reads_all d g = record {
  only = λ s t r. only_at g g s t r (allowed g);
  found = λ s y t e f. ends g g y s t (states_after g (Wants []) [] s y nothing e) f;
  live = λ s y e. begun d (Reads (top g)) s (live g y s (states_after g (Wants []) [] s y nothing e));
}

pub passed_after : (g : Sort) (s : List Lexeme) (y : State) → states (reader g) (Wants []) s ≡ Some y → After g y s
passed_after g s y e = states_after g (Wants []) [] s y nothing e
