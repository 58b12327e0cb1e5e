-- The levels and sorts of the nonterminals.
use Rattle.std.specs.Prelude.{ℕ}
use Rattle.dlk_grammar.specs.Grammar.{Nonterminal, formula, imp, disj, conj, unf, atom, term, mul, neg, pow, prim, prog, seq, stmt}
use Rattle.dlk_tree.specs.declared.op.Sort.{Sort}
use Rattle.dlk_tree.specs.declared.op.Sort.TheVariants.{Term, Formula, Program}

abbrev pub form_level : Nonterminal → ℕ
form_level formula = 1
form_level imp = 2
form_level disj = 3
form_level conj = 4
form_level unf = 5
form_level atom = 6
form_level term = 7
form_level mul = 8
form_level neg = 9
form_level pow = 10
form_level prim = 11
form_level prog = 1
form_level seq = 2
form_level stmt = 3

abbrev pub form_sort : Nonterminal → Sort
form_sort formula = Formula
form_sort imp = Formula
form_sort disj = Formula
form_sort conj = Formula
form_sort unf = Formula
form_sort atom = Formula
form_sort term = Term
form_sort mul = Term
form_sort neg = Term
form_sort pow = Term
form_sort prim = Term
form_sort prog = Program
form_sort seq = Program
form_sort stmt = Program

-- the nonterminal of a sort
abbrev pub top : Sort → Nonterminal
top Term = term
top Formula = formula
top Program = prog
