-- Which trees and pairs are read from their canonical text, and as what.
use Rattle.std.specs.Prelude.{◌≡◌, ◌≤◌, true, false}
use Rattle.dlk_tree.specs.declared.op.Sort.{Sort}
use Rattle.dlk_tree.specs.declared.op.Sort.TheVariants as sort
use Rattle.dlk_tree.specs.Table.{is_sym}
use Rattle.dlk_tree.specs.Trees.{Tree, size, depth, WellMade}
use Rattle.dlk_tree.specs.Occurs.{has_dots, has_hole}
use Rattle.dlk_calculus.specs.Pairs.{Pair, is_of_kind}
use Rattle.dlk_grammar.specs.declared.token.Dots.{Dots}
use Rattle.dlk_grammar.specs.declared.token.Dots.TheVariants.{Refused, Allowed}
use Rattle.dlk_grammar.specs.declared.token.Form.{Form}
use Rattle.dlk_grammar.specs.declared.token.Form.TheVariants.{Formula, Term, Program}
use Rattle.dlk_calculus.specs.Limits.{most_nodes, greatest_depth}

-- what the text of a tree of this sort is to be
abbrev pub form_of : Sort → Form
form_of sort.Term = Term
form_of sort.Formula = Formula
form_of sort.Program = Program

-- neither too big nor too deep to be read
pub record IsWithinLimits (t : Tree) : Type 0 where
  pub small : size t ≤ most_nodes
  pub shallow : depth t ≤ greatest_depth

-- no argument dot and no hole where they are refused
abbrev pub HasNoneRefused : Dots → Tree → Type 0
HasNoneRefused Refused t = (has_dots t ≡ false) × (has_hole t ≡ false)
HasNoneRefused Allowed t = Unit {0}

-- a tree whose canonical text is read
pub record IsReadable (d : Dots) (t : Tree) : Type 0 where
  pub well_made : WellMade t
  pub limits : IsWithinLimits t
  pub permitted : HasNoneRefused d t

-- a pair whose canonical text is read: a symbol, and a tree of its kind
pub record IsReadablePair (p : Pair) : Type 0 where
  pub is_symbol : is_sym p.sym ≡ true
  pub is_replacement : is_of_kind p.sym.kind p.by ≡ true
  pub well_made : WellMade p.by
  pub limits : IsWithinLimits p.by
