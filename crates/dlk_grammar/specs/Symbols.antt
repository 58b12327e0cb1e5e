-- How a symbol is written by itself: over its argument dots, as on the left side of a substitution's pair; and how the pairs are.
use Rattle.std.specs.Prelude.{ℕ, Bool, true, false, ◌&&◌, if◌then◌else◌, List, [], ◌∷◌, ◌++◌, map, codes}
use Rattle.std.specs.List.{join_by, range_with_len}
use Rattle.dlk_tree.specs.declared.op.Op.TheVariants.{Apply, UnitFun, Diff}
use Rattle.dlk_tree.specs.Trees.{Tree, node, Forest, no_kids, kid}
use Rattle.dlk_calculus.specs.Pairs.{Pair}
use Rattle.dlk_tree.specs.declared.op.Sym.{Sym}
use Rattle.dlk_tree.specs.declared.op.Kind.{Kind}
use Rattle.dlk_tree.specs.declared.op.Kind.TheVariants.{Func, UnitFunc, Pred, UnitPred, Quant, Prog, Ode}
use Rattle.dlk_grammar.specs.declared.token.Mark.TheVariants.{OpenRound, CloseRound, OpenBrace, CloseBrace, Semicolon, Comma, Becomes}
use Rattle.dlk_grammar.specs.declared.token.TokenKind.TheVariants as token
use Rattle.dlk_grammar.specs.Shown.{Piece, one, space, mark, word, joined, unit_brackets, ode_brackets, shown}

-- so many argument dots in order, in brackets
abbrev pub dots : ℕ → List Piece
dots n = mark OpenRound ∷ (joined (mark Comma ∷ []) (map (λ i. one (token.Dot i) ∷ []) (range_with_len 0 n)) ++ mark CloseRound ∷ [])

-- the text of a symbol of this kind. One row a kind.
abbrev pub shown_as : Kind → Sym → List Piece
shown_as Func s = word s.name ∷ dots s.arity
shown_as UnitFunc s = word s.name ∷ unit_brackets s.taboo
shown_as Pred s = word s.name ∷ dots s.arity
shown_as UnitPred s = word s.name ∷ unit_brackets s.taboo
shown_as Quant s = word s.name ∷ mark OpenBrace ∷ one token.Hole ∷ mark CloseBrace ∷ []
shown_as Prog s = word s.name ∷ mark Semicolon ∷ []
shown_as Ode s = mark OpenBrace ∷ word s.name ∷ (ode_brackets s.taboo ++ mark CloseBrace ∷ [])

-- the text of a symbol
abbrev pub shown_symbol : Sym → List Piece
shown_symbol s = shown_as s.kind s

-- a function
abbrev pub is_function : Kind → Bool
is_function Func = true
is_function UnitFunc = true
is_function Pred = false
is_function UnitPred = false
is_function Quant = false
is_function Prog = false
is_function Ode = false

-- a term whose text is a formula's, too: an application, a unit function, or a `( )'` of such a term, however deep
abbrev mutual
  pub is_formula_too : Tree → Bool
  is_formula_too (node (Apply s) kids) = true
  is_formula_too (node (UnitFun s) kids) = true
  is_formula_too (node Diff kids) = first_is_formula_too kids
  is_formula_too (node _ kids) = false

  pub first_is_formula_too : Forest → Bool
  first_is_formula_too no_kids = false
  first_is_formula_too (kid t rest) = is_formula_too t

-- the word that tells a function's pair from a predicate's, where the right side doesn't
abbrev pub term_word : Pair → List Piece
term_word p = if is_function p.sym.kind && is_formula_too p.by then word (codes "term") ∷ space ∷ [] else []

-- the text of a pair
abbrev pub shown_pair : Pair → List Piece
shown_pair p = term_word p ++ (shown_symbol p.sym ++ mark Becomes ∷ shown p.by)

-- the text of a substitution
abbrev pub shown_pairs : List Pair → List Piece
shown_pairs pairs = join_by shown_pair (mark Comma ∷ []) pairs
