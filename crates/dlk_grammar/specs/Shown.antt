-- Canonical text: how each tree and each sequent is written.
use Rattle.std.specs.Prelude.{ℕ, zero, suc, ◌+◌, ◌/◌, ◌%◌, ◌^◌, ◌==◌, nat_lt, Bool, true, false, if◌then◌else◌, List, [], ◌∷◌, ◌++◌, Option, Some}
use Rattle.std.specs.Prelude.{None, length, drop, slice_index_or, codes}
use Rattle.std.specs.List.{join_by}
use Rattle.std.specs.Fmt.{decimal}
use Rattle.dlk_tree.specs.declared.op.Num.{Num}
use Rattle.dlk_tree.specs.declared.op.Var.{Var}
use Rattle.dlk_tree.specs.declared.op.Sort.{Sort}
use Rattle.dlk_tree.specs.declared.op.Sort.TheVariants.{Term, Formula, Program}
use Rattle.dlk_tree.specs.declared.op.OdeItem.{OdeItem}
use Rattle.dlk_tree.specs.declared.op.OdeItem.TheVariants.{Evolve, Const}
use Rattle.dlk_tree.specs.declared.op.Op.{Op}
use Rattle.dlk_tree.specs.declared.op.Op.TheVariants as op
use Rattle.dlk_tree.specs.Table.{sort_of, evolved}
use Rattle.dlk_tree.specs.Trees.{Tree, node, root, trees_in, Forest, no_kids, kid}
use Rattle.dlk_calculus.specs.Sequents.{Sequent}
use Rattle.dlk_grammar.specs.declared.token.Mark.{Mark}
use Rattle.dlk_grammar.specs.declared.token.Mark.TheVariants.{Forall, Exists, RoundBars, RoundBar, BarRound, BraceBar, BarBrace, OpenRound}
use Rattle.dlk_grammar.specs.declared.token.Mark.TheVariants.{CloseRound, OpenSquare, CloseSquare, OpenBrace, CloseBrace, Equiv, Imply, And, Or, Not}
use Rattle.dlk_grammar.specs.declared.token.Mark.TheVariants.{Turnstile, Equal, NotEqual, AtLeast, Greater, AtMost, Less, Plus, Minus, Star, Slash}
use Rattle.dlk_grammar.specs.declared.token.Mark.TheVariants.{Caret, Prime, Gets, Choice, Query, Semicolon, Comma}
use Rattle.dlk_grammar.specs.declared.token.TokenKind.{TokenKind}
use Rattle.dlk_grammar.specs.declared.token.TokenKind.TheVariants as token
use Rattle.dlk_grammar.specs.Tokens.{spelling}

-- a token or a space
pub data Piece : Type 0 where
  one : TokenKind → Piece
  space : Piece

abbrev pub mark : Mark → Piece
mark m = one (token.Mark m)

abbrev pub word : List ℕ → Piece
word x = one (token.Word x)

-- the last w decimal digits of n
abbrev pub last_digits : ℕ → ℕ → List ℕ
last_digits zero n = []
last_digits (suc w) n = last_digits w (n / 10) ++ (48 + n % 10) ∷ []

-- a number: its integer part, and where its scale isn't 0 a point and as many digits as the scale
abbrev pub literal : Num → List ℕ
literal n = if n.scale == 0 then decimal n.digits else decimal (n.digits / 10 ^ n.scale) ++ (codes "." ++ last_digits n.scale n.digits)

-- the bytes of a token; no tree is written with one of the last two kinds
abbrev pub token_text : TokenKind → List ℕ
token_text (token.Word x) = x
token_text token.True = codes "true"
token_text token.False = codes "false"
token_text (token.Number n) = literal n
token_text (token.Dot n) = codes "._" ++ decimal n
token_text token.Hole = codes "_"
token_text (token.Mark m) = spelling m
token_text token.LongNumber = []
token_text token.End = []

-- the bytes of a text
abbrev pub spell : List Piece → List ℕ
spell [] = []
spell (one k ∷ ps) = token_text k ++ spell ps
spell (space ∷ ps) = 32 ∷ spell ps

-- How an operator is written: its level, the least levels of its first kid and of the later ones, what stands before its kids,
-- between two of them and behind them, and the items of a system, which stand among its kids.
pub record Style : Type 0 where
  pub level : ℕ
  pub first : ℕ
  pub later : ℕ
  pub opening : List Piece
  pub between : List Piece
  pub closing : List Piece
  pub items : Option (List OdeItem)

-- kids of any level between an opening and a closing, with commas
abbrev pub enclosed : ℕ → List Piece → List Piece → Style
enclosed level opening closing = record { level = level; first = 1; later = 1; opening = opening; between = mark Comma ∷ []; closing = closing; items = None }

-- an operator before its kid
abbrev pub prefixed : ℕ → ℕ → List Piece → Style
prefixed level least opening = record { level = level; first = least; later = least; opening = opening; between = []; closing = []; items = None }

-- an operator between its kids
abbrev pub infixed : ℕ → ℕ → ℕ → List Piece → Style
infixed level first later between = record { level = level; first = first; later = later; opening = []; between = between; closing = []; items = None }

-- a program in brackets before a formula
abbrev pub modal : Piece → Piece → Style
modal opening closing = record { level = 5; first = 1; later = 5; opening = opening ∷ []; between = closing ∷ []; closing = []; items = None }

abbrev pub variable : Var → List Piece
variable v = word v.name ∷ (if v.primed then mark Prime ∷ [] else [])

-- the brackets of a unit symbol, with its taboo
abbrev pub unit_brackets : Option (List ℕ) → List Piece
unit_brackets None = mark RoundBars ∷ []
unit_brackets (Some y) = mark RoundBar ∷ word y ∷ mark BarRound ∷ []

-- the brackets of an ODE constant, which has none without a taboo
abbrev pub ode_brackets : Option (List ℕ) → List Piece
ode_brackets None = []
ode_brackets (Some y) = mark BraceBar ∷ word y ∷ mark BarBrace ∷ []

-- a quantifier has a space after its keyword and one after its name
abbrev pub quantifier : Mark → List ℕ → List Piece
quantifier keyword x = mark keyword ∷ space ∷ word x ∷ space ∷ []

-- an arrow has a space on each side
abbrev pub arrow : Mark → List Piece
arrow m = space ∷ mark m ∷ space ∷ []

-- the table of styles
abbrev pub style : Op → Style
style (op.Variable v) = enclosed 5 (variable v) []
style (op.Number n) = enclosed 5 (one (token.Number n) ∷ []) []
style (op.Dot n) = enclosed 5 (one (token.Dot n) ∷ []) []
style (op.UnitFun s) = enclosed 5 (word s.name ∷ []) (unit_brackets s.taboo)
style (op.Apply s) = enclosed 5 (word s.name ∷ mark OpenRound ∷ []) (mark CloseRound ∷ [])
style op.Neg = prefixed 3 3 (mark Minus ∷ [])
style op.Diff = enclosed 5 (mark OpenRound ∷ []) (mark CloseRound ∷ mark Prime ∷ [])
style op.Add = infixed 1 1 2 (mark Plus ∷ [])
style op.Sub = infixed 1 1 2 (mark Minus ∷ [])
style op.Mul = infixed 2 2 3 (mark Star ∷ [])
style op.Div = infixed 2 2 3 (mark Slash ∷ [])
style op.Pow = infixed 4 5 3 (mark Caret ∷ [])
style op.True = enclosed 6 (one token.True ∷ []) []
style op.False = enclosed 6 (one token.False ∷ []) []
style op.Hole = enclosed 6 (one token.Hole ∷ []) []
style (op.UnitPred s) = enclosed 6 (word s.name ∷ []) (unit_brackets s.taboo)
style (op.Holds s) = enclosed 6 (word s.name ∷ mark OpenRound ∷ []) (mark CloseRound ∷ [])
style op.Eq = infixed 6 1 1 (mark Equal ∷ [])
style op.Ne = infixed 6 1 1 (mark NotEqual ∷ [])
style op.Ge = infixed 6 1 1 (mark AtLeast ∷ [])
style op.Gt = infixed 6 1 1 (mark Greater ∷ [])
style op.Le = infixed 6 1 1 (mark AtMost ∷ [])
style op.Lt = infixed 6 1 1 (mark Less ∷ [])
style (op.Predicational s) = enclosed 6 (word s.name ∷ mark OpenBrace ∷ []) (mark CloseBrace ∷ [])
style op.Not = prefixed 5 5 (mark Not ∷ [])
style op.DiffF = enclosed 6 (mark OpenRound ∷ []) (mark CloseRound ∷ mark Prime ∷ [])
style (op.Forall x) = prefixed 5 5 (quantifier Forall x)
style (op.Exists x) = prefixed 5 5 (quantifier Exists x)
style op.And = infixed 4 5 4 (mark And ∷ [])
style op.Or = infixed 3 4 3 (mark Or ∷ [])
style op.Imply = infixed 2 3 2 (arrow Imply)
style op.Equiv = infixed 1 2 1 (arrow Equiv)
style op.Box = modal (mark OpenSquare) (mark CloseSquare)
style op.Dia = modal (mark Less) (mark Greater)
style (op.Const s) = enclosed 3 (word s.name ∷ mark Semicolon ∷ []) []
style (op.Assign v) = enclosed 3 (variable v ++ mark Gets ∷ []) (mark Semicolon ∷ [])
style (op.Any x) = enclosed 3 (word x ∷ mark Gets ∷ mark Star ∷ mark Semicolon ∷ []) []
style op.Test = enclosed 3 (mark Query ∷ []) (mark Semicolon ∷ [])
style (op.System items) = record (enclosed 3 (mark OpenBrace ∷ []) (mark CloseBrace ∷ [])) { items = Some items }
style op.Choice = infixed 1 2 1 (mark Choice ∷ [])
style op.Seq = infixed 2 3 2 []
style op.Loop = enclosed 3 (mark OpenBrace ∷ []) (mark CloseBrace ∷ mark Star ∷ [])

abbrev pub level : Op → ℕ
level o = (style o).level

-- the least level of the kid at place i
abbrev pub least : Op → ℕ → ℕ
least o i = if i == 0 then (style o).first else (style o).later

abbrev pub opening : Op → List Piece
opening o = (style o).opening

abbrev pub between : Op → List Piece
between o = (style o).between

abbrev pub closing : Op → List Piece
closing o = (style o).closing

-- a system's items
abbrev pub items_of : Op → Option (List OdeItem)
items_of o = (style o).items

-- the bracket that opens before what stands below its least level
abbrev pub open_bracket : Sort → Piece
open_bracket Term = mark OpenRound
open_bracket Formula = mark OpenRound
open_bracket Program = mark OpenBrace

abbrev pub close_bracket : Sort → Piece
close_bracket Term = mark CloseRound
close_bracket Formula = mark CloseRound
close_bracket Program = mark CloseBrace

abbrev pub bracketed : Bool → Sort → List Piece → List Piece
bracketed true s text = open_bracket s ∷ (text ++ close_bracket s ∷ [])
bracketed false s text = text

-- texts with another between each two
abbrev pub joined : List Piece → List (List Piece) → List Piece
joined between texts = join_by (λ text. text) between texts

-- the text of a system's item, with the next of the terms for a name that it evolves
abbrev pub item_text : OdeItem → List (List Piece) → List Piece
item_text (Const s) terms = word s.name ∷ ode_brackets s.taboo
item_text (Evolve x) terms = word x ∷ mark Prime ∷ mark Equal ∷ slice_index_or terms 0 []

-- the terms that an item leaves to the later ones
abbrev pub terms_behind : OdeItem → List (List Piece) → List (List Piece)
terms_behind (Const s) terms = terms
terms_behind (Evolve x) terms = drop 1 terms

abbrev pub item_texts : List OdeItem → List (List Piece) → List (List Piece)
item_texts [] terms = []
item_texts (item ∷ items) terms = item_text item terms ∷ item_texts items (terms_behind item terms)

abbrev pub is_true : Op → Bool
is_true op.True = true
is_true _ = false

-- what stands behind a system's items: `&` and the text of the domain, or nothing where the domain is `true`
abbrev pub domain_text : Tree → List Piece → List Piece
domain_text domain text = if is_true (root domain) then [] else mark And ∷ text

-- what stands between an operator's opening and closing: its kids' texts, in a system those of its items and of its domain,
-- the kid behind the terms
abbrev pub inside : Option (List OdeItem) → List Piece → List Tree → List (List Piece) → List Piece
inside None between kids texts = joined between texts
inside (Some items) between kids texts =
    let n = length (evolved items) in
    joined between (item_texts items texts) ++ domain_text (slice_index_or kids n (node op.True no_kids)) (slice_index_or texts n [])

abbrev mutual
  -- the text of a tree, in brackets if its level is below the least one
  pub shown_at : ℕ → Tree → List Piece
  shown_at n (node o kids) =
      bracketed (nat_lt (level o) n) (sort_of o) (opening o ++ (inside (items_of o) (between o) (trees_in kids) (shown_kids o 0 kids) ++ closing o))

  -- the texts of the kids from place i on
  pub shown_kids : Op → ℕ → Forest → List (List Piece)
  shown_kids o i no_kids = []
  shown_kids o i (kid t rest) = shown_at (least o i) t ∷ shown_kids o (i + 1) rest

-- the text of a tree
abbrev pub shown : Tree → List Piece
shown t = shown_at 1 t

-- formulas with commas and spaces between
abbrev pub formulas : List Tree → List Piece
formulas ts = join_by shown (mark Comma ∷ space ∷ []) ts

abbrev pub left_side : List Tree → List Piece
left_side [] = []
left_side (t ∷ ts) = formulas (t ∷ ts) ++ space ∷ []

abbrev pub right_side : List Tree → List Piece
right_side [] = []
right_side (t ∷ ts) = space ∷ formulas (t ∷ ts)

-- the text of a sequent
abbrev pub shown_sequent : Sequent → List Piece
shown_sequent s = left_side s.ante ++ mark Turnstile ∷ right_side s.succ
