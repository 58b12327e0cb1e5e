-- A symbol by itself, on the left of a pair: what its tokens say, that its bytes are these tokens, and that they have no fault.
use Rattle.std.proofs.Common.{◌≡◌, ℕ, zero, suc, ◌+◌, ◌≤◌, Bool, true, false, ◌&&◌, ◌==◌, List, [], ◌∷◌, ◌++◌, flat_map, map, Option, Some, None}
use Rattle.std.proofs.Common.{refl, sym, ap, subst, subst₂, ◌∙◌, append_assoc, append-nil, arith, eq-eqb}
use Rattle.std.specs.List.{range_with_len}
use Rattle.dlk_tree.specs.declared.op.Kind.{Kind}
use Rattle.dlk_tree.specs.declared.op.Kind.TheVariants.{Func, UnitFunc, Pred, UnitPred, Quant, Prog, Ode}
use Rattle.dlk_tree.specs.declared.op.Sym.{Sym}
use Rattle.dlk_tree.specs.Names.{is_name}
use Rattle.dlk_tree.specs.Table.{is_sym, is_sym_of, taboo_is_name}
use Rattle.dlk_tree.specs.Tests.{kind_rank}
use Rattle.dlk_grammar.specs.declared.token.Mark.TheVariants as mark
use Rattle.dlk_grammar.specs.declared.token.TokenKind.TheVariants as token
use Rattle.dlk_grammar.specs.declared.token.Dots.TheVariants.{Allowed}
use Rattle.dlk_grammar.specs.Lexemes.{Lexeme, Dot, Comma}
use Rattle.dlk_grammar.specs.Substitutions.{Target, Over, Unit as UnitOver, function, predicate, most_dots, ReadsDots, dots-one, dots-more}
use Rattle.dlk_grammar.specs.Substitutions.{ReadsTarget, target-nullary, target-dots, target-any, target-except}
use Rattle.dlk_grammar.specs.Shown.{Piece, one, mark as the_mark, word, joined, unit_brackets, ode_brackets}
use Rattle.dlk_grammar.specs.Symbols.{dots, shown_as}
use Rattle.dlk_readback.proofs.Kids.{Each, comma}
use Rattle.dlk_readback.proofs.Told.{said, said-append}
use Rattle.dlk_readback.proofs.Symbols.{space_of, sym_parts, arity_most, called, unit_symbol}
use Rattle.dlk_readback.proofs.Neighbours.{Fine, Ends, by_mark, begins_name, alone_fine, before_fine, empty_fine, bar_fine, hole_fine, dot_fine, name_fine}
use Rattle.dlk_readback.proofs.Calm.{Moves, moves-append, flat_moves, leads_moves, trails_moves}
use Rattle.dlk_readback.proofs.Tame.{Even, joined_level}

-- so many dots, from one on
abbrev dot_texts : ℕ → ℕ → List (List Piece)
dot_texts from k = map (λ i. one (token.Dot i) ∷ []) (range_with_len from k)

abbrev with_commas : List (List Piece) → List Piece
with_commas xs = flat_map (λ x. comma ++ x) xs

-- the dots behind others
later_dots : (n : ℕ) (s : List Lexeme) (from k : ℕ) → from + k ≤ most_dots → ReadsDots s from →
    ReadsDots (s ++ said n (with_commas (dot_texts from k))) (from + k)
later_dots n s from zero most d = let all : from ≡ from + 0 = omega arith in subst₂ (λ (l : List Lexeme) (m : ℕ). ReadsDots l m) (sym (append-nil s)) all d
later_dots n s from (suc k) most d =
    let more = said (n + 1 + 1) (with_commas (dot_texts (from + 1) k)) in
    let all : (from + 1) + k ≡ from + suc k = omega arith in
    let dots : ReadsDots (s ++ Comma ∷ Dot from ∷ []) (from + 1) = dots-more (omega (arith, most)) d in
    subst₂ (λ (l : List Lexeme) (m : ℕ). ReadsDots l m) (append_assoc s (Comma ∷ Dot from ∷ []) more) all
    (later_dots (n + 1 + 1) (s ++ Comma ∷ Dot from ∷ []) (from + 1) k (omega (arith, most)) dots)

-- a symbol over so many dots
over_dots : (n : ℕ) (x : List ℕ) (k : ℕ) → k ≤ most_dots → ReadsTarget (said n (word x ∷ dots k)) (Over x k)
over_dots n x zero most = target-nullary
over_dots n x (suc k) most =
    let more = with_commas (dot_texts 1 k) in
    let all : 1 + k ≡ suc k = omega arith in
    let later = later_dots (n + 1 + 1 + 1) (Dot 0 ∷ []) 1 k (omega (arith, most)) dots-one in
    let inside : ReadsDots (Dot 0 ∷ said (n + 1 + 1 + 1) more) (suc k) = subst (λ (m : ℕ). ReadsDots (Dot 0 ∷ said (n + 1 + 1 + 1) more) m) all later in
    rw (said-append (n + 1 + 1 + 1) more (the_mark mark.CloseRound ∷ [])) (target-dots inside)

unit_target : (n : ℕ) (x : List ℕ) (y : Option (List ℕ)) → ReadsTarget (said n (word x ∷ unit_brackets y)) (UnitOver x (space_of y))
unit_target n x None = target-any
unit_target n x (Some y) = target-except

-- a function or a predicate by itself
pub record Left (make : Target → Sym) (k : Kind) (s : Sym) : Type 0 where
  pub target : Target
  pub reads : (n : ℕ) → ReadsTarget (said n (shown_as k s)) target
  pub symbol_is : make target ≡ s

pub func_left : (s : Sym) → is_sym_of Func s ≡ true → Left function Func s
func_left s h = record {
  target = Over s.name s.arity;
  reads = λ n. over_dots n s.name s.arity (arity_most Func s h (λ m. refl));
  symbol_is =
      called Func s s.arity h refl refl;
}

pub pred_left : (s : Sym) → is_sym_of Pred s ≡ true → Left predicate Pred s
pred_left s h = record {
  target = Over s.name s.arity;
  reads = λ n. over_dots n s.name s.arity (arity_most Pred s h (λ m. refl));
  symbol_is =
      called Pred s s.arity h refl refl;
}

pub unit_func_left : (s : Sym) → is_sym_of UnitFunc s ≡ true → Left function UnitFunc s
unit_func_left s h = record {
  target = UnitOver s.name (space_of s.taboo);
  reads = λ n. unit_target n s.name s.taboo;
  symbol_is =
      unit_symbol UnitFunc s h (λ m. refl);
}

pub unit_pred_left : (s : Sym) → is_sym_of UnitPred s ≡ true → Left predicate UnitPred s
unit_pred_left s h = record {
  target = UnitOver s.name (space_of s.taboo);
  reads = λ n. unit_target n s.name s.taboo;
  symbol_is =
      unit_symbol UnitPred s h (λ m. refl);
}

-- a symbol is one of its kind
pub of_kind : (k : Kind) (s : Sym) → s.kind ≡ k → is_sym s ≡ true → is_sym_of k s ≡ true
of_kind k s e h = and_true (kind_rank s.kind == kind_rank k) (is_sym s)
    (ap (λ (j : Kind). kind_rank j == kind_rank k) e ∙ eq-eqb (kind_rank k) (kind_rank k) refl) h
  where
    and_true : (x y : Bool) → x ≡ true → y ≡ true → (x && y) ≡ true
    and_true true y a b = b
    and_true false y a b = absurd cc

-- the bytes are the tokens, with anything fine behind them
AreFine : List Piece → Type 0
AreFine c = (p : List Piece) → Fine p → Fine (c ++ p)

later_fine : (from k : ℕ) → from + k ≤ 8 → (p : List Piece) → Fine p → Fine (with_commas (dot_texts from k) ++ p)
later_fine from zero le p f = f
later_fine from (suc k) le p f = alone_fine mark.Comma _ refl (dot_fine from _ (omega arith) (later_fine (from + 1) k (omega arith) p f))

dots_fine : (k : ℕ) → k ≤ 8 → (p : List Piece) → Fine p → Fine (dots k ++ p)
dots_fine zero le p f = empty_fine p f
dots_fine (suc k) le p f =
    let more = with_commas (dot_texts 1 k) in
    rw (append_assoc more (the_mark mark.CloseRound ∷ []) p)
    (before_fine mark.OpenRound _ refl (by_mark 46 refl)
    (dot_fine 0 _ (omega arith) (later_fine 1 k (omega arith) (the_mark mark.CloseRound ∷ p) (alone_fine mark.CloseRound p refl f))))

unit_fine : (y : Option (List ℕ)) → taboo_is_name y ≡ true → (p : List Piece) → Fine p → Fine (unit_brackets y ++ p)
unit_fine None g p f = alone_fine mark.RoundBars p refl f
unit_fine (Some y) g p f = bar_fine _ (begins_name y _ g) (name_fine y _ g refl (alone_fine mark.BarRound p refl f))

-- no name goes on behind the brackets' front
unit_ends : (y : Option (List ℕ)) (p : List Piece) → Ends (unit_brackets y ++ p)
unit_ends None p = refl
unit_ends (Some y) p = refl

ode_fine : (x : List ℕ) (y : Option (List ℕ)) → is_name x ≡ true → taboo_is_name y ≡ true → (p : List Piece) → Fine p →
    Fine (word x ∷ (ode_brackets y ++ the_mark mark.CloseBrace ∷ p))
ode_fine x None h g p f = name_fine x _ h refl (alone_fine mark.CloseBrace p refl f)
ode_fine x (Some y) h g p f = name_fine x _ h refl
    (alone_fine mark.BraceBar _ refl (name_fine y _ g refl (alone_fine mark.BarBrace _ refl (alone_fine mark.CloseBrace p refl f))))

-- the bytes of a symbol by itself are its tokens
pub left_fine : (k : Kind) (s : Sym) → is_sym_of k s ≡ true → (p : List Piece) → Fine p → Fine (shown_as k s ++ p)
left_fine Func s h p f = name_fine s.name _ (sym_parts Func s h).name refl (dots_fine s.arity (arity_most Func s h (λ m. refl)) p f)
left_fine Pred s h p f = name_fine s.name _ (sym_parts Pred s h).name refl (dots_fine s.arity (arity_most Pred s h (λ m. refl)) p f)
left_fine UnitFunc s h p f = let w = sym_parts UnitFunc s h in name_fine s.name _ w.name (unit_ends s.taboo p) (unit_fine s.taboo w.taboo_name p f)
left_fine UnitPred s h p f = let w = sym_parts UnitPred s h in name_fine s.name _ w.name (unit_ends s.taboo p) (unit_fine s.taboo w.taboo_name p f)
left_fine Quant s h p f = name_fine s.name _ (sym_parts Quant s h).name refl
    (before_fine mark.OpenBrace _ refl (by_mark 95 refl) (hole_fine _ (alone_fine mark.CloseBrace p refl f)))
left_fine Prog s h p f = name_fine s.name _ (sym_parts Prog s h).name refl (alone_fine mark.Semicolon p refl f)
left_fine Ode s h p f =
    let w = sym_parts Ode s h in
    rw (append_assoc (ode_brackets s.taboo) (the_mark mark.CloseBrace ∷ []) p)
    (before_fine mark.OpenBrace _ refl (begins_name s.name _ w.name) (ode_fine s.name s.taboo w.name w.taboo_name p f))

-- the tokens of a symbol by itself have no fault
dots_level : (from k : ℕ) → Each (Moves Allowed 1 1 1) (dot_texts from k)
dots_level from zero = tt
dots_level from (suc k) = (flat_moves (one (token.Dot from) ∷ []) (omega arith) refl, dots_level (from + 1) k)

dots_even : (x : List ℕ) (k : ℕ) → Even Allowed 1 (word x ∷ dots k)
dots_even x k =
    let text = joined comma (dot_texts 0 k) in
    moves-append (word x ∷ the_mark mark.OpenRound ∷ []) (text ++ the_mark mark.CloseRound ∷ [])
    (leads_moves (word x ∷ the_mark mark.OpenRound ∷ []) (omega arith) refl)
    (moves-append text (the_mark mark.CloseRound ∷ []) (joined_level Allowed 1 1 (omega arith) comma (dot_texts 0 k) refl (dots_level 0 k))
    (trails_moves (the_mark mark.CloseRound ∷ []) (omega arith) refl))

unit_even : (x : List ℕ) (y : Option (List ℕ)) → Even Allowed 1 (word x ∷ unit_brackets y)
unit_even x None = flat_moves (word x ∷ unit_brackets None) (omega arith) refl
unit_even x (Some y) = flat_moves (word x ∷ unit_brackets (Some y)) (omega arith) refl

name_level : (x : List ℕ) (y : Option (List ℕ)) → Moves Allowed 1 1 1 (word x ∷ ode_brackets y)
name_level x None = flat_moves (word x ∷ ode_brackets None) (omega arith) refl
name_level x (Some y) = flat_moves (word x ∷ ode_brackets (Some y)) (omega arith) refl

pub left_even : (k : Kind) (s : Sym) → Even Allowed 1 (shown_as k s)
left_even Func s = dots_even s.name s.arity
left_even Pred s = dots_even s.name s.arity
left_even UnitFunc s = unit_even s.name s.taboo
left_even UnitPred s = unit_even s.name s.taboo
left_even Quant s =
    moves-append (word s.name ∷ the_mark mark.OpenBrace ∷ []) (one token.Hole ∷ the_mark mark.CloseBrace ∷ [])
    (leads_moves (word s.name ∷ the_mark mark.OpenBrace ∷ []) (omega arith) refl)
    (moves-append (one token.Hole ∷ []) (the_mark mark.CloseBrace ∷ []) (flat_moves (one token.Hole ∷ []) (omega arith) refl)
    (trails_moves (the_mark mark.CloseBrace ∷ []) (omega arith) refl))
left_even Prog s = flat_moves (word s.name ∷ the_mark mark.Semicolon ∷ []) (omega arith) refl
left_even Ode s =
    let text = word s.name ∷ ode_brackets s.taboo in
    moves-append (the_mark mark.OpenBrace ∷ []) (text ++ the_mark mark.CloseBrace ∷ []) (leads_moves (the_mark mark.OpenBrace ∷ []) (omega arith) refl)
    (moves-append text (the_mark mark.CloseBrace ∷ []) (name_level s.name s.taboo) (trails_moves (the_mark mark.CloseBrace ∷ []) (omega arith) refl))
