-- The grammar of substitutions, one case a production, and what their tokens say.
use Rattle.std.specs.Prelude.{◌≡◌, ℕ, ◌+◌, ◌<◌, List, [], ◌∷◌, ◌++◌, map, codes}
use Rattle.dlk_tree.specs.declared.op.Sym.{Sym}
use Rattle.dlk_tree.specs.declared.op.Kind.TheVariants.{Func, UnitFunc, Pred, UnitPred, Quant, Prog, Ode}
use Rattle.dlk_calculus.specs.Pairs.{Pair}
use Rattle.dlk_grammar.specs.declared.token.Token.{Token}
use Rattle.dlk_grammar.specs.declared.token.Dots.TheVariants.{Allowed}
use Rattle.dlk_grammar.specs.Lexemes.{Word, Lexeme, Name, Dot, Blank, RoundBars, RoundBar, BarRound, BraceBar, BarBrace, Open, Close, OpenBrace}
use Rattle.dlk_grammar.specs.Lexemes.{CloseBrace, Semi, Comma, Becomes}
use Rattle.dlk_grammar.specs.Phrases.{Space, Everywhere, Except, Phrase, Truth, System, Items}
use Rattle.dlk_grammar.specs.Grammar.{formula, term, prog, Reads, ReadsItems}
use Rattle.dlk_grammar.specs.Erased.{symbol, erase}
use Rattle.dlk_grammar.specs.Readings.{ReadFault, IsRead, IsReadFault}

-- a function or a predicate on the left of a pair: over so many argument dots, or a unit symbol
pub data Target : Type 0 where
  Over : Word → ℕ → Target
  Unit : Word → Space → Target

abbrev pub function : Target → Sym
function (Over x n) = symbol Func x n Everywhere
function (Unit x s) = symbol UnitFunc x 0 s

abbrev pub predicate : Target → Sym
predicate (Over x n) = symbol Pred x n Everywhere
predicate (Unit x s) = symbol UnitPred x 0 s

-- a symbol, and what replaces it as it is written
pub record PairPhrase : Type 0 where
  pub sym : Sym
  pub by : Phrase

abbrev pub to : Sym → Phrase → PairPhrase
to s a = record { sym = s; by = a }

-- how many argument dots there are: ._0 to ._7
abbrev pub most_dots : ℕ
most_dots = 8

-- dot-list = "._0" | "._0" "," "._1" | .., at most eight
pub data ReadsDots : List Lexeme → ℕ → Type 0 where
  dots-one : ReadsDots (Dot 0 ∷ []) 1
  dots-more : {s : List Lexeme} {n : ℕ} → n < most_dots → ReadsDots s n → ReadsDots (s ++ Comma ∷ Dot n ∷ []) (n + 1)

-- name "(" ")" | name "(" dot-list ")" | name "(||)" | name "(|" name "|)"
pub data ReadsTarget : List Lexeme → Target → Type 0 where
  target-nullary : {n : ℕ} {x : Word} → ReadsTarget (Name n x ∷ Open ∷ Close ∷ []) (Over x 0)
  target-dots : {n m : ℕ} {x : Word} {s : List Lexeme} → ReadsDots s m → ReadsTarget (Name n x ∷ Open ∷ (s ++ Close ∷ [])) (Over x m)
  target-any : {n : ℕ} {x : Word} → ReadsTarget (Name n x ∷ RoundBars ∷ []) (Unit x Everywhere)
  target-except : {n m : ℕ} {x y : Word} → ReadsTarget (Name n x ∷ RoundBar ∷ Name m y ∷ BarRound ∷ []) (Unit x (Except y))

-- pair = left "~>" right | "term" left "~>" right
pub data ReadsPair : List Lexeme → PairPhrase → Type 0 where
  -- a function's or a predicate's: behind the word `term` a function's, else a predicate's where its right side is a formula
  pair-formula : {s r : List Lexeme} {h : Target} {a : Phrase} → ReadsTarget s h → Reads formula r a → ReadsPair (s ++ Becomes ∷ r) (to (predicate h) a)
  pair-term : {s r : List Lexeme} {h : Target} {a : Phrase} → ReadsTarget s h → Reads term r a → ((b : Phrase) → ¬ Reads formula r b) →
      ReadsPair (s ++ Becomes ∷ r) (to (function h) a)
  pair-function : {n : ℕ} {w : Word} {s r : List Lexeme} {h : Target} {a : Phrase} → w ≡ codes "term" → ReadsTarget s h → Reads term r a →
      ReadsPair (Name n w ∷ (s ++ Becomes ∷ r)) (to (function h) a)
  -- name "{" "_" "}", a predicational's
  pair-context : {n m : ℕ} {x : Word} {r : List Lexeme} {a : Phrase} → Reads formula r a →
      ReadsPair (Name n x ∷ OpenBrace m ∷ Blank ∷ CloseBrace ∷ Becomes ∷ r) (to (symbol Quant x 0 Everywhere) a)
  -- name ";", a program constant's
  pair-program : {n : ℕ} {x : Word} {r : List Lexeme} {a : Phrase} → Reads prog r a →
      ReadsPair (Name n x ∷ Semi ∷ Becomes ∷ r) (to (symbol Prog x 0 Everywhere) a)
  -- "{" name "}" and "{" name "{|" name "|}" "}", an ODE constant's: its right side is a system without a domain
  pair-flow : {n m k : ℕ} {x : Word} {r : List Lexeme} {l : Items} → ReadsItems r l →
      ReadsPair (OpenBrace m ∷ Name n x ∷ CloseBrace ∷ Becomes ∷ OpenBrace k ∷ (r ++ CloseBrace ∷ [])) (to (symbol Ode x 0 Everywhere) (System k l Truth))
  pair-flow-except : {n m k j : ℕ} {x y : Word} {r : List Lexeme} {l : Items} → ReadsItems r l →
      ReadsPair (OpenBrace m ∷ Name n x ∷ BraceBar ∷ Name j y ∷ BarBrace ∷ CloseBrace ∷ Becomes ∷ OpenBrace k ∷ (r ++ CloseBrace ∷ []))
      (to (symbol Ode x 0 (Except y)) (System k l Truth))

-- pair-list = pair | pair-list "," pair
pub data ReadsPairs : List Lexeme → List PairPhrase → Type 0 where
  pairs-one : {s : List Lexeme} {p : PairPhrase} → ReadsPair s p → ReadsPairs s (p ∷ [])
  pairs-more : {s r : List Lexeme} {l : List PairPhrase} {p : PairPhrase} → ReadsPairs s l → ReadsPair r p → ReadsPairs (s ++ Comma ∷ r) (l ++ p ∷ [])

-- subst = nothing | pair-list
pub data ReadsSubstitution : List Lexeme → List PairPhrase → Type 0 where
  subst-nothing : ReadsSubstitution [] []
  subst-pairs : {s : List Lexeme} {l : List PairPhrase} → ReadsPairs s l → ReadsSubstitution s l

abbrev pub replacements : List PairPhrase → List Phrase
replacements l = map (λ p. p.by) l

abbrev pub erase_pairs : List PairPhrase → List Pair
erase_pairs l = map (λ p. record { sym = p.sym; by = erase p.by }) l

-- the tokens are those of the pairs; dots are allowed
abbrev pub ArePairs : List Token → List Pair → Type 0
ArePairs tokens pairs = IsRead ReadsSubstitution replacements Allowed tokens erase_pairs pairs

abbrev pub ArePairsFault : List Token → ReadFault → Type 0
ArePairsFault tokens why = IsReadFault ReadsSubstitution replacements Allowed tokens why
