-- The first fault of tokens, and that there is none.
use Rattle.std.proofs.Common.{◌≡◌, refl, ℕ, zero, suc, ◌<◌, ◌≤◌, List, [], ◌∷◌, ◌++◌, map, Some, None, sym, ap, subst, ◌∙◌, arith}
use Rattle.std.specs.Prelude.{All, flat_map, slice_get}
use Rattle.std.proofs.lemmas.List.Elements.{All-head, All-tail}
use Rattle.dlk_tree.specs.Trees.{Tree, size, depth}
use Rattle.dlk_grammar.specs.declared.token.Token.{Token}
use Rattle.dlk_grammar.specs.declared.token.Dots.{Dots}
use Rattle.dlk_grammar.specs.Lexemes.{Lexeme, lexemes}
use Rattle.dlk_grammar.specs.Phrases.{Phrase}
use Rattle.dlk_grammar.specs.Erased.{erase, ills, lowest}
use Rattle.dlk_calculus.specs.Limits.{most_nodes, greatest_depth}
use Rattle.dlk_grammar.specs.Readings.{Says, FirstPast, TokenAt, ReadFault, Literal, Nesting, Syntax, Shape, TooBig, TooDeep, fault_rank}
use Rattle.dlk_grammar.specs.Readings.{SpeaksAgainst, IsReadFault}
use Rattle.dlk_machine.proofs.Stopping.{said_nowhere}
use Rattle.dlk_parse.specs.Faults.{IsParseFaultOf}
use Rattle.dlk_lex.specs.Noted.{starts_of}
use Rattle.dlk_parse.specs.Limits.{AreWithinTokenLimits, IsPastTokenLimit, AreWithin, IsBeyond}
use Rattle.dlk_parse.specs.declared.fault.ParseFault.{ParseFault}
use Rattle.dlk_parse.specs.declared.fault.ParseFault.TheVariants as parse

-- trees that are all within a limit have none past it
none_past : (measure : Tree → ℕ) (limit : ℕ) (ts : List Tree) (n : ℕ) → All (λ t. measure t ≤ limit) ts → FirstPast measure limit ts n → ⊥
none_past measure limit ts n all p =
    let low : measure p.tree ≤ limit = at_seam p.before p.tree p.behind (subst (All (λ (t : Tree). measure t ≤ limit)) p.trees_are all) in
    omega (arith, p.past)
  where
    at_seam : (xs : List Tree) (x : Tree) (ys : List Tree) → All (λ t. measure t ≤ limit) (xs ++ x ∷ ys) → measure x ≤ limit
    at_seam [] x ys h = All-head (λ (t : Tree). measure t ≤ limit) x ys h
    at_seam (z ∷ xs) x ys h = at_seam xs x ys (All-tail (λ (t : Tree). measure t ≤ limit) z (xs ++ x ∷ ys) h)

-- the token that begins at the byte of a place
token_at : (tokens : List Token) (place at : ℕ) → slice_get (starts_of tokens) place ≡ Some at → TokenAt tokens place at
token_at [] place at e = absurd cc
token_at (t ∷ ts) zero at e = record { before = []; token = t; behind = ts; tokens_are = refl; count = refl; at_is = cc }
token_at (t ∷ ts) (suc place) at e =
    let w = token_at ts place at e in
    record { before = t ∷ w.before; token = w.token; behind = w.behind; tokens_are = ap (λ l. t ∷ l) w.tokens_are; count = ap suc w.count; at_is = w.at_is }

-- a form of text, in which lexemes say one thing at most
module _ {P : Type 0} (G : List Lexeme → P → Type 0) (parts : P → List Phrase) (one : (s : List Lexeme) (p q : P) → G s p → G s q → p ≡ q) (d : Dots)
    (tokens : List Token) where
  -- a literal or a bracket
  pub unruly : (e : ParseFault) → IsPastTokenLimit tokens e → IsParseFaultOf (IsReadFault G parts d tokens) e
  unruly (parse.Literal at) h = record { applies = h; first = none }
    where
      none : (other : ReadFault) → fault_rank other < 1 → ¬ SpeaksAgainst G parts d tokens other
      none (Literal k) l a = omega arith
      none (Nesting k) l a = omega arith
      none (Syntax k) l a = omega arith
      none (Shape k) l a = omega arith
      none (TooBig k) l a = omega arith
      none (TooDeep k) l a = omega arith
  unruly (parse.Nesting at) h = record { applies = h.1; first = none }
    where
      none : (other : ReadFault) → fault_rank other < 2 → ¬ SpeaksAgainst G parts d tokens other
      none (Literal k) l a = h.0.at_none k a
      none (Nesting k) l a = omega arith
      none (Syntax k) l a = omega arith
      none (Shape k) l a = omega arith
      none (TooBig k) l a = omega arith
      none (TooDeep k) l a = omega arith
  unruly (parse.Syntax at) h = absurd h
  unruly (parse.Shape at) h = absurd h
  unruly (parse.TooBig n) h = absurd h
  unruly (parse.TooDeep n) h = absurd h
  unruly parse.Memory h = absurd h

  module _ (calm : AreWithinTokenLimits tokens) where
    no_text : (other : ReadFault) → fault_rank other < 3 → ¬ SpeaksAgainst G parts d tokens other
    no_text (Literal k) l a = calm.long.at_none k a
    no_text (Nesting k) l a = calm.deep.at_none k a
    no_text (Syntax k) l a = omega arith
    no_text (Shape k) l a = omega arith
    no_text (TooBig k) l a = omega arith
    no_text (TooDeep k) l a = omega arith

    -- what is no text
    pub unread : (at : ℕ) → SpeaksAgainst G parts d tokens (Syntax at) → IsParseFaultOf (IsReadFault G parts d tokens) (parse.Syntax at)
    unread at h = record { applies = h; first = no_text }

    module _ (p : P) (says : Says d G (lexemes tokens) p) where
      same : (q : P) → Says d G (lexemes tokens) q → q ≡ p
      same q h = one (lexemes tokens) q p h.reads says.reads

      before_shape : (other : ReadFault) → fault_rank other < 4 → ¬ SpeaksAgainst G parts d tokens other
      before_shape (Literal k) l a = calm.long.at_none k a
      before_shape (Nesting k) l a = calm.deep.at_none k a
      before_shape (Syntax k) l a = said_nowhere d G p says a.1
      before_shape (Shape k) l a = omega arith
      before_shape (TooBig k) l a = omega arith
      before_shape (TooDeep k) l a = omega arith

      module _ (shape : lowest (flat_map ills (parts p)) ≡ None) where
        before_size : (other : ReadFault) → fault_rank other < 5 → ¬ SpeaksAgainst G parts d tokens other
        before_size (Literal k) l a = before_shape (Literal k) (omega arith) a
        before_size (Nesting k) l a = before_shape (Nesting k) (omega arith) a
        before_size (Syntax k) l a = before_shape (Syntax k) (omega arith) a
        before_size (Shape k) l a =
            let e : None ≡ Some a.2.0 = sym shape ∙ ap (λ (x : P). lowest (flat_map ills (parts x))) (sym (same a.0 a.1)) ∙ a.2.1 in
            cc
        before_size (TooBig k) l a = omega arith
        before_size (TooDeep k) l a = omega arith

        module _ (small : All (λ t. size t ≤ most_nodes) (map erase (parts p))) where
          before_depth : (other : ReadFault) → fault_rank other < 6 → ¬ SpeaksAgainst G parts d tokens other
          before_depth (Literal k) l a = before_size (Literal k) (omega arith) a
          before_depth (Nesting k) l a = before_size (Nesting k) (omega arith) a
          before_depth (Syntax k) l a = before_size (Syntax k) (omega arith) a
          before_depth (Shape k) l a = before_size (Shape k) (omega arith) a
          before_depth (TooBig k) l a = none_past size most_nodes (map erase (parts p)) k small
              (subst (λ (x : P). FirstPast size most_nodes (map erase (parts x)) k) (same a.0 a.1) a.2)
          before_depth (TooDeep k) l a = omega arith

      -- what is beyond the limits
      pub beyond : (e : ParseFault) → IsBeyond (parts p) (starts_of tokens) e → IsParseFaultOf (IsReadFault G parts d tokens) e
      beyond (parse.Literal at) h = absurd h
      beyond (parse.Nesting at) h = absurd h
      beyond (parse.Syntax at) h = absurd h
      beyond (parse.Shape at) h = record { applies = (p, says, (h.0, h.1, token_at tokens h.0 at h.2)); first = before_shape }
      beyond (parse.TooBig n) h = record { applies = (p, says, h.1); first = before_size h.0 }
      beyond (parse.TooDeep n) h = record { applies = (p, says, h.2); first = before_depth h.0 h.1 }
      beyond parse.Memory h = tt

      -- what is within them
      pub faultless : AreWithin (parts p) → (why : ReadFault) → ¬ SpeaksAgainst G parts d tokens why
      faultless w (Literal k) a = before_shape (Literal k) (omega arith) a
      faultless w (Nesting k) a = before_shape (Nesting k) (omega arith) a
      faultless w (Syntax k) a = before_shape (Syntax k) (omega arith) a
      faultless w (Shape k) a = before_size w.shape (Shape k) (omega arith) a
      faultless w (TooBig k) a = before_depth w.shape w.size (TooBig k) (omega arith) a
      faultless w (TooDeep k) a = none_past depth greatest_depth (map erase (parts p)) k w.depth
          (subst (λ (x : P). FirstPast depth greatest_depth (map erase (parts x)) k) (same a.0 a.1) a.2)
