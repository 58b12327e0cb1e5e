-- Which terms have a text that a formula says, too.
use Rattle.std.proofs.Common.{◌≡◌, Bool, true, false, ◌&&◌, List, [], ◌∷◌, ◌++◌, refl, sym, ap, ◌∙◌}
use Rattle.std.specs.List.{list_all}
use Rattle.std.proofs.lemmas.Bool.{and_parts}
use Rattle.std.proofs.lemmas.List.Folds.{list_all-append}
use Rattle.dlk_grammar.specs.declared.token.Infix.{Infix}
use Rattle.dlk_grammar.specs.declared.token.Infix.TheVariants as sign
use Rattle.dlk_grammar.specs.Lexemes.{Lexeme, Name, Number, Dot, Open, Close, Comma, Prime, RoundBars, RoundBar, BarRound, Op}
use Rattle.dlk_grammar.specs.Phrases.{Phrase, Phrases, none, Head, Call, Any, Apply, Diff, Everywhere, Except}
use Rattle.dlk_grammar.specs.Grammar
use Rattle.dlk_grammar.specs.Grammar.{Nonterminal, formula, imp, disj, conj, unf, atom, term, mul, neg, pow, prim, Reads, ReadsList}
use Rattle.dlk_grammar.specs.Erased.{erase}
use Rattle.dlk_grammar.specs.Symbols.{is_formula_too}
use Rattle.dlk_machine.proofs.ParseLaws.{one_read}

abbrev is_term_sign : Infix → Bool
is_term_sign sign.Add = true
is_term_sign sign.Sub = true
is_term_sign sign.Mul = true
is_term_sign sign.Div = true
is_term_sign sign.Pow = true
is_term_sign _ = false

-- the lexemes of terms
abbrev is_of_term : Lexeme → Bool
is_of_term (Name n x) = true
is_of_term (Number d) = true
is_of_term (Dot n) = true
is_of_term Open = true
is_of_term Close = true
is_of_term Comma = true
is_of_term Prime = true
is_of_term RoundBars = true
is_of_term RoundBar = true
is_of_term BarRound = true
is_of_term (Op i) = is_term_sign i
is_of_term _ = false

abbrev are_of_term : List Lexeme → Bool
are_of_term s = list_all is_of_term s

around : (s r : List Lexeme) (k : Lexeme) → are_of_term s ≡ true → is_of_term k ≡ true → are_of_term r ≡ true → are_of_term (s ++ k ∷ r) ≡ true
around s r k h m g = rw (list_all-append is_of_term s (k ∷ r), h, m, g) refl

-- what is said of the lexemes of a form that reads terms
abbrev OfTerm : Nonterminal → List Lexeme → Type 0
OfTerm term s = are_of_term s ≡ true
OfTerm mul s = are_of_term s ≡ true
OfTerm neg s = are_of_term s ≡ true
OfTerm pow s = are_of_term s ≡ true
OfTerm prim s = are_of_term s ≡ true
OfTerm _ s = Unit {0}

mutual
  of_term : {f : Nonterminal} {s : List Lexeme} {p : Phrase} → Reads f s p → OfTerm f s
  of_term (Grammar.term-mul r) = of_term r
  of_term (Grammar.term-add {s = s} {r = r} d e) = around s r (Op sign.Add) (of_term d) refl (of_term e)
  of_term (Grammar.term-sub {s = s} {r = r} d e) = around s r (Op sign.Sub) (of_term d) refl (of_term e)
  of_term (Grammar.mul-neg r) = of_term r
  of_term (Grammar.mul-times {s = s} {r = r} d e) = around s r (Op sign.Mul) (of_term d) refl (of_term e)
  of_term (Grammar.mul-over {s = s} {r = r} d e) = around s r (Op sign.Div) (of_term d) refl (of_term e)
  of_term (Grammar.neg-pow r) = of_term r
  of_term (Grammar.neg-minus d) = of_term d
  of_term (Grammar.pow-prim r) = of_term r
  of_term (Grammar.pow-power {s = s} {r = r} d e) = around s r (Op sign.Pow) (of_term d) refl (of_term e)
  of_term Grammar.prim-number = refl
  of_term Grammar.prim-dot = refl
  of_term Grammar.prim-name = refl
  of_term Grammar.prim-primed = refl
  of_term Grammar.prim-nullary = refl
  of_term (Grammar.prim-apply {s = s} l) = around s [] Close (of_terms l) refl refl
  of_term Grammar.prim-any = refl
  of_term Grammar.prim-except = refl
  of_term (Grammar.prim-bracket {s = s} d) = around s [] Close (of_term d) refl refl
  of_term (Grammar.prim-diff {s = s} d) = around s (Prime ∷ []) Close (of_term d) refl refl
  of_term _ = tt

  of_terms : {f : Nonterminal} {s : List Lexeme} {l : Phrases} → ReadsList f s l → OfTerm f s
  of_terms {f} (Grammar.list-one d) = of_term d
  of_terms {f} (Grammar.list-more {s = s} {r = r} l d) = in_list f s r (of_terms l) (of_term d)
    where
      in_list : (f : Nonterminal) (s r : List Lexeme) → OfTerm f s → OfTerm f r → OfTerm f (s ++ Comma ∷ r)
      in_list term s r h g = around s r Comma h refl g
      in_list mul s r h g = around s r Comma h refl g
      in_list neg s r h g = around s r Comma h refl g
      in_list pow s r h g = around s r Comma h refl g
      in_list prim s r h g = around s r Comma h refl g
      in_list _ s r h g = tt

-- phrases of terms that are formulas, too
data Ambiguous : Phrase → Type 0 where
  applied : (h : Head) → Ambiguous (Apply h)
  differential : {a : Phrase} → Ambiguous a → Ambiguous (Diff a)

record BothWays (s : List Lexeme) : Type 0 where
  pub phrase : Phrase
  pub reads : Reads prim s phrase
  pub is : Ambiguous phrase

as_term : {s : List Lexeme} {a : Phrase} → Reads prim s a → Reads term s a
as_term r = Grammar.term-mul (Grammar.mul-neg (Grammar.neg-pow (Grammar.pow-prim r)))

-- what is said of the lexemes of terms, where a form reads formulas
abbrev OfFormula : Nonterminal → List Lexeme → Type 0
OfFormula formula s = BothWays s
OfFormula imp s = BothWays s
OfFormula disj s = BothWays s
OfFormula conj s = BothWays s
OfFormula unf s = BothWays s
OfFormula atom s = BothWays s
OfFormula _ s = Unit {0}

-- a lexeme of no term stands in the middle
no_middle : {A : Type 0} (s r : List Lexeme) (k : Lexeme) → are_of_term (s ++ k ∷ r) ≡ true → is_of_term k ≡ false → A
no_middle s r k h m = let w = and_parts (is_of_term k) (are_of_term r)
    (and_parts (are_of_term s) (is_of_term k && are_of_term r) (sym (list_all-append is_of_term s (k ∷ r)) ∙ h)).1 in let v : false ≡ true = sym m
    ∙ w.0 in absurd cc

no_sign : {A : Type 0} (s r : List Lexeme) (o : Infix) → are_of_term (s ++ Op o ∷ r) ≡ true → Grammar.Compares o → A
no_sign s r o h Grammar.cmp-equal = no_middle s r (Op sign.Equal) h refl
no_sign s r o h Grammar.cmp-not_equal = no_middle s r (Op sign.NotEqual) h refl
no_sign s r o h Grammar.cmp-at_least = no_middle s r (Op sign.AtLeast) h refl
no_sign s r o h Grammar.cmp-greater = no_middle s r (Op sign.Greater) h refl
no_sign s r o h Grammar.cmp-at_most = no_middle s r (Op sign.AtMost) h refl
no_sign s r o h Grammar.cmp-less = no_middle s r (Op sign.Less) h refl

front : (s r : List Lexeme) → are_of_term (s ++ r) ≡ true → are_of_term s ≡ true
front s r h = (and_parts (are_of_term s) (are_of_term r) (sym (list_all-append is_of_term s r) ∙ h)).0

both_ways : {f : Nonterminal} {s : List Lexeme} {p : Phrase} → Reads f s p → are_of_term s ≡ true → OfFormula f s
both_ways (Grammar.formula-imp r) h = both_ways r h
both_ways (Grammar.formula-equiv {s = s} {r = r} d e) h = no_middle s r (Op sign.Equiv) h refl
both_ways (Grammar.imp-disj r) h = both_ways r h
both_ways (Grammar.imp-imply {s = s} {r = r} d e) h = no_middle s r (Op sign.Imply) h refl
both_ways (Grammar.disj-conj r) h = both_ways r h
both_ways (Grammar.disj-or {s = s} {r = r} d e) h = no_middle s r (Op sign.Or) h refl
both_ways (Grammar.conj-unf r) h = both_ways r h
both_ways (Grammar.conj-and {s = s} {r = r} d e) h = no_middle s r (Op sign.And) h refl
both_ways (Grammar.unf-not d) h = absurd cc
both_ways (Grammar.unf-forall d) h = absurd cc
both_ways (Grammar.unf-exists d) h = absurd cc
both_ways (Grammar.unf-box d e) h = absurd cc
both_ways (Grammar.unf-dia d e) h = absurd cc
both_ways (Grammar.unf-atom r) h = both_ways r h
both_ways Grammar.atom-true h = absurd cc
both_ways Grammar.atom-false h = absurd cc
both_ways Grammar.atom-hole h = absurd cc
both_ways (Grammar.atom-compare {o = o} {s = s} {r = r} c d e) h = no_sign s r o h c
both_ways (Grammar.atom-nullary {n = n} {x = x}) h = record { phrase = Apply (Call n x none); reads = Grammar.prim-nullary; is = applied (Call n x none) }
both_ways (Grammar.atom-holds {n = n} {x = x} {l = l} d) h = record { phrase = Apply (Call n x l); reads = Grammar.prim-apply d; is = applied (Call n x l) }
both_ways (Grammar.atom-any {x = x}) h = record { phrase = Apply (Any x Everywhere); reads = Grammar.prim-any; is = applied (Any x Everywhere) }
both_ways (Grammar.atom-except {x = x} {y = y}) h = record { phrase = Apply (Any x (Except y)); reads = Grammar.prim-except; is = applied (Any x (Except y)) }
both_ways (Grammar.atom-context d) h = absurd cc
both_ways (Grammar.atom-bracket {s = s} d) h = let w = both_ways d (front s (Close ∷ []) h) in
    record { phrase = w.phrase; reads = Grammar.prim-bracket (as_term w.reads); is = w.is }
both_ways (Grammar.atom-diff {s = s} d) h = let w = both_ways d (front s (Close ∷ Prime ∷ []) h) in
    record { phrase = Diff w.phrase; reads = Grammar.prim-diff (as_term w.reads); is = differential w.is }
both_ways _ h = tt

-- the tree of such a phrase
ambiguous_tree : {a : Phrase} → Ambiguous a → is_formula_too (erase a) ≡ true
ambiguous_tree (applied (Call n x l)) = refl
ambiguous_tree (applied (Any x s)) = refl
ambiguous_tree (differential d) = ambiguous_tree d

-- a text of another term is no formula's
pub no_formula : (s : List Lexeme) (a : Phrase) → Reads term s a → is_formula_too (erase a) ≡ false → (b : Phrase) → ¬ Reads formula s b
no_formula s a r h b f =
    let w = both_ways f (of_term r) in
    let same = one_read term s w.phrase a (as_term w.reads) r in
    let v : true ≡ false = sym (ambiguous_tree w.is) ∙ ap (λ (p : Phrase). is_formula_too (erase p)) same ∙ h in
    absurd cc
