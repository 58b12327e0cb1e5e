-- What the pairs of a text replace are symbols: the names in a text are names, and at most eight dots stand behind one.
use Rattle.std.proofs.Common.{◌≡◌, ◌≤◌, true, ℕ, ◌+◌, List, [], ◌∷◌, ◌++◌, All, refl, subst, arith}
use Rattle.std.specs.Prelude.{IsTrue, nat_le}
use Rattle.std.proofs.lemmas.Bool.{le-leb}
use Rattle.std.proofs.lemmas.List.Elements.{All-nil, All-cons, All-push, All-head, All-tail}
use Rattle.dlk_tree.specs.Names.{is_name}
use Rattle.dlk_tree.specs.Table.{is_sym}
use Rattle.dlk_calculus.specs.Pairs.{Pair, Extra}
use Rattle.dlk_grammar.specs.declared.token.Mark.{Mark}
use Rattle.dlk_grammar.specs.declared.token.Mark.TheVariants as mark
use Rattle.dlk_grammar.specs.declared.token.Token.{Token}
use Rattle.dlk_grammar.specs.declared.token.TokenKind.{TokenKind}
use Rattle.dlk_grammar.specs.Tokens.{Spells, word, true_word, false_word, integer, decimal, long_integer, long_decimal, dot, hole, a_mark}
use Rattle.dlk_grammar.specs.Splits.{Splits, ended, space, comment, one}
use Rattle.dlk_grammar.specs.Erased.{erase}
use Rattle.dlk_grammar.specs.Substitutions.{Target, Over, function, predicate, PairPhrase, ReadsDots, dots-one, dots-more, ReadsTarget, erase_pairs}
use Rattle.dlk_grammar.specs.Substitutions.{target-nullary, target-dots, target-any, target-except, ReadsPair, pair-formula, pair-term, pair-function}
use Rattle.dlk_grammar.specs.Substitutions.{pair-context, pair-program, pair-flow, pair-flow-except, ReadsPairs, pairs-one, pairs-more}
use Rattle.dlk_grammar.specs.Substitutions.{ReadsSubstitution, subst-nothing, subst-pairs}
use Rattle.dlk_grammar.specs.Lexemes.{Lexeme, Name, Comma, lexeme_of_mark, lexeme_of, lexemes_from}
use Rattle.dlk_grammar.specs.Extras.{ExtraPhrase, ReadsExtra, extra-subst, extra-renames, extra-both}
use Rattle.dlk_grammar.specs.Texts.{PairsText, ExtraText}
use Rattle.dlk_machine.specs.Symbols.{ReplacesSymbol}

-- each name of lexemes is one
abbrev pub IsNamedLexeme : Lexeme → Type 0
IsNamedLexeme (Name n x) = IsTrue (is_name x)
IsNamedLexeme _ = Unit {0}

abbrev pub AreNamedLexemes : List Lexeme → Type 0
AreNamedLexemes [] = Unit {0}
AreNamedLexemes (k ∷ s) = IsNamedLexeme k × AreNamedLexemes s

pub both : (s r : List Lexeme) → AreNamedLexemes s → AreNamedLexemes r → AreNamedLexemes (s ++ r)
both [] r h k = k
both (l ∷ s) r h k = (h.0, both s r h.1 k)

pub front : (s r : List Lexeme) → AreNamedLexemes (s ++ r) → AreNamedLexemes s
front [] r h = tt
front (k ∷ s) r h = (h.0, front s r h.1)

pub behind : (s r : List Lexeme) → AreNamedLexemes (s ++ r) → AreNamedLexemes r
behind [] r h = h
behind (k ∷ s) r h = behind s r h.1

mark_named : (n : ℕ) (m : Mark) → IsNamedLexeme (lexeme_of_mark n m)
mark_named n mark.Forall = tt
mark_named n _ = tt

lexeme_named : (n : ℕ) (s : List ℕ) (k : TokenKind) → Spells s k → AreNamedLexemes (lexeme_of n k)
lexeme_named n s k (word x is) = (is, tt)
lexeme_named n s k true_word = (tt, tt)
lexeme_named n s k false_word = (tt, tt)
lexeme_named n s k (integer d are short) = (tt, tt)
lexeme_named n s k (decimal d f are others short) = (tt, tt)
lexeme_named n s k (long_integer d are long) = (tt, tt)
lexeme_named n s k (long_decimal d f are others long) = (tt, tt)
lexeme_named n s k (dot d low) = (tt, tt)
lexeme_named n s k hole = (tt, tt)
lexeme_named n s k (a_mark m) = (mark_named n m, tt)

pub lexemes_named : (at : ℕ) (bytes : List ℕ) (ts : List Token) → Splits at bytes ts → (n : ℕ) → AreNamedLexemes (lexemes_from n ts)
lexemes_named at bytes ts (ended e) n = tt
lexemes_named at bytes ts (space {ts = us} b rest e is more) n = lexemes_named _ rest us more n
lexemes_named at bytes ts (comment {ts = us} s rest is more) n = lexemes_named _ rest us more n
lexemes_named at bytes ts (one {ts = us} s rest kind e other longest more) n =
    both (lexeme_of n kind) (lexemes_from (n + 1) us) (lexeme_named n s kind longest.spells) (lexemes_named _ rest us more (n + 1))

-- there are at most eight argument dots
dots_few : (s : List Lexeme) (n : ℕ) → ReadsDots s n → n ≤ 8
dots_few s n dots-one = omega arith
dots_few s n (dots-more few more) = omega (arith, few)

few_true : (n : ℕ) → n ≤ 8 → nat_le n 8 ≡ true
few_true n few = le-leb n 8 few

over_symbol : (x : List ℕ) (n : ℕ) → is_name x ≡ true → n ≤ 8 → (is_sym (predicate (Over x n)) ≡ true) × (is_sym (function (Over x n)) ≡ true)
over_symbol x n named few = (rw (named, few_true n few) refl, rw (named, few_true n few) refl)

-- a function or a predicate on the left of a pair is a symbol
target_symbol : (s : List Lexeme) (h : Target) → ReadsTarget s h → AreNamedLexemes s → (is_sym (predicate h) ≡ true) × (is_sym (function h) ≡ true)
target_symbol s h (target-nullary {x = x}) named = over_symbol x 0 named.0 (omega arith)
target_symbol s h (target-dots {x = x} {s = t} dots) named = over_symbol x _ named.0 (dots_few t _ dots)
target_symbol s h (target-any {x = x}) named = let e : is_name x ≡ true = named.0 in (rw e refl, rw e refl)
target_symbol s h (target-except {x = x} {y = y}) named =
    let e : is_name x ≡ true = named.0 in let f : is_name y ≡ true = named.1.1.0 in (rw (e, f) refl, rw (e, f) refl)

-- and so is what a pair replaces
pair_symbol : (s : List Lexeme) (p : PairPhrase) → ReadsPair s p → AreNamedLexemes s → is_sym p.sym ≡ true
pair_symbol s p (pair-formula {s = t} {h = h} d e) named = (target_symbol t h d (front t _ named)).0
pair_symbol s p (pair-term {s = t} {h = h} d e none) named = (target_symbol t h d (front t _ named)).1
pair_symbol s p (pair-function {s = t} {h = h} is d e) named = (target_symbol t h d (front t _ named.1)).1
pair_symbol s p (pair-context {x = x} d) named = let e : is_name x ≡ true = named.0 in rw e refl
pair_symbol s p (pair-program {x = x} d) named = let e : is_name x ≡ true = named.0 in rw e refl
pair_symbol s p (pair-flow {x = x} d) named = let e : is_name x ≡ true = named.1.0 in rw e refl
pair_symbol s p (pair-flow-except {x = x} {y = y} d) named =
    let e : is_name x ≡ true = named.1.0 in let f : is_name y ≡ true = named.1.1.1.0 in rw (e, f) refl

abbrev pub IsSymbolic : PairPhrase → Type 0
IsSymbolic p = is_sym p.sym ≡ true

pub pairs_symbols : (s : List Lexeme) (l : List PairPhrase) → ReadsPairs s l → AreNamedLexemes s → All IsSymbolic l
pairs_symbols s l (pairs-one {p = p} d) named = All-cons IsSymbolic p [] (pair_symbol s p d named) (All-nil IsSymbolic)
pairs_symbols s l (pairs-more {s = t} {r = r} {l = others} {p = p} before d) named =
    let last = behind t (Comma ∷ r) named in
    All-push IsSymbolic others p (pairs_symbols t others before (front t (Comma ∷ r) named)) (pair_symbol r p d last.1)

pub subst_symbols : (s : List Lexeme) (l : List PairPhrase) → ReadsSubstitution s l → AreNamedLexemes s → All IsSymbolic l
subst_symbols s l subst-nothing named = All-nil IsSymbolic
subst_symbols s l (subst-pairs d) named = pairs_symbols s l d named

pub erased_symbols : (l : List PairPhrase) → All IsSymbolic l → All ReplacesSymbol (erase_pairs l)
erased_symbols [] h = All-nil ReplacesSymbol
erased_symbols (p ∷ l) h =
    All-cons ReplacesSymbol (record { sym = p.sym; by = erase p.by }) (erase_pairs l) (All-head IsSymbolic p l h) (erased_symbols l (All-tail IsSymbolic p l h))

pub pairs_text_symbols : (bytes : List ℕ) (pairs : List Pair) → PairsText bytes pairs → All ReplacesSymbol pairs
pairs_text_symbols bytes pairs text =
    let phrase = text.reads.phrase in
    let symbolic = subst_symbols _ phrase text.reads.says.reads (lexemes_named 0 bytes text.tokens text.splits 0) in
    subst (All ReplacesSymbol) text.reads.value_is (erased_symbols phrase symbolic)

extra_symbolic : (s : List Lexeme) (e : ExtraPhrase) → ReadsExtra s e → AreNamedLexemes s → All IsSymbolic e.pairs
extra_symbolic s e (extra-subst {l = l} d) h = subst_symbols s l d h
extra_symbolic s e (extra-renames d) h = All-nil IsSymbolic
extra_symbolic s e (extra-both {s = t} {r = r} {l = ps} d ds) h = pairs_symbols r ps ds (behind t (Comma ∷ r) h).1

pub extra_text_symbols : (bytes : List ℕ) (e : Extra) → ExtraText bytes e → All ReplacesSymbol e.pairs
extra_text_symbols bytes e text =
    let phrase = text.reads.phrase in
    let symbolic = extra_symbolic _ phrase text.reads.says.reads (lexemes_named 0 bytes text.tokens text.splits 0) in
    subst (λ (extra : Extra). All ReplacesSymbol extra.pairs) text.reads.value_is (erased_symbols phrase.pairs symbolic)
