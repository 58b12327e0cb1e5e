-- The loop over tokens, over plain variables.
use Rattle.std.proofs.Common.{◌≡◌, ◌≢◌, ℕ, ◌+◌, ◌<◌, List, [], ◌∷◌, ◌++◌, length, Result, Ok, Err}
use Rattle.std.proofs.Common.{refl, sym, ap, ◌∙◌, subst, arith, append_assoc, length-append}
use Rattle.dlk_grammar.specs.declared.token.Token.{Token}
use Rattle.dlk_grammar.specs.declared.token.TokenKind.{TokenKind}
use Rattle.dlk_grammar.specs.declared.token.TokenKind.TheVariants.{End}
use Rattle.dlk_grammar.specs.Lexemes.{Lexeme, lexeme_of, lexemes, lexemes_from}
use Rattle.dlk_lex.specs.declared.fault.LexFault.{LexFault}
use Rattle.dlk_lex.specs.declared.fault.LexFault.TheVariants as lex
use Rattle.dlk_lex.specs.declared.source.Origin.{Origin}
use Rattle.dlk_lex.specs.declared.source.Source.{Source}
use Rattle.dlk_lex.specs.Taken.{Gives}
use Rattle.dlk_lex.specs.Sources.{HasTaken, Takes, TakesOne, one_more, no_more, left_in, HasFinished, Finishes}
use Rattle.dlk_lex.proofs.Sources.{one_gives}
use Rattle.dlk_reader.specs.declared.stop.LexemeFault.{LexemeFault}
use Rattle.dlk_reader.specs.declared.stop.LexemeFault.TheVariants.{Memory, Syntax}
use Rattle.dlk_reader.specs.declared.stop.Stop.{Stop}
use Rattle.dlk_reader.specs.Outcomes.{Outcome, Whole, Stopped, after_one, Steps, EndsAt, stop_at, ReadsTokens, OverSome, OverAll, ReadsUp, ReadsAll, of_lex}
use Rattle.dlk_reader.specs.declared.stop.Stop.TheVariants as Stop

-- the same outcome, behind so many lexemes
abbrev pub after : {V : Type 0} → ℕ → Outcome V → Outcome V
after n (Whole v) = Whole v
after n (Stopped k) = Stopped (k + n)

after_none : {V : Type 0} (o : Outcome V) → after 0 o ≡ o
after_none (Whole v) = refl
after_none (Stopped k) = ap Stopped (omega arith)

after_more : {V : Type 0} (n m : ℕ) (o : Outcome V) → m ≡ n + 1 → after n (after_one o) ≡ after m o
after_more n m (Whole v) e = refl
after_more n m (Stopped k) e = ap Stopped (omega arith)

-- Only the end is no lexeme.
a_lexeme : (n : ℕ) (k : TokenKind) (x : Lexeme) → lexeme_of n k ≡ x ∷ [] → k ≢ End
a_lexeme n k x e is =
    let none : [] ≡ x ∷ [] = sym (ap (lexeme_of n) is) ∙ e in
    cc

no_lexeme : (n : ℕ) (k : TokenKind) → lexeme_of n k ≡ [] → k ≡ End
no_lexeme n End e = refl
no_lexeme n _ e = absurd cc

-- What comes of the tokens behind those that were taken gives what comes of all.
pub record Reached {R V : Type 0} (comes : R → List Lexeme → Outcome V → Type 0) (first : R) (from : Origin) (r : R) (s : Source) : Type 0 where
  pub taken : List Token
  pub has_taken : HasTaken from taken s
  pub goes : (behind : List Token) (o : Outcome V) → comes r (lexemes_from (length taken) behind) o →
      comes first (lexemes (taken ++ behind)) (after (length taken) o)

module _ {R V : Type 0} (comes : R → List Lexeme → Outcome V → Type 0) (first : R) (from : Origin) where
  pub at_first : (s : Source) → HasTaken from [] s → Reached comes first from first s
  at_first s h = record { taken = []; has_taken = h; goes = λ behind o c. subst (comes first (lexemes behind)) (sym (after_none o)) c }

  module _ (r : R) (s : Source) (reached : Reached comes first from r s) (t : Token) (next : Source) (takes : TakesOne from reached.taken s t next) where
    abbrev taken : List Token
    taken = reached.taken

    -- what is behind a token that is a lexeme
    module _ (n : ℕ) (k : Lexeme) (place : n ≡ length taken) (is : lexeme_of n t.kind ≡ k ∷ []) where
      pub one_taken : HasTaken from (taken ++ t ∷ []) next × (left_in next < left_in s)
      one_taken = go takes
        where
          go : TakesOne from taken s t next → HasTaken from (taken ++ t ∷ []) next × (left_in next < left_in s)
          go (one_more some lt h) = (h, lt)
          go (no_more e h g) = absurd (a_lexeme n t.kind k is e)

      on : (behind : List Token) (o : Outcome V) → comes r (k ∷ lexemes_from (length taken + 1) behind) o →
          comes first (lexemes (taken ++ t ∷ behind)) (after (length taken) o)
      on behind o c =
          let here : lexeme_of (length taken) t.kind ≡ k ∷ [] = ap (λ (m : ℕ). lexeme_of m t.kind) (sym place) ∙ is in
          reached.goes (t ∷ behind) o (subst (λ (l : List Lexeme). comes r (l ++ lexemes_from (length taken + 1) behind) o) (sym here) c)

      pub at_next : (q : R) → Steps comes r k (Ok q) → Reached comes first from q next
      at_next q step = record {
        taken = taken ++ t ∷ [];
        has_taken = one_taken.0;
        goes = λ behind o c.
            let size : length (taken ++ t ∷ []) ≡ length taken + 1 = length-append taken (t ∷ []) in
            let here = step (lexemes_from (length taken + 1) behind) o (subst (λ (m : ℕ). comes q (lexemes_from m behind) o) size c) in
            let all = subst (λ (l : List Token). comes first (lexemes l) (after (length taken) (after_one o))) (sym (append_assoc taken (t ∷ []) behind))
            (on behind (after_one o) here) in
            subst (comes first (lexemes ((taken ++ t ∷ []) ++ behind))) (after_more (length taken) (length (taken ++ t ∷ [])) o size) all;
      }

      pub at_fault : (f : LexemeFault) → Steps comes r k (Err f) → ReadsUp (ReadsTokens comes first) from next (Err (stop_at f t.at))
      at_fault Memory step = tt
      at_fault Syntax step = record {
        taken = taken ++ t ∷ [];
        has_taken = one_taken.0;
        answer = λ behind g.
            let none : 0 + length taken ≡ length taken = omega arith in
            let stops = subst (λ (m : ℕ). comes first (lexemes (taken ++ t ∷ behind)) (Stopped m)) none
            (on behind (Stopped 0) (step (lexemes_from (length taken + 1) behind))) in
            let same = append_assoc taken (t ∷ []) behind in (
              length taken,
              subst (λ (l : List Token). comes first (lexemes l) (Stopped (length taken))) (sym same) stops,
              record { before = taken; token = t; behind = behind; tokens_are = same; count = refl; at_is = refl },
            );
      }

    -- what is before the end
    module _ (n : ℕ) (none : lexeme_of n t.kind ≡ []) where
      ends_here : HasTaken from taken next × Gives next.origin (t ∷ [])
      ends_here = go takes
        where
          go : TakesOne from taken s t next → HasTaken from taken next × Gives next.origin (t ∷ [])
          go (one_more some lt h) = absurd (some (no_lexeme n t.kind none))
          go (no_more e h g) = (h, g)

      last : (o : Outcome V) → comes r [] o → comes first (lexemes (taken ++ t ∷ [])) (after (length taken) o)
      last o c =
          let end : t.kind ≡ End = no_lexeme n t.kind none in
          let here : [] ≡ lexemes_from (length taken) (t ∷ []) = sym (ap (λ (k : TokenKind). lexeme_of (length taken) k ++ []) end) in
          reached.goes (t ∷ []) o (subst (λ (l : List Lexeme). comes r l o) here c)

      over : (result : Result V Stop) → ReadsTokens comes first (taken ++ t ∷ []) result → OverSome (ReadsTokens comes first) from next result
      over result h = record {
        taken = taken;
        has_taken = ends_here.0;
        answer = λ behind g. subst (λ (l : List Token). ReadsTokens comes first (taken ++ l) result) (one_gives next.origin (t ∷ []) behind ends_here.1 g) h;
      }

      pub at_end : (result : Result V Stop) → EndsAt comes r t.at result → ReadsUp (ReadsTokens comes first) from next result
      at_end (Ok v) ends = over (Ok v) (last (Whole v) ends)
      at_end (Err Stop.Memory) ends = tt
      at_end (Err (Stop.BadByte at)) ends = absurd ends
      at_end (Err (Stop.Syntax at)) ends =
          let none : 0 + length taken ≡ length taken = omega arith in
          over (Err (Stop.Syntax at)) (
            length taken,
            subst (λ (m : ℕ). comes first (lexemes (taken ++ t ∷ [])) (Stopped m)) none (last (Stopped 0) ends.1),
            record { before = taken; token = t; behind = []; tokens_are = refl; count = refl; at_is = ends.0 },
          )

-- a fault of the split
pub at_bad : {V : Type 0} (answers : List Token → Result V Stop → Type 0) (from : Origin) (taken : List Token) (s next : Source) (fault : LexFault)
    → Takes from taken s (Err fault) next → ReadsUp answers from next (Err (of_lex fault))
at_bad answers from before s next (lex.BadByte at) h = h
at_bad answers from before s next lex.Memory h = tt

-- what some tokens and those behind them answer together, once these were taken
pub finished : {V : Type 0} (answers : List Token → Result V Stop → Type 0) (from : Origin) (s next : Source) (result : Result V Stop)
    → (h : OverSome answers from s result) → HasFinished from h.taken s next → OverAll answers from next result
finished answers from s next result h f = record {
  tokens = h.taken ++ f.behind;
  gives = h.has_taken.passes.gives f.behind f.left;
  noted = f.noted;
  answer = h.answer f.behind f.left;
}

pub not_finished : {V : Type 0} (answers : List Token → Result V Stop → Type 0) (from : Origin) (taken : List Token) (s next : Source) (fault : LexFault)
    → Finishes from taken s (Err fault) next → ReadsAll answers from next (Err (of_lex fault))
not_finished answers from before s next (lex.BadByte at) h = h
not_finished answers from before s next lex.Memory h = tt
