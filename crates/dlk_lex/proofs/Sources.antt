-- Tokens that are taken one by one.
use Rattle.std.proofs.Common.{◌≡◌, ◌≢◌, ℕ, ◌<◌, List, [], ◌∷◌, ◌++◌, length, drop, get_or, refl, sym, ap, subst, ◌∙◌, append_assoc, arith}
use Rattle.std.specs.Prelude.{All}
use Rattle.std.proofs.lemmas.List.Elements.{All-head, All-tail}
use Rattle.dlk_grammar.specs.declared.token.Token.{Token}
use Rattle.dlk_grammar.specs.declared.token.TokenKind.TheVariants.{End}
use Rattle.dlk_grammar.specs.RealTokens.{IsReal, AreTokens}
use Rattle.dlk_grammar.proofs.Real.{split_tokens}
use Rattle.dlk_grammar.proofs.Splitting.{one_split}
use Rattle.dlk_lex.specs.declared.source.Origin.{Origin}
use Rattle.dlk_lex.specs.declared.source.Origin.TheVariants.{Bytes, Tokens}
use Rattle.dlk_lex.specs.declared.source.Source.{Source}
use Rattle.dlk_lex.specs.declared.noted.Noted.{Noted}
use Rattle.dlk_lex.specs.Noted.{AreNoted}
use Rattle.dlk_lex.specs.Taken.{IsFirst, first_one, none_left, IsOrigin, Gives, left_of, Passes, IsNext, next_one, at_end}

-- nothing was taken
pub none_taken : (o : Origin) → IsOrigin o → Passes o [] o
none_taken o is = record { is_origin = is; gives = λ ts g. g; refuses = λ bad r. r }

-- some tokens were taken, and then others
pub both_taken : (o p q : Origin) (taken more : List Token) → Passes o taken p → Passes p more q → Passes o (taken ++ more) q
both_taken o p q taken more a b = record {
  is_origin = b.is_origin;
  gives = λ ts g. subst (Gives o) (sym (append_assoc taken more ts)) (a.gives (more ++ ts) (b.gives ts g));
  refuses = λ bad r. a.refuses bad (b.refuses bad r);
}

-- the bytes of an origin from another place on
abbrev moved : Origin → ℕ → Origin
moved (Bytes bytes at) to = Bytes bytes to
moved (Tokens tokens) to = Tokens tokens

-- the tokens of an origin
abbrev IsOf : Origin → List Token → Type 0
IsOf (Bytes bytes at) ts = ⊥
IsOf (Tokens tokens) ts = tokens.now ≡ ts

-- the tokens of a text, by their first
data Begins (ts : List Token) : Type 0 where
  with_more : (t : Token) (more : List Token) → ts ≡ t ∷ more → t.kind ≢ End → AreTokens more → Begins ts
  with_end : (t : Token) → ts ≡ t ∷ [] → t.kind ≡ End → Begins ts

begins : (ts : List Token) → AreTokens ts → Begins ts
begins ts are = go are.before are.tokens_are are.no_sooner
  where
    go : (before : List Token) → ts ≡ before ++ are.last ∷ [] → All (λ t. t.kind ≢ End) before → Begins ts
    go [] e none = with_end are.last e are.ends
    go (t ∷ before) e none = with_more t (before ++ are.last ∷ []) e (All-head (λ (u : Token). u.kind ≢ End) t before none) (record {
      before = before;
      last = are.last;
      tokens_are = refl;
      ends = are.ends;
      no_sooner = All-tail (λ (u : Token). u.kind ≢ End) t before none;
      real = All-tail (λ (u : Token). IsReal u.kind) t (before ++ are.last ∷ []) (subst (All (λ (u : Token). IsReal u.kind)) e are.real);
    })

-- the first of tokens is taken
pub token_taken : (o p : Origin) (ts : List Token) (t d : Token) → IsOf o ts → IsOf p (drop 1 ts) → AreTokens ts → t ≡ get_or ts 0 d → t.kind ≢ End →
    IsNext o t p
token_taken (Bytes bytes at) p ts t d h i are first some = absurd h
token_taken (Tokens tokens) (Bytes bytes at) ts t d h i are first some = absurd i
token_taken (Tokens tokens) (Tokens later) ts t d h i are first some = go (begins ts are)
  where
    go : Begins ts → IsNext (Tokens tokens) t (Tokens later)
    go (with_more u more e s a) =
        let same : t ≡ u = first ∙ ap (λ (l : List Token). get_or l 0 d) e in
        let rest : later.now ≡ more = i ∙ ap (drop 1) e in
        let all : tokens.now ≡ t ∷ more = h ∙ e ∙ ap (λ (x : Token). x ∷ more) (sym same) in
        next_one some (omega (arith, ap length all, ap length rest)) (record {
          is_origin = subst AreTokens (sym rest) a;
          gives = λ us g. ap (λ (l : List Token). t ∷ l) (g ∙ rest) ∙ sym all;
          refuses = λ bad r. r;
        })
    go (with_end u e is) = absurd (some (ap (λ (x : Token). x.kind) (first ∙ ap (λ (l : List Token). get_or l 0 d) e) ∙ is))

module _ (first o p : Origin) (taken : List Token) (t : Token) (passes : Passes first taken o) where
  pub one_taken : IsNext o t p → t.kind ≢ End → Passes first (taken ++ t ∷ []) p
  one_taken (next_one some lt more) not = both_taken first o p taken (t ∷ []) passes more
  one_taken (at_end is none gives) not = absurd (not is)

  pub smaller : IsNext o t p → t.kind ≢ End → left_of p < left_of o
  smaller (next_one some lt more) not = lt
  smaller (at_end is none gives) not = absurd (not is)

  pub all_taken : IsNext o t p → t.kind ≡ End → Gives first (taken ++ t ∷ [])
  all_taken (next_one some lt more) is = absurd (some is)
  all_taken (at_end e none gives) is = passes.gives (t ∷ []) (none.gives (t ∷ []) gives)

-- some tokens, more of them, and one more are noted
pub noted_more : (before taken : List Token) (t : Token) (n : Noted) → AreNoted ((before ++ taken) ++ t ∷ []) n → AreNoted (before ++ (taken ++ t ∷ [])) n
noted_more before taken t n h = subst (λ (l : List Token). AreNoted l n) (append_assoc before taken (t ∷ [])) h

-- what taking all that is left keeps
abbrev pub Taking : Source → Source → Type 0
Taking first now = (taken : List Token) × Passes first.origin taken now.origin
    × ((before : List Token) → AreNoted before first.noted → AreNoted (before ++ taken) now.noted)

pub taking_on : (first now next : Source) (t : Token) → Taking first now → IsNext now.origin t next.origin → t.kind ≢ End
    → ((seen : List Token) → AreNoted seen now.noted → AreNoted (seen ++ t ∷ []) next.noted) → Taking first next
taking_on first now next t h is some notes = (
  h.0 ++ t ∷ [],
  one_taken first.origin now.origin next.origin h.0 t h.1 is some,
  λ before n. noted_more before h.0 t next.noted (notes (before ++ h.0) (h.2 before n)),
)

-- What an origin gives is one list of tokens, those of a text.
pub one_gives : (o : Origin) (ts us : List Token) → Gives o ts → Gives o us → ts ≡ us
one_gives (Bytes bytes at) ts us g h = one_split g h
one_gives (Tokens tokens) ts us g h = g ∙ sym h

pub gives_tokens : (o : Origin) (ts : List Token) → IsOrigin o → Gives o ts → AreTokens ts
gives_tokens (Bytes bytes at) ts is g = split_tokens g
gives_tokens (Tokens tokens) ts is g = subst AreTokens (sym g) is
