-- What tokens have shown so far.
use Rattle.std.specs.Prelude.{◌≡◌, ◌≤◌, ℕ, List, ◌∷◌, ◌++◌, map, Option, Some, None}
use Rattle.dlk_grammar.specs.declared.token.Token.{Token}
use Rattle.dlk_grammar.specs.declared.token.TokenKind.{TokenKind}
use Rattle.dlk_grammar.specs.Readings.{FirstAt, IsLong, OpensTooDeep, bracket_level, most_levels}
use Rattle.dlk_lex.specs.declared.noted.Levels.{Levels}
use Rattle.dlk_lex.specs.declared.noted.Noted.{Noted}

-- none of these tokens has the property
pub record NoneIn (Is : List Token → TokenKind → Type 0) (seen : List Token) : Type 0 where
  pub none : (front after : List Token) (t : Token) → seen ≡ front ++ t ∷ after → ¬ Is front t.kind

-- the first of the tokens with the property, or none has it
abbrev pub FirstOf : (List Token → TokenKind → Type 0) → List Token → Option ℕ → Type 0
FirstOf Is seen (Some at) = FirstAt Is seen at
FirstOf Is seen None = NoneIn Is seen

-- where no bracket is too deep, the level is that of the tokens; it is within the limit
pub record AreLevels (seen : List Token) (levels : Levels) : Type 0 where
  pub low : levels.level ≤ most_levels
  pub deep : FirstOf OpensTooDeep seen levels.deep
  pub level : levels.deep ≡ None → levels.level ≡ bracket_level seen

-- the bytes at which tokens begin, in order
abbrev pub starts_of : List Token → List ℕ
starts_of tokens = map (λ t. t.at) tokens

-- what the tokens have shown
pub record AreNoted (seen : List Token) (noted : Noted) : Type 0 where
  pub starts : noted.starts.items ≡ starts_of seen
  pub long : FirstOf IsLong seen noted.long
  pub levels : AreLevels seen noted.levels
