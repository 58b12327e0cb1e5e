-- What the tokens of a text are.
use Rattle.std.specs.Prelude.{◌≡◌, ◌≢◌, ◌<◌, List, [], ◌∷◌, ◌++◌, All, IsTrue}
use Rattle.dlk_tree.specs.Names.{is_name}
use Rattle.dlk_tree.specs.Table.{is_num}
use Rattle.dlk_grammar.specs.declared.token.Token.{Token}
use Rattle.dlk_grammar.specs.declared.token.TokenKind.{TokenKind}
use Rattle.dlk_grammar.specs.declared.token.TokenKind.TheVariants.{Word, True, False, Number, LongNumber, Dot, Hole, Mark as AMark, End}

-- the name, number or dot of a token is one that a tree may have
abbrev pub IsReal : TokenKind → Type 0
IsReal (Word x) = IsTrue (is_name x)
IsReal True = Unit {0}
IsReal False = Unit {0}
IsReal (Number n) = IsTrue (is_num n)
IsReal LongNumber = Unit {0}
IsReal (Dot n) = n < 8
IsReal Hole = Unit {0}
IsReal (AMark m) = Unit {0}
IsReal End = Unit {0}

-- The end is the last token and stands nowhere else, and each token is real.
pub record AreTokens (tokens : List Token) : Type 0 where
  pub before : List Token
  pub last : Token
  pub tokens_are : tokens ≡ before ++ last ∷ []
  pub ends : last.kind ≡ End
  pub no_sooner : All (λ t. t.kind ≢ End) before
  pub real : All (λ t. IsReal t.kind) tokens
