-- What of the tokens and of the read phrases is within the limits.
use Rattle.std.specs.Prelude.{◌≡◌, slice_get, ℕ, ◌<◌, ◌≤◌, nat_lt, List, [], ◌∷◌, length, map, flat_map, fold, All, Option, Some, None, if◌then◌else◌}
use Rattle.dlk_tree.specs.Trees.{size, depth}
use Rattle.dlk_grammar.specs.declared.token.Token.{Token}
use Rattle.dlk_grammar.specs.declared.token.TokenKind.{TokenKind}
use Rattle.dlk_grammar.specs.Phrases.{Phrase}
use Rattle.dlk_grammar.specs.Erased.{erase, ills, lowest}
use Rattle.dlk_calculus.specs.Limits.{most_nodes, greatest_depth}
use Rattle.dlk_grammar.specs.Readings.{FirstAt, IsLong, OpensTooDeep, FirstPast}
use Rattle.dlk_parse.specs.Measures.{measure}
use Rattle.dlk_parse.specs.Measuring.{lesser}
use Rattle.dlk_parse.specs.declared.fault.ParseFault.{ParseFault}
use Rattle.dlk_parse.specs.declared.fault.ParseFault.TheVariants as parse
use Rattle.dlk_parse.specs.declared.measures.Measure.{Measure}

-- no token has the property
pub record HasNone (Is : List Token → TokenKind → Type 0) (tokens : List Token) : Type 0 where
  pub at_none : (at : ℕ) → ¬ FirstAt Is tokens at

-- the least place of ill shape
abbrev pub least_ill : List Measure → Option ℕ
least_ill ms = fold lesser None (map (λ m. m.ill) ms)

-- the first number past a limit
abbrev pub past : ℕ → List ℕ → Option ℕ
past limit [] = None
past limit (n ∷ ns) = if nat_lt limit n then Some n else past limit ns

-- nothing speaks against read phrases
pub record AreWithin (ps : List Phrase) : Type 0 where
  pub shape : lowest (flat_map ills ps) ≡ None
  pub size : All (λ t. size t ≤ most_nodes) (map erase ps)
  pub depth : All (λ t. depth t ≤ greatest_depth) (map erase ps)

-- The first that speaks against read phrases, in the order shape, size, depth, where the tokens begin at these bytes. Want of memory is free.
abbrev pub IsBeyond : List Phrase → List ℕ → ParseFault → Type 0
IsBeyond ps starts (parse.Literal at) = ⊥
IsBeyond ps starts (parse.Nesting at) = ⊥
IsBeyond ps starts (parse.Syntax at) = ⊥
IsBeyond ps starts (parse.Shape at) = (place : ℕ) × (lowest (flat_map ills ps) ≡ Some place) × (slice_get starts place ≡ Some at)
IsBeyond ps starts (parse.TooBig n) = (lowest (flat_map ills ps) ≡ None) × FirstPast size most_nodes (map erase ps) n
IsBeyond ps starts (parse.TooDeep n) = (lowest (flat_map ills ps) ≡ None) × All (λ t. size t ≤ most_nodes) (map erase ps) ×
    FirstPast depth greatest_depth (map erase ps) n
IsBeyond ps starts parse.Memory = Unit {0}

-- wherever the measures are those of phrases, this is what is known of them
pub record KnowsWithin (ms : List Measure) : Type 0 where
  pub of_phrases : (ps : List Phrase) → ms ≡ map measure ps → AreWithin ps

pub record KnowsBeyond (ms : List Measure) (starts : List ℕ) (why : ParseFault) : Type 0 where
  pub of_phrases : (ps : List Phrase) → ms ≡ map measure ps → IsBeyond ps starts why

-- the least place of ill shape is one of a token
pub record IsAmong (ms : List Measure) (starts : List ℕ) : Type 0 where
  pub below : (place : ℕ) → least_ill ms ≡ Some place → place < length starts

-- no literal is too long, and no bracket too deep
pub record AreWithinTokenLimits (tokens : List Token) : Type 0 where
  pub long : HasNone IsLong tokens
  pub deep : HasNone OpensTooDeep tokens

-- the first that speaks against tokens, in the order literal, nesting
abbrev pub IsPastTokenLimit : List Token → ParseFault → Type 0
IsPastTokenLimit tokens (parse.Literal at) = FirstAt IsLong tokens at
IsPastTokenLimit tokens (parse.Nesting at) = HasNone IsLong tokens × FirstAt OpensTooDeep tokens at
IsPastTokenLimit tokens (parse.Syntax at) = ⊥
IsPastTokenLimit tokens (parse.Shape at) = ⊥
IsPastTokenLimit tokens (parse.TooBig n) = ⊥
IsPastTokenLimit tokens (parse.TooDeep n) = ⊥
IsPastTokenLimit tokens parse.Memory = ⊥
