-- The first pair of a list of them, by the numbers of nodes.
use Rattle.std.specs.Prelude.{◌≡◌, ℕ, List, [], ◌++◌, Option, None, Some, codes}
use Rattle.dlk_tree.specs.Trees.{Tree}
use Rattle.dlk_calculus.specs.Pairs.{Pair}
use Rattle.dlk_lines.specs.Parts.{Lacks}
use Rattle.dlk_lines.specs.Spelled.{NamesPair}

-- a text behind a comma, if there is one
abbrev pub behind_comma : Option (List ℕ) → List ℕ
behind_comma None = []
behind_comma (Some text) = codes "," ++ text

-- the text up to the first comma, and what comes behind it
pub record UpToComma (text front : List ℕ) (rest : Option (List ℕ)) : Type 0 where
  pub text_is : text ≡ front ++ behind_comma rest
  pub first : Lacks front 44

-- a pair, and what comes behind its comma
pub record FirstPair (nodes : List Tree) (text : List ℕ) (p : Pair) (rest : Option (List ℕ)) : Type 0 where
  pub own : List ℕ
  pub text_is : text ≡ own ++ behind_comma rest
  pub names : NamesPair nodes own p
