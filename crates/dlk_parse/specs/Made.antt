-- Which nodes are made of a code.
use Rattle.std.specs.Prelude.{◌≡◌, List, map, flat_map, All}
use Rattle.dlk_tree.specs.Trees.{Tree, WellMade}
use Rattle.dlk_store.specs.declared.Id.{Id}
use Rattle.dlk_store.specs.Stores.{IsId, tree}
use Rattle.dlk_grammar.specs.Phrases.{Phrase}
use Rattle.dlk_grammar.specs.Erased.{erase}
use Rattle.dlk_reader.specs.Codes.{postfix}
use Rattle.dlk_reader.specs.declared.code.Code.{Code}

-- the code of phrases whose trees are well made
pub record IsWellMade (code : List Code) : Type 0 where
  pub phrases : List Phrase
  pub code_is : code ≡ flat_map postfix phrases
  pub well_made : All (λ p. WellMade (erase p)) phrases

-- wherever the code is that of phrases, the ids are those of their trees
pub record AreMade (code : List Code) (trees : List Tree) (ids : List Id) : Type 0 where
  pub known : All (IsId trees) ids
  pub of_phrases : (ps : List Phrase) → code ≡ flat_map postfix ps → map (tree trees) ids ≡ map erase ps
