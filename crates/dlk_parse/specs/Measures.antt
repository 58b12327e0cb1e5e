-- What is measured of a phrase before its tree is made.
use Rattle.std.specs.Prelude.{◌≡◌, min, List, map, flat_map}
use Rattle.dlk_tree.specs.Trees.{size, depth}
use Rattle.dlk_grammar.specs.Phrases.{Phrase}
use Rattle.dlk_grammar.specs.Erased.{erase, ills, lowest}
use Rattle.dlk_reader.specs.Codes.{postfix}
use Rattle.dlk_reader.specs.declared.code.Code.{Code}
use Rattle.dlk_parse.specs.declared.measures.Measure.{Measure}

-- the least place of ill shape, and the size and the depth of the tree, which stay at the greatest number of 32 bits
abbrev pub measure : Phrase → Measure
measure p = record { ill = lowest (ills p); size = min (size (erase p)) 4294967295; depth = min (depth (erase p)) 4294967295 }

-- wherever the code is that of phrases, these are their measures
pub record AreMeasures (code : List Code) (ms : List Measure) : Type 0 where
  pub of_phrases : (ps : List Phrase) → code ≡ flat_map postfix ps → ms ≡ map measure ps
