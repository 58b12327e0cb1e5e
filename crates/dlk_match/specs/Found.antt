-- What is found by matching: names and pairs over the ids of a store, or that there are none.
use Rattle.std.specs.Prelude.{ℕ, List, map}
use Rattle.dlk_tree.specs.Trees.{Tree}
use Rattle.dlk_calculus.specs.Pairs.{Extra as TreeExtra}
use Rattle.dlk_sequent.specs.declared.extra.Extra.{Extra}
use Rattle.dlk_sequent.specs.Extras.{extra_at, IsKnownExtra}
use Rattle.dlk_sequent.specs.declared.subst.Pair.{Pair}
use Rattle.dlk_match.specs.Matching.{renamed_symbol, Match}

-- pairs over ids whose symbols have their taboos renamed
abbrev pub pairs_renamed : List (List ℕ × List ℕ) → List Pair → List Pair
pairs_renamed renames pairs = map (λ (p : Pair). record { sym = renamed_symbol renames p.sym; by = p.by }) pairs

-- the key matches the tree with no names and pairs
abbrev pub HasNoMatch : Tree → List (List ℕ) → Tree → TreeExtra → Type 0
HasNoMatch key own e given = (extra : TreeExtra) → ¬ Match key own e given extra

-- the key matches the tree with these, whose ids are those of the store
pub record IsMatch (key : Tree) (own : List (List ℕ)) (e : Tree) (given : TreeExtra) (trees : List Tree) (extra : Extra) : Type 0 where
  pub known : IsKnownExtra trees extra
  pub matches : Match key own e given (extra_at trees extra)
