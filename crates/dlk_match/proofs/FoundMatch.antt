-- What was found by matching, against the definition of a match.
use Rattle.std.proofs.Common.{◌≡◌, refl, sym, ap, subst, ◌∙◌, ℕ, List, [], ◌∷◌, Bool, true, false}
use Rattle.std.specs.Prelude.{◌↔◌, IsTrue}
use Rattle.std.proofs.lemmas.List.Elements.{All-map}
use Rattle.dlk_tree.specs.Trees.{Tree}
use Rattle.dlk_store.specs.Stores.{IsId}
use Rattle.dlk_calculus.specs.Pairs.{Extra as TreeExtra}
use Rattle.dlk_sequent.specs.declared.subst.Pair.{Pair}
use Rattle.dlk_sequent.specs.declared.extra.Extra.{Extra}
use Rattle.dlk_sequent.specs.Substitutions.{pairs_at, pair_at, AreKnownPairs}
use Rattle.dlk_sequent.specs.Extras.{extra_at, IsKnownExtra}
use Rattle.dlk_match.specs.Matching.{Matches, AreGiven, AreApart, renamed_symbol, renamed_pairs}
use Rattle.dlk_match.specs.Found.{HasNoMatch, IsMatch, pairs_renamed}
use Rattle.dlk_match.proofs.Turns.{Names}
use Rattle.dlk_match.proofs.OneMatch.{one_matches}

-- ---- pairs whose taboos are renamed

trees_renamed : (trees : List Tree) (renames : Names) (pairs : List Pair)
    → pairs_at trees (pairs_renamed renames pairs) ≡ renamed_pairs renames (pairs_at trees pairs)
trees_renamed trees renames [] = refl
trees_renamed trees renames (p ∷ pairs) =
    ap (λ rest. record { sym = renamed_symbol renames p.sym; by = (pair_at trees p).by } ∷ rest) (trees_renamed trees renames pairs)

known_renamed : (trees : List Tree) (renames : Names) (pairs : List Pair) → AreKnownPairs trees pairs → AreKnownPairs trees (pairs_renamed renames pairs)
known_renamed trees renames pairs known =
    All-map (λ (p : Pair). IsId trees p.by) (λ (p : Pair). record { sym = renamed_symbol renames p.sym; by = p.by }) pairs known

-- ---- matches

-- a test that came out false
pub told_false : {P : Type 0} {is : Bool} → is ≡ false → IsTrue is ↔ P → P → ⊥
told_false e told p = absurd (false_true (sym e ∙ told.1 p))
  where
    false_true : false ≡ true → ⊥
    false_true h = cc

-- any match has the names that were found
pub not_apart : (key : Tree) (own : List (List ℕ)) (e : Tree) (given found : TreeExtra)
    → Matches key e given found → (AreApart own found.renames → ⊥) → HasNoMatch key own e given
not_apart key own e given found matches none extra p =
    none (subst (λ (f : TreeExtra). AreApart own f.renames) (one_matches key e given p.found found p.matches matches) p.apart)

pub is_match : (key : Tree) (own : List (List ℕ)) (e : Tree) (given : TreeExtra) (trees : List Tree) (found : Extra) (pairs : List Pair)
    → Matches key e given (extra_at trees found) → IsKnownExtra trees found → AreGiven own given.renames → AreApart own found.renames
    → pairs ≡ pairs_renamed found.renames found.pairs → IsMatch key own e given trees (record { renames = found.renames; pairs = pairs })
is_match key own e given trees found pairs matches known well apart is = record {
  known = subst (AreKnownPairs trees) (sym is) (known_renamed trees found.renames found.pairs known);
  matches = record {
    found = extra_at trees found;
    matches = matches;
    given_well = well;
    apart = apart;
    extra_is =
        let same = ap (pairs_at trees) is ∙ trees_renamed trees found.renames found.pairs in
        ap (λ ps. record { renames = found.renames; pairs = ps }) same;
  };
}
