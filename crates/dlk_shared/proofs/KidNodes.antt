-- The sets of the trees of ids, found one after another.
use Rattle.std.proofs.Common.{◌≡◌, ℕ, zero, suc, ◌+◌, ◌<◌, arith, List, [], ◌∷◌, ◌++◌, length, get_or, drop, refl, sym, ap, ◌∙◌}
use Rattle.std.specs.Prelude.{All, map}
use Rattle.std.proofs.lemmas.List.{append_assoc, map-append}
use Rattle.std.proofs.lemmas.List.Elements.{All-append}
use Rattle.std.proofs.Common.{Bool, true, false, ◌||◌}
use Rattle.std.specs.List.{list_any}
use Rattle.std.proofs.lemmas.List.Folds.{list_any-append}
use Rattle.dlk_tree.specs.Trees.{Tree}
use Rattle.dlk_tree.specs.Occurs.{occurs, any_has, has_symbol}
use Rattle.dlk_tree.specs.declared.op.Sym.{Sym}
use Rattle.dlk_shared.specs.Signs.{SignTable, sign_at, IsSign, Signs}
use Rattle.dlk_tree.specs.Statics.{sets, sets_all}
use Rattle.dlk_store.specs.declared.Id.{Id}
use Rattle.dlk_store.specs.Stores.{tree, kid_trees}
use Rattle.dlk_store.proofs.Kids.{kid_trees-drop}
use Rattle.dlk_shared.specs.declared.node.NodeSets.{NodeSets}
use Rattle.dlk_shared.specs.SetTables.{SetTable, MeanSets, AreSets, sets_at}
use Rattle.dlk_shared.proofs.SetLemmas.{mean_sets_is}

pub one_more : (t : SetTable) (trees : List Tree) (kids : List Id) (found : List NodeSets) (n : NodeSets) (i : ℕ) (d : Id) → i < length kids
    → MeanSets t n (sets (tree trees (get_or kids i d)))
    → map (sets_at t) (found ++ n ∷ []) ++ sets_all (kid_trees trees (drop (i + 1) kids)) ≡ map (sets_at t) found ++ sets_all (kid_trees trees (drop i kids))
one_more t trees kids found n i d h m =
    let rest = sets_all (kid_trees trees (drop (i + 1) kids)) in
    ap (λ l. l ++ rest) (map-append (sets_at t) found (n ∷ []))
    ∙ append_assoc (map (sets_at t) found) (sets_at t n ∷ []) rest
    ∙ (λ j. map (sets_at t) found ++ (mean_sets_is m j ∷ rest))
    ∙ ap (λ ts. map (sets_at t) found ++ sets_all ts) (sym (kid_trees-drop trees kids i d h))

pub known_more : (t : SetTable) (found : List NodeSets) (n : NodeSets) → All (AreSets t) found → AreSets t n → All (AreSets t) (found ++ n ∷ [])
known_more t found n all one = All-append (AreSets t) found (n ∷ []) all last
  where
    last : All (AreSets t) (n ∷ [])
    last zero d h = one
    last (suc i) d h = absurd (omega arith)

pub sign_more : (t : SignTable) (trees : List Tree) (kids : List Id) (found : List ℕ) (n i : ℕ) (d : Id) → i < length kids
    → Signs t n (λ s. occurs s (tree trees (get_or kids i d))) → (s : Sym)
    → (list_any (λ k. sign_at t k s) (found ++ n ∷ []) || any_has (has_symbol s) (kid_trees trees (drop (i + 1) kids)))
    ≡ (list_any (λ k. sign_at t k s) found || any_has (has_symbol s) (kid_trees trees (drop i kids)))
sign_more t trees kids found n i d h m s =
    let front = list_any (λ k. sign_at t k s) found in
    let rest = any_has (has_symbol s) (kid_trees trees (drop (i + 1) kids)) in
    ap (λ b. b || rest) (list_any-append (λ k. sign_at t k s) found (n ∷ []))
    ∙ regroup front (sign_at t n s) rest
    ∙ (λ j. front || (m.members s j || rest))
    ∙ ap (λ ts. front || any_has (has_symbol s) ts) (sym (kid_trees-drop trees kids i d h))
  where
    regroup : (a b c : Bool) → ((a || (b || false)) || c) ≡ (a || (b || c))
    regroup true b c = refl
    regroup false true c = refl
    regroup false false c = refl

pub known_sign_more : (t : SignTable) (found : List ℕ) (n : ℕ) → All (IsSign t) found → IsSign t n → All (IsSign t) (found ++ n ∷ [])
known_sign_more t found n all one = All-append (IsSign t) found (n ∷ []) all last
  where
    last : All (IsSign t) (n ∷ [])
    last zero d h = one
    last (suc i) d h = absurd (omega arith)
