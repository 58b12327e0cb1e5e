-- Strategies in turn, with what each becomes.
use Rattle.std.proofs.Common.{◌≡◌, ℕ, ◌+◌, ◌<◌, List, [], ◌∷◌, ◌++◌, map, take, length, get_or, sym, ap, subst, ◌∙◌}
use Rattle.std.proofs.lemmas.List.{map_more, map-append}
use Rattle.dlk_tree.specs.Trees.{Tree}
use Rattle.dlk_tacsyn.specs.declared.tactic.Tactic.{Tactic}
use Rattle.dlk_tacsyn.specs.Tactics as the
use Rattle.dlk_tacsyn.specs.Strategies.{parts}
use Rattle.dlk_tacsyn.specs.Ties.{tactic_at}
use Rattle.dlk_library.specs.Expanded.{Expanded, AllExpanded}
use Rattle.dlk_library.proofs.Walking.{parts_at}

-- one more at the end
one_more : (ts us : List the.Tactic) (t u : the.Tactic) → AllExpanded (parts ts) (parts us) → Expanded t u →
    AllExpanded (parts (ts ++ t ∷ [])) (parts (us ++ u ∷ []))
one_more [] [] t u h k = (k, tt)
one_more [] (b ∷ us) t u h k = absurd h
one_more (a ∷ ts) [] t u h k = absurd h
one_more (a ∷ ts) (b ∷ us) t u h k = (h.0, one_more ts us t u h.1 k)

module _ (trees : List Tree) where
  pub more_found : (ts new : List Tactic) (i : ℕ) (t u : Tactic) → i < length ts → t ≡ get_or ts i t →
      AllExpanded (parts_at trees (take i ts)) (parts_at trees new) → Expanded (tactic_at trees t) (tactic_at trees u) →
      AllExpanded (parts_at trees (take (i + 1) ts)) (parts_at trees (new ++ u ∷ []))
  more_found ts new i t u less is h k =
      let f : Tactic → the.Tactic = tactic_at trees in
      let more = one_more (map f (take i ts)) (map f new) (f t) (f u) h k in
      let left : map f (take i ts) ++ f t ∷ [] ≡ map f (take (i + 1) ts) = ap (λ x. map f (take i ts) ++ f x ∷ []) is ∙ sym (map_more f ts i t less) in
      let right : map f new ++ f u ∷ [] ≡ map f (new ++ u ∷ []) = sym (map-append f new (u ∷ [])) in
      let ended = subst (λ (ys : List the.Tactic). AllExpanded (parts (map f (take i ts) ++ f t ∷ [])) (parts ys)) right more in
      subst (λ (xs : List the.Tactic). AllExpanded (parts xs) (parts_at trees (new ++ u ∷ []))) left ended
