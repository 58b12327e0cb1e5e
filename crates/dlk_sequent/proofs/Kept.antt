-- Sequents whose ids are known stand for the same in a store that has grown.
use Rattle.std.proofs.Common.{◌≡◌, List, [], ◌∷◌, map, refl, arith}
use Rattle.std.specs.List.{All}
use Rattle.std.proofs.lemmas.List.Elements.{All-head, All-tail, All-weaker}
use Rattle.dlk_tree.specs.Trees.{Tree}
use Rattle.dlk_store.specs.declared.Id.{Id}
use Rattle.dlk_store.specs.Stores.{IsId, tree, Keeps}
use Rattle.dlk_sequent.specs.declared.sequent.Sequent.{Sequent}
use Rattle.dlk_sequent.specs.Sequents.{sequent_at, IsKnown}

-- functions that agree at each item
pub map-agree : {X Y : Type 0} (f g : X → Y) (xs : List X) → All (λ x. f x ≡ g x) xs → map f xs ≡ map g xs
map-agree f g [] h = refl
map-agree f g (x ∷ xs) h =
    let head : f x ≡ g x = All-head (λ x. f x ≡ g x) x xs h in
    let tail : map f xs ≡ map g xs = map-agree f g xs (All-tail (λ x. f x ≡ g x) x xs h) in
    λ i. head i ∷ tail i

module _ {old new : List Tree} (keeps : Keeps old new) where
  pub IsId-kept : (id : Id) → IsId old id → IsId new id
  IsId-kept id h = omega (arith, keeps.known, h)

  pub trees-kept : (ids : List Id) → All (IsId old) ids → map (tree new) ids ≡ map (tree old) ids
  trees-kept ids h = map-agree (tree new) (tree old) ids (All-weaker (IsId old) (λ id. tree new id ≡ tree old id) keeps.same ids h)

  pub sequent-kept : (s : Sequent) → IsKnown old s → sequent_at new s ≡ sequent_at old s
  sequent-kept s h =
      let ante = trees-kept s.ante h.ante in
      let succ = trees-kept s.succ h.succ in
      λ i. record { ante = ante i; succ = succ i }

  pub IsKnown-kept : (s : Sequent) → IsKnown old s → IsKnown new s
  IsKnown-kept s h = record { ante = All-weaker (IsId old) (IsId new) IsId-kept s.ante h.ante; succ = All-weaker (IsId old) (IsId new) IsId-kept s.succ h.succ }

  pub sequents-kept : (all : List Sequent) → All (IsKnown old) all → map (sequent_at new) all ≡ map (sequent_at old) all
  sequents-kept all h = map-agree (sequent_at new) (sequent_at old) all (All-weaker (IsKnown old) (λ s. sequent_at new s ≡ sequent_at old s) sequent-kept all h)
