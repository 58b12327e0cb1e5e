-- Two names exchanged in sequents and rows, one after another, over a store that grows.
use Rattle.std.proofs.Common.{◌≡◌, ℕ, ◌+◌, ◌<◌, List, [], ◌∷◌, ◌++◌, length, map, take, get_or, refl, ap, ◌∙◌, Some, arith}
use Rattle.std.specs.Prelude.{IsTrue}
use Rattle.std.specs.List.{All}
use Rattle.std.proofs.lemmas.List.{take_more, map-append}
use Rattle.std.proofs.lemmas.List.Elements.{All-push, All-weaker}
use Rattle.dlk_tree.specs.Names.{is_name}
use Rattle.dlk_tree.specs.Trees.{Tree}
use Rattle.dlk_store.specs.declared.Id.{Id}
use Rattle.dlk_store.specs.Stores.{IsId, tree, Keeps, StandsFor}
use Rattle.dlk_calculus.specs.Rename.{swap}
use Rattle.dlk_calculus.specs.Places.{at}
use Rattle.dlk_calculus.specs.Provables.{swap_sequent, renamed}
use Rattle.dlk_calculus.specs.Steps.{Rename, Gives, rename}
use Rattle.dlk_calculus.proofs.PlaceLaws.{At-map}
use Rattle.dlk_sequent.specs.declared.sequent.Sequent.{Sequent}
use Rattle.dlk_sequent.specs.Sequents.{sequent_at, IsKnown}
use Rattle.dlk_sequent.proofs.Kept.{IsId-kept, IsKnown-kept, trees-kept, sequent-kept, sequents-kept}
use Rattle.dlk_kernel.specs.declared.row.Row.{Row}
use Rattle.dlk_kernel.specs.Kernel.{provable_at, provables_at, IsKnownRow}

-- One more item: those made before stand for what they stood for.
one_more : {X A : Type 0} (f : A → A) (old now next : X → A) (items made : List X) (n : ℕ) (d r : X) → n < length items → map next made ≡ map now made →
    map now made ≡ map f (map old (take n items)) → next r ≡ f (old (get_or items n d)) → map next (made ++ r ∷ []) ≡ map f (map old (take (n + 1) items))
one_more f old now next items made n d r lt kept before is =
    rw (
      take_more items n d lt,
      map-append next made (r ∷ []),
      map-append old (take n items) (get_or items n d ∷ []),
      map-append f (map old (take n items)) (old (get_or items n d) ∷ []),
      kept,
      before,
      is,
    ) refl

module _ (old now next : List Tree) (first : Keeps old now) (then : Keeps now next) (x y : List ℕ) where
  pub one_more_id : (ids made : List Id) (n : ℕ) (d r : Id) → n < length ids → IsId old (get_or ids n d) → All (IsId now) made →
      map (tree now) made ≡ map (swap x y) (map (tree old) (take n ids)) →
      StandsFor next r (swap x y (tree now (get_or ids n d))) → map (tree next) (made ++ r ∷ []) ≡ map (swap x y) (map (tree old) (take (n + 1) ids))
  one_more_id ids made n d r lt id known before is =
      one_more (swap x y) (tree old) (tree now) (tree next) ids made n d r lt (trees-kept then made known) before
      (is.tree_is ∙ ap (swap x y) (first.same (get_or ids n d) id))

  pub one_more_sequent : (all made : List Sequent) (n : ℕ) (d r : Sequent) → n < length all → IsKnown old (get_or all n d) → All (IsKnown now) made →
      map (sequent_at now) made ≡ map (swap_sequent x y) (map (sequent_at old) (take n all)) →
      sequent_at next r ≡ swap_sequent x y (sequent_at now (get_or all n d)) →
      map (sequent_at next) (made ++ r ∷ []) ≡ map (swap_sequent x y) (map (sequent_at old) (take (n + 1) all))
  one_more_sequent all made n d r lt s known before is =
      one_more (swap_sequent x y) (sequent_at old) (sequent_at now) (sequent_at next) all made n d r lt (sequents-kept then made known) before
      (is ∙ ap (swap_sequent x y) (sequent-kept first (get_or all n d) s))

-- One more item that is known.
pub one_more_known_id : (now next : List Tree) → Keeps now next → (made : List Id) (r : Id) → All (IsId now) made → IsId next r →
    All (IsId next) (made ++ r ∷ [])
one_more_known_id now next then made r known is = All-push (IsId next) made r (All-weaker (IsId now) (IsId next) (IsId-kept then) made known) is

pub one_more_known : (now next : List Tree) → Keeps now next → (made : List Sequent) (r : Sequent) → All (IsKnown now) made → IsKnown next r →
    All (IsKnown next) (made ++ r ∷ [])
one_more_known now next then made r known is = All-push (IsKnown next) made r (All-weaker (IsKnown now) (IsKnown next) (IsKnown-kept then) made known) is

-- A sequent, one side after the other.
module _ (old now next : List Tree) (first : Keeps old now) (then : Keeps now next) (x y : List ℕ) (s made : Sequent) (known : IsKnown old s) where
  pub both_sides : map (tree now) made.ante ≡ map (swap x y) (map (tree old) s.ante) → All (IsId now) made.ante →
      map (tree next) made.succ ≡ map (swap x y) (map (tree now) s.succ) →
      sequent_at next made ≡ swap_sequent x y (sequent_at old s)
  both_sides ante ids succ =
      let left = trees-kept then made.ante ids ∙ ante in
      let right = succ ∙ ap (map (swap x y)) (trees-kept first s.succ known.succ) in
      λ i. record { ante = left i; succ = right i }

-- A row, whose leaves stay.
module _ (old now next : List Tree) (first : Keeps old now) (then : Keeps now next) (x y : List ℕ) (rows : List Row) (fact : ℕ) (row : Row)
    (there : at rows fact ≡ Some row) (known : IsKnownRow old row) where
  abbrev both : Keeps old next
  both = record { known = omega (arith, first.known, then.known); same = λ id h. then.same id (IsId-kept first id h) ∙ first.same id h }

  pub renamed_given : (made : Row) → IsTrue (is_name x) → IsTrue (is_name y) →
      sequent_at now made.conclusion ≡ swap_sequent x y (sequent_at old row.conclusion) → IsKnown now made.conclusion →
      map (sequent_at next) made.goals ≡ map (swap_sequent x y) (map (sequent_at now) row.goals) → made.leaves ≡ row.leaves →
      Gives (provables_at old rows) (Rename fact x y) (provable_at next made)
  renamed_given made first_name second_name conclusion at_now goals leaves =
      let same : provable_at next made ≡ renamed x y (provable_at old row) = let c = sequent-kept then made.conclusion at_now ∙ conclusion in
      let g = goals ∙ ap (map (swap_sequent x y)) (sequents-kept first row.goals known.goals) in
      let l = ap (map (sequent_at next)) leaves ∙ sequents-kept both row.leaves known.leaves in
      (λ i. record { conclusion = c i; goals = g i; leaves = l i }) in
      rw same (rename fact x y (provable_at old row) (At-map (provable_at old) rows fact row there) first_name second_name)

  pub renamed_known : (made : Row) → IsKnown now made.conclusion → All (IsKnown next) made.goals → made.leaves ≡ row.leaves → IsKnownRow next made
  renamed_known made conclusion goals leaves = record {
    conclusion = IsKnown-kept then made.conclusion conclusion;
    goals = goals;
    leaves = rw leaves (All-weaker (IsKnown old) (IsKnown next) (IsKnown-kept both) row.leaves known.leaves);
  }
