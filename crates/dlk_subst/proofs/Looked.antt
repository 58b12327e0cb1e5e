-- Nodes that are looked at once each.
use Rattle.std.proofs.Common.{◌≡◌, ℕ, ◌+◌, ◌<◌, ◌≤◌, ◌⊎◌, inl, inr, Bool, true, false, cond, Some, List, [], ◌∷◌, ◌++◌, length, get_or, refl, sym, ap}
use Rattle.std.proofs.Common.{subst, arith, Contains, length-append}
use Rattle.std.specs.Prelude.{All}
use Rattle.std.proofs.lemmas.Option.{same_Some, none-some}
use Rattle.std.proofs.lemmas.Bool.{cases_lt}
use Rattle.std.proofs.lemmas.List.{length-map, get_or_append_left, map-append}
use Rattle.std.proofs.lemmas.List.Elements.{All-nil, All-cons, All-append, All-map, Contains-append_left, Contains-append_right}
use Rattle.std.proofs.Math.Seq.{get_or-append_seam}
use Rattle.dlk_tree.specs.declared.op.Sym.{Sym}
use Rattle.dlk_tree.specs.Tests.{sym_eq}
use Rattle.dlk_tree.specs.Trees.{Tree, node}
use Rattle.dlk_store.specs.declared.Id.{Id}
use Rattle.dlk_store.specs.Stores.{IsId, tree, HasOneId}
use Rattle.dlk_sequent.specs.declared.subst.Pair.{Pair}
use Rattle.dlk_sequent.specs.Substitutions.{pairs_at}
use Rattle.dlk_subst.specs.declared.seen.Seen.{Seen}
use Rattle.dlk_subst.specs.Counts.{subtrees, replacement_subtrees, distinct_count}
use Rattle.dlk_subst.specs.Effects.{found}
use Rattle.dlk_subst.specs.Looked.{same_id, ids_of, IsSeen, AreApart, AreSeen, SeesMore}
use Rattle.dlk_subst.proofs.Counted.{ids_few}

-- a tree is within itself, and what is found within the replacements
pub root_within : (t : Tree) → Contains (subtrees t) t
root_within (node op kids) = (0, omega arith, refl)

pub found_within : (trees : List Tree) (pairs : List Pair) (s : Sym) (id : Id) → found pairs s ≡ Some id → (t : Tree) → Contains (subtrees (tree trees id)) t
    → Contains (replacement_subtrees (pairs_at trees pairs)) t
found_within trees [] s id e t c = absurd (none-some id e)
found_within trees (p ∷ pairs) s id e t c = at (λ h. found_within trees pairs s id h t c) (sym_eq s p.sym) e
  where
    at : (found pairs s ≡ Some id → Contains (replacement_subtrees (pairs_at trees pairs)) t) → (b : Bool) → cond b (Some p.by) (found pairs s) ≡ Some id
        → Contains (replacement_subtrees (pairs_at trees (p ∷ pairs))) t
    at rest true h =
        Contains-append_left (subtrees (tree trees p.by)) (replacement_subtrees (pairs_at trees pairs)) t
        (subst (λ j. Contains (subtrees (tree trees j)) t) (sym (same_Some p.by id h)) c)
    at rest false h = Contains-append_right (subtrees (tree trees p.by)) (replacement_subtrees (pairs_at trees pairs)) t (rest h)

pub found_in : (trees : List Tree) (pairs : List Pair) (s : Sym) (id : Id) → found pairs s ≡ Some id
    → Contains (replacement_subtrees (pairs_at trees pairs)) (tree trees id)
found_in trees pairs s id e = found_within trees pairs s id e (tree trees id) (root_within (tree trees id))

module _ (trees all : List Tree) where
  pub seen_none : (seen : List Seen) → seen ≡ [] → AreSeen trees all seen
  seen_none seen e = subst (AreSeen trees all) (sym e) (record {
    each = All-nil (IsSeen trees);
    once = record { apart = λ i j d h l. absurd (omega arith) };
    among = λ i d h. absurd (omega arith);
  })

  pub sees_begun : (seen : List Seen) (s : ℕ) → seen ≡ [] → SeesMore trees all [] seen s s
  sees_begun seen s e = record { are = seen_none seen e; cost = omega arith }

  pub sees_same : (old new : List Seen) (s0 s1 : ℕ) → new ≡ old → s1 ≡ s0 → AreSeen trees all old → SeesMore trees all old new s0 s1
  sees_same old new s0 s1 same step h = record { are = subst (AreSeen trees all) (sym same) h; cost = omega (arith, ap length same, step) }

  pub sees_then : (a b c : List Seen) (s0 s1 s2 : ℕ) → SeesMore trees all a b s0 s1 → SeesMore trees all b c s1 s2 → SeesMore trees all a c s0 s2
  sees_then a b c s0 s1 s2 p q = record { are = q.are; cost = omega (arith, p.cost, q.cost) }

  pub seen_node : (seen : List Seen) (s : Seen) → Contains seen s → AreSeen trees all seen → IsSeen trees s
  seen_node seen s c h = subst (IsSeen trees) c.2 (h.each c.0 s c.1)

  apart_push : (ids : List Id) (id : Id) → AreApart ids → All (λ k. same_id k id ≡ false) ids → AreApart (ids ++ id ∷ [])
  apart_push ids id h new = record { apart = λ i j d a b. by i j d a b (cases_lt j (length ids)) }
    where
      by : (i j : ℕ) (d : Id) → i < j → j < length (ids ++ id ∷ []) → (j < length ids) ⊎ (length ids ≤ j)
          → same_id (get_or (ids ++ id ∷ []) i d) (get_or (ids ++ id ∷ []) j d) ≡ false
      by i j d a b (inl less) =
          rw (get_or_append_left ids (id ∷ []) d i (omega (arith, a, less)), get_or_append_left ids (id ∷ []) d j less) (h.apart i j d a less)
      by i j d a b (inr le) =
          let at : j ≡ length ids = omega (arith, length-append ids (id ∷ [])) in
          let first : i < length ids = omega (arith, a, at) in
          rw (at, get_or-append_seam ids id [] d, get_or_append_left ids (id ∷ []) d i first) (new i d first)

  among_push : (ids : List Id) (id : Id) → ((i : ℕ) (d : Id) → i < length ids → Contains all (tree trees (get_or ids i d))) → Contains all (tree trees id)
      → (i : ℕ) (d : Id) → i < length (ids ++ id ∷ []) → Contains all (tree trees (get_or (ids ++ id ∷ []) i d))
  among_push ids id h new i d l = by (cases_lt i (length ids))
    where
      by : (i < length ids) ⊎ (length ids ≤ i) → Contains all (tree trees (get_or (ids ++ id ∷ []) i d))
      by (inl less) = rw (get_or_append_left ids (id ∷ []) d i less) (h i d less)
      by (inr le) =
          let at : i ≡ length ids = omega (arith, length-append ids (id ∷ [])) in
          rw (at, get_or-append_seam ids id [] d) new

  pub sees_pushed : (old new : List Seen) (s : Seen) (s0 s1 : ℕ) → new ≡ old ++ s ∷ [] → s1 ≡ s0 + 1 → IsSeen trees s → Contains all (tree trees s.id)
      → All (λ (r : Seen). same_id r.id s.id ≡ false) old → AreSeen trees all old → SeesMore trees all old new s0 s1
  sees_pushed old new s s0 s1 is step seen among absent h =
      let ids : ids_of (old ++ s ∷ []) ≡ ids_of old ++ s.id ∷ [] = map-append (λ (r : Seen). r.id) old (s ∷ []) in
      let one = All-cons (IsSeen trees) s [] seen (All-nil (IsSeen trees)) in
      let none = All-map (λ k. same_id k s.id ≡ false) (λ (r : Seen). r.id) old absent in
      let are : AreSeen trees all (old ++ s ∷ []) = record {
        each = All-append (IsSeen trees) old (s ∷ []) h.each one;
        once = subst AreApart (sym ids) (apart_push (ids_of old) s.id h.once none);
        among = subst (λ l. (i : ℕ) (d : Id) → i < length l → Contains all (tree trees (get_or l i d))) (sym ids)
            (among_push (ids_of old) s.id h.among among);
      } in
      record { are = subst (AreSeen trees all) (sym is) are; cost = omega (arith, ap length is, length-append old (s ∷ []), step) }

  -- in a store in which a tree has one id there are few
  pub seen_few : (seen : List Seen) (s0 s1 : ℕ) → HasOneId trees → SeesMore trees all [] seen s0 s1 → s1 ≤ s0 + distinct_count all
  seen_few seen s0 s1 one h =
      let few = ids_few trees one (ids_of seen) h.are.once all (each_in seen h.are) in
      omega (arith, few, h.cost, length-map seen (λ (r : Seen). r.id))
    where
      each_in : (l : List Seen) → AreSeen trees all l → (i : ℕ) (d : Id) → i < length (ids_of l)
          → IsId trees (get_or (ids_of l) i d) × Contains all (tree trees (get_or (ids_of l) i d))
      each_in l a i d b = (All-map (IsId trees) (λ (r : Seen). r.id) l (λ k e c. (a.each k e c).known) i d b, a.among i d b)
