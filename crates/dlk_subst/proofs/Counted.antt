-- Trees that are counted once each.
use Rattle.std.proofs.Common.{◌≡◌, ℕ, ◌<◌, ◌≤◌, ◌||◌, Bool, true, false, cond, List, [], ◌∷◌, length, get_or, map, refl, sym, ap, subst, ◌∙◌}
use Rattle.std.proofs.Common.{true≢false, arith, Contains}
use Rattle.std.specs.Cmp.{decided}
use Rattle.std.specs.List.{list_any, IsDistinct, AllByRecursion}
use Rattle.std.specs.Set.{unique_keys}
use Rattle.std.proofs.lemmas.Map.Made.{length-le_from_is_member, is_member-Decides}
use Rattle.std.proofs.lemmas.Map.Keys.{IsDistinct-from_apart}
use Rattle.std.proofs.lemmas.List.{length-map, get_or-map}
use Rattle.dlk_tree.specs.TreeTests.{tree_eq}
use Rattle.dlk_tree.proofs.TreeSame.{tree_decides}
use Rattle.dlk_tree.specs.Trees.{Tree}
use Rattle.dlk_store.specs.declared.Id.{Id}
use Rattle.dlk_store.specs.contracts.IdEq.TheImpl.Laws.{laws-law}
use Rattle.dlk_store.specs.Stores.{IsId, tree, HasOneId}
use Rattle.dlk_subst.specs.Counts.{distinct_count}
use Rattle.dlk_subst.specs.Looked.{same_id, AreApart}

-- a tree of the list is one of those that are counted
counted : (xs : List Tree) (q : Tree) → list_any (tree_eq q) xs ≡ true → list_any (tree_eq q) (unique_keys tree_eq xs) ≡ true
counted [] q h = h
counted (x ∷ xs) q h = by (λ t g. counted xs t g) (list_any (tree_eq x) xs) refl (tree_eq q x) refl
  where
    rest : tree_eq q x ≡ false → list_any (tree_eq q) xs ≡ true
    rest e = sym (ap (λ b. b || list_any (tree_eq q) xs) e) ∙ h

    by : ((t : Tree) → list_any (tree_eq t) xs ≡ true → list_any (tree_eq t) (unique_keys tree_eq xs) ≡ true)
        → (b : Bool) → list_any (tree_eq x) xs ≡ b → (e : Bool) → tree_eq q x ≡ e
        → list_any (tree_eq q) (cond (list_any (tree_eq x) xs) (unique_keys tree_eq xs) (x ∷ unique_keys tree_eq xs)) ≡ true
    by all true p true r =
        let same = (tree_decides q x).0 r in
        ap (λ c. list_any (tree_eq q) (cond c (unique_keys tree_eq xs) (x ∷ unique_keys tree_eq xs))) p
        ∙ all q (ap (λ (t : Tree). list_any (tree_eq t) xs) same ∙ p)
    by all true p false r =
        ap (λ c. list_any (tree_eq q) (cond c (unique_keys tree_eq xs) (x ∷ unique_keys tree_eq xs))) p ∙ all q (rest r)
    by all false p true r =
        ap (λ c. list_any (tree_eq q) (cond c (unique_keys tree_eq xs) (x ∷ unique_keys tree_eq xs))) p
        ∙ ap (λ b. b || list_any (tree_eq q) (unique_keys tree_eq xs)) r
    by all false p false r =
        ap (λ c. list_any (tree_eq q) (cond c (unique_keys tree_eq xs) (x ∷ unique_keys tree_eq xs))) p
        ∙ ap (λ b. b || list_any (tree_eq q) (unique_keys tree_eq xs)) r ∙ all q (rest r)

-- unlike trees that are all in a list are at most as many as are counted there
pub apart_few : (few all : List Tree) → IsDistinct tree_eq few → ((t : Tree) → Contains few t → Contains all t) → length few ≤ distinct_count all
apart_few few all apart among =
    length-le_from_is_member (decided tree_eq tree_decides) few (unique_keys tree_eq all) apart
    (λ q h. counted all q ((is_member-Decides tree_decides all q).1 (among q ((is_member-Decides tree_decides few q).0 h))))

-- in a list with more trees as many are counted, or more
none_of : (x : Tree) (xs : List Tree) → list_any (tree_eq x) xs ≡ false → AllByRecursion (λ y. tree_eq x y ≡ false) (unique_keys tree_eq xs)
none_of x [] h = tt
none_of x (y ∷ ys) h = by (tree_eq x y) (list_any (tree_eq x) ys) h refl (λ g. none_of x ys g) (list_any (tree_eq y) ys)
  where
    by : (b c : Bool) → b || c ≡ false → tree_eq x y ≡ b → (c ≡ false → AllByRecursion (λ z. tree_eq x z ≡ false) (unique_keys tree_eq ys))
        → (e : Bool) → AllByRecursion (λ z. tree_eq x z ≡ false) (cond e (unique_keys tree_eq ys) (y ∷ unique_keys tree_eq ys))
    by true c g is rest e = absurd (true≢false g)
    by false c g is rest true = rest g
    by false c g is rest false = (is, rest g)

once_each : (xs : List Tree) → IsDistinct tree_eq (unique_keys tree_eq xs)
unfolding IsDistinct
once_each [] = tt
once_each (x ∷ xs) = by (list_any (tree_eq x) xs) refl (once_each xs)
  where
    by : (b : Bool) → list_any (tree_eq x) xs ≡ b → IsDistinct tree_eq (unique_keys tree_eq xs)
        → IsDistinct tree_eq (cond b (unique_keys tree_eq xs) (x ∷ unique_keys tree_eq xs))
    by true e rest = rest
    by false e rest = (none_of x xs e, rest)

uncounted : (xs : List Tree) (q : Tree) → list_any (tree_eq q) (unique_keys tree_eq xs) ≡ true → list_any (tree_eq q) xs ≡ true
uncounted [] q h = h
uncounted (x ∷ xs) q h = by (list_any (tree_eq x) xs) (tree_eq q x) (λ g. uncounted xs q g) (pushed (list_any (tree_eq x) xs) h)
  where
    pushed : (b : Bool) → list_any (tree_eq q) (cond b (unique_keys tree_eq xs) (x ∷ unique_keys tree_eq xs)) ≡ true
        → cond b (list_any (tree_eq q) (unique_keys tree_eq xs)) (tree_eq q x || list_any (tree_eq q) (unique_keys tree_eq xs)) ≡ true
    pushed true g = g
    pushed false g = g

    by : (b c : Bool) → (list_any (tree_eq q) (unique_keys tree_eq xs) ≡ true → list_any (tree_eq q) xs ≡ true)
        → cond b (list_any (tree_eq q) (unique_keys tree_eq xs)) (c || list_any (tree_eq q) (unique_keys tree_eq xs)) ≡ true
        → c || list_any (tree_eq q) xs ≡ true
    by b true rest g = refl
    by true false rest g = rest g
    by false false rest g = rest g

pub count_grows : (xs ys : List Tree) → ((t : Tree) → Contains xs t → Contains ys t) → distinct_count xs ≤ distinct_count ys
count_grows xs ys among =
    apart_few (unique_keys tree_eq xs) ys (once_each xs)
    (λ t h. among t ((is_member-Decides tree_decides xs t).0 (uncounted xs t ((is_member-Decides tree_decides (unique_keys tree_eq xs) t).1 h))))

-- ids without repeats, in a store in which a tree has one id, of trees that are in a list
module _ (trees : List Tree) (one : HasOneId trees) (ids : List Id) (once : AreApart ids) (all : List Tree)
    (each : (i : ℕ) (d : Id) → i < length ids → IsId trees (get_or ids i d) × Contains all (tree trees (get_or ids i d))) where
  zero_id : Id
  zero_id = record { 0 = 0 }

  tree_at : (i : ℕ) (t : Tree) → i < length ids → get_or (map (tree trees) ids) i t ≡ tree trees (get_or ids i zero_id)
  tree_at i t h = get_or-map (tree trees) ids i zero_id t h

  trees_apart : (i j : ℕ) (d : Tree) → i < j → j < length (map (tree trees) ids) →
      tree_eq (get_or (map (tree trees) ids) i d) (get_or (map (tree trees) ids) j d) ≡ false
  trees_apart i j d h l =
      (λ x. tree_eq (tree_at i d (omega (arith, h, below)) x) (tree_at j d below x)) ∙ by (tree_eq (tree trees a) (tree trees b)) refl
    where
      below : j < length ids
      below = omega (arith, l, length-map ids (tree trees))

      a : Id
      a = get_or ids i zero_id

      b : Id
      b = get_or ids j zero_id

      by : (v : Bool) → tree_eq (tree trees a) (tree trees b) ≡ v → tree_eq (tree trees a) (tree trees b) ≡ false
      by false e = e
      by true e =
          let same : a ≡ b =
          one a b (each i zero_id (omega (arith, h, below))).0 (each j zero_id below).0 ((tree_decides (tree trees a) (tree trees b)).0 e) in
          let yes : same_id a b ≡ true = subst (λ (m : Id). same_id a m ≡ true) same (laws-law.refl a) in
          absurd (true≢false (sym yes ∙ once.apart i j zero_id h below))

  among : (t : Tree) → Contains (map (tree trees) ids) t → Contains all t
  among t c =
      let below : c.0 < length ids = omega (arith, c.1, length-map ids (tree trees)) in
      subst (λ (u : Tree). Contains all u) (sym (tree_at c.0 t below) ∙ c.2) (each c.0 zero_id below).1

  pub ids_few : length ids ≤ distinct_count all
  ids_few =
      let xs = map (tree trees) ids in
      let few = apart_few xs all (IsDistinct-from_apart tree_eq xs trees_apart) among in
      omega (arith, few, length-map ids (tree trees))
