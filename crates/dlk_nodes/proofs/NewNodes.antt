-- The new nodes of a tree: each of them is new, and its kids stand before it.
use Rattle.std.proofs.Common.{◌≡◌, ℕ, ◌+◌, ◌<◌, ◌≤◌, Bool, true, false, ◌||◌, cond, List, [], ◌∷◌, ◌++◌, max, refl, sym, ap, subst, append_assoc}
use Rattle.std.proofs.Common.{append-nil, arith, inl, inr}
use Rattle.std.proofs.lemmas.Bool.{cases_Bool}
use Rattle.dlk_tree.specs.Trees.{Tree, node, Forest, no_kids, kid, size, size_all, depth, depth_all, AllWellMade}
use Rattle.dlk_tree.specs.TreeTests.{tree_eq}
use Rattle.dlk_tree.proofs.TreeSame.{tree_decides}
use Rattle.dlk_calculus.specs.Limits.{most_nodes, greatest_depth}
use Rattle.dlk_nodes.specs.Nodes.{has_node}
use Rattle.dlk_nodes.specs.Follow.{AreThere, KidsThere, IsGood, EachGood, Follow}
use Rattle.dlk_nodes.specs.Terms.{new_nodes, new_in_kids, new_in_each}
use Rattle.dlk_nodes.proofs.Places.{tree_is_itself, still_there, there_behind, in_neither}

-- each kid is one
abbrev pub AllGood : Forest → Type 0
AllGood no_kids = Unit {0}
AllGood (kid t rest) = IsGood t × AllGood rest

first_deep : (m n k : ℕ) → max m n ≤ k → (m ≤ k) × (n ≤ k)
first_deep m n k h = (grind (arith, h), grind (arith, h))

kids_good : (kids : Forest) → AllWellMade kids → size_all kids ≤ most_nodes → depth_all kids ≤ greatest_depth → AllGood kids
kids_good no_kids made small shallow = tt
kids_good (kid t rest) made small shallow =
    let deep = first_deep (depth t) (depth_all rest) greatest_depth shallow in (
      record { well_made = made.0; small = omega (arith, small); shallow = deep.0 },
      kids_good rest made.1 (omega (arith, small)) deep.1,
    )

pub follow_both : (nodes a b : List Tree) → Follow nodes a → Follow (nodes ++ a) b → Follow nodes (a ++ b)
follow_both nodes [] b f g = subst (λ l. Follow l b) (append-nil nodes) g
follow_both nodes (t ∷ a) b f g = (f.0, follow_both (nodes ++ t ∷ []) a b f.1 (subst (λ l. Follow l b) (sym (append_assoc nodes (t ∷ []) a)) g))

-- a tree isn't among the new nodes of a smaller one
other_size : (s t : Tree) → size s < size t → tree_eq t s ≡ false
other_size s t less = elim (cases_Bool (tree_eq t s)) [
  | inl same ↦ let e : size t ≡ size s = ap size ((tree_decides t s).0 same) in absurd (omega (arith, less, e))
  | inr other ↦ other
]

mutual
  absent : (nodes : List Tree) (s t : Tree) → size s < size t → has_node (new_nodes nodes s) t ≡ false
  absent nodes (node op kids) t less = by_test (has_node nodes (node op kids)) (absent_in_kids nodes kids t (omega (arith, less)))
    where
      by_test : (b : Bool) → has_node (new_in_kids nodes kids) t ≡ false → has_node (cond b [] (new_in_kids nodes kids ++ node op kids ∷ [])) t ≡ false
      by_test true h = refl
      by_test false h =
          in_neither (new_in_kids nodes kids) (node op kids ∷ []) t h (ap (λ b. b || false) (other_size (node op kids) t less))

  pub absent_in_kids : (nodes : List Tree) (kids : Forest) (t : Tree) → size_all kids < size t → has_node (new_in_kids nodes kids) t ≡ false
  absent_in_kids nodes no_kids t less = refl
  absent_in_kids nodes (kid s rest) t less =
      in_neither (new_nodes nodes s) (new_in_kids (nodes ++ new_nodes nodes s) rest) t (absent nodes s t (omega (arith, less)))
      (absent_in_kids (nodes ++ new_nodes nodes s) rest t (omega (arith, less)))

-- the new nodes may be written, and then the tree has a node
mutual
  pub new_follow : (nodes : List Tree) (t : Tree) → IsGood t → Follow nodes (new_nodes nodes t) × (has_node (nodes ++ new_nodes nodes t) t ≡ true)
  new_follow nodes (node op kids) good =
      let small : 1 + size_all kids ≤ most_nodes = good.small in
      let shallow : 1 + depth_all kids ≤ greatest_depth = good.shallow in
      by_test (has_node nodes (node op kids)) refl (kids_follow nodes kids (kids_good kids good.well_made.1 (omega (arith, small)) (omega (arith, shallow))))
    where
      by_test : (b : Bool) → has_node nodes (node op kids) ≡ b → Follow nodes (new_in_kids nodes kids) × KidsThere (nodes ++ new_in_kids nodes kids) kids →
          Follow nodes (cond b [] (new_in_kids nodes kids ++ node op kids ∷ [])) × (has_node (nodes ++ cond b []
          (new_in_kids nodes kids ++ node op kids ∷ [])) (node op kids) ≡ true)
      by_test true old k = (tt, still_there nodes [] (node op kids) old)
      by_test false new k =
          let t = node op kids in
          let before = new_in_kids nodes kids in
          let itself : has_node (t ∷ []) t ≡ true = ap (λ b. b || false) (tree_is_itself t) in
          let less : size_all kids < size t = omega arith in (
            follow_both nodes before (t ∷ []) k.0 ((k.1, in_neither nodes before t new (absent_in_kids nodes kids t less), good), tt),
            there_behind nodes (before ++ t ∷ []) t (there_behind before (t ∷ []) t itself),
          )

  pub kids_follow : (nodes : List Tree) (kids : Forest) → AllGood kids →
      Follow nodes (new_in_kids nodes kids) × KidsThere (nodes ++ new_in_kids nodes kids) kids
  kids_follow nodes no_kids good = (tt, tt)
  kids_follow nodes (kid t rest) good =
      let first = new_follow nodes t good.0 in
      let a = new_nodes nodes t in
      let others = kids_follow (nodes ++ a) rest good.1 in
      let b = new_in_kids (nodes ++ a) rest in
      let e : (nodes ++ a) ++ b ≡ nodes ++ (a ++ b) = append_assoc nodes a b in (
        follow_both nodes a b first.0 others.0,
        (subst (λ l. has_node l t ≡ true) e (still_there (nodes ++ a) b t first.1), subst (λ l. KidsThere l rest) e others.1),
      )

pub each_follow : (nodes ts : List Tree) → EachGood ts → Follow nodes (new_in_each nodes ts) × AreThere (nodes ++ new_in_each nodes ts) ts
each_follow nodes [] good = (tt, tt)
each_follow nodes (t ∷ ts) good =
    let first = new_follow nodes t good.0 in
    let a = new_nodes nodes t in
    let others = each_follow (nodes ++ a) ts good.1 in
    let b = new_in_each (nodes ++ a) ts in
    let e : (nodes ++ a) ++ b ≡ nodes ++ (a ++ b) = append_assoc nodes a b in (
      follow_both nodes a b first.0 others.0,
      (subst (λ l. has_node l t ≡ true) e (still_there (nodes ++ a) b t first.1), subst (λ l. AreThere l ts) e others.1),
    )
