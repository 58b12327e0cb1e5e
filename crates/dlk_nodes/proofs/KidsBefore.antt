-- The kids of each new node stand before it.
use Rattle.std.proofs.Common.{◌≡◌, Bool, true, false, cond, ◌||◌, List, [], ◌∷◌, ◌++◌, refl, sym, ap, subst, append_assoc, append-nil}
use Rattle.dlk_tree.specs.Trees.{Tree, node, Forest, no_kids, kid}
use Rattle.dlk_nodes.specs.Follow.{KidsThere}
use Rattle.dlk_nodes.specs.Nodes.{has_node}
use Rattle.dlk_nodes.specs.Put.{KidsFollow}
use Rattle.dlk_nodes.specs.Terms.{new_nodes, new_in_kids, new_in_each}
use Rattle.dlk_nodes.proofs.Places.{tree_is_itself, still_there, there_behind}

follow_both : (nodes a b : List Tree) → KidsFollow nodes a → KidsFollow (nodes ++ a) b → KidsFollow nodes (a ++ b)
follow_both nodes [] b f g = subst (λ l. KidsFollow l b) (append-nil nodes) g
follow_both nodes (t ∷ a) b f g = (f.0, follow_both (nodes ++ t ∷ []) a b f.1 (subst (λ l. KidsFollow l b) (sym (append_assoc nodes (t ∷ []) a)) g))

mutual
  new_follow : (nodes : List Tree) (t : Tree) → KidsFollow nodes (new_nodes nodes t) × (has_node (nodes ++ new_nodes nodes t) t ≡ true)
  new_follow nodes (node op kids) = by_test (has_node nodes (node op kids)) refl (kids_follow nodes kids)
    where
      by_test : (b : Bool) → has_node nodes (node op kids) ≡ b → KidsFollow nodes (new_in_kids nodes kids) × KidsThere (nodes ++ new_in_kids nodes kids) kids →
          KidsFollow nodes (cond b [] (new_in_kids nodes kids ++ node op kids ∷ [])) × (has_node (nodes ++ cond b []
          (new_in_kids nodes kids ++ node op kids ∷ [])) (node op kids) ≡ true)
      by_test true old k = (tt, still_there nodes [] (node op kids) old)
      by_test false new k =
          let t = node op kids in
          let before = new_in_kids nodes kids in
          let itself : has_node (t ∷ []) t ≡ true = ap (λ b. b || false) (tree_is_itself t) in (
            follow_both nodes before (t ∷ []) k.0 (k.1, tt),
            there_behind nodes (before ++ t ∷ []) t (there_behind before (t ∷ []) t itself),
          )

  kids_follow : (nodes : List Tree) (kids : Forest) → KidsFollow nodes (new_in_kids nodes kids) × KidsThere (nodes ++ new_in_kids nodes kids) kids
  kids_follow nodes no_kids = (tt, tt)
  kids_follow nodes (kid t rest) =
      let first = new_follow nodes t in
      let a = new_nodes nodes t in
      let others = kids_follow (nodes ++ a) rest in
      let b = new_in_kids (nodes ++ a) rest in
      let e : (nodes ++ a) ++ b ≡ nodes ++ (a ++ b) = append_assoc nodes a b in (
        follow_both nodes a b first.0 others.0,
        (subst (λ l. has_node l t ≡ true) e (still_there (nodes ++ a) b t first.1), subst (λ l. KidsThere l rest) e others.1),
      )

pub each_follow : (nodes ts : List Tree) → KidsFollow nodes (new_in_each nodes ts)
each_follow nodes [] = tt
each_follow nodes (t ∷ ts) =
    let a = new_nodes nodes t in
    follow_both nodes a (new_in_each (nodes ++ a) ts) (new_follow nodes t).0 (each_follow (nodes ++ a) ts)
