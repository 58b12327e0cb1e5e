-- What stands at a place, by the ids of its kids.
use Rattle.std.proofs.Common.{◌≡◌, ℕ, List, [], ◌∷◌, map, get_or, None, Some, refl, ap, ◌∙◌}
use Rattle.std.specs.Prelude.{All, option_map}
use Rattle.std.proofs.lemmas.List.Elements.{All-head, All-tail}
use Rattle.dlk_tree.specs.declared.op.Op.{Op}
use Rattle.dlk_tree.specs.declared.op.Sort.TheVariants.{Formula}
use Rattle.dlk_tree.specs.Table.{kid_sorts}
use Rattle.dlk_tree.specs.Trees.{Tree, node, Forest, sort, root}
use Rattle.dlk_store.specs.declared.Id.{Id}
use Rattle.dlk_store.specs.Stores.{IsId, tree}
use Rattle.dlk_calculus.specs.Notation.{leaf}
use Rattle.dlk_calculus.specs.Places.{at, At, IsPlace}
use Rattle.dlk_calculus.proofs.PlaceLaws.{at_one, at_none, at-map, At-map, At_All, At_place}
use Rattle.dlk_calculus.proofs.Sorts.{head, tail}
use Rattle.dlk_rules.specs.declared.rule.RuleFault.{RuleFault}
use Rattle.dlk_rules.specs.declared.rule.RuleFault.TheVariants as fault
use Rattle.dlk_rules.specs.Looks.{IsAt, IsNodeAt, IsKidAt, AreKidsAt, IsFormFault}

module _ {trees side : List Tree} {place : ℕ} {o : Op} {kids : List Id} (n : IsNodeAt trees side place o kids) where
  pub other_op : (op : Op) → (¬ (o ≡ op)) → (p : Forest) → ¬ At side place (node op p)
  other_op op m p h = m (ap root (at_one side place _ (node op p) n.at h))

pub one_kid : (trees side : List Tree) (place : ℕ) (op : Op) (kids : List Id) (d : Id) → IsNodeAt trees side place op kids → kid_sorts op ≡ Formula ∷ [] →
    IsKidAt trees side place op (get_or kids 0 d)
one_kid trees side place op [] d n e = let k = n.sorts_are ∙ e in cc
one_kid trees side place op (a ∷ b ∷ rest) d n e = let k = n.sorts_are ∙ e in cc
one_kid trees side place op (a ∷ []) d n e = record {
  place_is = n.place_is;
  f = tree trees a;
  at = n.at;
  f_stands = record { known = All-head (IsId trees) a [] n.known; tree_is = refl };
}

pub two_kids : (trees side : List Tree) (place : ℕ) (op : Op) (kids : List Id) (d : Id) → IsNodeAt trees side place op kids →
    kid_sorts op ≡ Formula ∷ Formula ∷ [] →
    AreKidsAt trees side place op (get_or kids 0 d) (get_or kids 1 d)
two_kids trees side place op [] d n e = let k = n.sorts_are ∙ e in cc
two_kids trees side place op (a ∷ []) d n e = let k = n.sorts_are ∙ e in cc
two_kids trees side place op (a ∷ b ∷ c ∷ rest) d n e = let k = n.sorts_are ∙ e in cc
two_kids trees side place op (a ∷ b ∷ []) d n e =
    let k : sort (tree trees a) ∷ sort (tree trees b) ∷ [] ≡ Formula ∷ Formula ∷ [] = n.sorts_are ∙ e in
    record {
      place_is = n.place_is;
      f = tree trees a;
      g = tree trees b;
      at = n.at;
      f_stands = record { known = All-head (IsId trees) a (b ∷ []) n.known; tree_is = refl };
      g_stands = record { known = All-head (IsId trees) b [] (All-tail (IsId trees) a (b ∷ []) n.known); tree_is = refl };
      f_sort = ap head k;
      g_sort = ap (λ ss. head (tail ss)) k;
    }

-- what has no form of one kind has none of a narrower one
module _ (trees : List Tree) (ids : List Id) (place : ℕ) {A B : Type 0} (wide : A → Tree) (narrow : B → Tree) where
  pub narrower : (part : B → A) → ((b : B) → narrow b ≡ wide (part b)) → (why : RuleFault) →
      IsFormFault trees ids place A wide why → IsFormFault trees ids place B narrow why
  narrower part same fault.NoPlace h = h
  narrower part same fault.WrongShape h = (h.0, λ b k. h.1 (part b) (k ∙ ap Some (same b)))
  narrower part same fault.NotEqual h = h
  narrower part same fault.NotFresh h = h
  narrower part same fault.Memory h = h
