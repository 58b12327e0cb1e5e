-- What was kept stays so, and so do kids that stand in it: lemmas that each store needs for its impl of the trait.
use Rattle.std.proofs.Common.{◌≡◌, ℕ, suc, ◌<◌, List, [], ◌∷◌, ◌++◌, length, get_or, refl, ap, ◌∙◌, arith}
use Rattle.std.specs.Prelude.{All}
use Rattle.std.proofs.lemmas.List.{get_or_append_left, length-append}
use Rattle.dlk_tree.specs.declared.op.Op.TheVariants.{True}
use Rattle.dlk_tree.specs.Trees.{Tree, node, no_kids, kid, sort, sorts, WellMade, AllWellMade}
use Rattle.dlk_store.specs.declared.Id.{Id}
use Rattle.dlk_store.specs.Stores.{IsId, tree, kid_trees, sorts_at, Keeps}

-- the sorts of kids as trees and as ids
pub sorts-kid_trees : (trees : List Tree) (ks : List Id) → sorts (kid_trees trees ks) ≡ sorts_at trees ks
sorts-kid_trees trees [] = refl
sorts-kid_trees trees (k ∷ ks) = ap (λ ss. sort (tree trees k) ∷ ss) (sorts-kid_trees trees ks)

-- what was kept stays so
pub Keeps-refl : (trees : List Tree) → Keeps trees trees
Keeps-refl trees = record { known = omega arith; same = λ id h. refl }

pub Keeps-trans : {a b c : List Tree} → Keeps a b → Keeps b c → Keeps a c
Keeps-trans p q = record {
  known = omega (arith, p.known, q.known);
  same = λ id h. q.same id (omega (arith, p.known)) ∙ p.same id h;
}

-- kids among the old trees are the same among the new
pub kid_trees-kept : {old new : List Tree} → Keeps old new → (ks : List Id) → All (IsId old) ks → kid_trees new ks ≡ kid_trees old ks
kid_trees-kept p [] all = refl
kid_trees-kept {old} {new} p (k ∷ ks) all =
    let head = p.same k (all 0 k (omega arith)) in
    let tail = kid_trees-kept p ks (λ i d h. all (suc i) d (omega arith)) in
    λ i. kid (head i) (tail i)

pub sorts_at-kept : {old new : List Tree} → Keeps old new → (ks : List Id) → All (IsId old) ks → sorts_at new ks ≡ sorts_at old ks
sorts_at-kept p [] all = refl
sorts_at-kept {old} {new} p (k ∷ ks) all =
    let head = ap sort (p.same k (all 0 k (omega arith))) in
    let tail = sorts_at-kept p ks (λ i d h. all (suc i) d (omega arith)) in
    λ i. head i ∷ tail i

-- one more tree keeps the trees
pub push_keeps : (trees : List Tree) (t : Tree) → Keeps trees (trees ++ t ∷ [])
push_keeps trees t = record {
  known = omega (arith, length-append trees (t ∷ []));
  same = λ id h. get_or_append_left trees (t ∷ []) (node True no_kids) id.0 h;
}

-- kids that are ids of well made trees
pub kids_made : (trees : List Tree) (ks : List Id) → ((i : ℕ) (d : Id) → i < length ks → WellMade (tree trees (get_or ks i d))) →
    AllWellMade (kid_trees trees ks)
kids_made trees [] made = tt
kids_made trees (k ∷ ks) made = (made 0 k (omega arith), kids_made trees ks (λ i d h. made (suc i) d (omega arith)))
