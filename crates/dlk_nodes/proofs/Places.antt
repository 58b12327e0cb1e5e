-- Trees that have a node.
use Rattle.std.proofs.Common.{◌≡◌, suc, ◌≤◌, Bool, true, false, ◌||◌, cond, List, [], ◌∷◌, ◌++◌, length, Some, refl, sym, ap, ◌∙◌, arith}
use Rattle.std.proofs.lemmas.List.Folds.{list_any-append}
use Rattle.std.proofs.Math.Bool.{or-true}
use Rattle.dlk_tree.specs.Trees.{Tree, Forest, no_kids, kid}
use Rattle.dlk_tree.specs.TreeTests.{tree_eq}
use Rattle.dlk_tree.proofs.TreeSame.{tree_decides}
use Rattle.dlk_calculus.specs.Places.{At}
use Rattle.dlk_calculus.proofs.PlaceLaws.{at_suc, At_place}
use Rattle.dlk_lines.specs.Spelled.{Names}
use Rattle.dlk_nodes.specs.Nodes.{has_node}
use Rattle.dlk_nodes.specs.Follow.{AreThere, KidsThere}
use Rattle.dlk_lines.specs.Written.{place_of, number_text}
use Rattle.dlk_lines.proofs.NumberText.{number_read}

pub tree_is_itself : (t : Tree) → tree_eq t t ≡ true
tree_is_itself t = (tree_decides t t).1 refl

-- a tree that has a node has the number of one
pub there : (nodes : List Tree) (t : Tree) → has_node nodes t ≡ true → At nodes (suc (place_of nodes t)) t
there [] t h = absurd (cc h)
there (n ∷ nodes) t h = by_test (tree_eq t n) refl h (λ later. there nodes t later)
  where
    by_test : (b : Bool) → tree_eq t n ≡ b → (b || has_node nodes t) ≡ true → (has_node nodes t ≡ true → At nodes (suc (place_of nodes t)) t) →
        At (n ∷ nodes) (suc (cond b 0 (suc (place_of nodes t)))) t
    by_test true same h again = at_suc (n ∷ nodes) 0 ∙ ap Some (sym ((tree_decides t n).0 same))
    by_test false other h again = at_suc (n ∷ nodes) (suc (place_of nodes t)) ∙ sym (at_suc nodes (place_of nodes t)) ∙ again h

-- and still has one where more nodes come behind
pub still_there : (nodes more : List Tree) (t : Tree) → has_node nodes t ≡ true → has_node (nodes ++ more) t ≡ true
still_there nodes more t h = list_any-append (tree_eq t) nodes more ∙ ap (λ b. b || has_node more t) h

pub there_behind : (nodes more : List Tree) (t : Tree) → has_node more t ≡ true → has_node (nodes ++ more) t ≡ true
there_behind nodes more t h = list_any-append (tree_eq t) nodes more ∙ ap (λ b. has_node nodes t || b) h ∙ or-true (has_node nodes t)

pub in_neither : (nodes more : List Tree) (t : Tree) → has_node nodes t ≡ false → has_node more t ≡ false → has_node (nodes ++ more) t ≡ false
in_neither nodes more t h g = list_any-append (tree_eq t) nodes more ∙ ap (λ b. b || has_node more t) h ∙ g

pub front_there : (nodes xs ys : List Tree) → AreThere nodes (xs ++ ys) → AreThere nodes xs
front_there nodes [] ys h = tt
front_there nodes (x ∷ xs) ys h = (h.0, front_there nodes xs ys h.1)

pub behind_there : (nodes xs ys : List Tree) → AreThere nodes (xs ++ ys) → AreThere nodes ys
behind_there nodes [] ys h = h
behind_there nodes (x ∷ xs) ys h = behind_there nodes xs ys h.1

-- numbers are read
module _ (nodes : List Tree) (few : length nodes ≤ 999999999) where
  pub named : (t : Tree) → has_node nodes t ≡ true → Names nodes (number_text nodes t) t
  named t h =
      let at = there nodes t h in
      let place = At_place nodes (suc (place_of nodes t)) t at in
      record {
        number = suc (place_of nodes t);
        is_number = number_read (suc (place_of nodes t)) (record { some = omega arith; few = omega (arith, place.1, few) });
        there = at;
      }
