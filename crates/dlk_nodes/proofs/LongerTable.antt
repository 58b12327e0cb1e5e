-- A node has the same number in a table with more nodes behind, so the lines of new nodes can be written once all of them are there.
use Rattle.std.proofs.Common.{◌≡◌, ℕ, suc, Bool, true, false, ◌||◌, List, [], ◌∷◌, ◌++◌, codes, refl, ap}
use Rattle.std.specs.Prelude.{if◌then◌else◌}
use Rattle.std.specs.Fmt.{decimal}
use Rattle.dlk_tree.specs.Trees.{Tree, node, Forest, no_kids, kid}
use Rattle.dlk_tree.specs.TreeTests.{tree_eq}
use Rattle.dlk_nodes.specs.Nodes.{has_node}
use Rattle.dlk_nodes.specs.Words.{op_text}
use Rattle.dlk_lines.specs.Written.{place_of}
use Rattle.dlk_nodes.specs.Written.{kids_text, numbered_text}
use Rattle.dlk_nodes.specs.Follow.{KidsThere, HasKidsThere}

pub place_stays : (nodes more : List Tree) (t : Tree) → has_node nodes t ≡ true → place_of (nodes ++ more) t ≡ place_of nodes t
place_stays [] more t h = absurd (cc h)
place_stays (n ∷ nodes) more t h = by_test (tree_eq t n) h (λ later. place_stays nodes more t later)
  where
    by_test : (b : Bool) → (b || has_node nodes t) ≡ true → (has_node nodes t ≡ true → place_of (nodes ++ more) t ≡ place_of nodes t) →
        (if b then 0 else suc (place_of (nodes ++ more) t)) ≡ (if b then 0 else suc (place_of nodes t))
    by_test true h again = refl
    by_test false h again = ap suc (again h)

pub kids_text_stays : (nodes more : List Tree) (kids : Forest) → KidsThere nodes kids → kids_text (nodes ++ more) kids ≡ kids_text nodes kids
kids_text_stays nodes more no_kids h = refl
kids_text_stays nodes more (kid t rest) h =
    let first = ap (λ n. codes " " ++ decimal (suc n)) (place_stays nodes more t h.0) in
    let others = kids_text_stays nodes more rest h.1 in
    λ i. first i ++ others i

pub text_stays : (nodes more : List Tree) (number : ℕ) (t : Tree) → HasKidsThere nodes t → numbered_text number (nodes ++ more) t ≡ numbered_text number nodes t
text_stays nodes more number (node op kids) h = ap (λ l. codes "node " ++ decimal number ++ codes " " ++ (op_text op ++ l)) (kids_text_stays nodes more kids h)
