-- The dots of a tree that aren't below a number, counted up one by one.
use Rattle.std.proofs.Common.{◌≡◌, ◌∙◌, ℕ, ◌+◌, ◌≤◌, Bool, true, false, ◌||◌, refl, sym, arith, leb, eqb, ltb}
use Rattle.std.proofs.lemmas.Bool.{or_from}
use Rattle.std.proofs.lemmas.Bool.Decides.{nat_tests}
use Rattle.std.specs.Prelude.{IsTrue}
use Rattle.dlk_tree.specs.declared.op.Op.{Op}
use Rattle.dlk_tree.specs.declared.op.Op.TheVariants as Op'
use Rattle.dlk_tree.specs.Table.{has_parts}
use Rattle.dlk_tree.specs.Trees.{Tree, node, Forest, no_kids, kid, WellMade, AllWellMade}
use Rattle.dlk_tree.specs.Occurs.{is_dot, is_some_dot, has, any_has, has_dot}
use Rattle.dlk_calculus.specs.Pairs.{is_dot_from}

crossed : (a b c d : Bool) → ((a || b) || (c || d)) ≡ ((a || c) || (b || d))
crossed true b c d = refl
crossed false true true d = refl
crossed false true false d = refl
crossed false false c d = refl

number_or_later : (n m : ℕ) → leb n m ≡ (eqb m n || leb (n + 1) m)
number_or_later n m = grind (arith, nat_tests)

is_dot_or_later : (n : ℕ) (op : Op) → is_dot_from n op ≡ (is_dot n op || is_dot_from (n + 1) op)
is_dot_or_later n (Op'.Dot m) = number_or_later n m
is_dot_or_later n _ = refl

-- a dot from n on is dot n or a later one
mutual
  dot_or_later : (n : ℕ) (t : Tree) → has (is_dot_from n) t ≡ (has_dot n t || has (is_dot_from (n + 1)) t)
  dot_or_later n (node op kids) =
      let here = is_dot_or_later n op in
      let below = dot_or_later_below n kids in
      (λ i. here i || below i) ∙ crossed (is_dot n op) (is_dot_from (n + 1) op) (any_has (is_dot n) kids) (any_has (is_dot_from (n + 1)) kids)

  dot_or_later_below : (n : ℕ) (kids : Forest) → any_has (is_dot_from n) kids ≡ (any_has (is_dot n) kids || any_has (is_dot_from (n + 1)) kids)
  dot_or_later_below n no_kids = refl
  dot_or_later_below n (kid t rest) =
      let first = dot_or_later n t in
      let others = dot_or_later_below n rest in
      (λ i. first i || others i) ∙ crossed (has_dot n t) (has (is_dot_from (n + 1)) t) (any_has (is_dot n) rest) (any_has (is_dot_from (n + 1)) rest)

-- where n is past the first numbers m, of which none stands in the tree, and dot n does
pub dot_found : (m n : ℕ) (t : Tree) → has (is_dot_from m) t ≡ has (is_dot_from n) t → true ≡ has_dot n t → true ≡ has (is_dot_from m) t
dot_found m n t passed found = (λ i. found i || has (is_dot_from (n + 1)) t) ∙ sym (passed ∙ dot_or_later n t)

-- or it doesn't
pub dot_passed : (m n : ℕ) (t : Tree) → has (is_dot_from m) t ≡ has (is_dot_from n) t → false ≡ has_dot n t →
    has (is_dot_from m) t ≡ has (is_dot_from (n + 1)) t
dot_passed m n t passed missing = passed ∙ dot_or_later n t ∙ (λ i. sym missing i || has (is_dot_from (n + 1)) t)

late_number : (n m : ℕ) → 8 ≤ n → ltb m 8 ≡ true → leb n m ≡ false
late_number n m late real = grind (arith, nat_tests)

is_no_late_dot : (n : ℕ) → 8 ≤ n → (op : Op) → IsTrue (has_parts op) → is_dot_from n op ≡ false
is_no_late_dot n late (Op'.Dot m) real = late_number n m late real
is_no_late_dot n late _ real = refl

-- no dot of a well-made tree is past 7
mutual
  no_late_dot : (n : ℕ) → 8 ≤ n → (t : Tree) → WellMade t → has (is_dot_from n) t ≡ false
  no_late_dot n late (node op kids) made = or_from _ _ (is_no_late_dot n late op made.0.parts_fit) (no_late_dot_below n late kids made.1)

  no_late_dot_below : (n : ℕ) → 8 ≤ n → (kids : Forest) → AllWellMade kids → any_has (is_dot_from n) kids ≡ false
  no_late_dot_below n late no_kids made = refl
  no_late_dot_below n late (kid t rest) made = or_from _ _ (no_late_dot n late t made.0) (no_late_dot_below n late rest made.1)

pub no_more_dots : (m n : ℕ) (t : Tree) → has (is_dot_from m) t ≡ has (is_dot_from n) t → 8 ≤ n → WellMade t → false ≡ has (is_dot_from m) t
no_more_dots m n t passed late made = sym (passed ∙ no_late_dot n late t made)

is_dot_from_0 : (op : Op) → is_dot_from 0 op ≡ is_some_dot op
is_dot_from_0 (Op'.Dot m) = grind (arith, nat_tests)
is_dot_from_0 _ = refl

-- the dots from 0 on are all
mutual
  pub dots_from_0 : (t : Tree) → has (is_dot_from 0) t ≡ has is_some_dot t
  dots_from_0 (node op kids) = let here = is_dot_from_0 op in let below = dots_from_0_below kids in λ i. here i || below i

  dots_from_0_below : (kids : Forest) → any_has (is_dot_from 0) kids ≡ any_has is_some_dot kids
  dots_from_0_below no_kids = refl
  dots_from_0_below (kid t rest) = let first = dots_from_0 t in let others = dots_from_0_below rest in λ i. first i || others i
