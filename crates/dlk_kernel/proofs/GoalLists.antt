-- Items of three lists that stand behind each other.
use Rattle.std.proofs.Common.{◌≡◌, ℕ, ◌-◌, ◌<◌, ◌≤◌, List, [], ◌∷◌, ◌++◌, length, get_or, sym, ap, ◌∙◌, arith, length-append}
use Rattle.std.proofs.Math.ListN.{get_or-append}
use Rattle.std.proofs.Math.Seq.{get_or-append_right}

module _ {A : Type 0} (a b c : List A) (n : ℕ) (x : A) where
  left : n < length (a ++ b) → x ≡ get_or (a ++ b) n x → x ≡ get_or (a ++ b ++ c) n x
  left h is = is ∙ sym (get_or-append (a ++ b) c x n h)

  pub in_first : n < length a → x ≡ get_or a n x → x ≡ get_or (a ++ b ++ c) n x
  in_first h is = left (omega (arith, h, length-append a b)) (is ∙ sym (get_or-append a b x n h))

  pub in_second : length a ≤ n → n - length a < length b → x ≡ get_or b (n - length a) x → x ≡ get_or (a ++ b ++ c) n x
  in_second h k is = left (omega (arith, h, k, length-append a b)) (is ∙ sym (get_or-append_right a b n x h))

  pub in_third : length a ≤ n → length b ≤ n - length a → x ≡ get_or c (n - length a - length b) x → x ≡ get_or (a ++ b ++ c) n x
  in_third h k is =
      let place : n - length a - length b ≡ n - length (a ++ b) = omega (arith, h, k, length-append a b) in
      is ∙ ap (λ i. get_or c i x) place ∙ sym (get_or-append_right (a ++ b) c n x (omega (arith, h, k, length-append a b)))

module _ {A : Type 0} where
  pub none_at_all : (xs : List A) → length xs ≡ 0 → [] ≡ xs
  none_at_all [] e = cc
  none_at_all (y ∷ ys) e = absurd (omega (arith, e))

  pub one_alone : (xs : List A) (x : A) → length xs ≡ 1 → x ≡ get_or xs 0 x → x ∷ [] ≡ xs
  one_alone [] x e is = absurd (omega (arith, e))
  one_alone (y ∷ ys) x e is = let rest = none_at_all ys (omega (arith, e)) in cc

  pub two_alone : (xs : List A) (x y : A) → length xs ≡ 2 → x ≡ get_or xs 0 x → y ≡ get_or xs 1 y → x ∷ y ∷ [] ≡ xs
  two_alone [] x y e is also = absurd (omega (arith, e))
  two_alone (z ∷ zs) x y e is also = let rest = one_alone zs y (omega (arith, e)) also in cc
