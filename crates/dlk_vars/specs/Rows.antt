-- Sets of numbers as the code has them: a row of words, and a flag for all numbers past the row's end.
use Rattle.std.specs.Prelude.{◌≡◌, ℕ, ◌+◌, ◌/◌, ◌%◌, ◌^◌, ◌-◌, ◌==◌, nat_eq, ◌&&◌, Bool, List, [], ◌∷◌, if◌then◌else◌, slice_index_or}
use Rattle.std.specs.Bool.{beq}
use Rattle.std.specs.Cmp.Lexicographic.{pointwise}
use Rattle.std.specs.Int.{bit_at}

pub record Row : Type 0 where
  pub words : List ℕ
  pub others : Bool

-- the k-th word of the row. Past its end each bit is the flag
abbrev pub word : Row → ℕ → ℕ
word r k = slice_index_or r.words k (if r.others then 2 ^ 64 - 1 else 0)

-- the four words from the k-th on
abbrev pub four_words : Row → ℕ → List ℕ
four_words r k = word r k ∷ word r (k + 1) ∷ word r (k + 2) ∷ word r (k + 3) ∷ []

-- whether the number is in the set
abbrev pub has_number : Row → ℕ → Bool
has_number r n = bit_at (word r (n / 64)) (n % 64) == 1

-- r has the numbers that the test picks, by what two sets say of each
pub record ByNumber (test : Bool → Bool → Bool) (one other r : Row) : Type 0 where
  pub numbers : (n : ℕ) → has_number r n ≡ test (has_number one n) (has_number other n)
  pub others : r.others ≡ test one.others other.others

-- the same row and the same flag
abbrev pub row_eq : Row → Row → Bool
row_eq a b = pointwise nat_eq a.words b.words && beq a.others b.others
