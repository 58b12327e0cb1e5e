-- Items by their places.
use Rattle.std.proofs.Common.{◌≡◌, ℕ, List, get_or, sym, subst}

-- a value that is the item at an index
pub read_as : {A : Type 0} (items : List A) (n : ℕ) (x y : A) → x ≡ y → y ≡ get_or items n y → x ≡ get_or items n x
read_as items n x y e read = subst (λ z. z ≡ get_or items n z) (sym e) read
