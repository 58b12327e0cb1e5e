-- The one number by which a node is hashed.
use Rattle.std.proofs.Common.{◌≡◌, ℕ, ◌+◌, ◌*◌, ◌%◌, ◌^◌, true, ◌&&◌, List, [], ◌∷◌, eqb, eqb-true, sym, true≢false}
use Rattle.std.specs.List.{fold}
use Rattle.std.specs.Cmp.{first_so, second_so}
use Rattle.std.specs.Cmp.Lexicographic.{pointwise}
use Rattle.std.specs.Hash as fed
use Rattle.dlk_store.specs.declared.Id.{Id}
use Rattle.dlk_store.specs.contracts.IdPartialEq.TheImpl as IdEq

-- an id comes to what was mixed before it
abbrev pub mix : ℕ → Id → ℕ
mix n id = (n * 11400714819323198485 % 2 ^ 64 + id.0) % 2 ^ 64

-- the number of an operator and the ids of kids
abbrev pub mixed : ℕ → List Id → ℕ
mixed op kids = fold mix op kids

mixed_same : (n m : ℕ) (xs ys : List Id) → n ≡ m → pointwise IdEq.ghosts.eq xs ys ≡ true → mixed n xs ≡ mixed m ys
mixed_same n m [] [] e h = e
mixed_same n m [] (y ∷ ys) e h = absurd (true≢false (sym h))
mixed_same n m (x ∷ xs) [] e h = absurd (true≢false (sym h))
mixed_same n m (x ∷ xs) (y ∷ ys) e h =
    let first = first_so (IdEq.ghosts.eq x y) (pointwise IdEq.ghosts.eq xs ys) h in
    let id = eqb-true x.0 y.0 first in
    mixed_same (mix n x) (mix m y) xs ys (λ i. (e i * 11400714819323198485 % 2 ^ 64 + id i) % 2 ^ 64)
    (second_so (IdEq.ghosts.eq x y) (pointwise IdEq.ghosts.eq xs ys) h)

-- what the test of keys finds equal is hashed alike
pub mixed_alike : (n m : ℕ) (xs ys : List Id) → (eqb n m && pointwise IdEq.ghosts.eq xs ys) ≡ true → fed.u64 (mixed n xs) ≡ fed.u64 (mixed m ys)
mixed_alike n m xs ys h =
    let op = eqb-true n m (first_so (eqb n m) (pointwise IdEq.ghosts.eq xs ys) h) in
    let kids = mixed_same n m xs ys op (second_so (eqb n m) (pointwise IdEq.ghosts.eq xs ys) h) in
    λ i. fed.u64 (kids i)
