-- The number that digits say.
use Rattle.std.proofs.Common.{ℕ, suc, ◌+◌, ◌*◌, ◌^◌, ◌<◌, ◌≤◌, arith, lit<}
use Rattle.std.proofs.Math.Nat.{pow-le-pow_right, pow-succ'}

pub digit_more : (i v : ℕ) → v < 10 ^ i → i < 9 → 10 * v + 9 < 2 ^ 32
digit_more i v h lt =
    let up : 10 ^ suc i ≤ 10 ^ 9 = pow-le-pow_right {n = 10} (lit< tt) {i = suc i} {j = 9} (omega arith) in
    let low : 10 ^ 9 < 2 ^ 32 = lit< tt in
    omega (arith, pow-succ' 10 i)
