use Rattle.std.proofs.Common.{◌≡◌, ◌<◌, ◌^◌, ◌==◌, false, nat_lt, sym, ap, ◌∙◌, arith, rules}
use Rattle.std.proofs.lemmas.Nat.Bits.{bit_at_above}
use Rattle.dlk_shared.proofs.store.SharedStoreStore.has_dot.Goals as goal

pub returns-else-n-lt8 : goal.returns-else-n-lt8
returns-else-n-lt8 c =
    let dots = c.facts-dots.result.dots in
    let fits : dots < 2 ^ 8 = omega arith in
    let over : nat_lt c.args.n 8 ≡ false = search rules in
    over ∙ sym (ap (λ b. b == 1) (bit_at_above dots 8 c.args.n fits c.if-n-lt8.false)) ∙ c.facts-dots.ensures.dots_are c.args.n
