use Rattle.std.proofs.Common.{◌+◌, ◌-◌, ◌≤◌, ap, sym, length, arith}
use Rattle.dlk_grammar.proofs.Real.{trimmed_short}
use Rattle.dlk_lex.proofs.Literals.{room_for, room_behind, trimmed_digits}
use Rattle.dlk_nodes.proofs.literals.number_of.Goals as goal

pub with_digits-whole-requires-clause-room : goal.with_digits-whole-requires-clause-room
with_digits-whole-requires-clause-room c = room_for (38 - length c.args.integer.now)

pub with_digits-requires-clause-few : goal.with_digits-requires-clause-few
with_digits-requires-clause-few c = omega (arith, trimmed_short c.args.fraction.now, ap length c.without_zeros-kept.ensures)

pub with_digits-requires-clause-room : goal.with_digits-requires-clause-room
with_digits-requires-clause-room c =
    let few : length c.args.integer.now + length c.without_zeros-kept.result.now ≤ 38 =
    omega (arith, trimmed_short c.args.fraction.now, ap length c.without_zeros-kept.ensures) in
    rw c.with_digits-whole.ensures (room_behind c.args.integer.now (length c.without_zeros-kept.result.now) (sym c.if-not-are_digits.ensures) few)

pub with_digits-requires-clause-digits : goal.with_digits-requires-clause-digits
with_digits-requires-clause-digits c = rw c.without_zeros-kept.ensures (trimmed_digits c.args.fraction.now (sym c.if-not-are_digits-2.ensures))

pub overflow_cast-result : goal.overflow_cast-result
overflow_cast-result c = omega (arith, trimmed_short c.args.fraction.now, ap length c.without_zeros-kept.ensures)
