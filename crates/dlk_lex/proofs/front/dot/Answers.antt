use Rattle.std.proofs.Common.{nat_le, ◌∙◌, sym}
use Rattle.std.proofs.lemmas.Bool.{and_parts, leb-true}
use Rattle.std.specs.Prelude.{slice_index}
use Rattle.dlk_lex.proofs.Fronts.{dot_front}
use Rattle.dlk_lex.proofs.front.dot.Goals as goal

pub returns : goal.returns
returns c =
    let d = slice_index c.args.bytes.now 2 in
    let w = and_parts (nat_le 48 (slice_index c.args.bytes.now 2)) (nat_le (slice_index c.args.bytes.now 2) 55)
    (sym c.is_dot_digit.ensures ∙ c.if-not-is_dot_digit.false) in
    dot_front c.args.bytes.now c.if-bytes-lt3.false c.requires c.if-bytes-ne95.false (leb-true 48 (slice_index c.args.bytes.now 2) w.0)
    (leb-true (slice_index c.args.bytes.now 2) 55 w.1)
