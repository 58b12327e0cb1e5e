use Rattle.std.proofs.Common.{◌≡◌, suc, ◌+◌, ap, ◌∙◌, arith}
use Rattle.std.specs.Prelude.{unwrap_or}
use Rattle.std.specs.Fmt.{decimal}
use Rattle.std.specs.List.{position_or_len}
use Rattle.dlk_print.proofs.Left.{same_text}
use Rattle.dlk_nodes.specs.Tables.{id_eq}
use Rattle.dlk_nodes.proofs.Tables.{place_or_len}
use Rattle.dlk_nodes.proofs.writing.append_place.Goals as goal

pub returns : goal.returns
returns c =
    let e : c.unwrap_or-place.result ≡ position_or_len (id_eq c.args.id) c.args.table.now =
    c.unwrap_or-place.ensures ∙ (λ t. unwrap_or (c.place.ensures.place t) (c.len.ensures t)) ∙ place_or_len c.args.table.now c.args.id in
    let same : c.unwrap_or-place.result + 1 ≡ suc (position_or_len (id_eq c.args.id) c.args.table.now) = omega (arith, e) in
    same_text (ap decimal same) c.append_decimal.ensures
