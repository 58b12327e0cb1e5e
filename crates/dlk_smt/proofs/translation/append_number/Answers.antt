use Rattle.dlk_store.specs.Stores.{tree}
use Rattle.dlk_print.proofs.Left.{unbegun, appended, last}
use Rattle.dlk_smt.proofs.Parts.{number_text, number_parts}
use Rattle.dlk_smt.proofs.translation.append_number.Goals as goal

pub returns : goal.returns
returns g c =
    let trees = g.S.Store.trees c.args.store.now in
    let made = g.met.S.Store.well_made c.args.store.now c.args.id.0 _ c.requires.known in
    let canonical = number_text (tree trees c.args.id) c.args.n.now made c.requires.number in
    let none = unbegun c.args.out.now.items (number_parts c.args.n.now _ _ canonical c.point_zero.ensures) in
    let number = appended _ _ none c.in_ok-text.ensures.ok in
    (last number c.append.ensures).ok
