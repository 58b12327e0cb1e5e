use Rattle.dlk_axioms.proofs.RowLaws.{own_names_are_names}
use Rattle.dlk_axioms.proofs.axioms.own_names.Goals as goal

pub names_of-requires : goal.names_of-requires
names_of-requires c =
    let h = c.in-Some.ensures in
    own_names_are_names c.args.name.now h.0 c.in-Some.row.now h.1 h.2
