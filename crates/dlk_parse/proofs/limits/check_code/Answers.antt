use Rattle.dlk_parse.proofs.Within.{among}
use Rattle.dlk_parse.proofs.limits.check_code.Goals as goal

pub check_limits-requires : goal.check_limits-requires
check_limits-requires c = rw c.as_slice.ensures.value
    (among c.args.code.now c.args.starts.now c.in_ok-measures.measures.items c.requires c.in_ok-measures.ensures)
