use Rattle.dlk_smt.proofs.translation.+append_bases.Given as goal

abbrev pub decreases-append_bases : goal.decreases-append_bases
decreases-append_bases l = l.count
