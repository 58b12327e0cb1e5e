use Rattle.dlk_replay.proofs.taking.take_line.Goals as goal

pub returns-in-Two-clause-taken : goal.returns-in-Two-clause-taken
returns-in-Two-clause-taken g c = rw c.in-Two.is c.take_by_nodes.ensures.taken

pub returns-in-Two-clause-fault : goal.returns-in-Two-clause-fault
returns-in-Two-clause-fault g c = rw c.in-Two.is c.take_by_nodes.ensures.fault
