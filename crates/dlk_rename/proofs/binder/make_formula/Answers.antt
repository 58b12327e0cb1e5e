use Rattle.dlk_rename.proofs.binder.make_formula.Goals as goal

pub returns-in_ok-program-in-Box-clause-grows : goal.returns-in_ok-program-in-Box-clause-grows
returns-in_ok-program-in-Box-clause-grows g c =
    g.met.S.Store.grows_trans c.args.store.now c.make_assignment.new.store c.make-in-Box.new.self c.make_assignment.ensures.grows c.make-in-Box.ensures.grows

pub returns-in_ok-program-in-Dia-clause-grows : goal.returns-in_ok-program-in-Dia-clause-grows
returns-in_ok-program-in-Dia-clause-grows g c =
    g.met.S.Store.grows_trans c.args.store.now c.make_assignment-in-Dia.new.store c.make-in-Dia.new.self c.make_assignment-in-Dia.ensures.grows
    c.make-in-Dia.ensures.grows
