use Rattle.dlk_axioms.proofs.making.+make.Goals as goal

pub returns-in_err-op-in-One-clause-grows : goal.returns-in_err-op-in-One-clause-grows
returns-in_err-op-in-One-clause-grows g t c =
    c.make-in-One.ensures.grows

pub returns-in_ok-op-in-One-clause-grows : goal.returns-in_ok-op-in-One-clause-grows
returns-in_ok-op-in-One-clause-grows g t c =
    g.met.S.Store.grows_trans c.args.store.now c.make-in-One.new.store c.make-in-One-2.new.self c.make-in-One.ensures.grows c.make-in-One-2.ensures.grows

pub returns-in_err-second-in-Two-clause-grows : goal.returns-in_err-second-in-Two-clause-grows
returns-in_err-second-in-Two-clause-grows g t c =
    g.met.S.Store.grows_trans c.args.store.now c.make-in-Two.new.store c.make-in-Two-2.new.store c.make-in-Two.ensures.grows c.make-in-Two-2.ensures.grows

pub returns-in_err-op-in-Two-clause-grows : goal.returns-in_err-op-in-Two-clause-grows
returns-in_err-op-in-Two-clause-grows g t c =
    g.met.S.Store.grows_trans c.args.store.now c.make-in-Two.new.store c.make-in-Two-2.new.store c.make-in-Two.ensures.grows c.make-in-Two-2.ensures.grows

pub returns-in_ok-op-in-Two-clause-grows : goal.returns-in_ok-op-in-Two-clause-grows
returns-in_ok-op-in-Two-clause-grows g t c =
    let both =
    g.met.S.Store.grows_trans c.args.store.now c.make-in-Two.new.store c.make-in-Two-2.new.store c.make-in-Two.ensures.grows c.make-in-Two-2.ensures.grows in
    g.met.S.Store.grows_trans c.args.store.now c.make-in-Two-2.new.store c.make-in-Two-3.new.self both c.make-in-Two-3.ensures.grows
