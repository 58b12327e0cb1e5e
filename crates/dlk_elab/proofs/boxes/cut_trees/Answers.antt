use Rattle.dlk_elab.proofs.BoxPlans.{last_fits, cut_made}
use Rattle.dlk_elab.proofs.boxes.cut_trees.Goals as goal

pub make-requires-3-clause-fits : goal.make-requires-3-clause-fits
make-requires-3-clause-fits g c =
    let s = c.args.store.now in
    let a = c.make.new.self in
    let b = c.make-2.new.self in
    let far = g.met.S.Store.grows_trans s a b c.make.ensures.grows c.make-2.ensures.grows in
    last_fits (g.S.Store.trees s) (g.S.Store.trees a) (g.S.Store.trees b) (g.S.Store.trees b) (g.met.S.Store.grows_keeps s a c.make.ensures.grows)
    (g.met.S.Store.grows_keeps s b far) (g.met.S.Store.grows_keeps s b far) (g.met.S.Store.grows_keeps a b c.make-2.ensures.grows)
    (g.met.S.Store.grows_keeps a b c.make-2.ensures.grows) (g.met.S.Store.grows_keeps b b (g.met.S.Store.grows_refl b)) c.args.boxed
    (record { formula = c.args.formula; boxed = c.in_ok-of_formula.of_formula; implied = c.in_ok-implied.implied; box_implied = c.in_ok-implied.implied })
    c.requires.program c.requires.formula c.requires.cut c.requires.fits c.in_ok-implied.ensures.made

pub returns-in_err-box_implied-clause-grows : goal.returns-in_err-box_implied-clause-grows
returns-in_err-box_implied-clause-grows g c =
    g.met.S.Store.grows_trans c.args.store.now c.make-2.new.self c.make-3.new.self
    (g.met.S.Store.grows_trans c.args.store.now c.make.new.self c.make-2.new.self c.make.ensures.grows c.make-2.ensures.grows) c.make-3.ensures.grows

pub returns-clause-made : goal.returns-clause-made
returns-clause-made g c =
    let s = c.args.store.now in
    let a = c.make.new.self in
    let b = c.make-2.new.self in
    let d = c.make-3.new.self in
    let sb = g.met.S.Store.grows_trans s a b c.make.ensures.grows c.make-2.ensures.grows in
    let sd = g.met.S.Store.grows_trans s b d sb c.make-3.ensures.grows in
    let ad = g.met.S.Store.grows_trans a b d c.make-2.ensures.grows c.make-3.ensures.grows in
    cut_made (g.S.Store.trees s) (g.S.Store.trees a) (g.S.Store.trees b) (g.S.Store.trees d) (g.met.S.Store.grows_keeps s a c.make.ensures.grows)
    (g.met.S.Store.grows_keeps s b sb) (g.met.S.Store.grows_keeps s d sd) (g.met.S.Store.grows_keeps a b c.make-2.ensures.grows)
    (g.met.S.Store.grows_keeps a d ad) (g.met.S.Store.grows_keeps b d c.make-3.ensures.grows) c.args.boxed
    (record {
      formula = c.args.formula;
      boxed = c.in_ok-of_formula.of_formula;
      implied = c.in_ok-implied.implied;
      box_implied = c.in_ok-box_implied.box_implied;
    }) c.requires.program c.requires.formula c.requires.cut c.requires.fits c.in_ok-implied.ensures.made c.in_ok-of_formula.ensures.made
    c.in_ok-box_implied.ensures.made

pub returns-clause-grows : goal.returns-clause-grows
returns-clause-grows g c =
    g.met.S.Store.grows_trans c.args.store.now c.make-2.new.self c.make-3.new.self
    (g.met.S.Store.grows_trans c.args.store.now c.make.new.self c.make-2.new.self c.make.ensures.grows c.make-2.ensures.grows) c.make-3.ensures.grows

pub returns-in_err-implied-clause-grows : goal.returns-in_err-implied-clause-grows
returns-in_err-implied-clause-grows g c =
    g.met.S.Store.grows_trans c.args.store.now c.make.new.self c.make-2.new.self c.make.ensures.grows c.make-2.ensures.grows
