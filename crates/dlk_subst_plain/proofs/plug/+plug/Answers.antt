use Rattle.std.proofs.Common.{sym, ap, subst, arith, rules}
use Rattle.dlk_store.specs.Stores.{kid_trees}
use Rattle.dlk_store.specs.declared.Id.{Id}
use Rattle.dlk_store.proofs.Made.{same_kids, next_known, next_same, next_smaller, next_made, made_fit, next_without, node_made, node_without}
use Rattle.dlk_calculus.specs.Plug.{Plug}
use Rattle.dlk_calculus.proofs.Sorts.{AreTerms, plug_sort}
use Rattle.dlk_subst.specs.Results.{args_at}
use Rattle.dlk_sequent.specs.declared.fault.ApplyFault.TheVariants.{NotAdmissible}
use Rattle.dlk_subst.specs.Growth.{known_kept}
use Rattle.dlk_subst.specs.Growth.{args_kept}
use Rattle.dlk_subst.proofs.Results.{handed_on, holds_tree, result_weaker}
use Rattle.dlk_subst.specs.Rows.{plugging}
use Rattle.dlk_subst_plain.proofs.plug.+plug.Goals as goal

pub plug-requires : goal.plug-requires
plug-requires g t c κs within =
    let m = c.loop-kid.invariant.made in
    let d : Id = record { 0 = 0 } in
    let less = next_smaller m d c.loop-kid-test.true in
    let args = args_kept m.kept c.args.args.now c.requires.args in
    let known = known_kept m.kept c.args.args.now c.requires.args in
    let terms = subst AreTerms (sym args) c.requires.terms in
    (omega (arith, less), (search rules, (search rules, (c.requires.few, (known, (terms, next_known m d c.loop-kid-test.true))))))

pub returns-in_err-made-clause-none : goal.returns-in_err-made-clause-none
returns-in_err-made-clause-none g t c e =
    let m = c.loop-kid.invariant.made in
    let d : Id = record { 0 = 0 } in
    let args = args_kept m.kept c.args.args.now c.requires.args in
    let failed = handed_on c.plug.result c.from_residual-in_err-made.result c.in_err-made.field-0.0 NotAdmissible c.in_err-made.was
    c.from_residual-in_err-made.ensures.1 e in
    next_without plugging m args d c.loop-kid-test.true (c.plug.ensures.none failed)

pub returns-in_err-made-clause-grows : goal.returns-in_err-made-clause-grows
returns-in_err-made-clause-grows g t c =
    g.met.S.Store.grows_trans c.args.store.now c.loop-kid.store c.plug.new.store c.loop-kid.invariant.grows c.plug.ensures.grows

pub loop-kid-preserved : goal.loop-kid-preserved
loop-kid-preserved g t c =
    let m = c.loop-kid.invariant.made in
    let d : Id = record { 0 = 0 } in
    let grows = c.in_ok-made.ensures.grows in
    let keeps = g.met.S.Store.grows_keeps c.loop-kid.store c.plug.new.store grows in
    let args = args_kept m.kept c.args.args.now c.requires.args in
    let same = next_same m d c.loop-kid-test.true in
    let made = c.in_ok-made.ensures.ok in
    record {
      grows = g.met.S.Store.grows_trans c.args.store.now c.loop-kid.store c.plug.new.store c.loop-kid.invariant.grows grows;
      made = rw c.in_ok-push.ensures.items
          (next_made m d c.loop-kid-test.true c.in_ok-made.made keeps (λ j. Plug (args j) (same j)) made.stands.known (holds_tree made));
    }

pub plug_at-requires-clause-fits : goal.plug_at-requires-clause-fits
plug_at-requires-clause-fits g t c =
    let args = args_at (g.S.Store.trees c.args.store.now) c.args.args.now in
    rw c.as_slice-2.ensures.value
    (made_fit c.loop-kid.invariant.made (omega arith) (λ t u well p. plug_sort args t u c.requires.terms p)
    (g.met.S.Store.well_made c.args.store.now) c.requires.known)

pub returns-clause-ok : goal.returns-clause-ok
returns-clause-ok g t c =
    let m = c.loop-kid.invariant.made in
    let args = args_kept m.kept c.args.args.now c.requires.args in
    let olds = same_kids m c.as_slice.result.now _ c.as_slice.ensures.value c.deref-kid-items.ensures.value in
    let news = ap (kid_trees (g.S.Store.trees c.loop-kid.store)) c.as_slice-2.ensures.value in
    result_weaker _ _ (g.S.Store.trees c.plug_at.new.store) c.plug_at.result
    (λ id t stands p. node_made plugging m args (omega arith) olds news t p) c.plug_at.ensures.ok

pub returns-clause-none : goal.returns-clause-none
returns-clause-none g t c e =
    let m = c.loop-kid.invariant.made in
    let args = args_kept m.kept c.args.args.now c.requires.args in
    let olds = same_kids m c.as_slice.result.now _ c.as_slice.ensures.value c.deref-kid-items.ensures.value in
    let news = ap (kid_trees (g.S.Store.trees c.loop-kid.store)) c.as_slice-2.ensures.value in
    node_without plugging m args (omega arith) olds news (c.plug_at.ensures.none e)
