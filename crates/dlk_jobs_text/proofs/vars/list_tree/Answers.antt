use Rattle.std.proofs.Common.{sym, subst, refl}
use Rattle.dlk_store.specs.Stores.{tree}
use Rattle.dlk_jobs_text.specs.Lists.{Lists}
use Rattle.dlk_jobs_text.proofs.ListAnswers.{list_answer}
use Rattle.dlk_jobs_text.proofs.vars.list_tree.Goals as goal

pub returns : goal.returns
returns g c = λ file reads.
    let t = tree (g.S.Store.trees c.args.store.now) c.args.id in
    subst (Lists file) (sym c.printing.ensures)
    (list_answer file t t c.in_ok-free.free c.in_ok-bound.bound c.in_ok-must.must c.in_ok-symbols.symbols.items
    c.new-printed.result.items c.append_set.new.out.items c.append_set-2.new.out.items c.append_set-3.new.out.items c.extend_from_slice.new.self.items
    c.append_symbols.new.out.items c.push.new.self.items
    reads refl c.in_ok-free.ensures c.in_ok-bound.ensures c.in_ok-must.ensures c.in_ok-symbols.ensures
    c.new-printed.ensures.items c.in_ok-append_set.ensures c.in_ok-append_set-2.ensures c.in_ok-append_set-3.ensures c.in_ok-extend_from_slice.ensures.items
    (rw c.deref.ensures.value at c.in_ok-append_symbols.ensures) c.in_ok-push.ensures.items)
