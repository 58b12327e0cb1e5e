use Rattle.std.proofs.Common.{◌≡◌, ℕ, length, sym, subst, ◌∙◌}
use Rattle.std.proofs.lemmas.List.{length-map}
use Rattle.dlk_tree.specs.Trees.{Tree}
use Rattle.dlk_store.specs.Stores.{tree}
use Rattle.dlk_kernel.specs.Kernel.{provable_at, facts}
use Rattle.dlk_sequent.specs.Spines.{top, path_of}
use Rattle.dlk_elab.specs.Finishing.{HasForm, FinishUses}
use Rattle.dlk_elab.specs.Uses.{aim_of}
use Rattle.dlk_elab.proofs.Turns.{if_ok}
use Rattle.dlk_elab.proofs.uses.behind.Goals as goal

pub finish-requires-clause-instance : goal.finish-requires-clause-instance
finish-requires-clause-instance g c = (c.last_proved-f.ensures c.requires.proves.f c.requires.proves.last).known

pub finish-requires-clause-form : goal.finish-requires-clause-form
finish-requires-clause-form g c =
    let old = g.S.Store.trees c.args.kernel.now.store in
    let p = c.requires.proves in
    subst (λ (t : Tree). HasForm c.args.found.now.form c.args.used.place (tree old c.args.found.now.way.found) t)
    (sym (c.last_proved-f.ensures p.f p.last).tree_is) p.has_form

pub returns-clause-made : goal.returns-clause-made
returns-clause-made g c =
    let old = g.S.Store.trees c.args.kernel.now.store in
    let new = g.S.Store.trees c.finish.new.store.store in
    let rows = facts g.S.Store.trees c.args.kernel.now in
    let way = c.args.found.now.way in
    let aim = aim_of c.args.target c.args.used c.args.found.now.right in
    let form = c.args.found.now.form in
    let p = c.requires.proves in
    let counted : c.rows-now.result ≡ length rows = c.rows-now.ensures.count ∙ sym (length-map c.args.kernel.now.rows (provable_at old)) in
    if_ok c.finish.result _ _ c.finish.ensures.made
    (λ made finishes. record {
      f = p.f;
      proves = p.last;
      finish = subst (λ (t : Tree). FinishUses new (length rows) aim form (path_of way) (tree old (top way)) t made.items)
          (c.last_proved-f.ensures p.f p.last).tree_is
          (subst (λ (n : ℕ). FinishUses new n aim form (path_of way) (tree old (top way)) (tree old c.last_proved-f.result) made.items) counted finishes);
    })
