use Rattle.std.proofs.Common.{◌∙◌}
use Rattle.dlk_store.specs.Stores.{tree}
use Rattle.dlk_sequent.specs.Sequents.{sequent_at}
use Rattle.dlk_jobs_check.proofs.ConclusionText.{proved_at, conclusion_reply}
use Rattle.dlk_jobs_check.proofs.term.refuse_conclusion.Goals as goal

pub returns : goal.returns
returns g c =
    let trees = g.S.Store.trees c.args.store.now in
    let one = proved_at trees c.args.formula c.in_ok-expected.expected c.in_ok-expected.ensures in
    c.printing.ensures
    ∙ conclusion_reply c.args.line (tree trees c.args.formula) (sequent_at trees c.args.found.now) _
    c.new-printed.result.items c.extend_from_slice.new.self.items c.append_decimal.new.out.items c.extend_from_slice-2.new.self.items
    c.sequent_text.new.out.items c.extend_from_slice-3.new.self.items c.sequent_text-2.new.out.items c.push.new.self.items
    one c.new-printed.ensures.items c.in_ok-extend_from_slice.ensures.items c.in_ok-append_decimal.ensures.ok c.in_ok-extend_from_slice-2.ensures.items
    c.in_ok-sequent_text.ensures.ok c.in_ok-extend_from_slice-3.ensures.items c.in_ok-sequent_text-2.ensures.ok c.in_ok-push.ensures.items
