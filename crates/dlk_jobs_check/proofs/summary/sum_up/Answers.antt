use Rattle.std.proofs.Common.{◌≡◌, ◌∙◌, length, sym, ap}
use Rattle.std.proofs.lemmas.List.{length-map}
use Rattle.dlk_sequent.specs.Sequents.{sequent_at}
use Rattle.dlk_jobs_check.proofs.SummaryText.{closed_if_none, summary_reply}
use Rattle.dlk_jobs_check.proofs.summary.sum_up.Goals as goal

pub returns : goal.returns
returns g c = λ p there.
    let trees = g.S.Store.trees c.args.kernel.now.store in
    let leaves : length c.leaves.result.now ≡ length p.leaves =
    sym (length-map c.leaves.result.now (sequent_at trees)) ∙ ap length (sym (c.leaves.ensures.leaves p there)) in
    let closed = closed_if_none trees c.goals.result.now p.goals c.is_empty.result (c.goals.ensures.goals p there) c.is_empty.ensures in
    c.printing.ensures
    ∙ summary_reply c.args.count c.args.lines (length c.leaves.result.now) p c.is_empty.result c.first_word-ended.result.now c.into_bytes.result.items
    leaves closed
    c.first_word-ended.ensures (ap (λ v. v.items) c.into_bytes.ensures.value ∙ c.in_ok-text.ensures.ok)
