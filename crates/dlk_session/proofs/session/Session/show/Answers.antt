use Rattle.std.proofs.Common.{◌≡◌, length, sym, ap, subst, ◌∙◌, arith}
use Rattle.std.proofs.lemmas.List.{length-map}
use Rattle.dlk_calculus.specs.Places.{At}
use Rattle.dlk_kernel.specs.Kernel.{facts, provable_at}
use Rattle.dlk_report.specs.Reports.{report_of, text_report}
use Rattle.dlk_session.proofs.Holding.{some_rows}
use Rattle.dlk_session.proofs.session.Session.show.Goals as goal
use Rattle.dlk_elab.proofs.MainGoals.{some_last}

pub returns : goal.returns
returns g c =
    let trees = g.S.Store.trees in
    let k = c.self.inside.kernel in
    let count = length-map k.rows (provable_at (trees k.store)) in
    let rows : c.rows-rows.result ≡ length (facts trees k) = c.rows-rows.ensures.count ∙ sym count in
    let some = some_rows trees _ c.self.invariant.0 in
    let last = some_last (facts trees k) (omega (arith, some, count)) in
    let there = subst (λ n. At (facts trees k) n last.0) (sym rows) last.1 in
    rw (← c.self.view_is)
    (last.0, last.1, c.in_ok-report_text.ensures ∙ ap report_of (c.in_ok-report.ensures.parts last.0 there) ∙ ap (λ n. text_report last.0 n) rows)
