use Rattle.std.proofs.Common.{◌≡◌, sym, ap, ◌∙◌}
use Rattle.std.proofs.lemmas.Bool.{true≢false}
use Rattle.std.proofs.lemmas.Result.{IfOk-weaker}
use Rattle.dlk_calculus.specs.Places.{At}
use Rattle.dlk_calculus.specs.Provables.{Provable}
use Rattle.dlk_store.specs.Stores.{tree}
use Rattle.dlk_sequent.specs.Sequents.{sequent_at}
use Rattle.dlk_kernel.specs.Kernel.{facts}
use Rattle.dlk_replies.specs.Shown.{reply_of}
use Rattle.dlk_replies.proofs.Ends.{ends_so}
use Rattle.dlk_jobs_check.specs.Terms.{other_conclusion}
use Rattle.dlk_jobs_check.specs.Judged.{RefusesConclusion}
use Rattle.dlk_jobs_check.proofs.term.judge.Goals as goal

pub returns-clause-refused : goal.returns-clause-refused
returns-clause-refused g c =
    let kernel = c.args.kernel.now in
    let f = tree (g.S.Store.trees kernel.store) c.args.formula in
    let found = sequent_at (g.S.Store.trees kernel.store) c.conclusion-found.result.now in
    ends_so (λ reply. (p : Provable) → At (facts g.S.Store.trees kernel) c.args.fact p → RefusesConclusion f c.args.line p reply)
    c.refuse_conclusion.result c.end_by.result c.end_by.ensures
    (IfOk-weaker c.refuse_conclusion.result (λ r. reply_of r ≡ other_conclusion c.args.line f found)
    (λ r. (p : Provable) → At (facts g.S.Store.trees kernel) c.args.fact p → RefusesConclusion f c.args.line p (reply_of r))
    (λ r is p there.
    let shows = c.conclusion-found.ensures.conclusion p there in (
      λ e. absurd (true≢false (sym (c.is_proof_of.ensures.1 (sym shows ∙ e)) ∙ c.if-is_proof_of.false)),
      is ∙ ap (other_conclusion c.args.line f) (sym shows),
    )) c.refuse_conclusion.ensures)
