use Rattle.std.proofs.Common.{IfOk, subst, sym}
use Rattle.dlk_jobs_terms.specs.Kept.{IsLemma}
use Rattle.dlk_jobs_terms.proofs.taken.taken_lemma.Goals as goal

pub returns-clause-lemma : goal.returns-clause-lemma
returns-clause-lemma g c =
    subst (λ s. IfOk c.lemma_rows-lemma.result (IsLemma (g.S.Store.trees s) c.args.lemma.now)) (sym c.release.ensures.store) c.lemma_rows-lemma.ensures.lemma
