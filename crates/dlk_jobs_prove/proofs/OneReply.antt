-- There is one answer to a number.
use Rattle.std.proofs.Common.{◌≡◌, ℕ, List, Some, sym, ◌∙◌, subst}
use Rattle.dlk_library.specs.Generated.{generated_model, generated_strategy}
use Rattle.dlk_replies.specs.declared.reply.Showing.TheVariants.{Summed}
use Rattle.dlk_replies.specs.Replies.{Reply}
use Rattle.dlk_jobs_check.specs.Checks.{Checks}
use Rattle.dlk_jobs_check.proofs.OneReply.{one_check}
use Rattle.dlk_jobs_prove.specs.Proves.{Proves}
use Rattle.dlk_jobs_prove.specs.Generates.{Generates, refuses as refuses_proof, checks}
use Rattle.dlk_jobs_prove.proofs.OneProof.{one_prove}
use Rattle.dlk_jobs_prove.proofs.Rechecked.{unwritten}
use Rattle.dlk_jobs_prove.proofs.StrategyLaws.{OneText, TextOrFault, OneFault, OneRun}

one_term : {term other : List ℕ} → Some term ≡ Some other → term ≡ other
one_term e = cc

module _ (one_text : OneText) (text_or_fault : TextOrFault) (one_fault : OneFault) (one_run : OneRun) where
  -- what `prove` answers and writes for what is generated
  one_proved : (n : ℕ) (r s : Reply) → Proves (generated_model n) (generated_strategy n) r → Proves (generated_model n) (generated_strategy n) s → r ≡ s
  one_proved n r s a b = one_prove one_text text_or_fault one_fault one_run (generated_model n) (generated_strategy n) r s a b

  pub one_written : (n : ℕ) (r s : Reply) (term : List ℕ) → Proves (generated_model n) (generated_strategy n) r →
      Proves (generated_model n) (generated_strategy n) s →
      r.written ≡ Some term → s.written ≡ Some term
  one_written n r s term a b written = subst (λ (x : Reply). x.written ≡ Some term) (one_proved n r s a b) written

  pub one_generate : (n : ℕ) (r s : Reply) → Generates n r → Generates n s → r ≡ s
  one_generate n r s (refuses_proof r' a none) (refuses_proof s' b also) = one_proved n r' s' a b
  one_generate n r s (refuses_proof r' a none) (checks proved s' term b written c) = absurd (unwritten r' term none (one_written n proved r' term b a written))
  one_generate n r s (checks proved r' term a written c) (refuses_proof s' b none) = absurd (unwritten s' term none (one_written n proved s' term a b written))
  one_generate n r s (checks proved r' term a written c) (checks second s' text b also d) =
      let same : text ≡ term = one_term (sym also ∙ one_written n proved second term a b written) in
      one_check (Summed n) (generated_model n) term r' s' c (subst (λ (t : List ℕ). Checks (Summed n) (generated_model n) t s') same d)
