-- There is some answer to a number.
use Rattle.std.proofs.Common.{◌≡◌, ℕ, List, Option, None, Some, refl}
use Rattle.dlk_library.specs.Generated.{generated_model, generated_strategy}
use Rattle.dlk_replies.specs.declared.reply.Showing.TheVariants.{Summed}
use Rattle.dlk_replies.specs.Replies.{Reply}
use Rattle.dlk_jobs_check.proofs.SomeReply.{some_check}
use Rattle.dlk_jobs_prove.specs.Proves.{Proves}
use Rattle.dlk_jobs_prove.specs.Generates.{Generates, refuses as refuses_proof, checks}
use Rattle.dlk_jobs_prove.proofs.SomeProof.{some_prove}
use Rattle.dlk_jobs_prove.proofs.StrategyLaws.{SomeText, SomeRun, RunsShow}

module _ (some_text : SomeText) (some_run : SomeRun) (runs_show : RunsShow) where
  pub some_generate : (n : ℕ) → (reply : Reply) × Generates n reply
  some_generate n =
      let proof = some_prove some_text some_run runs_show (generated_model n) (generated_strategy n) in
      by_written proof.0 proof.1 proof.0.written refl
    where
      by_written : (proved : Reply) → Proves (generated_model n) (generated_strategy n) proved → (written : Option (List ℕ)) → proved.written ≡ written →
          (reply : Reply) × Generates n reply
      by_written proved proof None is = (proved, refuses_proof proved proof is)
      by_written proved proof (Some term) is =
          let checked = some_check (Summed n) (generated_model n) term in
          (checked.0, checks proved checked.0 term proof is checked.1)
