use Rattle.std.proofs.Common.{◌≡◌, ◌∙◌, ℕ, List, Some, ap, subst, option_map}
use Rattle.std.proofs.lemmas.Result.{IfOk-weaker}
use Rattle.dlk_library.specs.Generated.{generated_model, generated_strategy}
use Rattle.dlk_jobs_prove.specs.Proves.{Proves}
use Rattle.dlk_replies.specs.declared.reply.Showing.TheVariants.{Summed}
use Rattle.dlk_jobs_check.specs.Checks.{Checks}
use Rattle.dlk_jobs_prove.specs.Generates.{refuses, checks}
use Rattle.dlk_replies.specs.Shown.{reply_of}
use Rattle.dlk_jobs_prove.proofs.generate.generated.Goals as goal

pub returns : goal.returns
returns g c =
    let n = c.args.count in
    let reply = reply_of c.in_ok-proved.proved in
    let model : c.deref.result.now ≡ generated_model n = c.deref.ensures.value ∙ c.in_ok-model.ensures.model in
    let strategy : c.deref-2.result.now ≡ generated_strategy n = c.deref-2.ensures.value ∙ c.in_ok-model.ensures.strategy in
    let proof = subst (λ (text : List ℕ). Proves (generated_model n) text reply) strategy
    (subst (λ (text : List ℕ). Proves text c.deref-2.result.now reply) model c.in_ok-proved.ensures) in
    refuses reply proof (ap (option_map (λ v. v.items)) c.in-None.is)

pub returns-in-Some : goal.returns-in-Some
returns-in-Some g c =
    let n = c.args.count in
    let proved = reply_of c.in_ok-proved.proved in
    let model : c.deref.result.now ≡ generated_model n = c.deref.ensures.value ∙ c.in_ok-model.ensures.model in
    let strategy : c.deref-2.result.now ≡ generated_strategy n = c.deref-2.ensures.value ∙ c.in_ok-model.ensures.strategy in
    let proof = subst (λ (text : List ℕ). Proves (generated_model n) text proved) strategy
    (subst (λ (text : List ℕ). Proves text c.deref-2.result.now proved) model c.in_ok-proved.ensures) in
    let written : proved.written ≡ Some c.in-Some.term.items = ap (option_map (λ v. v.items)) c.in-Some.is in
    let kept = c.deref-in-Some.ensures.value ∙ c.in_ok-model.ensures.model in
    IfOk-weaker c.check.result _ _
    (λ r said. checks proved (reply_of r) c.in-Some.term.items proof written
    (subst (λ (text : List ℕ). Checks (Summed n) (generated_model n) text (reply_of r)) c.deref-in-Some-2.ensures.value
    (subst (λ (text : List ℕ). Checks (Summed n) text c.deref-in-Some-2.result.now (reply_of r)) kept said)))
    c.check.ensures
