-- Steps and lemmas stay what they are while a store grows.
use Rattle.std.proofs.Common.{◌≡◌, ℕ, List, map, sym, subst, ◌∙◌}
use Rattle.std.specs.List.{All}
use Rattle.std.proofs.lemmas.List.Elements.{All-weaker}
use Rattle.dlk_tree.specs.Trees.{Tree}
use Rattle.dlk_rules.specs.declared.step.Step.{Step}
use Rattle.dlk_rules.specs.Steps.{step_at, HasKnownIds}
use Rattle.dlk_store.specs.declared.Id.{Id}
use Rattle.dlk_store.specs.Stores.{Keeps, StandsFor, tree}
use Rattle.dlk_sequent.proofs.Kept.{sequent-kept, IsKnown-kept}
use Rattle.dlk_link.proofs.LinkedSteps.{maps_stay}
use Rattle.dlk_jobs_check.specs.Terms.{ModelText, Replays}
use Rattle.dlk_jobs_terms.specs.Kept.{IsLemma}
use Rattle.dlk_jobs_terms.specs.declared.taken.Lemma.{Lemma}

module _ (known : (old new : List Tree) (step : Step) → Keeps old new → HasKnownIds old step → HasKnownIds new step)
    (same : (old new : List Tree) (step : Step) → Keeps old new → HasKnownIds old step → step_at new step ≡ step_at old step) where
  pub still_known : (old new : List Tree) → Keeps old new → (steps : List Step) → All (HasKnownIds old) steps → All (HasKnownIds new) steps
  still_known old new keeps steps h = All-weaker (HasKnownIds old) (HasKnownIds new) (λ s k. known old new s keeps k) steps h

  pub still_same : (old new : List Tree) → Keeps old new → (steps : List Step) → All (HasKnownIds old) steps → map (step_at new) steps ≡ map (step_at old) steps
  still_same old new keeps steps h = maps_stay old new (λ s k. same old new s keeps k) steps h

  -- a lemma stays what it is
  pub lemma_stays : (old new : List Tree) → Keeps old new → (text : List ℕ) (lemma : Lemma) → IsLemma old text lemma → IsLemma new text lemma
  lemma_stays old new keeps text lemma is = record {
    rows = is.rows;
    last = is.last;
    replays = subst (λ l. Replays text l is.rows is.last) (sym (still_same old new keeps lemma.steps.items is.steps_known)) is.replays;
    concludes = is.concludes ∙ sym (sequent-kept keeps lemma.concludes is.known);
    steps_known = still_known old new keeps lemma.steps.items is.steps_known;
    known = IsKnown-kept keeps lemma.concludes is.known;
  }

-- a model that was read is a text of what its id stands for
pub model_stays : {old new : List Tree} {model : List ℕ} {id : Id} → Keeps old new → ((f : Tree) × ModelText model f × StandsFor old id f) →
    ModelText model (tree new id)
model_stays {old} {new} {model} {id} keeps (f, reads, is) = subst (ModelText model) (sym (keeps.same id is.known ∙ is.tree_is)) reads
