-- A model's formula is within the limits of what is read.
use Rattle.std.proofs.Common.{◌≤◌, List, [], ◌∷◌, ℕ, refl, ap, inl, inr}
use Rattle.std.specs.Prelude.{min}
use Rattle.std.proofs.lemmas.Bool.{cases_lt}
use Rattle.std.proofs.lemmas.List.Elements.{All-nil}
use Rattle.dlk_tree.specs.Trees.{Tree, size, depth}
use Rattle.dlk_calculus.specs.Limits.{most_nodes, greatest_depth}
use Rattle.dlk_grammar.specs.Readings.{TooBig, TooDeep}
use Rattle.dlk_jobs_check.specs.Terms.{ModelText}

pub model_small : (model : List ℕ) (f : Tree) → ModelText model f → size f ≤ most_nodes
model_small model f reads = elim (cases_lt most_nodes (size f)) [
  | inr le ↦ le
  | inl past ↦
      let r = reads.reads in
      absurd (r.no_fault (TooBig (min (size f) 4294967295)) (
        r.phrase,
        r.says,
        record {
          before = [];
          tree = f;
          behind = [];
          trees_are = ap (λ (t : Tree). t ∷ []) r.value_is;
          past = past;
          first = All-nil (λ (t : Tree). size t ≤ most_nodes);
          number = refl;
        },
      ))
]

pub model_shallow : (model : List ℕ) (f : Tree) → ModelText model f → depth f ≤ greatest_depth
model_shallow model f reads = elim (cases_lt greatest_depth (depth f)) [
  | inr le ↦ le
  | inl past ↦
      let r = reads.reads in
      absurd (r.no_fault (TooDeep (min (depth f) 4294967295)) (
        r.phrase,
        r.says,
        record {
          before = [];
          tree = f;
          behind = [];
          trees_are = ap (λ (t : Tree). t ∷ []) r.value_is;
          past = past;
          first = All-nil (λ (t : Tree). depth t ≤ greatest_depth);
          number = refl;
        },
      ))
]
