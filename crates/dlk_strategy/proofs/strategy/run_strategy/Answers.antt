use Rattle.std.proofs.Common.{arith}
use Rattle.std.proofs.lemmas.List.{length-map}
use Rattle.dlk_store.specs.Stores.{tree}
use Rattle.dlk_kernel.specs.Kernel.{provable_at}
use Rattle.dlk_tacsyn.specs.Ties.{tactic_at}
use Rattle.dlk_strategy.specs.declared.strategy.Done.{Done}
use Rattle.dlk_strategy.specs.Ties.{progress_at}
use Rattle.dlk_strategy.proofs.Differentiated.{when_done, when_refused}
use Rattle.dlk_strategy.proofs.strategy.run_strategy.Goals as goal

pub run_model-requires-clause-runnable : goal.run_model-requires-clause-runnable
run_model-requires-clause-runnable g c =
    let trees = g.S.Store.trees c.args.kernel.now.store in
    record {
      known = c.in_ok-expansion.ensures.known;
      atoms = c.expansion_fits.ensures.fitting (tactic_at trees c.args.strategy.now) (tactic_at trees c.in_ok-expansion.expansion) c.requires.runnable.of_text
          c.in_ok-expansion.ensures.found;
    }

pub returns-in-Ok-clause-done : goal.returns-in-Ok-clause-done
returns-in-Ok-clause-done g c = (
  c.in-Ok.trace.used,
  c.in-Ok.ensures.done.0,
  record {
    expansion = tactic_at (g.S.Store.trees c.args.kernel.now.store) c.in_ok-expansion.expansion;
    expanded = c.in_ok-expansion.ensures.found;
    runs = c.in-Ok.ensures.done.1;
  },
)

pub returns-in-Ok-clause-derivative : goal.returns-in-Ok-clause-derivative
returns-in-Ok-clause-derivative g c =
    let trees = g.S.Store.trees c.args.kernel.now.store in
    let now = progress_at g.S.Store.trees c.run_model.new.kernel c.in-Ok.trace.steps.items c.in-Ok.trace.used in
    let count = length-map c.run_model.new.kernel.rows (provable_at (g.S.Store.trees c.run_model.new.kernel.store)) in
    let made : Done = record { fact = c.rows.result; steps = c.in-Ok.trace.steps } in
    when_done c.one_outcome.ensures c.derive_differentiates.ensures (tactic_at trees c.args.strategy.now) (tactic_at trees c.in_ok-expansion.expansion)
    (tree trees c.args.model) now c.in-Ok.ensures.done.0 made c.in_ok-expansion.ensures.found c.in-Ok.ensures.done.1 (omega (arith, count, c.rows.ensures))

pub returns-clause-derivative : goal.returns-clause-derivative
returns-clause-derivative g c =
    let trees = g.S.Store.trees c.args.kernel.now.store in
    when_refused c.one_outcome.ensures c.derive_differentiates.ensures (tactic_at trees c.args.strategy.now) (tactic_at trees c.in_ok-expansion.expansion)
    (tree trees c.args.model) c.in-Err.fault c.in_ok-expansion.ensures.found c.in-Err.ensures.fault
