-- What the read lines say.
use Rattle.std.specs.Prelude.{List}
use Rattle.dlk_tree.specs.Trees.{Tree}
use Rattle.dlk_store.specs.Stores.{IsId, tree}
use Rattle.dlk_rules.specs.Steps.{step_at, HasKnownIds}
use Rattle.dlk_nodes.specs.declared.line.Line2.{Line2}
use Rattle.dlk_nodes.specs.declared.line.Line2.TheVariants as line
use Rattle.dlk_nodes.specs.Lines.{Line, OfNode, Numbered, Done}

-- the line over the trees of its ids
abbrev pub line_at : List Tree → Line2 → Line
line_at trees (line.Node number id) = OfNode number (tree trees id)
line_at trees (line.Step number step) = Numbered number (step_at trees step)
line_at trees line.Done = Done

-- the ids of a line are those of the store
abbrev pub LineIsKnown : List Tree → Line2 → Type 0
LineIsKnown trees (line.Node number id) = IsId trees id
LineIsKnown trees (line.Step number step) = HasKnownIds trees step
LineIsKnown trees line.Done = Unit {0}
