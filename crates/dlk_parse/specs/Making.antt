-- How the trees of a code are made, with a stack: a node stands in place of its kids. What stands between notes and their
-- end makes none.
use Rattle.std.specs.Prelude.{◌==◌, ℕ, ◌+◌, ◌-◌, if◌then◌else◌, Bool, true, false, List, [], ◌∷◌, ◌++◌, length, map, All}
use Rattle.dlk_tree.specs.Trees.{Tree, node, forest, WellMade}
use Rattle.dlk_tree.specs.Table.{kid_sorts}
use Rattle.dlk_tree.specs.declared.op.Kind.TheVariants.{Func, Pred}
use Rattle.dlk_tree.specs.declared.op.Op.{Op}
use Rattle.dlk_tree.specs.declared.op.Op.TheVariants as op
use Rattle.dlk_store.specs.Stores.{tree}
use Rattle.dlk_grammar.specs.Lexemes.{Word}
use Rattle.dlk_grammar.specs.Phrases.{Everywhere}
use Rattle.dlk_grammar.specs.Erased.{symbol}
use Rattle.dlk_parse.specs.Stacks.{top, below}
use Rattle.dlk_reader.specs.declared.code.Code.{Code}
use Rattle.dlk_reader.specs.declared.code.Code.TheVariants as code
use Rattle.dlk_parse.specs.declared.making.Maker.{Maker}

-- the open notes, and the trees that wait for their operator
pub record Making : Type 0 where
  pub notes : ℕ
  pub trees : List Tree

abbrev pub call : Bool → Word → ℕ → Op
call false x n = op.Apply (symbol Func x n Everywhere)
call true x n = op.Holds (symbol Pred x n Everywhere)

-- a node in place of its kids
abbrev pub put : Op → List Tree → List Tree
put o trees = below (length (kid_sorts o)) trees ++ node o (forest (top (length (kid_sorts o)) trees)) ∷ []

-- a node, unless notes are open
abbrev pub put_outside : Op → Making → Making
put_outside o m = if m.notes == 0 then record { notes = 0; trees = put o m.trees } else m

abbrev pub make_step : Making → Code → Making
make_step m (code.Operator o) = put_outside o m
make_step m (code.Call holds at x n) = put_outside (call holds x n) m
make_step m (code.System at items) = put_outside (op.System items) m
make_step m code.Notes = record { notes = m.notes + 1; trees = m.trees }
make_step m (code.EndNotes n) = record { notes = m.notes - 1; trees = m.trees }

-- what a maker stands for
abbrev pub making_at : List Tree → Maker → Making
making_at trees maker = record { notes = maker.notes; trees = map (tree trees) maker.ids.items }

pub record AllWellMade (m : Making) : Type 0 where
  pub each : All WellMade m.trees
