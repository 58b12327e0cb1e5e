-- How a code is measured, with a stack: the measures of a node stand in place of those of its kids.
use Rattle.std.specs.Prelude.{ℕ, ◌+◌, min, max, nat_lt, Bool, cond, not, ◌||◌, List, [], ◌∷◌, ◌++◌, length, fold, Option, Some, None}
use Rattle.dlk_tree.specs.Table.{kid_sorts, evolved, all_distinct}
use Rattle.dlk_tree.specs.declared.op.OdeItem.{OdeItem}
use Rattle.dlk_reader.specs.declared.code.Code.{Code}
use Rattle.dlk_reader.specs.declared.code.Code.TheVariants as code
use Rattle.dlk_parse.specs.Stacks.{top, below}
use Rattle.dlk_parse.specs.declared.measures.Measure.{Measure}

abbrev pub are_ill : List OdeItem → Bool
are_ill items = nat_lt 64 (length items) || not (all_distinct (evolved items))

abbrev pub lesser : Option ℕ → Option ℕ → Option ℕ
lesser None b = b
lesser (Some a) None = Some a
lesser (Some a) (Some b) = Some (min a b)

abbrev pub place_when : Bool → ℕ → Option ℕ
place_when ill at = cond ill (Some at) None

-- a node's measures with one kid more
abbrev pub with_kid : Measure → Measure → Measure
with_kid node kid = record { ill = lesser node.ill kid.ill; size = min (node.size + kid.size) 4294967295; depth = max node.depth kid.depth }

abbrev pub raised : Measure → Measure
raised m = record { ill = m.ill; size = m.size; depth = min (m.depth + 1) 4294967295 }

abbrev pub bare : Option ℕ → Measure
bare ill = record { ill = ill; size = 1; depth = 0 }

-- the measures of a node over kids
abbrev pub over_kids : Option ℕ → List Measure → Measure
over_kids ill kids = raised (fold with_kid (bare ill) kids)

abbrev pub joined : ℕ → Option ℕ → List Measure → List Measure
joined n ill stack = below n stack ++ over_kids ill (top n stack) ∷ []

-- a program's measures with the formulas beside it
abbrev pub beside : List Measure → List Measure
beside [] = []
beside (program ∷ notes) = record { ill = (over_kids program.ill notes).ill; size = program.size; depth = program.depth } ∷ []

abbrev pub measure_step : List Measure → Code → List Measure
measure_step stack (code.Operator o) = joined (length (kid_sorts o)) None stack
measure_step stack (code.Call holds at x n) = joined n (place_when (nat_lt 8 n) at) stack
measure_step stack (code.System at items) = joined (length (evolved items) + 1) (place_when (are_ill items) at) stack
measure_step stack code.Notes = stack
measure_step stack (code.EndNotes n) = below (n + 1) stack ++ beside (top (n + 1) stack)
