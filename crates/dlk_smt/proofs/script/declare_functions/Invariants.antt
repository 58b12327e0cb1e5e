use Rattle.std.proofs.Common.{◌≡◌, ◌++◌, map, drop}
use Rattle.dlk_smt.specs.Smt.{declarations, function_symbol}
use Rattle.dlk_smt.proofs.script.declare_functions.Given as goal

-- the lines so far and those that are left are all of them
abbrev pub invariant-loop-name : goal.invariant-loop-name
invariant-loop-name l = l.out.items ++ declarations (map function_symbol (drop l.name-index l.names)) ≡ l.fn.out.items ++ declarations
    (map function_symbol l.names)
