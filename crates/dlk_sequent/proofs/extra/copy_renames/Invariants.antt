use Rattle.std.proofs.Common.{◌≡◌, take}
use Rattle.dlk_sequent.proofs.extra.copy_renames.Given as goal

-- the first names were copied
abbrev pub invariant-loop-name : goal.invariant-loop-name
invariant-loop-name l = l.renames.items ≡ take l.name-index l.from
