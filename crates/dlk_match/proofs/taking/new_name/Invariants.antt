use Rattle.std.proofs.Common.{◌≡◌, drop}
use Rattle.dlk_match.specs.Matching.{renamed_to}
use Rattle.dlk_match.proofs.taking.new_name.Given as goal

-- the name is looked for in the names that are left
abbrev pub invariant-loop-name : goal.invariant-loop-name
invariant-loop-name l = renamed_to l.renames l.x ≡ renamed_to (drop l.name-index l.renames) l.x
