use Rattle.std.proofs.Common.{◌≡◌, drop}
use Rattle.std.specs.List.{list_any}
use Rattle.std.specs.Str.{bytes_eq}
use Rattle.dlk_match.specs.Matching.{new_names}
use Rattle.dlk_match.proofs.naming.is_new.Given as goal

-- the name is looked for in the names that are left
abbrev pub invariant-loop-name : goal.invariant-loop-name
invariant-loop-name l = list_any (bytes_eq l.y) (new_names l.renames) ≡ list_any (bytes_eq l.y) (new_names (drop l.name-index l.renames))
