-- How a name keeps its bytes. No public clause cites this module.
use Rattle.std.specs.Prelude.{ℕ, ◌≤◌, List, take}
use Rattle.dlk_tree.specs.declared.name.Letters.{Letters}
use Rattle.dlk_tree.specs.declared.name.Letters.TheVariants.{Short, Long}

-- the bytes
abbrev pub bytes_of : Letters → List ℕ
bytes_of (Short count room) = take count room
bytes_of (Long bytes) = bytes.value.items

-- what is kept in place has room there
abbrev pub HasRoom : Letters → Type 0
HasRoom (Short count room) = count ≤ 14
HasRoom (Long bytes) = Unit {0}
