-- What is looked for at the nodes of a tree.
use Rattle.std.specs.Prelude.{Bool, List}
use Rattle.dlk_tree.specs.Trees.{Tree}
use Rattle.dlk_tree.specs.Occurs.{has_symbol, is_dot, is_hole}
use Rattle.dlk_tree.specs.Named.{any_name, has_either}
use Rattle.dlk_tree.specs.declared.op.Op.{Op}
use Rattle.dlk_plain.specs.Sets.{set_of, IsSet}
use Rattle.dlk_plain.specs.declared.sought.Sought.{Sought}
use Rattle.dlk_plain.specs.declared.sought.Sought.TheVariants.{Symbol, Dot, Hole, NameOf}

abbrev pub is_sought : List Tree → Sought → Op → Bool
is_sought trees (Symbol s) = has_symbol s.now
is_sought trees (Dot n) = is_dot n
is_sought trees Hole = is_hole
is_sought trees (NameOf set) = any_name (has_either (set_of trees set))

abbrev pub CanSeek : List Tree → Sought → Type 0
CanSeek trees (Symbol s) = Unit {0}
CanSeek trees (Dot n) = Unit {0}
CanSeek trees Hole = Unit {0}
CanSeek trees (NameOf set) = IsSet trees set
