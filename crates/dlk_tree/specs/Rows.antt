-- What a row of the code's table of operators says of kids and parts, by the columns of the table.
use Rattle.std.specs.Prelude.{List, [], ◌∷◌, ◌++◌, replicate, length, Bool, true, nat_lt}
use Rattle.dlk_tree.specs.Names.{is_name}
use Rattle.dlk_tree.specs.Table.{evolved, is_num, is_sym_of, are_items}
use Rattle.dlk_tree.specs.declared.op.Sort.{Sort}
use Rattle.dlk_tree.specs.declared.op.Sort.TheVariants.{Term, Formula}
use Rattle.dlk_tree.specs.declared.table.Kids.{Kids}
use Rattle.dlk_tree.specs.declared.table.Kids.TheVariants as Kids'
use Rattle.dlk_tree.specs.declared.table.Parts.{Parts}
use Rattle.dlk_tree.specs.declared.table.Parts.TheVariants as Parts'

abbrev pub sorts : Kids → List Sort
sorts Kids'.No = []
sorts (Kids'.One a) = a ∷ []
sorts (Kids'.Two a b) = a ∷ b ∷ []
sorts (Kids'.Arguments s) = replicate s.now.arity Term
sorts (Kids'.System items) = replicate (length (evolved items.now)) Term ++ Formula ∷ []

abbrev pub are_parts : Parts → Bool
are_parts Parts'.No = true
are_parts (Parts'.Name x) = is_name x.now
are_parts (Parts'.Number n) = is_num n.now
are_parts (Parts'.Dot n) = nat_lt n 8
are_parts (Parts'.Symbol kind s) = is_sym_of kind s.now
are_parts (Parts'.Items items) = are_items items.now
