-- Parts of a list of kids.
use Rattle.dlk_tree.specs.Trees.{Tree, node, Forest, no_kids, kid}
use Rattle.dlk_tree.specs.declared.op.Op.TheVariants.{True}

-- the first kid, and `true` where there is none
abbrev pub first : Forest → Tree
first no_kids = node True no_kids
first (kid t rest) = t

-- the kids behind the first
abbrev pub later : Forest → Forest
later no_kids = no_kids
later (kid t rest) = rest

-- the last kid, and `true` where there is none
abbrev pub last : Forest → Tree
last no_kids = node True no_kids
last (kid t no_kids) = t
last (kid t (kid u rest)) = last (kid u rest)
