-- The kids of a system, as a printer goes through them.
use Rattle.std.specs.Prelude.{List, [], map, slice_index_or}
use Rattle.dlk_tree.specs.declared.op.Op.TheVariants.{True}
use Rattle.dlk_tree.specs.Trees.{Tree, node, no_kids, trees_in}
use Rattle.dlk_store.specs.declared.Id.{Id}
use Rattle.dlk_store.specs.Stores.{tree, kid_trees}
use Rattle.dlk_grammar.specs.Shown.{Piece, shown_at, domain_text}

-- the texts of kids that may be of any level
abbrev pub texts_of : List Tree → List Id → List (List Piece)
texts_of trees kids = map (λ k. shown_at 1 (tree trees k)) kids

-- the first kid as a domain
abbrev pub first_domain : List Tree → List Id → List Piece
first_domain trees kids = domain_text (slice_index_or (trees_in (kid_trees trees kids)) 0 (node True no_kids)) (slice_index_or (texts_of trees kids) 0 [])
