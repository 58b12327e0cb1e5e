-- The three sets of a tree by the word that asks for one, and their listings.
use Rattle.std.specs.Prelude.{Bool}
use Rattle.dlk_tree.specs.Trees.{Tree}
use Rattle.dlk_tree.specs.Statics.{free, bound, must}
use Rattle.dlk_tree.specs.Listed.{IsListing}
use Rattle.dlk_tree.specs.declared.op.Var.{Var}
use Rattle.dlk_store.specs.declared.listing.Which.{Which}
use Rattle.dlk_store.specs.declared.listing.Which.TheVariants.{Free, Bound, Must}
use Rattle.dlk_store.specs.declared.listing.Listing.{Listing}

abbrev pub set_of : Which → Tree → Var → Bool
set_of Free t = free t
set_of Bound t = bound t
set_of Must t = must t

abbrev pub IsListingOf : (Var → Bool) → Listing → Type 0
IsListingOf set l = IsListing set l.all_but l.vars
