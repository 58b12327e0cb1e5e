-- Sets of variables on the two variables of a name, and sets by the ids that they come from.
use Rattle.std.specs.Prelude.{ℕ, Bool, true, false, ◌&&◌, ◌||◌, not, List}
use Rattle.dlk_tree.specs.Trees.{Tree}
use Rattle.dlk_tree.specs.Statics.{Sets, plain, prime, both, free, bound, must}
use Rattle.dlk_tree.specs.declared.op.Var.{Var}
use Rattle.dlk_store.specs.Stores.{IsId, tree}
use Rattle.dlk_store.specs.declared.Id.{Id}
use Rattle.dlk_store.specs.declared.listing.Which.{Which}
use Rattle.dlk_store.specs.declared.listing.Which.TheVariants as which
use Rattle.dlk_plain.specs.declared.sets.Two.{Two}
use Rattle.dlk_plain.specs.declared.sets.Members.{Members}
use Rattle.dlk_plain.specs.declared.sought.VarSet.{VarSet}
use Rattle.dlk_plain.specs.declared.sought.VarSet.TheVariants.{Free, Bound, Must, FreeAndBound}

-- whether x and x' are in the set
abbrev pub on : List ℕ → (Var → Bool) → Two
on x set = record { plain = set (plain x); prime = set (prime x) }

abbrev pub at : Two → Bool → Bool
at two false = two.plain
at two true = two.prime

abbrev pub empty : Two
empty = record { plain = false; prime = false }

abbrev pub full : Two
full = record { plain = true; prime = true }

abbrev pub union : Two → Two → Two
union one other = record { plain = one.plain || other.plain; prime = one.prime || other.prime }

abbrev pub meet : Two → Two → Two
meet one other = record { plain = one.plain && other.plain; prime = one.prime && other.prime }

abbrev pub minus : Two → Two → Two
minus one other = record { plain = one.plain && not other.plain; prime = one.prime && not other.prime }

-- with x' where x is
abbrev pub primed_too : Two → Two
primed_too two = record { plain = two.plain; prime = two.prime || two.plain }

abbrev pub members_are : Two → Two → Two → Members
members_are free bound must = record { free = free; bound = bound; must = must }

-- whether x and x' are in the three sets
abbrev pub members : List ℕ → Sets → Members
members x s = members_are (on x s.free) (on x s.bound) (on x s.must)

-- the set that is asked for
abbrev pub set_of : List Tree → VarSet → Var → Bool
set_of trees (Free id) = free (tree trees id)
set_of trees (Bound id) = bound (tree trees id)
set_of trees (Must id) = must (tree trees id)
set_of trees (FreeAndBound e a) = both (free (tree trees e)) (bound (tree trees a))

-- its trees are there
abbrev pub IsSet : List Tree → VarSet → Type 0
IsSet trees (Free id) = IsId trees id
IsSet trees (Bound id) = IsId trees id
IsSet trees (Must id) = IsId trees id
IsSet trees (FreeAndBound e a) = IsId trees e × IsId trees a

-- one of the sets of a tree
abbrev pub asked : Which → Id → VarSet
asked which.Free id = Free id
asked which.Bound id = Bound id
asked which.Must id = Must id
