-- A table of sets of variables, over a table that numbers the variables.
use Rattle.std.specs.Prelude.{◌≡◌, ℕ, ◌<◌, ◌≤◌, Bool, true, false, ◌||◌, ◌&&◌, not, List, [], length, slice_index_or}
use Rattle.dlk_tree.specs.Statics.{plain, prime, and_primes, Sets, sets_are}
use Rattle.std.specs.List.{list_any}
use Rattle.std.specs.Bool.{beq}
use Rattle.dlk_tree.specs.Tests.{var_eq}
use Rattle.dlk_tree.specs.Listed.{is_among}
use Rattle.dlk_tree.specs.declared.op.Var.{Var}
use Rattle.dlk_vars.specs.Rows.{Row, has_number}
use Rattle.dlk_shared.specs.declared.node.NodeSets.{NodeSets}
use Rattle.dlk_store.specs.declared.listing.Which.{Which}
use Rattle.dlk_store.specs.declared.listing.Which.TheVariants.{Free, Bound, Must}
use Rattle.dlk_vars.specs.Tables.{Grows}
use Rattle.dlk_vars.specs.Sets.{has, IsWithin}

pub record SetTable : Type 0 where
  pub vars : List Var
  pub sets : List Row

-- the set of a number
abbrev pub row_at : List Row → ℕ → Row
row_at sets n = slice_index_or sets n (record { words = []; others = false })

-- what a row stands for
pub record Holds (vars : List Var) (r : Row) (set : Var → Bool) : Type 0 where
  pub members : (v : Var) → has vars r v ≡ set v
  pub within : IsWithin vars r

-- what the number of a set stands for
pub record Means (t : SetTable) (n : ℕ) (set : Var → Bool) : Type 0 where
  pub known : n < length t.sets
  pub holds : Holds t.vars (row_at t.sets n) set

-- the three sets of a node
pub record MeanSets (t : SetTable) (n : NodeSets) (sets : Sets) : Type 0 where
  pub free : Means t n.free sets.free
  pub bound : Means t n.bound sets.bound
  pub must : Means t n.must sets.must

-- each set keeps its number, and each variable
pub record Keeps (old new : SetTable) : Type 0 where
  pub vars : Grows old.vars new.vars
  pub sets : length old.sets ≤ length new.sets
  pub same : (n : ℕ) → n < length old.sets → row_at new.sets n ≡ row_at old.sets n

-- n is a number for `make` of what the other two stand for
pub record Makes (make : (Var → Bool) → (Var → Bool) → Var → Bool) (old : SetTable) (a b : ℕ) (new : SetTable) (n : ℕ) : Type 0 where
  pub means : (s r : Var → Bool) → Means old a s → Means old b r → Means new n (make s r)

-- what the number stands for, whatever it is
abbrev pub set_at : SetTable → ℕ → Var → Bool
set_at t n v = has t.vars (row_at t.sets n) v

abbrev pub sets_at : SetTable → NodeSets → Sets
sets_at t n = sets_are (set_at t n.free) (set_at t n.bound) (set_at t n.must)

-- the number is that of a set in the table
pub record IsSet (t : SetTable) (n : ℕ) : Type 0 where
  pub known : n < length t.sets
  pub within : IsWithin t.vars (row_at t.sets n)

-- no variable is in the set of this number
pub record IsNone (t : SetTable) (n : ℕ) : Type 0 where
  pub none : (set : Var → Bool) → Means t n set → (v : Var) → set v ≡ false

pub record AreSets (t : SetTable) (n : NodeSets) : Type 0 where
  pub free : IsSet t n.free
  pub bound : IsSet t n.bound
  pub must : IsSet t n.must

-- the number of one of the three sets
abbrev pub number_in : Which → NodeSets → ℕ
number_in Free n = n.free
number_in Bound n = n.bound
number_in Must n = n.must

-- what is in one of the three sets of some kid
abbrev pub set_in : Which → Sets → Var → Bool
set_in Free s = s.free
set_in Bound s = s.bound
set_in Must s = s.must

abbrev pub in_kids : Which → List Sets → Var → Bool
in_kids which kids v = list_any (λ k. set_in which k v) kids

-- n is a number for what the other stands for, and x' for each x in it
pub record MakesPrimes (old : SetTable) (a : ℕ) (new : SetTable) (n : ℕ) : Type 0 where
  pub means : (s : Var → Bool) → Means old a s → Means new n (and_primes s)

-- the variable of a number
abbrev pub var_at : List Var → ℕ → Var
var_at vars n = slice_index_or vars n (plain [])

-- whether the n-th variable w is an x in the set, and v is its x'
abbrev pub is_prime_of : Row → ℕ → Var → Var → Bool
is_prime_of from n w v = (not w.primed && has_number from n) && var_eq v (prime w.name)

-- r is the set with x' where the n-th variable is an x in `from`
pub record GainsPrime (old : List Var) (set from : Row) (n : ℕ) (new : List Var) (r : Row) : Type 0 where
  pub members : (v : Var) → has new r v ≡ (has old set v || is_prime_of from n (var_at old n) v)
  pub within : IsWithin new r

-- x is numbered where x' is
pub record ArePlainToo (vars : List Var) : Type 0 where
  pub plain_too : (x : List ℕ) → is_among vars (prime x) ≡ true → is_among vars (plain x) ≡ true

-- whether the number is in the set where others aren't, or the other way round
abbrev pub stands_out : Row → ℕ → Bool
stands_out r n = not (beq (has_number r n) r.others)

-- the variable comes to those in the list, where it is wanted
pub record AddsWhere (wanted : Bool) (v : Var) (old new : List Var) : Type 0 where
  pub adds : (w : Var) → is_among new w ≡ (is_among old w || (var_eq w v && wanted))
