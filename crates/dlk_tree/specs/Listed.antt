-- Sets of variables and signatures as they are listed.
use Rattle.std.specs.Prelude.{◌≡◌, List, Bool, not, if◌then◌else◌, IsTrue}
use Rattle.std.specs.List.{list_any}
use Rattle.std.specs.List.Sorted.{IsStrictlySortedBy}
use Rattle.std.specs.declared.cmp.Ordering.{Ordering}
use Rattle.std.specs.Ordering.{nat_cmp, bool_cmp, ordering_then}
use Rattle.std.specs.Cmp.Lexicographic.{slice_cmp}
use Rattle.std.specs.Option.{option_cmp}
use Rattle.dlk_tree.specs.Names.{is_name}
use Rattle.dlk_tree.specs.Tests.{var_eq, sym_eq, kind_rank}
use Rattle.dlk_tree.specs.Trees.{Tree}
use Rattle.dlk_tree.specs.Occurs.{occurs}
use Rattle.dlk_tree.specs.declared.op.Sym.{Sym}
use Rattle.dlk_tree.specs.declared.op.Var.{Var}

-- some variable is in the set
abbrev pub IsInhabited : (Var → Bool) → Type 0
IsInhabited set = (v : Var) × IsTrue (is_name v.name) × IsTrue (set v)

abbrev pub is_among : List Var → Var → Bool
is_among vars v = list_any (var_eq v) vars

-- the set that is listed by its members, or with `all_but` by the variables that it leaves out
abbrev pub is_listed : Bool → List Var → Var → Bool
is_listed all_but vars v = if all_but then not (is_among vars v) else is_among vars v

-- in order of name bytes, and the unprimed before the primed
abbrev pub var_cmp : Var → Var → Ordering
var_cmp v w = ordering_then (slice_cmp nat_cmp v.name w.name) (bool_cmp v.primed w.primed)

-- the list is in order, and has the members of the set, or with `all_but` the others
pub record IsListing (set : Var → Bool) (all_but : Bool) (vars : List Var) : Type 0 where
  pub ordered : IsStrictlySortedBy var_cmp vars
  pub members : (v : Var) → is_listed all_but vars v ≡ set v

-- in order of kind, name, arity and taboo, no taboo first
abbrev pub sym_cmp : Sym → Sym → Ordering
sym_cmp s t =
    ordering_then (nat_cmp (kind_rank s.kind) (kind_rank t.kind))
    (ordering_then (slice_cmp nat_cmp s.name t.name) (ordering_then (nat_cmp s.arity t.arity) (option_cmp (slice_cmp nat_cmp) s.taboo t.taboo)))

-- the list is in order, and has the symbols that occur in the tree
pub record IsSignature (t : Tree) (syms : List Sym) : Type 0 where
  pub ordered : IsStrictlySortedBy sym_cmp syms
  pub members : (s : Sym) → list_any (sym_eq s) syms ≡ occurs s t
