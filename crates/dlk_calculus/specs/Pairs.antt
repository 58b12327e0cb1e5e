-- The pairs of a substitution, and when a list of them is well formed.
use Rattle.std.specs.Prelude.{◌≡◌, ℕ, ◌-◌, ◌<◌, ◌⊎◌, List, [], ◌∷◌, take, Bool, true, false, ◌&&◌, ◌||◌, not, nat_le, ◌==◌, if◌then◌else◌, IsTrue}
use Rattle.std.specs.Prelude.{All, Option, Some, None, find, codes}
use Rattle.std.specs.List.{list_any}
use Rattle.dlk_tree.specs.declared.op.Var.{Var}
use Rattle.dlk_tree.specs.declared.op.Sym.{Sym}
use Rattle.dlk_tree.specs.declared.op.Kind.{Kind}
use Rattle.dlk_tree.specs.declared.op.Kind.TheVariants.{Ode}
use Rattle.dlk_tree.specs.declared.op.Op.{Op}
use Rattle.dlk_tree.specs.declared.op.Op.TheVariants as Op'
use Rattle.dlk_tree.specs.Tests.{kind_rank, sym_eq, sort_eq}
use Rattle.dlk_tree.specs.Table.{kind_row}
use Rattle.dlk_tree.specs.Trees.{Tree, node, root, sort, WellMade}
use Rattle.dlk_tree.specs.Statics.{free, bound}
use Rattle.dlk_tree.specs.Occurs.{has, has_hole}
use Rattle.dlk_tree.specs.Named.{has_either}
use Rattle.dlk_tree.specs.Listed.{IsInhabited}
use Rattle.dlk_calculus.specs.Kids.{last}
use Rattle.dlk_calculus.specs.Places.{At}
use Rattle.dlk_calculus.specs.declared.why.Why.{Why}
use Rattle.dlk_calculus.specs.declared.why.Why.TheVariants as Why'

-- a symbol, and what replaces it
pub record Pair : Type 0 where
  pub sym : Sym
  pub by : Tree

-- names with the names that they get, and pairs
pub record Extra : Type 0 where
  pub renames : List (List ℕ × List ℕ)
  pub pairs : List Pair

-- what replaces the symbol, if it has a pair
abbrev pub replacement : List Pair → Sym → Option Tree
replacement [] s = None
replacement (p ∷ pairs) s = if sym_eq s p.sym then Some p.by else replacement pairs s

-- some variable is free in the replacement of a function or a predicate
abbrev pub IsFreeIn : List Pair → Type 0
IsFreeIn [] = ⊥
IsFreeIn (p ∷ pairs) = (IsTrue (kind_row p.sym.kind).arguments × IsInhabited (free p.by)) ⊎ IsFreeIn pairs

-- What speaks against a pair:

abbrev pub is_true : Op → Bool
is_true Op'.True = true
is_true _ = false

-- a system whose domain is `true`
abbrev pub is_system_without_domain : Tree → Bool
is_system_without_domain (node (Op'.System items) kids) = is_true (root (last kids))
is_system_without_domain _ = false

abbrev pub is_ode : Kind → Bool
is_ode kind = kind_rank kind == kind_rank Ode

-- of the sort of a symbol of this kind, and for an ODE constant such a system
abbrev pub is_of_kind : Kind → Tree → Bool
is_of_kind kind r = (not (is_ode kind) || is_system_without_domain r) && sort_eq (sort r) (kind_row kind).sort

-- an argument dot that isn't below the arity
abbrev pub is_dot_from : ℕ → Op → Bool
is_dot_from arity (Op'.Dot n) = nat_le arity n
is_dot_from arity _ = false

-- the variables that a taboo forbids in a replacement: the free ones, and for an ODE constant the bound ones, too
abbrev pub touched : Kind → Tree → Var → Bool
touched kind r v = free r v || (is_ode kind && bound r v)

abbrev pub has_taboo : Option (List ℕ) → (Var → Bool) → Bool
has_taboo None set = false
has_taboo (Some y) set = has_either set y

-- this speaks against a pair behind earlier ones. One row a reason.
abbrev pub is_against : Why → List Pair → Pair → Bool
is_against Why'.Sort earlier p = not (is_of_kind p.sym.kind p.by)
is_against Why'.Twice earlier p = list_any (λ q. sym_eq p.sym q.sym) earlier
is_against Why'.Dot earlier p = has (is_dot_from p.sym.arity) p.by
is_against Why'.Hole earlier p = has_hole p.by && not (kind_row p.sym.kind).hole
is_against Why'.Taboo earlier p = has_taboo p.sym.taboo (touched p.sym.kind p.by)

-- the word of a reason, as it is printed
abbrev pub why_text : Why → List ℕ
why_text Why'.Sort = codes "sort"
why_text Why'.Twice = codes "twice"
why_text Why'.Dot = codes "dot"
why_text Why'.Hole = codes "hole"
why_text Why'.Taboo = codes "taboo"

-- the first reason that speaks against it
abbrev pub why : List Pair → Pair → Option Why
why earlier p = find (λ w. is_against w earlier p) (Why'.Sort ∷ Why'.Twice ∷ Why'.Dot ∷ Why'.Hole ∷ Why'.Taboo ∷ [])

-- this is the first reason against pair n, which stands behind the pairs before it; places count from 1
abbrev pub IsIll : List Pair → ℕ → Why → Type 0
IsIll pairs n reason = (p : Pair) × At pairs n p × (why (take (n - 1) pairs) p ≡ Some reason)

-- the first bad pair, and the first reason against it
pub record FirstIll (pairs : List Pair) (n : ℕ) (reason : Why) : Type 0 where
  pub ill : IsIll pairs n reason
  pub first : (m : ℕ) (w : Why) → m < n → ¬ IsIll pairs m w

-- no pair is bad
pub record IsWellFormed (pairs : List Pair) : Type 0 where
  pub none : (n : ℕ) (w : Why) → ¬ IsIll pairs n w

-- each replacement is well made
abbrev pub AreWellMade : List Pair → Type 0
AreWellMade pairs = All (λ (p : Pair). WellMade p.by) pairs
