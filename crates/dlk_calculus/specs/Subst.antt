-- Uniform substitution (Platzer 2017, section on uniform substitution).
use Rattle.std.specs.Prelude.{◌≡◌, ℕ, List, [], ◌∷◌, Bool, ◌&&◌, IsTrue, All, Option, Some, None}
use Rattle.std.specs.List.{flat_map}
use Rattle.dlk_tree.specs.declared.op.Var.{Var}
use Rattle.dlk_tree.specs.declared.op.Sym.{Sym}
use Rattle.dlk_tree.specs.declared.op.OdeItem.{OdeItem}
use Rattle.dlk_tree.specs.declared.op.OdeItem.TheVariants as Item
use Rattle.dlk_tree.specs.declared.op.Op.{Op}
use Rattle.dlk_tree.specs.declared.op.Op.TheVariants as Op'
use Rattle.dlk_tree.specs.Table.{kind_row}
use Rattle.dlk_tree.specs.Trees.{Tree, node, Forest, no_kids, kid, trees_in, WellMade}
use Rattle.dlk_tree.specs.Statics.{free, all}
use Rattle.dlk_tree.specs.Occurs.{any_has, has_symbol}
use Rattle.dlk_calculus.specs.Kids.{first, later, last}
use Rattle.dlk_calculus.specs.Captures.{AreApart, Stays}
use Rattle.dlk_calculus.specs.Pairs.{Pair, replacement}
use Rattle.dlk_calculus.specs.Plug.{Plug, filled}

-- no variable of the set is free in the replacement of a function or predicate that occurs in these trees
abbrev pub IsAdmissible : List Pair → (Var → Bool) → Forest → Type 0
IsAdmissible pairs set trees =
    All (λ (p : Pair). IsTrue ((kind_row p.sym.kind).arguments && any_has (has_symbol p.sym) trees) → AreApart set (free p.by)) pairs

-- what holds with a replacement, and without one
abbrev pub Replaced : Option Tree → (Tree → Type 0) → Type 0 → Type 0
Replaced (Some r) With Without = With r
Replaced None With Without = Without

-- A system has members and a domain. A constant with a pair gives way to the members of its replacement, whose domain is dropped:

-- an evolved variable with its right side, or a constant
pub data Member : Type 0 where
  Equation : List ℕ → Tree → Member
  Constant : Sym → Member

-- the members of a system, of its items and kids
abbrev pub members : List OdeItem → Forest → List Member
members [] kids = []
members (Item.Evolve x ∷ items) kids = Equation x (first kids) ∷ members items (later kids)
members (Item.Const s ∷ items) kids = Constant s ∷ members items kids

-- the members for a constant
abbrev pub members_for : Sym → Option Tree → List Member
members_for s (Some (node (Op'.System items) kids)) = members items kids
members_for s _ = Constant s ∷ []

abbrev pub spliced : List Pair → Member → List Member
spliced pairs (Equation x side) = Equation x side ∷ []
spliced pairs (Constant s) = members_for s (replacement pairs s)

abbrev pub new_members : List Pair → List OdeItem → Forest → List Member
new_members pairs items kids = flat_map (spliced pairs) (members items kids)

abbrev pub items_of : List Member → List OdeItem
items_of [] = []
items_of (Equation x side ∷ rest) = Item.Evolve x ∷ items_of rest
items_of (Constant s ∷ rest) = Item.Const s ∷ items_of rest

-- their right sides, in order, and the domain
abbrev pub kids_of : List Member → Tree → Forest
kids_of [] domain = kid domain no_kids
kids_of (Equation x side ∷ rest) domain = kid side (kids_of rest domain)
kids_of (Constant s ∷ rest) domain = kids_of rest domain

-- The operator over old kids gives t, where these give the new ones. One row for each operator
-- with a symbol of its own, of which a system's are its constants; any other operator stays.
abbrev pub SubstAt : List Pair → Op → Forest → Forest → Tree → Type 0
SubstAt pairs (Op'.UnitFun s) old new t = Replaced (replacement pairs s) (λ r. t ≡ r) (Stays (IsAdmissible pairs) (Op'.UnitFun s) old new t)
SubstAt pairs (Op'.UnitPred s) old new t = Replaced (replacement pairs s) (λ r. t ≡ r) (Stays (IsAdmissible pairs) (Op'.UnitPred s) old new t)
SubstAt pairs (Op'.Const s) old new t = Replaced (replacement pairs s) (λ r. t ≡ r) (Stays (IsAdmissible pairs) (Op'.Const s) old new t)
SubstAt pairs (Op'.Apply s) old new t = Replaced (replacement pairs s) (λ r. Plug (trees_in new) r t) (Stays (IsAdmissible pairs) (Op'.Apply s) old new t)
SubstAt pairs (Op'.Holds s) old new t = Replaced (replacement pairs s) (λ r. Plug (trees_in new) r t) (Stays (IsAdmissible pairs) (Op'.Holds s) old new t)
SubstAt pairs (Op'.Predicational s) old new t =
    Replaced (replacement pairs s) (λ r. IsAdmissible pairs all old × (t ≡ filled (first new) r)) (Stays (IsAdmissible pairs) (Op'.Predicational s) old new t)
SubstAt pairs (Op'.System items) old new t =
    Stays (IsAdmissible pairs) (Op'.System (items_of (new_members pairs items new))) old (kids_of (new_members pairs items new) (last new)) t
SubstAt pairs op old new t = Stays (IsAdmissible pairs) op old new t

abbrev mutual
  -- The substitution makes t of e, and t is well made: a system evolves no variable twice and has at most 64 items.
  pub Subst : List Pair → Tree → Tree → Type 0
  Subst pairs (node op kids) t = (new : Forest) × SubstAll pairs kids new × SubstAt pairs op kids new t × WellMade t

  pub SubstAll : List Pair → Forest → Forest → Type 0
  SubstAll pairs no_kids no_kids = Unit {0}
  SubstAll pairs no_kids (kid t ts) = ⊥
  SubstAll pairs (kid e es) no_kids = ⊥
  SubstAll pairs (kid e es) (kid t ts) = Subst pairs e t × SubstAll pairs es ts
