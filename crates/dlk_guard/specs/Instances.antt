-- What is wanted of an instance of DI and of one of DG. Each condition is a row, in the order in which it is looked for.
use Rattle.std.specs.Prelude.{ℕ, List, [], ◌∷◌, Bool, false, ◌&&◌, ◌||◌, if◌then◌else◌, Option, Some, None, option_map}
use Rattle.std.specs.List.{list_any}
use Rattle.std.specs.Str.{bytes_eq}
use Rattle.dlk_tree.specs.declared.op.Var.{Var}
use Rattle.dlk_tree.specs.declared.op.Sym.{Sym}
use Rattle.dlk_tree.specs.declared.op.OdeItem.{OdeItem}
use Rattle.dlk_tree.specs.declared.op.OdeItem.TheVariants as Item
use Rattle.dlk_tree.specs.declared.op.Op.{Op}
use Rattle.dlk_tree.specs.declared.op.Op.TheVariants as Op'
use Rattle.dlk_tree.specs.Table.{evolved}
use Rattle.dlk_tree.specs.Trees.{Tree, node, Forest, no_kids, kid}
use Rattle.dlk_tree.specs.Statics.{free, prime}
use Rattle.dlk_calculus.specs.Paths.{subtree}
use Rattle.dlk_guard.specs.declared.why.Why.{Why}
use Rattle.dlk_guard.specs.declared.why.Why.TheVariants.{OdeConstant, NotSmooth, NotEvolved, Primed, GhostNotSmooth, RawFact}
use Rattle.dlk_guard.specs.declared.raw.RawAxiom.{RawAxiom}
use Rattle.dlk_guard.specs.declared.raw.RawAxiom.TheVariants.{Di, Dg}
use Rattle.dlk_guard.specs.Smooth.{domain_parts, is_frozen, is_smooth, is_smooth_formula}

-- the first reason in a list
abbrev pub first_of : List (Option Why) → Option Why
first_of [] = None
first_of (Some why ∷ rest) = Some why
first_of (None ∷ rest) = first_of rest

-- the reason, unless this holds
abbrev pub unless : Bool → Why → Option Why
unless holds why = if holds then None else Some why

-- ---- DI: (q -> [{S&q}](p)') -> ([{S&q}]p <-> [?q;]p)

-- the first ODE constant of the system
abbrev pub first_constant : List OdeItem → Option Sym
first_constant [] = None
first_constant (Item.Const s ∷ items) = Some s
first_constant (Item.Evolve x ∷ items) = first_constant items

-- the variable, where the system doesn't evolve it and the domain doesn't say that it is constant
abbrev pub loose : List OdeItem → List Tree → List ℕ → Option (List ℕ)
loose items domain x = if list_any (bytes_eq x) (evolved items) || is_frozen domain x then None else Some x

abbrev pub loose_in_op : List OdeItem → List Tree → Op → Option (List ℕ)
loose_in_op items domain (Op'.Variable v) = loose items domain v.name
loose_in_op items domain _ = None

abbrev pub or_else : Option (List ℕ) → Option (List ℕ) → Option (List ℕ)
or_else (Some x) other = Some x
or_else None other = other

-- the first such variable of a formula
abbrev mutual
  pub first_loose : List OdeItem → List Tree → Tree → Option (List ℕ)
  first_loose items domain (node op kids) = or_else (loose_in_op items domain op) (first_loose_in items domain kids)

  pub first_loose_in : List OdeItem → List Tree → Forest → Option (List ℕ)
  first_loose_in items domain no_kids = None
  first_loose_in items domain (kid t rest) = or_else (first_loose items domain t) (first_loose_in items domain rest)

-- the variable is free in one of the trees
abbrev pub is_free_in : Forest → Var → Bool
is_free_in no_kids v = false
is_free_in (kid t rest) v = free t v || is_free_in rest v

-- the first evolved variable whose primed one is free in a kid of the system: in a right side or in the domain
abbrev pub first_primed : List OdeItem → Forest → Option (List ℕ)
first_primed [] kids = None
first_primed (Item.Evolve x ∷ items) kids = if is_free_in kids (prime x) then Some x else first_primed items kids
first_primed (Item.Const s ∷ items) kids = first_primed items kids

-- Of the system with these items over these kids, which are its right sides and its domain q, and of p:
abbrev pub di_conditions : List OdeItem → Forest → Tree → Option Why
di_conditions items kids p =
    first_of
    -- no ODE constant is left in S
    (option_map OdeConstant (first_constant items) ∷
    -- p is made of comparisons of smooth terms
    unless (is_smooth_formula (domain_parts kids) p) NotSmooth ∷
    -- S evolves each variable of p, or q says that it is constant
    option_map NotEvolved (first_loose items (domain_parts kids) p) ∷
    -- no x' of an evolved x is free in q or in a right side of S
    option_map Primed (first_primed items kids) ∷
    [])

-- the items, where the operator is a system
abbrev pub system_items : Op → Option (List OdeItem)
system_items (Op'.System items) = Some items
system_items _ = None

abbrev pub di_items : Option (List OdeItem) → Forest → Tree → Option Why
di_items (Some items) kids p = di_conditions items kids p
di_items None kids p = Some RawFact

-- of what stands at `{S&q}` and at p
abbrev pub di_parts : Option Tree → Option Tree → Option Why
di_parts (Some (node op kids)) (Some p) = di_items (system_items op) kids p
di_parts (Some (node op kids)) None = Some RawFact
di_parts None p = Some RawFact

-- why the formula is no good instance of DI; substitution and renaming keep the form, so the paths are those of DI
abbrev pub di_why : Tree → Option Why
di_why t = di_parts (subtree t (1 ∷ 0 ∷ 0 ∷ [])) (subtree t (1 ∷ 0 ∷ 1 ∷ []))

-- ---- DG: [{S&q}]p <-> \exists y [{S,y'=a*y+b&q}]p

-- the last right side
abbrev pub before_last : Forest → Option Tree
before_last no_kids = None
before_last (kid t no_kids) = None
before_last (kid t (kid u no_kids)) = Some t
before_last (kid t (kid u (kid v rest))) = before_last (kid u (kid v rest))

-- a and b are smooth
abbrev pub dg_terms : List Tree → Option Tree → Option Tree → Option Why
dg_terms domain (Some a) (Some b) = unless (is_smooth domain a && is_smooth domain b) GhostNotSmooth
dg_terms domain (Some a) None = Some RawFact
dg_terms domain None b = Some RawFact

-- of the parts of q, and what stands at a*y+b
abbrev pub dg_conditions : List Tree → Option Tree → Option Why
dg_conditions domain (Some side) = dg_terms domain (subtree side (0 ∷ 0 ∷ [])) (subtree side (1 ∷ []))
dg_conditions domain None = Some RawFact

abbrev pub dg_items : Option (List OdeItem) → Forest → Option Why
dg_items (Some items) kids = dg_conditions (domain_parts kids) (before_last kids)
dg_items None kids = Some RawFact

-- of what stands at `{S,y'=a*y+b&q}`
abbrev pub dg_parts : Option Tree → Option Why
dg_parts (Some (node op kids)) = dg_items (system_items op) kids
dg_parts None = Some RawFact

-- why the formula is no good instance of DG
abbrev pub dg_why : Tree → Option Why
dg_why t = dg_parts (subtree t (1 ∷ 0 ∷ 0 ∷ []))

-- why it is no good instance of this axiom
abbrev pub instance_why : RawAxiom → Tree → Option Why
instance_why Di t = di_why t
instance_why Dg t = dg_why t
