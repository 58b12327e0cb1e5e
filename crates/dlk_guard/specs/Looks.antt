-- How many nodes a guard looks at, at most.
use Rattle.std.specs.Prelude.{ℕ, ◌+◌, ◌*◌, List, [], ◌∷◌, length, sum_by, Option, Some, None}
use Rattle.dlk_tree.specs.Trees.{Tree, node, Forest, size, size_all, depth, depth_all}
use Rattle.dlk_calculus.specs.Pairs.{Pair}
use Rattle.dlk_calculus.specs.Paths.{subtree}
use Rattle.dlk_calculus.specs.Sequents.{Sequent}
use Rattle.dlk_calculus.specs.Steps.{Step, Substitute, Rename}
use Rattle.dlk_guard.specs.Smooth.{domain_parts}
use Rattle.dlk_guard.specs.Guarded.{Line, shown}

-- whether a tree is smooth over a domain with so many parts: at each node one look, one for each level of the tree, and three for each part
abbrev pub smooth_looks : ℕ → Tree → ℕ
smooth_looks parts t = size t * (1 + depth t + 3 * parts)

abbrev pub smooth_looks_all : ℕ → Forest → ℕ
smooth_looks_all parts kids = size_all kids * (1 + depth_all kids + 3 * parts)

-- which variable of a tree is loose: at each node one look, and three for each part
abbrev pub loose_looks : ℕ → Tree → ℕ
loose_looks parts t = size t * (1 + 3 * parts)

-- the conditions on an instance of DI with these kids of its system and this formula
abbrev pub di_looks : Forest → Tree → ℕ
di_looks kids p = size_all kids + smooth_looks (length (domain_parts kids)) p + loose_looks (length (domain_parts kids)) p

-- those on an instance of DG with these kids of its system
abbrev pub dg_looks : Forest → ℕ
dg_looks kids = 3 + size_all kids + smooth_looks_all (length (domain_parts kids)) kids

-- how many parts the domain of a system has
abbrev pub part_count : Option Tree → ℕ
part_count None = 0
part_count (Some (node op kids)) = length (domain_parts kids)

-- Whether a formula is a good instance of an axiom: at each node two looks, one for each level of the formula, and six for each part of the
-- domain of its system.
abbrev pub instance_looks : Tree → ℕ
instance_looks t = size t * (2 + depth t + 6 * part_count (subtree t (1 ∷ 0 ∷ 0 ∷ [])))

abbrev pub formula_looks : Option Tree → ℕ
formula_looks None = 0
formula_looks (Some t) = instance_looks t

-- whether the formula that stands alone on the right is one
abbrev pub shown_looks : Sequent → ℕ
shown_looks s = formula_looks (shown s.ante s.succ)

-- what is made of a raw row, by the steps that make something of a row
abbrev pub made_looks : Step → Sequent → ℕ
made_looks (Substitute fact pairs) s = shown_looks s
made_looks (Rename fact x y) s = shown_looks s
made_looks _ s = 0

-- whether `_` stands below a ( )' of a formula: at each node of the replacements one look
abbrev pub pairs_looks : List Pair → ℕ
pairs_looks pairs = sum_by (λ (p : Pair). size p.by) pairs

abbrev pub misuse_looks : Step → ℕ
misuse_looks (Substitute fact pairs) = pairs_looks pairs
misuse_looks _ = 0

-- a line: none but a substitution and a renaming is looked into
abbrev pub line_looks : Line → ℕ
line_looks l = made_looks l.step l.conclusion + misuse_looks l.step
