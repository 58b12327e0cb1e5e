-- When a bound variable gets no other name.
use Rattle.std.specs.Prelude.{ℕ, List, IsTrue}
use Rattle.dlk_tree.specs.Trees.{Tree}
use Rattle.dlk_calculus.specs.Rename.{may_rename, RenamesBound}
use Rattle.dlk_rename.specs.declared.fault.RenameFault.{RenameFault}
use Rattle.dlk_rename.specs.declared.fault.RenameFault.TheVariants.{WrongShape, NotFresh, Memory}

-- the cause of this fault, for y as the other name: want of memory is free
abbrev pub IsRenameFault : List ℕ → Tree → RenameFault → Type 0
IsRenameFault y t WrongShape = (x : List ℕ) (f u : Tree) → ¬ RenamesBound x y f t u
IsRenameFault y t NotFresh = (x : List ℕ) × (f u : Tree) × RenamesBound x y f t u × (¬ IsTrue (may_rename x y f))
IsRenameFault y t Memory = Unit {0}
