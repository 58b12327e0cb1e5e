-- What `derive` alone makes of a model.
use Rattle.std.specs.Prelude.{◌≡◌, ℕ, List, [], ◌∷◌, Result, IfOk, IfErr, codes}
use Rattle.dlk_tree.specs.Trees.{Tree}
use Rattle.dlk_sequent.specs.declared.sequent.Place.TheVariants.{Succ}
use Rattle.dlk_calculus.specs.Paths.{put_at}
use Rattle.dlk_calculus.specs.Places.{At}
use Rattle.dlk_calculus.specs.Provables.{Provable}
use Rattle.dlk_calculus.specs.Sequents.{Sequent, alone_right}
use Rattle.dlk_tacsyn.specs.Tactics.{AtPlace, Tactic, One}
use Rattle.dlk_derive.specs.Rewriting.{conditions}
use Rattle.dlk_reach.specs.Derived.{Derivable, Gathers}
use Rattle.dlk_strategy.specs.declared.fault.RunFault.{RunFault}
use Rattle.dlk_strategy.specs.declared.fault.RunFault.TheVariants.{Memory}
use Rattle.dlk_strategy.specs.declared.strategy.Done.{Done}

-- `derive` at this byte alone, at place 1 on the right with this path
abbrev pub derive_at : ℕ → List ℕ → Tactic
derive_at byte path = One (record { name = codes "derive"; arguments = AtPlace (Succ 1) path ∷ []; at = byte })

-- IsDifferentiated rows fact model path k d: the row of this number has the model as its conclusion, and the model with d at the path as its only
-- goal. Its leaves are `==> k!=0` for the exponents of k, each once, in the order in which they are met.
pub record IsDifferentiated (rows : List Provable) (fact : ℕ) (model : Tree) (path : List ℕ) (k d : Tree) : Type 0 where
  pub leaves : List Sequent
  pub gathers : Gathers [] (conditions k) leaves
  pub stands : At rows fact (record { conclusion = alone_right model; goals = alone_right (put_at model path d) ∷ []; leaves = leaves })

-- Differentiates tactic model rows result: `derive(P)` alone on a model of at most 150 nodes, with a `( )'` at P on the right whose kid has a
-- derivative, and for a term only arithmetic and one comparison between it and the smallest formula round it: it is done, or wants memory. The
-- last row has one goal, the model with the derivative at the place, and its leaves are `==> k!=0` for the exponents, each once, in the order in
-- which they are met.
abbrev pub Differentiates : Tactic → Tree → List Provable → Result Done RunFault → Type 0
Differentiates tactic model rows result = (byte : ℕ) (path : List ℕ) (k d : Tree) → tactic ≡ derive_at byte path → Derivable model path k d →
    IfOk result (λ done. IsDifferentiated rows done.fact model path k d) × IfErr result (λ e. e ≡ Memory)
