-- What a row that is read stands for.
use Rattle.std.proofs.Common.{◌≡◌, ℕ, ◌-◌, List, map, get_or, subst, Some}
use Rattle.std.specs.List.{All}
use Rattle.std.proofs.lemmas.List.{length-map}
use Rattle.std.proofs.Math.ListN.{get_or-map}
use Rattle.dlk_tree.specs.Trees.{Tree}
use Rattle.dlk_calculus.specs.Places.{at, At, IsPlace}
use Rattle.dlk_calculus.specs.Provables.{HasFormulas}
use Rattle.dlk_calculus.specs.Steps.{Derives}
use Rattle.dlk_calculus.proofs.PlaceLaws.{At-map, At_All, At_read}
use Rattle.dlk_calculus.proofs.Formulas.{Derives-formulas}
use Rattle.dlk_kernel.specs.declared.row.Row.{Row}
use Rattle.dlk_kernel.specs.Kernel.{provable_at, provables_at, IsKnownRow, AreSoundRows}
use Rattle.dlk_kernel.proofs.Growth.{all_derived}

module _ (trees : List Tree) (rows : List Row) (sound : AreSoundRows trees rows) (fact : ℕ) (row : Row) (there : IsPlace rows fact)
    (read : row ≡ get_or rows (fact - 1) row) where
  at_row : At rows fact row
  at_row = At_read rows fact row there read

  pub read_fact : at (provables_at trees rows) fact ≡ Some (provable_at trees row)
  read_fact = At-map (provable_at trees) rows fact row at_row

  pub read_known : IsKnownRow trees row
  read_known = At_All (IsKnownRow trees) rows fact row sound.known at_row

  pub read_derived : Derives (provable_at trees row)
  read_derived = At_All Derives (provables_at trees rows) fact (provable_at trees row) (all_derived trees rows sound) read_fact

  pub read_formulas : HasFormulas (provable_at trees row)
  read_formulas = Derives-formulas (provable_at trees row) read_derived

-- what holds of all that items stand for holds of what each stands for
pub All-unmap : {X Y : Type 0} (P : Y → Type 0) (f : X → Y) (xs : List X) → All P (map f xs) → All (λ x. P (f x)) xs
All-unmap P f xs h = λ k d lt. subst P (get_or-map f xs k d) (h k (f d) (rw length-map lt))
