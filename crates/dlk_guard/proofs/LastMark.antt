-- The mark of the last row.
use Rattle.std.proofs.Common.{◌≡◌, ◌∙◌, sym, ap, List, [], ◌∷◌, ◌++◌, length, Option, length-append}
use Rattle.std.specs.Prelude.{option_and_then}
use Rattle.dlk_calculus.proofs.PlaceLaws.{At-between}
use Rattle.dlk_guard.specs.declared.raw.Raw.{Raw}
use Rattle.dlk_guard.specs.Guarded.{mark_at}

abbrev pub flat : Option (Option Raw) → Option Raw
flat o = option_and_then (λ mark. mark) o

pub last_marked : (all front : List (Option Raw)) (m : Option Raw) → all ≡ front ++ m ∷ [] → m ≡ mark_at all (length all)
last_marked all front m e =
    sym (ap (λ ms. mark_at ms (length ms)) e ∙ ap (mark_at (front ++ m ∷ [])) (length-append front (m ∷ [])) ∙ ap flat (At-between front m []))
