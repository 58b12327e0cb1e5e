-- A step whose facts stand under other numbers.
use Rattle.std.proofs.Common.{refl, ℕ, List, [], ◌∷◌, inl, inr}
use Rattle.dlk_calculus.specs.declared.reason.Reason.{Reason}
use Rattle.dlk_calculus.specs.Places.{At}
use Rattle.dlk_calculus.specs.Provables.{Provable}
use Rattle.dlk_calculus.specs.Steps.{Step, Start, UseAxiom, UseRule, Leaf, Apply, Merge, Substitute, Rename, Gives, IsWithin, Exceeds}
use Rattle.dlk_calculus.specs.Steps.{start, use_axiom, use_rule, leaf, apply, merge, substitute, rename}
use Rattle.dlk_calculus.specs.Steps.{too_big, too_deep, start_full, leaf_full, side_full, goals_applied, goals_merged, leaves_merged}
use Rattle.dlk_rules.specs.Facts.{renumbered}
use Rattle.dlk_link.specs.Trimmed.{Names}
use Rattle.dlk_link.proofs.Names.{contains_from_in}

pub gives_moved : (rows others : List Provable) (to : ℕ → ℕ) (step : Step) (p : Provable) →
    ((fact : ℕ) (q : Provable) → Names step fact → At rows fact q → At others (to fact) q) → Gives rows step p → Gives others (renumbered to step) p
gives_moved rows others to step p there (start s is) = start s is
gives_moved rows others to step p there (use_axiom name a is) = use_axiom name a is
gives_moved rows others to step p there (use_rule name r is) = use_rule name r is
gives_moved rows others to step p there (leaf s is arithmetic) = leaf s is arithmetic
gives_moved rows others to step p there (apply fact goal rule q s premises row here proper makes) =
    apply (to fact) goal rule q s premises (there fact q (contains_from_in (fact ∷ []) fact (inl refl)) row) here proper makes
gives_moved rows others to step p there (merge fact goal by q r new row other here are) =
    merge (to fact) goal (to by) q r new (there fact q (contains_from_in (fact ∷ by ∷ []) fact (inl refl)) row)
    (there by r (contains_from_in (fact ∷ by ∷ []) by (inr (inl refl))) other) here are
gives_moved rows others to step p there (substitute fact pairs q r row made formed free makes) =
    substitute (to fact) pairs q r (there fact q (contains_from_in (fact ∷ []) fact (inl refl)) row) made formed free makes
gives_moved rows others to step p there (rename fact x y q row a b) = rename (to fact) x y q (there fact q (contains_from_in (fact ∷ []) fact (inl refl)) row)
    a b

exceeds_back : (to : ℕ → ℕ) (step : Step) (p : Provable) (why : Reason) → Exceeds why (renumbered to step) p → Exceeds why step p
exceeds_back to (Start s) p why (too_big h) = too_big h
exceeds_back to (Start s) p why (too_deep h) = too_deep h
exceeds_back to (Start s) p why (start_full h) = start_full h
exceeds_back to (UseAxiom name) p why (too_big h) = too_big h
exceeds_back to (UseAxiom name) p why (too_deep h) = too_deep h
exceeds_back to (UseRule name) p why (too_big h) = too_big h
exceeds_back to (UseRule name) p why (too_deep h) = too_deep h
exceeds_back to (Leaf s) p why (too_big h) = too_big h
exceeds_back to (Leaf s) p why (too_deep h) = too_deep h
exceeds_back to (Leaf s) p why (leaf_full h) = leaf_full h
exceeds_back to (Apply fact goal rule) p why (too_big h) = too_big h
exceeds_back to (Apply fact goal rule) p why (too_deep h) = too_deep h
exceeds_back to (Apply fact goal rule) p why (side_full h) = side_full h
exceeds_back to (Apply fact goal rule) p why (goals_applied h) = goals_applied h
exceeds_back to (Merge fact goal by) p why (too_big h) = too_big h
exceeds_back to (Merge fact goal by) p why (too_deep h) = too_deep h
exceeds_back to (Merge fact goal by) p why (goals_merged h) = goals_merged h
exceeds_back to (Merge fact goal by) p why (leaves_merged h) = leaves_merged h
exceeds_back to (Substitute fact pairs) p why (too_big h) = too_big h
exceeds_back to (Substitute fact pairs) p why (too_deep h) = too_deep h
exceeds_back to (Rename fact x y) p why (too_big h) = too_big h
exceeds_back to (Rename fact x y) p why (too_deep h) = too_deep h

pub within_moved : (to : ℕ → ℕ) (step : Step) (p : Provable) → IsWithin step p → IsWithin (renumbered to step) p
within_moved to step p h why e = h why (exceeds_back to step p why e)
