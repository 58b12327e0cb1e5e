-- The facts that steps name, and other numbers for them.
use Rattle.std.specs.Prelude.{ℕ, List, [], ◌∷◌}
use Rattle.dlk_calculus.specs.Steps.{Step, Start, UseAxiom, UseRule, Leaf, Apply, Merge, Substitute, Rename}

-- the numbers of the facts that the step names
abbrev pub facts_of : Step → List ℕ
facts_of (Start s) = []
facts_of (UseAxiom name) = []
facts_of (UseRule name) = []
facts_of (Leaf s) = []
facts_of (Apply fact goal rule) = fact ∷ []
facts_of (Merge fact goal by) = fact ∷ by ∷ []
facts_of (Substitute fact pairs) = fact ∷ []
facts_of (Rename fact x y) = fact ∷ []

-- the step with another number for each fact that it names
abbrev pub renumbered : (ℕ → ℕ) → Step → Step
renumbered to (Start s) = Start s
renumbered to (UseAxiom name) = UseAxiom name
renumbered to (UseRule name) = UseRule name
renumbered to (Leaf s) = Leaf s
renumbered to (Apply fact goal rule) = Apply (to fact) goal rule
renumbered to (Merge fact goal by) = Merge (to fact) goal (to by)
renumbered to (Substitute fact pairs) = Substitute (to fact) pairs
renumbered to (Rename fact x y) = Rename (to fact) x y
