-- Ids that are those of the store, in lists.
use Rattle.std.proofs.Common.{◌≡◌, List, [], ◌∷◌, ◌++◌, Option, Some, None, IfNone, sym, ap, subst, ◌∙◌}
use Rattle.std.specs.List.{All, AllByRecursion as ByRecursion}
use Rattle.std.proofs.lemmas.List.Elements.{All-from_recursion}

-- it holds of each of these items
pub all_of : {X : Type 0} (P : X → Type 0) (xs items : List X) → items ≡ xs → ByRecursion P xs → All P items
all_of P xs items e h = subst (All P) (sym e) (All-from_recursion P xs h)

-- and of its absence
pub if_none : {A : Type 0} (P Q : Type 0) → (P → Q) → (o : Option A) → IfNone o P → IfNone o Q
if_none P Q law None h = law h
if_none P Q law (Some a) h = tt

-- a list with one more item, where the list before it is known
pub one_more : {X : Type 0} {before all known : List X} (x : X) → all ≡ before ++ x ∷ [] → before ≡ known → all ≡ known ++ x ∷ []
one_more x more is = more ∙ ap (λ xs. xs ++ x ∷ []) is
