-- How many nodes `subst` looks at where it refuses what a substitution makes.
use Rattle.std.specs.Prelude.{◌≡◌, ◌⊎◌, ◌+◌, ◌*◌, ◌≤◌, ℕ, List, length, codes}
use Rattle.dlk_tree.specs.Trees.{Tree}
use Rattle.dlk_calculus.specs.Pairs.{Pair}
use Rattle.dlk_memo.specs.Looks.{most_looks}
use Rattle.dlk_replies.specs.Replies.{Reply, refusal}
use Rattle.dlk_jobs_text.specs.Substitutes.{AreRead, Substitutes}

-- the refusals of what it makes: nothing, or a tree past a limit
abbrev pub RefusesResult : Reply → Type 0
RefusesResult reply =
    (reply ≡ refusal (codes "not-admissible")) ⊎ ((reply ≡ refusal (codes "result-too-big")) ⊎ (reply ≡ refusal (codes "result-too-deep")))

-- two looks a pair, and beside them the most looks of the substitution
abbrev pub subst_looks : List Pair → Tree → ℕ
subst_looks pairs e = 2 * length pairs + most_looks pairs e

-- LooksAtFew file subst old new: where such a refusal is the answer to the two texts, at most so many nodes were looked at, from the old
-- count to the new one.
abbrev pub LooksAtFew : List ℕ → List ℕ → ℕ → ℕ → Type 0
LooksAtFew file subst old new =
    (e : Tree) (pairs : List Pair) (reply : Reply) → AreRead file subst e pairs → Substitutes file subst reply → RefusesResult reply →
    new ≤ old + subst_looks pairs e
