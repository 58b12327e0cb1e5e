-- How many nodes a run of `subst` looks at where it refuses what a substitution makes.
use Rattle.std.specs.Prelude.{◌≡◌, ◌⊎◌, ◌+◌, ◌<◌, ◌≤◌, ℕ, List, [], ◌∷◌, ◌++◌, length, Some, codes}
use Rattle.dlk_tree.specs.Trees.{Tree, size, depth}
use Rattle.dlk_calculus.specs.Limits.{most_nodes, greatest_depth}
use Rattle.dlk_calculus.specs.Pairs.{Pair, IsWellFormed}
use Rattle.dlk_calculus.specs.Subst.{Subst}
use Rattle.dlk_desk.specs.Outside.{Outside, Files}
use Rattle.dlk_replies.specs.declared.form.Role.TheVariants.{File, Substitution}
use Rattle.dlk_replies.specs.Forms.{Word, limit_of}
use Rattle.dlk_replies.specs.Replies.{Reply}
use Rattle.dlk_jobs_text.specs.Substitutes.{AreRead, HasResult}
use Rattle.dlk_jobs_text.specs.Looks.{RefusesResult, subst_looks}
use Rattle.dlk.specs.Answers.{bytes_of, Answers}

-- the words have `subst`, run on files that are texts of this expression and of these pairs
pub record RunsSubst (words : List Word) (files : Files) (e : Tree) (pairs : List Pair) : Type 0 where
  pub expression : Word
  pub substitution : Word
  pub form : words ≡ codes "subst" ∷ expression ∷ substitution ∷ []
  pub file : List ℕ
  pub pairs_file : List ℕ
  pub texts : bytes_of files (expression ∷ substitution ∷ []) ≡ Some (file ∷ pairs_file ∷ [])
  pub are_read : AreRead file pairs_file e pairs

-- the pairs are well formed, and make nothing of the expression, or a tree past a limit
pub data MakesNone (pairs : List Pair) (e : Tree) : Type 0 where
  nothing : IsWellFormed pairs → ((t : Tree) → ¬ Subst pairs e t) → MakesNone pairs e
  big : (t : Tree) → HasResult pairs e t → most_nodes < size t → MakesNone pairs e
  deep : (t : Tree) → HasResult pairs e t → size t ≤ most_nodes → greatest_depth < depth t → MakesNone pairs e

-- so it is of files within their limits
pub record RefusesShort (words : List Word) (files : Files) (e : Tree) (pairs : List Pair) (runs : RunsSubst words files e pairs) : Type 0 where
  pub file : length runs.file ≤ limit_of File
  pub pairs_file : length runs.pairs_file ≤ limit_of Substitution
  pub none : MakesNone pairs e

-- where a refusal of what the pairs make is the answer, at most so many nodes were looked at, from the old count to the new one
abbrev pub LooksAtFewFor : List Word → Files → ℕ → ℕ → Type 0
LooksAtFewFor words files old new =
    (e : Tree) (pairs : List Pair) (reply : Reply) → RunsSubst words files e pairs → RefusesResult reply → Answers words files reply →
    new ≤ old + subst_looks pairs e

-- a refusal of what the pairs make is what was printed, with status 2
abbrev pub PrintsNone : ℕ → Outside → Outside → Type 0
PrintsNone status old new = (status ≡ 2) × (reply : Reply) × RefusesResult reply × (new.printed ≡ old.printed ++ reply.printed)

-- Where well-formed pairs make nothing of the expression, or a tree past a limit, and both files are within theirs, or where such a refusal
-- was printed with status 2, at most so many nodes were looked at, from the count before to that after.
abbrev pub LooksAtFew : List Word → ℕ → Outside → Outside → ℕ → ℕ → Type 0
LooksAtFew words status old new before after =
    (e : Tree) (pairs : List Pair) → (runs : RunsSubst words old.files e pairs) →
    PrintsNone status old new ⊎ RefusesShort words old.files e pairs runs → after ≤ before + subst_looks pairs e
