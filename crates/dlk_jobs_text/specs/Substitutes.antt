-- What `subst` answers to an expression and a substitution.
use Rattle.std.specs.Prelude.{◌<◌, ◌≤◌, ℕ, List, ◌++◌, codes, decimal}
use Rattle.dlk_tree.specs.Trees.{Tree, size, depth}
use Rattle.dlk_calculus.specs.Pairs.{Pair, FirstIll, IsWellFormed, why_text}
use Rattle.dlk_calculus.specs.Subst.{Subst}
use Rattle.dlk_calculus.specs.declared.why.Why.{Why}
use Rattle.dlk_grammar.specs.declared.token.Dots.TheVariants.{Refused}
use Rattle.dlk_grammar.specs.declared.token.Form.TheVariants.{Expression}
use Rattle.dlk_calculus.specs.Limits.{most_nodes, greatest_depth}
use Rattle.dlk_grammar.specs.Texts.{TreeText, TreeTextFault, PairsText, PairsTextFault, TextFault}
use Rattle.dlk_replies.specs.declared.form.Role.TheVariants.{File, Substitution}
use Rattle.dlk_replies.specs.Replies.{Reply, refusal}
use Rattle.dlk_replies.specs.Refusals.{text_refused}
use Rattle.dlk_jobs_text.specs.Prints.{printed}

-- refused: subst pair N: WHY
abbrev pub pair_refused : ℕ → Why → Reply
pair_refused n why = refusal (codes "subst pair " ++ (decimal n ++ (codes ": " ++ why_text why)))

-- the file is a text of this formula, program or term, without argument dots and `_`
abbrev pub PlainText : List ℕ → Tree → Type 0
PlainText file e = TreeText Expression Refused file e

-- the two files are texts of this expression and these pairs
pub record AreRead (file subst : List ℕ) (e : Tree) (pairs : List Pair) : Type 0 where
  pub expression : PlainText file e
  pub substitution : PairsText subst pairs

-- the pairs are well formed, and make t of e
pub record HasResult (pairs : List Pair) (e t : Tree) : Type 0 where
  pub well_formed : IsWellFormed pairs
  pub result : Subst pairs e t

-- Substitutes file subst reply: this is what is answered to the two texts. One case an answer, the first that applies.
pub data Substitutes (file subst : List ℕ) : Reply → Type 0 where
  bad_file : (why : TextFault) → TreeTextFault Expression Refused file why → Substitutes file subst (text_refused File why)
  bad_subst : (e : Tree) → PlainText file e → (why : TextFault) → PairsTextFault subst why → Substitutes file subst (text_refused Substitution why)
  bad_pair : (e : Tree) (pairs : List Pair) → AreRead file subst e pairs → (n : ℕ) (why : Why) → FirstIll pairs n why →
      Substitutes file subst (pair_refused n why)
  not_admissible : (e : Tree) (pairs : List Pair) → AreRead file subst e pairs → IsWellFormed pairs → ((t : Tree) → ¬ Subst pairs e t) →
      Substitutes file subst (refusal (codes "not-admissible"))
  too_big : (e : Tree) (pairs : List Pair) → AreRead file subst e pairs → (t : Tree) → HasResult pairs e t → most_nodes < size t →
      Substitutes file subst (refusal (codes "result-too-big"))
  too_deep : (e : Tree) (pairs : List Pair) → AreRead file subst e pairs → (t : Tree) → HasResult pairs e t → size t ≤ most_nodes → greatest_depth < depth t →
      Substitutes file subst (refusal (codes "result-too-deep"))
  prints : (e : Tree) (pairs : List Pair) → AreRead file subst e pairs → (t : Tree) → HasResult pairs e t → size t ≤ most_nodes → depth t ≤ greatest_depth →
      Substitutes file subst (printed t)
