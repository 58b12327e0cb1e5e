-- What is found of the texts of a job and of what a substitution makes, one after the other, and how each is refused.
use Rattle.std.specs.Prelude.{◌≡◌, ◌<◌, ◌≤◌, ◌⊎◌, ℕ, List, codes}
use Rattle.dlk_tree.specs.Trees.{Tree, size, depth}
use Rattle.dlk_calculus.specs.Limits.{most_nodes, greatest_depth}
use Rattle.dlk_calculus.specs.Pairs.{Pair, FirstIll}
use Rattle.dlk_calculus.specs.Subst.{Subst}
use Rattle.dlk_calculus.specs.declared.why.Why.{Why}
use Rattle.dlk_grammar.specs.declared.token.Dots.{Dots}
use Rattle.dlk_grammar.specs.declared.token.Form.TheVariants.{Expression}
use Rattle.dlk_grammar.specs.Texts.{TreeTextFault, PairsTextFault, TextFault}
use Rattle.dlk_replies.specs.declared.form.Role.TheVariants.{File, Substitution}
use Rattle.dlk_replies.specs.Replies.{Reply, refusal}
use Rattle.dlk_replies.specs.Refusals.{text_refused}
use Rattle.dlk_jobs_text.specs.Substitutes.{pair_refused}

-- the file is no text of an expression
abbrev pub RefusesFile : Dots → List ℕ → Reply → Type 0
RefusesFile dots file reply = (why : TextFault) × TreeTextFault Expression dots file why × (reply ≡ text_refused File why)

-- the file is no text of pairs
abbrev pub RefusesPairs : List ℕ → Reply → Type 0
RefusesPairs subst reply = (why : TextFault) × PairsTextFault subst why × (reply ≡ text_refused Substitution why)

-- the first bad pair
abbrev pub RefusesPair : List Pair → Reply → Type 0
RefusesPair pairs reply = (n : ℕ) × (why : Why) × FirstIll pairs n why × (reply ≡ pair_refused n why)

-- the pairs make nothing of the expression
abbrev pub RefusesUse : List Pair → Tree → Reply → Type 0
RefusesUse pairs e reply = ((t : Tree) → ¬ Subst pairs e t) × (reply ≡ refusal (codes "not-admissible"))

-- the tree is past a limit of what is read
abbrev pub RefusesLarge : Tree → Reply → Type 0
RefusesLarge t reply =
    ((most_nodes < size t) × (reply ≡ refusal (codes "result-too-big"))) ⊎
    ((size t ≤ most_nodes) × (greatest_depth < depth t) × (reply ≡ refusal (codes "result-too-deep")))
