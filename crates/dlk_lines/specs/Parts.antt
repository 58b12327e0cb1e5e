-- The parts of a line, from the front on.
use Rattle.std.specs.Prelude.{◌≡◌, ℕ, ◌==◌, IsTrue, false, not, List, ◌∷◌, ◌++◌, slice_index, codes}
use Rattle.std.specs.List.{list_all}
use Rattle.dlk_tree.specs.Names.{is_name}
use Rattle.dlk_grammar.specs.Tokens.{is_digit}
use Rattle.dlk_calculus.specs.Pairs.{Pair}
use Rattle.dlk_calculus.specs.Rules.{Rule}
use Rattle.dlk_calculus.specs.Steps.{Step, Start, UseAxiom, UseRule, Leaf, Apply, Merge, Substitute, Rename}
use Rattle.dlk_lines.specs.Numbers.{IsNumber}
use Rattle.dlk_lines.specs.Spelled.{Spelling, IsSequentText, ArePairsText}
use Rattle.dlk_lines.specs.Lines.{IsRule}

-- no byte of the text is this one
abbrev pub Lacks : List ℕ → ℕ → Type 0
Lacks text byte = IsTrue (list_all (λ b. not (b == byte)) text)

-- the text up to the first byte of this kind, and what comes behind that byte
pub record CutAt (text : List ℕ) (byte : ℕ) (front rest : List ℕ) : Type 0 where
  pub text_is : text ≡ front ++ byte ∷ rest
  pub first : Lacks front byte

-- a number, the byte that ends it, and what comes behind that byte
pub record NumberThen (text : List ℕ) (stop n : ℕ) (rest : List ℕ) : Type 0 where
  pub digits : List ℕ
  pub is_number : IsNumber digits n
  pub text_is : text ≡ digits ++ stop ∷ rest

-- a number as far as the digits go, and what comes behind the last of them
pub record NumberInFront (text : List ℕ) (n : ℕ) (rest : List ℕ) : Type 0 where
  pub digits : List ℕ
  pub is_number : IsNumber digits n
  pub text_is : text ≡ digits ++ rest
  pub ends : is_digit (slice_index rest 0) ≡ false

-- a text without an opening bracket, and a text in brackets behind it
pub record Bracketed (text word arguments : List ℕ) : Type 0 where
  pub text_is : text ≡ word ++ codes "(" ++ arguments ++ codes ")"
  pub first : Lacks word 40

-- a fact and a goal, each with a space behind it, and what comes then
pub record FactGoal (text : List ℕ) (fact goal : ℕ) (rest : List ℕ) : Type 0 where
  pub behind_fact : List ℕ
  pub fact_is : NumberThen text 32 fact behind_fact
  pub goal_is : NumberThen behind_fact 32 goal rest

-- a fact, a goal and a rule with spaces between
pub record FactGoalRule (spelling : Spelling) (text : List ℕ) (fact goal : ℕ) (rule : Rule) : Type 0 where
  pub behind_goal : List ℕ
  pub numbers : FactGoal text fact goal behind_goal
  pub rule_is : IsRule spelling behind_goal rule

-- a fact, a goal and a fact with spaces between
pub record FactGoalFact (text : List ℕ) (fact goal by : ℕ) : Type 0 where
  pub behind_goal : List ℕ
  pub numbers : FactGoal text fact goal behind_goal
  pub by_is : IsNumber behind_goal by

-- a fact, a space and the pairs of a substitution
pub record FactPairs (spelling : Spelling) (text : List ℕ) (fact : ℕ) (pairs : List Pair) : Type 0 where
  pub behind_fact : List ℕ
  pub fact_is : NumberThen text 32 fact behind_fact
  pub pairs_are : ArePairsText spelling behind_fact pairs

-- a fact and two names with spaces between
pub record FactNames (text : List ℕ) (fact : ℕ) (x y : List ℕ) : Type 0 where
  pub behind_fact : List ℕ
  pub fact_is : NumberThen text 32 fact behind_fact
  pub first_name : IsTrue (is_name x)
  pub second_name : IsTrue (is_name y)
  pub names_are : behind_fact ≡ x ++ codes " " ++ y

-- the word of a step
abbrev pub step_word : Step → List ℕ
step_word (Start s) = codes "start"
step_word (UseAxiom name) = codes "axiom"
step_word (UseRule name) = codes "rule"
step_word (Leaf s) = codes "leaf"
step_word (Apply fact goal rule) = codes "apply"
step_word (Merge fact goal by) = codes "merge"
step_word (Substitute fact pairs) = codes "subst"
step_word (Rename fact x y) = codes "rename"

-- what stands behind the word of a step and a space
abbrev pub Behind : Spelling → List ℕ → Step → Type 0
Behind spelling rest (Start s) = IsSequentText spelling rest s
Behind spelling rest (UseAxiom name) = (name ≡ rest) × IsTrue (is_name rest)
Behind spelling rest (UseRule name) = (name ≡ rest) × IsTrue (is_name rest)
Behind spelling rest (Leaf s) = IsSequentText spelling rest s
Behind spelling rest (Apply fact goal rule) = FactGoalRule spelling rest fact goal rule
Behind spelling rest (Merge fact goal by) = FactGoalFact rest fact goal by
Behind spelling rest (Substitute fact pairs) = FactPairs spelling rest fact pairs
Behind spelling rest (Rename fact x y) = FactNames rest fact x y

-- the word of a step, and what stands behind it
pub record WordAndRest (spelling : Spelling) (word rest : List ℕ) (step : Step) : Type 0 where
  pub word_is : word ≡ step_word step
  pub behind : Behind spelling rest step
