-- Whether a text is a step line is decided, where it is decided of the texts of trees.
use Rattle.std.proofs.Common.{◌≡◌, ◌≢◌, ℕ, List, [], refl, sym, ◌∙◌, ◌⊎◌, inl, inr, arith}
use Rattle.std.specs.Prelude.{codes, IsTrue}
use Rattle.dlk_tree.specs.Names.{is_name}
use Rattle.dlk_calculus.specs.Pairs.{Pair}
use Rattle.dlk_calculus.specs.Sequents.{Sequent}
use Rattle.dlk_calculus.specs.Rules.{Rule, CloseTrue}
use Rattle.dlk_calculus.specs.Steps.{Step, Start, UseAxiom, UseRule, Leaf, Apply, Merge, Substitute, Rename}
use Rattle.dlk_calculus.proofs.Decide.{is_true}
use Rattle.dlk_lines.specs.Spelled.{Spelling, IsSequentText}
use Rattle.dlk_lines.specs.Laws.{SaysOrNot}
use Rattle.dlk_lines.specs.Lines.{IsStep, IsStepLine}
use Rattle.dlk_lines.specs.Parts.{CutAt, NumberThen, FactGoal, FactGoalRule, FactGoalFact, FactPairs, FactNames, step_word, Behind}
use Rattle.dlk_lines.proofs.StepForms.{kind, same_kind, step_parts, step_worded, worded_step, names_cut, names_are, no_rule_behind, no_fact_behind}
use Rattle.dlk_lines.proofs.StepForms.{no_pairs_behind, no_first_name, no_second_name}
use Rattle.dlk_lines.proofs.LineForms.{numbered_line, no_number, no_step}
use Rattle.dlk_lines.proofs.SomeParts.{same_bytes, cut_decided, number_decided, number_then_decided}
use Rattle.dlk_lines.proofs.SomeRule.{rule_decided}
use Rattle.dlk_lines.proofs.Numbers.{one_number_then}

-- one, or none
decided : {A : Type 0} {P : A → Type 0} → ((x : A) × P x) ⊎ ((x : A) → ¬ P x) → Dec ((x : A) × P x)
decided (inl some) = yes some
decided (inr none) = no (λ h. none h.0 h.1)

-- steps of one kind have one word
same_word : (s t : Step) → kind s ≡ kind t → step_word s ≡ step_word t
same_word (Start s) (Start t) e = refl
same_word (UseAxiom x) (UseAxiom y) e = refl
same_word (UseRule x) (UseRule y) e = refl
same_word (Leaf s) (Leaf t) e = refl
same_word (Apply fact goal r) (Apply fact' goal' r') e = refl
same_word (Merge fact goal by) (Merge fact' goal' by') e = refl
same_word (Substitute fact pairs) (Substitute fact' pairs') e = refl
same_word (Rename fact x y) (Rename fact' x' y') e = refl
same_word _ _ e = absurd (omega (arith, e))

nothing : Sequent
nothing = record { ante = []; succ = [] }

-- whether a word is that of a step
word_decided : (word : List ℕ) → Dec ((step : Step) × (step_word step ≡ word))
word_decided word = elim (same_bytes (codes "start") word) [
  | yes e ↦ yes (Start nothing, e)
  | no not_start ↦ elim (same_bytes (codes "axiom") word) [
    | yes e ↦ yes (UseAxiom [], e)
    | no not_axiom ↦ elim (same_bytes (codes "rule") word) [
      | yes e ↦ yes (UseRule [], e)
      | no not_rule ↦ elim (same_bytes (codes "leaf") word) [
        | yes e ↦ yes (Leaf nothing, e)
        | no not_leaf ↦ elim (same_bytes (codes "apply") word) [
          | yes e ↦ yes (Apply 1 1 (CloseTrue 1), e)
          | no not_apply ↦ elim (same_bytes (codes "merge") word) [
            | yes e ↦ yes (Merge 1 1 1, e)
            | no not_merge ↦ elim (same_bytes (codes "subst") word) [
              | yes e ↦ yes (Substitute 1 [], e)
              | no not_subst ↦ elim (same_bytes (codes "rename") word) [
                | yes e ↦ yes (Rename 1 [] [], e)
                | no not_rename ↦ no (λ h. none_of not_start not_axiom not_rule not_leaf not_apply not_merge not_subst not_rename h.0 h.1)
              ]
            ]
          ]
        ]
      ]
    ]
  ]
]
  where
    none_of : codes "start" ≢ word → codes "axiom" ≢ word → codes "rule" ≢ word → codes "leaf" ≢ word →
        codes "apply" ≢ word → codes "merge" ≢ word → codes "subst" ≢ word → codes "rename" ≢ word → (step : Step) → step_word step ≢ word
    none_of not_start not_axiom not_rule not_leaf not_apply not_merge not_subst not_rename (Start s) = not_start
    none_of not_start not_axiom not_rule not_leaf not_apply not_merge not_subst not_rename (UseAxiom name) = not_axiom
    none_of not_start not_axiom not_rule not_leaf not_apply not_merge not_subst not_rename (UseRule name) = not_rule
    none_of not_start not_axiom not_rule not_leaf not_apply not_merge not_subst not_rename (Leaf s) = not_leaf
    none_of not_start not_axiom not_rule not_leaf not_apply not_merge not_subst not_rename (Apply fact goal r) = not_apply
    none_of not_start not_axiom not_rule not_leaf not_apply not_merge not_subst not_rename (Merge fact goal by) = not_merge
    none_of not_start not_axiom not_rule not_leaf not_apply not_merge not_subst not_rename (Substitute fact pairs) = not_subst
    none_of not_start not_axiom not_rule not_leaf not_apply not_merge not_subst not_rename (Rename fact x y) = not_rename

-- a fact and a goal, and what comes behind them
fact_goal_decided : (text : List ℕ) → Dec ((fact : ℕ) × (goal : ℕ) × (rest : List ℕ) × FactGoal text fact goal rest)
fact_goal_decided text = elim (number_then_decided text 32 refl) [
  | no n ↦ no (λ h. n (h.0, h.3.behind_fact, h.3.fact_is))
  | yes fact ↦ elim (number_then_decided fact.1 32 refl) [
    | yes goal ↦ yes (fact.0, goal.0, goal.1, record { behind_fact = fact.1; fact_is = fact.2; goal_is = goal.2 })
    | no n ↦ no (λ h. n (h.1, h.2, behind_same h.0 h.1 h.2 fact.0 fact.1 h.3 fact.2))
  ]
]
  where
    behind_same : (f g : ℕ) (rest : List ℕ) (fact : ℕ) (behind : List ℕ) (h : FactGoal text f g rest) → NumberThen text 32 fact behind →
        NumberThen behind 32 g rest
    behind_same f g rest fact behind h is = rw (one_number_then text 32 fact f behind h.behind_fact refl is h.fact_is).1 h.goal_is

-- no step of this kind stands behind its word
abbrev NoneBehind : (w : Spelling) → List ℕ → ℕ → Type 0
NoneBehind w rest k = (t : Step) → k ≡ kind t → ¬ Behind w rest t

no_start : (w : Spelling) (rest : List ℕ) → ((s : Sequent) → ¬ IsSequentText w rest s) → NoneBehind w rest 0
no_start w rest none (Start s) e is = none s is
no_start w rest none _ e is = absurd (omega (arith, e))

no_axiom : (w : Spelling) (rest : List ℕ) → (¬ IsTrue (is_name rest)) → NoneBehind w rest 1
no_axiom w rest none (UseAxiom name) e is = none is.1
no_axiom w rest none _ e is = absurd (omega (arith, e))

no_rule : (w : Spelling) (rest : List ℕ) → (¬ IsTrue (is_name rest)) → NoneBehind w rest 2
no_rule w rest none (UseRule name) e is = none is.1
no_rule w rest none _ e is = absurd (omega (arith, e))

no_leaf : (w : Spelling) (rest : List ℕ) → ((s : Sequent) → ¬ IsSequentText w rest s) → NoneBehind w rest 3
no_leaf w rest none (Leaf s) e is = none s is
no_leaf w rest none _ e is = absurd (omega (arith, e))

no_apply : (w : Spelling) (rest : List ℕ) → ((fact goal : ℕ) (rule : Rule) → ¬ FactGoalRule w rest fact goal rule) → NoneBehind w rest 4
no_apply w rest none (Apply fact goal rule) e is = none fact goal rule is
no_apply w rest none _ e is = absurd (omega (arith, e))

no_merge : (w : Spelling) (rest : List ℕ) → ((fact goal by : ℕ) → ¬ FactGoalFact rest fact goal by) → NoneBehind w rest 5
no_merge w rest none (Merge fact goal by) e is = none fact goal by is
no_merge w rest none _ e is = absurd (omega (arith, e))

no_substitute : (w : Spelling) (rest : List ℕ) → ((fact : ℕ) (pairs : List Pair) → ¬ FactPairs w rest fact pairs) → NoneBehind w rest 6
no_substitute w rest none (Substitute fact pairs) e is = none fact pairs is
no_substitute w rest none _ e is = absurd (omega (arith, e))

no_rename : (w : Spelling) (rest : List ℕ) → ((fact : ℕ) (x y : List ℕ) → ¬ FactNames rest fact x y) → NoneBehind w rest 7
no_rename w rest none (Rename fact x y) e is = none fact x y is
no_rename w rest none _ e is = absurd (omega (arith, e))

names_decided : (text : List ℕ) → Dec ((fact : ℕ) × (x : List ℕ) × (y : List ℕ) × FactNames text fact x y)
names_decided text = elim (number_then_decided text 32 refl) [
  | no n ↦ no (λ h. n (h.0, h.3.behind_fact, h.3.fact_is))
  | yes fact ↦ elim (cut_decided fact.1 32) [
    | no n ↦ no (λ h. n (h.1, h.2, cut_same h.0 h.1 h.2 fact.0 fact.1 h.3 fact.2))
    | yes cut ↦ elim (is_true (is_name cut.0)) [
      | no n ↦ no (λ h. no_first_name text fact.1 fact.0 cut.0 cut.1 fact.2 cut.2 n h.0 h.1 h.2 h.3)
      | yes first ↦ elim (is_true (is_name cut.1)) [
        | no n ↦ no (λ h. no_second_name text fact.1 fact.0 cut.0 cut.1 fact.2 cut.2 n h.0 h.1 h.2 h.3)
        | yes second ↦ yes (fact.0, cut.0, cut.1, names_are text fact.1 fact.0 cut.0 cut.1 fact.2 cut.2 first second)
      ]
    ]
  ]
]
  where
    cut_same : (f : ℕ) (x y : List ℕ) (fact : ℕ) (behind : List ℕ) (h : FactNames text f x y) → NumberThen text 32 fact behind → CutAt behind 32 x y
    cut_same f x y fact behind h is = rw (one_number_then text 32 fact f behind h.behind_fact refl is h.fact_is).1 (names_cut text f x y h)

apply_decided : (w : Spelling) → SaysOrNot w → (text : List ℕ) → Dec ((fact : ℕ) × (goal : ℕ) × (rule : Rule) × FactGoalRule w text fact goal rule)
apply_decided w known text = elim (fact_goal_decided text) [
  | no n ↦ no (λ h. n (h.0, h.1, h.3.behind_goal, h.3.numbers))
  | yes a ↦ elim (rule_decided w (λ bytes. decided (known.some_formula bytes)) a.2) [
    | yes r ↦ yes (a.0, a.1, r.0, record { behind_goal = a.2; numbers = a.3; rule_is = r.1 })
    | no n ↦ no (λ h. no_rule_behind w text a.2 a.0 a.1 a.3 (λ made is. n (made, is)) h.0 h.1 h.2 h.3)
  ]
]

merge_decided : (text : List ℕ) → Dec ((fact : ℕ) × (goal : ℕ) × (by : ℕ) × FactGoalFact text fact goal by)
merge_decided text = elim (fact_goal_decided text) [
  | no n ↦ no (λ h. n (h.0, h.1, h.3.behind_goal, h.3.numbers))
  | yes a ↦ elim (number_decided a.2) [
    | yes by ↦ yes (a.0, a.1, by.0, record { behind_goal = a.2; numbers = a.3; by_is = by.1 })
    | no n ↦ no (λ h. no_fact_behind text a.2 a.0 a.1 a.3 (λ by is. n (by, is)) h.0 h.1 h.2 h.3)
  ]
]

pairs_decided : (w : Spelling) → SaysOrNot w → (text : List ℕ) → Dec ((fact : ℕ) × (pairs : List Pair) × FactPairs w text fact pairs)
pairs_decided w known text = elim (number_then_decided text 32 refl) [
  | no n ↦ no (λ h. n (h.0, h.2.behind_fact, h.2.fact_is))
  | yes fact ↦ elim (decided (known.some_list fact.1)) [
    | yes pairs ↦ yes (fact.0, pairs.0, record { behind_fact = fact.1; fact_is = fact.2; pairs_are = pairs.1 })
    | no n ↦ no (λ h. no_pairs_behind w text fact.1 fact.0 fact.2 (λ pairs is. n (pairs, is)) h.0 h.1 h.2)
  ]
]

-- what stands behind the word of a step is a step of its kind or none
behind_decided : (w : Spelling) → SaysOrNot w → (rest : List ℕ) (s : Step) → Dec ((t : Step) × (kind s ≡ kind t) × Behind w rest t)
behind_decided w known rest (Start s) = elim (decided (known.some_sequent rest)) [
  | yes h ↦ yes (Start h.0, refl, h.1)
  | no n ↦ no (λ h. no_start w rest (λ z is. n (z, is)) h.0 h.1 h.2)
]
behind_decided w known rest (UseAxiom name) = elim (is_true (is_name rest)) [
  | yes is ↦ yes (UseAxiom rest, refl, (refl, is))
  | no n ↦ no (λ h. no_axiom w rest n h.0 h.1 h.2)
]
behind_decided w known rest (UseRule name) = elim (is_true (is_name rest)) [
  | yes is ↦ yes (UseRule rest, refl, (refl, is))
  | no n ↦ no (λ h. no_rule w rest n h.0 h.1 h.2)
]
behind_decided w known rest (Leaf s) = elim (decided (known.some_sequent rest)) [
  | yes h ↦ yes (Leaf h.0, refl, h.1)
  | no n ↦ no (λ h. no_leaf w rest (λ z is. n (z, is)) h.0 h.1 h.2)
]
behind_decided w known rest (Apply fact goal r) = elim (apply_decided w known rest) [
  | yes h ↦ yes (Apply h.0 h.1 h.2, refl, h.3)
  | no n ↦ no (λ h. no_apply w rest (λ f g made is. n (f, g, made, is)) h.0 h.1 h.2)
]
behind_decided w known rest (Merge fact goal by) = elim (merge_decided rest) [
  | yes h ↦ yes (Merge h.0 h.1 h.2, refl, h.3)
  | no n ↦ no (λ h. no_merge w rest (λ f g b is. n (f, g, b, is)) h.0 h.1 h.2)
]
behind_decided w known rest (Substitute fact pairs) = elim (pairs_decided w known rest) [
  | yes h ↦ yes (Substitute h.0 h.1, refl, h.2)
  | no n ↦ no (λ h. no_substitute w rest (λ f ps is. n (f, ps, is)) h.0 h.1 h.2)
]
behind_decided w known rest (Rename fact x y) = elim (names_decided rest) [
  | yes h ↦ yes (Rename h.0 h.1 h.2, refl, h.3)
  | no n ↦ no (λ h. no_rename w rest (λ f v w is. n (f, v, w, is)) h.0 h.1 h.2)
]

step_decided : (w : Spelling) → SaysOrNot w → (text : List ℕ) → Dec ((step : Step) × IsStep w text step)
step_decided w known text = elim (cut_decided text 32) [
  | no n ↦ no (λ h. let parts = step_parts w text h.0 h.1 in n (step_word h.0, parts.rest, parts.cut))
  | yes cut ↦ elim (word_decided cut.0) [
    | no n ↦ no (λ h. n (h.0, sym (step_worded w text cut.0 cut.1 h.0 cut.2 h.1).word_is))
    | yes word ↦ elim (behind_decided w known cut.1 word.0) [
      | yes b ↦ yes (b.0, worded_step w text cut.0 cut.1 b.0 cut.2 (record { word_is = sym word.1 ∙ same_word word.0 b.0 b.1; behind = b.2 }))
      | no n ↦ no (λ h.
          let p = step_worded w text cut.0 cut.1 h.0 cut.2 h.1 in
          n (h.0, same_kind word.0 h.0 (word.1 ∙ p.word_is), p.behind))
    ]
  ]
]

pub some_step_line : (w : Spelling) → SaysOrNot w → (text : List ℕ) →
    ((n : ℕ) × (s : Step) × IsStepLine w text n s) ⊎ ((n : ℕ) (s : Step) → ¬ IsStepLine w text n s)
some_step_line w known text = elim (number_then_decided text 32 refl) [
  | no n ↦ inr (no_number w text (λ k rest is. n (k, rest, is)))
  | yes number ↦ elim (step_decided w known number.1) [
    | yes s ↦ inl (number.0, s.0, numbered_line w text number.0 s.0 (record { rest = number.1; number_is = number.2; step_is = s.1 }))
    | no n ↦ inr (no_step w text number.1 number.0 number.2 (λ step is. n (step, is)))
  ]
]
