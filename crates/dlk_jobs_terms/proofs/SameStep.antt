-- Whether two steps are equal is decided.
use Rattle.std.proofs.Common.{◌≡◌, refl, sym, ap, ◌∙◌, ℕ, zero, suc, List, [], ◌∷◌, inl, inr, arith}
use Rattle.std.proofs.lemmas.Bool.{cases_order}
use Rattle.dlk_tree.specs.declared.op.Op.TheVariants.{Apply as ApplyOp}
use Rattle.dlk_tree.specs.declared.op.Sym.{Sym}
use Rattle.dlk_calculus.specs.Pairs.{Pair}
use Rattle.dlk_calculus.specs.Rules.{Rule, CloseTrue, Arguments, OnePlace, TwoPlaces, PlaceAndFormula, OneFormula, PlaceAndName, word_of, arguments_of}
use Rattle.dlk_calculus.specs.Sequents.{Sequent}
use Rattle.dlk_calculus.specs.Steps.{Step, Start, UseAxiom, UseRule, Leaf, Apply, Merge, Substitute, Rename}
use Rattle.dlk_calculus.proofs.Decide.{both, same_op, same_tree, same_sequent}

pub same_number : (a b : ℕ) → Dec (a ≡ b)
same_number a b = elim (cases_order a b) [ inl e ↦ yes e | inr (inl l) ↦ no (λ e. omega (arith, e, l)) | inr (inr g) ↦ no (λ e. omega (arith, e, g)) ]

-- of lists and pairs it is, if it is of what they hold
same_list : {A : Type 0} → ((x y : A) → Dec (x ≡ y)) → (xs ys : List A) → Dec (xs ≡ ys)
same_list same [] [] = yes refl
same_list same [] (y ∷ ys) = no (λ e. cc)
same_list same (x ∷ xs) [] = no (λ e. cc)
same_list same (x ∷ xs) (y ∷ ys) = both (λ p q i. p i ∷ q i) (λ e. cc) (λ e. cc) (same x y) (same_list same xs ys)

same_both : {A B : Type 0} {a c : A} {b d : B} → Dec (a ≡ c) → Dec (b ≡ d) → Dec (◌≡◌ {A = A × B} (a, b) (c, d))
same_both first second = both (λ p q i. (p i, q i)) (λ e i. (e i).0) (λ e i. (e i).1) first second

same_name : (x y : List ℕ) → Dec (x ≡ y)
same_name x y = same_list same_number x y

same_sym : (s t : Sym) → Dec (s ≡ t)
same_sym s t = elim (same_op (ApplyOp s) (ApplyOp t)) [ yes e ↦ yes (cc) | no n ↦ no (λ e. n (ap ApplyOp e)) ]

same_pair : (p q : Pair) → Dec (p ≡ q)
same_pair p q = both (λ s t i. record { sym = s i; by = t i }) (λ e i. (e i).sym) (λ e i. (e i).by) (same_sym p.sym q.sym) (same_tree p.by q.by)

same_arguments : (a b : Arguments) → Dec (a ≡ b)
same_arguments (OnePlace i) (OnePlace j) = both (λ e _. ap OnePlace e) (λ e. cc) (λ e. cc) (same_number i j) (same_number i j)
same_arguments (OnePlace i) (TwoPlaces j l) = no (λ e. cc)
same_arguments (OnePlace i) (PlaceAndFormula j h) = no (λ e. cc)
same_arguments (OnePlace i) (OneFormula h) = no (λ e. cc)
same_arguments (OnePlace i) (PlaceAndName j y) = no (λ e. cc)
same_arguments (TwoPlaces i k) (OnePlace j) = no (λ e. cc)
same_arguments (TwoPlaces i k) (TwoPlaces j l) = both (λ p q n. TwoPlaces (p n) (q n)) (λ e. cc) (λ e. cc) (same_number i j) (same_number k l)
same_arguments (TwoPlaces i k) (PlaceAndFormula j h) = no (λ e. cc)
same_arguments (TwoPlaces i k) (OneFormula h) = no (λ e. cc)
same_arguments (TwoPlaces i k) (PlaceAndName j y) = no (λ e. cc)
same_arguments (PlaceAndFormula i g) (OnePlace j) = no (λ e. cc)
same_arguments (PlaceAndFormula i g) (TwoPlaces j l) = no (λ e. cc)
same_arguments (PlaceAndFormula i g) (PlaceAndFormula j h) =
    both (λ p q n. PlaceAndFormula (p n) (q n)) (λ e. cc) (λ e. cc) (same_number i j) (same_tree g h)
same_arguments (PlaceAndFormula i g) (OneFormula h) = no (λ e. cc)
same_arguments (PlaceAndFormula i g) (PlaceAndName j y) = no (λ e. cc)
same_arguments (OneFormula g) (OnePlace j) = no (λ e. cc)
same_arguments (OneFormula g) (TwoPlaces j l) = no (λ e. cc)
same_arguments (OneFormula g) (PlaceAndFormula j h) = no (λ e. cc)
same_arguments (OneFormula g) (OneFormula h) = both (λ e _. ap OneFormula e) (λ e. cc) (λ e. cc) (same_tree g h) (same_tree g h)
same_arguments (OneFormula g) (PlaceAndName j y) = no (λ e. cc)
same_arguments (PlaceAndName i x) (OnePlace j) = no (λ e. cc)
same_arguments (PlaceAndName i x) (TwoPlaces j l) = no (λ e. cc)
same_arguments (PlaceAndName i x) (PlaceAndFormula j h) = no (λ e. cc)
same_arguments (PlaceAndName i x) (OneFormula h) = no (λ e. cc)
same_arguments (PlaceAndName i x) (PlaceAndName j y) = both (λ p q n. PlaceAndName (p n) (q n)) (λ e. cc) (λ e. cc) (same_number i j) (same_name x y)

-- what a step is of, whichever step it is: its kind, three numbers, two names, a sequent, a rule and pairs
abbrev Parts : Type 0
Parts = ℕ × ((ℕ × (ℕ × ℕ)) × ((List ℕ × List ℕ) × (Sequent × (Rule × List Pair))))

abbrev no_sequent : Sequent
no_sequent = record { ante = []; succ = [] }

abbrev no_rule : Rule
no_rule = CloseTrue 0

parts : Step → Parts
parts (Start s) = (0, ((0, (0, 0)), (([], []), (s, (no_rule, [])))))
parts (UseAxiom name) = (1, ((0, (0, 0)), ((name, []), (no_sequent, (no_rule, [])))))
parts (UseRule name) = (2, ((0, (0, 0)), ((name, []), (no_sequent, (no_rule, [])))))
parts (Leaf s) = (3, ((0, (0, 0)), (([], []), (s, (no_rule, [])))))
parts (Apply fact goal rule) = (4, ((fact, (goal, 0)), (([], []), (no_sequent, (rule, [])))))
parts (Merge fact goal by) = (5, ((fact, (goal, by)), (([], []), (no_sequent, (no_rule, [])))))
parts (Substitute fact pairs) = (6, ((fact, (0, 0)), (([], []), (no_sequent, (no_rule, pairs)))))
parts (Rename fact x y) = (7, ((fact, (0, 0)), ((x, y), (no_sequent, (no_rule, [])))))

-- the step of these parts
made : Parts → Step
made (zero, (numbers, (names, (s, (rule, pairs))))) = Start s
made (suc zero, (numbers, ((name, other), rest))) = UseAxiom name
made (suc (suc zero), (numbers, ((name, other), rest))) = UseRule name
made (suc (suc (suc zero)), (numbers, (names, (s, (rule, pairs))))) = Leaf s
made (suc (suc (suc (suc zero))), ((fact, (goal, by)), (names, (s, (rule, pairs))))) = Apply fact goal rule
made (suc (suc (suc (suc (suc zero)))), ((fact, (goal, by)), rest)) = Merge fact goal by
made (suc (suc (suc (suc (suc (suc zero))))), ((fact, others), (names, (s, (rule, pairs))))) = Substitute fact pairs
made (suc (suc (suc (suc (suc (suc (suc kind)))))), ((fact, others), ((x, y), rest))) = Rename fact x y

made_again : (step : Step) → made (parts step) ≡ step
unfolding made parts
made_again (Start s) = refl
made_again (UseAxiom name) = refl
made_again (UseRule name) = refl
made_again (Leaf s) = refl
made_again (Apply fact goal rule) = refl
made_again (Merge fact goal by) = refl
made_again (Substitute fact pairs) = refl
made_again (Rename fact x y) = refl

-- no other rule has the word and the arguments of a rule
abbrev pub RuleIsItsCall : Type 0
RuleIsItsCall = (r s : Rule) → word_of r ≡ word_of s → arguments_of r ≡ arguments_of s → r ≡ s

module _ (rule_is : RuleIsItsCall) where
  same_rule : (r s : Rule) → Dec (r ≡ s)
  same_rule r s = both (rule_is r s) (ap word_of) (ap arguments_of) (same_name (word_of r) (word_of s)) (same_arguments (arguments_of r) (arguments_of s))

  same_parts : (p q : Parts) → Dec (p ≡ q)
  same_parts (kind, ((a, (b, c)), ((x, y), (s, (r, l))))) (other, ((d, (e, f)), ((u, v), (t, (q, m))))) =
      same_both (same_number kind other)
      (same_both (same_both (same_number a d) (same_both (same_number b e) (same_number c f)))
      (same_both (same_both (same_name x u) (same_name y v)) (same_both (same_sequent s t) (same_both (same_rule r q) (same_list same_pair l m)))))

  pub same_step : (step other : Step) → Dec (step ≡ other)
  same_step step other = elim (same_parts (parts step) (parts other)) [
    | yes e ↦ yes (sym (made_again step) ∙ ap made e ∙ made_again other)
    | no n ↦ no (λ e. n (ap parts e))
  ]
