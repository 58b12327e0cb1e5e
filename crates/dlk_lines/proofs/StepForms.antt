-- The forms of steps, from the front of a text on.
use Rattle.std.proofs.Common.{◌≡◌, ◌≢◌, ℕ, List, ◌∷◌, ◌++◌, refl, ap, sym, subst, ◌∙◌, append_assoc, arith}
use Rattle.std.specs.Prelude.{codes, IsTrue, Result, Ok, Err, IfOk, IfErr, if◌then◌else◌}
use Rattle.std.specs.List.{list_all}
use Rattle.std.specs.Str.{bytes_eq, IsUtf8}
use Rattle.dlk_tree.specs.Names.{is_letter, is_name}
use Rattle.dlk_tree.specs.Trees.{Tree}
use Rattle.dlk_calculus.specs.Pairs.{Pair}
use Rattle.dlk_calculus.specs.Rules.{Rule}
use Rattle.dlk_calculus.specs.Steps.{Step, Start, UseAxiom, UseRule, Leaf, Apply, Merge, Substitute, Rename}
use Rattle.dlk_rules.specs.Steps.{step_at}
use Rattle.dlk_rules.specs.declared.step.Step.{Step as IdStep}
use Rattle.dlk_lines.specs.declared.fault.LineFault.{LineFault}
use Rattle.dlk_lines.specs.Numbers.{IsNumber}
use Rattle.dlk_lines.specs.Spelled.{Spelling, ArePairsText}
use Rattle.dlk_lines.specs.Laws.{SaysOne}
use Rattle.dlk_lines.specs.Lines.{IsRule, IsStep, start, use_axiom, use_rule, leaf, apply, merge, substitute, rename}
use Rattle.dlk_lines.specs.Parts.{CutAt, NumberThen, FactGoal, FactGoalRule, FactGoalFact, FactPairs, FactNames, step_word, Behind, WordAndRest}
use Rattle.dlk_lines.specs.Read.{IsLineFaultOf}
use Rattle.dlk_lines.proofs.Cuts.{lacks_if, lacks_name, one_cut}
use Rattle.dlk_lines.proofs.Numbers.{one_number, one_number_then}
use Rattle.dlk_lines.proofs.Refusals.{fault_of_whole}
use Rattle.dlk_lines.proofs.WordLaws.{letters_utf8}
use Rattle.dlk_lines.proofs.Forms.{one_rule}

-- The kinds of steps are numbered, and a word tells the number.
abbrev pub kind : Step → ℕ
kind (Start s) = 0
kind (UseAxiom name) = 1
kind (UseRule name) = 2
kind (Leaf s) = 3
kind (Apply fact goal rule) = 4
kind (Merge fact goal by) = 5
kind (Substitute fact pairs) = 6
kind (Rename fact x y) = 7

kind_of : List ℕ → ℕ
kind_of word =
    if bytes_eq word (codes "start") then 0 else
    if bytes_eq word (codes "axiom") then 1 else
    if bytes_eq word (codes "rule") then 2 else
    if bytes_eq word (codes "leaf") then 3 else
    if bytes_eq word (codes "apply") then 4 else
    if bytes_eq word (codes "merge") then 5 else
    if bytes_eq word (codes "subst") then 6 else
    if bytes_eq word (codes "rename") then 7 else 8

kind_of_word : (step : Step) → kind_of (step_word step) ≡ kind step
unfolding kind_of
kind_of_word (Start s) = refl
kind_of_word _ = refl

pub same_kind : (s t : Step) → step_word s ≡ step_word t → kind s ≡ kind t
same_kind s t e = sym (kind_of_word s) ∙ ap kind_of e ∙ kind_of_word t

-- the words are of letters
word_letters : (step : Step) → IsTrue (list_all is_letter (step_word step))
word_letters (Start s) = refl
word_letters _ = refl

-- what a step's text is made of
pub record StepParts (w : Spelling) (text : List ℕ) (step : Step) : Type 0 where
  pub rest : List ℕ
  pub cut : CutAt text 32 (step_word step) rest
  pub behind : Behind w rest step

step_cut : (text rest : List ℕ) (step : Step) → text ≡ step_word step ++ 32 ∷ rest → CutAt text 32 (step_word step) rest
step_cut text rest step e = record { text_is = e; first = lacks_if is_letter 32 refl (step_word step) (word_letters step) }

-- a number before a space
pub before_space : (i rest : List ℕ) (n : ℕ) → IsNumber i n → NumberThen (i ++ codes " " ++ rest) 32 n rest
before_space i rest n is = record { digits = i; is_number = is; text_is = simp append_assoc }

-- a fact and a goal, and what comes behind them
two_numbers : (f g rest : List ℕ) (fact goal : ℕ) → IsNumber f fact → IsNumber g goal → FactGoal (f ++ codes " " ++ g ++ codes " " ++ rest) fact goal rest
two_numbers f g rest fact goal a b = record {
  behind_fact = g ++ codes " " ++ rest;
  fact_is = record { digits = f; is_number = a; text_is = simp append_assoc };
  goal_is = before_space g rest goal b;
}

numbers_are : (text rest : List ℕ) (fact goal : ℕ) (h : FactGoal text fact goal rest) →
    text ≡ h.fact_is.digits ++ codes " " ++ h.goal_is.digits ++ codes " " ++ rest
numbers_are text rest fact goal h =
    let f = h.fact_is.digits in
    let g = h.goal_is.digits in
    let behind : f ++ 32 ∷ (g ++ 32 ∷ rest) ≡ f ++ codes " " ++ g ++ codes " " ++ rest = simp append_assoc in
    h.fact_is.text_is ∙ ap (λ l. f ++ 32 ∷ l) h.goal_is.text_is ∙ behind

pub one_fact_goal : (text rest behind : List ℕ) (fact goal f g : ℕ) → FactGoal text fact goal rest → FactGoal text f g behind →
    (fact ≡ f) × (goal ≡ g) × (rest ≡ behind)
one_fact_goal text rest behind fact goal f g a b =
    let facts = one_number_then text 32 fact f a.behind_fact b.behind_fact refl a.fact_is b.fact_is in
    let goals = one_number_then b.behind_fact 32 goal g rest behind refl (rw (← facts.1) a.goal_is) b.goal_is in
    (facts.0, goals.0, goals.1)

pub step_parts : (w : Spelling) (text : List ℕ) (step : Step) → IsStep w text step → StepParts w text step
step_parts w _ _ (start {s} sequent is) = record { rest = sequent; cut = step_cut _ sequent (Start s) refl; behind = is }
step_parts w _ _ (use_axiom {name} is) = record { rest = name; cut = step_cut _ name (UseAxiom name) refl; behind = (refl, is) }
step_parts w _ _ (use_rule {name} is) = record { rest = name; cut = step_cut _ name (UseRule name) refl; behind = (refl, is) }
step_parts w _ _ (leaf {s} sequent is) = record { rest = sequent; cut = step_cut _ sequent (Leaf s) refl; behind = is }
step_parts w _ _ (apply {f} {g} {r} {fact} {goal} {rule} a b c) = record {
  rest = f ++ codes " " ++ g ++ codes " " ++ r;
  cut = step_cut _ (f ++ codes " " ++ g ++ codes " " ++ r) (Apply fact goal rule) (simp append_assoc);
  behind = record { behind_goal = r; numbers = two_numbers f g r fact goal a b; rule_is = c };
}
step_parts w _ _ (merge {f} {g} {b} {fact} {goal} {by} is_fact is_goal is_by) = record {
  rest = f ++ codes " " ++ g ++ codes " " ++ b;
  cut = step_cut _ (f ++ codes " " ++ g ++ codes " " ++ b) (Merge fact goal by) (simp append_assoc);
  behind = record { behind_goal = b; numbers = two_numbers f g b fact goal is_fact is_goal; by_is = is_by };
}
step_parts w _ _ (substitute {f} {fact} {pairs} text a b) = record {
  rest = f ++ codes " " ++ text;
  cut = step_cut _ (f ++ codes " " ++ text) (Substitute fact pairs) (simp append_assoc);
  behind = record { behind_fact = text; fact_is = before_space f text fact a; pairs_are = b };
}
step_parts w _ _ (rename {f} {x} {y} {fact} a b c) = record {
  rest = f ++ codes " " ++ x ++ codes " " ++ y;
  cut = step_cut _ (f ++ codes " " ++ x ++ codes " " ++ y) (Rename fact x y) (simp append_assoc);
  behind = record {
    behind_fact = x ++ codes " " ++ y;
    fact_is = record { digits = f; is_number = a; text_is = simp append_assoc };
    first_name = b;
    second_name = c;
    names_are = refl;
  };
}

pub made_step : (w : Spelling) (text rest : List ℕ) (step : Step) → text ≡ step_word step ++ 32 ∷ rest → Behind w rest step → IsStep w text step
made_step w text rest (Start s) begins is = rw begins (start rest is)
made_step w text rest (UseAxiom name) begins is = rw (begins, is.0) (use_axiom is.1)
made_step w text rest (UseRule name) begins is = rw (begins, is.0) (use_rule is.1)
made_step w text rest (Leaf s) begins is = rw begins (leaf rest is)
made_step w text rest (Apply fact goal r) begins parts =
    let numbers = parts.numbers in
    let f = numbers.fact_is.digits in
    let g = numbers.goal_is.digits in
    let e : text ≡ codes "apply " ++ f ++ codes " " ++ g ++ codes " " ++ parts.behind_goal =
    begins ∙ ap (λ l. codes "apply " ++ l) (numbers_are rest parts.behind_goal fact goal numbers) ∙ simp append_assoc in
    rw e (apply numbers.fact_is.is_number numbers.goal_is.is_number parts.rule_is)
made_step w text rest (Merge fact goal by) begins parts =
    let numbers = parts.numbers in
    let f = numbers.fact_is.digits in
    let g = numbers.goal_is.digits in
    let e : text ≡ codes "merge " ++ f ++ codes " " ++ g ++ codes " " ++ parts.behind_goal =
    begins ∙ ap (λ l. codes "merge " ++ l) (numbers_are rest parts.behind_goal fact goal numbers) ∙ simp append_assoc in
    rw e (merge numbers.fact_is.is_number numbers.goal_is.is_number parts.by_is)
made_step w text rest (Substitute fact pairs) begins parts =
    let f = parts.fact_is.digits in
    let e : text ≡ codes "subst " ++ f ++ codes " " ++ parts.behind_fact =
    begins ∙ ap (λ l. codes "subst " ++ l) parts.fact_is.text_is ∙ simp append_assoc in
    rw e (substitute parts.behind_fact parts.fact_is.is_number parts.pairs_are)
made_step w text rest (Rename fact x y) begins parts =
    let f = parts.fact_is.digits in
    let behind : f ++ 32 ∷ (x ++ codes " " ++ y) ≡ f ++ codes " " ++ x ++ codes " " ++ y = simp append_assoc in
    let e : text ≡ codes "rename " ++ f ++ codes " " ++ x ++ codes " " ++ y =
    begins ∙ ap (λ l. codes "rename " ++ l) (parts.fact_is.text_is ∙ ap (λ l. f ++ 32 ∷ l) parts.names_are ∙ behind) in
    rw e (rename parts.fact_is.is_number parts.first_name parts.second_name)

-- a fact and two names: the first name ends at the first space behind the fact
pub names_cut : (text : List ℕ) (fact : ℕ) (x y : List ℕ) (h : FactNames text fact x y) → CutAt h.behind_fact 32 x y
names_cut text fact x y h = record { text_is = h.names_are ∙ simp append_assoc; first = lacks_name x h.first_name }

pub names_are : (text rest : List ℕ) (fact : ℕ) (x y : List ℕ) → NumberThen text 32 fact rest → CutAt rest 32 x y → IsTrue (is_name x) → IsTrue (is_name y) →
    FactNames text fact x y
names_are text rest fact x y number cut a b =
    record { behind_fact = rest; fact_is = number; first_name = a; second_name = b; names_are = cut.text_is ∙ simp append_assoc }

-- a text without a rule or a fact behind its goal, without pairs behind its fact, or without one of its names
pub no_rule_behind : (w : Spelling) (text rest : List ℕ) (fact goal : ℕ) → FactGoal text fact goal rest → ((made : Rule) → ¬ IsRule w rest made) →
    (f g : ℕ) (made : Rule) → ¬ FactGoalRule w text f g made
no_rule_behind w text rest fact goal a none f g made is = none made (rw (one_fact_goal text rest is.behind_goal fact goal f g a is.numbers).2 is.rule_is)

pub no_fact_behind : (text rest : List ℕ) (fact goal : ℕ) → FactGoal text fact goal rest → ((by : ℕ) → ¬ IsNumber rest by) → (f g by : ℕ) →
    ¬ FactGoalFact text f g by
no_fact_behind text rest fact goal a none f g by is = none by (rw (one_fact_goal text rest is.behind_goal fact goal f g a is.numbers).2 is.by_is)

pub no_pairs_behind : (w : Spelling) (text rest : List ℕ) (fact : ℕ) → NumberThen text 32 fact rest → ((pairs : List Pair) → ¬ ArePairsText w rest pairs) →
    (f : ℕ) (pairs : List Pair) → ¬ FactPairs w text f pairs
no_pairs_behind w text rest fact a none f pairs is = none pairs (rw (one_number_then text 32 fact f rest is.behind_fact refl a is.fact_is).1 is.pairs_are)

pub same_names : (text names : List ℕ) (fact : ℕ) (front rest : List ℕ) → NumberThen text 32 fact names → CutAt names 32 front rest → (f : ℕ) (x y : List ℕ) →
    FactNames text f x y → (front ≡ x) × (rest ≡ y)
same_names text names fact front rest a b f x y is =
    let first = one_number_then text 32 fact f names is.behind_fact refl a is.fact_is in
    one_cut names 32 front x rest y b (rw first.1 (names_cut text f x y is))

pub no_first_name : (text names : List ℕ) (fact : ℕ) (front rest : List ℕ) → NumberThen text 32 fact names → CutAt names 32 front rest →
    (¬ IsTrue (is_name front)) → (f : ℕ) (x y : List ℕ) → ¬ FactNames text f x y
no_first_name text names fact front rest a b none f x y is = none (rw (same_names text names fact front rest a b f x y is).0 is.first_name)

pub no_second_name : (text names : List ℕ) (fact : ℕ) (front rest : List ℕ) → NumberThen text 32 fact names → CutAt names 32 front rest →
    (¬ IsTrue (is_name rest)) → (f : ℕ) (x y : List ℕ) → ¬ FactNames text f x y
no_second_name text names fact front rest a b none f x y is = none (rw (same_names text names fact front rest a b f x y is).1 is.second_name)

-- a text is cut at its first space
pub worded_step : (w : Spelling) (text word rest : List ℕ) (step : Step) → CutAt text 32 word rest → WordAndRest w word rest step → IsStep w text step
worded_step w text word rest step cut p = made_step w text rest step (cut.text_is ∙ ap (λ w. w ++ 32 ∷ rest) p.word_is) p.behind

pub step_worded : (w : Spelling) (text word rest : List ℕ) (step : Step) → CutAt text 32 word rest → IsStep w text step → WordAndRest w word rest step
step_worded w text word rest step cut is =
    let h = step_parts w text step is in
    let same = one_cut text 32 word (step_word step) rest h.rest cut h.cut in
    record { word_is = same.0; behind = subst (λ r. Behind w r step) (sym same.1) h.behind }

pub no_space : (w : Spelling) (text : List ℕ) → ((word rest : List ℕ) → text ≢ word ++ 32 ∷ rest) → (step : Step) → ¬ IsStep w text step
no_space w text none step is = let h = step_parts w text step is in none (step_word step) h.rest h.cut.text_is

pub no_step_word : (w : Spelling) (text word rest : List ℕ) → CutAt text 32 word rest → (¬ IsUtf8 word) → (step : Step) → ¬ IsStep w text step
no_step_word w text word rest cut none step is =
    none (rw (step_worded w text word rest step cut is).word_is (letters_utf8 (step_word step) (word_letters step)))

-- what is answered to a word and what stands behind it, as an answer to a text
pub step_or_none : (w : Spelling) (trees : List Tree) (text word rest : List ℕ) → CutAt text 32 word rest → (r : Result IdStep LineFault) →
    IfOk r (λ step. WordAndRest w word rest (step_at trees step)) →
    IfOk r (λ step. IsStep w text (step_at trees step))
step_or_none w trees text word rest cut (Ok step) p = worded_step w text word rest (step_at trees step) cut p
step_or_none w trees text word rest cut (Err why) p = tt

pub no_step_or_none : (w : Spelling) (text word rest : List ℕ) → CutAt text 32 word rest → (r : Result IdStep LineFault) →
    IfErr r (IsLineFaultOf ((step : Step) → ¬ WordAndRest w word rest step)) →
    IfErr r (IsLineFaultOf ((step : Step) → ¬ IsStep w text step))
no_step_or_none w text word rest cut (Ok step) fault = tt
no_step_or_none w text word rest cut (Err why) fault =
    fault_of_whole {part = (step : Step) → ¬ WordAndRest w word rest step} (λ none step is. none step (step_worded w text word rest step cut is)) why fault

-- what stands behind a word says one step of a kind
one_behind : (w : Spelling) → SaysOne w → (rest : List ℕ) (s t : Step) → kind s ≡ kind t → Behind w rest s → Behind w rest t → s ≡ t
one_behind w one rest (Start s) (Start t) e a b = ap Start (one.one_sequent rest s t a b)
one_behind w one rest (UseAxiom x) (UseAxiom y) e a b = ap UseAxiom (a.0 ∙ sym b.0)
one_behind w one rest (UseRule x) (UseRule y) e a b = ap UseRule (a.0 ∙ sym b.0)
one_behind w one rest (Leaf s) (Leaf t) e a b = ap Leaf (one.one_sequent rest s t a b)
one_behind w one rest (Apply fact goal r) (Apply fact' goal' r') e a b =
    let same = one_fact_goal rest a.behind_goal b.behind_goal fact goal fact' goal' a.numbers b.numbers in
    let rules : r ≡ r' = one_rule w one b.behind_goal r r' (rw (← same.2) a.rule_is) b.rule_is in
    λ i. Apply (same.0 i) (same.1 i) (rules i)
one_behind w one rest (Merge fact goal by) (Merge fact' goal' by') e a b =
    let same = one_fact_goal rest a.behind_goal b.behind_goal fact goal fact' goal' a.numbers b.numbers in
    let facts : by ≡ by' = one_number b.behind_goal by by' (rw (← same.2) a.by_is) b.by_is in
    λ i. Merge (same.0 i) (same.1 i) (facts i)
one_behind w one rest (Substitute fact pairs) (Substitute fact' pairs') e a b =
    let same = one_number_then rest 32 fact fact' a.behind_fact b.behind_fact refl a.fact_is b.fact_is in
    let all : pairs ≡ pairs' = one.one_list b.behind_fact pairs pairs' (rw (← same.1) a.pairs_are) b.pairs_are in
    λ i. Substitute (same.0 i) (all i)
one_behind w one rest (Rename fact x y) (Rename fact' x' y') e a b =
    let facts = one_number_then rest 32 fact fact' a.behind_fact b.behind_fact refl a.fact_is b.fact_is in
    let names = one_cut b.behind_fact 32 x x' y y' (rw (← facts.1) (names_cut rest fact x y a)) (names_cut rest fact' x' y' b) in
    λ i. Rename (facts.0 i) (names.0 i) (names.1 i)
one_behind w one rest _ _ e a b = absurd (omega (arith, e))

-- a text says one step
pub one_step : (w : Spelling) → SaysOne w → (text : List ℕ) (s t : Step) → IsStep w text s → IsStep w text t → s ≡ t
one_step w one text s t a b =
    let h = step_parts w text s a in
    let k = step_parts w text t b in
    let same = one_cut text 32 (step_word s) (step_word t) h.rest k.rest h.cut k.cut in
    one_behind w one k.rest s t (same_kind s t same.0) (subst (λ r. Behind w r s) same.1 h.behind) k.behind
