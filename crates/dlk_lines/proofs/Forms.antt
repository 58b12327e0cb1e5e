-- The forms of rules, from the front of a text on.
use Rattle.std.proofs.Common.{◌≡◌, ◌≢◌, ℕ, List, ◌++◌, Option, Some, None, refl, ap, sym, subst, ◌∙◌, append_assoc}
use Rattle.std.specs.Prelude.{codes, IsTrue, IfNone}
use Rattle.dlk_tree.specs.Names.{is_name}
use Rattle.dlk_tree.specs.Trees.{Tree}
use Rattle.dlk_calculus.specs.Rules.{Rule, Arguments, OnePlace, TwoPlaces, PlaceAndFormula, OneFormula, PlaceAndName, word_of, arguments_of}
use Rattle.dlk_rules.specs.declared.arguments.Shape.{Shape}
use Rattle.dlk_rules.specs.declared.arguments.Shape.TheVariants as shape
use Rattle.dlk_rules.specs.declared.arguments.Arguments.{Arguments as IdArguments}
use Rattle.dlk_rules.specs.declared.rule.Rule.{Rule as IdRule}
use Rattle.dlk_rules.specs.declared.rule.RuleWord.{RuleWord}
use Rattle.dlk_rules.specs.Steps.{rule_at}
use Rattle.dlk_rules.specs.Words.{shape_of, text_of, wanted, arguments_at, IsCall}
use Rattle.dlk_rules.proofs.WordLaws.{one_shape, shape_wanted, one_rule as one_rule_called}
use Rattle.dlk_lines.specs.Numbers.{IsNumber}
use Rattle.dlk_lines.specs.Spelled.{Spelling, IsFormulaText}
use Rattle.dlk_lines.specs.Laws.{SaysOne}
use Rattle.dlk_lines.specs.Lines.{IsArguments, one_place, two_places, place_and_name, place_and_formula, one_formula, IsRule, rule}
use Rattle.dlk_lines.specs.Parts.{NumberThen, Bracketed}
use Rattle.dlk_lines.proofs.Cuts.{one_bracketed}
use Rattle.dlk_lines.proofs.Numbers.{one_number, one_number_then}
use Rattle.dlk_lines.proofs.WordLaws.{word_lacks}

pub if_none : {X : Type 0} {P : Type 0} (o : Option X) → P → IfNone o P
if_none None p = p
if_none (Some x) p = tt

-- what arguments are made of
abbrev pub ArgumentParts : (w : Spelling) → List ℕ → Arguments → Type 0
ArgumentParts w text (OnePlace i) = IsNumber text i
ArgumentParts w text (TwoPlaces i k) = (rest : List ℕ) × NumberThen text 44 i rest × IsNumber rest k
ArgumentParts w text (PlaceAndFormula i h) = (rest : List ℕ) × NumberThen text 44 i rest × IsFormulaText w rest h
ArgumentParts w text (OneFormula h) = IsFormulaText w text h
ArgumentParts w text (PlaceAndName i y) = NumberThen text 44 i y × IsTrue (is_name y)

-- a number before a comma
before_comma : (i rest : List ℕ) (n : ℕ) → IsNumber i n → NumberThen (i ++ codes "," ++ rest) 44 n rest
before_comma i rest n is = record { digits = i; is_number = is; text_is = simp append_assoc }

pub argument_parts : (w : Spelling) (text : List ℕ) (arguments : Arguments) → IsArguments w text arguments → ArgumentParts w text arguments
argument_parts w _ _ (one_place is) = is
argument_parts w _ _ (two_places {i} {k} {first} {second} a b) = (k, before_comma i k first a, b)
argument_parts w _ _ (place_and_formula {i} {at} {h} text a b) = (text, before_comma i text at a, b)
argument_parts w _ _ (one_formula is) = is
argument_parts w _ _ (place_and_name {i} {at} y a b) = (before_comma i y at a, b)

-- and are made of them
comma_is : (text rest : List ℕ) (n : ℕ) (h : NumberThen text 44 n rest) → text ≡ h.digits ++ codes "," ++ rest
comma_is text rest n h = h.text_is ∙ simp append_assoc

pub two_places_are : (w : Spelling) (text rest : List ℕ) (i k : ℕ) → NumberThen text 44 i rest → IsNumber rest k → IsArguments w text (TwoPlaces i k)
two_places_are w text rest i k a b = rw (comma_is text rest i a) (two_places a.is_number b)

pub place_and_formula_are : (w : Spelling) (text rest : List ℕ) (i : ℕ) (h : Tree) → NumberThen text 44 i rest → IsFormulaText w rest h →
    IsArguments w text (PlaceAndFormula i h)
place_and_formula_are w text rest i h a b = rw (comma_is text rest i a) (place_and_formula rest a.is_number b)

pub place_and_name_are : (w : Spelling) (text y : List ℕ) (i : ℕ) → NumberThen text 44 i y → IsTrue (is_name y) → IsArguments w text (PlaceAndName i y)
place_and_name_are w text y i a b = rw (comma_is text y i a) (place_and_name y a.is_number b)

-- without what stands behind the comma there are no arguments
pub no_place_behind : (w : Spelling) (text rest : List ℕ) (first : ℕ) → NumberThen text 44 first rest → ((n : ℕ) → ¬ IsNumber rest n) →
    (i k : ℕ) → ¬ IsArguments w text (TwoPlaces i k)
no_place_behind w text rest first number none i k is =
    let p = argument_parts w text (TwoPlaces i k) is in
    none k (rw (one_number_then text 44 first i rest p.0 refl number p.1).1 p.2)

pub no_formula_behind : (w : Spelling) (text rest : List ℕ) (at : ℕ) → NumberThen text 44 at rest → ((h : Tree) → ¬ IsFormulaText w rest h) →
    (i : ℕ) (h : Tree) → ¬ IsArguments w text (PlaceAndFormula i h)
no_formula_behind w text rest at number none i h is =
    let p = argument_parts w text (PlaceAndFormula i h) is in
    none h (rw (one_number_then text 44 at i rest p.0 refl number p.1).1 p.2)

pub no_name_behind : (w : Spelling) (text rest : List ℕ) (at : ℕ) → NumberThen text 44 at rest → (¬ IsTrue (is_name rest)) →
    (i : ℕ) (y : List ℕ) → ¬ IsArguments w text (PlaceAndName i y)
no_name_behind w text rest at number none i y is =
    let p = argument_parts w text (PlaceAndName i y) is in
    none (rw (one_number_then text 44 at i rest y refl number p.0).1 p.1)

-- no arguments of a shape are the text
abbrev pub Lack : (w : Spelling) → List ℕ → Shape → Type 0
Lack w text shape.OnePlace = (i : ℕ) → ¬ IsNumber text i
Lack w text shape.TwoPlaces = (i k : ℕ) → ¬ IsArguments w text (TwoPlaces i k)
Lack w text shape.PlaceAndFormula = (i : ℕ) (h : Tree) → ¬ IsArguments w text (PlaceAndFormula i h)
Lack w text shape.OneFormula = (h : Tree) → ¬ IsFormulaText w text h
Lack w text shape.PlaceAndName = (i : ℕ) (y : List ℕ) → ¬ IsArguments w text (PlaceAndName i y)

pub lacking : (w : Spelling) (text : List ℕ) (s : Shape) → Lack w text s → (arguments : Arguments) → s ≡ shape_of arguments → ¬ IsArguments w text arguments
lacking w text s none arguments e = by_shape arguments (subst (λ s. Lack w text s) e none)
  where
    by_shape : (a : Arguments) → Lack w text (shape_of a) → IsArguments w text a → ⊥
    by_shape (OnePlace i) lack is = lack i (argument_parts w text (OnePlace i) is)
    by_shape (TwoPlaces i k) lack is = lack i k is
    by_shape (PlaceAndFormula i h) lack is = lack i h is
    by_shape (OneFormula h) lack is = lack h (argument_parts w text (OneFormula h) is)
    by_shape (PlaceAndName i y) lack is = lack i y is

-- a text says arguments of a shape in one way
pub one_arguments : (w : Spelling) → SaysOne w → (text : List ℕ) (a b : Arguments) → shape_of a ≡ shape_of b → IsArguments w text a → IsArguments w text b →
    a ≡ b
one_arguments w one text (OnePlace i) (OnePlace j) e a b =
    ap OnePlace (one_number text i j (argument_parts w text (OnePlace i) a) (argument_parts w text (OnePlace j) b))
one_arguments w one text (TwoPlaces i k) (TwoPlaces j l) e a b =
    let p = argument_parts w text (TwoPlaces i k) a in
    let q = argument_parts w text (TwoPlaces j l) b in
    let first = one_number_then text 44 i j p.0 q.0 refl p.1 q.1 in
    let second = one_number q.0 k l (rw (← first.1) p.2) q.2 in
    λ n. TwoPlaces (first.0 n) (second n)
one_arguments w one text (PlaceAndFormula i h) (PlaceAndFormula j g) e a b =
    let p = argument_parts w text (PlaceAndFormula i h) a in
    let q = argument_parts w text (PlaceAndFormula j g) b in
    let first = one_number_then text 44 i j p.0 q.0 refl p.1 q.1 in
    let second = one.one_formula q.0 h g (rw (← first.1) p.2) q.2 in
    λ n. PlaceAndFormula (first.0 n) (second n)
one_arguments w one text (OneFormula h) (OneFormula g) e a b =
    ap OneFormula (one.one_formula text h g (argument_parts w text (OneFormula h) a) (argument_parts w text (OneFormula g) b))
one_arguments w one text (PlaceAndName i y) (PlaceAndName j z) e a b =
    let p = argument_parts w text (PlaceAndName i y) a in
    let q = argument_parts w text (PlaceAndName j z) b in
    let both = one_number_then text 44 i j y z refl p.0 q.0 in
    λ n. PlaceAndName (both.0 n) (both.1 n)
one_arguments w one text _ _ e a b = cc

-- what a rule's text is made of
pub record RuleParts (w : Spelling) (text : List ℕ) (made : Rule) : Type 0 where
  pub arguments : List ℕ
  pub brackets : Bracketed text (word_of made) arguments
  pub are_arguments : IsArguments w arguments (arguments_of made)

pub rule_parts : (w : Spelling) (text : List ℕ) (made : Rule) → IsRule w text made → RuleParts w text made
rule_parts w _ _ (rule {arguments} made are) = record {
  arguments = arguments;
  brackets = record { text_is = refl; first = word_lacks made };
  are_arguments = are;
}

-- a text whose word and arguments are those of a rule, and only such a text, is the rule
pub made_rule : (w : Spelling) (text word arguments : List ℕ) (made : Rule) → Bracketed text word arguments → word_of made ≡ word →
    IsArguments w arguments (arguments_of made) → IsRule w text made
made_rule w text word arguments made brackets is are =
    let e : text ≡ word_of made ++ codes "(" ++ arguments ++ codes ")" = brackets.text_is ∙ ap (λ w. w ++ codes "(" ++ arguments ++ codes ")") (sym is) in
    rw e (rule made are)

pub bracketed_rule : (w : Spelling) (text word arguments : List ℕ) (made : Rule) → Bracketed text word arguments → IsRule w text made →
    (word_of made ≡ word) × IsArguments w arguments (arguments_of made)
bracketed_rule w text word arguments made brackets is =
    let h = rule_parts w text made is in
    let same = one_bracketed text (word_of made) word h.arguments arguments h.brackets brackets in
    (same.0, rw (← same.1) h.are_arguments)

-- a text says one rule
pub one_rule : (w : Spelling) → SaysOne w → (text : List ℕ) (r s : Rule) → IsRule w text r → IsRule w text s → r ≡ s
one_rule w one text r s a b =
    let h = rule_parts w text r a in
    let k = bracketed_rule w text (word_of r) h.arguments s h.brackets b in
    let words : word_of r ≡ word_of s = sym k.0 in
    one_rule_called r s words (one_arguments w one h.arguments (arguments_of r) (arguments_of s) (one_shape r s words) h.are_arguments k.1)

-- without brackets, or where what stands before or in them is none of a rule, a text is no rule
pub no_brackets : (w : Spelling) (text : List ℕ) → ((word arguments : List ℕ) → ¬ Bracketed text word arguments) → (made : Rule) → ¬ IsRule w text made
no_brackets w text none made is = let h = rule_parts w text made is in none (word_of made) h.arguments h.brackets

pub no_word : (w : Spelling) (text word arguments : List ℕ) → Bracketed text word arguments → ((made : Rule) → word_of made ≢ word) → (made : Rule) →
    ¬ IsRule w text made
no_word w text word arguments brackets none made is = none made (bracketed_rule w text word arguments made brackets is).0

pub no_arguments : (w : Spelling) (text word arguments : List ℕ) (of : RuleWord) (s : Shape) → Bracketed text word arguments → text_of of ≡ word →
    s ≡ wanted of →
    ((a : Arguments) → s ≡ shape_of a → ¬ IsArguments w arguments a) → (made : Rule) → ¬ IsRule w text made
no_arguments w text word arguments of s brackets same wants none made is =
    let h = bracketed_rule w text word arguments made brackets is in
    none (arguments_of made) (wants ∙ sym (shape_wanted of made (h.0 ∙ sym same))) h.1

-- a rule that is called by the word and the arguments of a text is what the text says
pub called_rule : (w : Spelling) (trees : List Tree) (text word arguments : List ℕ) (of : RuleWord) (a : IdArguments (List ℕ)) (made : IdRule) →
    Bracketed text word arguments → text_of of ≡ word → IsArguments w arguments (arguments_at (λ y. y) trees a) → IsCall trees of a made →
    IsRule w text (rule_at trees made)
called_rule w trees text word arguments of a made brackets same are call =
    made_rule w text word arguments (rule_at trees made) brackets (call.word_is ∙ same) (subst (IsArguments w arguments) (sym call.arguments_are) are)
