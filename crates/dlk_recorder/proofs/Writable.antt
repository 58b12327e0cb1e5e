-- What the calculus takes from rows within the limits is read from its written form.
use Rattle.std.proofs.Common.{◌≡◌, ℕ, ◌-◌, ◌<◌, ◌≤◌, Bool, true, false, cond, List, [], ◌∷◌, ◌++◌, length, get_or, take, drop, Some, find, refl}
use Rattle.std.proofs.Common.{subst, inl, inr, arith}
use Rattle.std.specs.Prelude.{All, slice_set}
use Rattle.std.specs.List.{list_all}
use Rattle.std.specs.Str.{bytes_eq}
use Rattle.std.proofs.lemmas.Bool.{cases_lt, and_parts}
use Rattle.std.proofs.lemmas.Slice.Eq.{bytes_eq-Decides}
use Rattle.std.proofs.lemmas.Grind.{get_or-set_at}
use Rattle.std.proofs.lemmas.List.{length-set}
use Rattle.std.proofs.lemmas.List.Elements.{All-head}
use Rattle.dlk_tree.specs.Names.{is_name}
use Rattle.dlk_tree.specs.Trees.{Tree, size, depth}
use Rattle.dlk_calculus.specs.declared.reason.Reason.TheVariants.{TooBig, TooDeep}
use Rattle.dlk_calculus.specs.Axioms.{Axiom, AxiomaticRule, axioms, axiomatic_rules, axiom_named, rule_named}
use Rattle.dlk_calculus.specs.Limits.{most_nodes, greatest_depth, most_formulas, most_goals, most_rows, IsSmall, IsShallow}
use Rattle.dlk_calculus.specs.Limited.{IsLimitedSequent, IsLimited}
use Rattle.dlk_calculus.specs.Pairs.{Pair, IsWellFormed, AreWellMade}
use Rattle.dlk_calculus.specs.Places.{At, IsPlace, put}
use Rattle.dlk_calculus.specs.Sequents.{Sequent, IsFormula, IsSequent}
use Rattle.dlk_calculus.specs.Rules.{Rule, Cut, CutL, CutR, Arguments, OnePlace, TwoPlaces, PlaceAndFormula, OneFormula, PlaceAndName, arguments_of}
use Rattle.dlk_calculus.specs.Rules.{AreProper, IsProperRule, Premises}
use Rattle.dlk_calculus.specs.Provables.{Provable}
use Rattle.dlk_calculus.specs.Steps.{Step, Substitute, Gives, start, use_axiom, use_rule, leaf, apply, merge, substitute, rename, EachNew, too_big}
use Rattle.dlk_calculus.specs.Steps.{too_deep, IsWithin, StepOf}
use Rattle.dlk_calculus.proofs.PlaceLaws.{At_All, At_place, All-front, All-behind}
use Rattle.dlk_calculus.proofs.WellFormed.{pairs_of_kind}
use Rattle.dlk_calculus.proofs.LimitLaws.{taken_as_given, step_limited}
use Rattle.dlk_rules.proofs.SideLaws.{EachPlace, each_place}
use Rattle.dlk_readback.specs.Readable.{IsWithinLimits, IsReadablePair}
use Rattle.dlk_lines.specs.Numbers.{IsLineNumber}
use Rattle.dlk_termtext.specs.Written.{IsReadableFormula, IsReadableSequent, AreWritable, IsWritableRule, IsWritable}
use Rattle.dlk_replay.specs.Symbols.{HasSymbols}

-- a place among few
place_number : {A : Type 0} (items : List A) (place most : ℕ) → length items ≤ most → most ≤ 999999999 → IsPlace items place → IsLineNumber place
place_number items place most few wide is = record { some = is.0; few = omega (arith, is.1, few, wide) }

goal_number : (s : Sequent) (p : Provable) (goal : ℕ) → IsLimited p → At p.goals goal s → IsLineNumber goal
goal_number s p goal l at = place_number p.goals goal most_goals l.few_goals (omega arith) (At_place p.goals goal s at)

left_number : (s : Sequent) (i : ℕ) → IsLimitedSequent s → IsPlace s.ante i → IsLineNumber i
left_number s i l is = place_number s.ante i most_formulas l.few.ante (omega arith) is

right_number : (s : Sequent) (j : ℕ) → IsLimitedSequent s → IsPlace s.succ j → IsLineNumber j
right_number s j l is = place_number s.succ j most_formulas l.few.succ (omega arith) is

-- the formulas of a side within the limits
side_limits : (ts : List Tree) → All IsSmall ts → All IsShallow ts → All IsWithinLimits ts
side_limits ts small shallow = λ k d lt. record { small = small k d lt; shallow = shallow k d lt }

sequent_readable : (s : Sequent) → IsSequent s → IsLimitedSequent s → IsReadableSequent s
sequent_readable s is l = record {
  is_sequent = is;
  ante = side_limits s.ante l.small.ante l.shallow.ante;
  succ = side_limits s.succ l.small.succ l.shallow.succ;
}

-- A name in a table of names is one.
found_name : {A : Type 0} (name_of : A → List ℕ) (rows : List A) (name : List ℕ) (row : A) → list_all (λ r. is_name (name_of r)) rows ≡ true →
    find (λ r. bytes_eq (name_of r) name) rows ≡ Some row → is_name name ≡ true
found_name name_of [] name row names found = absurd cc
found_name name_of (r ∷ rows) name row names found = by_test (bytes_eq (name_of r) name) refl found (λ later. found_name name_of rows name row w.1 later)
  where
    w : (is_name (name_of r) ≡ true) × (list_all (λ r. is_name (name_of r)) rows ≡ true)
    w = and_parts (is_name (name_of r)) (list_all (λ r. is_name (name_of r)) rows) names

    by_test : (b : Bool) → bytes_eq (name_of r) name ≡ b → cond b (Some r) (find (λ r. bytes_eq (name_of r) name) rows) ≡ Some row →
        (find (λ r. bytes_eq (name_of r) name) rows ≡ Some row → is_name name ≡ true) → is_name name ≡ true
    by_test true same is later = subst (λ n. is_name n ≡ true) ((bytes_eq-Decides (name_of r) name).0 same) w.0
    by_test false other is later = later is

axiom_name : (name : List ℕ) (a : Axiom) → axiom_named name ≡ Some a → is_name name ≡ true
axiom_name name a found = found_name (λ (x : Axiom). x.name) axioms name a refl found

rule_name : (name : List ℕ) (r : AxiomaticRule) → rule_named name ≡ Some r → is_name name ≡ true
rule_name name r found = found_name (λ (x : AxiomaticRule). x.name) axiomatic_rules name r refl found

-- What is put at a place is among what stands there then.
put_there : (P : Tree → Type 0) (side : List Tree) (place : ℕ) (h : Tree) → IsPlace side place → All P (put side place h) → P h
put_there P side place h is all =
    let within : place - 1 < length side = omega (arith, is.0, is.1) in
    let long : place - 1 < length (slice_set side (place - 1) h) = omega (arith, within, length-set side (place - 1) h) in
    subst P (get_or-set_at side (place - 1) (place - 1) h h refl within) (all (place - 1) h long)

cut_formula : (P : Tree → Type 0) (side : List Tree) (h : Tree) → All P (side ++ h ∷ []) → P h
cut_formula P side h all = All-head P h [] (All-behind P side (h ∷ []) all)

readable : (h : Tree) → IsFormula h → IsSmall h → IsShallow h → IsReadableFormula h
readable h is small shallow = record { is_formula = is; limits = record { small = small; shallow = shallow } }

-- the first premise of a cut
first_premise : (first second : Sequent) (premises : List Sequent) → premises ≡ first ∷ second ∷ [] → All IsLimitedSequent premises → IsLimitedSequent first
first_premise first second premises is all = All-head IsLimitedSequent first (second ∷ []) (subst (All IsLimitedSequent) is all)

module _ (s : Sequent) (l : IsLimitedSequent s) where
  one_left : (i : ℕ) → IsPlace s.ante i → IsLineNumber i
  one_left i is = left_number s i l is

  one_right : (j : ℕ) → IsPlace s.succ j → IsLineNumber j
  one_right j is = right_number s j l is

  -- a rule's own formula is read, where it has one
  abbrev IsFormulaRead : Arguments → Type 0
  IsFormulaRead (OnePlace i) = Unit {0}
  IsFormulaRead (TwoPlaces i k) = Unit {0}
  IsFormulaRead (PlaceAndFormula i h) = IsReadableFormula h
  IsFormulaRead (OneFormula h) = IsReadableFormula h
  IsFormulaRead (PlaceAndName i y) = Unit {0}

  -- since it stands in the first premise
  formula_read : (rule : Rule) (premises : List Sequent) → All IsLimitedSequent premises → Premises rule s premises → IsFormulaRead (arguments_of rule)
  formula_read (Cut h) ps all p =
      let first = first_premise _ _ ps p.premises_are all in
      readable h p.shape (cut_formula IsSmall s.ante h first.small.ante) (cut_formula IsShallow s.ante h first.shallow.ante)
  formula_read (CutL i h) ps all p =
      let first = first_premise _ _ ps p.premises_are all in
      readable h p.shape.1 (put_there IsSmall s.ante i h p.places first.small.ante) (put_there IsShallow s.ante i h p.places first.shallow.ante)
  formula_read (CutR j h) ps all p =
      let first = first_premise _ _ ps p.premises_are all in
      readable h p.shape.1 (put_there IsSmall s.succ j h p.places first.small.succ) (put_there IsShallow s.succ j h p.places first.shallow.succ)
  formula_read _ ps all p = tt

  by_shape : (a : Arguments) → EachPlace IsLineNumber a → IsFormulaRead a → AreProper a → AreWritable a
  by_shape (OnePlace i) places formula name = places
  by_shape (TwoPlaces i k) places formula name = places
  by_shape (PlaceAndFormula i h) places formula name = (places, formula)
  by_shape (OneFormula h) places formula name = formula
  by_shape (PlaceAndName i y) places formula name = (places, name)

  rule_writable : (rule : Rule) (premises : List Sequent) → All IsLimitedSequent premises → IsProperRule rule → Premises rule s premises → IsWritableRule rule
  rule_writable rule ps all proper p =
      let places = each_place IsLineNumber s.ante s.succ one_left one_right rule p.places in
      by_shape (arguments_of rule) places (formula_read rule ps all p) proper

-- a replacement within a limit that no replacement passes
pair_within : (measure : Tree → ℕ) (limit : ℕ) (pairs : List Pair) → ¬ ¬ All (λ (q : Pair). measure q.by ≤ limit) pairs → (k : ℕ) (d : Pair) →
    k < length pairs →
    measure (get_or pairs k d).by ≤ limit
pair_within measure limit pairs none k d lt = elim (cases_lt limit (measure (get_or pairs k d).by)) [
  | inl more ↦ absurd (none (λ each. omega (arith, more, each k d lt)))
  | inr le ↦ le
]

pairs_readable : (fact : ℕ) (pairs : List Pair) (p : Provable) → HasSymbols (Substitute fact pairs) → IsWellFormed pairs → AreWellMade pairs →
    IsWithin (Substitute fact pairs) p →
    All IsReadablePair pairs
pairs_readable fact pairs p symbols well made within = λ k d lt. record {
  is_symbol = symbols k d lt;
  is_replacement = pairs_of_kind pairs well k d lt;
  well_made = made k d lt;
  limits = record {
    small = pair_within size most_nodes pairs (λ none. within TooBig (too_big (λ (each : EachNew IsSmall (Substitute fact pairs) p). none each.0))) k d lt;
    shallow = pair_within depth greatest_depth pairs
        (λ none. within TooDeep (too_deep (λ (each : EachNew IsShallow (Substitute fact pairs) p). none each.0))) k d lt;
  };
}

module _ (rows : List Provable) (all : All IsLimited rows) (few : length rows < most_rows) where
  fact_number : (fact : ℕ) (p : Provable) → At rows fact p → IsLineNumber fact
  fact_number fact p at = place_number rows fact most_rows (omega (arith, few)) (omega arith) (At_place rows fact p at)

  given_writable : (step : Step) (p : Provable) → Gives rows step p → IsWithin step p → IsLimited p → HasSymbols step → IsWritable step
  given_writable _ _ (start s is) within limited symbols = sequent_readable s is limited.conclusion
  given_writable _ _ (use_axiom name a found) within limited symbols = axiom_name name a found
  given_writable _ _ (use_rule name r found) within limited symbols = rule_name name r found
  given_writable _ _ (leaf s is real) within limited symbols = sequent_readable s is limited.conclusion
  given_writable _ _ (apply fact goal rule q s premises at_fact at_goal proper made) within limited symbols =
      let old = At_All IsLimited rows fact q all at_fact in
      let sequent = At_All IsLimitedSequent q.goals goal s old.goals at_goal in
      let new = All-behind IsLimitedSequent (take (goal - 1) q.goals) premises
      (All-front IsLimitedSequent (take (goal - 1) q.goals ++ premises) (drop goal q.goals) limited.goals) in
      (fact_number fact q at_fact, goal_number s q goal old at_goal, rule_writable s sequent rule premises new proper made)
  given_writable _ _ (merge fact goal by q r new at_fact at_by at_goal are) within limited symbols =
      (fact_number fact q at_fact, goal_number r.conclusion q goal (At_All IsLimited rows fact q all at_fact) at_goal, fact_number by r at_by)
  given_writable _ _ (substitute fact pairs q r at_fact made well free are) within limited symbols =
      (fact_number fact q at_fact, pairs_readable fact pairs r symbols well made within)
  given_writable _ _ (rename fact x y q at_fact first second) within limited symbols = (fact_number fact q at_fact, first, second)

-- a step that is taken on rows within the limits
pub taken_writable : (rows : List Provable) (step : Step) (p : Provable) → All IsLimited rows → HasSymbols step → StepOf rows step p → IsWritable step
taken_writable rows step p all symbols is =
    let t = (taken_as_given rows step p).0 is in
    given_writable rows all t.2 step p t.0 t.1 (step_limited rows step p all is) symbols
