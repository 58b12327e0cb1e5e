-- An atom gives steps or has a fault.
use Rattle.std.proofs.Common.{◌≡◌, ◌≢◌, ℕ, ◌+◌, true, false, List, [], ◌∷◌, ◌++◌, length, Option, Some, None, sym, ap, subst, ◌∙◌, ◌⊎◌, inl, inr}
use Rattle.std.specs.Prelude.{codes, IsTrue}
use Rattle.std.specs.List.{All}
use Rattle.std.specs.Str.{bytes_eq}
use Rattle.std.proofs.lemmas.Bool.{cases_Bool, or_cases}
use Rattle.std.proofs.lemmas.Option.{same_Some}
use Rattle.std.proofs.lemmas.List.Elements.{All-nil, All-cons, All-head}
use Rattle.std.proofs.lemmas.Slice.Eq.{bytes_eq-Decides}
use Rattle.dlk_tree.specs.Trees.{Tree}
use Rattle.dlk_calculus.specs.declared.reason.Reason.{Reason}
use Rattle.dlk_calculus.specs.declared.reason.Reason.TheVariants.{NotEqual}
use Rattle.dlk_calculus.specs.Pairs.{Extra}
use Rattle.dlk_calculus.specs.Sequents.{Sequent, IsSequent}
use Rattle.dlk_calculus.specs.Provables.{Provable, HasFormulas}
use Rattle.dlk_calculus.specs.Rules.{Close, Arguments, arguments_of, AreProper}
use Rattle.dlk_calculus.specs.Steps.{Step, Leaf, Apply, Merge, IsProper, Fault, StepOf}
use Rattle.dlk_rules.specs.declared.rule.RuleWord.{RuleWord}
use Rattle.dlk_rules.specs.declared.rule.RuleWord.TheVariants as word
use Rattle.dlk_rules.specs.declared.arguments.Side.{Side}
use Rattle.dlk_rules.specs.Steps.{side_of}
use Rattle.dlk_rules.specs.Words.{text_of, wanted}
use Rattle.dlk_rules.proofs.WordLaws.{rule_made}
use Rattle.dlk_match.specs.Matching.{Match}
use Rattle.dlk_tacsyn.specs.declared.kind.Kind.TheVariants.{AnyPlace, QuotedFormula}
use Rattle.dlk_tacsyn.specs.Tactics.{Atom, Argument, Word}
use Rattle.dlk_tacsyn.specs.Rows.{Row, wants, row_of, is_bare, is_use, kinds_of, AreOfKinds, IsFitting}
use Rattle.dlk_uses.specs.Uses.{Direction, Forwards, Backwards}
use Rattle.dlk_elab.specs.Atoms.{asked as by_asking}
use Rattle.dlk_elab.specs.Atoms.{uses, Instance, instance_of, not_instantiated, not_used, FailWhy, NoPlace, AtStep, AreFor, one_place, two_places}
use Rattle.dlk_elab.specs.Atoms.{place_and_formula, one_formula, place_and_name, HasNoLocator, IsNamed, HasNames, HasGoalAt, Asked, Steps, Refused}
use Rattle.dlk_elab.specs.Atoms.{Asks, nil, close, nothing_same, leaf, a_rule, elsewhere, AtomSteps, AtomFault, asks_none, not_taken}
use Rattle.dlk_elab.specs.Atoms.{word_of_direction}
use Rattle.dlk_elab.specs.Calls.{IsPlain}
use Rattle.dlk_elab.proofs.BoxWants.{wants_generalize, wants_cut}
use Rattle.dlk_elab.proofs.CallsFit.{row_of_generalize, row_of_cut, use_row, row_of_use, row_of_use_back}
use Rattle.dlk_elab.proofs.Decided.{same_decided}
use Rattle.dlk_elab.proofs.Fitting.{answers}
use Rattle.dlk_elab.proofs.MergesFit.{goal_formulas}
use Rattle.dlk_elab.proofs.Names.{Bare, is_nil, is_close, is_leaf, bare, Named, named_rule}
use Rattle.dlk_elab.proofs.ProperUses.{Laws}
use Rattle.dlk_elab.proofs.TakenLaws.{all_or_fault}
use Rattle.dlk_elab.proofs.UseWants.{wants_use}
use Rattle.dlk_elab.proofs.Wants.{Wants, AreProperSteps}

-- names among the arguments of an atom are those of the rule
proper_for : (side : Option Side) (given : List Argument) (a : Arguments) → All IsNamed given → AreFor side given a → AreProper a
proper_for side _ _ names (one_place h) = tt
proper_for side _ _ names (two_places h j) = tt
proper_for side _ _ names (place_and_formula t h) = tt
proper_for side _ _ names (one_formula t) = tt
proper_for side _ _ names (place_and_name {a} y h) = All-head IsNamed (Word y) (a ∷ []) names

alone : (step : Step) → IsProper step → All IsProper (step ∷ [])
alone step h = All-cons IsProper step [] h (All-nil IsProper)

-- a name that is of no atom for a box, and of none that uses an axiom
plain_name : (name : List ℕ) → bytes_eq name (codes "G") ≡ false → bytes_eq name (codes "boxCut") ≡ false → is_use name ≡ false → IsPlain name
plain_name name a b c = record { no_generalize = a; no_cut = b; no_use = c }

module _ (rows : List Provable) (fact goal : ℕ) (s : Sequent) (atom : Atom) where
  wants_bare : Bare atom.name → Wants rows fact goal s atom
  wants_bare (is_nil name) = record { asked = Steps []; asks = nil name; proper = All-nil IsProper }
  wants_bare (is_close name) =
      elim (same_decided s) [
        | inl found ↦ record {
          asked = Steps (Apply fact goal (Close found.0 found.1) ∷ []);
          asks = close name found.2;
          proper = alone (Apply fact goal (Close found.0 found.1)) tt;
        }
        | inr none ↦ record { asked = Refused (AtStep NotEqual); asks = nothing_same name none; proper = tt }
      ]
  wants_bare (is_leaf name) = record {
    asked = Steps (Leaf s ∷ Merge fact goal (length rows + 1) ∷ []);
    asks = leaf name;
    proper = All-cons IsProper (Leaf s) (Merge fact goal (length rows + 1) ∷ []) tt (alone (Merge fact goal (length rows + 1)) tt);
  }

  wants_rule : (w : RuleWord) → text_of w ≡ atom.name → w ≢ word.Close → AreOfKinds (kinds_of (wanted w)) None atom.arguments → HasNoLocator atom →
      HasNames atom → Wants rows fact goal s atom
  wants_rule w name other kinds fixed names =
      elim (answers w atom.arguments other kinds fixed) [
        | inl said ↦
            let made = rule_made w said.arguments (sym said.shape_is) in
            let for : AreFor (side_of w) atom.arguments (arguments_of made.0) = subst (AreFor (side_of w) atom.arguments) (sym made.2) said.for in
            record {
              asked = Steps (Apply fact goal made.0 ∷ []);
              asks = a_rule w made.0 (sym name) made.1 for;
              proper = alone (Apply fact goal made.0) (proper_for (side_of w) atom.arguments (arguments_of made.0) names for);
            }
        | inr one ↦ record { asked = Refused NoPlace; asks = elsewhere w one.side (sym name) one.side_is one.one; proper = tt }
      ]

  not_close : (w : RuleWord) → text_of w ≡ atom.name → is_bare atom.name ≡ false → w ≢ word.Close
  not_close w name other e =
      let f : is_bare (text_of word.Close) ≡ false = subst (λ n. is_bare n ≡ false) (sym name ∙ ap text_of e) other in cc

  module _ (laws : Laws)
      (matched : (own : List (List ℕ)) (key e : Tree) (given : Extra) →
      ((extra : Extra) × Match key own e given extra) ⊎ ((extra : Extra) → ¬ Match key own e given extra))
      (formulas : IsSequent s) (fitting : IsFitting atom) (fixed : HasNoLocator atom) (names : HasNames atom) where
    -- the arguments are of the kinds of the name's row
    kinds_are : (row : Row) → row_of atom.name ≡ Some row → AreOfKinds row.wanted row.optional atom.arguments
    kinds_are row e =
        subst (λ (r : Row). AreOfKinds r.wanted r.optional atom.arguments) (same_Some fitting.row row (sym fitting.row_is ∙ e)) fitting.arguments

    wants_named : is_bare atom.name ≡ false → IsPlain atom.name → Wants rows fact goal s atom
    wants_named other plain =
        let n : Named atom.name fitting.row = named_rule atom.name fitting.row other plain fitting.row_is in
        let kinds : AreOfKinds (kinds_of (wanted n.word)) None atom.arguments =
        subst (λ (r : Row). AreOfKinds r.wanted r.optional atom.arguments) n.wants fitting.arguments in
        wants_rule n.word n.text (not_close n.word n.text other) kinds fixed names

    wants_at : (direction : Direction) → atom.name ≡ word_of_direction direction → Wants rows fact goal s atom
    wants_at Forwards name =
        wants_use laws matched rows fact goal s atom formulas Forwards name fixed names (kinds_are use_row (ap row_of name ∙ row_of_use))
    wants_at Backwards name =
        wants_use laws matched rows fact goal s atom formulas Backwards name fixed names (kinds_are use_row (ap row_of name ∙ row_of_use_back))

    is_name : (word : List ℕ) → bytes_eq atom.name word ≡ true → atom.name ≡ word
    is_name word same = (bytes_eq-Decides atom.name word).0 same

    wants_with_use : IsTrue (is_use atom.name) → Wants rows fact goal s atom
    wants_with_use u =
        elim (or_cases (bytes_eq atom.name (codes "useAt")) (bytes_eq atom.name (codes "useBack")) u) [
          | inl same ↦ wants_at Forwards (is_name (codes "useAt") same)
          | inr same ↦ wants_at Backwards (is_name (codes "useBack") same)
        ]

    wants_generalizing : bytes_eq atom.name (codes "G") ≡ true → Wants rows fact goal s atom
    wants_generalizing same =
        let name = is_name (codes "G") same in
        wants_generalize rows fact goal s atom formulas fixed name (kinds_are (wants (AnyPlace ∷ [])) (ap row_of name ∙ row_of_generalize))

    wants_cutting : bytes_eq atom.name (codes "boxCut") ≡ true → Wants rows fact goal s atom
    wants_cutting same =
        let name = is_name (codes "boxCut") same in
        wants_cut rows fact goal s atom formulas fixed name (kinds_are (wants (QuotedFormula ∷ AnyPlace ∷ [])) (ap row_of name ∙ row_of_cut))

    wants_some : Wants rows fact goal s atom
    wants_some =
        elim (cases_Bool (is_bare atom.name)) [
          | inl b ↦ wants_bare (bare atom.name b)
          | inr other ↦ elim (cases_Bool (bytes_eq atom.name (codes "G"))) [
            | inl same ↦ wants_generalizing same
            | inr no_generalize ↦ elim (cases_Bool (bytes_eq atom.name (codes "boxCut"))) [
              | inl same ↦ wants_cutting same
              | inr no_cut ↦ elim (cases_Bool (is_use atom.name)) [
                | inl u ↦ wants_with_use u
                | inr no_use ↦ wants_named other (plain_name atom.name no_generalize no_cut no_use)
              ]
            ]
          ]
        ]

-- an atom gives steps, or has a fault
pub some_atom : ((rows : List Provable) (step : Step) → IsProper step → ((p : Provable) × StepOf rows step p) ⊎ ((why : Reason) × Fault rows step why)) →
    Laws → ((own : List (List ℕ)) (key e : Tree) (given : Extra) →
    ((extra : Extra) × Match key own e given extra) ⊎ ((extra : Extra) → ¬ Match key own e given extra)) →
    (rows : List Provable) (fact goal : ℕ) (atom : Atom) → HasGoalAt rows fact goal → All HasFormulas rows → IsFitting atom → HasNoLocator atom →
    HasNames atom →
    ((s : List Step) × (a : List Provable) × AtomSteps rows fact goal atom s a) ⊎ ((why : FailWhy) × AtomFault rows fact goal atom why)
some_atom decide laws matched rows fact goal atom there formulas fitting fixed names =
    let w = wants_some rows fact goal there.0 atom laws matched (goal_formulas rows fact goal there.0 formulas there.1) fitting fixed names in
    decided w.asked w.asks w.proper
  where
    decided : (asked : Asked) → Asks (length rows) fact goal there.0 atom asked → AreProperSteps rows fact goal there.0 asked →
        ((s : List Step) × (a : List Provable) × AtomSteps rows fact goal atom s a) ⊎ ((why : FailWhy) × AtomFault rows fact goal atom why)
    decided (Steps steps) asks proper =
        elim (all_or_fault decide rows steps proper) [
          | inl taken ↦ inl (steps, taken.0, by_asking there.0 there.1 asks taken.1)
          | inr fault ↦ inr (AtStep fault.0, not_taken there.0 steps there.1 asks fault.1)
        ]
    decided (Instance used extra e) asks proper =
        let first = instance_of (length rows) used extra in
        elim (all_or_fault decide rows first proper.0) [
          | inl taken ↦
              let rest = proper.1 taken.0 taken.1 in
              elim (all_or_fault decide taken.0 rest.0 rest.2) [
                | inl others ↦ inl (first ++ rest.0, others.0, uses there.0 used extra e taken.0 rest.0 there.1 asks taken.1 rest.1 others.1)
                | inr fault ↦ inr (AtStep fault.0, not_used there.0 used extra e taken.0 rest.0 there.1 asks taken.1 rest.1 fault.1)
              ]
          | inr fault ↦ inr (AtStep fault.0, not_instantiated there.0 used extra e there.1 asks fault.1)
        ]
    decided (Refused why) asks proper = inr (why, asks_none there.0 there.1 asks)
