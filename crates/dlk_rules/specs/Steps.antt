-- What rules and steps over ids stand for.
use Rattle.std.specs.Prelude.{◌≡◌, ℕ, List, [], ◌∷◌, map, Option, Some, None, All}
use Rattle.std.specs.Global.{Vec}
use Rattle.dlk_tree.specs.declared.op.Sort.TheVariants.{Formula}
use Rattle.dlk_tree.specs.Trees.{Tree, sort}
use Rattle.dlk_store.specs.declared.Id.{Id}
use Rattle.dlk_store.specs.Stores.{IsId, tree}
use Rattle.dlk_calculus.specs.declared.reason.Reason.{Reason}
use Rattle.dlk_calculus.specs.declared.reason.Reason.TheVariants.{NoPlace, WrongShape, NotEqual, NotFresh}
use Rattle.dlk_calculus.specs.Rules.{Rule as TreeRule, Close, CloseTrue, CloseFalse, NotL, NotR, AndL, AndR, OrL, OrR, ImplyL, ImplyR, EquivL, EquivR}
use Rattle.dlk_calculus.specs.Rules.{Cut, CutL, CutR, HideL, HideR, CoHideR, ExchangeL, ExchangeR, SkolemL, SkolemR, BoundL, BoundR, EquivifyR}
use Rattle.dlk_calculus.specs.Rules.{CommuteEquivL, CommuteEquivR, Premises}
use Rattle.dlk_calculus.specs.Steps.{Step as TreeStep, Start, UseAxiom, UseRule, Leaf, Apply, Merge, Substitute, Rename}
use Rattle.dlk_sequent.specs.declared.sequent.Sequent.{Sequent}
use Rattle.dlk_sequent.specs.Sequents.{sequent_at, IsKnown}
use Rattle.dlk_sequent.specs.Substitutions.{pairs_at, AreKnownPairs}
use Rattle.dlk_rules.specs.declared.arguments.Side.{Side}
use Rattle.dlk_rules.specs.declared.arguments.Side.TheVariants.{Left, Right}
use Rattle.dlk_rules.specs.declared.rule.Rule.{Rule}
use Rattle.dlk_rules.specs.declared.rule.Rule.TheVariants as rule
use Rattle.dlk_rules.specs.declared.rule.RuleWord.{RuleWord}
use Rattle.dlk_rules.specs.declared.rule.RuleWord.TheVariants as word
use Rattle.dlk_rules.specs.declared.rule.RuleFault.{RuleFault}
use Rattle.dlk_rules.specs.declared.rule.RuleFault.TheVariants as fault
use Rattle.dlk_rules.specs.declared.step.Step.{Step}
use Rattle.dlk_rules.specs.declared.step.Step.TheVariants as step

-- A rule over ids by its constructor over trees and its arguments, of which a formula is still an id.
pub data Form : Type 0 where
  OfPlace : (ℕ → TreeRule) → ℕ → Form
  OfTwoPlaces : (ℕ → ℕ → TreeRule) → ℕ → ℕ → Form
  OfPlaceAndFormula : (ℕ → Tree → TreeRule) → ℕ → Id → Form
  OfFormula : (Tree → TreeRule) → Id → Form
  OfPlaceAndName : (ℕ → List ℕ → TreeRule) → ℕ → List ℕ → Form

abbrev pub form : Rule → Form
form (rule.Close i j) = OfTwoPlaces Close i j
form (rule.CloseTrue j) = OfPlace CloseTrue j
form (rule.CloseFalse i) = OfPlace CloseFalse i
form (rule.NotL i) = OfPlace NotL i
form (rule.NotR j) = OfPlace NotR j
form (rule.AndL i) = OfPlace AndL i
form (rule.AndR j) = OfPlace AndR j
form (rule.OrL i) = OfPlace OrL i
form (rule.OrR j) = OfPlace OrR j
form (rule.ImplyL i) = OfPlace ImplyL i
form (rule.ImplyR j) = OfPlace ImplyR j
form (rule.EquivL i) = OfPlace EquivL i
form (rule.EquivR j) = OfPlace EquivR j
form (rule.Cut h) = OfFormula Cut h
form (rule.CutL i h) = OfPlaceAndFormula CutL i h
form (rule.CutR j h) = OfPlaceAndFormula CutR j h
form (rule.HideL i) = OfPlace HideL i
form (rule.HideR j) = OfPlace HideR j
form (rule.CoHideR j) = OfPlace CoHideR j
form (rule.ExchangeL i k) = OfTwoPlaces ExchangeL i k
form (rule.ExchangeR j l) = OfTwoPlaces ExchangeR j l
form (rule.SkolemL i) = OfPlace SkolemL i
form (rule.SkolemR j) = OfPlace SkolemR j
form (rule.BoundL i y) = OfPlaceAndName BoundL i y
form (rule.BoundR j y) = OfPlaceAndName BoundR j y
form (rule.EquivifyR j) = OfPlace EquivifyR j
form (rule.CommuteEquivL i) = OfPlace CommuteEquivL i
form (rule.CommuteEquivR j) = OfPlace CommuteEquivR j

-- the rule over the trees of its ids
abbrev pub made_at : List Tree → Form → TreeRule
made_at trees (OfPlace make i) = make i
made_at trees (OfTwoPlaces make i k) = make i k
made_at trees (OfPlaceAndFormula make i h) = make i (tree trees h)
made_at trees (OfFormula make h) = make (tree trees h)
made_at trees (OfPlaceAndName make i y) = make i y

abbrev pub rule_at : List Tree → Rule → TreeRule
rule_at trees r = made_at trees (form r)

-- its ids are those of the store
abbrev pub FormIsKnown : List Tree → Form → Type 0
FormIsKnown trees (OfPlace make i) = Unit {0}
FormIsKnown trees (OfTwoPlaces make i k) = Unit {0}
FormIsKnown trees (OfPlaceAndFormula make i h) = IsId trees h
FormIsKnown trees (OfFormula make h) = IsId trees h
FormIsKnown trees (OfPlaceAndName make i y) = Unit {0}

abbrev pub RuleIsKnown : List Tree → Rule → Type 0
RuleIsKnown trees r = FormIsKnown trees (form r)

-- A rule that lacks its arguments.
pub data Template : Type 0 where
  WantsPlace : (ℕ → TreeRule) → Template
  WantsTwoPlaces : (ℕ → ℕ → TreeRule) → Template
  WantsPlaceAndFormula : (ℕ → Tree → TreeRule) → Template
  WantsFormula : (Tree → TreeRule) → Template
  WantsPlaceAndName : (ℕ → List ℕ → TreeRule) → Template

-- The rule of each word, and the side that all its places are on: `close` has one on each side, and `cut` has none.
abbrev pub entry : RuleWord → Template × Option Side
entry word.Close = (WantsTwoPlaces Close, None)
entry word.CloseTrue = (WantsPlace CloseTrue, Some Right)
entry word.CloseFalse = (WantsPlace CloseFalse, Some Left)
entry word.NotL = (WantsPlace NotL, Some Left)
entry word.NotR = (WantsPlace NotR, Some Right)
entry word.AndL = (WantsPlace AndL, Some Left)
entry word.AndR = (WantsPlace AndR, Some Right)
entry word.OrL = (WantsPlace OrL, Some Left)
entry word.OrR = (WantsPlace OrR, Some Right)
entry word.ImplyL = (WantsPlace ImplyL, Some Left)
entry word.ImplyR = (WantsPlace ImplyR, Some Right)
entry word.EquivL = (WantsPlace EquivL, Some Left)
entry word.EquivR = (WantsPlace EquivR, Some Right)
entry word.Cut = (WantsFormula Cut, None)
entry word.CutL = (WantsPlaceAndFormula CutL, Some Left)
entry word.CutR = (WantsPlaceAndFormula CutR, Some Right)
entry word.HideL = (WantsPlace HideL, Some Left)
entry word.HideR = (WantsPlace HideR, Some Right)
entry word.CoHideR = (WantsPlace CoHideR, Some Right)
entry word.ExchangeL = (WantsTwoPlaces ExchangeL, Some Left)
entry word.ExchangeR = (WantsTwoPlaces ExchangeR, Some Right)
entry word.SkolemL = (WantsPlace SkolemL, Some Left)
entry word.SkolemR = (WantsPlace SkolemR, Some Right)
entry word.BoundL = (WantsPlaceAndName BoundL, Some Left)
entry word.BoundR = (WantsPlaceAndName BoundR, Some Right)
entry word.EquivifyR = (WantsPlace EquivifyR, Some Right)
entry word.CommuteEquivL = (WantsPlace CommuteEquivL, Some Left)
entry word.CommuteEquivR = (WantsPlace CommuteEquivR, Some Right)

abbrev pub template : RuleWord → Template
template word = (entry word).0

abbrev pub side_of : RuleWord → Option Side
side_of word = (entry word).1

-- the step over the trees of its ids
abbrev pub step_at : List Tree → Step → TreeStep
step_at trees (step.Start s) = Start (sequent_at trees s)
step_at trees (step.Axiom name) = UseAxiom name
step_at trees (step.AxRule name) = UseRule name
step_at trees (step.Leaf s) = Leaf (sequent_at trees s)
step_at trees (step.Apply fact goal r) = Apply fact goal (rule_at trees r)
step_at trees (step.Merge fact goal by) = Merge fact goal by
step_at trees (step.Subst fact pairs) = Substitute fact (pairs_at trees pairs)
step_at trees (step.Rename fact x y) = Rename fact x y

-- the ids of a step are those of the store
abbrev pub HasKnownIds : List Tree → Step → Type 0
HasKnownIds trees (step.Start s) = IsKnown trees s
HasKnownIds trees (step.Axiom name) = Unit {0}
HasKnownIds trees (step.AxRule name) = Unit {0}
HasKnownIds trees (step.Leaf s) = IsKnown trees s
HasKnownIds trees (step.Apply fact goal r) = RuleIsKnown trees r
HasKnownIds trees (step.Merge fact goal by) = Unit {0}
HasKnownIds trees (step.Subst fact pairs) = AreKnownPairs trees pairs
HasKnownIds trees (step.Rename fact x y) = Unit {0}

-- the facts that are there, of those that a step may name
abbrev pub facts_in : List (Option ℕ) → List ℕ
facts_in [] = []
facts_in (None ∷ rest) = facts_in rest
facts_in (Some fact ∷ rest) = fact ∷ facts_in rest

-- the ids of the sequent are those of the store, and stand for trees of formula sort
pub record IsOfFormulas (trees : List Tree) (s : Sequent) : Type 0 where
  pub known : IsKnown trees s
  pub ante : All (λ t. sort t ≡ Formula) (sequent_at trees s).ante
  pub succ : All (λ t. sort t ≡ Formula) (sequent_at trees s).succ

-- these sequents of the new trees are the premises that the rule makes of the sequent of old ones
pub record ArePremises (rule : TreeRule) (old : List Tree) (s : Sequent) (new : List Tree) (all : Vec Sequent) : Type 0 where
  pub premises : Premises rule (sequent_at old s) (map (sequent_at new) all.items)
  pub known : All (IsKnown new) all.items

-- the reason of this fault is one of those allowed: want of memory always is
abbrev pub IsRuleFault : (Reason → Type 0) → RuleFault → Type 0
IsRuleFault allowed fault.NoPlace = allowed NoPlace
IsRuleFault allowed fault.WrongShape = allowed WrongShape
IsRuleFault allowed fault.NotEqual = allowed NotEqual
IsRuleFault allowed fault.NotFresh = allowed NotFresh
IsRuleFault allowed fault.Memory = Unit {0}
