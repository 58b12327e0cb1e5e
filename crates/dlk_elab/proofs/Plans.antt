-- What atoms ask for, over ids.
use Rattle.std.proofs.Common.{◌≡◌, ◌≢◌, ℕ, ◌+◌, ◌++◌, false, List, [], ◌∷◌, None, map, sym, subst, ◌∙◌, inl, inr}
use Rattle.std.specs.Prelude.{codes, Result, Ok, Err, IfErr}
use Rattle.std.specs.Global.{Vec}
use Rattle.std.proofs.lemmas.List.Elements.{All-nil, All-cons}
use Rattle.dlk_tree.specs.Trees.{Tree}
use Rattle.dlk_calculus.specs.Sequents.{Sequent as TreeSequent}
use Rattle.dlk_sequent.specs.declared.sequent.Sequent.{Sequent}
use Rattle.dlk_sequent.specs.Sequents.{sequent_at, IsKnown}
use Rattle.dlk_rules.specs.declared.arguments.Arguments.{Arguments}
use Rattle.dlk_rules.specs.declared.rule.Rule.{Rule}
use Rattle.dlk_rules.specs.declared.rule.Rule.TheVariants as rule
use Rattle.dlk_rules.specs.declared.rule.RuleWord.{RuleWord}
use Rattle.dlk_rules.specs.declared.rule.RuleWord.TheVariants as word
use Rattle.dlk_rules.specs.declared.step.Step.{Step}
use Rattle.dlk_rules.specs.declared.step.Step.TheVariants as step
use Rattle.dlk_rules.specs.Steps.{rule_at, HasKnownIds, side_of}
use Rattle.dlk_rules.specs.Words.{text_of, wanted, arguments_at, ArgumentsAreKnown, IsCall}
use Rattle.dlk_tacsyn.specs.declared.tactic.Atom.{Atom}
use Rattle.dlk_tacsyn.specs.Tactics.{Atom as TreeAtom}
use Rattle.dlk_tacsyn.specs.Ties.{argument_at, atom_at}
use Rattle.dlk_tacsyn.specs.Rows.{Row, kinds_of, is_bare, IsFitting, AreOfKinds}
use Rattle.dlk_elab.specs.Calls.{IsPlain}
use Rattle.dlk_elab.specs.Atoms.{NoPlace, AreFor, HasNoLocator, Asks, Refused, AreFirstSame, nil, close, leaf, a_rule, elsewhere}
use Rattle.dlk_elab.specs.declared.fault.TacFault.{TacFault}
use Rattle.dlk_elab.specs.declared.fault.TacFault.TheVariants as fault
use Rattle.dlk_elab.specs.Ties.{HasNone, IsPlan, IsTacFault}
use Rattle.dlk_elab.proofs.Names.{row_of_word}
use Rattle.dlk_elab.proofs.Fitting.{answers}

module _ (rows fact goal : ℕ) (trees : List Tree) (s : Sequent) (atom : Atom) where
  pub plan_nil : atom.name ≡ codes "nil" → IsPlan rows fact goal trees s atom []
  plan_nil name = record { asks = nil name; known = All-nil (HasKnownIds trees) }

  pub plan_close : (i j : ℕ) → atom.name ≡ codes "close" → AreFirstSame (sequent_at trees s) i j →
      IsPlan rows fact goal trees s atom (step.Apply fact goal (rule.Close i j) ∷ [])
  plan_close i j name first =
      let one : Step = step.Apply fact goal (rule.Close i j) in
      record {
        asks = close name first;
        known = All-cons (HasKnownIds trees) one [] tt (All-nil (HasKnownIds trees));
      }

  pub same_plan : (steps more : List Step) → more ≡ steps → IsPlan rows fact goal trees s atom steps → IsPlan rows fact goal trees s atom more
  same_plan steps more e plan = subst (IsPlan rows fact goal trees s atom) (sym e) plan

  pub plan_leaf : IsKnown trees s → atom.name ≡ codes "leaf" → IsPlan rows fact goal trees s atom (step.Leaf s ∷ step.Merge fact goal (rows + 1) ∷ [])
  plan_leaf known name =
      let merge : Step = step.Merge fact goal (rows + 1) in
      record {
        asks = leaf name;
        known = All-cons (HasKnownIds trees) (step.Leaf s) (merge ∷ []) known (All-cons (HasKnownIds trees) merge [] tt (All-nil (HasKnownIds trees)));
      }

  pub plan_rule : (w : RuleWord) (a : Arguments (List ℕ)) (rule : Rule) →
      AreFor (side_of w) (map (argument_at trees) atom.args) (arguments_at (λ y. y) trees a) →
      ArgumentsAreKnown trees a → IsCall trees w a rule → atom.name ≡ text_of w →
      IsPlan rows fact goal trees s atom (step.Apply fact goal rule ∷ [])
  plan_rule w a rule for known call name = record {
    asks = a_rule w (rule_at trees rule) name call.word_is (subst (AreFor (side_of w) (map (argument_at trees) atom.args)) (sym call.arguments_are) for);
    known = All-cons (HasKnownIds trees) (step.Apply fact goal rule) [] (call.known known) (All-nil (HasKnownIds trees));
  }

-- where a fitting atom for a rule says no arguments of it, a place is elsewhere
pub no_place : (rows fact goal : ℕ) (s : TreeSequent) (atom : TreeAtom) (w : RuleWord) → atom.name ≡ text_of w → is_bare (text_of w) ≡ false →
    IsPlain (text_of w) →
    IsFitting atom → HasNoLocator atom → HasNone (wanted w) (side_of w) atom.arguments → Asks rows fact goal s atom (Refused NoPlace)
no_place rows fact goal s atom w name bare plain fitting fixed none =
    let row_is = row_of_word w fitting.row bare plain (rw name at fitting.row_is) in
    let are : AreOfKinds (kinds_of (wanted w)) None atom.arguments =
    subst (λ (r : Row). AreOfKinds r.wanted r.optional atom.arguments) row_is fitting.arguments in
    let other : w ≢ word.Close = λ e. not_bare w e bare in
    elim (answers w atom.arguments other are fixed) [
      | inl said ↦ absurd (none said.arguments said.shape_is said.for)
      | inr one ↦ elsewhere w one.side name one.side_is one.one
    ]
  where
    not_bare : (v : RuleWord) → v ≡ word.Close → is_bare (text_of v) ≡ false → ⊥
    not_bare v e b = let f : is_bare (text_of word.Close) ≡ false = rw e at b in cc

-- a step pushed onto no steps
pub pushed : (none more : List Step) (step one : Step) → more ≡ none ++ step ∷ [] → none ≡ [] → step ≡ one → more ≡ one ∷ []
pushed none more step one e empty same = e ∙ (λ i. empty i ++ same i ∷ [])

-- the fault of an atom for a rule
pub plan_place_fault : (rows fact goal : ℕ) (trees : List Tree) (s : TreeSequent) (atom : Atom) (w : RuleWord) → atom.name ≡ text_of w →
    is_bare (text_of w) ≡ false → IsPlain (text_of w) →
    IsFitting (atom_at trees atom) → HasNoLocator (atom_at trees atom) → (r : Result (Vec Step) TacFault) →
    IfErr r (IsTacFault (λ why. (why ≡ NoPlace) × ((ts : List Tree) → HasNone (wanted w) (side_of w) (map (argument_at ts) atom.args)))) →
    IfErr r (IsTacFault (λ why. Asks rows fact goal s (atom_at trees atom) (Refused why)))
plan_place_fault rows fact goal trees s atom w name bare plain fitting fixed (Ok steps) h = tt
plan_place_fault rows fact goal trees s atom w name bare plain fitting fixed (Err fault.NoPlace) h =
    no_place rows fact goal s (atom_at trees atom) w name bare plain fitting fixed (h.1 trees)
plan_place_fault rows fact goal trees s atom w name bare plain fitting fixed (Err fault.UnknownName) h = absurd (let e = h.0 in cc)
plan_place_fault rows fact goal trees s atom w name bare plain fitting fixed (Err fault.NoMatch) h = absurd (let e = h.0 in cc)
plan_place_fault rows fact goal trees s atom w name bare plain fitting fixed (Err (fault.Step why)) h = absurd (let e = h.0 in cc)
plan_place_fault rows fact goal trees s atom w name bare plain fitting fixed (Err fault.Memory) h = tt
