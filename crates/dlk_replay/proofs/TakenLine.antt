-- A line that was taken, or that is not as it must be, seen from its step or its node.
use Rattle.std.proofs.Common.{◌≡◌, ◌≢◌, false, refl, sym, ap, ◌∙◌, subst, ℕ, ◌+◌, List, length, inl, inr}
use Rattle.std.specs.Prelude.{◌==◌, All, if◌then◌else◌}
use Rattle.std.proofs.lemmas.Bool.{cases_Bool, eqb-true}
use Rattle.std.proofs.lemmas.List.Elements.{All-weaker}
use Rattle.dlk_tree.specs.Trees.{Tree}
use Rattle.dlk_calculus.specs.Provables.{Provable}
use Rattle.dlk_calculus.specs.Steps.{Step, Adds, Fault}
use Rattle.dlk_rules.specs.declared.step.Step.{Step as IdStep}
use Rattle.dlk_rules.specs.Steps.{step_at}
use Rattle.dlk_store.specs.declared.Id.{Id}
use Rattle.dlk_store.specs.Stores.{IsId, tree, Keeps, HasOneId}
use Rattle.dlk_sequent.proofs.Kept.{IsId-kept, trees-kept}
use Rattle.dlk_kernel.specs.declared.fault.StepFault.{StepFault}
use Rattle.dlk_kernel.specs.declared.fault.StepFault.TheVariants as step_fault
use Rattle.dlk_kernel.specs.Faults.{IsStepFault as IsRefused}
use Rattle.dlk_lines.specs.declared.fault.LineFault.{LineFault}
use Rattle.dlk_lines.specs.declared.fault.LineFault.TheVariants as line_fault
use Rattle.dlk_lines.specs.Read.{IsLineFaultOf}
use Rattle.dlk_termtext.specs.Lines as full
use Rattle.dlk_nodes.specs.Lines.{Line, OfNode, Numbered, Done, IsLine}
use Rattle.dlk_nodes.specs.Nodes.{has_node, IsNode, new_node, IsNodeLine, node_line}
use Rattle.dlk_nodes.specs.Tables.{nodes_at, has}
use Rattle.dlk_nodes.proofs.OneLine.{line_says}
use Rattle.dlk_nodes.proofs.Tables.{has_same}
use Rattle.dlk_replay.specs.declared.fault.LineWhy.TheVariants as why
use Rattle.dlk_replay.specs.declared.fault.ReplayFault.{ReplayFault}
use Rattle.dlk_replay.specs.declared.fault.ReplayFault.TheVariants.{Bad, Memory}
use Rattle.dlk_replay.specs.Formats.{Said, TakesStep, HasOtherNumber, TakesNone}
use Rattle.dlk_replay.specs.Replay.{IsLineInFull, IsNextStep, IsLineFault, IsStepFault, IsNodeFault, of_text, of_step}

-- ---- a number that isn't the next one

other_test : (n own : ℕ) (s : Said) → n ≢ own → (if n == own then s else HasOtherNumber) ≡ HasOtherNumber
other_test n own s other = elim (cases_Bool (n == own)) [
  | inl same ↦ absurd (other (eqb-true n own same))
  | inr unlike ↦ ap (λ b. if b then s else HasOtherNumber) unlike
]

module _ (Is : List ℕ → Line → Type 0) (text : List ℕ) where
  -- ---- steps

  pub step_taken : (old new : List Tree) (step : IdStep) (rows read after : List Provable) (number : ℕ) → step_at new step ≡ step_at old step →
      Is text (Numbered number (step_at old step)) → number ≡ length read + 1 → read ≡ rows → Adds read (step_at old step) after →
      IsNextStep Is rows text (step_at new step) after
  step_taken old new step rows read after number stays is place same adds =
      let own : number ≡ length rows + 1 = place ∙ ap (λ ps. length ps + 1) same in
      let next : IsNextStep Is rows text (step_at old step) after = record {
        its_line = subst (λ n. Is text (Numbered n (step_at old step))) own is;
        adds = subst (λ r. Adds r (step_at old step) after) same adds;
      } in
      subst (λ s. IsNextStep Is rows text s after) (sym stays) next

  pub step_wrong : (nodes place number : ℕ) (rows read : List Provable) (step : Step) (fault : ReplayFault) → Is text (Numbered number step) → read ≡ rows →
      IsStepFault place number read step fault → IsLineFault Is nodes place rows text fault
  step_wrong nodes place number rows read step (Bad at why.Malformed) is same wrong = absurd wrong
  step_wrong nodes place number rows read step (Bad at why.WrongNumber) is same (there, other) =
      let unlike : number ≢ length rows + 1 = subst (λ ps. number ≢ length ps + 1) same other in
      (there, (Numbered number step, is, other_test number (length rows + 1) (TakesStep step) unlike))
  step_wrong nodes place number rows read step (Bad at why.NoEnd) is same wrong = absurd wrong
  step_wrong nodes place number rows read step (Bad at (why.Step reason)) is same (there, own, fault) =
      let number_is : number ≡ length rows + 1 = own ∙ ap (λ ps. length ps + 1) same in
      (there, (step, subst (λ n. Is text (Numbered n step)) number_is is, subst (λ ps. Fault ps step reason) same fault))
  step_wrong nodes place number rows read step Memory is same wrong = tt

  -- ---- texts that say nothing

  pub text_wrong : (nodes place : ℕ) (rows : List Provable) (fault : LineFault) → IsLineFaultOf ((line : Line) → ¬ Is text line) fault →
      IsLineFault Is nodes place rows text (of_text place fault)
  text_wrong nodes place rows line_fault.Malformed none = (refl, none)
  text_wrong nodes place rows line_fault.Memory none = tt

  -- ---- nodes

  pub node_wrong : (nodes place number : ℕ) (rows : List Provable) (t : Tree) (fault : ReplayFault) → Is text (OfNode number t) →
      IsNodeFault place number nodes fault → IsLineFault Is nodes place rows text fault
  node_wrong nodes place number rows t (Bad at why.Malformed) is wrong = absurd wrong
  node_wrong nodes place number rows t (Bad at why.WrongNumber) is (there, other) =
      (there, (OfNode number t, is, other_test number (nodes + 1) TakesNone other))
  node_wrong nodes place number rows t (Bad at why.NoEnd) is wrong = absurd wrong
  node_wrong nodes place number rows t (Bad at (why.Step reason)) is wrong = absurd wrong
  node_wrong nodes place number rows t Memory is wrong = tt

-- ---- a step that the kernel doesn't take

-- ---- version 1

pub none_in_full : (text : List ℕ) → ((line : full.Line) → ¬ full.IsLine text line) → (line : Line) → ¬ IsLineInFull text line
none_in_full text none (OfNode n t) is = is
none_in_full text none (Numbered n s) is = none (full.Numbered n s) is
none_in_full text none Done is = none full.Done is

-- ---- version 2

node_new : (nodes : List Tree) (text : List ℕ) (t : Tree) → IsNode nodes text t → has_node nodes t ≡ false
node_new nodes _ _ (new_node names new) = new.new

line_new : (nodes : List Tree) (text : List ℕ) (n : ℕ) (t : Tree) → IsNodeLine nodes text n t → has_node nodes t ≡ false
line_new nodes _ _ _ (node_line {text = text} {t = t} counted is) = node_new nodes text t is

-- in a unique store the id of a new node has none yet
pub node_fresh : (old new : List Tree) (ids : List Id) (id : Id) (text : List ℕ) (n : ℕ) → Keeps old new → HasOneId new → All (IsId old) ids → IsId new id →
    IsLine (nodes_at old ids) text (OfNode n (tree new id)) → has ids id ≡ false
node_fresh old new ids id text n keeps one known its is =
    let same : nodes_at new ids ≡ nodes_at old ids = trees-kept keeps ids known in
    let there = All-weaker (IsId old) (IsId new) (IsId-kept keeps) ids known in
    has_same new one ids id there its ∙ ap (λ ns. has_node ns (tree new id)) same
    ∙ line_new (nodes_at old ids) text n (tree new id) (line_says (nodes_at old ids) text (OfNode n (tree new id)) is)
