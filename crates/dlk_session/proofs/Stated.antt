-- The step that states a formula.
use Rattle.std.proofs.Common.{◌≡◌, List, [], ◌∷◌, None, refl, sym, ap, subst, ◌∙◌, arith}
use Rattle.std.proofs.lemmas.List.Elements.{All-nil, All-cons}
use Rattle.dlk_tree.specs.Trees.{Tree}
use Rattle.dlk_store.specs.declared.Id.{Id}
use Rattle.dlk_store.specs.Stores.{Keeps, IsId, tree}
use Rattle.dlk_calculus.specs.declared.reason.Reason.{Reason}
use Rattle.dlk_calculus.specs.Limits.{IsSmall, IsShallow}
use Rattle.dlk_calculus.specs.Sequents.{alone_right, IsFormula}
use Rattle.dlk_calculus.specs.Provables.{Provable, started}
use Rattle.dlk_calculus.specs.Steps.{Start, start, Against, Fault, Adds}
use Rattle.dlk_sequent.specs.declared.sequent.Sequent.{Sequent}
use Rattle.dlk_sequent.specs.Sequents.{IsKnown}
use Rattle.dlk_rules.specs.declared.step.Step.TheVariants as step
use Rattle.dlk_rules.specs.Steps.{step_at, HasKnownIds}
use Rattle.dlk_kernel.specs.Kernel.{State, facts}
use Rattle.dlk_kernel.proofs.Starting.{alone_is, started_is, none_against, no_facts}
use Rattle.dlk_session.specs.Sessions.{Begins}
use Rattle.dlk_session.specs.Sessions.{State as Session}

abbrev alone : Id → Sequent
alone model = record { ante = []; succ = model ∷ [] }

-- the kernel takes the step
pub not_refused : {S : Type 0} (trees : S → List Tree) (k : State S) (s : Sequent) (model : Id) (why : Reason) → k.rows ≡ [] → s ≡ alone model →
    IsFormula (tree (trees k.store) model) → IsSmall (tree (trees k.store) model) → IsShallow (tree (trees k.store) model) →
    Fault (facts trees k) (step_at (trees k.store) (step.Start s)) why → ⊥
not_refused trees k s model why none is formed small shallow fault =
    let by_rows = subst (λ (rows : List Provable). Against rows (step_at (trees k.store) (step.Start s)) why) (no_facts trees k none) fault.against in
    none_against (tree (trees k.store) model) why formed small shallow
    (subst (λ (t : Sequent). Against [] (step_at (trees k.store) (step.Start t)) why) is by_rows)

-- and adds its row
pub stated_row : {S : Type 0} (trees : S → List Tree) (k : State S) (after : List Provable) (s : Sequent) (model : Id) → k.rows ≡ [] → s ≡ alone model →
    Adds (facts trees k) (step_at (trees k.store) (step.Start s)) after → Adds [] (Start (alone_right (tree (trees k.store) model))) after
stated_row trees k after s model none is adds =
    let by_rows = subst (λ (rows : List Provable). Adds rows (step_at (trees k.store) (step.Start s)) after) (no_facts trees k none) adds in
    subst (λ (t : Sequent). Adds [] (step_at (trees k.store) (step.Start t)) after) is by_rows

pub stated_step : (old new : List Tree) (s : Sequent) (model : Id) → Keeps old new → IsId old model → s ≡ alone model →
    step_at new (step.Start s) ≡ Start (alone_right (tree old model))
stated_step old new s model keeps known is = ap (λ (t : Sequent). step_at new (step.Start t)) is
    ∙ ap (λ (t : Tree). Start (alone_right t)) (keeps.same model known)

pub stated_known : (old new : List Tree) (s : Sequent) (model : Id) → Keeps old new → IsId old model → s ≡ alone model → HasKnownIds new (step.Start s)
stated_known old new s model keeps known is =
    let id : IsId new model = omega (arith, keeps.known, known) in
    let sequent : IsKnown new (alone model) = record { ante = All-nil (IsId new); succ = All-cons (IsId new) model [] id (All-nil (IsId new)) } in
    subst (λ (t : Sequent). IsKnown new t) (sym is) sequent

-- a session begins in one way
pub begins_one : (formula : Tree) (a b : Session) → Begins formula a → Begins formula b → a ≡ b
begins_one formula a b p q =
    let same : p.provable ≡ q.provable =
    started_is (alone_right formula) p.provable p.start.given ∙ sym (started_is (alone_right formula) q.provable q.start.given) in
    p.is ∙ (λ i. record { steps = Start (alone_right formula) ∷ []; rows = same i ∷ []; earlier = []; used = 0; saved = None }) ∙ sym q.is

pub starts : (formula : Tree) → IsFormula formula → IsSmall formula → IsShallow formula → (now : Session) × Begins formula now
starts formula is small shallow = (
  record { steps = Start (alone_right formula) ∷ []; rows = started (alone_right formula) ∷ []; earlier = []; used = 0; saved = None },
  record {
    provable = started (alone_right formula);
    start = record {
      given = start (alone_right formula) (alone_is formula is);
      allowed = λ why. none_against formula why is small shallow;
    };
    is = refl;
  },
)
