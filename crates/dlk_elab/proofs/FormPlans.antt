-- The plans of equivalences and equations.
use Rattle.std.proofs.Common.{◌≡◌, ◌+◌, ℕ, List, [], ◌∷◌, ◌++◌, sym, subst}
use Rattle.std.specs.Prelude.{codes}
use Rattle.std.proofs.lemmas.List.Elements.{All-cons, All-nil}
use Rattle.dlk_tree.specs.declared.op.Op.TheVariants.{Dot, Hole}
use Rattle.dlk_tree.specs.Trees.{Tree}
use Rattle.dlk_store.specs.declared.Id.{Id}
use Rattle.dlk_store.specs.Stores.{IsId, tree, StandsFor}
use Rattle.dlk_calculus.specs.Notation.{leaf, eq}
use Rattle.dlk_calculus.specs.Paths.{put_at}
use Rattle.dlk_calculus.specs.Rules.{CutR}
use Rattle.dlk_calculus.specs.Sequents.{Sequent, alone_right}
use Rattle.dlk_calculus.specs.Steps.{Step as TreeStep, Start, UseRule, Leaf, Apply, Merge, Substitute}
use Rattle.dlk_sequent.specs.declared.subst.Pair.{Pair}
use Rattle.dlk_sequent.specs.declared.sequent.Place.{Place}
use Rattle.dlk_sequent.specs.Sequents.{IsKnown}
use Rattle.dlk_sequent.specs.Substitutions.{AreKnownPairs}
use Rattle.dlk_rules.specs.declared.step.Step.{Step}
use Rattle.dlk_uses.specs.Uses.{Direction, Forwards, Backwards, ◌~>◌, any_p, any_q, any_f, any_g, p_of_one, context_c, exchange, by_equivalence}
use Rattle.dlk_uses.specs.Uses.{by_equation, by_conditional_equation}
use Rattle.dlk_elab.specs.declared.spot.Spot.{Spot}
use Rattle.dlk_elab.specs.declared.forms.Exchanged.{Exchanged}
use Rattle.dlk_elab.specs.declared.forms.Equated.{Equated}
use Rattle.dlk_elab.specs.Forms.{contextual, with_equal_terms, under_condition, AreExchangeTrees, AreEquatedTrees}
use Rattle.dlk_elab.specs.Plans.{ArePlanned, spot_at}
use Rattle.dlk_elab.proofs.Turns.{both_planned, steps_known}

-- known ids of one, two and three pairs
known_one : (trees : List Tree) (p : Pair) → IsId trees p.by → AreKnownPairs trees (p ∷ [])
known_one trees p h = All-cons (λ (x : Pair). IsId trees x.by) p [] h (All-nil (λ (x : Pair). IsId trees x.by))

pub known_two : (trees : List Tree) (p q : Pair) → IsId trees p.by → IsId trees q.by → AreKnownPairs trees (p ∷ q ∷ [])
known_two trees p q h k = All-cons (λ (x : Pair). IsId trees x.by) p (q ∷ []) h (known_one trees q k)

pub known_three : (trees : List Tree) (p q r : Pair) → IsId trees p.by → IsId trees q.by → IsId trees r.by → AreKnownPairs trees (p ∷ q ∷ r ∷ [])
known_three trees p q r h k m = All-cons (λ (x : Pair). IsId trees x.by) p (q ∷ r ∷ []) h (known_two trees q r k m)

alone_known : (trees : List Tree) (id : Id) → IsId trees id → IsKnown trees (record { ante = []; succ = id ∷ [] })
alone_known trees id h = record { ante = All-nil (IsId trees); succ = All-cons (IsId trees) id [] h (All-nil (IsId trees)) }

-- Equivalences:

abbrev in_context_of : ℕ → Tree → Tree → Tree → List TreeStep
in_context_of now l r k =
    UseRule (codes "CE") ∷ Substitute (now + 1) ((any_p ~> l) ∷ (any_q ~> r) ∷ (context_c ~> k) ∷ []) ∷ Merge (now + 2) 1 now ∷ []

contextual_planned : (trees : List Tree) (now : ℕ) (x : Exchanged) (l r k : Tree) → StandsFor trees x.left l → StandsFor trees x.right r →
    StandsFor trees x.context k → ArePlanned trees (contextual now x) (in_context_of now l r k)
contextual_planned trees now x l r k left right context = record {
  are = λ i. in_context_of now (left.tree_is i) (right.tree_is i) (context.tree_is i);
  known = steps_known trees (contextual now x) (
    tt,
    (
      known_three trees (record { sym = any_p; by = x.left }) (record { sym = any_q; by = x.right })
          (record { sym = context_c; by = x.context }) left.known right.known context.known,
      (tt, tt),
    ),
  );
}

pub equivalence_planned : (trees : List Tree) (now : ℕ) (spot : Spot) (s : Sequent) (place : Place) (direction : Direction) (e : Tree) (path : List ℕ)
    (l r : Tree) (x : Exchanged) (first more steps : List Step) → AreExchangeTrees trees direction e path l r x → first ≡ contextual now x →
    ArePlanned trees more (exchange (now + 3) (now + 3) (spot_at spot s) place direction (tree trees x.new)) → steps ≡ first ++ more →
    ArePlanned trees steps (by_equivalence now (spot_at spot s) place direction e path l r)
equivalence_planned trees now spot s place Forwards e path l r x first more steps is first_is planned all =
    both_planned trees first more steps (in_context_of now l r (put_at e path (leaf Hole)))
    (exchange (now + 3) (now + 3) (spot_at spot s) place Forwards (put_at e path r))
    (subst (λ f. ArePlanned trees f (in_context_of now l r (put_at e path (leaf Hole)))) (sym first_is)
    (contextual_planned trees now x l r (put_at e path (leaf Hole)) is.left is.right is.context))
    (subst (λ t. ArePlanned trees more (exchange (now + 3) (now + 3) (spot_at spot s) place Forwards t)) is.new.tree_is planned)
    all
equivalence_planned trees now spot s place Backwards e path l r x first more steps is first_is planned all =
    both_planned trees first more steps (in_context_of now l r (put_at e path (leaf Hole)))
    (exchange (now + 3) (now + 3) (spot_at spot s) place Backwards (put_at e path l))
    (subst (λ f. ArePlanned trees f (in_context_of now l r (put_at e path (leaf Hole)))) (sym first_is)
    (contextual_planned trees now x l r (put_at e path (leaf Hole)) is.left is.right is.context))
    (subst (λ t. ArePlanned trees more (exchange (now + 3) (now + 3) (spot_at spot s) place Backwards t)) is.new.tree_is planned)
    all

-- Equations:

abbrev equal_in : ℕ → Tree → Tree → Tree → List TreeStep
equal_in now l r d =
    UseRule (codes "CQ") ∷ Substitute (now + 1) ((any_f ~> l) ∷ (any_g ~> r) ∷ []) ∷ Merge (now + 2) 1 now ∷ Substitute (now + 3) ((p_of_one ~> d) ∷ []) ∷ []

equal_planned : (trees : List Tree) (now : ℕ) (y : Equated) (l r d : Tree) → StandsFor trees y.left l → StandsFor trees y.right r →
    StandsFor trees y.context d → ArePlanned trees (with_equal_terms now y) (equal_in now l r d)
equal_planned trees now y l r d left right context = record {
  are = λ i. equal_in now (left.tree_is i) (right.tree_is i) (context.tree_is i);
  known = steps_known trees (with_equal_terms now y) (
    tt,
    (
      known_two trees (record { sym = any_f; by = y.left }) (record { sym = any_g; by = y.right })
          left.known right.known,
      (tt, (known_one trees (record { sym = p_of_one; by = y.context }) context.known, tt)),
    ),
  );
}

pub equation_planned : (trees : List Tree) (now : ℕ) (spot : Spot) (s : Sequent) (place : Place) (direction : Direction) (e : Tree) (outer inner : List ℕ)
    (d l r : Tree) (y : Equated) (first more steps : List Step) → AreEquatedTrees trees d inner l r y → first ≡ with_equal_terms now y →
    ArePlanned trees more (by_equivalence (now + 4) (spot_at spot s) place direction e outer (put_at d inner l) (put_at d inner r)) → steps ≡ first ++ more →
    ArePlanned trees steps (by_equation now (spot_at spot s) place direction e outer inner d l r)
equation_planned trees now spot s place direction e outer inner d l r y first more steps is first_is planned all =
    both_planned trees first more steps (equal_in now l r (put_at d inner (leaf (Dot 0))))
    (by_equivalence (now + 4) (spot_at spot s) place direction e outer (put_at d inner l) (put_at d inner r))
    (subst (λ f. ArePlanned trees f (equal_in now l r (put_at d inner (leaf (Dot 0))))) (sym first_is)
    (equal_planned trees now y l r (put_at d inner (leaf (Dot 0))) is.left is.right is.context))
    planned all

-- Equations under a condition:

abbrev under : ℕ → Tree → Tree → List TreeStep
under now q b =
    Start (alone_right q) ∷ Apply (now + 1) 1 (CutR 1 b) ∷ Merge (now + 2) 2 now ∷ Leaf (alone_right b) ∷ Merge (now + 3) 1 (now + 4) ∷ []

under_planned : (trees : List Tree) (now : ℕ) (equation condition : Id) (q : Tree) → StandsFor trees equation q → IsId trees condition →
    ArePlanned trees (under_condition now equation condition) (under now q (tree trees condition))
under_planned trees now equation condition q is known = record {
  are = λ i. under now (is.tree_is i) (tree trees condition);
  known = steps_known trees (under_condition now equation condition)
      (alone_known trees equation is.known, (known, (tt, (alone_known trees condition known, (tt, tt)))));
}

pub conditional_equation_planned : (trees : List Tree) (now : ℕ) (spot : Spot) (s : Sequent) (place : Place) (direction : Direction) (e : Tree)
    (outer inner : List ℕ) (d l r : Tree) (equation condition : Id) (first more steps : List Step) → StandsFor trees equation (eq l r) → IsId trees condition →
    first ≡ under_condition now equation condition →
    ArePlanned trees more (by_equation (now + 5) (spot_at spot s) place direction e outer inner d l r) → steps ≡ first ++ more →
    ArePlanned trees steps (by_conditional_equation now (spot_at spot s) place direction e outer inner d (tree trees condition) l r)
conditional_equation_planned trees now spot s place direction e outer inner d l r equation condition first more steps is known first_is planned all =
    both_planned trees first more steps (under now (eq l r) (tree trees condition)) (by_equation (now + 5) (spot_at spot s) place direction e outer inner d l r)
    (subst (λ f. ArePlanned trees f (under now (eq l r) (tree trees condition))) (sym first_is) (under_planned trees now equation condition (eq l r) is known))
    planned all
