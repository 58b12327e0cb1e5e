-- The steps behind an instance: the trees that they need, over a store that grows, and the uses that they finish.
use Rattle.std.proofs.Common.{◌≡◌, ℕ, List, [], ◌∷◌, length, refl, sym, ap, subst, ◌∙◌, arith}
use Rattle.dlk_tree.specs.declared.op.Op.{Op}
use Rattle.dlk_tree.specs.declared.op.Sort.TheVariants.{Formula}
use Rattle.dlk_tree.specs.Trees.{Tree, node, sort, kids_of, trees_in}
use Rattle.dlk_store.specs.declared.Id.{Id}
use Rattle.dlk_store.specs.Stores.{IsId, StandsFor, Keeps, kid_trees}
use Rattle.dlk_calculus.specs.declared.form.AxiomForm.TheVariants.{E, Q, C, R, I, F}
use Rattle.dlk_calculus.specs.Paths.{IsInnermost}
use Rattle.dlk_calculus.specs.Sequents.{Sequent}
use Rattle.dlk_sequent.specs.declared.sequent.Place.TheVariants.{Succ}
use Rattle.dlk_rules.specs.declared.step.Step.{Step}
use Rattle.dlk_uses.specs.Uses.{Direction, Forwards, Backwards, Finishes, equivalence, equation, conditional_equivalence, conditional_equation}
use Rattle.dlk_uses.specs.Uses.{implication, fact, left_of, right_of, by_equivalence, by_equation, by_conditional_equivalence}
use Rattle.dlk_uses.specs.Uses.{by_conditional_equation, by_implication, by_fact}
use Rattle.dlk_elab.specs.declared.forms.Aim.{Aim}
use Rattle.dlk_elab.specs.declared.forms.Exchanged.{Exchanged}
use Rattle.dlk_elab.specs.declared.forms.Equated.{Equated}
use Rattle.dlk_elab.specs.Calls.{direction_of}
use Rattle.dlk_elab.specs.Forms.{new_side, AreExchangeTrees, AreEquatedTrees}
use Rattle.dlk_elab.specs.Plans.{ArePlanned, spot_at}
use Rattle.dlk_elab.specs.Finishing.{FinishUses}

-- ---- ids of a store that has grown

pub known_on : {old new : List Tree} → Keeps old new → (id : Id) → IsId old id → IsId new id
known_on keeps id h = omega (arith, keeps.known, h)

pub stands_on : {old new : List Tree} {t : Tree} → Keeps old new → (id : Id) → StandsFor old id t → StandsFor new id t
stands_on keeps id s = record { known = known_on keeps id s.known; tree_is = keeps.same id s.known ∙ s.tree_is }

pub stands_as : {trees : List Tree} {t u : Tree} (id : Id) → t ≡ u → StandsFor trees id t → StandsFor trees id u
stands_as id e s = record { known = s.known; tree_is = s.tree_is ∙ e }

long : (trees : List Tree) (ids : List Id) (a b : Tree) → trees_in (kid_trees trees ids) ≡ a ∷ b ∷ [] → length ids ≡ 2
long trees [] a b e = absurd (cc e)
long trees (i ∷ []) a b e = absurd (cc e)
long trees (i ∷ j ∷ []) a b e = refl
long trees (i ∷ j ∷ k ∷ ids) a b e = absurd (cc e)

pub two_long : (trees : List Tree) (t : Tree) (op : Op) (ids : List Id) → t ≡ node op (kid_trees trees ids) → kids_of t ≡ left_of t ∷ right_of t ∷ [] →
    length ids ≡ 2
two_long trees t op ids is two = long trees ids (left_of t) (right_of t) (ap kids_of (sym is) ∙ two)

pub side_sort : (direction : Direction) (l r : Tree) → sort l ≡ Formula → sort r ≡ Formula → sort (new_side direction l r) ≡ Formula
side_sort Forwards l r first second = second
side_sort Backwards l r first second = first

pub exchange_same : {trees : List Tree} {direction : Direction} {path : List ℕ} {e e' l l' r r' : Tree} (x : Exchanged) → e ≡ e' → l ≡ l' → r ≡ r' →
    AreExchangeTrees trees direction e path l r x → AreExchangeTrees trees direction e' path l' r' x
exchange_same {trees} {direction} {path} {e} {e'} {l} {l'} {r} {r'} x ee ll rr are =
    subst (λ t. AreExchangeTrees trees direction t path l' r' x) ee
    (subst (λ t. AreExchangeTrees trees direction e path t r' x) ll (subst (λ t. AreExchangeTrees trees direction e path l t x) rr are))

pub equated_on : {old new : List Tree} {path : List ℕ} {d d' l r : Tree} (y : Equated) → Keeps old new → d ≡ d' → AreEquatedTrees old d path l r y →
    AreEquatedTrees new d' path l r y
equated_on {old} {new} {path} {d} {d'} {l} {r} y keeps dd are =
    subst (λ t. AreEquatedTrees new t path l r y) dd
    (record { left = stands_on keeps y.left are.left; right = stands_on keeps y.right are.right; context = stands_on keeps y.context are.context })

-- ---- uses

module _ (trees : List Tree) (now : ℕ) (aim : Aim) (path : List ℕ) (e f : Tree) (steps : List Step) where
  pub equivalence_finished : (l r : Tree) → l ≡ left_of f → r ≡ right_of f →
      ((s : Sequent) → aim.spot.right ≡ length s.succ →
      ArePlanned trees steps (by_equivalence now (spot_at aim.spot s) aim.place (direction_of aim.direction) e path l r)) →
      FinishUses trees now aim E path e f steps
  equivalence_finished l r ll rr planned s used right says = record {
    finishes = subst (Finishes now (spot_at aim.spot s) used e f)
        ((λ i. by_equivalence now (spot_at aim.spot s) (says.place_is i) (says.direction_is i) e (says.path_is i) (sym ll i) (sym rr i))
        ∙ sym (planned s right).are)
        (equivalence says.form_is);
    known = (planned s right).known;
  }

  pub equation_finished : (outer inner : List ℕ) (d l r : Tree) → l ≡ left_of f → r ≡ right_of f → IsInnermost e path outer inner d →
      ((s : Sequent) → aim.spot.right ≡ length s.succ →
      ArePlanned trees steps (by_equation now (spot_at aim.spot s) aim.place (direction_of aim.direction) e outer inner d l r)) →
      FinishUses trees now aim Q path e f steps
  equation_finished outer inner d l r ll rr innermost planned s used right says = record {
    finishes = subst (Finishes now (spot_at aim.spot s) used e f)
        ((λ i. by_equation now (spot_at aim.spot s) (says.place_is i) (says.direction_is i) e outer inner d (sym ll i) (sym rr i)) ∙ sym (planned s right).are)
        (equation outer inner d says.form_is (subst (λ p. IsInnermost e p outer inner d) (sym says.path_is) innermost));
    known = (planned s right).known;
  }

  pub conditional_equation_finished : (outer inner : List ℕ) (d b l r : Tree) → b ≡ left_of f → l ≡ left_of (right_of f) → r ≡ right_of (right_of f) →
      IsInnermost e path outer inner d →
      ((s : Sequent) → aim.spot.right ≡ length s.succ →
      ArePlanned trees steps (by_conditional_equation now (spot_at aim.spot s) aim.place (direction_of aim.direction) e outer inner d b l r)) →
      FinishUses trees now aim R path e f steps
  conditional_equation_finished outer inner d b l r bb ll rr innermost planned s used right says = record {
    finishes = subst (Finishes now (spot_at aim.spot s) used e f)
        ((λ i. by_conditional_equation now (spot_at aim.spot s) (says.place_is i) (says.direction_is i) e outer inner d (sym bb i) (sym ll i) (sym rr i))
        ∙ sym (planned s right).are)
        (conditional_equation outer inner d says.form_is (subst (λ p. IsInnermost e p outer inner d) (sym says.path_is) innermost));
    known = (planned s right).known;
  }

  pub conditional_equivalence_finished : (j : ℕ) (b l r : Tree) → aim.place ≡ Succ j → b ≡ left_of f → l ≡ left_of (right_of f) → r ≡ right_of (right_of f) →
      ((s : Sequent) → ArePlanned trees steps (by_conditional_equivalence now (spot_at aim.spot s) j b l r)) → FinishUses trees now aim C path e f steps
  conditional_equivalence_finished j b l r place bb ll rr planned s used right says = record {
    finishes = subst (Finishes now (spot_at aim.spot s) used e f)
        ((λ i. by_conditional_equivalence now (spot_at aim.spot s) j (sym bb i) (sym ll i) (sym rr i)) ∙ sym (planned s).are)
        (conditional_equivalence j says.form_is (says.place_is ∙ place));
    known = (planned s).known;
  }

  pub implication_finished : (b h : Tree) → b ≡ left_of f → h ≡ right_of f →
      ((s : Sequent) → aim.spot.right ≡ length s.succ → ArePlanned trees steps (by_implication now (spot_at aim.spot s) aim.place b h)) →
      FinishUses trees now aim I path e f steps
  implication_finished b h bb hh planned s used right says = record {
    finishes = subst (Finishes now (spot_at aim.spot s) used e f)
        ((λ i. by_implication now (spot_at aim.spot s) (says.place_is i) (sym bb i) (sym hh i)) ∙ sym (planned s right).are)
        (implication says.form_is);
    known = (planned s right).known;
  }

  pub fact_finished : (j : ℕ) → aim.place ≡ Succ j → ((s : Sequent) → ArePlanned trees steps (by_fact now (spot_at aim.spot s) j)) →
      FinishUses trees now aim F path e f steps
  fact_finished j place planned s used right says = record {
    finishes = subst (Finishes now (spot_at aim.spot s) used e f) (sym (planned s).are) (fact j says.form_is (says.place_is ∙ place));
    known = (planned s).known;
  }
