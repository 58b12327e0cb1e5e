-- Sequents of ids that stand for what rules make of sequents.
use Rattle.std.proofs.Common.{◌≡◌, ℕ, ◌-◌, List, [], ◌∷◌, ◌++◌, map, refl, ap, ◌∙◌}
use Rattle.std.specs.Global.{Vec}
use Rattle.std.specs.List.{All}
use Rattle.std.proofs.lemmas.List.{map-append, map-set, take-map, drop-map}
use Rattle.std.proofs.lemmas.List.Elements.{All-push, All-set, All-cons, All-nil, All-append, All-take, All-drop, All-weaker}
use Rattle.dlk_tree.specs.declared.op.Sort.TheVariants.{Formula}
use Rattle.dlk_tree.specs.Trees.{Tree, sort}
use Rattle.dlk_store.specs.declared.Id.{Id}
use Rattle.dlk_store.specs.Stores.{IsId, tree, StandsFor, Keeps}
use Rattle.dlk_calculus.specs.Places.{IsPlace, put, without_place}
use Rattle.dlk_calculus.specs.Rules.{Rule, imply, equiv, Figure, figure, FirstAgainst}
use Rattle.dlk_calculus.specs.Sequents.{Sequent as TreeSequent, ◌==>◌, IsFormula, IsSequent}
use Rattle.dlk_calculus.proofs.PlaceLaws.{At_All}
use Rattle.dlk_calculus.proofs.RuleLaws.{first_no_place, first_wrong_shape, first_not_fresh}
use Rattle.dlk_sequent.specs.declared.sequent.Sequent.{Sequent}
use Rattle.dlk_sequent.specs.Sequents.{sequent_at, IsKnown}
use Rattle.dlk_sequent.proofs.Kept.{IsId-kept, sequent-kept, IsKnown-kept}
use Rattle.dlk_rules.specs.declared.rule.RuleFault.{RuleFault}
use Rattle.dlk_rules.specs.declared.rule.RuleFault.TheVariants as fault
use Rattle.dlk_rules.specs.Steps.{IsOfFormulas, ArePremises, IsRuleFault}
use Rattle.dlk_rules.specs.Looks.{IsAt, IsPlaceFault, IsShapeFault, IsFreshFault}

-- the sequent of ids stands for this sequent
pub record Stands (trees : List Tree) (s : Sequent) (t : TreeSequent) : Type 0 where
  pub known : IsKnown trees s
  pub is : sequent_at trees s ≡ t

pub stands_old : (trees : List Tree) (s : Sequent) → IsKnown trees s → Stands trees s (sequent_at trees s)
stands_old trees s known = record { known = known; is = refl }

-- over a store that has grown
pub stands_kept : {old new : List Tree} → Keeps old new → (s : Sequent) → IsKnown old s → Stands new s (sequent_at old s)
stands_kept keeps s known = record { known = IsKnown-kept keeps s known; is = sequent-kept keeps s known }

module _ {trees : List Tree} {s : Sequent} {t : TreeSequent} (h : Stands trees s t) where
  module _ {id : Id} {f : Tree} (p : StandsFor trees id f) where
    pub left_put : (i : ℕ) → Stands trees (record { ante = put s.ante i id; succ = s.succ }) (put t.ante i f ==> t.succ)
    left_put i = record {
      known = record { ante = All-set (IsId trees) s.ante (i - 1) id p.known h.known.ante; succ = h.known.succ };
      is =
          (λ n. record { ante = map-set (tree trees) s.ante (i - 1) id n; succ = map (tree trees) s.succ })
          ∙ (λ n. put (h.is n).ante i (p.tree_is n) ==> (h.is n).succ);
    }

    pub right_put : (j : ℕ) → Stands trees (record { ante = s.ante; succ = put s.succ j id }) (t.ante ==> put t.succ j f)
    right_put j = record {
      known = record { ante = h.known.ante; succ = All-set (IsId trees) s.succ (j - 1) id p.known h.known.succ };
      is =
          (λ n. record { ante = map (tree trees) s.ante; succ = map-set (tree trees) s.succ (j - 1) id n })
          ∙ (λ n. (h.is n).ante ==> put (h.is n).succ j (p.tree_is n));
    }

    pub left_last : Stands trees (record { ante = s.ante ++ id ∷ []; succ = s.succ }) (t.ante ++ f ∷ [] ==> t.succ)
    left_last = record {
      known = record { ante = All-push (IsId trees) s.ante id h.known.ante p.known; succ = h.known.succ };
      is =
          (λ n. record { ante = map-append (tree trees) s.ante (id ∷ []) n; succ = map (tree trees) s.succ })
          ∙ (λ n. (h.is n).ante ++ p.tree_is n ∷ [] ==> (h.is n).succ);
    }

    pub right_last : Stands trees (record { ante = s.ante; succ = s.succ ++ id ∷ [] }) (t.ante ==> t.succ ++ f ∷ [])
    right_last = record {
      known = record { ante = h.known.ante; succ = All-push (IsId trees) s.succ id h.known.succ p.known };
      is =
          (λ n. record { ante = map (tree trees) s.ante; succ = map-append (tree trees) s.succ (id ∷ []) n })
          ∙ (λ n. (h.is n).ante ==> (h.is n).succ ++ p.tree_is n ∷ []);
    }

  map_remove : (ids : List Id) (place : ℕ) → map (tree trees) (without_place ids place) ≡ without_place (map (tree trees) ids) place
  map_remove ids place = simp (map-append, take-map, drop-map)

  pub left_without : (i : ℕ) → Stands trees (record { ante = without_place s.ante i; succ = s.succ }) (without_place t.ante i ==> t.succ)
  left_without i = record {
    known =
        record {
          ante = All-append (IsId trees) _ _ (All-take (IsId trees) (i - 1) s.ante h.known.ante) (All-drop (IsId trees) i s.ante h.known.ante);
          succ = h.known.succ;
        };
    is = (λ n. record { ante = map_remove s.ante i n; succ = map (tree trees) s.succ }) ∙ (λ n. without_place (h.is n).ante i ==> (h.is n).succ);
  }

  pub right_without : (j : ℕ) → Stands trees (record { ante = s.ante; succ = without_place s.succ j }) (t.ante ==> without_place t.succ j)
  right_without j = record {
    known =
        record {
          ante = h.known.ante;
          succ = All-append (IsId trees) _ _ (All-take (IsId trees) (j - 1) s.succ h.known.succ) (All-drop (IsId trees) j s.succ h.known.succ);
        };
    is = (λ n. record { ante = map (tree trees) s.ante; succ = map_remove s.succ j n }) ∙ (λ n. (h.is n).ante ==> without_place (h.is n).succ j);
  }

-- an id stands for its tree
pub stands_itself : (trees : List Tree) (id : Id) → IsId trees id → StandsFor trees id (tree trees id)
stands_itself trees id known = record { known = known; tree_is = refl }

pub stands_itself_kept : {old new : List Tree} → Keeps old new → (id : Id) → IsId old id → StandsFor new id (tree old id)
stands_itself_kept keeps id known = record { known = IsId-kept keeps id known; tree_is = keeps.same id known }

-- the sort of the formula at a place
pub sort_there : (trees side : List Tree) (place : ℕ) (id : Id) → All (λ t. sort t ≡ Formula) side → IsAt trees side place id → sort (tree trees id) ≡ Formula
sort_there trees side place id all at = ap sort at.stands.tree_is ∙ At_All (λ t. sort t ≡ Formula) side place at.f all at.at

-- a sequent of formulas is one of trees of formula sort
pub of_formulas : (trees : List Tree) (s : Sequent) → IsKnown trees s → IsSequent (sequent_at trees s) → IsOfFormulas trees s
of_formulas trees s known h = record {
  known = known;
  ante = All-weaker IsFormula (λ t. sort t ≡ Formula) (λ t f. f.sort_is) (map (tree trees) s.ante) h.ante;
  succ = All-weaker IsFormula (λ t. sort t ≡ Formula) (λ t f. f.sort_is) (map (tree trees) s.succ) h.succ;
}

-- an implication of what two formulas are
pub stands_imply : {trees : List Tree} {id : Id} {a b f g : Tree} → StandsFor trees id (imply a b) → a ≡ f → b ≡ g → StandsFor trees id (imply f g)
stands_imply h p q = record { known = h.known; tree_is = h.tree_is ∙ (λ n. imply (p n) (q n)) }

pub stands_equiv : {trees : List Tree} {id : Id} {a b f g : Tree} → StandsFor trees id (equiv a b) → a ≡ f → b ≡ g → StandsFor trees id (equiv f g)
stands_equiv h p q = record { known = h.known; tree_is = h.tree_is ∙ (λ n. equiv (p n) (q n)) }

-- the ids of sequents stand for these sequents
pub record AllStand (trees : List Tree) (all : List Sequent) (ts : List TreeSequent) : Type 0 where
  pub known : All (IsKnown trees) all
  pub are : map (sequent_at trees) all ≡ ts

pub none_stands : (trees : List Tree) (all : List Sequent) → all ≡ [] → AllStand trees all []
none_stands trees all is = record { known = rw is (All-nil (IsKnown trees)); are = ap (map (sequent_at trees)) is }

pub one_stands : {trees : List Tree} {s : Sequent} {t : TreeSequent} {all : List Sequent} → Stands trees s t → all ≡ s ∷ [] → AllStand trees all (t ∷ [])
one_stands {trees} {s} {t} {all} h is = record {
  known = rw is (All-cons (IsKnown trees) s [] h.known (All-nil (IsKnown trees)));
  are = ap (map (sequent_at trees)) is ∙ (λ n. h.is n ∷ []);
}

pub two_stand : {trees : List Tree} {s r : Sequent} {t u : TreeSequent} {all : List Sequent} → Stands trees s t → Stands trees r u →
    all ≡ s ∷ r ∷ [] → AllStand trees all (t ∷ u ∷ [])
two_stand {trees} {s} {r} {t} {u} {all} h k is = record {
  known = rw is (All-cons (IsKnown trees) s (r ∷ []) h.known (All-cons (IsKnown trees) r [] k.known (All-nil (IsKnown trees))));
  are = ap (map (sequent_at trees)) is ∙ (λ n. h.is n ∷ k.is n ∷ []);
}

-- the figure of a rule on a sequent of ids
abbrev pub figure_at : Rule → List Tree → Sequent → Figure
figure_at rule trees s = figure rule (map (tree trees) s.ante) (map (tree trees) s.succ)

-- what a rule makes, where all that it asks for holds
module _ (rule : Rule) (old new : List Tree) (s : Sequent) (all : Vec Sequent) (places : (figure_at rule old s).places) where
  module _ (parts : (figure_at rule old s).Parts) (shape : (figure_at rule old s).shape parts) where
    pub made : (figure_at rule old s).equals parts → (figure_at rule old s).fresh parts → AllStand new all.items ((figure_at rule old s).premises parts) →
        ArePremises rule old s new all
    made equals fresh h = record {
      premises = record { places = places; parts = parts; shape = shape; equals = equals; fresh = fresh; premises_are = h.are };
      known = h.known;
    }

-- the fault of a rule of which a place isn't there
pub place_fault : (rule : Rule) (s : TreeSequent) (trees : List Tree) (ids : List Id) (place : ℕ) (why : RuleFault) →
    ((figure rule s.ante s.succ).places → IsPlace (map (tree trees) ids) place) → IsPlaceFault trees ids place why → IsRuleFault (FirstAgainst rule s) why
place_fault rule s trees ids place fault.NoPlace wants h = first_no_place rule s (λ p. h (wants p))
place_fault rule s trees ids place fault.WrongShape wants h = absurd h
place_fault rule s trees ids place fault.NotEqual wants h = absurd h
place_fault rule s trees ids place fault.NotFresh wants h = absurd h
place_fault rule s trees ids place fault.Memory wants h = absurd h

-- or whose variable isn't fresh, where nothing is to be the same
pub fresh_fault : (rule : Rule) (s : TreeSequent) (why : RuleFault) → ((p : (figure rule s.ante s.succ).Parts) → (figure rule s.ante s.succ).equals p) →
    IsFreshFault (figure rule s.ante s.succ).places (figure rule s.ante s.succ).Parts (figure rule s.ante s.succ).shape (figure rule s.ante s.succ).fresh why →
    IsRuleFault (FirstAgainst rule s) why
fresh_fault rule s fault.NoPlace e h = first_no_place rule s h
fresh_fault rule s fault.WrongShape e h = first_wrong_shape rule s h.0 h.1
fresh_fault rule s fault.NotEqual e h = absurd h
fresh_fault rule s fault.NotFresh e h = first_not_fresh rule s h.0 h.1.0 h.1.1 (e h.1.0) h.1.2
fresh_fault rule s fault.Memory e h = tt
