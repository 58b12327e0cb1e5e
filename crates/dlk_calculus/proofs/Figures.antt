-- Of each rule: what its figure asks for is decided, and what it makes of formulas is made of formulas. One row a rule.
use Rattle.std.proofs.Common.{◌≡◌, ℕ, List, ap, subst, ◌∙◌, refl, Some, inl, inr}
use Rattle.std.specs.Prelude.{IsTrue}
use Rattle.std.specs.List.{All}
use Rattle.std.proofs.lemmas.List.Elements.{All-nil}
use Rattle.dlk_tree.specs.declared.op.Op.{Op}
use Rattle.dlk_tree.specs.declared.op.Op.TheVariants as Op'
use Rattle.dlk_tree.specs.Trees.{Tree}
use Rattle.dlk_calculus.specs.Notation.{leaf, one, two}
use Rattle.dlk_calculus.specs.Places.{At, IsPlace, put, without_place}
use Rattle.dlk_calculus.specs.Sequents.{Sequent, ◌==>◌, IsFormula, IsSequent}
use Rattle.dlk_calculus.specs.Rename.{may_rename, RenamesBound, Bound}
use Rattle.dlk_calculus.specs.Rules.{Rule, IsProperRule, IsFreshIn, Figure, figure, imply}
use Rattle.dlk_calculus.specs.Rules.{Close, CloseTrue, CloseFalse, NotL, NotR, AndL, AndR, OrL, OrR, ImplyL, ImplyR, EquivL, EquivR, Cut, CutL, CutR}
use Rattle.dlk_calculus.specs.Rules.{HideL, HideR, CoHideR, ExchangeL, ExchangeR, SkolemL, SkolemR, BoundL, BoundR, EquivifyR, CommuteEquivL, CommuteEquivR}
use Rattle.dlk_calculus.proofs.PlaceLaws.{at_one, At_place, place_cases}
use Rattle.dlk_calculus.proofs.Decide.{same_tree, is_formula, is_false, is_true, both}
use Rattle.dlk_calculus.proofs.Forms.{is_leaf, is_one, is_two, same_two, is_exists, is_forall, is_named, same_named}
use Rattle.dlk_calculus.proofs.Binders.{one_binding, bound_decided}
use Rattle.dlk_calculus.proofs.Connectives.{two_kids, one_kid, imply_formula, equiv_formula, renamed_formula, alone, one_sequent, two_sequents}
use Rattle.dlk_calculus.proofs.Connectives.{left_formula, right_formula, left_put, right_put, left_last, right_last, left_without, right_without}

-- ---- what a rule asks for is decided, and its parts are one thing

pub record Decided (There Parts : Type 0) (Formed Same Fresh : Parts → Type 0) : Type 0 where
  pub places : Dec There
  pub shape : Dec ((p : Parts) × Formed p)
  pub one_shape : (p q : Parts) → Formed p → Formed q → p ≡ q
  pub equals : (p : Parts) → Dec (Same p)
  pub fresh : (p : Parts) → Dec (Fresh p)

abbrev pub IsDecided : Figure → Type 0
IsDecided f = Decided f.places f.Parts f.shape f.equals f.fresh

module _ (side : List Tree) (place : ℕ) where
  is_place : Dec (IsPlace side place)
  is_place = elim (place_cases side place) [ inl h ↦ yes (At_place side place h.0 h.1) | inr n ↦ no n ]

  -- a formula that is there has this
  has_shape : (P : Tree → Type 0) → ((f : Tree) → Dec (P f)) → Dec ((f : Tree) × (At side place f × P f))
  has_shape P decide = elim (place_cases side place) [
    | inr n ↦ no (λ h. n (At_place side place h.0 h.1.0))
    | inl f ↦ elim (decide f.0) [ yes p ↦ yes (f.0, (f.1, p)) | no n ↦ no (λ h. n (subst P (at_one side place h.0 f.0 h.1.0 f.1) h.1.1)) ]
  ]

  module _ {Parts : Type 0} (form : Parts → Tree) (decide : (t : Tree) → Dec ((p : Parts) × (t ≡ form p)))
      (same : (p q : Parts) → form p ≡ form q → p ≡ q) where
    has_form : Dec ((p : Parts) × At side place (form p))
    has_form = elim (has_shape (λ t. (p : Parts) × (t ≡ form p)) decide) [
      | yes h ↦ yes (h.1.1.0, h.1.0 ∙ ap Some h.1.1.1)
      | no n ↦ no (λ h. n (form h.0, (h.1, (h.0, refl))))
    ]

    form_decided : Decided (IsPlace side place) Parts (λ p. At side place (form p)) (λ p. Unit {0}) (λ p. Unit {0})
    form_decided = record {
      places = is_place;
      shape = has_form;
      one_shape = λ p q h k. same p q (at_one side place (form p) (form q) h k);
      equals = λ p. yes tt;
      fresh = λ p. yes tt;
    }

  any_decided : Decided (IsPlace side place) Tree (λ f. At side place f) (λ f. Unit {0}) (λ f. Unit {0})
  any_decided = form_decided (λ f. f) (λ t. yes (t, refl)) (λ f g e. e)

  nullary_decided : (op : Op) → Decided (IsPlace side place) (Unit {0}) (λ p. At side place (leaf op)) (λ p. Unit {0}) (λ p. Unit {0})
  nullary_decided op = form_decided (λ p. leaf op) (is_leaf op) (λ p q e. refl)

  unary_decided : (op : Op) → Decided (IsPlace side place) Tree (λ f. At side place (one op f)) (λ f. Unit {0}) (λ f. Unit {0})
  unary_decided op = form_decided (one op) (is_one op) (λ f g e. cc)

  binary_decided : (op : Op) → Decided (IsPlace side place) (Tree × Tree) (λ p. At side place (two op p.0 p.1)) (λ p. Unit {0}) (λ p. Unit {0})
  binary_decided op = form_decided (λ p. two op p.0 p.1) (is_two op) (same_two op)

  quantifier_decided : (op : List ℕ → Op) (rest : Sequent) → ((o : Op) → Dec ((x : List ℕ) × (o ≡ op x))) → ((x y : List ℕ) → op x ≡ op y → x ≡ y) →
      Decided (IsPlace side place) (List ℕ × Tree) (λ p. At side place (one (op p.0) p.1)) (λ p. Unit {0}) (λ p. IsFreshIn rest p.0)
  quantifier_decided op rest decide same =
      let d = form_decided (λ p. one (op p.0) p.1) (is_named op decide) (same_named op same) in
      record { places = d.places; shape = d.shape; one_shape = d.one_shape; equals = d.equals; fresh = λ p. is_false _ }

  cut_decided : (h : Tree) → Decided (IsPlace side place) Tree (λ f. At side place f × IsFormula h) (λ f. Unit {0}) (λ f. Unit {0})
  cut_decided h = record {
    places = is_place;
    shape = has_shape (λ f. IsFormula h) (λ f. is_formula h);
    one_shape = λ f g a b. at_one side place f g a.0 b.0;
    equals = λ f. yes tt;
    fresh = λ f. yes tt;
  }

  binder_decided : (y : List ℕ) →
      Decided (IsPlace side place) Bound (λ p. (t : Tree) × At side place t × RenamesBound p.x y p.f t p.g) (λ p. Unit {0})
      (λ p. IsTrue (may_rename p.x y p.f))
  binder_decided y = record {
    places = is_place;
    shape = elim (has_shape (λ t. (p : Bound) × RenamesBound p.x y p.f t p.g) (bound_decided y)) [
      | yes h ↦ yes (h.1.1.0, (h.0, h.1.0, h.1.1.1))
      | no n ↦ no (λ h. n (h.1.0, (h.1.1, (h.0, h.1.2))))
    ];
    one_shape = λ p q h k. one_binding p q (at_one side place h.0 k.0 h.1 k.1) h.2 k.2;
    equals = λ p. yes tt;
    fresh = λ p. is_true _;
  }

both_decided : (side : List Tree) (place : ℕ) (other : List Tree) (k : ℕ) (equals : Tree → Tree → Type 0) → ((f g : Tree) → Dec (equals f g)) →
    Decided (IsPlace side place × IsPlace other k) (Tree × Tree) (λ p. At side place p.0 × At other k p.1) (λ p. equals p.0 p.1) (λ p. Unit {0})
both_decided side place other k equals decide =
    let a = any_decided side place in
    let b = any_decided other k in
    record {
      places = both (λ p q. (p, q)) (λ c. c.0) (λ c. c.1) a.places b.places;
      shape = both (λ f g. ((f.0, g.0), (f.1, g.1))) (λ h. (h.0.0, h.1.0)) (λ h. (h.0.1, h.1.1)) a.shape b.shape;
      one_shape = λ p q h k. same p q (a.one_shape p.0 q.0 h.0 k.0) (b.one_shape p.1 q.1 h.1 k.1);
      equals = λ p. decide p.0 p.1;
      fresh = λ p. yes tt;
    }
  where
    same : (p q : Tree × Tree) → p.0 ≡ q.0 → p.1 ≡ q.1 → p ≡ q
    same p q a b = λ i. (a i, b i)

own_decided : (h : Tree) → Decided (Unit {0}) (Unit {0}) (λ p. IsFormula h) (λ p. Unit {0}) (λ p. Unit {0})
own_decided h = record {
  places = yes tt;
  shape = elim (is_formula h) [ yes p ↦ yes (tt, p) | no n ↦ no (λ k. n k.1) ];
  one_shape = λ p q a b. refl;
  equals = λ p. yes tt;
  fresh = λ p. yes tt;
}

-- ---- the rules

-- what a figure asks for is decided, and where its rule is proper it makes sequents of formulas of one
pub record IsLawful (rule : Rule) (s : Sequent) : Type 0 where
  pub decided : IsDecided (figure rule s.ante s.succ)
  pub formulas : IsProperRule rule → IsSequent s → (p : (figure rule s.ante s.succ).Parts) → (figure rule s.ante s.succ).shape p →
      All IsSequent ((figure rule s.ante s.succ).premises p)

pub lawful : (rule : Rule) (s : Sequent) → IsLawful rule s
lawful (Close i j) s = record {
  decided = both_decided s.ante i s.succ j (λ f g. f ≡ g) same_tree;
  formulas = λ real h p k. All-nil IsSequent;
}
lawful (CloseTrue j) s = record {
  decided = nullary_decided s.succ j Op'.True;
  formulas = λ real h p k. All-nil IsSequent;
}
lawful (CloseFalse i) s = record {
  decided = nullary_decided s.ante i Op'.False;
  formulas = λ real h p k. All-nil IsSequent;
}
lawful (NotL i) s = record {
  decided = unary_decided s.ante i Op'.Not;
  formulas = λ real h p k.
      one_sequent _ (right_last (without_place s.ante i ==> s.succ) (left_without s h i) p (one_kid Op'.Not p refl (left_formula s h i _ k)));
}
lawful (NotR j) s = record {
  decided = unary_decided s.succ j Op'.Not;
  formulas = λ real h p k.
      one_sequent _ (left_last (s.ante ==> without_place s.succ j) (right_without s h j) p (one_kid Op'.Not p refl (right_formula s h j _ k)));
}
lawful (AndL i) s = record {
  decided = binary_decided s.ante i Op'.And;
  formulas = λ real h p k.
      let m = two_kids Op'.And p.0 p.1 refl (left_formula s h i _ k) in
      one_sequent _ (left_last (put s.ante i p.0 ==> s.succ) (left_put s h i p.0 m.0) p.1 m.1);
}
lawful (AndR j) s = record {
  decided = binary_decided s.succ j Op'.And;
  formulas = λ real h p k.
      let m = two_kids Op'.And p.0 p.1 refl (right_formula s h j _ k) in
      two_sequents _ _ (right_put s h j p.0 m.0) (right_put s h j p.1 m.1);
}
lawful (OrL i) s = record {
  decided = binary_decided s.ante i Op'.Or;
  formulas = λ real h p k.
      let m = two_kids Op'.Or p.0 p.1 refl (left_formula s h i _ k) in
      two_sequents _ _ (left_put s h i p.0 m.0) (left_put s h i p.1 m.1);
}
lawful (OrR j) s = record {
  decided = binary_decided s.succ j Op'.Or;
  formulas = λ real h p k.
      let m = two_kids Op'.Or p.0 p.1 refl (right_formula s h j _ k) in
      one_sequent _ (right_last (s.ante ==> put s.succ j p.0) (right_put s h j p.0 m.0) p.1 m.1);
}
lawful (ImplyL i) s = record {
  decided = binary_decided s.ante i Op'.Imply;
  formulas = λ real h p k.
      let m = two_kids Op'.Imply p.0 p.1 refl (left_formula s h i _ k) in
      two_sequents _ _ (right_last (without_place s.ante i ==> s.succ) (left_without s h i) p.0 m.0) (left_put s h i p.1 m.1);
}
lawful (ImplyR j) s = record {
  decided = binary_decided s.succ j Op'.Imply;
  formulas = λ real h p k.
      let m = two_kids Op'.Imply p.0 p.1 refl (right_formula s h j _ k) in
      one_sequent _ (left_last (s.ante ==> put s.succ j p.1) (right_put s h j p.1 m.1) p.0 m.0);
}
lawful (EquivL i) s = record {
  decided = binary_decided s.ante i Op'.Equiv;
  formulas = λ real h p k.
      let m = two_kids Op'.Equiv p.0 p.1 refl (left_formula s h i _ k) in
      let there = imply_formula p.0 p.1 m.0 m.1 in
      let back = imply_formula p.1 p.0 m.1 m.0 in
      one_sequent _ (left_last (put s.ante i (imply p.0 p.1) ==> s.succ) (left_put s h i _ there) _ back);
}
lawful (EquivR j) s = record {
  decided = binary_decided s.succ j Op'.Equiv;
  formulas = λ real h p k.
      let m = two_kids Op'.Equiv p.0 p.1 refl (right_formula s h j _ k) in
      two_sequents _ _ (right_put s h j _ (imply_formula p.0 p.1 m.0 m.1)) (right_put s h j _ (imply_formula p.1 p.0 m.1 m.0));
}
lawful (Cut f) s = record {
  decided = own_decided f;
  formulas = λ real h p k. two_sequents _ _ (left_last s h f k) (right_last s h f k);
}
lawful (CutL i f) s = record {
  decided = cut_decided s.ante i f;
  formulas = λ real h p k.
      two_sequents _ _ (left_put s h i f k.1)
      (right_last (without_place s.ante i ==> s.succ) (left_without s h i) _ (imply_formula p f (left_formula s h i p k.0) k.1));
}
lawful (CutR j f) s = record {
  decided = cut_decided s.succ j f;
  formulas = λ real h p k. two_sequents _ _ (right_put s h j f k.1) (right_put s h j _ (imply_formula f p k.1 (right_formula s h j p k.0)));
}
lawful (HideL i) s = record {
  decided = any_decided s.ante i;
  formulas = λ real h p k. one_sequent _ (left_without s h i);
}
lawful (HideR j) s = record {
  decided = any_decided s.succ j;
  formulas = λ real h p k. one_sequent _ (right_without s h j);
}
lawful (CoHideR j) s = record {
  decided = any_decided s.succ j;
  formulas = λ real h p k. one_sequent _ (alone (right_formula s h j p k));
}
lawful (ExchangeL i l) s = record {
  decided = both_decided s.ante i s.ante l (λ f g. Unit {0}) (λ f g. yes tt);
  formulas = λ real h p k.
      one_sequent _ (left_put (put s.ante i p.1 ==> s.succ) (left_put s h i p.1 (left_formula s h l p.1 k.1)) l p.0 (left_formula s h i p.0 k.0));
}
lawful (ExchangeR j l) s = record {
  decided = both_decided s.succ j s.succ l (λ f g. Unit {0}) (λ f g. yes tt);
  formulas = λ real h p k.
      one_sequent _ (right_put (s.ante ==> put s.succ j p.1) (right_put s h j p.1 (right_formula s h l p.1 k.1)) l p.0 (right_formula s h j p.0 k.0));
}
lawful (SkolemL i) s = record {
  decided = quantifier_decided s.ante i Op'.Exists (without_place s.ante i ==> s.succ) is_exists (λ x y e. cc);
  formulas = λ real h p k. one_sequent _ (left_put s h i p.1 (one_kid (Op'.Exists p.0) p.1 refl (left_formula s h i _ k)));
}
lawful (SkolemR j) s = record {
  decided = quantifier_decided s.succ j Op'.Forall (s.ante ==> without_place s.succ j) is_forall (λ x y e. cc);
  formulas = λ real h p k. one_sequent _ (right_put s h j p.1 (one_kid (Op'.Forall p.0) p.1 refl (right_formula s h j _ k)));
}
lawful (BoundL i y) s = record {
  decided = binder_decided s.ante i y;
  formulas = λ real h p k. one_sequent _ (left_put s h i _ (renamed_formula real k.2 (left_formula s h i k.0 k.1)));
}
lawful (BoundR j y) s = record {
  decided = binder_decided s.succ j y;
  formulas = λ real h p k. one_sequent _ (right_put s h j _ (renamed_formula real k.2 (right_formula s h j k.0 k.1)));
}
lawful (EquivifyR j) s = record {
  decided = binary_decided s.succ j Op'.Imply;
  formulas = λ real h p k.
      let m = two_kids Op'.Imply p.0 p.1 refl (right_formula s h j _ k) in
      one_sequent _ (right_put s h j _ (equiv_formula p.0 p.1 m.0 m.1));
}
lawful (CommuteEquivL i) s = record {
  decided = binary_decided s.ante i Op'.Equiv;
  formulas = λ real h p k.
      let m = two_kids Op'.Equiv p.0 p.1 refl (left_formula s h i _ k) in
      one_sequent _ (left_put s h i _ (equiv_formula p.1 p.0 m.1 m.0));
}
lawful (CommuteEquivR j) s = record {
  decided = binary_decided s.succ j Op'.Equiv;
  formulas = λ real h p k.
      let m = two_kids Op'.Equiv p.0 p.1 refl (right_formula s h j _ k) in
      one_sequent _ (right_put s h j _ (equiv_formula p.1 p.0 m.1 m.0));
}
