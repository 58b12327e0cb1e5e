-- Of a place and a path there is a plan or a reason, and only one of them.
use Rattle.std.proofs.Common.{◌≡◌, ◌∙◌, refl, sym, ap, subst, ℕ, ◌<◌, suc, zero, List, [], ◌∷◌, length, get_or, Option, Some, None, Bool, true, false}
use Rattle.std.proofs.Common.{◌⊎◌, inl, inr, arith}
use Rattle.std.specs.Prelude.{IsTrue}
use Rattle.std.proofs.lemmas.Bool.{and_parts, false≢true}
use Rattle.dlk_tree.specs.declared.op.Op.{Op}
use Rattle.dlk_tree.specs.declared.op.Op.TheVariants as Op'
use Rattle.dlk_tree.specs.Names.{is_name}
use Rattle.dlk_tree.specs.Trees.{Tree, node, Forest, no_kids, kid}
use Rattle.dlk_store.specs.declared.Id.{Id}
use Rattle.dlk_store.specs.Stores.{tree, kid_trees}
use Rattle.dlk_calculus.specs.Notation.{diff, diff_formula}
use Rattle.dlk_calculus.specs.Paths.{subtree}
use Rattle.dlk_derive.specs.Derivative.{OfTerm, OfFormula, IsDerivative}
use Rattle.dlk_derive.specs.Derivative as derivative
use Rattle.dlk_derive.specs.Decided.{joins_terms, is_derivable, are_derivable, is_comparison, joins_formulas, is_derivable_formula}
use Rattle.dlk_derive.specs.Decided.{are_derivable_formulas, has_derivative, IsDerivable}
use Rattle.dlk_derive.specs.Derives.{DeriveWhy, NoPlace, WrongShape, NoMatch, IsDifferential, Plans, NoPlan, no_place, wrong_shape, no_match}
use Rattle.dlk_derive.specs.Derives as derives
use Rattle.dlk_derive.specs.Plans.{Call, axiom_for, plan_at}
use Rattle.dlk_derive.proofs.Decided.{by_kind, tested_term, tested_formula, found, tested}

-- ---- the kid of a `( )'` with a derivative

of_diff : {k d : Tree} → IsDerivative (diff k) d → OfTerm k d
of_diff (derivative.of_term h) = h

of_diff_formula : {k d : Tree} → IsDerivative (diff_formula k) d → OfFormula k d
of_diff_formula (derivative.of_formula h) = h

pub derivable_kid : (t k d : Tree) → IsDifferential t k → IsDerivative t d → IsDerivable k
derivable_kid t k d (inl e) h = inl (tested_term (of_diff (subst (λ u. IsDerivative u d) e h)))
derivable_kid t k d (inr e) h = inr (tested_formula (of_diff_formula (subst (λ u. IsDerivative u d) e h)))

term_named : (op : Op) (kids : Forest) → joins_terms op kids ≡ true → IsTrue (is_name (axiom_for op))
term_named (Op'.Variable v) kids h = refl
term_named (Op'.Number k) kids h = refl
term_named (Op'.Apply s) kids h = refl
term_named Op'.Neg kids h = refl
term_named Op'.Add kids h = refl
term_named Op'.Sub kids h = refl
term_named Op'.Mul kids h = refl
term_named Op'.Pow kids h = refl
term_named _ kids h = cc

comparison_named : (op : Op) → is_comparison op ≡ true → IsTrue (is_name (axiom_for op))
comparison_named Op'.Eq h = refl
comparison_named Op'.Ne h = refl
comparison_named Op'.Ge h = refl
comparison_named Op'.Gt h = refl
comparison_named Op'.Le h = refl
comparison_named Op'.Lt h = refl
comparison_named _ h = cc

connective_named : (op : Op) → joins_formulas op ≡ true → IsTrue (is_name (axiom_for op))
connective_named Op'.And h = refl
connective_named Op'.Or h = refl
connective_named (Op'.Forall x) h = refl
connective_named _ h = cc

-- there is an axiom for it
pub named : (t : Tree) (op : Op) (kids : Forest) → t ≡ node op kids → IsDerivable t → IsTrue (is_name (axiom_for op))
named t op kids e (inl h) = term_named op kids (and_parts _ _ (subst (λ u. is_derivable u ≡ true) e h)).0
named t op kids e (inr h) = elim (by_kind op kids (subst (λ u. is_derivable_formula u ≡ true) e h)) as (λ _. IsTrue (is_name (axiom_for op))) [
  | inl p ↦ comparison_named op p.0
  | inr p ↦ connective_named op p.0
]

each_term : (trees : List Tree) (ks : List Id) → are_derivable (kid_trees trees ks) ≡ true → (i : ℕ) (d : Id) → i < length ks →
    is_derivable (tree trees (get_or ks i d)) ≡ true
each_term trees [] h i d n = absurd (omega arith)
each_term trees (k ∷ ks) h zero d n = (and_parts _ _ h).0
each_term trees (k ∷ ks) h (suc i) d n = each_term trees ks (and_parts _ _ h).1 i d (omega arith)

each_formula : (trees : List Tree) (ks : List Id) → are_derivable_formulas (kid_trees trees ks) ≡ true → (i : ℕ) (d : Id) → i < length ks →
    is_derivable_formula (tree trees (get_or ks i d)) ≡ true
each_formula trees [] h i d n = absurd (omega arith)
each_formula trees (k ∷ ks) h zero d n = (and_parts _ _ h).0
each_formula trees (k ∷ ks) h (suc i) d n = each_formula trees ks (and_parts _ _ h).1 i d (omega arith)

-- each of its kids has a derivative
pub kids_derivable : (trees : List Tree) (t : Tree) (op : Op) (ks : List Id) → t ≡ node op (kid_trees trees ks) → IsDerivable t →
    (i : ℕ) (d : Id) → i < length ks → IsDerivable (tree trees (get_or ks i d))
kids_derivable trees t op ks e (inl h) =
    let p = and_parts _ _ (subst (λ u. is_derivable u ≡ true) e h) in let q = and_parts _ _ p.1 in
    λ i d n. inl (each_term trees ks q.1 i d n)
kids_derivable trees t op ks e (inr h) =
    let kind = by_kind op (kid_trees trees ks) (subst (λ u. is_derivable_formula u ≡ true) e h) in
    elim kind as (λ _. (i : ℕ) (d : Id) → i < length ks → IsDerivable (tree trees (get_or ks i d))) [
      | inl p ↦ λ i d n. inl (each_term trees ks p.2 i d n)
      | inr p ↦ λ i d n. inr (each_formula trees ks p.2 i d n)
    ]

-- ---- plans

pub planned : (there : Option Tree) (path : List ℕ) (e t k d : Tree) → there ≡ Some e → subtree e path ≡ Some t → IsDifferential t k → IsDerivative t d →
    Plans there path (plan_at k path)
planned there path e t k d is at (inl f) h = derives.of_term e k d is (at ∙ ap Some f) (of_diff (subst (λ u. IsDerivative u d) f h))
planned there path e t k d is at (inr f) h = derives.of_formula e k d is (at ∙ ap Some f) (of_diff_formula (subst (λ u. IsDerivative u d) f h))

-- what a plan says
record Said (there : Option Tree) (path : List ℕ) (calls : List Call) : Type 0 where
  e : Tree
  t : Tree
  k : Tree
  d : Tree
  is : there ≡ Some e
  stands : subtree e path ≡ Some t
  under : IsDifferential t k
  slope : IsDerivative t d
  planned_is : calls ≡ plan_at k path

said : {there : Option Tree} {path : List ℕ} {calls : List Call} → Plans there path calls → Said there path calls
said (derives.of_term e k d is at h) =
    record { e = e; t = diff k; k = k; d = d; is = is; stands = at; under = inl refl; slope = derivative.of_term h; planned_is = refl }
said (derives.of_formula e k d is at h) =
    record { e = e; t = diff_formula k; k = k; d = d; is = is; stands = at; under = inr refl; slope = derivative.of_formula h; planned_is = refl }

some_same : {A : Type 0} {a b : A} {o : Option A} → o ≡ Some a → o ≡ Some b → a ≡ b
some_same e f = cc

one_kid : (t k l : Tree) → IsDifferential t k → IsDifferential t l → k ≡ l
one_kid t k l (inl e) (inl f) = cc
one_kid t k l (inl e) (inr f) = cc
one_kid t k l (inr e) (inl f) = cc
one_kid t k l (inr e) (inr f) = cc

-- one tree at a path
one_there : (there : Option Tree) (path : List ℕ) (e t g u : Tree) → there ≡ Some e → subtree e path ≡ Some t → there ≡ Some g → subtree g path ≡ Some u → t ≡ u
one_there there path e t g u is at is' at' = some_same at (ap (λ v. subtree v path) (some_same is is') ∙ at')

pub plans_same : (there : Option Tree) (path : List ℕ) (calls others : List Call) → Plans there path calls → Plans there path others → calls ≡ others
plans_same there path calls others a b =
    let x = said a in let y = said b in
    let same = one_there there path x.e x.t y.e y.t x.is x.stands y.is y.stands in
    let kid = one_kid y.t x.k y.k (subst (λ u. IsDifferential u x.k) same x.under) y.under in
    x.planned_is ∙ ap (λ k. plan_at k path) kid ∙ sym y.planned_is

refuted : {there : Option Tree} {path : List ℕ} {why : DeriveWhy} → NoPlan there path why →
    (e t k d : Tree) → there ≡ Some e → subtree e path ≡ Some t → IsDifferential t k → IsDerivative t d → ⊥
refuted {there} {path} (no_place h) e t k d is at under slope = h e t is at
refuted {there} {path} (wrong_shape g u is' at' h) e t k d is at under slope =
    h k (subst (λ v. IsDifferential v k) (one_there there path e t g u is at is' at') under)
refuted {there} {path} (no_match g u l is' at' f h) e t k d is at under slope =
    h d (subst (λ v. IsDerivative v d) (one_there there path e t g u is at is' at') slope)

pub apart : (there : Option Tree) (path : List ℕ) (calls : List Call) (why : DeriveWhy) → Plans there path calls → NoPlan there path why → ⊥
apart there path calls why a n = let x = said a in refuted n x.e x.t x.k x.d x.is x.stands x.under x.slope

pub reasons_same : (there : Option Tree) (path : List ℕ) (why other : DeriveWhy) → NoPlan there path why → NoPlan there path other → why ≡ other
reasons_same there path why other (no_place h) (no_place g) = refl
reasons_same there path why other (no_place h) (wrong_shape e t is at g) = absurd (h e t is at)
reasons_same there path why other (no_place h) (no_match e t k is at f g) = absurd (h e t is at)
reasons_same there path why other (wrong_shape e t is at h) (no_place g) = absurd (g e t is at)
reasons_same there path why other (wrong_shape e t is at h) (wrong_shape e' t' is' at' g) = refl
reasons_same there path why other (wrong_shape e t is at h) (no_match e' t' k is' at' f g) =
    absurd (h k (subst (λ v. IsDifferential v k) (one_there there path e' t' e t is' at' is at) f))
reasons_same there path why other (no_match e t k is at f h) (no_place g) = absurd (g e t is at)
reasons_same there path why other (no_match e t k is at f h) (wrong_shape e' t' is' at' g) =
    absurd (g k (subst (λ v. IsDifferential v k) (one_there there path e t e' t' is at is' at') f))
reasons_same there path why other (no_match e t k is at f h) (no_match e' t' k' is' at' f' g) = refl

-- ---- there is one of them

not_either : {A B : Type 0} → (A → ⊥) → (B → ⊥) → A ⊎ B → ⊥
not_either f g (inl a) = f a
not_either f g (inr b) = g b

differential_or_not : (t : Tree) → ((k : Tree) × IsDifferential t k) ⊎ ((k : Tree) → ¬ IsDifferential t k)
differential_or_not (node Op'.Diff (kid k no_kids)) = inl (k, inl refl)
differential_or_not (node Op'.DiffF (kid k no_kids)) = inl (k, inr refl)
differential_or_not _ = inr (λ k. not_either (λ e. cc) (λ e. cc))

abbrev PlanOrReason : Option Tree → List ℕ → Type 0
PlanOrReason there path = ((calls : List Call) × Plans there path calls) ⊎ ((why : DeriveWhy) × NoPlan there path why)

by_derivative : (there : Option Tree) (path : List ℕ) (e t k : Tree) → there ≡ Some e → subtree e path ≡ Some t → IsDifferential t k →
    (b : Bool) → has_derivative t ≡ b → PlanOrReason there path
by_derivative there path e t k is at f true h = let w = found t h in inl (plan_at k path, planned there path e t k w.0 is at f w.1)
by_derivative there path e t k is at f false h = inr (NoMatch, no_match e t k is at f (λ d g. false≢true (sym h ∙ tested g)))

by_shape : (there : Option Tree) (path : List ℕ) (e t : Tree) → there ≡ Some e → subtree e path ≡ Some t →
    ((k : Tree) × IsDifferential t k) ⊎ ((k : Tree) → ¬ IsDifferential t k) → PlanOrReason there path
by_shape there path e t is at (inl w) = by_derivative there path e t w.0 is at w.1 (has_derivative t) refl
by_shape there path e t is at (inr h) = inr (WrongShape, wrong_shape e t is at h)

by_subtree : (e : Tree) (path : List ℕ) (o : Option Tree) → subtree e path ≡ o → PlanOrReason (Some e) path
by_subtree e path None h =
    inr (
      NoPlace,
      no_place (λ g t is at.
          let same : g ≡ e = cc in
          let there : subtree e path ≡ Some t = subst (λ v. subtree v path ≡ Some t) same at in cc),
    )
by_subtree e path (Some t) h = by_shape (Some e) path e t refl h (differential_or_not t)

pub some_plan : (there : Option Tree) (path : List ℕ) → PlanOrReason there path
some_plan None path = inr (NoPlace, no_place (λ e t is at. cc))
some_plan (Some e) path = by_subtree e path (subtree e path) refl
