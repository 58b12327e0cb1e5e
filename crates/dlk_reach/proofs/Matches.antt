-- What the axioms of differentials are matched with: their keys match with these names and replacements.
use Rattle.std.proofs.Common.{◌≡◌, refl, List, [], ◌∷◌, true, false, Bool, ℕ}
use Rattle.std.specs.Prelude.{codes, IsTrue, ◌||◌}
use Rattle.std.specs.Str.{bytes_eq}
use Rattle.std.proofs.lemmas.Slice.Eq.{bytes_eq-Decides}
use Rattle.std.proofs.lemmas.List.Elements.{All-nil, All-cons}
use Rattle.dlk_tree.specs.declared.op.Kind.TheVariants.{Func}
use Rattle.dlk_tree.specs.declared.op.Op.{Op}
use Rattle.dlk_tree.specs.declared.op.Op.TheVariants as Op'
use Rattle.dlk_tree.specs.declared.op.Sort.TheVariants.{Term, Formula}
use Rattle.dlk_tree.specs.Statics.{plain}
use Rattle.dlk_tree.specs.Trees.{Tree, Forest, no_kids, kid, sort}
use Rattle.dlk_calculus.specs.Notation.{leaf, one, two, neg, pow, diff, diff_formula, forall, x, x_, p, q, f, g, f0, c0}
use Rattle.dlk_calculus.specs.Pairs.{Pair, Extra}
use Rattle.dlk_match.specs.Matching.{Match, MatchesAt, Over, is_own, of_nothing}
use Rattle.dlk_uses.specs.Uses.{any_p, any_q, any_f, symbol, ◌~>◌}
use Rattle.dlk_uses.proofs.Substituted.{pairs_of_cq}

-- nothing is given beside the axiom's name
abbrev pub nothing : Extra
nothing = record { renames = []; pairs = [] }

-- replacements alone
abbrev pub with_pairs : List Pair → Extra
with_pairs pairs = record { renames = []; pairs = pairs }

-- x_ gets the name y
abbrev pub with_name : List ℕ → List Pair → Extra
with_name y pairs = record { renames = (x_, y) ∷ []; pairs = pairs }

-- f(||)~>a
abbrev pub one_term : Tree → List Pair
one_term a = (any_f ~> a) ∷ []

-- p(||)~>a
abbrev pub one_formula : Tree → List Pair
one_formula a = (any_p ~> a) ∷ []

-- p(||)~>a, q(||)~>b
abbrev pub two_formulas : (a b : Tree) → List Pair
two_formulas a b = (any_p ~> a) ∷ (any_q ~> b) ∷ []

-- a symbol of no arguments
abbrev pub constant : List ℕ → Tree → Pair
constant name a = symbol Func name 0 ~> a

-- f(||)~>a, c()~>k
abbrev pub pairs_of_power : (a k : Tree) → List Pair
pairs_of_power a k = (any_f ~> a) ∷ constant (codes "c") k ∷ []

-- the operator stands for itself in a key
abbrev pub StandsForItself : Op → Type 1
StandsForItself op = (kids : Forest) (e : Tree) (Kids : Forest → Extra → Extra → Type 0) (old new : Extra) → Over op e Kids old new →
    MatchesAt op kids e Kids old new

module _ (outer op : Op) (outer_stands : StandsForItself outer) (stands : StandsForItself op) (a b : Tree) where
  -- (f(||)+g(||))' and the like
  pub two_terms_match : sort a ≡ Term → sort b ≡ Term →
      Match (one outer (two op f g)) [] (one outer (two op a b)) nothing (with_pairs (pairs_of_cq a b))
  two_terms_match m n =
      let all = with_pairs (pairs_of_cq a b) in
      record {
        found = all;
        matches = outer_stands _ _ _ _ _ (
          kid (two op a b) no_kids,
          refl,
          (all, stands _ _ _ _ _ (kid a (kid b no_kids), refl, (with_pairs (one_term a), (m, refl), (all, (n, refl), refl))), refl),
        );
        given_well = record { own_ones = All-nil _; once = refl };
        apart = record { unlike = refl; not_onto_own = All-nil _ };
        extra_is = refl;
      }

  -- (p(||)&q(||))' and the like
  pub two_formulas_match : sort a ≡ Formula → sort b ≡ Formula →
      Match (one outer (two op p q)) [] (one outer (two op a b)) nothing (with_pairs (two_formulas a b))
  two_formulas_match m n =
      let all = with_pairs (two_formulas a b) in
      record {
        found = all;
        matches = outer_stands _ _ _ _ _ (
          kid (two op a b) no_kids,
          refl,
          (all, stands _ _ _ _ _ (kid a (kid b no_kids), refl, (with_pairs (one_formula a), (m, refl), (all, (n, refl), refl))), refl),
        );
        given_well = record { own_ones = All-nil _; once = refl };
        apart = record { unlike = refl; not_onto_own = All-nil _ };
        extra_is = refl;
      }

pub negative_matches : (a : Tree) → sort a ≡ Term → Match (diff (neg f)) [] (diff (neg a)) nothing (with_pairs (one_term a))
negative_matches a m = record {
  found = with_pairs (one_term a);
  matches = (kid (neg a) no_kids, refl, (with_pairs (one_term a), (kid a no_kids, refl, (with_pairs (one_term a), (m, refl), refl)), refl));
  given_well = record { own_ones = All-nil _; once = refl };
  apart = record { unlike = refl; not_onto_own = All-nil _ };
  extra_is = refl;
}

pub constant_matches : (a : Tree) → sort a ≡ Term → Match (diff f0) [] (diff a) nothing (with_pairs (constant (codes "f") a ∷ []))
constant_matches a m = record {
  found = with_pairs (constant (codes "f") a ∷ []);
  matches = (kid a no_kids, refl, (with_pairs (constant (codes "f") a ∷ []), of_nothing refl (m, refl), refl));
  given_well = record { own_ones = All-nil _; once = refl };
  apart = record { unlike = refl; not_onto_own = All-nil _ };
  extra_is = refl;
}

pub power_matches : (a k : Tree) → sort a ≡ Term → sort k ≡ Term → Match (diff (pow f c0)) [] (diff (pow a k)) nothing (with_pairs (pairs_of_power a k))
power_matches a k m n =
    let all = with_pairs (pairs_of_power a k) in
    record {
      found = all;
      matches = (
        kid (pow a k) no_kids,
        refl,
        (all, (kid a (kid k no_kids), refl, (with_pairs (one_term a), (m, refl), (all, of_nothing refl (n, refl), refl))), refl),
      );
      given_well = record { own_ones = All-nil _; once = refl };
      apart = record { unlike = refl; not_onto_own = All-nil _ };
      extra_is = refl;
    }

own_name : (y : List ℕ) → IsTrue (is_own (x_ ∷ []) y) → y ≡ x_
own_name y h = (bytes_eq-Decides y x_).0 (alone (bytes_eq y x_) h)
  where
    alone : (b : Bool) → IsTrue (b || false) → b ≡ true
    alone true h = refl
    alone false h = cc

pub variable_matches : (y : List ℕ) → Match (diff x) (x_ ∷ []) (diff (leaf (Op'.Variable (plain y)))) nothing (with_name y [])
variable_matches y = record {
  found = with_name y [];
  matches = (kid (leaf (Op'.Variable (plain y))) no_kids, refl, (with_name y [], (y, with_name y [], refl, (no_kids, refl, refl)), refl));
  given_well = record { own_ones = All-nil _; once = refl };
  apart = record {
    unlike = refl;
    not_onto_own = All-cons (λ (r : List ℕ × List ℕ). IsTrue (is_own (x_ ∷ []) r.1) → r.1 ≡ r.0) (x_, y) [] (own_name y) (All-nil _);
  };
  extra_is = refl;
}

pub all_matches : (y : List ℕ) (a : Tree) → sort a ≡ Formula →
    Match (diff_formula (forall x_ p)) (x_ ∷ []) (diff_formula (forall y a)) nothing (with_name y (one_formula a))
all_matches y a m = record {
  found = with_name y (one_formula a);
  matches = (
    kid (forall y a) no_kids,
    refl,
    (with_name y (one_formula a), (y, with_name y [], refl, (kid a no_kids, refl, (with_name y (one_formula a), (m, refl), refl))), refl),
  );
  given_well = record { own_ones = All-nil _; once = refl };
  apart = record {
    unlike = refl;
    not_onto_own = All-cons (λ (r : List ℕ × List ℕ). IsTrue (is_own (x_ ∷ []) r.1) → r.1 ≡ r.0) (x_, y) [] (own_name y) (All-nil _);
  };
  extra_is = refl;
}
