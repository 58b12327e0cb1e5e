-- The axioms of differentials with replacements: what a substitution makes of each, and what its key matches.
use Rattle.std.proofs.Common.{◌≡◌, ℕ, List, [], ◌∷◌, refl, subst, Some, true, false, Bool}
use Rattle.std.specs.Prelude.{codes, IsTrue, ◌&&◌}
use Rattle.std.specs.List.{All}
use Rattle.std.proofs.lemmas.List.Elements.{All-nil, All-cons}
use Rattle.dlk_tree.specs.declared.op.Kind.TheVariants.{UnitFunc, UnitPred}
use Rattle.dlk_tree.specs.declared.op.Num.{Num}
use Rattle.dlk_tree.specs.declared.op.Op.{Op}
use Rattle.dlk_tree.specs.declared.op.Op.TheVariants as Op'
use Rattle.dlk_tree.specs.declared.op.Sort.TheVariants.{Term, Formula}
use Rattle.dlk_tree.specs.declared.op.Sym.{Sym}
use Rattle.dlk_tree.specs.declared.op.Var.{Var}
use Rattle.dlk_tree.specs.Occurs.{has, any_has, has_symbol, has_dots}
use Rattle.dlk_tree.specs.Statics.{free}
use Rattle.dlk_tree.specs.Table.{kind_row}
use Rattle.dlk_tree.specs.Trees.{Tree, Forest, WellMade}
use Rattle.dlk_calculus.specs.declared.form.AxiomForm.{AxiomForm}
use Rattle.dlk_calculus.specs.declared.form.AxiomForm.TheVariants.{E, Q, R}
use Rattle.dlk_calculus.specs.declared.why.Why.TheVariants as Why'
use Rattle.dlk_calculus.specs.Axioms.{Axiom, axiom_named}
use Rattle.dlk_calculus.specs.Captures.{AreApart}
use Rattle.dlk_calculus.specs.Limits.{IsSmall, IsShallow}
use Rattle.dlk_calculus.specs.Notation.{f as any_function, g as other_function, leaf, one, two, number, neg, add, sub, mul, pow, diff, eq, ne, ge, gt}
use Rattle.dlk_calculus.specs.Notation.{le, lt, conj, disj, diff_formula}
use Rattle.dlk_calculus.specs.Pairs.{Pair, is_against}
use Rattle.dlk_calculus.specs.Rules.{imply, equiv}
use Rattle.dlk_calculus.specs.Subst.{Subst}
use Rattle.dlk_calculus.proofs.AxiomLaws.{axiom_formula}
use Rattle.dlk_match.specs.Matching.{Match}
use Rattle.dlk_sequent.specs.declared.sequent.Place.TheVariants.{Succ}
use Rattle.dlk_uses.specs.Uses.{Forwards, key, symbol, any_p, any_q, any_f, any_g, ◌~>◌}
use Rattle.dlk_reach.proofs.Clean.{IsClean}
use Rattle.dlk_reach.proofs.Equivalence.{IsFine, fine_is}
use Rattle.dlk_reach.proofs.Formed.{IsFree, formed_of}
use Rattle.dlk_reach.proofs.Images.{image, is_other, Serves, imaged}
use Rattle.dlk_reach.proofs.Instances.{Fits}
use Rattle.dlk_reach.proofs.Matches.{nothing, with_pairs, constant, StandsForItself, two_terms_match, two_formulas_match, negative_matches}
use Rattle.dlk_reach.proofs.Matches.{constant_matches, power_matches}
use Rattle.dlk_reach.proofs.Sites.{lacks_from}

-- a replacement for an axiom, behind earlier ones
pub record Suits (earlier : List Pair) (p : Pair) : Type 0 where
  pub alone : IsFree earlier p
  pub made : WellMade p.by
  pub no_dots : has_dots p.by ≡ false
  pub apart : (set : Var → Bool) (trees : Forest) → IsTrue ((kind_row p.sym.kind).arguments && any_has (has_symbol p.sym) trees) → AreApart set (free p.by)
  pub small : IsSmall p.by
  pub shallow : IsShallow p.by

-- what follows of all replacements
pub record Suit (pairs : List Pair) : Type 0 where
  pub serves : Serves pairs
  pub small : All (λ (p : Pair). IsSmall p.by) pairs
  pub shallow : All (λ (p : Pair). IsShallow p.by) pairs

pub one_suits : (p : Pair) → Suits [] p → Suit (p ∷ [])
one_suits p x =
    let each = λ (P : Pair → Type 0) (h : P p). All-cons P p [] h (All-nil P) in
    record {
      serves = record {
        well = formed_of (p ∷ []) (x.alone, tt);
        made = each (λ (p : Pair). WellMade p.by) x.made;
        no_dots = each (λ (p : Pair). has_dots p.by ≡ false) x.no_dots;
        free = λ set trees. each (λ (p : Pair). IsTrue ((kind_row p.sym.kind).arguments && any_has (has_symbol p.sym) trees) → AreApart set (free p.by))
            (x.apart set trees);
      };
      small = each (λ (p : Pair). IsSmall p.by) x.small;
      shallow = each (λ (p : Pair). IsShallow p.by) x.shallow;
    }

two_suit : (p q : Pair) → Suits [] p → Suits (p ∷ []) q → Suit (p ∷ q ∷ [])
two_suit p q x y =
    let each = λ (P : Pair → Type 0) (h : P p) (k : P q). All-cons P p (q ∷ []) h (All-cons P q [] k (All-nil P)) in
    record {
      serves = record {
        well = formed_of (p ∷ q ∷ []) (x.alone, (y.alone, tt));
        made = each (λ (p : Pair). WellMade p.by) x.made y.made;
        no_dots = each (λ (p : Pair). has_dots p.by ≡ false) x.no_dots y.no_dots;
        free = λ set trees. each (λ (p : Pair). IsTrue ((kind_row p.sym.kind).arguments && any_has (has_symbol p.sym) trees) → AreApart set (free p.by))
            (x.apart set trees) (y.apart set trees);
      };
      small = each (λ (p : Pair). IsSmall p.by) x.small y.small;
      shallow = each (λ (p : Pair). IsShallow p.by) x.shallow y.shallow;
    }

-- a term in the place of a unit function, a formula in that of a unit predicate
term_suits : (name : List ℕ) (a : Tree) (earlier : List Pair) → IsClean Term a → IsFine a →
    is_against Why'.Twice earlier (symbol UnitFunc name 0 ~> a) ≡ false → Suits earlier (symbol UnitFunc name 0 ~> a)
term_suits name a earlier x f once = record {
  alone = elim [
    | Why'.Sort ↦ let e = x.sort_is in rw e refl
    | Why'.Twice ↦ once
    | Why'.Dot ↦ lacks_from 0 a x.no_dot
    | Why'.Hole ↦ let e = x.no_hole in rw e refl
    | Why'.Taboo ↦ refl
  ];
  made = x.well_made;
  no_dots = x.no_dot;
  apart = λ set trees h. absurd (cc h);
  small = (fine_is a f).0;
  shallow = (fine_is a f).1;
}

pub formula_suits : (name : List ℕ) (a : Tree) (earlier : List Pair) → IsClean Formula a → IsFine a →
    is_against Why'.Twice earlier (symbol UnitPred name 0 ~> a) ≡ false → Suits earlier (symbol UnitPred name 0 ~> a)
formula_suits name a earlier x f once = record {
  alone = elim [
    | Why'.Sort ↦ let e = x.sort_is in rw e refl
    | Why'.Twice ↦ once
    | Why'.Dot ↦ lacks_from 0 a x.no_dot
    | Why'.Hole ↦ let e = x.no_hole in rw e refl
    | Why'.Taboo ↦ refl
  ];
  made = x.well_made;
  no_dots = x.no_dot;
  apart = λ set trees h. absurd (cc h);
  small = (fine_is a f).0;
  shallow = (fine_is a f).1;
}

-- A term without free variables in the place of a constant: it may come under a `( )'`.

abbrev pub IsClosed : Tree → Type 0
IsClosed a = (v : Var) → free a v ≡ false

pub number_closed : (k : Num) → IsClosed (leaf (Op'.Number k))
number_closed k v = refl

pub constant_closed : (c : Sym) → IsClosed (leaf (Op'.Apply c))
constant_closed c v = refl

never : (b : Bool) → IsTrue (b && false) → ⊥
never true h = cc
never false h = cc

apart : (set : Var → Bool) (a : Tree) → IsClosed a → AreApart set (free a)
apart set a closed h = let e = closed h.0 in never (set h.0) (rw e at h.2)

constant_suits : (name : List ℕ) (a : Tree) (earlier : List Pair) → IsClean Term a → IsFine a → IsClosed a →
    is_against Why'.Twice earlier (constant name a) ≡ false → Suits earlier (constant name a)
constant_suits name a earlier x f closed once = record {
  alone = elim [
    | Why'.Sort ↦ let e = x.sort_is in rw e refl
    | Why'.Twice ↦ once
    | Why'.Dot ↦ lacks_from 0 a x.no_dot
    | Why'.Hole ↦ let e = x.no_hole in rw e refl
    | Why'.Taboo ↦ refl
  ];
  made = x.well_made;
  no_dots = x.no_dot;
  apart = λ set trees h. apart set a closed;
  small = (fine_is a f).0;
  shallow = (fine_is a f).1;
}

-- the axiom of this name and form: its key matches with these replacements, and they make this of it
pub record Replaced (name : List ℕ) (form : AxiomForm) (first : Pair) (others : List Pair) (there made : Tree) : Type 0 where
  pub its_axiom : Axiom
  pub named : axiom_named name ≡ Some its_axiom
  pub called : its_axiom.name ≡ name
  pub form_is : its_axiom.form ≡ form
  pub simple : has is_other its_axiom.formula ≡ false
  pub suit : Suit (first ∷ others)
  pub made_is : image (first ∷ others) its_axiom.formula ≡ made
  pub matches : Match (key its_axiom.form Forwards (Succ 1) its_axiom.formula) its_axiom.own_names there nothing (with_pairs (first ∷ others))

pub fits_of : {name : List ℕ} {form : AxiomForm} {first : Pair} {others : List Pair} {there made : Tree} (x : Replaced name form first others there made) →
    IsSmall made → IsShallow made → Fits (first ∷ others) x.its_axiom.formula made
fits_of {name = name} {first = first} {others = others} x small shallow = record {
  well = x.suit.serves.made;
  formed = x.suit.serves.well;
  makes = subst (Subst (first ∷ others) x.its_axiom.formula) x.made_is
      (imaged (first ∷ others) x.suit.serves x.its_axiom.formula (axiom_formula name x.its_axiom x.named).well_made x.simple).0;
  small = x.suit.small;
  shallow = x.suit.shallow;
  small_made = small;
  shallow_made = shallow;
}

-- One row an axiom:

module _ (a b : Tree) (x : IsClean Term a) (y : IsClean Term b) (f : IsFine a) (g : IsFine b) where
  terms_suit : Suit ((any_f ~> a) ∷ (any_g ~> b) ∷ [])
  terms_suit = two_suit (any_f ~> a) (any_g ~> b) (term_suits (codes "f") a [] x f refl) (term_suits (codes "g") b ((any_f ~> a) ∷ []) y g refl)

  abbrev OfTerms : List ℕ → Tree → Tree → Type 0
  OfTerms name there next = Replaced name Q (any_f ~> a) ((any_g ~> b) ∷ []) there (eq there next)

  abbrev OfComparison : List ℕ → Tree → Tree → Type 0
  OfComparison name there next = Replaced name E (any_f ~> a) ((any_g ~> b) ∷ []) there (equiv there next)

  matched : (outer op : Op) → StandsForItself outer → StandsForItself op →
      Match (one outer (two op any_function other_function)) [] (one outer (two op a b)) nothing (with_pairs ((any_f ~> a) ∷ (any_g ~> b) ∷ []))
  matched outer op outer_stands stands = two_terms_match outer op outer_stands stands a b x.sort_is y.sort_is

  pub of_sum : OfTerms (codes "Dplus") (diff (add a b)) (add (diff a) (diff b))
  of_sum =
      let m = matched Op'.Diff Op'.Add (λ kids e Kids old new h. h) (λ kids e Kids old new h. h) in
      record { its_axiom = _; named = refl; called = refl; form_is = refl; simple = refl; suit = terms_suit; made_is = refl; matches = m }

  pub of_difference : OfTerms (codes "Dminus") (diff (sub a b)) (sub (diff a) (diff b))
  of_difference =
      let m = matched Op'.Diff Op'.Sub (λ kids e Kids old new h. h) (λ kids e Kids old new h. h) in
      record { its_axiom = _; named = refl; called = refl; form_is = refl; simple = refl; suit = terms_suit; made_is = refl; matches = m }

  pub of_product : OfTerms (codes "Dtimes") (diff (mul a b)) (add (mul (diff a) b) (mul a (diff b)))
  of_product =
      let m = matched Op'.Diff Op'.Mul (λ kids e Kids old new h. h) (λ kids e Kids old new h. h) in
      record { its_axiom = _; named = refl; called = refl; form_is = refl; simple = refl; suit = terms_suit; made_is = refl; matches = m }

  pub of_equal : OfComparison (codes "Deq") (diff_formula (eq a b)) (eq (diff a) (diff b))
  of_equal =
      let m = matched Op'.DiffF Op'.Eq (λ kids e Kids old new h. h) (λ kids e Kids old new h. h) in
      record { its_axiom = _; named = refl; called = refl; form_is = refl; simple = refl; suit = terms_suit; made_is = refl; matches = m }

  pub of_unequal : OfComparison (codes "Dne") (diff_formula (ne a b)) (eq (diff a) (diff b))
  of_unequal =
      let m = matched Op'.DiffF Op'.Ne (λ kids e Kids old new h. h) (λ kids e Kids old new h. h) in
      record { its_axiom = _; named = refl; called = refl; form_is = refl; simple = refl; suit = terms_suit; made_is = refl; matches = m }

  pub of_at_least : OfComparison (codes "Dge") (diff_formula (ge a b)) (ge (diff a) (diff b))
  of_at_least =
      let m = matched Op'.DiffF Op'.Ge (λ kids e Kids old new h. h) (λ kids e Kids old new h. h) in
      record { its_axiom = _; named = refl; called = refl; form_is = refl; simple = refl; suit = terms_suit; made_is = refl; matches = m }

  pub of_greater : OfComparison (codes "Dgt") (diff_formula (gt a b)) (ge (diff a) (diff b))
  of_greater =
      let m = matched Op'.DiffF Op'.Gt (λ kids e Kids old new h. h) (λ kids e Kids old new h. h) in
      record { its_axiom = _; named = refl; called = refl; form_is = refl; simple = refl; suit = terms_suit; made_is = refl; matches = m }

  pub of_at_most : OfComparison (codes "Dle") (diff_formula (le a b)) (le (diff a) (diff b))
  of_at_most =
      let m = matched Op'.DiffF Op'.Le (λ kids e Kids old new h. h) (λ kids e Kids old new h. h) in
      record { its_axiom = _; named = refl; called = refl; form_is = refl; simple = refl; suit = terms_suit; made_is = refl; matches = m }

  pub of_less : OfComparison (codes "Dlt") (diff_formula (lt a b)) (le (diff a) (diff b))
  of_less =
      let m = matched Op'.DiffF Op'.Lt (λ kids e Kids old new h. h) (λ kids e Kids old new h. h) in
      record { its_axiom = _; named = refl; called = refl; form_is = refl; simple = refl; suit = terms_suit; made_is = refl; matches = m }

  pub of_power : IsClosed b → Replaced (codes "Dpow") R (any_f ~> a) (constant (codes "c") b ∷ []) (diff (pow a b))
      (imply (ne b (number 0)) (eq (diff (pow a b)) (mul (mul b (pow a (sub b (number 1)))) (diff a))))
  of_power closed =
      let m = power_matches a b x.sort_is y.sort_is in
      let s = two_suit (any_f ~> a) (constant (codes "c") b) (term_suits (codes "f") a [] x f refl)
      (constant_suits (codes "c") b ((any_f ~> a) ∷ []) y g closed refl) in
      record { its_axiom = _; named = refl; called = refl; form_is = refl; simple = refl; suit = s; made_is = refl; matches = m }

module _ (a : Tree) (x : IsClean Term a) (f : IsFine a) where
  pub of_negative : Replaced (codes "Dneg") Q (any_f ~> a) [] (diff (neg a)) (eq (diff (neg a)) (neg (diff a)))
  of_negative =
      let m = negative_matches a x.sort_is in
      let s = one_suits (any_f ~> a) (term_suits (codes "f") a [] x f refl) in
      record { its_axiom = _; named = refl; called = refl; form_is = refl; simple = refl; suit = s; made_is = refl; matches = m }

  pub of_constant : IsClosed a → Replaced (codes "Dconst") Q (constant (codes "f") a) [] (diff a) (eq (diff a) (number 0))
  of_constant closed =
      let m = constant_matches a x.sort_is in
      let s = one_suits (constant (codes "f") a) (constant_suits (codes "f") a [] x f closed refl) in
      record { its_axiom = _; named = refl; called = refl; form_is = refl; simple = refl; suit = s; made_is = refl; matches = m }

module _ (a b : Tree) (x : IsClean Formula a) (y : IsClean Formula b) (f : IsFine a) (g : IsFine b) where
  formulas_suit : Suit ((any_p ~> a) ∷ (any_q ~> b) ∷ [])
  formulas_suit = two_suit (any_p ~> a) (any_q ~> b) (formula_suits (codes "p") a [] x f refl) (formula_suits (codes "q") b ((any_p ~> a) ∷ []) y g refl)

  abbrev OfConnective : List ℕ → Tree → Tree → Type 0
  OfConnective name there next = Replaced name E (any_p ~> a) ((any_q ~> b) ∷ []) there (equiv there next)

  pub of_both : OfConnective (codes "Dand") (diff_formula (conj a b)) (conj (diff_formula a) (diff_formula b))
  of_both =
      let m = two_formulas_match Op'.DiffF Op'.And (λ kids e Kids old new h. h) (λ kids e Kids old new h. h) a b x.sort_is y.sort_is in
      record { its_axiom = _; named = refl; called = refl; form_is = refl; simple = refl; suit = formulas_suit; made_is = refl; matches = m }

  pub of_either : OfConnective (codes "Dor") (diff_formula (disj a b)) (conj (diff_formula a) (diff_formula b))
  of_either =
      let m = two_formulas_match Op'.DiffF Op'.Or (λ kids e Kids old new h. h) (λ kids e Kids old new h. h) a b x.sort_is y.sort_is in
      record { its_axiom = _; named = refl; called = refl; form_is = refl; simple = refl; suit = formulas_suit; made_is = refl; matches = m }
