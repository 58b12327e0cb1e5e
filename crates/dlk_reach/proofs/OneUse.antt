-- The use of each axiom of differentials: its steps are those of an atom, and the goal is rewritten.
use Rattle.std.proofs.Common.{◌≡◌, ℕ, List, [], ◌∷◌, refl, ap, arith, Some}
use Rattle.std.specs.Prelude.{codes, IsTrue}
use Rattle.dlk_tree.specs.Names.{is_name}
use Rattle.dlk_tree.specs.declared.op.Op.{Op}
use Rattle.dlk_tree.specs.declared.op.Op.TheVariants as Op'
use Rattle.dlk_tree.specs.declared.op.Sort.{Sort}
use Rattle.dlk_tree.specs.declared.op.Sort.TheVariants.{Term, Formula}
use Rattle.dlk_tree.specs.Statics.{plain, prime}
use Rattle.dlk_tree.specs.Table.{kid_sorts}
use Rattle.dlk_tree.specs.Trees.{Tree, sort}
use Rattle.dlk_calculus.specs.declared.form.AxiomForm.{AxiomForm}
use Rattle.dlk_calculus.specs.declared.form.AxiomForm.TheVariants.{E, Q, R}
use Rattle.dlk_calculus.specs.Limits.{IsSmall, IsShallow}
use Rattle.dlk_calculus.specs.Notation.{leaf, one, two, number, neg, pow, diff, eq, ne, diff_formula, forall, p as p_any}
use Rattle.dlk_calculus.specs.Pairs.{Pair}
use Rattle.dlk_calculus.specs.Paths.{subtree, put_at}
use Rattle.dlk_calculus.specs.Provables.{Provable}
use Rattle.dlk_calculus.specs.Rules.{imply, equiv}
use Rattle.dlk_calculus.specs.Sequents.{Sequent, alone_right}
use Rattle.dlk_calculus.proofs.StepLaws.{some_new}
use Rattle.dlk_sequent.specs.declared.sequent.Place.TheVariants.{Succ}
use Rattle.dlk_uses.specs.Uses.{Forwards, may_stand, any_p, ◌~>◌}
use Rattle.dlk_derive.specs.Derivative.{literal}
use Rattle.dlk_derive.specs.Rewriting.{Opens}
use Rattle.dlk_derive.specs.Rewriting as r
use Rattle.dlk_derive.specs.Ways.{IsUsable, at_formula, at_term}
use Rattle.dlk_reach.proofs.Clean.{IsClean, IsPlainOp, plain as plain_op, formula_of, clean_leaf, clean_one, clean_two, kid_of_one, kids_of_two}
use Rattle.dlk_reach.proofs.Equivalence.{IsFine, over_two}
use Rattle.dlk_reach.proofs.Images.{imaged}
use Rattle.dlk_reach.proofs.Instances.{Fits, instance_goes, name_goes, name_and_pairs_go}
use Rattle.dlk_reach.proofs.Matches.{with_pairs, with_name, variable_matches, all_matches}
use Rattle.dlk_reach.proofs.Opened.{fine_one, fine_two, differential_formula, zero_clean, next_clean}
use Rattle.dlk_reach.proofs.Replaced.{Replaced, fits_of, one_suits, formula_suits, number_closed, constant_closed, of_sum, of_difference, of_product}
use Rattle.dlk_reach.proofs.Replaced.{of_negative, of_constant, of_power, of_equal, of_unequal, of_at_least, of_greater, of_at_most, of_less, of_both}
use Rattle.dlk_reach.proofs.Replaced.{of_either}
use Rattle.dlk_reach.proofs.Use.{call_of, Fitting, Used, clean_there, fine_below, Stands, next_fine, MayBeAsked, equation_used, equivalence_used}
use Rattle.dlk_reach.proofs.Use.{condition_used}

not_both : (e : Tree) (path : List ℕ) (l s : Tree) → subtree e path ≡ Some l → subtree e path ≡ Some s → sort l ≡ Term → sort s ≡ Formula → ⊥
not_both e path l s a b p q = let same : l ≡ s = cc in let e = ap sort same in cc

-- an axiom with replacements, at what its key matches
fitting : {name path : List ℕ} {e there made : Tree} {first : Pair} {others : List Pair} {form : AxiomForm} → (x : Replaced name form first others there made) →
    subtree e path ≡ Some there → IsTrue (may_stand form Forwards (Succ 1) path) → Fitting name form path e (with_pairs (first ∷ others))
fitting {path = path} {there = there} x stands may = record {
  its_axiom = x.its_axiom;
  named = x.named;
  called = x.called;
  form_is = x.form_is;
  may = may;
  there = there;
  stands = stands;
  matches = x.matches;
}

module _ {rows : List Provable} {n : ℕ} {c : Sequent} {leaves : List Sequent} {e : Tree} {path : List ℕ} {l next : Tree}
    (st : Stands rows n c leaves e path l next) where
  -- an axiom l=next
  term_used : {name : List ℕ} {first : Pair} {others : List Pair} → IsClean Term l → IsClean Term next → IsUsable e path →
      Replaced name Q first others l (eq l next) → Used rows n c (call_of name path) (put_at e path next) leaves []
  term_used x y (at_formula s h is) rep = absurd (not_both e path l s st.stands h x.sort_is is)
  term_used {name = name} {first = first} {others = others} x y (at_term outer inner d parts way is on) rep =
      let both = over_two Op'.Eq l next (fine_below e path l st.roomy st.stands) (next_fine st) in
      let room = st.room in
      equation_used st 2 (omega arith) x y outer inner d (record { parts = parts; way = way; is_formula = is; plain = on })
      (fitting {path = path} rep st.stands refl)
      (instance_goes rows n name rep.its_axiom first others (eq l next) st.comes.counted (omega (arith, room)) rep.named (fits_of rep both.0 both.1))

  -- an axiom l <-> next
  formula_used : {name : List ℕ} {first : Pair} {others : List Pair} → IsClean Formula l → IsClean Formula next →
      Replaced name E first others l (equiv l next) → Used rows n c (call_of name path) (put_at e path next) leaves []
  formula_used {name = name} {first = first} {others = others} x y rep =
      let both = over_two Op'.Equiv l next (fine_below e path l st.roomy st.stands) (next_fine st) in
      let room = st.room in
      equivalence_used st 2 (omega arith) x y (fitting {path = path} rep st.stands refl)
      (instance_goes rows n name rep.its_axiom first others (equiv l next) st.comes.counted (omega (arith, room)) rep.named (fits_of rep both.0 both.1))

  -- an axiom b -> l=next
  condition_asked : {name : List ℕ} {first : Pair} {others : List Pair} (b : Tree) → IsClean Term l → IsClean Term next → IsUsable e path → MayBeAsked b →
      IsSmall (imply b (eq l next)) × IsShallow (imply b (eq l next)) → Replaced name R first others l (imply b (eq l next)) →
      Used rows n c (call_of name path) (put_at e path next) leaves (b ∷ [])
  condition_asked b x y (at_formula s h is) asked both rep = absurd (not_both e path l s st.stands h x.sort_is is)
  condition_asked {name = name} {first = first} {others = others} b x y (at_term outer inner d parts way is on) asked both rep =
      let new = some_new leaves (alone_right b ∷ []) in
      let equation = plain_op Op'.Eq Formula (Term ∷ Term ∷ []) refl refl refl refl refl in
      let formula = formula_of (eq l next) (clean_two Op'.Eq Formula Term Term l next equation x y) in
      let room = st.room in
      condition_used st b x y outer inner d (record { parts = parts; way = way; is_formula = is; plain = on }) asked formula both new.0 new.1
      (fitting {path = path} rep st.stands refl)
      (instance_goes rows n name rep.its_axiom first others (imply b (eq l next)) st.comes.counted (omega (arith, room)) rep.named (fits_of rep both.0 both.1))

-- x' for (x)'
variable_used : {rows : List Provable} {n : ℕ} {c : Sequent} {leaves : List Sequent} {e : Tree} {path : List ℕ} (x : List ℕ) →
    Stands rows n c leaves e path (diff (leaf (Op'.Variable (plain x)))) (leaf (Op'.Variable (prime x))) →
    IsClean Term (diff (leaf (Op'.Variable (plain x)))) → IsClean Term (leaf (Op'.Variable (prime x))) → IsUsable e path → IsTrue (is_name x) →
    Used rows n c (call_of (codes "Dvar") path) (put_at e path (leaf (Op'.Variable (prime x)))) leaves []
variable_used {e = e} {path = path} x st l y (at_formula s h is) name =
    absurd (not_both e path (diff (leaf (Op'.Variable (plain x)))) s st.stands h l.sort_is is)
variable_used {rows = rows} {n = n} {e = e} {path = path} x st l y (at_term outer inner d parts way is on) name =
    let room = st.room in
    let fits : Fitting (codes "Dvar") Q path e (with_name x []) = record {
      its_axiom = _;
      named = refl;
      called = refl;
      form_is = refl;
      may = refl;
      there = diff (leaf (Op'.Variable (plain x)));
      stands = st.stands;
      matches = variable_matches x;
    } in
    equation_used st 3 (omega arith) l y outer inner d (record { parts = parts; way = way; is_formula = is; plain = on }) fits
    (name_goes rows n (codes "Dvar") _ (λ z. eq (diff (leaf (Op'.Variable (plain z)))) (leaf (Op'.Variable (prime z)))) x st.comes.counted
    (omega (arith, room)) refl refl refl name)

-- \forall x (f)' for (\forall x f)'
module _ (x : List ℕ) (name : IsTrue (is_name x)) where
  -- the axiom with this name
  abbrev all_axiom : Tree
  all_axiom = equiv (diff_formula (forall x p_any)) (forall x (diff_formula p_any))

  all_op : IsPlainOp (Op'.Forall x) Formula (Formula ∷ [])
  all_op = plain_op (Op'.Forall x) Formula (Formula ∷ []) refl refl name refl refl

  axiom_clean : IsClean Formula all_axiom
  axiom_clean =
      let any = clean_leaf (Op'.UnitPred any_p) Formula (plain_op (Op'.UnitPred any_p) Formula [] refl refl refl refl refl) in
      clean_two Op'.Equiv Formula Formula Formula (diff_formula (forall x p_any)) (forall x (diff_formula p_any))
      (plain_op Op'.Equiv Formula (Formula ∷ Formula ∷ []) refl refl refl refl refl)
      (differential_formula (forall x p_any) (clean_one (Op'.Forall x) Formula Formula p_any all_op any))
      (clean_one (Op'.Forall x) Formula Formula (diff_formula p_any) all_op (differential_formula p_any any))

  all_fits : (a : Tree) → IsClean Formula a → IsFine a →
      IsSmall (equiv (diff_formula (forall x a)) (forall x (diff_formula a))) × IsShallow (equiv (diff_formula (forall x a)) (forall x (diff_formula a))) →
      Fits ((any_p ~> a) ∷ []) all_axiom (equiv (diff_formula (forall x a)) (forall x (diff_formula a)))
  all_fits a body fine both =
      let suit = one_suits (any_p ~> a) (formula_suits (codes "p") a [] body fine refl) in
      record {
        well = suit.serves.made;
        formed = suit.serves.well;
        makes = (imaged ((any_p ~> a) ∷ []) suit.serves all_axiom axiom_clean.well_made refl).0;
        small = suit.small;
        shallow = suit.shallow;
        small_made = both.0;
        shallow_made = both.1;
      }

  all_used : {rows : List Provable} {n : ℕ} {c : Sequent} {leaves : List Sequent} {e : Tree} {path : List ℕ} (a : Tree) →
      Stands rows n c leaves e path (diff_formula (forall x a)) (forall x (diff_formula a)) → IsClean Formula (diff_formula (forall x a)) →
      IsClean Formula (forall x (diff_formula a)) → IsClean Formula a →
      Used rows n c (call_of (codes "Dforall") path) (put_at e path (forall x (diff_formula a))) leaves []
  all_used {rows = rows} {n = n} {e = e} {path = path} a st l y body =
      let room = st.room in
      let before_fine = fine_below e path (diff_formula (forall x a)) st.roomy st.stands in
      let fine = fine_one (Op'.Forall x) a (fine_one Op'.DiffF (forall x a) before_fine) in
      let both = over_two Op'.Equiv (diff_formula (forall x a)) (forall x (diff_formula a)) before_fine (next_fine st) in
      let fits : Fitting (codes "Dforall") E path e (with_name x ((any_p ~> a) ∷ [])) = record {
        its_axiom = _;
        named = refl;
        called = refl;
        form_is = refl;
        may = refl;
        there = diff_formula (forall x a);
        stands = st.stands;
        matches = all_matches x a body.sort_is;
      } in
      equivalence_used st 3 (omega arith) l y fits
      (name_and_pairs_go rows n (codes "Dforall") _ (λ z. equiv (diff_formula (forall z p_any)) (forall z (diff_formula p_any))) x st.comes.counted
      (omega (arith, room)) refl refl refl name (any_p ~> a) [] (equiv (diff_formula (forall x a)) (forall x (diff_formula a))) (all_fits a body fine both))

-- what stands at the path, and what comes there
module _ {rows : List Provable} {n : ℕ} {c : Sequent} {leaves : List Sequent} {e : Tree} {path : List ℕ} {s next : Tree}
    (st : Stands rows n c leaves e path s next) where
  here : IsClean (sort s) s
  here = clean_there e path s (sort s) st.formula st.stands refl

  comes : {name : List ℕ} {asked : List Tree} → Opens s name next asked → IsClean (sort s) next
  comes {name = name} {asked = asked} opens = next_clean s name next asked opens here

-- the tree under a `( )'`
record Under (k : Sort) (a : Tree) : Type 0 where
  clean : IsClean k a
  fine : IsFine a

under_there : {rows : List Provable} {n : ℕ} {c : Sequent} {leaves : List Sequent} {e : Tree} {path : List ℕ} {next : Tree} (outer : Op) (k : Sort) (a : Tree) →
    kid_sorts outer ≡ k ∷ [] → Stands rows n c leaves e path (one outer a) next → Under k a
under_there {e = e} {path = path} outer k a kids st = record {
  clean = kid_of_one outer (sort (one outer a)) k a kids (here st);
  fine = fine_one outer a (fine_below e path (one outer a) st.roomy st.stands);
}

-- and its kids
record TwoUnder (k : Sort) (a b : Tree) : Type 0 where
  left : IsClean k a
  right : IsClean k b
  left_fine : IsFine a
  right_fine : IsFine b

two_there : {rows : List Provable} {n : ℕ} {c : Sequent} {leaves : List Sequent} {e : Tree} {path : List ℕ} {next : Tree} (outer op : Op) (s k : Sort)
    (a b : Tree) → kid_sorts outer ≡ s ∷ [] → kid_sorts op ≡ k ∷ k ∷ [] → Stands rows n c leaves e path (one outer (two op a b)) next → TwoUnder k a b
two_there outer op s k a b kids further st =
    let u = under_there outer s (two op a b) kids st in
    let x = kids_of_two op s k k a b further u.clean in
    let f = fine_two op a b u.fine in
    record { left = x.0; right = x.1; left_fine = f.0; right_fine = f.1 }

-- one use: the steps of the axiom that the `( )'` wants
pub one_use : {rows : List Provable} {n : ℕ} {c : Sequent} {leaves : List Sequent} {e : Tree} {path : List ℕ} (s : Tree) (name : List ℕ) (next : Tree)
    (asked : List Tree) → Stands rows n c leaves e path s next → IsUsable e path → Opens s name next asked →
    Used rows n c (call_of name path) (put_at e path next) leaves asked
one_use _ _ _ _ st usable (r.variable x) =
    let u = under_there Op'.Diff Term (leaf (Op'.Variable (plain x))) refl st in
    variable_used x st (here st) (comes st (r.variable x)) usable u.clean.well_made.0.parts_fit
one_use _ _ _ _ st usable (r.of_number k) =
    let u = under_there Op'.Diff Term (literal k) refl st in
    term_used st (here st) (comes st (r.of_number k)) usable (of_constant (literal k) u.clean u.fine (number_closed k))
one_use _ _ _ _ st usable (r.constant f) =
    let u = under_there Op'.Diff Term (leaf (Op'.Apply f)) refl st in
    term_used st (here st) (comes st (r.constant f)) usable (of_constant (leaf (Op'.Apply f)) u.clean u.fine (constant_closed f))
one_use _ _ _ _ st usable (r.negative a) =
    let u = under_there Op'.Diff Term (neg a) refl st in
    let x = kid_of_one Op'.Neg Term Term a refl u.clean in
    term_used st (here st) (comes st (r.negative a)) usable (of_negative a x (fine_one Op'.Neg a u.fine))
one_use _ _ _ _ st usable (r.sum a b) =
    let u = two_there Op'.Diff Op'.Add Term Term a b refl refl st in
    term_used st (here st) (comes st (r.sum a b)) usable (of_sum a b u.left u.right u.left_fine u.right_fine)
one_use _ _ _ _ st usable (r.difference a b) =
    let u = two_there Op'.Diff Op'.Sub Term Term a b refl refl st in
    term_used st (here st) (comes st (r.difference a b)) usable (of_difference a b u.left u.right u.left_fine u.right_fine)
one_use _ _ _ _ st usable (r.product a b) =
    let u = two_there Op'.Diff Op'.Mul Term Term a b refl refl st in
    term_used st (here st) (comes st (r.product a b)) usable (of_product a b u.left u.right u.left_fine u.right_fine)
one_use {e = e} {path = path} _ _ _ _ st usable (r.power a k other) =
    let u = two_there Op'.Diff Op'.Pow Term Term a (literal k) refl refl st in
    let condition = clean_two Op'.Ne Formula Term Term (literal k) (number 0) (plain_op Op'.Ne Formula (Term ∷ Term ∷ []) refl refl refl refl refl) u.right
    zero_clean in
    let f = fine_below e path (diff (pow a (literal k))) st.roomy st.stands in
    let g = next_fine st in
    condition_asked st (ne (literal k) (number 0)) (here st) (comes st (r.power a k other)) usable
    (record { formula = formula_of (ne (literal k) (number 0)) condition; fine = record { small = omega arith; shallow = omega arith }; arithmetic = refl })
    (let m = f.small in let h = f.shallow in let i = g.small in let j = g.shallow in (omega (arith, m, i), omega (arith, h, j)))
    (of_power a (literal k) u.left u.right u.left_fine u.right_fine (number_closed k))
one_use _ _ _ _ st usable (r.equal a b) =
    let u = two_there Op'.DiffF Op'.Eq Formula Term a b refl refl st in
    formula_used st (here st) (comes st (r.equal a b)) (of_equal a b u.left u.right u.left_fine u.right_fine)
one_use _ _ _ _ st usable (r.unequal a b) =
    let u = two_there Op'.DiffF Op'.Ne Formula Term a b refl refl st in
    formula_used st (here st) (comes st (r.unequal a b)) (of_unequal a b u.left u.right u.left_fine u.right_fine)
one_use _ _ _ _ st usable (r.at_least a b) =
    let u = two_there Op'.DiffF Op'.Ge Formula Term a b refl refl st in
    formula_used st (here st) (comes st (r.at_least a b)) (of_at_least a b u.left u.right u.left_fine u.right_fine)
one_use _ _ _ _ st usable (r.greater a b) =
    let u = two_there Op'.DiffF Op'.Gt Formula Term a b refl refl st in
    formula_used st (here st) (comes st (r.greater a b)) (of_greater a b u.left u.right u.left_fine u.right_fine)
one_use _ _ _ _ st usable (r.at_most a b) =
    let u = two_there Op'.DiffF Op'.Le Formula Term a b refl refl st in
    formula_used st (here st) (comes st (r.at_most a b)) (of_at_most a b u.left u.right u.left_fine u.right_fine)
one_use _ _ _ _ st usable (r.less a b) =
    let u = two_there Op'.DiffF Op'.Lt Formula Term a b refl refl st in
    formula_used st (here st) (comes st (r.less a b)) (of_less a b u.left u.right u.left_fine u.right_fine)
one_use _ _ _ _ st usable (r.both f g) =
    let u = two_there Op'.DiffF Op'.And Formula Formula f g refl refl st in
    formula_used st (here st) (comes st (r.both f g)) (of_both f g u.left u.right u.left_fine u.right_fine)
one_use _ _ _ _ st usable (r.either f g) =
    let u = two_there Op'.DiffF Op'.Or Formula Formula f g refl refl st in
    formula_used st (here st) (comes st (r.either f g)) (of_either f g u.left u.right u.left_fine u.right_fine)
one_use _ _ _ _ st usable (r.all x f) =
    let u = under_there Op'.DiffF Formula (forall x f) refl st in
    all_used x u.clean.well_made.0.parts_fit f st (here st) (comes st (r.all x f)) (kid_of_one (Op'.Forall x) Formula Formula f refl u.clean)
