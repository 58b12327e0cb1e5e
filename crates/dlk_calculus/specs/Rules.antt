-- The sequent rules, from the conclusion up to the premises.
use Rattle.std.specs.Prelude.{◌≡◌, ℕ, ◌<◌, List, [], ◌∷◌, ◌++◌, false, ◌||◌, IsTrue}
use Rattle.std.specs.List.{list_any}
use Rattle.std.specs.Prelude.{codes}
use Rattle.dlk_tree.specs.declared.op.Op.{Op}
use Rattle.dlk_tree.specs.declared.op.Op.TheVariants as Op'
use Rattle.dlk_tree.specs.Names.{is_name}
use Rattle.dlk_tree.specs.Trees.{Tree}
use Rattle.dlk_tree.specs.Statics.{free, plain}
use Rattle.dlk_calculus.specs.declared.reason.Reason.{Reason}
use Rattle.dlk_calculus.specs.declared.reason.Reason.TheVariants.{NoPlace, WrongShape, NotEqual, NotFresh}
use Rattle.dlk_calculus.specs.Reasons.{rank}
use Rattle.dlk_calculus.specs.Notation.{leaf, one, two}
use Rattle.dlk_calculus.specs.Places.{At, IsPlace, put, without_place}
use Rattle.dlk_calculus.specs.Sequents.{Sequent, ◌==>◌, IsFormula}
use Rattle.dlk_calculus.specs.Rename.{may_rename, RenamesBound, Bound}

-- A rule with its places, its formula or its name: i and k are places on the left, j and l on the right.
pub data Rule : Type 0 where
  Close : (i j : ℕ) → Rule
  CloseTrue : (j : ℕ) → Rule
  CloseFalse : (i : ℕ) → Rule
  NotL : (i : ℕ) → Rule
  NotR : (j : ℕ) → Rule
  AndL : (i : ℕ) → Rule
  AndR : (j : ℕ) → Rule
  OrL : (i : ℕ) → Rule
  OrR : (j : ℕ) → Rule
  ImplyL : (i : ℕ) → Rule
  ImplyR : (j : ℕ) → Rule
  EquivL : (i : ℕ) → Rule
  EquivR : (j : ℕ) → Rule
  Cut : (h : Tree) → Rule
  CutL : (i : ℕ) (h : Tree) → Rule
  CutR : (j : ℕ) (h : Tree) → Rule
  HideL : (i : ℕ) → Rule
  HideR : (j : ℕ) → Rule
  CoHideR : (j : ℕ) → Rule
  ExchangeL : (i k : ℕ) → Rule
  ExchangeR : (j l : ℕ) → Rule
  SkolemL : (i : ℕ) → Rule
  SkolemR : (j : ℕ) → Rule
  BoundL : (i : ℕ) (y : List ℕ) → Rule
  BoundR : (j : ℕ) (y : List ℕ) → Rule
  EquivifyR : (j : ℕ) → Rule
  CommuteEquivL : (i : ℕ) → Rule
  CommuteEquivR : (j : ℕ) → Rule

-- what stands in the brackets behind the word of a rule
pub data Arguments : Type 0 where
  OnePlace : (i : ℕ) → Arguments
  TwoPlaces : (i k : ℕ) → Arguments
  PlaceAndFormula : (i : ℕ) (h : Tree) → Arguments
  OneFormula : (h : Tree) → Arguments
  PlaceAndName : (i : ℕ) (y : List ℕ) → Arguments

-- the word of a rule, and what stands in the brackets behind it
abbrev pub call_of : Rule → List ℕ × Arguments
call_of (Close i j) = (codes "close", TwoPlaces i j)
call_of (CloseTrue j) = (codes "closeTrue", OnePlace j)
call_of (CloseFalse i) = (codes "closeFalse", OnePlace i)
call_of (NotL i) = (codes "notL", OnePlace i)
call_of (NotR j) = (codes "notR", OnePlace j)
call_of (AndL i) = (codes "andL", OnePlace i)
call_of (AndR j) = (codes "andR", OnePlace j)
call_of (OrL i) = (codes "orL", OnePlace i)
call_of (OrR j) = (codes "orR", OnePlace j)
call_of (ImplyL i) = (codes "implyL", OnePlace i)
call_of (ImplyR j) = (codes "implyR", OnePlace j)
call_of (EquivL i) = (codes "equivL", OnePlace i)
call_of (EquivR j) = (codes "equivR", OnePlace j)
call_of (Cut h) = (codes "cut", OneFormula h)
call_of (CutL i h) = (codes "cutL", PlaceAndFormula i h)
call_of (CutR j h) = (codes "cutR", PlaceAndFormula j h)
call_of (HideL i) = (codes "hideL", OnePlace i)
call_of (HideR j) = (codes "hideR", OnePlace j)
call_of (CoHideR j) = (codes "coHideR", OnePlace j)
call_of (ExchangeL i k) = (codes "exchangeL", TwoPlaces i k)
call_of (ExchangeR j l) = (codes "exchangeR", TwoPlaces j l)
call_of (SkolemL i) = (codes "skolemL", OnePlace i)
call_of (SkolemR j) = (codes "skolemR", OnePlace j)
call_of (BoundL i y) = (codes "boundL", PlaceAndName i y)
call_of (BoundR j y) = (codes "boundR", PlaceAndName j y)
call_of (EquivifyR j) = (codes "equivifyR", OnePlace j)
call_of (CommuteEquivL i) = (codes "commuteEquivL", OnePlace i)
call_of (CommuteEquivR j) = (codes "commuteEquivR", OnePlace j)

abbrev pub word_of : Rule → List ℕ
word_of rule = (call_of rule).0

abbrev pub arguments_of : Rule → Arguments
arguments_of rule = (call_of rule).1

-- the name among the arguments, where there is one, is a name
abbrev pub AreProper : Arguments → Type 0
AreProper (OnePlace i) = Unit {0}
AreProper (TwoPlaces i k) = Unit {0}
AreProper (PlaceAndFormula i h) = Unit {0}
AreProper (OneFormula h) = Unit {0}
AreProper (PlaceAndName i y) = IsTrue (is_name y)

abbrev pub IsProperRule : Rule → Type 0
IsProperRule rule = AreProper (arguments_of rule)

abbrev pub imply : Tree → Tree → Tree
imply f g = two Op'.Imply f g

abbrev pub equiv : Tree → Tree → Tree
equiv f g = two Op'.Equiv f g

-- x is free in no formula of the sequent; x' may be
abbrev pub IsFreshIn : Sequent → List ℕ → Type 0
IsFreshIn s x = (list_any (λ t. free t (plain x)) s.ante || list_any (λ t. free t (plain x)) s.succ) ≡ false

-- The inference figure of a rule, read upwards from a sequent: what must hold of it, and the premises. What must hold stands in four
-- parts, each with a reason of its own against the rule.
pub record Figure : Type 1 where
  -- the places are there
  pub places : Type 0
  -- the parts of which the figure speaks: formulas, kids of one, or a variable with its scope and the renamed scope; for some rules none
  pub Parts : Type 0
  -- the formulas there have the form that the rule wants, of these parts
  pub shape : Parts → Type 0
  -- the formulas that are to be the same are
  pub equals : Parts → Type 0
  -- variables that are to be fresh are
  pub fresh : Parts → Type 0
  pub premises : Parts → List Sequent

-- a rule that asks for its places and a form alone
abbrev pub plain_figure : Type 0 → (Parts : Type 0) → (Parts → Type 0) → (Parts → List Sequent) → Figure
plain_figure places Parts shape premises = record {
  places = places;
  Parts = Parts;
  shape = shape;
  equals = λ p. Unit {0};
  fresh = λ p. Unit {0};
  premises = premises;
}

-- Figures by what is to stand at a place of a side:

-- the formula that this form makes of the parts stands there
abbrev pub form_at : List Tree → ℕ → (Parts : Type 0) → (Parts → Tree) → (Parts → List Sequent) → Figure
form_at side i Parts form premises = plain_figure (IsPlace side i) Parts (λ p. At side i (form p)) premises

-- any formula f
abbrev pub any_at : List Tree → ℕ → (Tree → List Sequent) → Figure
any_at side i premises = form_at side i Tree (λ f. f) premises

-- an operator over nothing
abbrev pub nullary_at : List Tree → ℕ → Op → List Sequent → Figure
nullary_at side i op premises = form_at side i (Unit {0}) (λ p. leaf op) (λ p. premises)

-- an operator over f
abbrev pub unary_at : List Tree → ℕ → Op → (Tree → List Sequent) → Figure
unary_at side i op premises = form_at side i Tree (λ f. one op f) premises

-- an operator over f and g
abbrev pub binary_at : List Tree → ℕ → Op → (Tree → Tree → List Sequent) → Figure
binary_at side i op premises = form_at side i (Tree × Tree) (λ p. two op p.0 p.1) (λ p. premises p.0 p.1)

-- a quantifier of x over f, where x is fresh in the rest of the sequent
abbrev pub quantifier_at : List Tree → ℕ → (List ℕ → Op) → Sequent → (Tree → List Sequent) → Figure
quantifier_at side i op rest premises = record (form_at side i (List ℕ × Tree) (λ p. one (op p.0) p.1) (λ p. premises p.1)) { fresh = λ p. IsFreshIn rest p.0 }

-- a formula that binds x over f, where y is fresh for x; g is the same with y for x
abbrev pub binder_at : List Tree → ℕ → List ℕ → (Tree → List Sequent) → Figure
binder_at side i y premises = record {
  places = IsPlace side i;
  Parts = Bound;
  shape = λ p. (t : Tree) × At side i t × RenamesBound p.x y p.f t p.g;
  equals = λ p. Unit {0};
  fresh = λ p. IsTrue (may_rename p.x y p.f);
  premises = λ p. premises p.g;
}

-- any formulas f and g at two places, of which this holds
abbrev pub both_at : List Tree → ℕ → List Tree → ℕ → (Tree → Tree → Type 0) → (Tree → Tree → List Sequent) → Figure
both_at side i other k equals premises = record {
  places = IsPlace side i × IsPlace other k;
  Parts = Tree × Tree;
  shape = λ p. At side i p.0 × At other k p.1;
  equals = λ p. equals p.0 p.1;
  fresh = λ p. Unit {0};
  premises = λ p. premises p.0 p.1;
}

-- any formula f, for a rule whose own formula is h
abbrev pub cut_at : List Tree → ℕ → Tree → (Tree → List Sequent) → Figure
cut_at side i h premises = plain_figure (IsPlace side i) Tree (λ f. At side i f × IsFormula h) premises

-- The sequent rules, one row a rule, of a sequent with A on the left and S on the right. In each comment, A i stands at place i on the left,
-- S j at place j on the right, f and g are the formula's kids, and h is the rule's own formula. `First ..; then ..` are two premises. A
-- side that isn't named stays as it is.
abbrev pub figure : Rule → List Tree → List Tree → Figure
-- close(i,j): A i and S j are the same. No premises.
figure (Close i j) A S = both_at A i S j (λ f g. f ≡ g) (λ f g. [])
-- closeTrue(j): S j is true. No premises.
figure (CloseTrue j) A S = nullary_at S j Op'.True []
-- closeFalse(i): A i is false. No premises.
figure (CloseFalse i) A S = nullary_at A i Op'.False []
-- notL(i): A i is !f. A i removed, f last on the right.
figure (NotL i) A S = unary_at A i Op'.Not (λ f. (without_place A i ==> S ++ f ∷ []) ∷ [])
-- notR(j): S j is !f. S j removed, f last on the left.
figure (NotR j) A S = unary_at S j Op'.Not (λ f. (A ++ f ∷ [] ==> without_place S j) ∷ [])
-- andL(i): A i is f & g. f at i, g last on the left.
figure (AndL i) A S = binary_at A i Op'.And (λ f g. (put A i f ++ g ∷ [] ==> S) ∷ [])
-- andR(j): S j is f & g. First f at j; then g at j.
figure (AndR j) A S = binary_at S j Op'.And (λ f g. (A ==> put S j f) ∷ (A ==> put S j g) ∷ [])
-- orL(i): A i is f | g. First f at i; then g at i.
figure (OrL i) A S = binary_at A i Op'.Or (λ f g. (put A i f ==> S) ∷ (put A i g ==> S) ∷ [])
-- orR(j): S j is f | g. f at j, g last on the right.
figure (OrR j) A S = binary_at S j Op'.Or (λ f g. (A ==> put S j f ++ g ∷ []) ∷ [])
-- implyL(i): A i is f -> g. First A i removed, f last on the right; then g at i.
figure (ImplyL i) A S = binary_at A i Op'.Imply (λ f g. (without_place A i ==> S ++ f ∷ []) ∷ (put A i g ==> S) ∷ [])
-- implyR(j): S j is f -> g. g at j, f last on the left.
figure (ImplyR j) A S = binary_at S j Op'.Imply (λ f g. (A ++ f ∷ [] ==> put S j g) ∷ [])
-- equivL(i): A i is f <-> g. f -> g at i, g -> f last on the left.
figure (EquivL i) A S = binary_at A i Op'.Equiv (λ f g. (put A i (imply f g) ++ imply g f ∷ [] ==> S) ∷ [])
-- equivR(j): S j is f <-> g. First f -> g at j; then g -> f at j.
figure (EquivR j) A S = binary_at S j Op'.Equiv (λ f g. (A ==> put S j (imply f g)) ∷ (A ==> put S j (imply g f)) ∷ [])
-- cut(h): first h last on the left; then h last on the right.
figure (Cut h) A S = plain_figure (Unit {0}) (Unit {0}) (λ p. IsFormula h) (λ p. (A ++ h ∷ [] ==> S) ∷ (A ==> S ++ h ∷ []) ∷ [])
-- cutL(i,h): A i is any f. First h at i; then A i removed, f -> h last on the right.
figure (CutL i h) A S = cut_at A i h (λ f. (put A i h ==> S) ∷ (without_place A i ==> S ++ imply f h ∷ []) ∷ [])
-- cutR(j,h): S j is any f. First h at j; then h -> f at j.
figure (CutR j h) A S = cut_at S j h (λ f. (A ==> put S j h) ∷ (A ==> put S j (imply h f)) ∷ [])
-- hideL(i): A i removed.
figure (HideL i) A S = any_at A i (λ f. (without_place A i ==> S) ∷ [])
-- hideR(j): S j removed.
figure (HideR j) A S = any_at S j (λ f. (A ==> without_place S j) ∷ [])
-- coHideR(j): S j alone on the right, nothing on the left.
figure (CoHideR j) A S = any_at S j (λ f. ([] ==> f ∷ []) ∷ [])
-- exchangeL(i,k): A i, which is f, at k, and A k, which is g, at i.
figure (ExchangeL i k) A S = both_at A i A k (λ f g. Unit {0}) (λ f g. (put (put A i g) k f ==> S) ∷ [])
-- exchangeR(j,l): S j, which is f, at l, and S l, which is g, at j.
figure (ExchangeR j l) A S = both_at S j S l (λ f g. Unit {0}) (λ f g. (A ==> put (put S j g) l f) ∷ [])
-- skolemL(i): A i is \exists x f, and x, without a prime, is free in no other formula. f at i.
figure (SkolemL i) A S = quantifier_at A i Op'.Exists (without_place A i ==> S) (λ f. (put A i f ==> S) ∷ [])
-- skolemR(j): S j is \forall x f, and x, without a prime, is free in no other formula. f at j.
figure (SkolemR j) A S = quantifier_at S j Op'.Forall (A ==> without_place S j) (λ f. (A ==> put S j f) ∷ [])
-- boundL(i,y): A i is \forall x f, \exists x f, [x:=e;]f or <x:=e;>f. y, y' and x' aren't free in f, and no unit symbol, predicational,
-- program constant or ODE constant stands in f. The same with y for the bound x, and x and y exchanged in f, at i.
figure (BoundL i y) A S = binder_at A i y (λ g. (put A i g ==> S) ∷ [])
-- boundR(j,y): S j is as A i in boundL. The same with y for the bound x, and x and y exchanged in f, at j.
figure (BoundR j y) A S = binder_at S j y (λ g. (A ==> put S j g) ∷ [])
-- equivifyR(j): S j is f -> g. f <-> g at j.
figure (EquivifyR j) A S = binary_at S j Op'.Imply (λ f g. (A ==> put S j (equiv f g)) ∷ [])
-- commuteEquivL(i): A i is f <-> g. g <-> f at i.
figure (CommuteEquivL i) A S = binary_at A i Op'.Equiv (λ f g. (put A i (equiv g f) ==> S) ∷ [])
-- commuteEquivR(j): S j is f <-> g. g <-> f at j.
figure (CommuteEquivR j) A S = binary_at S j Op'.Equiv (λ f g. (A ==> put S j (equiv g f)) ∷ [])

-- Premises rule s premises: the rule makes these premises of the sequent.
pub record Premises (rule : Rule) (s : Sequent) (premises : List Sequent) : Type 0 where
  pub places : (figure rule s.ante s.succ).places
  pub parts : (figure rule s.ante s.succ).Parts
  pub shape : (figure rule s.ante s.succ).shape parts
  pub equals : (figure rule s.ante s.succ).equals parts
  pub fresh : (figure rule s.ante s.succ).fresh parts
  pub premises_are : premises ≡ (figure rule s.ante s.succ).premises parts

-- the formulas at the places have the form that the rule wants, but this doesn't hold of their parts
abbrev pub Lacks : (fig : Figure) → (fig.Parts → Type 0) → Type 0
Lacks fig P = (p : fig.Parts) × fig.shape p × (¬ P p)

-- What speaks against a rule on a sequent. One row a reason.
abbrev pub RuleAgainst : Reason → Rule → Sequent → Type 0
RuleAgainst NoPlace rule s = ¬ (figure rule s.ante s.succ).places
RuleAgainst WrongShape rule s = (p : (figure rule s.ante s.succ).Parts) → ¬ (figure rule s.ante s.succ).shape p
RuleAgainst NotEqual rule s = Lacks (figure rule s.ante s.succ) (figure rule s.ante s.succ).equals
RuleAgainst NotFresh rule s = Lacks (figure rule s.ante s.succ) (figure rule s.ante s.succ).fresh
RuleAgainst _ rule s = ⊥

-- the first reason against the rule
pub record FirstAgainst (rule : Rule) (s : Sequent) (why : Reason) : Type 0 where
  pub against : RuleAgainst why rule s
  pub first : (earlier : Reason) → rank earlier < rank why → ¬ RuleAgainst earlier rule s
