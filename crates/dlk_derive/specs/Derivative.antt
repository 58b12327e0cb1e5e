-- Derivatives of terms and of formulas, as trees.
use Rattle.std.specs.Prelude.{◌≢◌, ℕ, List}
use Rattle.dlk_tree.specs.declared.op.Num.{Num}
use Rattle.dlk_tree.specs.declared.op.Sym.{Sym}
use Rattle.dlk_tree.specs.declared.op.Op.TheVariants as Op'
use Rattle.dlk_tree.specs.Trees.{Tree}
use Rattle.dlk_tree.specs.Statics.{plain, prime}
use Rattle.dlk_calculus.specs.Notation.{leaf, number, neg, add, sub, mul, pow, diff, eq, ne, ge, gt, le, lt, conj, disj, diff_formula, forall}

abbrev pub literal : Num → Tree
literal k = leaf (Op'.Number k)

-- OfTerm e d: d is the derivative of the term e. One case an operator; a term with another one has none.
pub data OfTerm : Tree → Tree → Type 0 where
  -- x'
  variable : (x : List ℕ) → OfTerm (leaf (Op'.Variable (plain x))) (leaf (Op'.Variable (prime x)))
  -- 0
  of_number : (k : Num) → OfTerm (literal k) (number 0)
  constant : (c : Sym) → OfTerm (leaf (Op'.Apply c)) (number 0)
  negative : {a da : Tree} → OfTerm a da → OfTerm (neg a) (neg da)
  sum : {a b da db : Tree} → OfTerm a da → OfTerm b db → OfTerm (add a b) (add da db)
  difference : {a b da db : Tree} → OfTerm a da → OfTerm b db → OfTerm (sub a b) (sub da db)
  -- da*b+a*db
  product : {a b da db : Tree} → OfTerm a da → OfTerm b db → OfTerm (mul a b) (add (mul da b) (mul a db))
  -- k*a^(k-1)*da, where k is a number other than 0
  power : {a da : Tree} (k : Num) → k.digits ≢ 0 → OfTerm a da →
      OfTerm (pow a (literal k)) (mul (mul (literal k) (pow a (sub (literal k) (number 1)))) da)

-- OfFormula f d: the same of formulas
pub data OfFormula : Tree → Tree → Type 0 where
  equal : {a b da db : Tree} → OfTerm a da → OfTerm b db → OfFormula (eq a b) (eq da db)
  unequal : {a b da db : Tree} → OfTerm a da → OfTerm b db → OfFormula (ne a b) (eq da db)
  at_least : {a b da db : Tree} → OfTerm a da → OfTerm b db → OfFormula (ge a b) (ge da db)
  greater : {a b da db : Tree} → OfTerm a da → OfTerm b db → OfFormula (gt a b) (ge da db)
  at_most : {a b da db : Tree} → OfTerm a da → OfTerm b db → OfFormula (le a b) (le da db)
  less : {a b da db : Tree} → OfTerm a da → OfTerm b db → OfFormula (lt a b) (le da db)
  both : {f g df dg : Tree} → OfFormula f df → OfFormula g dg → OfFormula (conj f g) (conj df dg)
  either : {f g df dg : Tree} → OfFormula f df → OfFormula g dg → OfFormula (disj f g) (conj df dg)
  all : {f df : Tree} (x : List ℕ) → OfFormula f df → OfFormula (forall x f) (forall x df)

-- IsDerivative t d: t is a `( )'` of a tree whose derivative is d
pub data IsDerivative : Tree → Tree → Type 0 where
  of_term : {e d : Tree} → OfTerm e d → IsDerivative (diff e) d
  of_formula : {f d : Tree} → OfFormula f d → IsDerivative (diff_formula f) d
