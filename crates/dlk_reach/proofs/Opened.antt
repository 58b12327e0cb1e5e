-- What an axiom of differentials makes of a `( )'` is as clean as that, and how large its parts are.
use Rattle.std.proofs.Common.{◌≡◌, ℕ, ◌≤◌, List, [], ◌∷◌, refl, arith, false}
use Rattle.std.specs.Prelude.{IsTrue}
use Rattle.dlk_tree.specs.declared.op.Op.{Op}
use Rattle.dlk_tree.specs.declared.op.Op.TheVariants as Op'
use Rattle.dlk_tree.specs.declared.op.Sort.TheVariants.{Term, Formula}
use Rattle.dlk_tree.specs.Occurs.{is_some_dot, is_hole}
use Rattle.dlk_tree.specs.Statics.{plain, prime}
use Rattle.dlk_tree.specs.Table.{sort_of, kid_sorts, has_parts}
use Rattle.dlk_tree.specs.Trees.{Tree, node, Forest, no_kids, kid, sort, size, size_all, depth, depth_all}
use Rattle.dlk_calculus.specs.Notation.{leaf, one, two, number, neg, add, sub, mul, pow, diff, diff_formula, forall}
use Rattle.dlk_derive.specs.Derivative.{literal}
use Rattle.dlk_derive.specs.Rewriting.{Opens}
use Rattle.dlk_derive.specs.Rewriting as r
use Rattle.dlk_reach.proofs.Clean.{IsClean, IsPlainOp, plain as plain_op, clean_leaf, clean_one, clean_two, kid_of_one, kids_of_two}
use Rattle.dlk_reach.proofs.Equivalence.{IsFine}

-- what a kid's size is
pub fine_one : (op : Op) (a : Tree) → IsFine (one op a) → IsFine a
fine_one op a f = let x = f.small in let y = f.shallow in record { small = omega (arith, x); shallow = omega (arith, y) }

pub fine_two : (op : Op) (a b : Tree) → IsFine (two op a b) → IsFine a × IsFine b
fine_two op a b f = let x = f.small in let y = f.shallow in
    (record { small = omega (arith, x); shallow = omega (arith, y) }, record { small = omega (arith, x); shallow = omega (arith, y) })

mutual
  pub depth_is : (t : Tree) → depth t ≤ size t
  depth_is (node op kids) = let h = depths_are kids in omega (arith, h)

  depths_are : (kids : Forest) → depth_all kids ≤ size_all kids
  depths_are no_kids = omega arith
  depths_are (kid t rest) = let g = depth_is t in let h = depths_are rest in omega (arith, g, h)

-- operators as they are in the table
term_two : (op : Op) → sort_of op ≡ Term → kid_sorts op ≡ Term ∷ Term ∷ [] → IsTrue (has_parts op) → is_some_dot op ≡ false → is_hole op ≡ false →
    IsPlainOp op Term (Term ∷ Term ∷ [])
term_two op a b c d e = plain_op op Term (Term ∷ Term ∷ []) a b c d e

diff_op : IsPlainOp Op'.Diff Term (Term ∷ [])
diff_op = plain_op Op'.Diff Term (Term ∷ []) refl refl refl refl refl

diff_formula_op : IsPlainOp Op'.DiffF Formula (Formula ∷ [])
diff_formula_op = plain_op Op'.DiffF Formula (Formula ∷ []) refl refl refl refl refl

differential : (a : Tree) → IsClean Term a → IsClean Term (diff a)
differential a x = clean_one Op'.Diff Term Term a diff_op x

pub differential_formula : (a : Tree) → IsClean Formula a → IsClean Formula (diff_formula a)
differential_formula a x = clean_one Op'.DiffF Formula Formula a diff_formula_op x

pub zero_clean : IsClean Term (number 0)
zero_clean =
    let zero = Op'.Number (record { digits = 0; scale = 0 }) in
    clean_leaf zero Term (plain_op zero Term [] refl refl refl refl refl)

one_clean : IsClean Term (number 1)
one_clean =
    let unit = Op'.Number (record { digits = 1; scale = 0 }) in
    clean_leaf unit Term (plain_op unit Term [] refl refl refl refl refl)

-- under a `( )'`
under : (a : Tree) → IsClean Term (diff a) → IsClean Term a
under a x = kid_of_one Op'.Diff Term Term a refl x

under_formula : (a : Tree) → IsClean Formula (diff_formula a) → IsClean Formula a
under_formula a x = kid_of_one Op'.DiffF Formula Formula a refl x

abbrev over : (op : Op) → IsPlainOp op Term (Term ∷ Term ∷ []) → (a b : Tree) → IsClean Term a → IsClean Term b → IsClean Term (two op a b)
over op p a b x y = clean_two op Term Term Term a b p x y

-- a comparison of differentials
compared : (op : Op) → IsPlainOp op Formula (Term ∷ Term ∷ []) → (a b : Tree) → IsClean Term a → IsClean Term b → IsClean Formula (two op (diff a) (diff b))
compared op p a b x y = clean_two op Formula Term Term (diff a) (diff b) p (differential a x) (differential b y)

-- what comes is as clean as what stood there
pub next_clean : (s : Tree) (name : List ℕ) (next : Tree) (asked : List Tree) → Opens s name next asked → IsClean (sort s) s → IsClean (sort s) next
next_clean _ _ _ _ (r.variable x) l =
    let name = (under (leaf (Op'.Variable (plain x))) l).well_made.0.parts_fit in
    clean_leaf (Op'.Variable (prime x)) Term (plain_op (Op'.Variable (prime x)) Term [] refl refl name refl refl)
next_clean _ _ _ _ (r.of_number j) l = zero_clean
next_clean _ _ _ _ (r.constant c) l = zero_clean
next_clean _ _ _ _ (r.negative a) l =
    let x = kid_of_one Op'.Neg Term Term a refl (under (neg a) l) in
    clean_one Op'.Neg Term Term (diff a) (plain_op Op'.Neg Term (Term ∷ []) refl refl refl refl refl) (differential a x)
next_clean _ _ _ _ (r.sum a b) l =
    let x = kids_of_two Op'.Add Term Term Term a b refl (under (add a b) l) in
    over Op'.Add (term_two Op'.Add refl refl refl refl refl) (diff a) (diff b) (differential a x.0) (differential b x.1)
next_clean _ _ _ _ (r.difference a b) l =
    let x = kids_of_two Op'.Sub Term Term Term a b refl (under (sub a b) l) in
    over Op'.Sub (term_two Op'.Sub refl refl refl refl refl) (diff a) (diff b) (differential a x.0) (differential b x.1)
next_clean _ _ _ _ (r.product a b) l =
    let x = kids_of_two Op'.Mul Term Term Term a b refl (under (mul a b) l) in
    let m = term_two Op'.Mul refl refl refl refl refl in
    over Op'.Add (term_two Op'.Add refl refl refl refl refl) (mul (diff a) b) (mul a (diff b)) (over Op'.Mul m (diff a) b (differential a x.0) x.1)
    (over Op'.Mul m a (diff b) x.0 (differential b x.1))
next_clean _ _ _ _ (r.power a j other) l =
    let x = kids_of_two Op'.Pow Term Term Term a (literal j) refl (under (pow a (literal j)) l) in
    let m = term_two Op'.Mul refl refl refl refl refl in
    let less = over Op'.Sub (term_two Op'.Sub refl refl refl refl refl) (literal j) (number 1) x.1 one_clean in
    let raised = over Op'.Pow (term_two Op'.Pow refl refl refl refl refl) a (sub (literal j) (number 1)) x.0 less in
    over Op'.Mul m (mul (literal j) (pow a (sub (literal j) (number 1)))) (diff a)
    (over Op'.Mul m (literal j) (pow a (sub (literal j) (number 1))) x.1 raised) (differential a x.0)
next_clean _ _ _ _ (r.equal a b) l =
    let x = kids_of_two Op'.Eq Formula Term Term a b refl (under_formula (two Op'.Eq a b) l) in
    compared Op'.Eq (plain_op Op'.Eq Formula (Term ∷ Term ∷ []) refl refl refl refl refl) a b x.0 x.1
next_clean _ _ _ _ (r.unequal a b) l =
    let x = kids_of_two Op'.Ne Formula Term Term a b refl (under_formula (two Op'.Ne a b) l) in
    compared Op'.Eq (plain_op Op'.Eq Formula (Term ∷ Term ∷ []) refl refl refl refl refl) a b x.0 x.1
next_clean _ _ _ _ (r.at_least a b) l =
    let x = kids_of_two Op'.Ge Formula Term Term a b refl (under_formula (two Op'.Ge a b) l) in
    compared Op'.Ge (plain_op Op'.Ge Formula (Term ∷ Term ∷ []) refl refl refl refl refl) a b x.0 x.1
next_clean _ _ _ _ (r.greater a b) l =
    let x = kids_of_two Op'.Gt Formula Term Term a b refl (under_formula (two Op'.Gt a b) l) in
    compared Op'.Ge (plain_op Op'.Ge Formula (Term ∷ Term ∷ []) refl refl refl refl refl) a b x.0 x.1
next_clean _ _ _ _ (r.at_most a b) l =
    let x = kids_of_two Op'.Le Formula Term Term a b refl (under_formula (two Op'.Le a b) l) in
    compared Op'.Le (plain_op Op'.Le Formula (Term ∷ Term ∷ []) refl refl refl refl refl) a b x.0 x.1
next_clean _ _ _ _ (r.less a b) l =
    let x = kids_of_two Op'.Lt Formula Term Term a b refl (under_formula (two Op'.Lt a b) l) in
    compared Op'.Le (plain_op Op'.Le Formula (Term ∷ Term ∷ []) refl refl refl refl refl) a b x.0 x.1
next_clean _ _ _ _ (r.both a b) l =
    let x = kids_of_two Op'.And Formula Formula Formula a b refl (under_formula (two Op'.And a b) l) in
    clean_two Op'.And Formula Formula Formula (diff_formula a) (diff_formula b) (plain_op Op'.And Formula (Formula ∷ Formula ∷ []) refl refl refl refl refl)
    (differential_formula a x.0) (differential_formula b x.1)
next_clean _ _ _ _ (r.either a b) l =
    let x = kids_of_two Op'.Or Formula Formula Formula a b refl (under_formula (two Op'.Or a b) l) in
    clean_two Op'.And Formula Formula Formula (diff_formula a) (diff_formula b) (plain_op Op'.And Formula (Formula ∷ Formula ∷ []) refl refl refl refl refl)
    (differential_formula a x.0) (differential_formula b x.1)
next_clean _ _ _ _ (r.all x a) l =
    let whole = under_formula (forall x a) l in
    let name = whole.well_made.0.parts_fit in
    clean_one (Op'.Forall x) Formula Formula (diff_formula a) (plain_op (Op'.Forall x) Formula (Formula ∷ []) refl refl name refl refl)
    (differential_formula a (kid_of_one (Op'.Forall x) Formula Formula a refl whole))
