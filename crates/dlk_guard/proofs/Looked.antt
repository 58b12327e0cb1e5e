-- What a walk looks at: its looks are paid for kid by kid.
use Rattle.std.proofs.Common.{◌≡◌, ◌∙◌, refl, sym, ap, ℕ, zero, suc, ◌+◌, ◌*◌, ◌<◌, ◌≤◌, List, [], ◌∷◌, length, get_or, drop, map, add-one, drop-cons, arith}
use Rattle.std.proofs.lemmas.List.Sums.{sum_by-cons}
use Rattle.std.proofs.Math.Nat.{mul-le-mul_left}
use Rattle.dlk_tree.specs.declared.op.Op.{Op}
use Rattle.dlk_tree.specs.Trees.{Tree, node, Forest, no_kids, kid, size, size_all, depth, depth_all}
use Rattle.dlk_store.specs.declared.Id.{Id}
use Rattle.dlk_store.specs.Stores.{tree, kid_trees}
use Rattle.dlk_store.proofs.Kids.{kid_trees-drop}
use Rattle.dlk_sequent.specs.declared.subst.Pair.{Pair}
use Rattle.dlk_sequent.specs.Substitutions.{pair_at, pairs_at}
use Rattle.dlk_calculus.specs.Pairs.{Pair as TreePair}
use Rattle.dlk_guard.specs.Looks.{smooth_looks, smooth_looks_all, loose_looks, pairs_looks}

-- a kid is no deeper than the kids together
pub kid_depth : (trees : List Tree) (ks : List Id) (i : ℕ) (d : Id) → i < length ks → depth (tree trees (get_or ks i d)) ≤ depth_all (kid_trees trees ks)
kid_depth trees [] i d h = absurd (omega arith)
kid_depth trees (k ∷ ks) zero d h = omega arith
kid_depth trees (k ∷ ks) (suc i) d h = omega (arith, kid_depth trees ks i d (omega arith))

-- and less deep than the node
pub kid_shallower : (trees : List Tree) (t : Tree) (op : Op) (ks : List Id) (i : ℕ) (d : Id) →
    t ≡ node op (kid_trees trees ks) → i < length ks → depth (tree trees (get_or ks i d)) < depth t
kid_shallower trees t op ks i d e h = rw e (omega (arith, kid_depth trees ks i d h))

-- one kid more, with at most so many looks at a node
pub next_kid : (trees : List Tree) (ks : List Id) (i : ℕ) (d : Id) (most now new total : ℕ) → i < length ks →
    new ≤ now + size (tree trees (get_or ks i d)) * most → now + size_all (kid_trees trees (drop i ks)) * most ≤ total →
    new + size_all (kid_trees trees (drop (i + 1) ks)) * most ≤ total
next_kid trees ks i d most now new total h cost paid =
    let parts = rw (kid_trees-drop trees ks i d h) at paid in omega (arith, cost, parts)

pub next_smooth : (trees : List Tree) (ks : List Id) (i : ℕ) (d : Id) (parts most now new total : ℕ) → i < length ks →
    1 + depth (tree trees (get_or ks i d)) + 3 * parts ≤ most → new ≤ now + smooth_looks parts (tree trees (get_or ks i d)) →
    now + size_all (kid_trees trees (drop i ks)) * most ≤ total → new + size_all (kid_trees trees (drop (i + 1) ks)) * most ≤ total
next_smooth trees ks i d parts most now new total h few cost paid =
    let t = tree trees (get_or ks i d) in
    let up : size t * (1 + depth t + 3 * parts) ≤ size t * most = mul-le-mul_left (size t) few in
    next_kid trees ks i d most now new total h (omega (arith, cost, up)) paid

-- the node, and what its operator asks of its kids
pub smooth_begins : (parts now new : ℕ) (t : Tree) (op : Op) (kids : Forest) → t ≡ node op kids → new ≤ now + 2 + size_all kids + 3 * parts →
    new + size_all kids * (depth t + 3 * parts) ≤ now + smooth_looks parts t
smooth_begins parts now new t op kids e cost = rw e (omega (arith, cost))

pub smooth_ends : (parts now new : ℕ) (t : Tree) (op : Op) (kids : Forest) → t ≡ node op kids → new ≤ now + 1 + smooth_looks_all parts kids →
    new ≤ now + smooth_looks parts t
smooth_ends parts now new t op kids e cost = rw e (omega (arith, cost))

pub loose_begins : (parts now new : ℕ) (t : Tree) (op : Op) (kids : Forest) → t ≡ node op kids → new ≤ now + 1 + 3 * parts →
    new + size_all kids * (1 + 3 * parts) ≤ now + loose_looks parts t
loose_begins parts now new t op kids e cost = rw e (omega (arith, cost))

-- the pairs from place i on: the i-th, and the later ones
pub pairs_left : (trees : List Tree) (pairs : List Pair) (i : ℕ) (p : Pair) → p ≡ get_or pairs i p → i < length pairs →
    pairs_at trees (drop i pairs) ≡ pair_at trees p ∷ pairs_at trees (drop (i + 1) pairs)
pairs_left trees pairs i p e h =
    let parted : pairs_at trees (drop i pairs) ≡ pair_at trees (get_or pairs i p) ∷ pairs_at trees (drop (i + 1) pairs) =
    rw (drop-cons pairs i p, add-one) refl in
    parted ∙ ap (λ q. pair_at trees q ∷ pairs_at trees (drop (i + 1) pairs)) (sym e)

-- one pair more
pub next_pair : (trees : List Tree) (pairs : List Pair) (i : ℕ) (p : Pair) (now new total : ℕ) → p ≡ get_or pairs i p → i < length pairs →
    new ≤ now + size (tree trees p.by) → now + pairs_looks (pairs_at trees (drop i pairs)) ≤ total →
    new + pairs_looks (pairs_at trees (drop (i + 1) pairs)) ≤ total
next_pair trees pairs i p now new total e h cost paid =
    let parted = ap pairs_looks (pairs_left trees pairs i p e h)
    ∙ sum_by-cons (λ (q : TreePair). size q.by) (pair_at trees p) (pairs_at trees (drop (i + 1) pairs)) in
    omega (arith, cost, paid, parted)
