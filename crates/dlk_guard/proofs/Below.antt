-- What is looked at of an instance, by the sizes of its parts.
use Rattle.std.proofs.Common.{◌≡◌, ◌∙◌, refl, sym, ap, ℕ, zero, suc, ◌+◌, ◌*◌, ◌≤◌, List, [], ◌∷◌, length, map, Option, Some, None, arith}
use Rattle.std.proofs.Math.Nat.{mul-le-mul_left, mul-le-mul_right}
use Rattle.std.proofs.lemmas.List.{length-map}
use Rattle.std.proofs.lemmas.Option.{same_Some}
use Rattle.dlk_tree.specs.declared.op.Op.{Op}
use Rattle.dlk_tree.specs.Trees.{Tree, node, Forest, no_kids, kid, size, size_all, depth, depth_all}
use Rattle.dlk_store.specs.declared.Id.{Id}
use Rattle.dlk_store.specs.Stores.{tree, kid_trees}
use Rattle.dlk_calculus.specs.Paths.{subtree, subtree_in}
use Rattle.dlk_calculus.proofs.PathLaws.{subtree_nil, subtree_later}
use Rattle.dlk_sequent.specs.Spines.{LeadsTo}
use Rattle.dlk_guard.specs.Smooth.{domain_parts}
use Rattle.dlk_guard.specs.Instances.{before_last}
use Rattle.dlk_guard.specs.Looks.{smooth_looks, smooth_looks_all, di_looks, dg_looks, part_count, instance_looks}

at_end : (t u : Tree) → subtree t [] ≡ Some u → t ≡ u
at_end t u e = same_Some t u (sym (subtree_nil t) ∙ e)

-- a subtree is smaller than the tree by the way to it, and less deep
mutual
  pub size_below : (t : Tree) (path : List ℕ) (u : Tree) → subtree t path ≡ Some u → length path + size u ≤ size t
  size_below t [] u e = rw (at_end t u e) (omega arith)
  size_below (node op kids) (n ∷ path) u e = omega (arith, size_in kids n path u e)

  size_in : (kids : Forest) (n : ℕ) (path : List ℕ) (u : Tree) → subtree_in kids n path ≡ Some u → length path + size u ≤ size_all kids
  size_in no_kids n path u e = absurd (cc e)
  size_in (kid t rest) zero path u e = omega (arith, size_below t path u e)
  size_in (kid t rest) (suc n) path u e = omega (arith, size_in rest n path u (sym (subtree_later t rest n path) ∙ e))

mutual
  pub depth_below : (t : Tree) (path : List ℕ) (u : Tree) → subtree t path ≡ Some u → length path + depth u ≤ depth t
  depth_below t [] u e = rw (at_end t u e) (omega arith)
  depth_below (node op kids) (n ∷ path) u e = omega (arith, depth_in kids n path u e)

  depth_in : (kids : Forest) (n : ℕ) (path : List ℕ) (u : Tree) → subtree_in kids n path ≡ Some u → length path + depth u ≤ depth_all kids
  depth_in no_kids n path u e = absurd (cc e)
  depth_in (kid t rest) zero path u e = omega (arith, depth_below t path u e)
  depth_in (kid t rest) (suc n) path u e = omega (arith, depth_in rest n path u (sym (subtree_later t rest n path) ∙ e))

-- the system of an instance of DI and its formula stand side by side
system_and_post : (t a b : Tree) → subtree t (1 ∷ 0 ∷ 0 ∷ []) ≡ Some a → subtree t (1 ∷ 0 ∷ 1 ∷ []) ≡ Some b → 3 + size a + size b ≤ size t
system_and_post (node op no_kids) a b e f = absurd (cc e)
system_and_post (node op (kid x no_kids)) a b e f = absurd (cc e)
system_and_post (node op (kid x (kid (node o no_kids) rest))) a b e f = absurd (cc e)
system_and_post (node op (kid x (kid (node o (kid (node q kids) more)) rest))) a b e f = omega (arith, side_by_side kids e f)
  where
    side_by_side : (kids : Forest) → subtree_in kids 0 [] ≡ Some a → subtree_in kids 1 [] ≡ Some b → size a + size b ≤ size_all kids
    side_by_side no_kids g h = absurd (cc g)
    side_by_side (kid s rest) g h = omega (arith, size_below s [] a g, size_in rest 0 [] b h)

-- the first look finds nothing
pub unbegun : (t : Tree) → 3 ≤ instance_looks t
unbegun (node op kids) = omega arith

-- the system is there
pub begun : (t system : Tree) → subtree t (1 ∷ 0 ∷ 0 ∷ []) ≡ Some system → 7 ≤ instance_looks t
begun t system e =
    let most = 2 + depth t + 6 * part_count (subtree t (1 ∷ 0 ∷ 0 ∷ [])) in
    let large : 4 ≤ size t = four system (size_below t (1 ∷ 0 ∷ 0 ∷ []) system e) in
    let up : 4 * most ≤ size t * most = mul-le-mul_right most large in
    omega (arith, up)
  where
    four : (u : Tree) → 3 + size u ≤ size t → 4 ≤ size t
    four (node op kids) h = omega (arith, h)

pub di_within : (t system p : Tree) (op : Op) (kids : Forest) → subtree t (1 ∷ 0 ∷ 0 ∷ []) ≡ Some system → subtree t (1 ∷ 0 ∷ 1 ∷ []) ≡ Some p →
    system ≡ node op kids → 7 + di_looks kids p ≤ instance_looks t
di_within t system p op kids e f is =
    let n = length (domain_parts kids) in
    let most = 2 + depth t + 6 * n in
    let counted : part_count (subtree t (1 ∷ 0 ∷ 0 ∷ [])) ≡ n = ap part_count (e ∙ ap Some is) in
    let sizes : 3 + size (node op kids) + size p ≤ size t = rw is at (system_and_post t system p e f) in
    let deep : depth p ≤ depth t = omega (arith, depth_below t (1 ∷ 0 ∷ 1 ∷ []) p f) in
    let up : (3 + size (node op kids) + size p) * most ≤ size t * most = mul-le-mul_right most sizes in
    let deeper : size p * depth p ≤ size p * depth t = mul-le-mul_left (size p) deep in
    rw counted (omega (arith, up, deeper))

pub dg_within : (t system : Tree) (op : Op) (kids : Forest) → subtree t (1 ∷ 0 ∷ 0 ∷ []) ≡ Some system → system ≡ node op kids →
    4 + dg_looks kids ≤ instance_looks t
dg_within t system op kids e is =
    let n = length (domain_parts kids) in
    let most = 2 + depth t + 6 * n in
    let counted : part_count (subtree t (1 ∷ 0 ∷ 0 ∷ [])) ≡ n = ap part_count (e ∙ ap Some is) in
    let sizes : 3 + size (node op kids) ≤ size t = rw is at (size_below t (1 ∷ 0 ∷ 0 ∷ []) system e) in
    let deep : 3 + depth (node op kids) ≤ depth t = rw is at (depth_below t (1 ∷ 0 ∷ 0 ∷ []) system e) in
    let up : (3 + size (node op kids)) * most ≤ size t * most = mul-le-mul_right most sizes in
    let deeper : size_all kids * depth_all kids ≤ size_all kids * depth t = mul-le-mul_left (size_all kids) (omega (arith, deep)) in
    rw counted (omega (arith, up, deeper))

-- ---- the last right side of a system

side_size : (kids : Forest) (side : Tree) → before_last kids ≡ Some side → size side ≤ size_all kids
side_size no_kids side e = absurd (cc e)
side_size (kid t no_kids) side e = absurd (cc e)
side_size (kid t (kid u no_kids)) side e = rw (same_Some t side e) (omega arith)
side_size (kid t (kid u (kid v rest))) side e = omega (arith, side_size (kid u (kid v rest)) side e)

side_depth : (kids : Forest) (side : Tree) → before_last kids ≡ Some side → depth side ≤ depth_all kids
side_depth no_kids side e = absurd (cc e)
side_depth (kid t no_kids) side e = absurd (cc e)
side_depth (kid t (kid u no_kids)) side e = rw (same_Some t side e) (omega arith)
side_depth (kid t (kid u (kid v rest))) side e = omega (arith, side_depth (kid u (kid v rest)) side e)

both_terms : (side a b : Tree) → subtree side (0 ∷ 0 ∷ []) ≡ Some a → subtree side (1 ∷ []) ≡ Some b → size a + size b ≤ size side
both_terms (node op no_kids) a b e f = absurd (cc e)
both_terms (node op (kid x rest)) a b e f = omega (arith, size_below x (0 ∷ []) a e, size_in rest 0 [] b f)

pub terms_within : (kids : Forest) (side a b : Tree) (n : ℕ) → before_last kids ≡ Some side → subtree side (0 ∷ 0 ∷ []) ≡ Some a →
    subtree side (1 ∷ []) ≡ Some b → smooth_looks n a + smooth_looks n b ≤ smooth_looks_all n kids
terms_within kids side a b n is e f =
    let most = 1 + depth_all kids + 3 * n in
    let deep = side_depth kids side is in
    let first : size a * (1 + depth a + 3 * n) ≤ size a * most = mul-le-mul_left (size a) (omega (arith, deep, depth_below side (0 ∷ 0 ∷ []) a e)) in
    let second : size b * (1 + depth b + 3 * n) ≤ size b * most = mul-le-mul_left (size b) (omega (arith, deep, depth_below side (1 ∷ []) b f)) in
    let sizes : size a + size b ≤ size_all kids = omega (arith, both_terms side a b e f, side_size kids side is) in
    let up : (size a + size b) * most ≤ size_all kids * most = mul-le-mul_right most sizes in
    omega (arith, first, second, up)

-- ---- of ids

-- as many ids as parts
pub as_many : (trees parts : List Tree) (ids items : List Id) → ids ≡ items → map (tree trees) items ≡ parts → length ids ≡ length parts
as_many trees parts ids items e f = ap length e ∙ sym (length-map items (tree trees)) ∙ ap length f

-- both terms of the last right side
pub terms_counted : (trees : List Tree) (ks ids items : List Id) (side a b : Id) (now new : ℕ) → ids ≡ items →
    map (tree trees) items ≡ domain_parts (kid_trees trees ks) → Some (tree trees side) ≡ before_last (kid_trees trees ks) →
    LeadsTo trees side (0 ∷ 0 ∷ []) a → LeadsTo trees side (1 ∷ []) b →
    new ≤ now + smooth_looks (length ids) (tree trees a) + smooth_looks (length ids) (tree trees b) →
    new ≤ now + smooth_looks_all (length (domain_parts (kid_trees trees ks))) (kid_trees trees ks)
terms_counted trees ks ids items side a b now new e f is left right cost =
    let kids = kid_trees trees ks in
    let many = as_many trees (domain_parts kids) ids items e f in
    let counted = rw many at cost in
    let within = terms_within kids (tree trees side) (tree trees a) (tree trees b) (length (domain_parts kids)) (sym is) left.stands right.stands in
    omega (arith, counted, within)
