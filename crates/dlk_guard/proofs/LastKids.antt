-- The first, the last and the last but one of a node's kids.
use Rattle.std.proofs.Common.{◌≡◌, ◌∙◌, refl, sym, ap, subst, suc, ◌-◌, ◌<◌, ◌≤◌, List, [], ◌∷◌, length, get_or, Some, None, Bool, ◌&&◌, ◌||◌, arith}
use Rattle.std.specs.List.{slice_get}
use Rattle.std.proofs.lemmas.Option.{none-some, same_Some, slice_get-get_or}
use Rattle.dlk_tree.specs.declared.op.Op.{Op}
use Rattle.dlk_tree.specs.Trees.{Tree, node, Forest, size, size_all}
use Rattle.dlk_store.specs.declared.Id.{Id}
use Rattle.dlk_store.specs.Stores.{tree, kid_trees}
use Rattle.dlk_store.proofs.Kids.{kid_size}
use Rattle.dlk_calculus.specs.Kids.{first, last}
use Rattle.dlk_guard.specs.Smooth.{parts, domain_parts, is_apart, are_term_and_zero, keeps_off_zero, is_constant, is_kept_off_zero, ends_in_divisor}
use Rattle.dlk_guard.specs.Instances.{before_last}
use Rattle.dlk_sequent.proofs.Last.{last_kid}

pub first_kid : (trees : List Tree) (ks : List Id) (k : Id) → slice_get ks 0 ≡ Some k → first (kid_trees trees ks) ≡ tree trees k
first_kid trees [] k e = cc
first_kid trees (j ∷ ks) k e = let same : j ≡ k = cc in ap (tree trees) same

pub none_last : (ks : List Id) → slice_get ks (length ks - 1) ≡ None → ks ≡ []
none_last [] e = refl
none_last (k ∷ ks) e =
    let n = length (k ∷ ks) - 1 in
    absurd (none-some (get_or (k ∷ ks) n k) (sym e ∙ slice_get-get_or (k ∷ ks) n k (omega arith)))

-- the last is no larger than the kids together
pub last_size : (trees : List Tree) (ks : List Id) (k : Id) → slice_get ks (length ks - 1) ≡ Some k → size (tree trees k) ≤ size_all (kid_trees trees ks)
last_size trees [] k e = absurd (cc e)
last_size trees (j ∷ ks) k e =
    let n = length (j ∷ ks) - 1 in
    let is : get_or (j ∷ ks) n k ≡ k = same_Some (get_or (j ∷ ks) n k) k (sym (slice_get-get_or (j ∷ ks) n k (omega arith)) ∙ e) in
    subst (λ it. size (tree trees it) ≤ size_all (kid_trees trees (j ∷ ks))) is (kid_size trees (j ∷ ks) n k (omega arith))

pub few_kids : (trees : List Tree) (ks : List Id) → length ks < 2 → before_last (kid_trees trees ks) ≡ None
few_kids trees [] h = refl
few_kids trees (i ∷ []) h = refl
few_kids trees (i ∷ j ∷ ks) h = absurd (omega arith)

pub second_last : (trees : List Tree) (ks : List Id) (d : Id) → 2 ≤ length ks →
    before_last (kid_trees trees ks) ≡ Some (tree trees (get_or ks (length ks - 2) d))
second_last trees [] d h = absurd (omega arith)
second_last trees (i ∷ []) d h = absurd (omega arith)
second_last trees (i ∷ j ∷ []) d h = refl
second_last trees (i ∷ j ∷ k ∷ ks) d h =
    let shorter : suc (length (j ∷ k ∷ ks) - 2) ≡ length (i ∷ j ∷ k ∷ ks) - 2 = omega arith in
    second_last trees (j ∷ k ∷ ks) d (omega arith) ∙ ap (λ n. Some (tree trees (get_or (i ∷ j ∷ k ∷ ks) n d))) shorter

pub domain_of : (trees : List Tree) (ks : List Id) (k : Id) → slice_get ks (length ks - 1) ≡ Some k → domain_parts (kid_trees trees ks) ≡ parts (tree trees k)
domain_of trees [] k e = cc
domain_of trees (j ∷ ks) k e = ap parts (last_kid trees (j ∷ ks) k e)

pub divisor_is : (trees domain : List Tree) (ks : List Id) (k : Id) → slice_get ks (length ks - 1) ≡ Some k →
    ends_in_divisor domain (kid_trees trees ks) ≡ (is_constant (tree trees k) || is_kept_off_zero domain (tree trees k))
divisor_is trees domain [] k e = cc
divisor_is trees domain (j ∷ ks) k e = ap (λ t. is_constant t || is_kept_off_zero domain t) (last_kid trees (j ∷ ks) k e)

-- a part that says something of its two sides
pub off_zero : (d t : Tree) (op : Op) (kids : Forest) (a b : Tree) {r : Bool} → t ≡ node op kids → is_apart op ≡ r → a ≡ first kids → b ≡ last kids →
    keeps_off_zero d t ≡ (r && (are_term_and_zero d a b || are_term_and_zero d b a))
off_zero d t op kids a b e f p q =
    ap (keeps_off_zero d) e ∙ (λ i. f i && (are_term_and_zero d (sym p i) (sym q i) || are_term_and_zero d (sym q i) (sym p i)))
