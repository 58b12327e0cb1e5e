-- A system of the key against one of the target: the items take the members, and the right sides that are left and the domain match.
use Rattle.std.proofs.Common.{◌≡◌, ◌∙◌, refl, sym, ap, subst, suc, ◌+◌, ◌-◌, ◌<◌, ◌≤◌, List, [], ◌∷◌, ◌++◌, length, get_or, replicate, arith}
use Rattle.std.specs.Prelude.{◌↔◌, All}
use Rattle.std.proofs.lemmas.List.{length-append, length-replicate}
use Rattle.std.proofs.lemmas.List.Elements.{All-nil, All-cons}
use Rattle.dlk_tree.specs.declared.op.Sort.TheVariants.{Term, Formula}
use Rattle.dlk_tree.specs.declared.op.OdeItem.{OdeItem}
use Rattle.dlk_tree.specs.declared.op.Op.{Op}
use Rattle.dlk_tree.specs.declared.op.Op.TheVariants as Op'
use Rattle.dlk_tree.specs.Table.{evolved}
use Rattle.dlk_tree.specs.Trees.{Tree, node, Forest, no_kids, kid, forest, sorts, WellMade}
use Rattle.dlk_store.specs.declared.Id.{Id}
use Rattle.dlk_store.specs.Stores.{IsId, tree, kid_trees}
use Rattle.dlk_store.specs.Kids.{sorts-kid_trees}
use Rattle.dlk_store.proofs.Kids.{kids_length}
use Rattle.dlk_calculus.specs.Kids.{last}
use Rattle.dlk_calculus.specs.Pairs.{Extra}
use Rattle.dlk_calculus.specs.Subst.{Member, members}
use Rattle.dlk_match.specs.Matching.{system_of, TakeMembers, SystemMatches, Matches, MatchesAll}
use Rattle.dlk_match.specs.Members.{members_at, AreWellMade, TakingIs, LeftIs}
use Rattle.dlk_match.specs.Tried.{HeadIs}
use Rattle.dlk_match.specs.declared.head.Head.{Head}
use Rattle.dlk_match.specs.declared.head.Head.TheVariants as Head'
use Rattle.dlk_match.specs.declared.members.Members.{Members}
use Rattle.dlk_match.specs.declared.members.Taking.{Taking}
use Rattle.dlk_match.specs.declared.members.Taking.TheVariants.{Fails, LeavesNone, Leaves}
use Rattle.dlk_match.proofs.OneMatch.{one_node, one_taken}
use Rattle.dlk_match.proofs.SomeMembers.{enough_are}
use Rattle.dlk_match.proofs.SystemsMade.{system_made, system_members}

-- ---- the members of a system of the store

-- as many kids as equations, and the domain
kids_many : (trees : List Tree) (items : List OdeItem) (ks : List Id) → WellMade (node (Op'.System items) (kid_trees trees ks)) →
    length ks ≡ length (evolved items) + 1
kids_many trees items ks made =
    let fit : sorts (kid_trees trees ks) ≡ replicate (length (evolved items)) Term ++ Formula ∷ [] = made.0.kids_fit in
    let same = sym (kids_length trees ks) ∙ ap length (sym (sorts-kid_trees trees ks) ∙ fit) in
    let front = length-replicate (length (evolved items)) Term in
    let both = length-append (replicate (length (evolved items)) Term) (Formula ∷ []) in
    omega (arith, same, front, both)

module _ (trees : List Tree) (e : Tree) (op : Op) (there : List OdeItem) (ks : List Id)
    (is : e ≡ node op (kid_trees trees ks)) (op_is : op ≡ Op'.System there) (made : WellMade e) where
  pub target_is : e ≡ node (Op'.System there) (kid_trees trees ks)
  target_is = is ∙ ap (λ (o : Op). node o (kid_trees trees ks)) op_is

  pub target_many : length ks ≡ length (evolved there) + 1
  target_many = kids_many trees there ks (subst WellMade target_is made)

  pub all_members : (ms : Members) → All (IsId trees) ks → ms.items.now ≡ there → ms.kids.now ≡ ks → AreWellMade trees ms
  all_members ms known items_are kids_are =
      let all = members there (kid_trees trees ks) in
      let has = system_members there (kid_trees trees ks) (subst WellMade target_is made) in
      let members_are : all ≡ members_at trees ms = λ i. members (sym items_are i) (kid_trees trees (sym kids_are i)) in
      let many = target_many in
      let within : length (evolved there) ≤ length ks = omega (arith, many) in
      record {
        known = subst (All (IsId trees)) (sym kids_are) known;
        enough = enough_are ms there ks items_are kids_are within;
        well_made = subst (λ (all : List Member). WellMade (system_of all)) members_are (system_made all has.members_are has.some has.few);
      }

-- the domain
pub last_kid : (trees : List Tree) (ks : List Id) (d : Id) → 0 < length ks → tree trees (get_or ks (length ks - 1) d) ≡ last (kid_trees trees ks)
last_kid trees [] d some = absurd (omega (arith, some))
last_kid trees (k ∷ []) d some = refl
last_kid trees (k ∷ l ∷ ks) d some =
    let behind : length (k ∷ l ∷ ks) - 1 ≡ suc (length (l ∷ ks) - 1) = omega arith in
    ap (λ i. tree trees (get_or (k ∷ l ∷ ks) i d)) behind ∙ last_kid trees (l ∷ ks) d (omega arith)

-- ---- what is left of it

module _ (items : List OdeItem) (keys : Forest) (e : Tree) (there : List OdeItem) (kids : Forest) (is : e ≡ node (Op'.System there) kids) (old : Extra) where
  its_members : (other : Extra) (p : SystemMatches items e (MatchesAll keys) old other) → TakeMembers items (members there kids) old p.mid p.sides
  its_members other p =
      let nodes = one_node p.target_is is in
      let items_are : p.target_items ≡ there = (let op = nodes.0 in cc) in
      subst (λ ms. TakeMembers items ms old p.mid p.sides) (λ i. members (items_are i) (nodes.1 i)) p.taken

  refused : ((other : Extra) (sides : List Tree) → TakeMembers items (members there kids) old other sides → ⊥) →
      (other : Extra) → Matches (node (Op'.System items) keys) e old other → ⊥
  refused none other p = none p.mid p.sides (its_members other p)

  left : (new : Extra) (sides : List Tree) → TakeMembers items (members there kids) old new sides → (other : Extra) →
      Matches (node (Op'.System items) keys) e old other ↔ MatchesAll keys (forest (sides ++ last kids ∷ [])) new other
  left new sides taken other = (
    λ p.
        let same = one_taken (its_members other p) taken in
        let nodes = one_node p.target_is is in
        let rest = subst (λ (mid : Extra). MatchesAll keys (forest (p.sides ++ last p.target_kids ∷ [])) mid other) same.0 p.kids in
        subst (λ es. MatchesAll keys es new other) (λ i. forest (same.1 i ++ last (nodes.1 i) ∷ [])) rest,
    λ q. record { target_items = there; target_kids = kids; target_is = is; mid = new; sides = sides; taken = taken; kids = q },
  )

  left_at : (trees : List Tree) (new : Extra) (sides : List Tree) → TakeMembers items (members there kids) old new sides → (ids found : List Id) →
      All (IsId trees) ids → kid_trees trees ids ≡ forest (sides ++ last kids ∷ []) → found ≡ ids →
      All (IsId trees) found × ((other : Extra) → Matches (node (Op'.System items) keys) e old other ↔ MatchesAll keys (kid_trees trees found) new other)
  left_at trees new sides taken ids found known same are = (
    subst (All (IsId trees)) (sym are) known,
    λ other.
        let kids_are = sym (ap (kid_trees trees) are ∙ same) in
        subst (λ es. Matches (node (Op'.System items) keys) e old other ↔ MatchesAll keys es new other) kids_are (left new sides taken other),
  )

  pub system_head : (trees : List Tree) (new : Extra) (domain : Id) → IsId trees domain → tree trees domain ≡ last kids → (taking : Taking) →
      TakingIs items (members there kids) trees old new taking → (head : Head) → LeftIs taking domain head →
      HeadIs (Op'.System items) keys e trees old new head
  system_head trees new domain known same Fails p head is = subst (HeadIs (Op'.System items) keys e trees old new) (sym is) (refused p)
  system_head trees new domain known same LeavesNone p Head'.Refused is = absurd is
  system_head trees new domain known same LeavesNone p Head'.Taken is = absurd is
  system_head trees new domain known same LeavesNone p (Head'.Left es) is =
      left_at trees new [] p (domain ∷ []) es.items (All-cons (IsId trees) domain [] known (All-nil (IsId trees))) (ap (λ t. kid t no_kids) same) is
  system_head trees new domain known same (Leaves side) p Head'.Refused is = absurd is
  system_head trees new domain known same (Leaves side) p Head'.Taken is = absurd is
  system_head trees new domain known same (Leaves side) p (Head'.Left es) is =
      left_at trees new (tree trees side ∷ []) p.1 (side ∷ domain ∷ []) es.items
      (All-cons (IsId trees) side (domain ∷ []) p.0 (All-cons (IsId trees) domain [] known (All-nil (IsId trees))))
      (ap (λ t. kid (tree trees side) (kid t no_kids)) same) is
