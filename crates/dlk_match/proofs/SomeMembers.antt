-- Some members of a system: parts of them, and their own system.
use Rattle.std.proofs.Common.{◌≡◌, ◌∙◌, refl, sym, ap, subst, ℕ, suc, ◌+◌, ◌-◌, ◌<◌, ◌≤◌, List, [], ◌∷◌, ◌++◌, length, take, drop, arith}
use Rattle.std.specs.Prelude.{All}
use Rattle.std.proofs.lemmas.List.{length-append, take-append-drop, length-take-le, length-drop, take_all}
use Rattle.std.proofs.lemmas.List.Elements.{All-drop}
use Rattle.dlk_tree.specs.declared.op.OdeItem.{OdeItem}
use Rattle.dlk_tree.specs.declared.op.OdeItem.TheVariants as Item
use Rattle.dlk_tree.specs.declared.op.Op.TheVariants as Op'
use Rattle.dlk_tree.specs.Table.{evolved, Fits}
use Rattle.dlk_tree.specs.Trees.{Tree, node, Forest, no_kids, kid, WellMade}
use Rattle.dlk_store.specs.declared.Id.{Id}
use Rattle.dlk_store.specs.Stores.{IsId, tree, kid_trees, sorts_at, Keeps}
use Rattle.dlk_store.specs.Kids.{kid_trees-kept, sorts-kid_trees}
use Rattle.dlk_calculus.specs.Subst.{Member, Equation, Constant, members, items_of, kids_of}
use Rattle.dlk_match.specs.Matching.{system_of}
use Rattle.dlk_match.specs.Members.{members_at, AreWellMade, AreParts}
use Rattle.dlk_match.specs.declared.members.Members.{Members}
use Rattle.dlk_match.proofs.LeftKids.{ids_known}
use Rattle.dlk_match.proofs.SystemsBack.{members_back, items_back}
use Rattle.dlk_match.proofs.SystemsMade.{parts_made, system_made, HasMembers, system_members}

-- ---- parts

pub as_many_members : (items : List OdeItem) (kids : Forest) → length (members items kids) ≡ length items
as_many_members [] kids = refl
as_many_members (Item.Evolve x ∷ items) no_kids = ap (λ n. suc n) (as_many_members items no_kids)
as_many_members (Item.Evolve x ∷ items) (kid t ts) = ap (λ n. suc n) (as_many_members items ts)
as_many_members (Item.Const s ∷ items) kids = ap (λ n. suc n) (as_many_members items kids)

pub more_items : (trees : List Tree) (ms : Members) → 1 < length (members_at trees ms) → 1 < length ms.items.now
more_items trees ms h = subst (λ n. 1 < n) (as_many_members ms.items.now (kid_trees trees ms.kids.now)) h

-- those of items in a row
members_both : (trees : List Tree) (is js : List OdeItem) (ks : List Id) → length (evolved is) ≤ length ks →
    members (is ++ js) (kid_trees trees ks) ≡ members is (kid_trees trees ks) ++ members js (kid_trees trees (drop (length (evolved is)) ks))
members_both trees [] js ks h = refl
members_both trees (Item.Evolve x ∷ is) js [] h = absurd (omega (arith, h))
members_both trees (Item.Evolve x ∷ is) js (k ∷ ks) h = ap (λ ms. Equation x (tree trees k) ∷ ms) (members_both trees is js ks (omega (arith, h)))
members_both trees (Item.Const s ∷ is) js ks h = ap (λ ms. Constant s ∷ ms) (members_both trees is js ks h)

evolved_both : (is js : List OdeItem) → length (evolved (is ++ js)) ≡ length (evolved is) + length (evolved js)
evolved_both [] js = omega arith
evolved_both (Item.Evolve x ∷ is) js = omega (arith, evolved_both is js)
evolved_both (Item.Const s ∷ is) js = evolved_both is js

has_members : (ms : List Member) → WellMade (system_of ms) → HasMembers ms
has_members ms made = subst HasMembers (members_back ms (node Op'.True no_kids)) (system_members (items_of ms) (kids_of ms (node Op'.True no_kids)) made)

pub some_members : (ms : List Member) → WellMade (system_of ms) → 1 ≤ length ms
some_members ms made = (has_members ms made).some

system_parts : (fs os : List Member) → HasMembers (fs ++ os) → 1 ≤ length fs → 1 ≤ length os → WellMade (system_of fs) × WellMade (system_of os)
system_parts fs os has some others =
    let parts = parts_made fs os has.members_are in
    let few = has.few in
    let many = length-append fs os in
    (system_made fs parts.0 some (omega (arith, few, many)), system_made os parts.1 others (omega (arith, few, many)))

-- how many the first of them evolve
pub evolved_first : (items : List OdeItem) (n : ℕ) → length (evolved (take n items)) ≤ length (evolved items)
evolved_first items n =
    let same = ap (λ is. length (evolved is)) (take-append-drop n items) in
    let both = evolved_both (take n items) (drop n items) in
    omega (arith, same, both)

-- a kid for each equation
pub enough_are : (ms : Members) (items : List OdeItem) (ks : List Id) → ms.items.now ≡ items → ms.kids.now ≡ ks → length (evolved items) ≤ length ks →
    length (evolved ms.items.now) ≤ length ms.kids.now
enough_are ms items ks items_are kids_are h =
    let few = ap (λ all. length (evolved all)) items_are in
    let many = ap (λ all. length all) kids_are in
    omega (arith, few, many, h)

-- what is behind a place
pub rest_is : {A : Type 0} (n : ℕ) (xs : List A) → take (length xs - n) (drop n xs) ≡ drop n xs
rest_is n xs = take_all (length xs - n) (drop n xs) (omega (arith, length-drop n xs))

pub are_parts : (trees : List Tree) (ms front others : Members) (n : ℕ) → AreWellMade trees ms → 0 < n → n < length ms.items.now →
    front.items.now ≡ take n ms.items.now → front.kids.now ≡ ms.kids.now →
    others.items.now ≡ drop n ms.items.now → others.kids.now ≡ drop (length (evolved (take n ms.items.now))) ms.kids.now →
    AreParts trees ms n (front, others)
are_parts trees ms front others n well some more front_items front_kids other_items other_kids =
    let items = ms.items.now in
    let ks = ms.kids.now in
    let is = take n items in
    let js = drop n items in
    let e = length (evolved is) in
    let enough = well.enough in
    let same = ap (λ all. length (evolved all)) (take-append-drop n items) in
    let both = evolved_both is js in
    let within : e ≤ length ks = omega (arith, same, both, enough) in
    let left : length (evolved js) ≤ length (drop e ks) = omega (arith, same, both, enough, length-drop e ks) in
    let front_is : members_at trees front ≡ members is (kid_trees trees ks) = λ i. members (front_items i) (kid_trees trees (front_kids i)) in
    let others_are : members_at trees others ≡ members js (kid_trees trees (drop e ks)) = λ i. members (other_items i) (kid_trees trees (other_kids i)) in
    let whole : members_at trees ms ≡ members_at trees front ++ members_at trees others =
    ap (λ all. members all (kid_trees trees ks)) (sym (take-append-drop n items)) ∙ members_both trees is js ks within ∙
    (λ i. sym front_is i ++ sym others_are i) in
    let count : length (members_at trees front) ≡ n =
    ap length front_is ∙ as_many_members is (kid_trees trees ks) ∙ length-take-le n items (omega (arith, more)) in
    let rest : length (members_at trees others) ≡ length items - n =
    ap length others_are ∙ as_many_members js (kid_trees trees (drop e ks)) ∙ length-drop n items in
    let has = subst HasMembers whole (has_members (members_at trees ms) well.well_made) in
    let made = system_parts (members_at trees front) (members_at trees others) has (omega (arith, count, some)) (omega (arith, rest, more)) in
    record {
      whole = whole;
      count = count;
      front = record {
        known = subst (All (IsId trees)) (sym front_kids) well.known;
        enough = enough_are front is ks front_items front_kids within;
        well_made = made.0;
      };
      others = record {
        known = subst (All (IsId trees)) (sym other_kids) (All-drop (IsId trees) e ks well.known);
        enough = enough_are others js (drop e ks) other_items other_kids left;
        well_made = made.1;
      };
    }

-- ---- in a store that has grown

pub members_kept : {old new : List Tree} → Keeps old new → (ms : Members) → AreWellMade old ms → members_at new ms ≡ members_at old ms
members_kept keeps ms well = ap (members ms.items.now) (kid_trees-kept keeps ms.kids.now well.known)

pub well_made_kept : {old new : List Tree} → Keeps old new → (ms : Members) → AreWellMade old ms → AreWellMade new ms
well_made_kept keeps ms well = record {
  known = ids_known keeps ms.kids.now well.known;
  enough = well.enough;
  well_made = subst (λ (all : List Member). WellMade (system_of all)) (sym (members_kept keeps ms well)) well.well_made;
}

-- ---- their own system

own_kids : (trees : List Tree) (items : List OdeItem) (ks : List Id) (d : Id) → tree trees d ≡ node Op'.True no_kids → length (evolved items) ≤ length ks →
    kid_trees trees (take (length (evolved items)) ks ++ d ∷ []) ≡ kids_of (members items (kid_trees trees ks)) (node Op'.True no_kids)
own_kids trees [] ks d is h = ap (λ t. kid t no_kids) is
own_kids trees (Item.Evolve x ∷ items) [] d is h = absurd (omega (arith, h))
own_kids trees (Item.Evolve x ∷ items) (k ∷ ks) d is h = ap (kid (tree trees k)) (own_kids trees items ks d is (omega (arith, h)))
own_kids trees (Item.Const s ∷ items) ks d is h = own_kids trees items ks d is h

module _ {old new : List Tree} (keeps : Keeps old new) (ms : Members) (well : AreWellMade old ms) (made : List OdeItem) (made_is : made ≡ ms.items.now)
    (d : Id) (true_is : tree new d ≡ node Op'.True no_kids) (ids : List Id) (ids_are : ids ≡ take (length (evolved ms.items.now)) ms.kids.now ++ d ∷ []) where
  pub own_system : node (Op'.System made) (kid_trees new ids) ≡ system_of (members_at old ms)
  own_system =
      let items = made_is ∙ sym (items_back ms.items.now (kid_trees old ms.kids.now)) in
      let kids = ap (kid_trees new) ids_are ∙ own_kids new ms.items.now ms.kids.now d true_is well.enough ∙
      ap (λ (all : List Member). kids_of all (node Op'.True no_kids)) (members_kept keeps ms well) in
      λ i. node (Op'.System (items i)) (kids i)

  pub own_fits : Fits (Op'.System made) (sorts_at new ids)
  own_fits = subst (Fits (Op'.System made)) (sorts-kid_trees new ids) (subst WellMade (sym own_system) well.well_made).0
