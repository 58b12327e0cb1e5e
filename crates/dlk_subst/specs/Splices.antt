-- A system whose constants give way to members, put together member by member.
use Rattle.std.specs.Prelude.{◌≡◌, List, ◌∷◌, ◌++◌, All}
use Rattle.dlk_tree.specs.declared.op.OdeItem.{OdeItem}
use Rattle.dlk_tree.specs.declared.op.Op.TheVariants as Op'
use Rattle.dlk_tree.specs.Table.{kid_sorts}
use Rattle.dlk_tree.specs.Trees.{Tree, Forest, no_kids, kid, sorts}
use Rattle.dlk_store.specs.declared.Id.{Id}
use Rattle.dlk_store.specs.Stores.{IsId, kid_trees}
use Rattle.dlk_calculus.specs.Kids.{last}
use Rattle.dlk_calculus.specs.Pairs.{Pair}
use Rattle.dlk_calculus.specs.Subst.{Member, new_members, items_of, kids_of}
use Rattle.dlk_subst.specs.declared.splice.Spliced.{Spliced}

abbrev pub append : Forest → Forest → Forest
append no_kids more = more
append (kid t rest) more = kid t (append rest more)

-- the items and right sides of these members were put last
pub record Puts (trees : List Tree) (ms : List Member) (old new : Spliced) : Type 0 where
  pub items_are : new.items.items ≡ old.items.items ++ items_of ms
  pub kids_are : (more : List Member) (domain : Tree)
      → append (kid_trees trees new.kids.items) (kids_of more domain) ≡ append (kid_trees trees old.kids.items) (kids_of (ms ++ more) domain)
  pub known : All (IsId trees) old.kids.items → All (IsId trees) new.kids.items

-- the ids are kids of a system with these items
abbrev pub AreKidsOf : List Tree → List OdeItem → List Id → Type 0
AreKidsOf trees items ids = sorts (kid_trees trees ids) ≡ kid_sorts (Op'.System items)

-- what was put, and what comes of these items and kids, are the items and the kids of the whole
abbrev pub whole_items : List Tree → List Pair → Spliced → List OdeItem → List Id → List OdeItem
whole_items trees pairs put items ids = put.items.items ++ items_of (new_members pairs items (kid_trees trees ids))

abbrev pub whole_kids : List Tree → List Pair → Spliced → List OdeItem → List Id → Forest
whole_kids trees pairs put items ids =
    append (kid_trees trees put.kids.items) (kids_of (new_members pairs items (kid_trees trees ids)) (last (kid_trees trees ids)))

-- What stands for the item was put last. Of the kids, where they are those of this item and later ones, those of the later ones are left.
pub record PutsItem (trees : List Tree) (pairs : List Pair) (item : OdeItem) (kids : List Id) (old new : Spliced) (left : List Id) : Type 0 where
  pub items_are : (later : List OdeItem) → AreKidsOf trees (item ∷ later) kids
      → whole_items trees pairs new later left ≡ whole_items trees pairs old (item ∷ later) kids
  pub kids_are : (later : List OdeItem) → AreKidsOf trees (item ∷ later) kids
      → whole_kids trees pairs new later left ≡ whole_kids trees pairs old (item ∷ later) kids
  pub left_are : (later : List OdeItem) → AreKidsOf trees (item ∷ later) kids → AreKidsOf trees later left
  pub known : All (IsId trees) kids → All (IsId trees) old.kids.items → All (IsId trees) new.kids.items
  pub left_known : All (IsId trees) kids → All (IsId trees) left
