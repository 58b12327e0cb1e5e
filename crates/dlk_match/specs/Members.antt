-- Some members of a system of the store, and what items of a key take of them.
use Rattle.std.specs.Prelude.{◌≡◌, ℕ, ◌<◌, ◌≤◌, List, [], ◌∷◌, ◌++◌, length, Bool, true, false, All}
use Rattle.dlk_tree.specs.declared.op.OdeItem.{OdeItem}
use Rattle.dlk_tree.specs.Table.{evolved}
use Rattle.dlk_tree.specs.Trees.{Tree, WellMade}
use Rattle.dlk_store.specs.declared.Id.{Id}
use Rattle.dlk_store.specs.Stores.{IsId, tree, kid_trees}
use Rattle.dlk_calculus.specs.Pairs.{Extra}
use Rattle.dlk_calculus.specs.Subst.{Member, Equation, members}
use Rattle.dlk_match.specs.Matching.{system_of, TakeMembers}
use Rattle.dlk_match.specs.declared.head.Head.{Head}
use Rattle.dlk_match.specs.declared.head.Head.TheVariants as Head'
use Rattle.dlk_match.specs.declared.members.Members.{Members}
use Rattle.dlk_match.specs.declared.members.Taking.{Taking}
use Rattle.dlk_match.specs.declared.members.Taking.TheVariants.{Fails, LeavesNone, Leaves}

-- the members that these items and kids are
abbrev pub members_at : List Tree → Members → List Member
members_at trees ms = members ms.items.now (kid_trees trees ms.kids.now)

-- they may stand in a system: their own is well made, and each equation has its kid
pub record AreWellMade (trees : List Tree) (ms : Members) : Type 0 where
  pub known : All (IsId trees) ms.kids.now
  pub enough : length (evolved ms.items.now) ≤ length ms.kids.now
  pub well_made : WellMade (system_of (members_at trees ms))

-- the first n members, and the others
pub record AreParts (trees : List Tree) (ms : Members) (n : ℕ) (parts : Members × Members) : Type 0 where
  pub whole : members_at trees ms ≡ members_at trees parts.0 ++ members_at trees parts.1
  pub count : length (members_at trees parts.0) ≡ n
  pub front : AreWellMade trees parts.0
  pub others : AreWellMade trees parts.1

-- one of the two would have no member
abbrev pub HasNoParts : Members → ℕ → Type 0
HasNoParts ms n = 0 < n → n < length ms.items.now → ⊥

-- the only member is this equation
pub record IsEquation (trees : List Tree) (ms : Members) (y : List ℕ) (e : Id) : Type 0 where
  pub known : IsId trees e
  pub member_is : members_at trees ms ≡ Equation y (tree trees e) ∷ []

abbrev pub IsNoEquation : List Tree → Members → Type 0
IsNoEquation trees ms = (y : List ℕ) (e : Tree) → members_at trees ms ≡ Equation y e ∷ [] → ⊥

-- the items don't take the members, or they do and leave no right side, or this one
abbrev pub TakingIs : List OdeItem → List Member → List Tree → Extra → Extra → Taking → Type 0
TakingIs items ms trees old new Fails = (other : Extra) (sides : List Tree) → TakeMembers items ms old other sides → ⊥
TakingIs items ms trees old new LeavesNone = TakeMembers items ms old new []
TakingIs items ms trees old new (Leaves e) = IsId trees e × TakeMembers items ms old new (tree trees e ∷ [])

abbrev pub leaving_none : Bool → Taking
leaving_none true = LeavesNone
leaving_none false = Fails

abbrev pub leaving : Bool → Id → Taking
leaving true e = Leaves e
leaving false e = Fails

-- these are left to match
abbrev pub AreLeft : List Id → Head → Type 0
AreLeft ids Head'.Refused = ⊥
AreLeft ids Head'.Taken = ⊥
AreLeft ids (Head'.Left es) = es.items ≡ ids

-- what is left of a system: its right side that is left, and the domain
abbrev pub LeftIs : Taking → Id → Head → Type 0
LeftIs Fails domain head = head ≡ Head'.Refused
LeftIs LeavesNone domain head = AreLeft (domain ∷ []) head
LeftIs (Leaves e) domain head = AreLeft (e ∷ domain ∷ []) head
