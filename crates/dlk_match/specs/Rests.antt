-- What the roots of key and target leave to match.
use Rattle.std.specs.Prelude.{◌≡◌, ◌↔◌, List, ◌==◌, true, false, if◌then◌else◌, length, All}
use Rattle.std.specs.Global.{Vec}
use Rattle.dlk_tree.specs.declared.op.Op.{Op}
use Rattle.dlk_tree.specs.Trees.{Tree, node}
use Rattle.dlk_store.specs.declared.Id.{Id}
use Rattle.dlk_store.specs.Stores.{IsId, kid_trees}
use Rattle.dlk_calculus.specs.Pairs.{Extra}
use Rattle.dlk_match.specs.Matching.{Matches, MatchesAll}
use Rattle.dlk_match.specs.Tried.{Tried}
use Rattle.dlk_match.specs.declared.head.Head.{Head}
use Rattle.dlk_match.specs.declared.head.Head.TheVariants.{Refused, Taken, Left}
use Rattle.dlk_match.specs.declared.walk.Rest.{Rest}
use Rattle.dlk_match.specs.declared.walk.Rest.TheVariants.{Over, Kids}

-- nothing is left of a symbol's node, or of a refused one, or where the kids aren't as many
abbrev pub rest_of : Vec Id → Head → Rest
rest_of keys Refused = Over false
rest_of keys Taken = Over true
rest_of keys (Left targets) = if length keys.items == length targets.items then Kids keys targets else Over false

-- These kids are left: the key matches the target just where its kids match these, from the new names and pairs on.
pub record KidsLeft (before now : List Tree) (key target : Tree) (old new : Extra) (keys targets : List Id) : Type 0 where
  pub op : Op
  pub node_is : key ≡ node op (kid_trees before keys)
  pub keys_known : All (IsId before) keys
  pub targets_known : All (IsId now) targets
  pub as_many : length keys ≡ length targets
  pub left : (other : Extra) → Matches key target old other ↔ MatchesAll (kid_trees before keys) (kid_trees now targets) new other

abbrev pub RestIs : (before now : List Tree) → Tree → Tree → Extra → Extra → Rest → Type 0
RestIs before now key target old new (Over is) = Tried (Matches key target) old new is
RestIs before now key target old new (Kids keys targets) = KidsLeft before now key target old new keys.items targets.items
