use Rattle.std.proofs.Common.{◌≡◌, ℕ, ◌<◌, false, get_or}
use Rattle.dlk_subst.specs.declared.seen.Seen.{Seen}
use Rattle.dlk_subst.specs.Looked.{same_id}
use Rattle.dlk_subst.proofs.seen.find_seen.Given as goal

-- none of those so far is of the id
abbrev pub invariant-loop-s : goal.invariant-loop-s
invariant-loop-s l = (k : ℕ) (d : Seen) → k < l.s-index → same_id (get_or l.seen k d).id l.id ≡ false
