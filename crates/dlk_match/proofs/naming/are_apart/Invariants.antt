use Rattle.std.proofs.Common.{◌≡◌, length}
use Rattle.dlk_match.proofs.NamesTold.{all_apart}
use Rattle.dlk_match.proofs.naming.are_apart.Given as goal

-- all of them are as they must be where those that are left are
abbrev pub invariant-loop-x : goal.invariant-loop-x
invariant-loop-x l = all_apart l.own l.renames ≡ all_apart l.own l.rest

abbrev pub decreases-loop-x : goal.decreases-loop-x
decreases-loop-x l = length l.rest
