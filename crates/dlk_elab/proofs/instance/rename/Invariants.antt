use Rattle.std.proofs.Common.{◌≡◌, ◌+◌, ◌++◌, length, take}
use Rattle.dlk_elab.specs.Forms.{renamed}
use Rattle.dlk_elab.proofs.instance.rename.Given as goal

abbrev pub invariant-loop-rename : goal.invariant-loop-rename
invariant-loop-rename l =
    (l.steps.items ≡ l.initial.steps.items ++ renamed l.rows (take l.rename-index l.renames)) ×
    (l.last ≡ l.rows + length (renamed l.rows (take l.rename-index l.renames)))
