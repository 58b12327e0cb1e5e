use Rattle.std.proofs.Common.{◌≡◌, false, eqb, take}
use Rattle.std.specs.List.{All, starts_with}
use Rattle.dlk_lex.proofs.marks.front_mark.Given as goal

-- none of the marks so far is at the front
abbrev pub invariant-loop-text : goal.invariant-loop-text
invariant-loop-text l = All (λ row. starts_with eqb l.bytes row.0.now ≡ false) (take l.text-index l.text-items)
