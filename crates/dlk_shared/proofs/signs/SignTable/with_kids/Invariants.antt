use Rattle.std.proofs.Common.{◌||◌, take}
use Rattle.std.specs.List.{list_any}
use Rattle.dlk_shared.specs.Signs.{sign_at, Signs, KeepsSigns}
use Rattle.dlk_shared.proofs.signs.SignTable.with_kids.Given as goal

abbrev pub invariant-loop-kid : goal.invariant-loop-kid
invariant-loop-kid l =
    let old = l.initial.self in
    record {
      keeps : KeepsSigns old l.self;
      signs : Signs l.self l.all (λ s. sign_at old l.own s || list_any (λ k. sign_at old k s) (take l.kid-index l.kids));
    }
