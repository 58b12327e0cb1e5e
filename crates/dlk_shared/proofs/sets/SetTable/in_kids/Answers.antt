use Rattle.std.proofs.Common.{◌≡◌, take, subst, refl, arith}
use Rattle.std.specs.Prelude.{map}
use Rattle.std.proofs.lemmas.List.{take_all}
use Rattle.dlk_shared.specs.SetTables.{Means, sets_at, in_kids}
use Rattle.dlk_shared.proofs.SetLemmas.{means_same, keeps_refl, keeps_trans}
use Rattle.dlk_shared.proofs.KidSets.{kid_more}
use Rattle.dlk_shared.proofs.sets.SetTable.in_kids.Goals as goal

pub loop-kid-init : goal.loop-kid-init
loop-kid-init c = record { keeps = keeps_refl c.args.self.now; means = means_same (λ v. refl) c.requires.empty }

pub loop-kid-preserved : goal.loop-kid-preserved
loop-kid-preserved c =
    let inv = c.loop-kid.invariant in
    let all = c.in_ok-all.ensures in
    let which = c.args.which in
    record {
      keeps = keeps_trans inv.keeps all.keeps;
      means = kid_more c.args.self.now c.loop-kid.self c.either.new.self which c.args.kids.now c.loop-kid.kid-index _ c.of.result c.loop-kid.all c.in_ok-all.all
          c.requires.kids (omega arith) c.of.ensures inv.keeps inv.means all.makes;
    }

pub returns-clause-means : goal.returns-clause-means
returns-clause-means c =
    let kids = c.args.kids.now in
    let k = c.loop-kid.kid-index in
    let done : take k kids ≡ kids = take_all k kids (omega (arith, c.loop-kid-test.false)) in
    subst (λ l. Means c.loop-kid.self c.loop-kid.all (in_kids c.args.which (map (sets_at c.args.self.now) l))) done c.loop-kid.invariant.means
