use Rattle.std.proofs.Common.{◌≡◌, ◌<◌, ◌||◌, ◌∙◌, Bool, length, take, get_or, ap, sym, subst, arith}
use Rattle.std.specs.List.{list_any}
use Rattle.std.proofs.lemmas.List.{take_all}
use Rattle.std.proofs.Math.Bool.{or-false}
use Rattle.dlk_tree.specs.declared.op.Sym.{Sym}
use Rattle.dlk_shared.specs.Signs.{sign_at, Signs}
use Rattle.dlk_shared.proofs.SetLemmas.{any_more}
use Rattle.dlk_shared.proofs.SignLemmas.{signs_same, sign_kept, sign_at_kept, keeps_refl, keeps_trans, grouped}
use Rattle.dlk_shared.proofs.signs.SignTable.with_kids.Goals as goal

pub loop-kid-init : goal.loop-kid-init
loop-kid-init c =
    let old = c.args.self.now in
    record { keeps = keeps_refl old; signs = record { is = c.requires.own; members = λ s. sym (or-false (sign_at old c.args.own s)) } }

pub either-requires : goal.either-requires
either-requires c =
    let inv = c.loop-kid.invariant in
    record { first = inv.signs.is; second = sign_kept inv.keeps (c.requires.kids c.loop-kid.kid-index 0 (omega arith)) }

pub loop-kid-preserved : goal.loop-kid-preserved
loop-kid-preserved c =
    let old = c.args.self.now in
    let own = c.args.own in
    let kids = c.args.kids.now in
    let k = c.loop-kid.kid-index in
    let inv = c.loop-kid.invariant in
    let more = c.in_ok-all.ensures in
    let kid = get_or kids k 0 in
    let lt : k < length kids = omega arith in
    let so_far : Sym → Bool = λ s. list_any (λ n. sign_at old n s) (take k kids) in
    record {
      keeps = keeps_trans inv.keeps more.keeps;
      signs = signs_same (λ s. (λ i. inv.signs.members s i || sign_at_kept inv.keeps (c.requires.kids k 0 lt) s i)
          ∙ grouped (sign_at old own s) (so_far s) (sign_at old kid s)
          ∙ ap (λ b. sign_at old own s || b) (sym (any_more (λ n. sign_at old n s) kids k 0 lt))) more.signs;
    }

pub returns-clause-signs : goal.returns-clause-signs
returns-clause-signs c =
    let old = c.args.self.now in
    let kids = c.args.kids.now in
    let k = c.loop-kid.kid-index in
    let done : take k kids ≡ kids = take_all k kids (omega (arith, c.loop-kid-test.false)) in
    subst (λ l. Signs c.loop-kid.self c.loop-kid.all (λ s. sign_at old c.args.own s || list_any (λ n. sign_at old n s) l)) done c.loop-kid.invariant.signs
