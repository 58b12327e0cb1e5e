use Rattle.std.proofs.Common.{◌≡◌, ◌+◌, ◌++◌, ◌∷◌, [], suc, length, take, sym, ap, ◌∙◌, arith}
use Rattle.std.proofs.Math.Seq.{take-suc}
use Rattle.std.proofs.lemmas.List.{length-append, append_assoc, length-take-le}
use Rattle.dlk_elab.specs.Forms.{renamed}
use Rattle.dlk_elab.proofs.Instances.{renamed_more, renamed_few}
use Rattle.dlk_elab.proofs.instance.rename.Goals as goal

pub rename_one-requires : goal.rename_one-requires
rename_one-requires c =
    let few = renamed_few c.args.rows (take c.loop-rename.rename-index c.args.renames.now) in
    let row = c.loop-rename.invariant.1 in
    let some = length-take-le c.loop-rename.rename-index c.args.renames.now (omega (arith, c.loop-rename-test.true)) in
    let end = c.loop-rename-test.true in
    omega (arith, few, row, some, end)

pub loop-rename-preserved : goal.loop-rename-preserved
loop-rename-preserved c =
    let old = take c.loop-rename.rename-index c.args.renames.now in
    let r = c.rename-item.result in
    let row = c.loop-rename.invariant.1 in
    let longer : take (c.loop-rename.rename-index + 1) c.args.renames.now ≡ old ++ r ∷ [] =
    (let one : c.loop-rename.rename-index + 1 ≡ suc c.loop-rename.rename-index = omega arith in ap (λ n. take n c.args.renames.now) one) ∙
    take-suc c.args.renames.now c.loop-rename.rename-index r c.loop-rename-test.true ∙ (λ i. old ++ sym c.rename-item.is i ∷ []) in
    let all : renamed c.args.rows (take (c.loop-rename.rename-index + 1) c.args.renames.now) ≡ renamed c.args.rows old ++ renamed c.loop-rename.last (r ∷ []) =
    ap (renamed c.args.rows) longer ∙ renamed_more c.args.rows old r ∙ (λ i. renamed c.args.rows old ++ renamed (sym row i) (r ∷ [])) in
    let count = ap length all ∙ length-append (renamed c.args.rows old) (renamed c.loop-rename.last (r ∷ [])) in
    let last = c.in_ok-last.ensures.last in (
      c.in_ok-last.ensures.steps ∙ (λ i. c.loop-rename.invariant.0 i ++ renamed c.loop-rename.last (r ∷ [])) ∙
          append_assoc c.args.steps.now.items (renamed c.args.rows old) (renamed c.loop-rename.last (r ∷ [])) ∙ (λ i. c.args.steps.now.items ++ sym all i),
      omega (arith, last, row, count),
    )
