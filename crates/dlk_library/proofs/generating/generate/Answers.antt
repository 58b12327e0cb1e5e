use Rattle.std.proofs.Common.{◌≡◌, ◌+◌, ◌++◌, ap, sym, ◌∙◌, add-one, arith}
use Rattle.std.specs.Prelude.{codes}
use Rattle.dlk_library.specs.Generated.{increments}
use Rattle.dlk_library.proofs.Increments.{increments_last}
use Rattle.dlk_library.proofs.generating.generate.Goals as goal

pub loop-preserved : goal.loop-preserved
loop-preserved c =
    let last : increments (c.loop.counter + 1) ≡ increments c.loop.counter ++ codes "[x:=x+1;]" =
    ap increments (add-one c.loop.counter) ∙ increments_last c.loop.counter in
    let more : c.extend_from_slice.new.self.items ≡ c.loop.model.items ++ codes "[x:=x+1;]" = c.in_ok-extend_from_slice.ensures.items in
    more ∙ ap (λ xs. xs ++ codes "[x:=x+1;]") c.loop.invariant ∙ ap (λ xs. codes "x>=0 -> " ++ xs) (sym last)

pub returns-clause-model : goal.returns-clause-model
returns-clause-model c =
    let all : c.loop.counter ≡ c.args.n = omega (arith, c.loop-test.false, c.loop.auto.counter-end) in
    let ended : c.extend_from_slice-2.new.self.items ≡ c.loop.model.items ++ codes "x>=0" = c.in_ok-extend_from_slice-2.ensures.items in
    ended ∙ ap (λ xs. xs ++ codes "x>=0") (c.loop.invariant ∙ ap (λ n. codes "x>=0 -> " ++ increments n) all)
