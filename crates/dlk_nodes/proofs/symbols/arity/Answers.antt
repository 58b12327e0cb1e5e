use Rattle.std.proofs.Common.{◌≤◌, sym, ◌∙◌, arith}
use Rattle.std.proofs.lemmas.Bool.{both_ways}
use Rattle.std.proofs.lemmas.Bool.Decides.{Decides-eqb}
use Rattle.std.proofs.lemmas.Slice.Eq.{slice_eq-Decides}
use Rattle.dlk_nodes.proofs.SymbolForms.{dots_found, none_at}
use Rattle.dlk_nodes.proofs.symbols.arity.Goals as goal

pub returns-then-eq-clause-found : goal.returns-then-eq-clause-found
returns-then-eq-clause-found c =
    let few : c.loop-n.n ≤ 8 = omega arith in
    dots_found c.args.text.now c.loop-n.n few ((slice_eq-Decides Decides-eqb _ _ _ c.eq.ensures).0 c.if-eq.true ∙ c.dots.ensures)

pub loop-n-preserved : goal.loop-n-preserved
loop-n-preserved c =
    none_at c.args.text.now c.loop-n.n c.loop-n.invariant
    (λ e. both_ways c.eq.result c.if-eq.false ((slice_eq-Decides Decides-eqb _ _ _ c.eq.ensures).1 (e ∙ sym c.dots.ensures)))
