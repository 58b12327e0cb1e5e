use Rattle.std.proofs.Common.{[], ◌∷◌, ◌++◌, Some, subst}
use Rattle.dlk_tree.specs.declared.op.Sym.{Sym}
use Rattle.dlk_grammar.specs.Substitutions.{to}
use Rattle.dlk_reader.specs.Shows.{Agrees}
use Rattle.dlk_forms.specs.PairReaders.{wants, right_whole, Rests, IsPairOf}
use Rattle.dlk_reader.proofs.Agree.{agrees_ok}
use Rattle.dlk_forms.proofs.PairSteps.{keeps_pairs}
use Rattle.dlk_forms.proofs.pairs.PairsSoFar.keep_right.Goals as goal

pub returns : goal.returns
returns c = λ l S p k h.
    let q = agrees_ok (IsPairOf c.settle_right.new.stack) c.in_ok-symbol.symbol (right_whole (wants c.args.right) S p) (c.in_ok-symbol.ensures S p h) in
    rw q.1 (subst (λ (s : Sym). Agrees {X = Unit {0}} (λ _ m. Rests c.keep.new.self m) c.keep.result (Some (l ++ to s q.0.by ∷ []))) q.2.symbol
    (c.keep.ensures l q.0.by (keeps_pairs c.args.self.now c.settle_right.new.stack l k) q.2.whole))
