use Rattle.std.proofs.Common.{List, [], ◌∷◌, ◌++◌, Option, Some, refl}
use Rattle.std.proofs.lemmas.Result.{err_from_is_err_and}
use Rattle.dlk_grammar.specs.Substitutions.{PairPhrase}
use Rattle.dlk_machine.specs.Machine.{◌>>=◌, Part, Piece, reduce}
use Rattle.dlk_reader.specs.Shows.{Reduces}
use Rattle.dlk_forms.specs.declared.pairs.PairsSoFar.{PairsSoFar}
use Rattle.dlk_forms.specs.PairReaders.{wants, right_whole, Rests}
use Rattle.dlk_reader.proofs.Agree.{agrees_ok, agrees_err}
use Rattle.dlk_reader.proofs.Commas.{has_shown}
use Rattle.dlk_forms.proofs.PairSteps.{keeps_pairs, right_reduced, right_unended}
use Rattle.dlk_forms.proofs.pairs.PairsSoFar.end_right.Goals as goal

pub returns-in_default : goal.returns-in_default
returns-in_default c = λ l x k h. rw (right_unended (wants c.args.right) c.args.self.now.stack c.args.mode x c.in_default.not-Has h) tt

pub returns-in_err-last : goal.returns-in_err-last
returns-in_err-last c = λ l x k h.
    let s = has_shown c.args.self.now.stack c.args.mode c.in-Has.last x c.in-Has.is h in
    let e = err_from_is_err_and c.from_residual.result c.from_residual.ensures.1 in
    let f = c.in_err-last.field-0.0 in
    let w = wants c.args.right in
    let o = reduce 0 s.0 s.1 in
    let whole : List Part × Piece → Option PairPhrase = λ r. right_whole w r.0 r.1 in
    let a = agrees_err {V = Unit {0}} (Reduces c.reduce.new.self) (λ v q. Unit {0}) f o whole (c.in_err-last.ensures s.0 s.1 s.3) in
    let left : PairsSoFar = record { stack = c.reduce.new.self; symbols = c.args.self.now.symbols; done = c.args.self.now.done } in
    rw (e.1, e.2, s.2, right_reduced w s.0 s.1 o refl)
    (agrees_err {X = Unit {0}} {V = Unit {0}} (λ v q. Unit {0}) (λ v m. Rests left m) f (o >>= whole) (λ q. Some (l ++ q ∷ [])) a)

pub returns : goal.returns
returns c = λ l x k h.
    let s = has_shown c.args.self.now.stack c.args.mode c.in-Has.last x c.in-Has.is h in
    let r = agrees_ok (Reduces c.reduce.new.self) c.in_ok-last.last (reduce 0 s.0 s.1) (c.in_ok-last.ensures s.0 s.1 s.3) in
    rw (s.2, right_reduced (wants c.args.right) s.0 s.1 (Some r.0) r.1)
    (c.keep_right.ensures l r.0.0 r.0.1 (keeps_pairs c.args.self.now c.reduce.new.self l k) r.2)
