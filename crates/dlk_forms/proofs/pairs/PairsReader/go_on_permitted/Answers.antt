use Rattle.std.proofs.Common.{◌≡◌, Option, Some, sym, ap, ◌∙◌}
use Rattle.dlk_machine.specs.Pairs.{pairs_step}
use Rattle.dlk_reader.specs.Shows.{seen}
use Rattle.dlk_reader.proofs.Agree.{ok_same}
use Rattle.dlk_forms.specs.PairReaders.{ShowsWithin, ShowsPairsAt, ShowsPairs}
use Rattle.dlk_forms.specs.declared.pairs.PairMode.{PairMode}
use Rattle.dlk_forms.specs.declared.pairs.PairsReader.{PairsReader}
use Rattle.dlk_forms.proofs.PairSteps.{right_changed_at}
use Rattle.dlk_forms.proofs.pairs.PairsReader.go_on_permitted.Goals as goal
use Rattle.dlk_forms.proofs.pairs.PairsReader.go_on_permitted.Goals.{then-not-is_comma+in-Some+in_default-pair, then-not-is_comma+in_default, else-not-is_comma}

pub returns-in-InRight : goal.returns-in-InRight
returns-in-InRight c = λ x h.
    let right = c.in-InRight.right in
    let is = c.in-Some.is ∙ ap Some c.in-InRight.is in
    let steps = rw c.right_sort-sort.ensures at c.go_on.ensures in
    right_changed_at c.args.self.now.pairs c.go_on.new.self right c.in-InRight.mode c.go_on.new.mode c.args.lexeme c.go_on.result c.args.self.now.mode
    x is (λ e. absurd (let yes = c.is_comma.ensures.1 e in let no = c.if-not-is_comma.true in cc)) steps h

pub returns : goal.returns
returns c = λ x h.
    let with_mode : Option PairMode → PairsReader = λ m. record { pairs = c.args.self.now.pairs; mode = m } in
    let same : c.if-not-is_comma.self ≡ c.args.self.now = elim c.if-not-is_comma.branch [
      | then-not-is_comma+in-Some+in_default-pair w ↦ w.self-is ∙ ap with_mode (sym w.in-Some.is)
      | then-not-is_comma+in_default w ↦ w.self-is
      | else-not-is_comma w ↦ w.self-is
    ] in
    let mode = c.in_ok-step.field-0 in
    let next : PairsReader = record { pairs = c.step.new.self; mode = Some mode } in
    let shown : ShowsPairsAt c.if-not-is_comma.self.pairs c.take-mode.result x = rw (c.take-mode.ensures.value, same) h in
    ok_same (ShowsWithin c.step.new.self) ShowsPairs mode next (pairs_step x (seen c.args.lexeme)) (λ y s. s) (c.in_ok-step.ensures x shown)
