use Rattle.std.proofs.Common.{[], Some}
use Rattle.std.proofs.lemmas.Result.{err_from_is_err_and}
use Rattle.dlk_machine.specs.Pairs.{Begins, Within, right_sort}
use Rattle.dlk_reader.specs.Ends.{at_comma, ShowsComma}
use Rattle.dlk_forms.specs.PairReaders.{wants, right_whole, with_pair, Rests, ShowsWithin}
use Rattle.dlk_reader.proofs.Agree.{agrees_ok, agrees_err}
use Rattle.dlk_reader.proofs.Commas.{behind, goes_to, ends_at}
use Rattle.dlk_forms.proofs.PairSteps.{keeps_pairs, next_pair, in_pair, right_at_comma, pair_end, next_begins, right_goes_on}
use Rattle.dlk_forms.proofs.pairs.PairsSoFar.right_comma.Goals as goal

pub returns-in_err-mode : goal.returns-in_err-mode
returns-in_err-mode c = λ l x p h.
    let v = wants c.args.right in
    let new = record c.args.self.now { stack = c.at_comma.new.self } in
    let w = err_from_is_err_and c.from_residual.result c.from_residual.ensures.1 in
    rw (w.1, w.2, right_at_comma l v x) (agrees_err (ShowsComma c.at_comma.new.self) (ShowsWithin new) c.in_err-mode.field-0.0
    (at_comma (right_sort v) x) (behind (right_whole v []) (next_pair l v) (in_pair l v))
    (rw (c.right_sort-sort.ensures) at (c.in_err-mode.ensures x h)))

pub returns-in-GoesOn : goal.returns-in-GoesOn
returns-in-GoesOn c = λ l x p h.
    let v = wants c.args.right in
    let k = c.at_comma.new.self in
    let r = goes_to k c.in-GoesOn.mode (at_comma (right_sort v) x) (rw (c.in-GoesOn.is, c.right_sort-sort.ensures) at (c.in_ok-mode.ensures x h)) in
    rw (right_at_comma l v x, r.1) (right_goes_on (record c.args.self.now { stack = k }) l c.args.right c.in-GoesOn.mode r.0
    (keeps_pairs c.args.self.now k l p) r.2)

pub returns-in_err-keep_right-in-Ends : goal.returns-in_err-keep_right-in-Ends
returns-in_err-keep_right-in-Ends c = λ l x p h.
    let v = wants c.args.right in
    let k = c.at_comma.new.self in
    let r = ends_at k c.in-Ends.last (at_comma (right_sort v) x) (rw (c.in-Ends.is, c.right_sort-sort.ensures) at (c.in_ok-mode.ensures x h)) in
    let w = err_from_is_err_and c.from_residual-in_err-keep_right-in-Ends.result c.from_residual-in_err-keep_right-in-Ends.ensures.1 in
    rw (w.1, w.2, right_at_comma l v x, r.1, pair_end l v (right_whole v [] r.0))
    (agrees_err {X = Unit {0}} (λ _ m. Rests c.keep_right.new.self m) (ShowsWithin c.keep_right.new.self) c.in_err-keep_right-in-Ends.field-0.0
    (with_pair l (right_whole v [] r.0)) (λ m. Some (Within m Begins))
    (c.in_err-keep_right-in-Ends.ensures l [] r.0 (keeps_pairs c.args.self.now k l p) r.2))

pub returns-in_ok-keep_right-in-Ends : goal.returns-in_ok-keep_right-in-Ends
returns-in_ok-keep_right-in-Ends c = λ l x p h.
    let v = wants c.args.right in
    let k = c.at_comma.new.self in
    let r = ends_at k c.in-Ends.last (at_comma (right_sort v) x) (rw (c.in-Ends.is, c.right_sort-sort.ensures) at (c.in_ok-mode.ensures x h)) in
    let m = agrees_ok {X = Unit {0}} (λ _ m. Rests c.keep_right.new.self m) tt (with_pair l (right_whole v [] r.0))
    (c.in_ok-keep_right-in-Ends.ensures l [] r.0 (keeps_pairs c.args.self.now k l p) r.2) in
    rw (right_at_comma l v x, r.1, pair_end l v (right_whole v [] r.0), m.1) (next_begins c.keep_right.new.self m.0 m.2)
