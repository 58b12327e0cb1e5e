use Rattle.std.proofs.Common.{[], ◌∷◌}
use Rattle.dlk_sequent.specs.Sequents.{sequent_at}
use Rattle.dlk_print.proofs.Left.{partly, appended, last}
use Rattle.dlk_print.proofs.Formulas.{unbegun_sequent}
use Rattle.dlk_print.proofs.sequent.sequent_text.Goals as goal

pub returns-in_err-left_side-clause-memory : goal.returns-in_err-left_side-clause-memory
returns-in_err-left_side-clause-memory g c =
    let none = unbegun_sequent c.args.out.now.items (sequent_at (g.S.Store.trees c.args.store.now) c.args.s.now) in
    partly _ _ none (rw c.as_slice.ensures at c.in_err-left_side.ensures.text.begun)

pub returns-in_err-append-clause-memory : goal.returns-in_err-append-clause-memory
returns-in_err-append-clause-memory g c =
    let none = unbegun_sequent c.args.out.now.items (sequent_at (g.S.Store.trees c.args.store.now) c.args.s.now) in
    let left = appended _ _ none (rw c.as_slice.ensures at c.in_ok-left_side.ensures.text.ok) in
    partly (61 ∷ 61 ∷ 62 ∷ []) _ left c.in_err-append.ensures.begun

pub returns-clause-ok : goal.returns-clause-ok
returns-clause-ok g c =
    let none = unbegun_sequent c.args.out.now.items (sequent_at (g.S.Store.trees c.args.store.now) c.args.s.now) in
    let left = appended _ _ none (rw c.as_slice.ensures at c.in_ok-left_side.ensures.text.ok) in
    let mark = appended (61 ∷ 61 ∷ 62 ∷ []) _ left c.in_ok-append.ensures.ok in
    (last mark (rw c.as_slice-2.ensures at c.right_side.ensures.text)).ok

pub returns-clause-memory : goal.returns-clause-memory
returns-clause-memory g c =
    let none = unbegun_sequent c.args.out.now.items (sequent_at (g.S.Store.trees c.args.store.now) c.args.s.now) in
    let left = appended _ _ none (rw c.as_slice.ensures at c.in_ok-left_side.ensures.text.ok) in
    let mark = appended (61 ∷ 61 ∷ 62 ∷ []) _ left c.in_ok-append.ensures.ok in
    (last mark (rw c.as_slice-2.ensures at c.right_side.ensures.text)).begun
