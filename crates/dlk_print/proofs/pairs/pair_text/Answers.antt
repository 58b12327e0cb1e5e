use Rattle.std.proofs.Common.{[], ◌∷◌}
use Rattle.dlk_sequent.specs.Substitutions.{pair_at}
use Rattle.dlk_print.proofs.Left.{failed, partly, appended, last}
use Rattle.dlk_print.proofs.Paired.{unbegun_pair}
use Rattle.dlk_print.proofs.pairs.pair_text.Goals as goal

pub returns-in_err-append-clause-text : goal.returns-in_err-append-clause-text
returns-in_err-append-clause-text g c =
    let none = unbegun_pair c.args.out.now.items (pair_at (g.S.Store.trees c.args.store.now) c.args.pair.now) in
    failed c.from_residual.result c.from_residual.ensures.0 (partly _ _ none (rw c.term_word.ensures.word at c.in_err-append.ensures.begun))

pub returns-in_err-symbol_text-clause-text : goal.returns-in_err-symbol_text-clause-text
returns-in_err-symbol_text-clause-text g c =
    let none = unbegun_pair c.args.out.now.items (pair_at (g.S.Store.trees c.args.store.now) c.args.pair.now) in
    let word = appended _ _ none (rw c.term_word.ensures.word at c.in_ok-append.ensures.ok) in
    failed c.from_residual-in_err-symbol_text.result c.from_residual-in_err-symbol_text.ensures.0 (partly _ _ word c.in_err-symbol_text.ensures.memory)

pub returns-in_err-append-2-clause-text : goal.returns-in_err-append-2-clause-text
returns-in_err-append-2-clause-text g c =
    let none = unbegun_pair c.args.out.now.items (pair_at (g.S.Store.trees c.args.store.now) c.args.pair.now) in
    let word = appended _ _ none (rw c.term_word.ensures.word at c.in_ok-append.ensures.ok) in
    let left = appended _ _ word c.in_ok-symbol_text.ensures.ok in
    failed c.from_residual-in_err-append-2.result c.from_residual-in_err-append-2.ensures.0 (partly (126 ∷ 62 ∷ []) _ left c.in_err-append-2.ensures.begun)

pub returns-clause-text : goal.returns-clause-text
returns-clause-text g c =
    let none = unbegun_pair c.args.out.now.items (pair_at (g.S.Store.trees c.args.store.now) c.args.pair.now) in
    let word = appended _ _ none (rw c.term_word.ensures.word at c.in_ok-append.ensures.ok) in
    let left = appended _ _ word c.in_ok-symbol_text.ensures.ok in
    let arrow = appended (126 ∷ 62 ∷ []) _ left c.in_ok-append-2.ensures.ok in
    last arrow (record { ok = c.text.ensures.ok; begun = c.text.ensures.memory })
