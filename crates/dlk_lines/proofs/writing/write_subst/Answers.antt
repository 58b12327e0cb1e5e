use Rattle.std.specs.Prelude.{codes, ◌++◌}
use Rattle.std.specs.Fmt.{decimal}
use Rattle.dlk_sequent.specs.Substitutions.{pairs_at}
use Rattle.dlk_print.proofs.Left.{failed, partly, appended, last}
use Rattle.dlk_lines.specs.Written.{pairs_text}
use Rattle.dlk_lines.proofs.Appended.{unbegun_fact}
use Rattle.dlk_lines.proofs.writing.write_subst.Goals as goal

pub returns-in_err-append_number-clause-text : goal.returns-in_err-append_number-clause-text
returns-in_err-append_number-clause-text g c =
    let pairs = pairs_text (g.W.Spells.spelling c.args.writer.now) (pairs_at (g.W.Spells.trees c.args.writer.now) c.args.pairs.now) in
    let none = unbegun_fact c.args.out.now.items (codes "subst ") (decimal c.args.fact) pairs in
    failed c.from_residual.result c.from_residual.ensures.0 (partly (codes "subst " ++ decimal c.args.fact) _ none c.in_err-append_number.ensures.begun)

pub returns-in_err-append-clause-text : goal.returns-in_err-append-clause-text
returns-in_err-append-clause-text g c =
    let pairs = pairs_text (g.W.Spells.spelling c.args.writer.now) (pairs_at (g.W.Spells.trees c.args.writer.now) c.args.pairs.now) in
    let none = unbegun_fact c.args.out.now.items (codes "subst ") (decimal c.args.fact) pairs in
    let fact = appended (codes "subst " ++ decimal c.args.fact) _ none c.in_ok-append_number.ensures.ok in
    failed c.from_residual-in_err-append.result c.from_residual-in_err-append.ensures.0 (partly (codes " ") pairs fact c.in_err-append.ensures.begun)

pub returns-clause-text : goal.returns-clause-text
returns-clause-text g c =
    let pairs = pairs_text (g.W.Spells.spelling c.args.writer.now) (pairs_at (g.W.Spells.trees c.args.writer.now) c.args.pairs.now) in
    let none = unbegun_fact c.args.out.now.items (codes "subst ") (decimal c.args.fact) pairs in
    let fact = appended (codes "subst " ++ decimal c.args.fact) _ none c.in_ok-append_number.ensures.ok in
    last (appended (codes " ") pairs fact c.in_ok-append.ensures.ok) c.pairs.ensures.text
