use Rattle.std.proofs.Common.{Ok, Err}
use Rattle.std.proofs.lemmas.Result.{err_from_is_err_and}
use Rattle.dlk_reader.specs.Outcomes.{ReadsTokens}
use Rattle.dlk_reader.specs.declared.stop.Stop.TheVariants.{Syntax}
use Rattle.dlk_reader.proofs.Tokens.{finished, not_finished}
use Rattle.dlk_reader.proofs.reading.read.Goals as goal

pub returns-in_err-finish-in-Ok : goal.returns-in_err-finish-in-Ok
returns-in_err-finish-in-Ok g c =
    let w = err_from_is_err_and c.from_residual.result c.from_residual.ensures.1 in
    let from = c.args.source.now.origin in
    let h = c.in-Ok.ensures in
    rw (w.1, w.2) (not_finished (ReadsTokens g.R.LexemeReader.comes c.args.reader) from h.taken c.read_up.new.source c.finish.new.self
    c.in_err-finish-in-Ok.field-0.0
    (c.in_err-finish-in-Ok.ensures from h.taken h.has_taken))

pub returns-in_err-finish-in-Err-Syntax : goal.returns-in_err-finish-in-Err-Syntax
returns-in_err-finish-in-Err-Syntax g c =
    let w = err_from_is_err_and c.from_residual-in_err-finish-in-Err-Syntax.result c.from_residual-in_err-finish-in-Err-Syntax.ensures.1 in
    let from = c.args.source.now.origin in
    let h = rw c.in-Err-Syntax.field-0-is at c.in-Err-Syntax.ensures in
    rw (w.1, w.2) (not_finished (ReadsTokens g.R.LexemeReader.comes c.args.reader) from h.taken c.read_up.new.source c.finish-in-Err-Syntax.new.self
    c.in_err-finish-in-Err-Syntax.field-0.0 (c.in_err-finish-in-Err-Syntax.ensures from h.taken h.has_taken))

pub returns-in_ok-finish-in-Ok : goal.returns-in_ok-finish-in-Ok
returns-in_ok-finish-in-Ok g c =
    let from = c.args.source.now.origin in
    let h = c.in-Ok.ensures in
    finished (ReadsTokens g.R.LexemeReader.comes c.args.reader) from c.read_up.new.source c.finish.new.self (Ok c.in-Ok.output) h
    (c.in_ok-finish-in-Ok.ensures from h.taken h.has_taken)

pub returns-in_ok-finish-in-Err-Syntax : goal.returns-in_ok-finish-in-Err-Syntax
returns-in_ok-finish-in-Err-Syntax g c =
    let from = c.args.source.now.origin in
    let h = rw c.in-Err-Syntax.field-0-is at c.in-Err-Syntax.ensures in
    finished (ReadsTokens g.R.LexemeReader.comes c.args.reader) from c.read_up.new.source c.finish-in-Err-Syntax.new.self (Err (Syntax c.in-Err-Syntax.at)) h
    (c.in_ok-finish-in-Err-Syntax.ensures from h.taken h.has_taken)
