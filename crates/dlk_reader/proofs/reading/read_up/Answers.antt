use Rattle.std.proofs.lemmas.Result.{err_from_is_err_and}
use Rattle.dlk_reader.specs.Outcomes.{ReadsTokens}
use Rattle.dlk_reader.proofs.Tokens.{at_first, at_next, at_fault, at_end, at_bad, one_taken}
use Rattle.dlk_reader.proofs.reading.read_up.Goals as goal

pub loop-reader-init : goal.loop-reader-init
loop-reader-init g c = at_first g.R.LexemeReader.comes c.args.reader c.args.source.now.origin c.args.source.now c.requires

pub returns-in_err-token : goal.returns-in_err-token
returns-in_err-token g c =
    let w = err_from_is_err_and c.from_residual.result c.from_residual.ensures.1 in
    let from = c.args.source.now.origin in
    let h = c.loop-reader.invariant in
    rw (w.1, w.2) (at_bad (ReadsTokens g.R.LexemeReader.comes c.args.reader) from h.taken c.loop-reader.source c.next.new.self c.in_err-token.field-0.0
    (c.in_err-token.ensures from h.taken h.has_taken))

pub returns-in-None : goal.returns-in-None
returns-in-None g c =
    let from = c.args.source.now.origin in
    let h = c.loop-reader.invariant in
    at_end g.R.LexemeReader.comes c.args.reader from c.loop-reader.reader c.loop-reader.source h c.in_ok-token.token c.next.new.self
    (c.in_ok-token.ensures from h.taken h.has_taken) c.number-place.result c.in-None.ensures c.ended.result c.ended.ensures

pub returns-in-Err : goal.returns-in-Err
returns-in-Err g c =
    let from = c.args.source.now.origin in
    let h = c.loop-reader.invariant in
    rw c.stop.ensures (at_fault g.R.LexemeReader.comes c.args.reader from c.loop-reader.reader c.loop-reader.source h c.in_ok-token.token c.next.new.self
    (c.in_ok-token.ensures from h.taken h.has_taken) c.number-place.result _ (c.number-place.ensures from h.taken h.has_taken) c.in-Some.ensures
    c.in-Err.fault c.in-Err.ensures)

pub loop-reader-smaller : goal.loop-reader-smaller
loop-reader-smaller g c =
    let from = c.args.source.now.origin in
    let h = c.loop-reader.invariant in
    (one_taken g.R.LexemeReader.comes c.args.reader from c.loop-reader.reader c.loop-reader.source h c.in_ok-token.token c.next.new.self
    (c.in_ok-token.ensures from h.taken h.has_taken) c.number-place.result _ (c.number-place.ensures from h.taken h.has_taken) c.in-Some.ensures).1

pub loop-reader-preserved : goal.loop-reader-preserved
loop-reader-preserved g c =
    let from = c.args.source.now.origin in
    let h = c.loop-reader.invariant in
    at_next g.R.LexemeReader.comes c.args.reader from c.loop-reader.reader c.loop-reader.source h c.in_ok-token.token c.next.new.self
    (c.in_ok-token.ensures from h.taken h.has_taken) c.number-place.result _ (c.number-place.ensures from h.taken h.has_taken) c.in-Some.ensures
    c.step-read.new.self c.in-Ok.ensures
