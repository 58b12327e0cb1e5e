use Rattle.std.proofs.Common.{◌≡◌, map, sym, ap, subst, ◌∙◌}
use Rattle.std.specs.Prelude.{option_map}
use Rattle.std.proofs.lemmas.Result.{err_from_is_err_and}
use Rattle.dlk_store.specs.Stores.{tree}
use Rattle.dlk_calculus.specs.Limits.{IsSmall, IsShallow}
use Rattle.dlk_calculus.specs.Sequents.{IsFormula}
use Rattle.dlk_session.specs.Held.{state}
use Rattle.dlk_replies.specs.Replies.{Reply}
use Rattle.dlk_replies.proofs.Ends.{ends_weaker}
use Rattle.dlk_jobs_check.proofs.Models.{model_small, model_shallow}
use Rattle.dlk_jobs_session.specs.Sessions.{Sessions, played}
use Rattle.dlk_jobs_session.specs.Ties.{line_at}
use Rattle.dlk_jobs_session.specs.Written.{IsTooLong}
use Rattle.dlk_jobs_session.proofs.LinesKept.{lines_kept, lines_known}
use Rattle.dlk_jobs_session.proofs.Replied.{plays_so, replied, too_long_replied}
use Rattle.dlk_jobs_session.proofs.session.session_on.Goals as goal

pub new-requires-clause-formula : goal.new-requires-clause-formula
new-requires-clause-formula g c =
    let read = c.in_ok-formula.ensures.read in
    subst IsFormula (sym read.stands.tree_is) (c.tree_texts.ensures.formulas c.args.model.now read.formula read.reads)

pub new-requires-clause-small : goal.new-requires-clause-small
new-requires-clause-small g c =
    let read = c.in_ok-formula.ensures.read in
    subst IsSmall (sym read.stands.tree_is) (model_small c.args.model.now read.formula read.reads)

pub new-requires-clause-shallow : goal.new-requires-clause-shallow
new-requires-clause-shallow g c =
    let read = c.in_ok-formula.ensures.read in
    subst IsShallow (sym read.stands.tree_is) (model_shallow c.args.model.now read.formula read.reads)

pub play-requires : goal.play-requires
play-requires g c =
    let trees = g.S.Store.trees in
    let read = c.in_ok-formula.ensures.read in
    let keeps = g.met.S.Store.grows_keeps c.read.new.kernel.store c.in-Ok.session.kernel.store c.in-Ok.ensures.grows in
    rw c.deref.ensures.value (lines_known (trees c.read.new.kernel.store) (trees c.in-Ok.session.kernel.store) keeps c.in_ok-formula.lines.items read.known)

pub returns-in_err-written-clause-ended : goal.returns-in_err-written-clause-ended
returns-in_err-written-clause-ended g c =
    let trees = g.S.Store.trees in
    let model = c.args.model.now in
    let script = c.args.script.now in
    let read = c.in_ok-formula.ensures.read in
    let old = trees c.read.new.kernel.store in
    let new = trees c.in-Ok.session.kernel.store in
    let keeps = g.met.S.Store.grows_keeps c.read.new.kernel.store c.in-Ok.session.kernel.store c.in-Ok.ensures.grows in
    let lines = c.in_ok-formula.lines.items in
    let turns = c.in_ok-printed.ensures.turns in
    let last = state trees c.play.new.session in
    let are = ap (map (line_at new)) c.deref.ensures.value ∙ lines_kept old new keeps lines read.known in
    let plays = plays_so model script read.formula (tree old c.in_ok-formula.formula) (map (line_at old) lines) (map (line_at new) c.deref.result.now)
    (state trees c.in-Ok.session) last turns.0 read.reads read.says c.in-Ok.ensures.begins read.stands.tree_is turns.1 are in
    let p = err_from_is_err_and c.from_residual-in_err-written.result c.from_residual-in_err-written.ensures.1 in
    rw (p.1, p.2) (ends_weaker (IsTooLong last.saved) (Sessions model script) (λ reply h. too_long_replied model script turns.0 last reply plays h) _
    c.in_err-written.ensures.ended)

pub returns-clause-reply : goal.returns-clause-reply
returns-clause-reply g c =
    let trees = g.S.Store.trees in
    let model = c.args.model.now in
    let script = c.args.script.now in
    let read = c.in_ok-formula.ensures.read in
    let old = trees c.read.new.kernel.store in
    let new = trees c.in-Ok.session.kernel.store in
    let keeps = g.met.S.Store.grows_keeps c.read.new.kernel.store c.in-Ok.session.kernel.store c.in-Ok.ensures.grows in
    let lines = c.in_ok-formula.lines.items in
    let turns = c.in_ok-printed.ensures.turns in
    let last = state trees c.play.new.session in
    let are = ap (map (line_at new)) c.deref.ensures.value ∙ lines_kept old new keeps lines read.known in
    let plays = plays_so model script read.formula (tree old c.in_ok-formula.formula) (map (line_at old) lines) (map (line_at new) c.deref.result.now)
    (state trees c.in-Ok.session) last turns.0 read.reads read.says c.in-Ok.ensures.begins read.stands.tree_is turns.1 are in
    let text = option_map (λ v. v.items) c.in_ok-written.written in
    let reply : Reply = record { status = c.status.result; printed = c.in_ok-printed.printed.items; written = text } in
    let is : reply ≡ played turns.0 last text = λ i. record { status = c.status.ensures i; printed = turns.2 i; written = text } in
    replied model script turns.0 last text reply plays c.in_ok-written.ensures.file is
