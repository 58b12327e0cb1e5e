use Rattle.std.proofs.Common.{◌++◌, length, ap, ◌∙◌}
use Rattle.dlk_report.specs.Reports.{text_report}
use Rattle.dlk_session.specs.Held.{state}
use Rattle.dlk_session.specs.Sessions.{Replies, Shows, applies, undoes, shows}
use Rattle.dlk_jobs_session.proofs.Turned.{on_ok, turn_saved}
use Rattle.dlk_jobs_session.proofs.playing.play_line.Goals as goal

pub returns-in-Ok-clause-turn : goal.returns-in-Ok-clause-turn
returns-in-Ok-clause-turn g c =
    on_ok c.append_reply.result _ _ (λ out. (Replies c.in-Ok.says, rw c.in-Apply.is (applies c.in-Ok.ensures.applies), out)) c.append_reply.ensures

pub returns-in-Undo-clause-turn : goal.returns-in-Undo-clause-turn
returns-in-Undo-clause-turn g c =
    on_ok c.append_reply-in-Undo.result _ _ (λ out. (Replies c.undo.result, rw c.in-Undo.is (undoes c.undo.ensures.undoes), out)) c.append_reply-in-Undo.ensures

pub returns-in_ok-append-in-Ok-show-clause-turn : goal.returns-in_ok-append-in-Ok-show-clause-turn
returns-in_ok-append-in-Ok-show-clause-turn g c =
    let rows = (state g.S.Store.trees c.args.session.now).rows in
    let shown = c.in-Ok-show.ensures in
    let out = rw c.in_ok-append-in-Ok-show.was at c.append.ensures.ok in (
      Shows (text_report shown.0 (length rows)),
      rw c.in-Show.is (shows shown.1),
      out ∙ ap (λ xs. c.args.out.now.items ++ xs) (c.deref.ensures.value ∙ shown.2),
    )

pub returns-in-Ok-save-clause-turn : goal.returns-in-Ok-save-clause-turn
returns-in-Ok-save-clause-turn g c =
    let now = state g.S.Store.trees c.args.session.now in
    let next = state g.S.Store.trees c.save.new.self in
    let turn = turn_saved now next c.in-Ok-save.says c.in-Ok-save.ensures.says c.in-Ok-save.ensures.saves in
    on_ok c.append_reply-in-Ok-save.result _ _ (λ out. (Replies c.in-Ok-save.says, rw c.in-Save.is turn, out)) c.append_reply-in-Ok-save.ensures
