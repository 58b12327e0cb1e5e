use Rattle.std.proofs.Common.{◌≡◌, true, false, rules}
use Rattle.std.specs.Prelude.{codes}
use Rattle.std.specs.Str.{bytes_eq}
use Rattle.dlk_jobs_session.proofs.ReadLines.{said_undo, said_show, said_save, is_other}
use Rattle.dlk_jobs_session.proofs.ScriptLaws.{no_line}
use Rattle.dlk_jobs_session.proofs.Turned.{if_err}
use Rattle.dlk_jobs_session.proofs.script.read_line.Goals as goal

pub returns-then-eq-clause-said : goal.returns-then-eq-clause-said
returns-then-eq-clause-said g c = let same : bytes_eq c.args.text.now (codes "undo") ≡ true = search rules in said_undo c.args.text.now same

pub returns-then-eq-2-clause-said : goal.returns-then-eq-2-clause-said
returns-then-eq-2-clause-said g c = let same : bytes_eq c.args.text.now (codes "show") ≡ true = search rules in said_show c.args.text.now same

pub returns-then-eq-3-clause-said : goal.returns-then-eq-3-clause-said
returns-then-eq-3-clause-said g c = let same : bytes_eq c.args.text.now (codes "save") ≡ true = search rules in said_save c.args.text.now same

pub returns-clause-fault : goal.returns-clause-fault
returns-clause-fault g c =
    let text = c.args.text.now in
    let undo : bytes_eq text (codes "undo") ≡ false = search rules in
    let show : bytes_eq text (codes "show") ≡ false = search rules in
    let save : bytes_eq text (codes "save") ≡ false = search rules in
    if_err c.read_apply.result _ _
    (λ out. no_line text (is_other text (codes "undo") undo) (is_other text (codes "show") show) (is_other text (codes "save") save) out)
    c.read_apply.ensures.fault
