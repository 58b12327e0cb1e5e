use Rattle.std.proofs.Common.{◌≡◌}
use Rattle.dlk_replies.proofs.Ends.{ends_so}
use Rattle.dlk_jobs_check.specs.Terms.{refused_line}
use Rattle.dlk_jobs_check.proofs.term.refuse_term.Goals as goal

pub returns-in-Bad : goal.returns-in-Bad
returns-in-Bad c =
    rw c.in-Bad.is (ends_so (λ reply. reply ≡ refused_line c.args.words.now c.in-Bad.line c.in-Bad.why) c.refuse_line.result c.end_by.result c.end_by.ensures
    c.refuse_line.ensures)
