use Rattle.std.proofs.Common.{rules}
use Rattle.dlk_report.specs.Shown.{parts}
use Rattle.dlk_report.proofs.Compact.{json_from}
use Rattle.dlk_report.proofs.json.report_json.Goals as goal

pub returns : goal.returns
returns c = json_from (parts c.args.report.now) c.in_ok-value.ensures (search rules)
