use Rattle.dlk_guard.proofs.LastMark.{last_marked}
use Rattle.dlk_guard.proofs.guard.last_mark.Goals as goal

pub returns-in-Some : goal.returns-in-Some
returns-in-Some c = last_marked c.args.marks.items c.pop.new.self.items c.in-Some.mark c.in-Some.ensures.items
