use Rattle.dlk_reader.proofs.Tops.{sort_at_top}
use Rattle.dlk_reader.proofs.stack.place.Goals as goal

pub returns-in-Some : goal.returns-in-Some
returns-in-Some c = λ S e. sort_at_top c.args.goal S c.args.parts.now c.in-Some.part.now c.sort_in.result e c.in-Some.ensures.value c.sort_in.ensures
