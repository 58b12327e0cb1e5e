use Rattle.std.proofs.Common.{arith, vec_len}
use Rattle.std.proofs.lemmas.Grind.{common_steps}
use Rattle.dlk_reader.proofs.Tops.{pops}
use Rattle.dlk_reader.proofs.stack.pop.Goals as goal

pub returns-clause-popped : goal.returns-clause-popped
returns-clause-popped c = λ S e. pops S c.args.parts.now.items c.pop.new.self.items (vec_len c.args.parts.now) c.pop.result e (omega arith)
    (λ z. grind (arith, common_steps)) c.pop.ensures.value c.pop.ensures.rest
