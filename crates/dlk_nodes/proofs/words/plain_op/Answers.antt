use Rattle.std.proofs.Common.{rules, List, ℕ, sym, ap, arith}
use Rattle.std.specs.Prelude.{codes}
use Rattle.std.proofs.lemmas.Slice.Eq.{text_from_reads}
use Rattle.dlk_nodes.specs.Words.{NoDetail}
use Rattle.dlk_nodes.proofs.words.plain_op.Goals as goal

pub returns-in-choice-clause-found : goal.returns-in-choice-clause-found
returns-in-choice-clause-found c =
    ap (λ (w : List ℕ). (w, NoDetail)) (sym (text_from_reads c.args.word.now (codes "choice") (omega arith) (search rules)))
