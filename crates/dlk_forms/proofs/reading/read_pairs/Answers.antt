use Rattle.dlk_grammar.specs.declared.token.Dots.TheVariants.{Allowed}
use Rattle.dlk_machine.specs.Pairs.{pairs_reader}
use Rattle.dlk_reader.specs.Outcomes.{ReadsTokens}
use Rattle.dlk_forms.specs.Parsing.{Comes}
use Rattle.dlk_forms.specs.PairReaders.{ShowsPairs}
use Rattle.dlk_forms.specs.Said.{IsCodeOfPairs, AnswersPairs}
use Rattle.dlk_forms.proofs.Parsing.{reads, reads_all}
use Rattle.dlk_forms.proofs.SaidLaws.{pairs_says, pairs_stops}
use Rattle.dlk_forms.proofs.reading.read_pairs.Goals as goal

pub returns : goal.returns
returns c =
    reads_all (ReadsTokens (Comes Allowed pairs_reader ShowsPairs IsCodeOfPairs) c.new.result) AnswersPairs
    (λ ts result r.
    let h = reads Allowed pairs_reader ShowsPairs IsCodeOfPairs c.new.result ts result c.new.ensures r in
    record { says = pairs_says ts result h; stops = pairs_stops ts result h })
    c.args.source.now.origin c.read.new.source c.read.result c.read.ensures
