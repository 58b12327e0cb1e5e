use Rattle.dlk_grammar.specs.declared.token.Dots.TheVariants.{Allowed}
use Rattle.dlk_machine.specs.Extras.{extra_reader}
use Rattle.dlk_reader.specs.Outcomes.{ReadsTokens}
use Rattle.dlk_forms.specs.Parsing.{Comes}
use Rattle.dlk_forms.specs.ExtraReaders.{ShowsExtra}
use Rattle.dlk_forms.specs.Said.{IsCodeOfExtra, AnswersExtra}
use Rattle.dlk_forms.proofs.Parsing.{reads, reads_all}
use Rattle.dlk_forms.proofs.SaidLaws.{extra_says, extra_stops}
use Rattle.dlk_forms.proofs.reading.read_extra.Goals as goal

pub returns : goal.returns
returns c =
    reads_all (ReadsTokens (Comes Allowed extra_reader ShowsExtra IsCodeOfExtra) c.new.result) AnswersExtra
    (λ ts result r.
    let h = reads Allowed extra_reader ShowsExtra IsCodeOfExtra c.new.result ts result c.new.ensures r in
    record { says = extra_says ts result h; stops = extra_stops ts result h })
    c.args.source.now.origin c.read.new.source c.read.result c.read.ensures
