use Rattle.dlk_grammar.specs.declared.token.Dots.TheVariants.{Refused}
use Rattle.dlk_machine.specs.Sequents.{sequent_reader}
use Rattle.dlk_reader.specs.Outcomes.{ReadsTokens}
use Rattle.dlk_forms.specs.Parsing.{Comes}
use Rattle.dlk_forms.specs.Readers.{ShowsSides, IsCodeOf}
use Rattle.dlk_forms.specs.Said.{AnswersSides}
use Rattle.dlk_forms.proofs.Parsing.{reads, reads_all}
use Rattle.dlk_forms.proofs.SaidLaws.{sides_says, sides_stops}
use Rattle.dlk_forms.proofs.reading.read_sides.Goals as goal

pub returns : goal.returns
returns c =
    reads_all (ReadsTokens (Comes Refused sequent_reader ShowsSides IsCodeOf) c.new.result) AnswersSides
    (λ ts result r.
    let h = reads Refused sequent_reader ShowsSides IsCodeOf c.new.result ts result c.new.ensures r in
    record { says = sides_says ts result h; stops = sides_stops ts result h })
    c.args.source.now.origin c.read.new.source c.read.result c.read.ensures
