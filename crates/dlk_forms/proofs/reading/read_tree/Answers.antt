use Rattle.dlk_reader.specs.Outcomes.{ReadsTokens}
use Rattle.dlk_forms.specs.Readers.{TreeComes}
use Rattle.dlk_forms.specs.Said.{AnswersTree}
use Rattle.dlk_forms.proofs.Parsing.{reads_all}
use Rattle.dlk_forms.proofs.SaidLaws.{tree_reads, tree_says, tree_stops}
use Rattle.dlk_forms.proofs.reading.read_tree.Goals as goal

pub returns : goal.returns
returns c =
    let form = c.args.form in
    let dots = c.args.dots in
    reads_all (ReadsTokens TreeComes c.new.result) (AnswersTree form dots)
    (λ ts result r.
    let h = tree_reads dots form c.new.result ts result c.new.ensures r in
    record { says = tree_says dots form ts result h; stops = tree_stops dots form ts result h })
    c.args.source.now.origin c.read.new.source c.read.result c.read.ensures
