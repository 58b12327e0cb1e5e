use Rattle.std.proofs.Common.{[], map, sym, subst, ap, ◌∙◌}
use Rattle.std.specs.Prelude.{IsAscii}
use Rattle.std.proofs.lemmas.List.{get_or-map, length-map, take_all}
use Rattle.serde_json.specs.Data.{array}
use Rattle.serde_json.specs.View.{items_of}
use Rattle.serde_json.proofs.Views.{view-Array}
use Rattle.dlk_report.specs.Shown.{bytes_of}
use Rattle.dlk_report.specs.Values.{strings}
use Rattle.dlk_report.proofs.json.texts_value.Goals as goal

pub text_value-requires : goal.text_value-requires
text_value-requires c =
    let texts = c.args.texts.now in
    let item = c.text-item.result in
    subst IsAscii (get_or-map bytes_of texts c.loop-text.text-index item [] c.loop-text-test.true ∙ ap bytes_of (sym c.text-item.is)
    ∙ sym c.deref.ensures.value)
    (c.requires c.loop-text.text-index [] (simp length-map c.loop-text-test.true))

pub returns : goal.returns
returns c =
    view-Array c.loop-text.values
    ∙ ap (λ ds. array (items_of ds)) c.loop-text.invariant
    ∙ ap (λ ts. strings (map bytes_of ts)) (take_all _ _ c.loop-text-test.false)
