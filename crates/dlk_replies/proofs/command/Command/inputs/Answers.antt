use Rattle.std.proofs.Common.{◌≡◌, ◌+◌, ◌-◌, ◌≤◌, length, take, drop, sym, ap, ◌∙◌, rules, arith, Global}
use Rattle.std.specs.List.{take-map, drop-map}
use Rattle.std.specs.Prelude.{string_bytes}
use Rattle.dlk_replies.specs.Forms.{Form, form_of}
use Rattle.dlk_replies.proofs.Fits.{room}
use Rattle.dlk_replies.proofs.command.Command.inputs.Goals as goal

pub slice_bounds-result-end : goal.slice_bounds-result-end
slice_bounds-result-end c =
    let count = length c.form.result.inputs.now in
    let enough : 1 + count ≤ length c.args.words.now = room c.args.words.now c.args.self count (ap (λ (f : Form). length f.inputs) c.form.ensures) c.requires in
    search rules

pub returns-clause-names : goal.returns-clause-names
returns-clause-names c =
    let words = c.args.words.now in
    let count : 1 + length c.form.result.inputs.now - 1 ≡ length (form_of c.args.self).inputs =
    (let same = ap (λ (f : Form). length f.inputs) c.form.ensures in omega (arith, same)) in
    sym (take-map (string_bytes {Z = Global}) (1 + length c.form.result.inputs.now - 1) (drop 1 words)) ∙
    (λ i. take (count i) (sym (drop-map (string_bytes {Z = Global}) 1 words) i))
