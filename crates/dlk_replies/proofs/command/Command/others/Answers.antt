use Rattle.std.proofs.Common.{◌+◌, ◌≤◌, ℕ, List, length, map, string_bytes, IsTrue, sym, ap, subst, rules}
use Rattle.dlk_replies.specs.Forms.{Form, form_of, ends_in}
use Rattle.dlk_replies.proofs.Fits.{room, others_there, others_end}
use Rattle.dlk_replies.proofs.command.Command.others.Goals as goal

pub slice_bounds-result-count : goal.slice_bounds-result-count
slice_bounds-result-count c =
    room c.args.words.now c.args.self (length c.form.result.inputs.now) (ap (λ (f : Form). length f.inputs) c.form.ensures) c.requires

pub slice_bounds-result-start : goal.slice_bounds-result-start
slice_bounds-result-start c =
    let count = length c.form.result.inputs.now in
    let enough : 1 + count ≤ length c.args.words.now = room c.args.words.now c.args.self count (ap (λ (f : Form). length f.inputs) c.form.ensures) c.requires in
    search rules

pub returns-clause-words : goal.returns-clause-words
returns-clause-words c = others_there c.args.words.now c.args.self (length c.form.result.inputs.now) (ap (λ (f : Form). length f.inputs) c.form.ensures)

pub returns-clause-fits : goal.returns-clause-fits
returns-clause-fits c =
    let there = others_there c.args.words.now c.args.self (length c.form.result.inputs.now) (ap (λ (f : Form). length f.inputs) c.form.ensures) in
    subst (λ (ws : List (List ℕ)). IsTrue (ends_in (form_of c.args.self).last ws)) (sym there)
    (others_end (map string_bytes c.args.words.now) c.args.self c.requires)
