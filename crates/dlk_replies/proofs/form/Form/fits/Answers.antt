use Rattle.std.proofs.Common.{◌≡◌, ◌-◌, ◌≤◌, ◌∙◌, length, take, drop, true, bytes_eq, string_bytes, ap, arith, rules}
use Rattle.std.proofs.lemmas.List.{take_rest}
use Rattle.dlk_replies.specs.Shown.{form_shown}
use Rattle.dlk_replies.proofs.Fits.{verb_and_rest}
use Rattle.dlk_replies.proofs.form.Form.fits.Goals as goal

pub returns : goal.returns
returns c =
    let form = form_shown c.args.self.now in
    let same : bytes_eq (string_bytes c.verb-item.result) form.verb ≡ true = search rules in
    let room : length form.inputs ≤ length c.args.words.now - 1 = omega (arith, c.if-rest-count.false) in
    let rest = take (length c.args.words.now - 1) (drop 1 c.args.words.now) in
    let behind = take_rest rest (length form.inputs) ∙ ap (drop (length form.inputs)) (take_rest c.args.words.now 1) in
    c.ends_in.ensures ∙ verb_and_rest c.args.words.now _ c.verb-item.result form c.in-len1-up.len_at_least c.verb-item.is same room behind
