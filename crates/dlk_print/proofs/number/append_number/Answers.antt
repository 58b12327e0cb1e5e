use Rattle.std.proofs.Common.{◌≢◌, ◌++◌, ◌∷◌, [], ℕ, cond, List, sym, ap, ◌/◌, ◌^◌, ne_eqb}
use Rattle.std.specs.Fmt.{decimal}
use Rattle.dlk_tree.specs.declared.op.Num.{Num}
use Rattle.dlk_grammar.specs.Shown.{literal, last_digits}
use Rattle.dlk_print.proofs.Left.{Left, failed, partly, appended, unbegun, last}
use Rattle.dlk_print.proofs.number.append_number.Goals as goal

-- of a number with a scale nothing was appended yet
unbegun_scaled : (old : List ℕ) (n : Num) → n.scale ≢ 0 →
    Left old (literal n) old (decimal (n.digits / 10 ^ n.scale) ++ (46 ∷ [] ++ last_digits n.scale n.digits))
unbegun_scaled old n h = unbegun old (ap (λ b. cond b (decimal n.digits) (decimal (n.digits / 10 ^ n.scale) ++ (46 ∷ last_digits n.scale n.digits)))
    (sym (ne_eqb n.scale 0 h)))

pub returns-in_err-append_decimal : goal.returns-in_err-append_decimal
returns-in_err-append_decimal c =
    let left = unbegun_scaled c.args.out.now.items c.args.n.now c.if-n-eq0.false in
    failed c.from_residual.result c.from_residual.ensures.0 (partly _ _ left (rw c.integer_part.ensures at c.in_err-append_decimal.ensures.begun))

pub returns-in_err-append : goal.returns-in_err-append
returns-in_err-append c =
    let left = unbegun_scaled c.args.out.now.items c.args.n.now c.if-n-eq0.false in
    let point = appended _ _ left (rw c.integer_part.ensures at c.in_ok-append_decimal.ensures.ok) in
    failed c.from_residual-in_err-append.result c.from_residual-in_err-append.ensures.0 (partly _ _ point c.in_err-append.ensures.begun)

pub returns : goal.returns
returns c =
    let left = unbegun_scaled c.args.out.now.items c.args.n.now c.if-n-eq0.false in
    let point = appended _ _ left (rw c.integer_part.ensures at c.in_ok-append_decimal.ensures.ok) in
    last (appended (46 ∷ []) _ point c.in_ok-append.ensures.ok) c.append_last_digits.ensures
