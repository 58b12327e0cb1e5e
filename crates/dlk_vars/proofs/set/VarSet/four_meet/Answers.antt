use Rattle.std.proofs.Common.{◌≡◌, ℕ, ◌+◌, ◌<◌, ◌≤◌, ◌^◌, ◌==◌, bit_and, not, sym, subst, ◌∙◌}
use Rattle.std.specs.Prelude.{IsTrue, All, ◌&&◌}
use Rattle.std.proofs.lemmas.Bool.{OnTrue_from, OnFalse_from, not-true, not-false, eqb-true, eqb-false}
use Rattle.dlk_vars.specs.Rows.{word, four_words, has_number}
use Rattle.dlk_vars.proofs.FourWords.{lanes, lanes_apart, lanes_meet}
use Rattle.dlk_vars.proofs.set.VarSet.four_meet.Goals as goal

pub returns-clause-meeting : goal.returns-clause-meeting
returns-clause-meeting c =
    let s = c.args.self.now in
    let o = c.args.other.now in
    let at = c.args.at in
    let both = lanes c.four.result c.four-2.result in
    let same : both ≡ lanes (four_words s at) (four_words o at) = λ i. lanes (c.four.ensures.words i) (c.four-2.ensures.words i) in
    OnTrue_from (not (both == 0)) ((n : ℕ) × IsTrue (has_number s n && has_number o n)) (λ t.
    lanes_meet s o at (subst (All (λ w. w < 2 ^ 64)) c.four.ensures.words c.four.ensures.small)
    (subst (All (λ w. w < 2 ^ 64)) c.four-2.ensures.words c.four-2.ensures.small)
    (λ z. eqb-false both 0 (not-true (both == 0) t) (same ∙ z)))

pub returns-clause-apart : goal.returns-clause-apart
returns-clause-apart c =
    let s = c.args.self.now in
    let o = c.args.other.now in
    let at = c.args.at in
    let both = lanes c.four.result c.four-2.result in
    let same : both ≡ lanes (four_words s at) (four_words o at) = λ i. lanes (c.four.ensures.words i) (c.four-2.ensures.words i) in
    OnFalse_from (not (both == 0)) ((j : ℕ) → at ≤ j → j < at + 4 → bit_and (word s j) (word o j) ≡ 0) (λ f.
    lanes_apart s o at (sym same ∙ eqb-true both 0 (not-false (both == 0) f)))
