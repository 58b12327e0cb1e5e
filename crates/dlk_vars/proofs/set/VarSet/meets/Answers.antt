use Rattle.std.proofs.Common.{◌≡◌, ◌≤◌, ◌&&◌, refl, sym, ap, subst, ◌∙◌, arith, bit_and, length, ◌<◌, ◌^◌}
use Rattle.std.specs.Int.Bits.{and_lt}
use Rattle.std.proofs.lemmas.Bool.{OnTrue_at}
use Rattle.dlk_vars.specs.Rows.{word}
use Rattle.dlk_vars.proofs.Words.{apart_meets, words_meet}
use Rattle.dlk_vars.proofs.Members.{some_meeting}
use Rattle.dlk_vars.proofs.set.VarSet.meets.Goals as goal

pub returns-then-word-ne0-clause-numbers : goal.returns-then-word-ne0-clause-numbers
returns-then-word-ne0-clause-numbers c =
    let s = c.args.self.now in
    let o = c.args.other.now in
    let k = c.loop-k.k in
    let small = and_lt 64 c.word.result c.word-in-loop-k.result c.word.type_inv c.word-in-loop-k.type_inv in
    let e : bit_and c.word.result c.word-in-loop-k.result ≡ bit_and (word s k) (word o k) = λ i. bit_and (c.word.ensures i) (c.word-in-loop-k.ensures i) in (
      λ _. words_meet s o k (subst (λ m. m < 2 ^ 64) e small) (λ z. c.if-word-ne0.true (e ∙ z)),
      λ _. refl,
    )

pub returns-then-word-ne0-clause-vars : goal.returns-then-word-ne0-clause-vars
returns-then-word-ne0-clause-vars c = some_meeting _ c.args.self.now c.args.other.now (returns-then-word-ne0-clause-numbers c)

pub returns-then-four_meet-clause-vars : goal.returns-then-four_meet-clause-vars
returns-then-four_meet-clause-vars c =
    some_meeting _ c.args.self.now c.args.other.now (λ _. OnTrue_at c.if-four_meet.true c.four_meet.ensures.meeting, λ _. refl)

pub returns-then-self-clause-numbers : goal.returns-then-self-clause-numbers
returns-then-self-clause-numbers c =
    let s = c.args.self.now in
    let o = c.args.other.now in
    let k = c.loop-k.k in
    let left : length s.words ≤ k = omega (arith, ap (λ t. length t.words) c.self.view_is, c.len.ensures, c.max-len.ensures, c.loop-k-test.false) in
    let right : length o.words ≤ k = omega (arith, ap (λ t. length t.words) c.other.view_is, c.len-2.ensures, c.max-len.ensures, c.loop-k-test.false) in
    let a : c.self.inside.others ≡ s.others = ap (λ t. t.others) c.self.view_is in
    let b : c.other.inside.others ≡ o.others = ap (λ t. t.others) c.other.view_is in
    let both : (s.others && o.others) ≡ c.other.inside.others = ap (λ t. t && o.others) (sym a ∙ c.if-self.true) ∙ sym b in
    let p = apart_meets s o k left right c.loop-k.invariant in
    (λ h. p.0 (both ∙ h), λ w. sym both ∙ p.1 w)

pub returns-then-self-clause-vars : goal.returns-then-self-clause-vars
returns-then-self-clause-vars c = some_meeting _ c.args.self.now c.args.other.now (returns-then-self-clause-numbers c)

pub returns-else-self-clause-numbers : goal.returns-else-self-clause-numbers
returns-else-self-clause-numbers c =
    let s = c.args.self.now in
    let o = c.args.other.now in
    let k = c.loop-k.k in
    let left : length s.words ≤ k = omega (arith, ap (λ t. length t.words) c.self.view_is, c.len.ensures, c.max-len.ensures, c.loop-k-test.false) in
    let right : length o.words ≤ k = omega (arith, ap (λ t. length t.words) c.other.view_is, c.len-2.ensures, c.max-len.ensures, c.loop-k-test.false) in
    let a : c.self.inside.others ≡ s.others = ap (λ t. t.others) c.self.view_is in
    let b : c.other.inside.others ≡ o.others = ap (λ t. t.others) c.other.view_is in
    let both : (s.others && o.others) ≡ c.self.inside.others = ap (λ t. t && o.others) (sym a ∙ c.if-self.false) ∙ sym c.if-self.false in
    let p = apart_meets s o k left right c.loop-k.invariant in
    (λ h. p.0 (both ∙ h), λ w. sym both ∙ p.1 w)

pub returns-else-self-clause-vars : goal.returns-else-self-clause-vars
returns-else-self-clause-vars c = some_meeting _ c.args.self.now c.args.other.now (returns-else-self-clause-numbers c)
