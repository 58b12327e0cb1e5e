use Rattle.std.proofs.Common.{◌≡◌, ◌≤◌, ◌<◌, ◌^◌, ◌&&◌, Bool, true, false, not, refl, sym, ap, subst, ◌∙◌, arith, bit_and, length, w64}
use Rattle.std.specs.Int.{bit_not}
use Rattle.std.specs.Int.Bits.{and_lt}
use Rattle.std.proofs.Math.Bool.{and-true, and-false}
use Rattle.dlk_vars.specs.Rows.{word}
use Rattle.dlk_vars.proofs.Words.{left_over, none_left, word_left, within_union}
use Rattle.dlk_vars.proofs.Members.{union_picks}
use Rattle.dlk_vars.proofs.set.VarSet.includes.Goals as goal

not_not : (b : Bool) → not (not b) ≡ b
not_not true = refl
not_not false = refl

pub returns-then-word-ne0-clause-numbers : goal.returns-then-word-ne0-clause-numbers
returns-then-word-ne0-clause-numbers c =
    let s = c.args.self.now in
    let o = c.args.other.now in
    let k = c.loop-k.k in
    let x = c.word.result in
    let y = c.word-in-loop-k.result in
    let e : bit_and x (bit_not w64 y) ≡ left_over s o k = λ i. bit_and (c.word.ensures i) (bit_not w64 (c.word-in-loop-k.ensures i)) in
    let small = subst (λ m. m < 2 ^ 64) c.word-in-loop-k.ensures c.word-in-loop-k.type_inv in
    let less = and_lt 64 x (bit_not w64 y) c.word.type_inv (omega arith) in (
      λ _. word_left s o k small (subst (λ m. m < 2 ^ 64) e less) (λ z. c.if-word-ne0.true (e ∙ z)),
      λ _. refl,
    )

pub returns-then-self-clause-numbers : goal.returns-then-self-clause-numbers
returns-then-self-clause-numbers c =
    let s = c.args.self.now in
    let o = c.args.other.now in
    let k = c.loop-k.k in
    let left : length s.words ≤ k = omega (arith, ap (λ t. length t.words) c.self.view_is, c.len.ensures, c.max-k-end.ensures, c.loop-k-test.false) in
    let right : length o.words ≤ k = omega (arith, ap (λ t. length t.words) c.other.view_is, c.len-2.ensures, c.max-k-end.ensures, c.loop-k-test.false) in
    let a : c.self.inside.others ≡ s.others = ap (λ t. t.others) c.self.view_is in
    let flags : (o.others && not s.others) ≡ not c.self.inside.others =
    ap (λ t. o.others && not t) (sym a ∙ c.if-self.true) ∙ and-false o.others ∙ sym (ap not c.if-self.true) in
    let p = none_left s o k left right c.loop-k.invariant.small c.loop-k.invariant.none in
    (λ h. p.0 (flags ∙ h), λ w. sym flags ∙ p.1 w)

pub returns-then-self-clause-vars : goal.returns-then-self-clause-vars
returns-then-self-clause-vars c h =
    let s = c.args.self.now in
    let o = c.args.other.now in
    union_picks s o s (within_union _ s o (returns-then-self-clause-numbers c) h)

pub returns-else-self-clause-numbers : goal.returns-else-self-clause-numbers
returns-else-self-clause-numbers c =
    let s = c.args.self.now in
    let o = c.args.other.now in
    let k = c.loop-k.k in
    let left : length s.words ≤ k = omega (arith, ap (λ t. length t.words) c.self.view_is, c.len.ensures, c.max-k-end.ensures, c.loop-k-test.false) in
    let right : length o.words ≤ k = omega (arith, ap (λ t. length t.words) c.other.view_is, c.len-2.ensures, c.max-k-end.ensures, c.loop-k-test.false) in
    let a : c.self.inside.others ≡ s.others = ap (λ t. t.others) c.self.view_is in
    let b : c.other.inside.others ≡ o.others = ap (λ t. t.others) c.other.view_is in
    let flags : (o.others && not s.others) ≡ not (not c.other.inside.others) =
    ap (λ t. o.others && not t) (sym a ∙ c.if-self.false) ∙ and-true o.others ∙ sym b ∙ sym (not_not c.other.inside.others) in
    let p = none_left s o k left right c.loop-k.invariant.small c.loop-k.invariant.none in
    (λ h. p.0 (flags ∙ h), λ w. sym flags ∙ p.1 w)

pub returns-else-self-clause-vars : goal.returns-else-self-clause-vars
returns-else-self-clause-vars c h =
    let s = c.args.self.now in
    let o = c.args.other.now in
    union_picks s o s (within_union (not c.other.inside.others) s o (returns-else-self-clause-numbers c) h)
