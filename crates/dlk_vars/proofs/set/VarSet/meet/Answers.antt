use Rattle.std.proofs.Common.{◌≡◌, ◌≤◌, ◌&&◌, sym, ap, ◌∙◌, arith, length}
use Rattle.dlk_vars.specs.Rows.{Row}
use Rattle.dlk_vars.proofs.Words.{meet_numbers}
use Rattle.dlk_vars.proofs.Members.{meet_picks}
use Rattle.dlk_vars.proofs.set.VarSet.meet.Goals as goal
use Rattle.dlk_vars.proofs.set.VarSet.meet.Goals.{then-self, else-self}

pub returns-clause-numbers : goal.returns-clause-numbers
returns-clause-numbers c =
    let s = c.args.self.now in
    let o = c.args.other.now in
    let r : Row = record { words = c.loop-k.words.items; others = c.if-self.result } in
    let k = c.loop-k.k in
    let left : length s.words ≤ k = omega (arith, ap (λ t. length t.words) c.self.view_is, c.len.ensures, c.max-k-end.ensures, c.loop-k-test.false) in
    let right : length o.words ≤ k = omega (arith, ap (λ t. length t.words) c.other.view_is, c.len-2.ensures, c.max-k-end.ensures, c.loop-k-test.false) in
    let a : c.self.inside.others ≡ s.others = ap (λ t. t.others) c.self.view_is in
    let b : c.other.inside.others ≡ o.others = ap (λ t. t.others) c.other.view_is in
    let flag : c.if-self.result ≡ (s.others && o.others) =
    elim c.if-self.branch [
      | then-self w ↦ w.result-is ∙ b ∙ sym (ap (λ t. t && o.others) (sym a ∙ w.if-self.true))
      | else-self w ↦ w.result-is ∙ w.if-self.false ∙ sym (ap (λ t. t && o.others) (sym a ∙ w.if-self.false))
    ] in
    meet_numbers s o r k left right c.loop-k.invariant flag

pub returns-clause-vars : goal.returns-clause-vars
returns-clause-vars c =
    meet_picks c.args.self.now c.args.other.now (record { words = c.loop-k.words.items; others = c.if-self.result }) (returns-clause-numbers c)
