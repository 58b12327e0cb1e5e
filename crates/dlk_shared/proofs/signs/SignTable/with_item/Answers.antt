use Rattle.std.proofs.Common.{◌||◌, ◌∷◌, ◌∙◌, [], IfOk, ap, sym, subst}
use Rattle.std.specs.List.{list_any}
use Rattle.std.proofs.Math.Bool.{or-false}
use Rattle.dlk_tree.specs.Occurs.{constants}
use Rattle.dlk_tree.specs.Tests.{sym_eq}
use Rattle.dlk_shared.specs.Signs.{Signs, sign_at}
use Rattle.dlk_shared.proofs.SetLemmas.{mapped}
use Rattle.dlk_shared.proofs.SignLemmas.{signs_same, turned}
use Rattle.dlk_shared.proofs.signs.SignTable.with_item.Goals as goal

pub returns-in-Evolve-clause-signs : goal.returns-in-Evolve-clause-signs
returns-in-Evolve-clause-signs c =
    let t = c.args.self.now in
    record {
      is = c.requires;
      members = λ s. sym (ap (λ o. sign_at t c.args.n s || list_any (sym_eq s) (constants (o ∷ []))) c.in-Evolve.is ∙ or-false (sign_at t c.args.n s));
    }

pub returns-in-Const-clause-signs : goal.returns-in-Const-clause-signs
returns-in-Const-clause-signs c =
    let t = c.args.self.now in
    let x = c.in-Const.s in
    let new = c.with.new.self in
    subst (λ o. IfOk c.with.result (λ m. Signs new m (λ s. sign_at t c.args.n s || list_any (sym_eq s) (constants (o ∷ []))))) (sym c.in-Const.is)
    (mapped (λ m. Signs new m (λ s. sym_eq s x || sign_at t c.args.n s)) (λ m. Signs new m (λ s. sign_at t c.args.n s || list_any (sym_eq s)
    (x ∷ []))) c.with.result
    (λ m h. signs_same (λ s. turned (sym_eq s x) (sign_at t c.args.n s) ∙ ap (λ b. sign_at t c.args.n s || b) (sym (or-false (sym_eq s x)))) h)
    c.with.ensures.signs)
