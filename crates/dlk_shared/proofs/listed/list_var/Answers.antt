use Rattle.std.proofs.Common.{◌≡◌, ◌||◌, ◌&&◌, true, sym, ap, subst, ◌∙◌, rules}
use Rattle.std.proofs.Math.Bool.{and-true}
use Rattle.dlk_tree.specs.Tests.{var_eq}
use Rattle.dlk_tree.specs.Listed.{is_among}
use Rattle.dlk_tree.specs.declared.op.Var.{Var}
use Rattle.dlk_tree.proofs.Listing.{var_inserted}
use Rattle.dlk_shared.specs.SetTables.{stands_out}
use Rattle.dlk_shared.proofs.listed.list_var.Goals as goal

pub returns-in_ok-insert : goal.returns-in_ok-insert
returns-in_ok-insert c =
    let old = c.args.listed.now.keys in
    let new = c.insert.new.self.keys in
    let v = c.args.v.now in
    let added = var_inserted old new c.in_ok-clone.field-0 c.in_ok-insert.ensures.updates.0 in
    let adds = subst (λ (x : Var). (w : Var) → is_among new w ≡ (is_among old w || var_eq w x)) (sym c.in_ok-clone.ensures.cases) added in
    let wanted : stands_out c.args.set.now c.args.n ≡ true = search rules in
    record { adds = λ w. adds w ∙ ap (λ b. is_among old w || b) (sym (and-true (var_eq w v)) ∙ ap (λ b. var_eq w v && b) (sym wanted)) }
