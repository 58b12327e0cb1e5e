use Rattle.std.proofs.Common.{◌≡◌, ◌∙◌, ◌||◌, ◌&&◌, true, List, ℕ, ap, sym, subst}
use Rattle.std.proofs.Math.Bool.{and-true}
use Rattle.dlk_tree.specs.declared.op.Var.{Var}
use Rattle.dlk_tree.specs.Tests.{var_eq}
use Rattle.dlk_tree.specs.Listed.{is_among}
use Rattle.dlk_tree.proofs.Listing.{var_inserted}
use Rattle.dlk_plain.proofs.list.add_var.Goals as goal

pub returns-in_ok-insert : goal.returns-in_ok-insert
returns-in_ok-insert c =
    let old = c.args.vars.now.keys in
    let new = c.insert.new.self.keys in
    let var : List ℕ → Var = λ x. record { name = x; primed = c.args.primed } in
    let added = var_inserted old new (var c.in_ok-name.name) c.in_ok-insert.ensures.updates.0 in
    let adds = subst (λ (x : List ℕ). (v : Var) → is_among new v ≡ (is_among old v || var_eq v (var x))) (sym c.in_ok-name.ensures.cases) added in
    record {
      adds = λ v. adds v ∙ ap (λ b. is_among old v || b)
          (sym (and-true (var_eq v (var c.args.name.now))) ∙ ap (λ b. var_eq v (var c.args.name.now) && b) (sym c.if-wanted.true));
    }
