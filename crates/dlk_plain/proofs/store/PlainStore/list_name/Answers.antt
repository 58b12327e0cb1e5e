use Rattle.std.proofs.Common.{◌∙◌, ◌&&◌, Bool, not, ap}
use Rattle.std.specs.Bool.{beq}
use Rattle.std.specs.Str.{bytes_eq}
use Rattle.std.proofs.lemmas.Result.{on_ok_weaker}
use Rattle.dlk_tree.specs.declared.op.Var.{Var}
use Rattle.dlk_tree.specs.Tests.{var_eq}
use Rattle.dlk_tree.specs.Statics.{plain, prime}
use Rattle.dlk_plain.specs.Plain.{trees_of}
use Rattle.dlk_plain.specs.Sets.{set_of, on}
use Rattle.dlk_plain.specs.Added.{told}
use Rattle.dlk_plain.proofs.Owed.{Adds-parts, told_name}
use Rattle.dlk_plain.proofs.store.PlainStore.list_name.Goals as goal

pub returns : goal.returns
returns c =
    let set = set_of (trees_of c.args.self.now.nodes.items) c.args.set in
    let others = c.args.others in
    let name = c.args.name.now in
    let two = c.in_set-two.result in
    let first : Var → Bool = λ v. var_eq v (plain name) && not (beq two.plain others) in
    let rest : Var → Bool = λ v. var_eq v (prime name) && not (beq two.prime others) in
    let asked = c.in_set-two.ensures ∙ ap (λ x. on x set) c.bytes.ensures.bytes in
    on_ok_weaker c.add_var-2.result
    (Adds-parts var_eq first rest (told set others (λ x. bytes_eq x name)) (told_name set others name two asked) c.args.vars.now.keys c.add_var.new.vars.keys
    c.add_var-2.new.vars.keys c.in_ok-add_var.ensures) c.add_var-2.ensures
