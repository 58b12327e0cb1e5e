use Rattle.std.proofs.Common.{◌≡◌, ◌<◌, ◌||◌, ◌&&◌, [], length, get_or, take, sym, ap, subst, ◌∙◌, arith}
use Rattle.std.specs.List.{list_any}
use Rattle.std.proofs.lemmas.List.{get_or_default, take_all}
use Rattle.dlk_tree.specs.Statics.{plain}
use Rattle.dlk_tree.specs.Listed.{is_among, IsListing}
use Rattle.dlk_tree.specs.Tests.{var_eq}
use Rattle.dlk_tree.specs.declared.op.Var.{Var}
use Rattle.dlk_vars.specs.Rows.{Row}
use Rattle.dlk_vars.specs.Tables.{IsTable}
use Rattle.dlk_shared.specs.SetTables.{SetTable, row_at, var_at, set_at, stands_out}
use Rattle.dlk_shared.proofs.Told.{told, told_more, told_all}
use Rattle.dlk_shared.proofs.sets.SetTable.list.Goals as goal

pub loop-k-preserved : goal.loop-k-preserved
loop-k-preserved c v =
    let vars = c.args.self.now.vars in
    let k = c.loop-k.k in
    let w = c.index-vars-k.result in
    let from = row_at c.args.self.now.sets c.args.n in
    let row : c.set-set.result.now ≡ from = c.set-set.ensures in
    let same = c.as_slice-vars.ensures.vars ∙ ap (λ (t : SetTable). t.vars) c.self.view_is in
    let lt : k < length vars = omega (arith, c.loop-k-test.true, ap length same) in
    let at : w ≡ var_at vars k = c.index-vars-k.is ∙ ap (λ l. get_or l k w) same ∙ get_or_default vars k w (plain []) lt in
    let table = subst IsTable (ap (λ (t : SetTable). t.vars) c.self.view_is) c.as_slice-vars.ensures.table in
    let inv = c.loop-k.invariant v in
    c.in_ok-list_var.ensures.adds v ∙ (λ i. inv i || (var_eq v (at i) && stands_out (row i) k)) ∙ told_more vars from k v table lt

pub returns : goal.returns
returns c =
    let vars = c.args.self.now.vars in
    let k = c.loop-k.k in
    let from = row_at c.args.self.now.sets c.args.n in
    let set = set_at c.args.self.now c.args.n in
    let keys = c.loop-k.listed.keys in
    let same = c.as_slice-vars.ensures.vars ∙ ap (λ (t : SetTable). t.vars) c.self.view_is in
    let done : take k vars ≡ vars = take_all k vars (omega (arith, c.loop-k-test.false, ap length same)) in
    let all : (v : Var) → is_among keys v ≡ list_any (told vars from v) vars = λ v. c.loop-k.invariant v ∙ ap (list_any (told vars from v)) done in
    let flag = c.has_others.ensures ∙ ap (λ (r : Row). r.others) c.set-set.ensures in
    let items = c.new.ensures ∙ c.in_ok-listed.ensures.items in
    subst (λ b. IsListing set b c.new.result) (sym flag) (subst (λ l. IsListing set from.others l) (sym items)
    (record { ordered = c.in_ok-listed.ensures.ordered; members = told_all vars from keys all }))
