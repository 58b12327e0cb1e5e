use Rattle.std.proofs.Common.{◌≡◌, sym, ap, ◌∙◌, arith}
use Rattle.dlk_store.specs.Stores.{tree}
use Rattle.dlk_sequent.specs.Extras.{extra_at}
use Rattle.dlk_match.specs.Tried.{id_for}
use Rattle.dlk_match.proofs.Taken.{id_tree, id_known, tree_of, sorted, before, behind, pairs_pushed}
use Rattle.dlk_match.proofs.taking.replace.Goals as goal

pub same-requires-clause-first : goal.same-requires-clause-first
same-requires-clause-first g c =
    let found = ap (λ ps. id_for ps c.args.s.now) (sym c.as_slice.ensures) ∙ sym c.find.ensures ∙ c.in-Some.is in
    id_known (g.S.Store.trees c.args.store.now) c.args.extra.now.pairs c.args.s.now c.in-Some.by c.requires.extra found

pub returns-in-Some-clause-matched : goal.returns-in-Some-clause-matched
returns-in-Some-clause-matched g c =
    let trees = g.S.Store.trees c.args.store.now in
    let same : c.sort_of.result ≡ c.kind_row.result.sort = grind (arith, c.if-ne.false, c.if-ne.ensures, c.ne.ensures) in
    let is = sorted _ _ _ _ _ _ c.look.ensures.node c.sort_of.ensures (ap (λ r. r.sort) c.kind_row.ensures) same in
    let found = ap (λ ps. id_for ps c.args.s.now) (sym c.as_slice.ensures) ∙ sym c.find.ensures ∙ c.in-Some.is in
    let by = id_tree trees c.args.extra.now.pairs c.args.s.now ∙ ap (tree_of trees) found in
    before c.args.s.now (tree trees c.args.e) (extra_at trees c.args.extra.now) (tree trees c.in-Some.by) by is c.same.result c.same.ensures

pub returns-clause-matched : goal.returns-clause-matched
returns-clause-matched g c =
    let trees = g.S.Store.trees c.args.store.now in
    let old = c.args.extra.now in
    let same : c.sort_of.result ≡ c.kind_row.result.sort = grind (arith, c.if-ne.false, c.if-ne.ensures, c.ne.ensures) in
    let is = sorted _ _ _ _ _ _ c.look.ensures.node c.sort_of.ensures (ap (λ r. r.sort) c.kind_row.ensures) same in
    let found = ap (λ ps. id_for ps c.args.s.now) (sym c.as_slice.ensures) ∙ sym c.find.ensures ∙ c.in_default.is in
    let none = id_tree trees old.pairs c.args.s.now ∙ ap (tree_of trees) found in
    let sym_is : c.in_ok-sym.sym ≡ c.args.s.now = grind (arith, c.in_ok-sym.ensures) in
    let pushed = pairs_pushed trees old.pairs c.push.new.self c.in_ok-sym.sym c.args.s.now c.args.e c.in_ok-push.ensures.ok sym_is in
    behind c.args.s.now (tree trees c.args.e) (extra_at trees old) _ none is (λ i. record { renames = old.renames; pairs = pushed i })
