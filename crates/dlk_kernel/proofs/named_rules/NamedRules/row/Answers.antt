use Rattle.std.proofs.Common.{◌≡◌, rules}
use Rattle.std.proofs.lemmas.List.Elements.{All-push}
use Rattle.std.proofs.lemmas.List.Quantifiers.{Any-push}
use Rattle.dlk_kernel.specs.declared.named_rules.NamedRule.{NamedRule}
use Rattle.dlk_kernel.specs.Named.{IsRowNamed}
use Rattle.dlk_kernel.proofs.Growth.{named_rows_kept}
use Rattle.dlk_kernel.proofs.named_rules.NamedRules.row.Goals as goal

pub returns-in-Some-clause-rule : goal.returns-in-Some-clause-rule
returns-in-Some-clause-rule g c =
    let h = rw c.in-Some.is at c.find.ensures.found (g.S.Store.trees c.args.store.now) c.requires in
    (h.found, h.named, rw c.in_ok-share.ensures h.is_row)

pub returns-in_err-push-clause-named : goal.returns-in_err-push-clause-named
returns-in_err-push-clause-named g c =
    let keeps = g.met.S.Store.grows_keeps c.args.store.now c.make_row.new.store c.make_row.ensures.grows in
    rw (c.in_err-push.ensures.items, c.self.view_is) (named_rows_kept _ _ keeps c.args.self.now c.requires)

pub returns-clause-rule : goal.returns-clause-rule
returns-clause-rule g c = rw c.in-Some-2.is at c.in_ok-row.ensures.rule

pub returns-clause-named : goal.returns-clause-named
returns-clause-named g c =
    let new = g.S.Store.trees c.make_row.new.store in
    let keeps = g.met.S.Store.grows_keeps c.args.store.now c.make_row.new.store c.make_row.ensures.grows in
    let found = rw c.in-Some-2.is at c.in_ok-row.ensures.rule in
    let same : c.in_ok-name.name ≡ c.args.name.now = search rules in
    let one : IsRowNamed new c.in_ok-name.name c.in_ok-kept.kept =
    rw (same, c.in_ok-kept.ensures) (record { found = found.0; named = found.1; is_row = found.2 }) in
    rw (c.in_ok-push.ensures.items, c.self.view_is)
    (All-push (λ (n : NamedRule). IsRowNamed new n.name n.row) c.args.self.now (record { name = c.in_ok-name.name; row = c.in_ok-kept.kept })
    (named_rows_kept _ _ keeps c.args.self.now c.requires) one)

pub returns-in_err-row-clause-named : goal.returns-in_err-row-clause-named
returns-in_err-row-clause-named g c =
    named_rows_kept _ _ (g.met.S.Store.grows_keeps c.args.store.now c.make_row.new.store c.make_row.ensures.grows) c.args.self.now c.requires

pub returns-in_default-2-clause-named : goal.returns-in_default-2-clause-named
returns-in_default-2-clause-named g c =
    named_rows_kept _ _ (g.met.S.Store.grows_keeps c.args.store.now c.make_row.new.store c.make_row.ensures.grows) c.args.self.now c.requires

pub returns-in_err-name-clause-named : goal.returns-in_err-name-clause-named
returns-in_err-name-clause-named g c =
    named_rows_kept _ _ (g.met.S.Store.grows_keeps c.args.store.now c.make_row.new.store c.make_row.ensures.grows) c.args.self.now c.requires

pub returns-in_err-kept-clause-named : goal.returns-in_err-kept-clause-named
returns-in_err-kept-clause-named g c =
    named_rows_kept _ _ (g.met.S.Store.grows_keeps c.args.store.now c.make_row.new.store c.make_row.ensures.grows) c.args.self.now c.requires

pub returns-clause-put : goal.returns-clause-put
returns-clause-put g c = λ there.
    let same : c.in_ok-name.name ≡ c.args.name.now = search rules in
    rw c.in_ok-push.ensures.items
    (Any-push (λ (n : NamedRule). n.name ≡ c.args.name.now) _ (record { name = c.in_ok-name.name; row = c.in_ok-kept.kept }) same)
