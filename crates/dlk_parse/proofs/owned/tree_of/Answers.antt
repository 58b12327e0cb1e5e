use Rattle.std.proofs.Common.{arith, sym, ap, ◌∙◌, subst}
use Rattle.dlk_grammar.specs.Erased.{erase}
use Rattle.dlk_grammar.specs.Readings.{itself, IsTree}
use Rattle.dlk_store.specs.Stores.{IsId, tree}
use Rattle.dlk_parse.proofs.SaidLaws.{tree_read, tree_code_made, some_id, only_id}
use Rattle.dlk_lex.proofs.Sources.{gives_tokens}
use Rattle.dlk_parse.proofs.owned.tree_of.Goals as goal

pub make_all-requires : goal.make_all-requires
make_all-requires g c = tree_code_made c.args.form c.args.dots c.in_ok-code.ensures.read.0 c.in_ok-code.code.items
    (gives_tokens c.args.origin c.in_ok-code.ensures.read.0 c.requires c.in_ok-code.ensures.read.1) c.in_ok-code.ensures.read.2

pub index-requires : goal.index-requires
index-requires g c =
    let s = c.in_ok-code.ensures.read.2 in
    let some = some_id (tree (g.S.Store.trees c.make_all.new.store)) c.in_ok-ids.ids.items (erase s.said)
    (c.in_ok-ids.ensures.made.of_phrases (itself s.said) s.code_is) in
    omega (arith, some, c.in_ok-ids.ids.ok.0)

pub returns-clause-found : goal.returns-clause-found
returns-clause-found g c =
    let s = c.in_ok-code.ensures.read.2 in
    let trees = g.S.Store.trees c.make_all.new.store in
    let only = only_id (tree trees) c.in_ok-ids.ids.items (erase s.said) c.index.result.now (c.in_ok-ids.ensures.made.of_phrases (itself s.said) s.code_is) in (
      c.in_ok-code.ensures.read.0,
      c.in_ok-code.ensures.read.1,
      subst (IsTree c.args.form c.args.dots c.in_ok-code.ensures.read.0) (sym only ∙ ap (tree trees) (sym c.index.ensures))
          (tree_read c.args.form c.args.dots c.in_ok-code.ensures.read.0 c.in_ok-code.code.items s),
    )

pub returns-clause-known : goal.returns-clause-known
returns-clause-known g c =
    let s = c.in_ok-code.ensures.read.2 in
    let some = some_id (tree (g.S.Store.trees c.make_all.new.store)) c.in_ok-ids.ids.items (erase s.said)
    (c.in_ok-ids.ensures.made.of_phrases (itself s.said) s.code_is) in
    subst (IsId (g.S.Store.trees c.make_all.new.store)) (sym c.index.ensures) (c.in_ok-ids.ensures.made.known 0 c.index.result.now some)
