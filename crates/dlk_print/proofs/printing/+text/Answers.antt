use Rattle.std.proofs.Common.{arith, rules, refl, sym, ◌∙◌, length, [], ◌∷◌}
use Rattle.std.proofs.lemmas.List.Elements.{All-drop}
use Rattle.dlk_tree.specs.Table.{evolved}
use Rattle.dlk_store.specs.declared.Id.{Id}
use Rattle.dlk_store.specs.Stores.{IsId}
use Rattle.dlk_store.proofs.Kids.{kid_trees-drop, kid_size}
use Rattle.dlk_grammar.specs.Shown.{mark}
use Rattle.dlk_grammar.specs.declared.token.Mark.TheVariants.{Comma}
use Rattle.dlk_print.specs.Kids.{texts_of}
use Rattle.dlk_print.proofs.Left.{failed, partly, appended, last, done}
use Rattle.dlk_print.proofs.Node.{unbegun_node, at_kid, unbegun_system}
use Rattle.dlk_print.proofs.Items.{at_item, past_items, unbegun_const, unbegun_evolve, unbegun_domain}
use Rattle.dlk_print.proofs.Kids.{size_behind, evolved_drop}
use Rattle.dlk_print.proofs.printing.+text.Goals as goal

pub node_text-returns-in_err-append-clause-text : goal.node_text-returns-in_err-append-clause-text
node_text-returns-in_err-append-clause-text g t c =
    let none = unbegun_node c.args.out.now.items c.args.lowest _ _ _ _ c.level.ensures c.sort_of-sort.ensures in
    failed c.from_residual.result c.from_residual.ensures.0 (partly _ _ none (rw c.open_bracket.ensures at c.in_err-append.ensures.begun))

pub node_text-returns-in_err-open-clause-text : goal.node_text-returns-in_err-open-clause-text
node_text-returns-in_err-open-clause-text g t c =
    let none = unbegun_node c.args.out.now.items c.args.lowest _ _ _ _ c.level.ensures c.sort_of-sort.ensures in
    let bracket = appended _ _ none (rw c.open_bracket.ensures at c.in_ok-append.ensures.ok) in
    failed c.from_residual-in_err-open.result c.from_residual-in_err-open.ensures.0 (partly _ _ bracket c.in_err-open.ensures.begun)

pub node_text-returns-in_err-inside_text-clause-text : goal.node_text-returns-in_err-inside_text-clause-text
node_text-returns-in_err-inside_text-clause-text g t c =
    let none = unbegun_node c.args.out.now.items c.args.lowest _ _ _ _ c.level.ensures c.sort_of-sort.ensures in
    let bracket = appended _ _ none (rw c.open_bracket.ensures at c.in_ok-append.ensures.ok) in
    let opened = appended _ _ bracket c.in_ok-open.ensures.ok in
    failed c.from_residual-in_err-inside_text.result c.from_residual-in_err-inside_text.ensures.0 (partly _ _ opened c.in_err-inside_text.ensures.text.begun)

pub node_text-returns-in_err-close-clause-text : goal.node_text-returns-in_err-close-clause-text
node_text-returns-in_err-close-clause-text g t c =
    let none = unbegun_node c.args.out.now.items c.args.lowest _ _ _ _ c.level.ensures c.sort_of-sort.ensures in
    let bracket = appended _ _ none (rw c.open_bracket.ensures at c.in_ok-append.ensures.ok) in
    let opened = appended _ _ bracket c.in_ok-open.ensures.ok in
    let inside = appended _ _ opened c.in_ok-inside_text.ensures.text.ok in
    failed c.from_residual-in_err-close.result c.from_residual-in_err-close.ensures.0 (partly _ _ inside c.in_err-close.ensures.begun)

pub node_text-returns-clause-text : goal.node_text-returns-clause-text
node_text-returns-clause-text g t c =
    let none = unbegun_node c.args.out.now.items c.args.lowest _ _ _ _ c.level.ensures c.sort_of-sort.ensures in
    let bracket = appended _ _ none (rw c.open_bracket.ensures at c.in_ok-append.ensures.ok) in
    let opened = appended _ _ bracket c.in_ok-open.ensures.ok in
    let inside = appended _ _ opened c.in_ok-inside_text.ensures.text.ok in
    let closed = appended _ _ inside c.in_ok-close.ensures.ok in
    last closed (rw c.close_bracket.ensures at c.append-2.ensures)

pub kids_text-returns-in_err-append-clause-text : goal.kids_text-returns-in_err-append-clause-text
kids_text-returns-in_err-append-clause-text g t c =
    let d : Id = record { 0 = 0 } in
    let at = at_kid (g.S.Store.trees c.args.store.now) c.args.op.now c.args.kids.now c.loop-i.i d c.loop-i-test.true c.loop-i.invariant.left in
    failed c.from_residual.result c.from_residual.ensures.0 (partly _ _ at (rw (c.gap.ensures, c.between.ensures) at c.in_err-append.ensures.begun))

pub kids_text-text_at-requires : goal.kids_text-text_at-requires
kids_text-text_at-requires g t c κs within =
    let d : Id = record { 0 = 0 } in
    let less = kid_size (g.S.Store.trees c.args.store.now) c.args.kids.now c.loop-i.i d c.loop-i-test.true in
    (omega (arith, less), (search rules, (search rules, c.requires c.loop-i.i d c.loop-i-test.true)))

pub kids_text-returns-in_err-text_at-clause-text : goal.kids_text-returns-in_err-text_at-clause-text
kids_text-returns-in_err-text_at-clause-text g t c =
    let d : Id = record { 0 = 0 } in
    let at = at_kid (g.S.Store.trees c.args.store.now) c.args.op.now c.args.kids.now c.loop-i.i d c.loop-i-test.true c.loop-i.invariant.left in
    let kid = appended _ _ at (rw (c.gap.ensures, c.between.ensures) at c.in_ok-append.ensures.ok) in
    failed c.from_residual-in_err-text_at.result c.from_residual-in_err-text_at.ensures.0
    (partly _ _ kid (rw c.least.ensures at c.in_err-text_at.ensures.text.begun))

pub kids_text-loop-i-preserved : goal.kids_text-loop-i-preserved
kids_text-loop-i-preserved g t c =
    let trees = g.S.Store.trees c.args.store.now in
    let ks = c.args.kids.now in
    let d : Id = record { 0 = 0 } in
    let at = at_kid trees c.args.op.now ks c.loop-i.i d c.loop-i-test.true c.loop-i.invariant.left in
    let kid = appended _ _ at (rw (c.gap.ensures, c.between.ensures) at c.in_ok-append.ensures.ok) in
    let cost = rw (kid_trees-drop trees ks c.loop-i.i d c.loop-i-test.true) at c.loop-i.invariant.cost in
    record {
      left = appended _ _ kid (rw c.least.ensures at c.in_ok-text_at.ensures.text.ok);
      cost = omega (arith, cost, c.in_ok-text_at.ensures.cost);
    }

pub domain-returns-in_err-append-clause-text : goal.domain-returns-in_err-append-clause-text
domain-returns-in_err-append-clause-text g t c =
    let none = unbegun_domain c.args.out.now.items (g.S.Store.trees c.args.store.now) c.args.kids.now _ c.in-Some.id.now _ (sym c.in-Some.ensures.value)
    c.look-node.ensures.node (sym c.if-is_true.ensures) in
    failed c.from_residual.result c.from_residual.ensures.0 (partly (38 ∷ []) _ none c.in_err-append.ensures.begun)

pub inside_text-returns-in_err-left-in-Some-clause-text : goal.inside_text-returns-in_err-left-in-Some-clause-text
inside_text-returns-in_err-left-in-Some-clause-text g t c =
    let none = unbegun_system c.args.out.now.items (g.S.Store.trees c.args.store.now) c.args.op.now c.in-Some.items.now c.args.kids.now _
    c.in-Some.ensures refl in
    failed c.from_residual.result c.from_residual.ensures.0 (partly _ _ none (rw c.items.ensures at c.in_err-left-in-Some.ensures.text.begun))

pub inside_text-domain-requires : goal.inside_text-domain-requires
inside_text-domain-requires g t c κs within =
    let trees = g.S.Store.trees c.args.store.now in
    let ks = c.args.kids.now in
    let n = length (evolved c.items.result.now) in
    let less = rw (← c.in_ok-left-in-Some.ensures.left) at (size_behind trees n ks) in
    (omega (arith, less), (search rules, (search rules, rw c.in_ok-left-in-Some.ensures.left (All-drop (IsId trees) n ks c.requires))))

pub inside_text-returns-in_ok-left-in-Some-clause-text : goal.inside_text-returns-in_ok-left-in-Some-clause-text
inside_text-returns-in_ok-left-in-Some-clause-text g t c =
    let none = unbegun_system c.args.out.now.items (g.S.Store.trees c.args.store.now) c.args.op.now c.in-Some.items.now c.args.kids.now
    c.in_ok-left-in-Some.left.now c.in-Some.ensures (rw c.items.ensures at c.in_ok-left-in-Some.ensures.left) in
    last (appended _ _ none (rw c.items.ensures at c.in_ok-left-in-Some.ensures.text.ok)) c.domain.ensures.text

pub item-returns-in_err-append_name-in-Const-clause-text : goal.item-returns-in_err-append_name-in-Const-clause-text
item-returns-in_err-append_name-in-Const-clause-text g t c =
    let none = unbegun_const c.args.out.now.items c.args.item.now c.in-Const.s (texts_of (g.S.Store.trees c.args.store.now) c.args.kids.now) c.in-Const.is in
    failed c.from_residual.result c.from_residual.ensures.0 (partly _ _ none c.in_err-append_name-in-Const.ensures.begun)

pub item-returns-in_err-append_name-in-Evolve-clause-text : goal.item-returns-in_err-append_name-in-Evolve-clause-text
item-returns-in_err-append_name-in-Evolve-clause-text g t c =
    let none = unbegun_evolve c.args.out.now.items c.args.item.now c.in-Evolve.x (texts_of (g.S.Store.trees c.args.store.now) c.args.kids.now) c.in-Evolve.is in
    failed c.from_residual-in_err-append_name-in-Evolve.result c.from_residual-in_err-append_name-in-Evolve.ensures.0
    (partly _ _ none c.in_err-append_name-in-Evolve.ensures.begun)

pub item-returns-in_ok-append_name-in-Evolve-clause-text : goal.item-returns-in_ok-append_name-in-Evolve-clause-text
item-returns-in_ok-append_name-in-Evolve-clause-text g t c =
    let none = unbegun_evolve c.args.out.now.items c.args.item.now c.in-Evolve.x (texts_of (g.S.Store.trees c.args.store.now) c.args.kids.now) c.in-Evolve.is in
    last (appended _ _ none c.in_ok-append_name-in-Evolve.ensures.ok) c.term.ensures.text

pub items_text-returns-in_err-append-clause-text : goal.items_text-returns-in_err-append-clause-text
items_text-returns-in_err-append-clause-text g t c =
    let at = at_item (g.S.Store.trees c.args.store.now) (mark Comma ∷ []) c.args.items.now c.loop-i.left.now c.loop-i.i c.index-items-i.result
    c.index-items-i.is c.loop-i-test.true c.loop-i.invariant.text in
    failed c.from_residual.result c.from_residual.ensures.0 (partly _ _ at (rw c.gap.ensures at c.in_err-append.ensures.begun))

pub items_text-returns-in_err-left-clause-text : goal.items_text-returns-in_err-left-clause-text
items_text-returns-in_err-left-clause-text g t c =
    let at = at_item (g.S.Store.trees c.args.store.now) (mark Comma ∷ []) c.args.items.now c.loop-i.left.now c.loop-i.i c.index-items-i.result
    c.index-items-i.is c.loop-i-test.true c.loop-i.invariant.text in
    let comma = appended _ _ at (rw c.gap.ensures at c.in_ok-append.ensures.ok) in
    failed c.from_residual-in_err-left.result c.from_residual-in_err-left.ensures.0 (partly _ _ comma c.in_err-left.ensures.text.begun)

pub items_text-loop-i-preserved : goal.items_text-loop-i-preserved
items_text-loop-i-preserved g t c =
    let trees = g.S.Store.trees c.args.store.now in
    let item = c.index-items-i.result in
    let at = at_item trees (mark Comma ∷ []) c.args.items.now c.loop-i.left.now c.loop-i.i item c.index-items-i.is c.loop-i-test.true c.loop-i.invariant.text in
    let comma = appended _ _ at (rw c.gap.ensures at c.in_ok-append.ensures.ok) in
    let n = length (evolved (item ∷ [])) in
    let less = rw (← c.in_ok-left.ensures.left) at (size_behind trees n c.loop-i.left.now) in
    record {
      text = rw c.in_ok-left.ensures.left (appended _ _ comma c.in_ok-left.ensures.text.ok);
      known = rw c.in_ok-left.ensures.left (All-drop (IsId trees) n c.loop-i.left.now c.loop-i.invariant.known);
      rest = evolved_drop c.args.items.now c.loop-i.left.now c.in_ok-left.left.now c.loop-i.i item c.index-items-i.is c.loop-i-test.true
          c.in_ok-left.ensures.left ∙ c.loop-i.invariant.rest;
      less = omega (arith, less, c.loop-i.invariant.less);
      cost = omega (arith, c.in_ok-left.ensures.cost, c.loop-i.invariant.cost);
    }

pub items_text-returns-clause-text : goal.items_text-returns-clause-text
items_text-returns-clause-text g t c =
    done _ (past_items (g.S.Store.trees c.args.store.now) (mark Comma ∷ []) c.args.items.now c.loop-i.left.now c.loop-i.i c.loop-i-test.false
    c.loop-i.invariant.text)
