-- Each call is of fewer nodes, or of the same ones and further in: the numbers behind a product order those.
use Rattle.std.proofs.Common.{◌≡◌, ◌+◌, ◌*◌, ◌≤◌, [], ◌∷◌, All, length, drop}
use Rattle.dlk_tree.specs.Table.{evolved}
use Rattle.dlk_tree.specs.Trees.{size, size_all}
use Rattle.dlk_store.specs.Stores.{IsId, tree, kid_trees}
use Rattle.dlk_grammar.specs.Shown.{mark, spell, between, joined, item_texts, shown_kids}
use Rattle.dlk_grammar.specs.declared.token.Mark.TheVariants.{Comma}
use Rattle.dlk_print.specs.Kids.{texts_of}
use Rattle.dlk_print.proofs.Left.{Left}
use Rattle.dlk_print.proofs.Joined.{pending}
use Rattle.dlk_print.proofs.printing.+text.Given as goal

abbrev pub decreases-text_at : goal.decreases-text_at
decreases-text_at g l = 6 * size (tree (g.S.Store.trees l.store.now) l.id)

abbrev pub decreases-node_text : goal.decreases-node_text
decreases-node_text g l = 6 * size_all (kid_trees (g.S.Store.trees l.store.now) l.kids.now) + 5

abbrev pub decreases-inside_text : goal.decreases-inside_text
decreases-inside_text g l = 6 * size_all (kid_trees (g.S.Store.trees l.store.now) l.kids.now) + 4

abbrev pub decreases-kids_text : goal.decreases-kids_text
decreases-kids_text g l = 6 * size_all (kid_trees (g.S.Store.trees l.store.now) l.kids.now) + 3

abbrev pub decreases-items_text : goal.decreases-items_text
decreases-items_text g l = 6 * size_all (kid_trees (g.S.Store.trees l.store.now) l.kids.now) + 3

abbrev pub decreases-item : goal.decreases-item
decreases-item g l = 6 * size_all (kid_trees (g.S.Store.trees l.store.now) l.kids.now) + 2

abbrev pub decreases-term : goal.decreases-term
decreases-term g l = 6 * size_all (kid_trees (g.S.Store.trees l.store.now) l.kids.now) + 1

abbrev pub decreases-domain : goal.decreases-domain
decreases-domain g l = 6 * size_all (kid_trees (g.S.Store.trees l.store.now) l.kids.now) + 3

abbrev pub invariant-kids_text-loop-i : goal.invariant-kids_text-loop-i
invariant-kids_text-loop-i g l =
    let trees = g.S.Store.trees l.store in
    let texts = shown_kids l.op l.i (kid_trees trees (drop l.i l.kids)) in
    record {
      left : Left l.fn.out.items (spell (joined (between l.fn.op) (shown_kids l.fn.op 0 (kid_trees trees l.fn.kids)))) l.out.items
          (spell (pending (λ text. text) (between l.op) l.i texts));
      cost : l.steps + size_all (kid_trees trees (drop l.i l.kids)) ≤ l.fn.steps + size_all (kid_trees trees l.kids);
    }

abbrev pub invariant-items_text-loop-i : goal.invariant-items_text-loop-i
invariant-items_text-loop-i g l =
    let trees = g.S.Store.trees l.store in
    let texts = item_texts (drop l.i l.items) (texts_of trees l.left) in
    record {
      text : Left l.fn.out.items (spell (joined (mark Comma ∷ []) (item_texts l.fn.items (texts_of trees l.fn.kids)))) l.out.items
          (spell (pending (λ text. text) (mark Comma ∷ []) l.i texts));
      known : All (IsId trees) l.left;
      rest : drop (length (evolved (drop l.i l.items))) l.left ≡ drop (length (evolved l.items)) l.kids;
      less : size_all (kid_trees trees l.left) ≤ size_all (kid_trees trees l.kids);
      cost : l.steps + size_all (kid_trees trees l.left) ≤ l.fn.steps + size_all (kid_trees trees l.kids);
    }
