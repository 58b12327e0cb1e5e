-- The texts of a system's items from one place on.
use Rattle.std.proofs.Common.{◌≡◌, ℕ, suc, ◌+◌, ◌<◌, ◌≤◌, List, [], ◌∷◌, ◌++◌, length, get_or, drop, refl, sym, ap, ◌∙◌, add-one, drop-cons}
use Rattle.std.proofs.Common.{append_assoc, false, Some}
use Rattle.std.specs.Prelude.{slice_get}
use Rattle.std.proofs.lemmas.List.{append-nil, drop_all}
use Rattle.dlk_tree.specs.Table.{evolved}
use Rattle.dlk_tree.specs.Trees.{Tree, node}
use Rattle.dlk_tree.specs.declared.op.OdeItem.{OdeItem}
use Rattle.dlk_tree.specs.declared.op.OdeItem.TheVariants.{Evolve, Const}
use Rattle.dlk_tree.specs.declared.op.Op.{Op}
use Rattle.dlk_tree.specs.declared.op.Sym.{Sym}
use Rattle.dlk_store.specs.Stores.{tree, kid_trees}
use Rattle.dlk_store.specs.declared.Id.{Id}
use Rattle.dlk_grammar.specs.Shown.{Piece, spell, item_text, item_texts, terms_behind, ode_brackets, is_true, shown_at}
use Rattle.dlk_print.specs.Printed.{gap}
use Rattle.dlk_print.specs.Kids.{texts_of, first_domain}
use Rattle.dlk_print.proofs.Left.{Left, same_rest, unbegun}
use Rattle.dlk_print.proofs.Joined.{pending, pending-next, pending-none}
use Rattle.dlk_print.proofs.Kids.{texts_behind}

-- what stands before the i-th item, its text, and the later ones
pub at_item : {old text now : List ℕ} (trees : List Tree) (between : List Piece) (items : List OdeItem) (ks : List Id) (i : ℕ) (item : OdeItem) →
    item ≡ get_or items i item → i < length items → Left old text now (spell (pending (λ t. t) between i (item_texts (drop i items) (texts_of trees ks)))) →
    Left old text now (gap i (spell between)
    ++ (spell (item_text item (texts_of trees ks))
    ++ spell (pending (λ t. t) between (i + 1) (item_texts (drop (i + 1) items) (texts_of trees (drop (length (evolved (item ∷ []))) ks))))))
at_item trees between items ks i item e h a =
    let later = item_texts (drop (i + 1) items) (terms_behind item (texts_of trees ks)) in
    let here : drop i items ≡ item ∷ drop (i + 1) items = rw add-one (drop-cons items i item h ∙ ap (λ it. it ∷ drop (suc i) items) (sym e)) in
    let first = ap (λ its. spell (pending (λ t. t) between i (item_texts its (texts_of trees ks)))) here in
    let behind = ap (λ ts. gap i (spell between)
    ++ (spell (item_text item (texts_of trees ks)) ++ spell (pending (λ t. t) between (i + 1) (item_texts (drop (i + 1) items) ts))))
    (texts_behind trees item ks) in
    same_rest (first ∙ pending-next (λ t. t) between i (item_text item (texts_of trees ks)) later ∙ behind) a

-- no item is left
pub past_items : {old text now : List ℕ} (trees : List Tree) (between : List Piece) (items : List OdeItem) (ks : List Id) (i : ℕ) → length items ≤ i →
    Left old text now (spell (pending (λ t. t) between i (item_texts (drop i items) (texts_of trees ks)))) → Left old text now []
past_items trees between items ks i h a = same_rest (rw (drop_all i items h) (pending-none (λ t. t) between i)) a

-- of an item's text nothing was appended yet
pub unbegun_const : (old : List ℕ) (item : OdeItem) (s : Sym) (terms : List (List Piece)) → item ≡ Const s →
    Left old (spell (item_text item terms)) old ((s.name ++ []) ++ spell (ode_brackets s.taboo))
unbegun_const old item s terms e = unbegun old (rw (e, append-nil s.name) refl)

pub unbegun_evolve : (old : List ℕ) (item : OdeItem) (x : List ℕ) (terms : List (List Piece)) → item ≡ Evolve x →
    Left old (spell (item_text item terms)) old ((x ++ (39 ∷ 61 ∷ [])) ++ spell (get_or terms 0 []))
unbegun_evolve old item x terms e = unbegun old (rw e (append_assoc x (39 ∷ 61 ∷ []) (spell (get_or terms 0 []))))

-- nor of a domain's
pub unbegun_domain : (old : List ℕ) (trees : List Tree) (ks kids : List Id) (id : Id) (o : Op) → slice_get ks 0 ≡ Some id →
    tree trees id ≡ node o (kid_trees trees kids) → is_true o ≡ false →
    Left old (spell (first_domain trees ks)) old (38 ∷ [] ++ spell (shown_at 1 (node o (kid_trees trees kids))))
unbegun_domain old trees [] kids id o e f h = absurd (cc)
unbegun_domain old trees (k ∷ ks) kids id o e f h =
    let same : k ≡ id = cc in
    unbegun old (rw (same, f, h) refl)
