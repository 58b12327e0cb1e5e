-- The text of a node in parts.
use Rattle.std.proofs.Common.{◌≡◌, ℕ, zero, suc, ◌+◌, ◌<◌, ◌≤◌, Bool, true, false, cond, List, [], ◌∷◌, ◌++◌, length, get_or, drop, refl, sym, ap}
use Rattle.std.proofs.Common.{◌∙◌, append_assoc}
use Rattle.std.specs.Prelude.{nat_lt, ◌==◌}
use Rattle.std.proofs.lemmas.List.{append-nil, drop_all}
use Rattle.dlk_tree.specs.Table.{sort_of, evolved}
use Rattle.dlk_tree.specs.declared.op.Sort.{Sort}
use Rattle.dlk_tree.specs.declared.op.OdeItem.{OdeItem}
use Rattle.dlk_tree.specs.declared.op.Op.{Op}
use Rattle.dlk_tree.specs.declared.op.Op.TheVariants.{System, True}
use Rattle.dlk_tree.specs.Trees.{Tree, Forest, node, no_kids, trees_in}
use Rattle.dlk_store.specs.declared.Id.{Id}
use Rattle.dlk_store.specs.Stores.{tree, kid_trees}
use Rattle.dlk_store.proofs.Kids.{kid_trees-drop}
use Rattle.dlk_grammar.specs.declared.token.Mark.TheVariants.{Comma}
use Rattle.dlk_grammar.specs.Shown.{Piece, mark, spell, level, least, opening, between, closing, items_of, inside, joined, item_texts, domain_text}
use Rattle.dlk_grammar.specs.Shown.{open_bracket, close_bracket, bracketed, shown_at, shown_kids}
use Rattle.dlk_print.specs.Printed.{gap}
use Rattle.dlk_print.specs.Kids.{texts_of, first_domain}
use Rattle.dlk_print.proofs.Left.{Left, unbegun, same_rest}
use Rattle.dlk_print.proofs.Joined.{spell-append, pending, pending-next, pending-none}

-- bracket, opening, what is inside, closing, bracket
node_parts : (b : Bool) (s : Sort) (o k c : List Piece) →
    cond b (spell (open_bracket s ∷ [])) [] ++ (spell o ++ (spell k ++ (spell c ++ cond b (spell (close_bracket s ∷ [])) []))) ≡ spell
    (bracketed b s (o ++ (k ++ c)))
node_parts true s o k c = sym (spell-append (open_bracket s ∷ []) ((o ++ (k ++ c)) ++ close_bracket s ∷ [])
    ∙ rw (spell-append (o ++ (k ++ c)) (close_bracket s ∷ []), spell-append o (k ++ c), spell-append k c)
    (ap (λ l. spell (open_bracket s ∷ []) ++ l) (simp append_assoc)))
node_parts false s o k c = rw (append-nil (spell c), spell-append o (k ++ c), spell-append k c) refl

-- of a node's text nothing was appended yet
pub unbegun_node : (old : List ℕ) (n l : ℕ) (s : Sort) (o : Op) (kids : Forest) → l ≡ level o → s ≡ sort_of o →
    Left old (spell (shown_at n (node o kids))) old
    (cond (nat_lt l n) (spell (open_bracket s ∷ [])) []
    ++ (spell (opening o) ++ (spell (inside (items_of o) (between o) (trees_in kids) (shown_kids o 0 kids))
    ++ (spell (closing o) ++ cond (nat_lt l n) (spell (close_bracket s ∷ [])) []))))
unbegun_node old n l s o kids f h = unbegun old
    (rw (f, h) (node_parts (nat_lt (level o) n) (sort_of o) (opening o) (inside (items_of o) (between o) (trees_in kids) (shown_kids o 0 kids)) (closing o)))

-- the kids' texts from place i on: what stands before the i-th, its text, and the later ones
pub at_kid : {old text now : List ℕ} (trees : List Tree) (o : Op) (ks : List Id) (i : ℕ) (d : Id) → i < length ks →
    Left old text now (spell (pending (λ t. t) (between o) i (shown_kids o i (kid_trees trees (drop i ks))))) →
    Left old text now (gap i (spell (between o))
    ++ (spell (shown_at (least o i) (tree trees (get_or ks i d)))
    ++ spell (pending (λ t. t) (between o) (i + 1) (shown_kids o (i + 1) (kid_trees trees (drop (i + 1) ks))))))
at_kid trees o ks i d h a =
    let first = ap (λ f. spell (pending (λ t. t) (between o) i (shown_kids o i f))) (kid_trees-drop trees ks i d h) in
    same_rest (first ∙ pending-next (λ t. t) (between o) i (shown_at (least o i) (tree trees (get_or ks i d)))
    (shown_kids o (i + 1) (kid_trees trees (drop (i + 1) ks)))) a

either_one : (b : Bool) → ◌≡◌ {A = ℕ} (cond b 1 1) 1
either_one true = refl
either_one false = refl

-- a system's kids may be of any level
system_kids : (trees : List Tree) (items : List OdeItem) (i : ℕ) (ks : List Id) → shown_kids (System items) i (kid_trees trees ks) ≡ texts_of trees ks
system_kids trees items i [] = refl
system_kids trees items i (k ∷ ks) =
    rw (either_one (i == 0)) (ap (λ ts. shown_at 1 (tree trees k) ∷ ts) (system_kids trees items (i + 1) ks))

domain_behind : (trees : List Tree) (n : ℕ) (ks : List Id) →
    domain_text (get_or (trees_in (kid_trees trees ks)) n (node True no_kids)) (get_or (texts_of trees ks) n []) ≡ first_domain trees (drop n ks)
domain_behind trees zero ks = refl
domain_behind trees (suc n) [] = refl
domain_behind trees (suc n) (k ∷ ks) = domain_behind trees n ks

-- of what stands inside a system nothing was appended yet: its items, and its domain
pub unbegun_system : (old : List ℕ) (trees : List Tree) (o : Op) (items : List OdeItem) (ks left : List Id) → o ≡ System items →
    left ≡ drop (length (evolved items)) ks →
    Left old (spell (inside (items_of o) (between o) (trees_in (kid_trees trees ks)) (shown_kids o 0 (kid_trees trees ks)))) old
    (spell (joined (mark Comma ∷ []) (item_texts items (texts_of trees ks))) ++ spell (first_domain trees left))
unbegun_system old trees o items ks left e f =
    unbegun old (rw (e, system_kids trees items 0 ks, domain_behind trees (length (evolved items)) ks, f)
    (sym (spell-append (joined (mark Comma ∷ []) (item_texts items (texts_of trees ks))) (first_domain trees (drop (length (evolved items)) ks)))))
