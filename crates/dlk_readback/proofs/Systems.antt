-- What the items of a system say.
use Rattle.std.proofs.Common.{◌≡◌, ℕ, ◌+◌, true, List, [], ◌∷◌, ◌++◌, flat_map, Option, Some, None, refl, sym, ap, subst, subst₂, ◌∙◌, append_assoc, append-nil}
use Rattle.std.specs.List.{join_by, list_all}
use Rattle.std.proofs.lemmas.Bool.{and_parts}
use Rattle.dlk_tree.specs.declared.op.OdeItem.{OdeItem}
use Rattle.dlk_tree.specs.declared.op.OdeItem.TheVariants.{Evolve, Const}
use Rattle.dlk_tree.specs.declared.op.Sym.{Sym}
use Rattle.dlk_tree.specs.declared.op.Kind.TheVariants.{Ode}
use Rattle.dlk_tree.specs.declared.op.Sort.TheVariants.{Term}
use Rattle.dlk_tree.specs.Table.{is_item}
use Rattle.dlk_tree.specs.Trees.{Tree}
use Rattle.dlk_grammar.specs.Lexemes.{Lexeme, Comma}
use Rattle.dlk_grammar.specs.Phrases.{Everywhere, Except, Item, Items, no_items, add, Evolve as evolve, Flow as flow}
use Rattle.dlk_grammar.specs.Grammar.{term, ReadsItems, ReadsItem, items-one, items-more, item-evolve, item-flow, item-except}
use Rattle.dlk_grammar.specs.Erased.{erase, ills, ode_items, item_of, item_terms, ills_of_items}
use Rattle.dlk_grammar.specs.Shown.{Piece, word, ode_brackets, shown_at, item_text, item_texts}
use Rattle.dlk_readback.proofs.Kids.{Sides, sides_of, texts_of, comma}
use Rattle.dlk_readback.proofs.Told.{said, behind, said-append, TellsTree, Back}
use Rattle.dlk_readback.proofs.Symbols.{space_of, unit_symbol}

-- the right side of an item, and where it is of ill shape
abbrev side_of : Item → List Tree
side_of (evolve x a) = erase a ∷ []
side_of (flow x s) = []

abbrev ills_in : Item → List ℕ
ills_in (evolve x a) = ills a
ills_in (flow x s) = []

add_terms : (l : Items) (i : Item) → item_terms (add l i) ≡ item_terms l ++ side_of i
add_terms l (evolve x a) = refl
add_terms l (flow x s) = sym (append-nil (item_terms l))

add_ills : (l : Items) (i : Item) → ills_of_items (add l i) ≡ ills_of_items l ++ ills_in i
add_ills l (evolve x a) = refl
add_ills l (flow x s) = sym (append-nil (ills_of_items l))

-- the lexemes are an item with these right sides
record ItemTold (s : List Lexeme) (item : OdeItem) (terms : List Tree) : Type 0 where
  pub phrase : Item
  pub reads : ReadsItem s phrase
  pub item_is : item_of phrase ≡ item
  pub terms_are : side_of phrase ≡ terms
  pub no_ills : ills_in phrase ≡ []

pub record ItemsTold (s : List Lexeme) (items : List OdeItem) (terms : List Tree) : Type 0 where
  pub phrases : Items
  pub reads : ReadsItems s phrases
  pub items_are : ode_items phrases ≡ items
  pub terms_are : item_terms phrases ≡ terms
  pub no_ills : ills_of_items phrases ≡ []

one_item : {s : List Lexeme} {item : OdeItem} {terms : List Tree} → ItemTold s item terms → ItemsTold s (item ∷ []) terms
one_item {item = item} d = record {
  phrases = add no_items d.phrase;
  reads = items-one d.reads;
  items_are = ap (λ (i : OdeItem). i ∷ []) d.item_is;
  terms_are = add_terms no_items d.phrase ∙ d.terms_are;
  no_ills = add_ills no_items d.phrase ∙ d.no_ills;
}

more_items : {s r : List Lexeme} {items : List OdeItem} {item : OdeItem} {terms us : List Tree} → ItemsTold s items terms → ItemTold r item us →
    ItemsTold (s ++ Comma ∷ r) (items ++ item ∷ []) (terms ++ us)
more_items {items = items} {terms = terms} d e = record {
  phrases = add d.phrases e.phrase;
  reads = items-more d.reads e.reads;
  items_are = ap (λ (l : List OdeItem). l ++ item_of e.phrase ∷ []) d.items_are ∙ ap (λ (i : OdeItem). items ++ i ∷ []) e.item_is;
  terms_are = add_terms d.phrases e.phrase ∙ ap (λ (l : List Tree). l ++ side_of e.phrase) d.terms_are ∙ ap (λ (l : List Tree). terms ++ l) e.terms_are;
  no_ills = add_ills d.phrases e.phrase ∙ ap (λ (l : List ℕ). l ++ ills_in e.phrase) d.no_ills ∙ e.no_ills;
}

const_told : (n : ℕ) (x : List ℕ) (y : Option (List ℕ)) (item : OdeItem) → item_of (flow x (space_of y)) ≡ item →
    ItemTold (said n (word x ∷ ode_brackets y)) item []
const_told n x None item e = record { phrase = flow x Everywhere; reads = item-flow; item_is = e; terms_are = refl; no_ills = refl }
const_told n x (Some y) item e = record { phrase = flow x (Except y); reads = item-except; item_is = e; terms_are = refl; no_ills = refl }

const_back : (n : ℕ) (s : Sym) → is_item (Const s) ≡ true → (texts : List (List Piece)) → ItemTold (said n (item_text (Const s) texts)) (Const s) []
const_back n s h texts = const_told n s.name s.taboo (Const s) (ap Const (unit_symbol Ode s h (λ m. refl)))

evolve_back : (n : ℕ) (x : List ℕ) (t : Tree) → TellsTree term (shown_at 1 t) t → (texts : List (List Piece)) →
    ItemTold (said n (item_text (Evolve x) (shown_at 1 t ∷ texts))) (Evolve x) (t ∷ [])
evolve_back n x t d texts =
    let r = d (n + 1 + 1 + 1) in
    record { phrase = evolve x r.phrase; reads = item-evolve r.reads; item_is = refl; terms_are = ap (λ (a : Tree). a ∷ []) r.erased; no_ills = r.no_ills }

-- the items behind those that are told
later_items : (n : ℕ) (s : List Lexeme) (done items : List OdeItem) (terms ts : List Tree) → list_all is_item items ≡ true → Sides (Back Term) items ts →
    ItemsTold s done terms → ItemsTold (s ++ said n (flat_map (λ x. comma ++ x) (item_texts items (texts_of ts)))) (done ++ items) (terms ++ sides_of items ts)
later_items n s done [] terms ts h all d = rw (append-nil s, append-nil done, append-nil terms) d
later_items n s done (Const c ∷ items) terms ts h all d =
    let w = and_parts (is_item (Const c)) (list_all is_item items) h in
    let text = item_text (Const c) (texts_of ts) in
    let more = flat_map (λ x. comma ++ x) (item_texts items (texts_of ts)) in
    let next = later_items (behind (n + 1) text) (s ++ Comma ∷ said (n + 1) text) (done ++ Const c ∷ []) items (terms ++ []) ts w.1 all
    (more_items d (const_back (n + 1) c w.0 (texts_of ts))) in
    let said-is : (s ++ Comma ∷ said (n + 1) text) ++ said (behind (n + 1) text) more ≡ s ++ Comma ∷ said (n + 1) (text ++ more) =
    append_assoc s (Comma ∷ said (n + 1) text) (said (behind (n + 1) text) more)
    ∙ ap (λ (l : List Lexeme). s ++ Comma ∷ l) (sym (said-append (n + 1) text more)) in
    subst (λ (l : List Lexeme). ItemsTold l (done ++ Const c ∷ items) (terms ++ sides_of items ts)) said-is
    (subst₂ (λ (l : List OdeItem) (us : List Tree).
    ItemsTold ((s ++ Comma ∷ said (n + 1) text) ++ said (behind (n + 1) text) more) l (us ++ sides_of items ts)) (append_assoc done (Const c ∷ []) items)
    (append-nil terms) next)
later_items n s done (Evolve x ∷ items) terms [] h all d = absurd all
later_items n s done (Evolve x ∷ items) terms (t ∷ ts) h all d =
    let w = and_parts (is_item (Evolve x)) (list_all is_item items) h in
    let text = item_text (Evolve x) (texts_of (t ∷ ts)) in
    let more = flat_map (λ x. comma ++ x) (item_texts items (texts_of ts)) in
    let next = later_items (behind (n + 1) text) (s ++ Comma ∷ said (n + 1) text) (done ++ Evolve x ∷ []) items (terms ++ t ∷ []) ts w.1 all.1
    (more_items d (evolve_back (n + 1) x t (all.0 1) (texts_of ts))) in
    let said-is : (s ++ Comma ∷ said (n + 1) text) ++ said (behind (n + 1) text) more ≡ s ++ Comma ∷ said (n + 1) (text ++ more) =
    append_assoc s (Comma ∷ said (n + 1) text) (said (behind (n + 1) text) more)
    ∙ ap (λ (l : List Lexeme). s ++ Comma ∷ l) (sym (said-append (n + 1) text more)) in
    subst (λ (l : List Lexeme). ItemsTold l (done ++ Evolve x ∷ items) (terms ++ t ∷ sides_of items ts)) said-is
    (subst₂ (λ (l : List OdeItem) (us : List Tree). ItemsTold ((s ++ Comma ∷ said (n + 1) text) ++ said (behind (n + 1) text) more) l us)
    (append_assoc done (Evolve x ∷ []) items) (append_assoc terms (t ∷ []) (sides_of items ts)) next)

-- the items of a system
pub items_back : (n : ℕ) (item : OdeItem) (items : List OdeItem) (ts : List Tree) → list_all is_item (item ∷ items) ≡ true →
    Sides (Back Term) (item ∷ items) ts → ItemsTold (said n (join_by (λ x. x) comma (item_texts (item ∷ items) (texts_of ts)))) (item ∷ items)
    (sides_of (item ∷ items) ts)
items_back n (Const c) items ts h all =
    let w = and_parts (is_item (Const c)) (list_all is_item items) h in
    let text = item_text (Const c) (texts_of ts) in
    let more = flat_map (λ x. comma ++ x) (item_texts items (texts_of ts)) in
    rw (said-append n text more) (later_items (behind n text) (said n text) (Const c ∷ []) items [] ts w.1 all (one_item (const_back n c w.0 (texts_of ts))))
items_back n (Evolve x) items [] h all = absurd all
items_back n (Evolve x) items (t ∷ ts) h all =
    let w = and_parts (is_item (Evolve x)) (list_all is_item items) h in
    let text = item_text (Evolve x) (texts_of (t ∷ ts)) in
    let more = flat_map (λ x. comma ++ x) (item_texts items (texts_of ts)) in
    rw (said-append n text more) (later_items (behind n text) (said n text) (Evolve x ∷ []) items (t ∷ []) ts w.1 all.1
    (one_item (evolve_back n x t (all.0 1) (texts_of ts))))
