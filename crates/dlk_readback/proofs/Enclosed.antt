-- What applications, brackets and systems say.
use Rattle.std.proofs.Common.{◌≡◌, ℕ, ◌+◌, Bool, true, false, nat_le, ◌&&◌, List, [], ◌∷◌, ◌++◌, length, length-append, replicate, None, refl, sym}
use Rattle.std.proofs.Common.{ap, subst, ◌∙◌, append_assoc, append-nil, arith}
use Rattle.std.specs.List.{join_by, list_all}
use Rattle.std.proofs.lemmas.Bool.{and_parts, leb-true, le-ltb}
use Rattle.dlk_tree.specs.declared.op.OdeItem.{OdeItem}
use Rattle.dlk_tree.specs.declared.op.Sym.{Sym}
use Rattle.dlk_tree.specs.declared.op.Kind.{Kind}
use Rattle.dlk_tree.specs.declared.op.Kind.TheVariants.{Func, Pred}
use Rattle.dlk_tree.specs.declared.op.Sort.TheVariants.{Term, Formula}
use Rattle.dlk_tree.specs.declared.op.Op.{Op}
use Rattle.dlk_tree.specs.declared.op.Op.TheVariants as op
use Rattle.dlk_tree.specs.Table.{sort_of, is_item, are_items, evolved, all_distinct, is_sym_of, kind_row, has_arity}
use Rattle.dlk_tree.specs.Trees.{Tree, node, root, Forest, no_kids, kid, forest, trees_in, sorts, AllWellMade}
use Rattle.dlk_grammar.specs.declared.token.Mark.TheVariants as mark
use Rattle.dlk_grammar.specs.declared.token.Infix.TheVariants.{And, Mul}
use Rattle.dlk_grammar.specs.Lexemes.{Lexeme, Name, Open, OpenBrace, CloseBrace, Op as Between}
use Rattle.dlk_grammar.specs.Phrases.{Phrase, Phrases, Items, none, snoc, Everywhere, Call, Apply, Holds, System, Truth, Loop}
use Rattle.dlk_grammar.specs.Grammar.{term, stmt, prog, Reads, ReadsBrace, ReadsList, prim-nullary, prim-apply, atom-nullary, atom-holds, stmt-group}
use Rattle.dlk_grammar.specs.Grammar.{brace-prog, brace-items, brace-domain, star-none, star-loop, inv-none, semi-none}
use Rattle.dlk_grammar.specs.Erased.{erase, erase_all, ills, ills_of_all, ode_items as items_said, item_terms, ills_of_items, count, symbol, place_if}
use Rattle.dlk_grammar.specs.Erased.{is_ill_call, is_ill_system}
use Rattle.dlk_grammar.specs.Shown.{Piece, mark, style, level, shown_at, shown_kids, shown, joined, item_texts, is_true, inside}
use Rattle.dlk_readback.proofs.Climb.{form_at}
use Rattle.dlk_readback.proofs.Rows.{AllKids}
use Rattle.dlk_readback.proofs.Kids.{each_map, forest-trees, body, texts_of, comma, any_kids, joined-texts, args_of, Sides, sides_of, SystemKids}
use Rattle.dlk_readback.proofs.Kids.{system_kids, truth, system_inside, inside_is, real_items}
use Rattle.dlk_readback.proofs.Told.{said, behind, said-append, Told, same_text, TellsTree, Back, listed}
use Rattle.dlk_readback.proofs.Symbols.{called, arity_most}
use Rattle.dlk_readback.proofs.Systems.{ItemsTold, items_back}

count_is : (l : Phrases) → count l ≡ length (erase_all l)
count_is none = refl
count_is (snoc l a) = omega (arith, count_is l, length-append (erase_all l) (erase a ∷ []))

-- an application to one argument or more, which are told
record Called (k : Kind) (s : Sym) (kids : Forest) (n : ℕ) (text : List Lexeme) : Type 0 where
  pub phrases : Phrases
  pub reads : ReadsList term text phrases
  pub symbol_is : symbol k s.name (count phrases) Everywhere ≡ s
  pub kids_are : forest (erase_all phrases) ≡ kids
  pub no_ills : place_if (is_ill_call phrases) n ++ ills_of_all phrases ≡ []

call_text : Op → Forest → List Piece
call_text o kids = inside None comma (trees_in kids) (shown_kids o 0 kids)

call_back : (k : Kind) (s : Sym) (o : Op) → is_sym_of k s ≡ true → (kind_row k).taboo ≡ false → ((m : ℕ) → has_arity k m ≡ nat_le m 8)
    → (style o).first ≡ 1 → (style o).later ≡ 1 → (t : Tree) (rest : Forest) → sorts (kid t rest) ≡ replicate s.arity Term → AllKids Back (kid t rest)
    → (n m : ℕ) → Called k s (kid t rest) n (said m (call_text o (kid t rest)))
unfolding call_text
call_back k s o h untold some e f t rest fit all n m =
    let ts = trees_in rest in
    let w = args_of Back s.arity (kid t rest) fit all in
    let text : call_text o (kid t rest) ≡ join_by shown comma (t ∷ ts) = ap (joined comma) (any_kids o e f 0 (kid t rest)) ∙ joined-texts comma (t ∷ ts) in
    let d = listed shown comma (λ i. refl) m t ts (each_map (Back Term) (λ u. TellsTree term (shown u) u) (t ∷ ts) (λ u b. b 1) w.0) in
    let size : count d.phrases ≡ s.arity = count_is d.phrases ∙ ap (λ (l : List Tree). length l) d.erased ∙ w.1 in
    let few : is_ill_call d.phrases ≡ false = le-ltb 8 (count d.phrases) (omega (arith, arity_most k s h some)) in
    rw text (record {
      phrases = d.phrases;
      reads = d.reads;
      symbol_is = called k s (count d.phrases) h untold size;
      kids_are = ap forest d.erased ∙ forest-trees (kid t rest);
      no_ills = ap (λ (b : Bool). place_if b n ++ ills_of_all d.phrases) few ∙ d.no_ills;
    })

abbrev pub BodyBack : Op → Forest → Type 0
BodyBack o kids = (n : ℕ) → Told (form_at (sort_of o) (level o)) (said n (body o kids)) (node o kids)

pub apply_back : (s : Sym) (kids : Forest) → is_sym_of Func s ≡ true → sorts kids ≡ replicate s.arity Term → AllKids Back kids → BodyBack (op.Apply s) kids
unfolding call_text
apply_back s no_kids h e all n = record {
  phrase = Apply (Call n s.name none);
  reads = prim-nullary;
  erased =
      ap (λ (y : Sym). node (op.Apply y) no_kids) (called Func s 0 h refl (args_of Back s.arity no_kids e all).1);
  no_ills = refl;
}
apply_back s (kid t rest) h e all n =
    let d = call_back Func s (op.Apply s) h refl (λ m. refl) refl refl t rest e all n (n + 1 + 1) in
    same_text (ap (λ (l : List Lexeme). Name n s.name ∷ Open ∷ l) (said-append (n + 1 + 1) (call_text (op.Apply s) (kid t rest)) (mark mark.CloseRound ∷ [])))
    (record {
      phrase = Apply (Call n s.name d.phrases);
      reads = prim-apply d.reads;
      erased = ap (λ (y : Sym). node (op.Apply y) (forest (erase_all d.phrases))) d.symbol_is ∙ ap (node (op.Apply s)) d.kids_are;
      no_ills = d.no_ills;
    })

pub holds_back : (s : Sym) (kids : Forest) → is_sym_of Pred s ≡ true → sorts kids ≡ replicate s.arity Term → AllKids Back kids → BodyBack (op.Holds s) kids
unfolding call_text
holds_back s no_kids h e all n = record {
  phrase = Holds (Call n s.name none);
  reads = atom-nullary;
  erased =
      ap (λ (y : Sym). node (op.Holds y) no_kids) (called Pred s 0 h refl (args_of Back s.arity no_kids e all).1);
  no_ills = refl;
}
holds_back s (kid t rest) h e all n =
    let d = call_back Pred s (op.Holds s) h refl (λ m. refl) refl refl t rest e all n (n + 1 + 1) in
    same_text (ap (λ (l : List Lexeme). Name n s.name ∷ Open ∷ l) (said-append (n + 1 + 1) (call_text (op.Holds s) (kid t rest)) (mark mark.CloseRound ∷ [])))
    (record {
      phrase = Holds (Call n s.name d.phrases);
      reads = atom-holds d.reads;
      erased = ap (λ (y : Sym). node (op.Holds y) (forest (erase_all d.phrases))) d.symbol_is ∙ ap (node (op.Holds s)) d.kids_are;
      no_ills = d.no_ills;
    })

-- braces alone are a statement, and with a star
pub brace_stmt : {s : List Lexeme} {p : Phrase} → ReadsBrace s p → Reads stmt s p
brace_stmt {s} {p} r = subst (λ (l : List Lexeme). Reads stmt l p) (append-nil s) (stmt-group r star-none inv-none semi-none)

pub loop_stmt : {n : ℕ} {s : List Lexeme} {p : Phrase} → Reads prog s p → Reads stmt (OpenBrace n ∷ (s ++ CloseBrace ∷ Between Mul ∷ [])) (Loop p)
loop_stmt {n} {s} {p} r = subst (λ (l : List Lexeme). Reads stmt (OpenBrace n ∷ l) (Loop p)) (append_assoc s (CloseBrace ∷ []) (Between Mul ∷ []))
    (stmt-group (brace-prog r) star-loop inv-none semi-none)

pub not_ill : (l : Items) (items : List OdeItem) → items_said l ≡ items → are_items items ≡ true → is_ill_system l ≡ false
not_ill l items e h =
    let w = and_parts (nat_le 1 (length items) && nat_le (length items) 64 && list_all is_item items) (all_distinct (evolved items)) h in
    let v = and_parts (nat_le 1 (length items) && nat_le (length items) 64) (list_all is_item items) w.0 in
    let few = le-ltb 64 (length items) (leb-true (length items) 64 (and_parts (nat_le 1 (length items)) (nat_le (length items) 64) v.0).1) in
    rw (e, few, w.1) refl

-- the tree of a system
pub system_is : (items : List OdeItem) (kids : Forest) (k : SystemKids Back items kids) (l : Items) (a : Phrase) → items_said l ≡ items →
    item_terms l ≡ sides_of items (trees_in kids) → erase a ≡ k.domain →
    node (op.System (items_said l)) (forest (item_terms l ++ erase a ∷ [])) ≡ node (op.System items) kids
system_is items kids k l a e f g =
    ap (λ (is : List OdeItem). node (op.System is) (forest (item_terms l ++ erase a ∷ []))) e
    ∙ ap (λ (ts : List Tree). node (op.System items) (forest (ts ++ erase a ∷ []))) f
    ∙ ap (λ (t : Tree). node (op.System items) (forest (sides_of items (trees_in kids) ++ t ∷ []))) g
    ∙ ap (λ (ts : List Tree). node (op.System items) (forest ts)) (sym k.all)
    ∙ ap (node (op.System items)) (forest-trees kids)

pub system_ills : (n : ℕ) (l : Items) (a : Phrase) → is_ill_system l ≡ false → ills_of_items l ≡ [] → ills a ≡ [] →
    place_if (is_ill_system l) n ++ (ills_of_items l ++ ills a) ≡ []
system_ills n l a e f g = rw (e, f, g) refl

bare_system : (n : ℕ) (items : List OdeItem) (kids : Forest) (k : SystemKids Back items kids) → are_items items ≡ true →
    ItemsTold (said (n + 1) (joined comma (item_texts items (texts_of (trees_in kids))))) items (sides_of items (trees_in kids)) →
    is_true (root k.domain) ≡ true → Told stmt (said n (mark mark.OpenBrace ∷ (system_inside items (trees_in kids) k.domain ++ mark mark.CloseBrace ∷ [])))
    (node (op.System items) kids)
bare_system n items kids k h d e =
    let text = joined comma (item_texts items (texts_of (trees_in kids))) in
    rw (e, append-nil text, said-append (n + 1) text (mark mark.CloseBrace ∷ [])) (record {
      phrase = System n d.phrases Truth;
      reads = brace_stmt (brace-items d.reads);
      erased = system_is items kids k d.phrases Truth d.items_are d.terms_are (sym (truth k.domain k.made e));
      no_ills = system_ills n d.phrases Truth (not_ill d.phrases items d.items_are h) d.no_ills refl;
    })

domain_system : (n : ℕ) (items : List OdeItem) (kids : Forest) (k : SystemKids Back items kids) → are_items items ≡ true →
    ItemsTold (said (n + 1) (joined comma (item_texts items (texts_of (trees_in kids))))) items (sides_of items (trees_in kids)) →
    is_true (root k.domain) ≡ false → Told stmt (said n (mark mark.OpenBrace ∷ (system_inside items (trees_in kids) k.domain ++ mark mark.CloseBrace ∷ [])))
    (node (op.System items) kids)
domain_system n items kids k h d e =
    let text = joined comma (item_texts items (texts_of (trees_in kids))) in
    let m = behind (n + 1) text + 1 in
    let c = k.holds 1 m in
    let first : said (n + 1) ((text ++ (mark mark.And ∷ shown_at 1 k.domain)) ++ mark mark.CloseBrace ∷ []) ≡ said (n + 1) text
    ++ (Between And ∷ said m (shown_at 1 k.domain ++ mark mark.CloseBrace ∷ [])) =
    ap (said (n + 1)) (append_assoc text (mark mark.And ∷ shown_at 1 k.domain) (mark mark.CloseBrace ∷ []))
    ∙ said-append (n + 1) text (mark mark.And ∷ (shown_at 1 k.domain ++ mark mark.CloseBrace ∷ [])) in
    rw (e, first, said-append m (shown_at 1 k.domain) (mark mark.CloseBrace ∷ [])) (record {
      phrase = System n d.phrases c.phrase;
      reads = brace_stmt (brace-domain d.reads c.reads);
      erased = system_is items kids k d.phrases c.phrase d.items_are d.terms_are c.erased;
      no_ills = system_ills n d.phrases c.phrase (not_ill d.phrases items d.items_are h) d.no_ills c.no_ills;
    })

pub all_items : (n : ℕ) (items : List OdeItem) (ts : List Tree) → are_items items ≡ true → Sides (Back Term) items ts →
    ItemsTold (said n (joined comma (item_texts items (texts_of ts)))) items (sides_of items ts)
all_items n [] ts h sides = absurd cc
all_items n (item ∷ items) ts h sides =
    items_back n item items ts (real_items (item ∷ items) h) sides

pub system_back : (items : List OdeItem) (kids : Forest) → are_items items ≡ true → sorts kids ≡ replicate (length (evolved items)) Term ++ Formula ∷ [] →
    AllKids Back kids → AllWellMade kids → BodyBack (op.System items) kids
system_back items kids h e all w n =
    let k = system_kids Back items kids e all w in
    let d = all_items (n + 1) items (trees_in kids) h k.sides in
    same_text (ap (λ (l : List Piece). said n (mark mark.OpenBrace ∷ (l ++ mark mark.CloseBrace ∷ []))) (inside_is Back items kids k))
    (go n k d (is_true (root k.domain)) refl)
  where
    go : (n : ℕ) (k : SystemKids Back items kids) →
        ItemsTold (said (n + 1) (joined comma (item_texts items (texts_of (trees_in kids))))) items (sides_of items (trees_in kids)) → (b : Bool) →
        is_true (root k.domain) ≡ b → Told stmt (said n (mark mark.OpenBrace ∷ (system_inside items (trees_in kids) k.domain ++ mark mark.CloseBrace ∷ [])))
        (node (op.System items) kids)
    go n k d true b = bare_system n items kids k h d b
    go n k d false b = domain_system n items kids k h d b
