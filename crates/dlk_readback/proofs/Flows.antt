-- A system whose domain is `true` is written as its items in braces.
use Rattle.std.proofs.Common.{◌≡◌, ℕ, ◌+◌, true, List, [], ◌∷◌, ◌++◌, refl, sym, ap, ◌∙◌, append-nil}
use Rattle.dlk_tree.specs.declared.op.Op.{Op}
use Rattle.dlk_tree.specs.declared.op.Op.TheVariants as op
use Rattle.dlk_tree.specs.Trees.{Tree, node, root, Forest, no_kids, kid, trees_in, WellMade}
use Rattle.dlk_calculus.specs.Kids.{last}
use Rattle.dlk_calculus.specs.Pairs.{is_system_without_domain, is_true}
use Rattle.dlk_grammar.specs.declared.token.Mark.TheVariants as mark
use Rattle.dlk_grammar.specs.Lexemes.{Lexeme, OpenBrace, CloseBrace}
use Rattle.dlk_grammar.specs.Phrases.{Items, System, Truth}
use Rattle.dlk_grammar.specs.Grammar.{ReadsItems}
use Rattle.dlk_grammar.specs.Erased.{erase, ills}
use Rattle.dlk_grammar.specs.Shown.{Piece, mark as the_mark, shown, joined, item_texts, is_true as shows_no_domain}
use Rattle.dlk_readback.proofs.Kids.{texts_of, comma, sides_of, system_kids, truth, system_inside, inside_is}
use Rattle.dlk_readback.proofs.Told.{said, said-append, Back}
use Rattle.dlk_readback.proofs.Enclosed.{not_ill, system_is, system_ills, all_items}
use Rattle.dlk_readback.proofs.Back.{all_back}

-- the lexemes are items in braces, and the tree is their system
pub record FlowTold (n : ℕ) (s : List Lexeme) (t : Tree) : Type 0 where
  pub inside : List Lexeme
  pub items : Items
  pub said_is : s ≡ OpenBrace n ∷ (inside ++ CloseBrace ∷ [])
  pub reads : ReadsItems inside items
  pub erased : erase (System n items Truth) ≡ t
  pub no_ills : ills (System n items Truth) ≡ []

last_is : (kids : Forest) (ts : List Tree) (t : Tree) → trees_in kids ≡ ts ++ t ∷ [] → last kids ≡ t
last_is no_kids [] t e = absurd cc
last_is no_kids (u ∷ ts) t e = absurd cc
last_is (kid a no_kids) [] t e = cc
last_is (kid a no_kids) (u ∷ []) t e = absurd cc
last_is (kid a no_kids) (u ∷ (w ∷ ts)) t e = absurd cc
last_is (kid a (kid b rest)) [] t e = absurd cc
last_is (kid a (kid b rest)) (u ∷ ts) t e = let tail : trees_in (kid b rest) ≡ ts ++ t ∷ [] = cc in last_is (kid b rest) ts t tail

both_true : (o : Op) → is_true o ≡ true → shows_no_domain o ≡ true
both_true op.True h = refl
both_true _ h = absurd cc

pub flow_told : (n : ℕ) (t : Tree) → WellMade t → is_system_without_domain t ≡ true → FlowTold n (said n (shown t)) t
flow_told n (node (op.System items) kids) w h =
    let k = system_kids Back items kids w.0.kids_fit (all_back kids w.1) w.1 in
    let d = all_items (n + 1) items (trees_in kids) w.0.parts_fit k.sides in
    let text = joined comma (item_texts items (texts_of (trees_in kids))) in
    let bare : shows_no_domain (root k.domain) ≡ true =
    both_true (root k.domain) (ap (λ (u : Tree). is_true (root u)) (sym (last_is kids (sides_of items (trees_in kids)) k.domain k.all)) ∙ h) in
    let inside : system_inside items (trees_in kids) k.domain ≡ text = rw bare (append-nil text) in
    record {
      inside = said (n + 1) text;
      items = d.phrases;
      said_is = ap (λ (l : List Piece). said n (the_mark mark.OpenBrace ∷ (l ++ the_mark mark.CloseBrace ∷ []))) (inside_is Back items kids k ∙ inside)
          ∙ ap (λ (l : List Lexeme). OpenBrace n ∷ l) (said-append (n + 1) text (the_mark mark.CloseBrace ∷ []));
      reads = d.reads;
      erased = system_is items kids k d.phrases Truth d.items_are d.terms_are (sym (truth k.domain k.made bare));
      no_ills = system_ills n d.phrases Truth (not_ill d.phrases items d.items_are w.0.parts_fit) d.no_ills refl;
    }
flow_told n (node _ kids) w h = absurd cc
