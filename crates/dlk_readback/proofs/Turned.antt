-- The canonical text of a sequent is read back.
use Rattle.std.proofs.Common.{◌≡◌, ℕ, ◌+◌, ◌≤◌, All, List, [], ◌∷◌, ◌++◌, map, flat_map, refl, sym, ap, subst, ◌∙◌, append_assoc, append-nil, arith}
use Rattle.std.proofs.lemmas.Grind.{flat_map-append}
use Rattle.std.proofs.lemmas.List.{map-append}
use Rattle.std.proofs.lemmas.List.Elements.{All-head, All-tail}
use Rattle.dlk_tree.specs.declared.op.Sort.{Sort}
use Rattle.dlk_tree.specs.declared.op.Sort.TheVariants.{Formula}
use Rattle.dlk_tree.specs.Trees.{Tree, size, depth}
use Rattle.dlk_calculus.specs.Sequents.{Sequent, IsFormula, IsSequent}
use Rattle.dlk_grammar.specs.declared.token.Mark.TheVariants as mark
use Rattle.dlk_grammar.specs.declared.token.Dots.TheVariants.{Refused}
use Rattle.dlk_grammar.specs.Lexemes.{Lexeme, Turnstile, lexemes}
use Rattle.dlk_grammar.specs.Phrases.{Phrases, none, snoc}
use Rattle.dlk_grammar.specs.Grammar.{formula, ReadsSide, side-nothing, side-list, Turned, ReadsSequent, sequent-sides}
use Rattle.dlk_grammar.specs.Erased.{erase, erase_all, ills, ills_of_all}
use Rattle.dlk_calculus.specs.Limits.{most_nodes, greatest_depth}
use Rattle.dlk_grammar.specs.Readings.{phrases_in, both_sides, erase_sides}
use Rattle.dlk_grammar.specs.Texts.{SequentText}
use Rattle.dlk_grammar.specs.Shown.{Piece, space, mark as the_mark, spell, shown, formulas, left_side, right_side, shown_sequent}
use Rattle.dlk_machine.proofs.ParseLaws.{one_sides_read}
use Rattle.dlk_readback.specs.Readable.{IsWithinLimits}
use Rattle.dlk_readback.proofs.Kids.{Each, each_map, texts_of, joined-texts}
use Rattle.dlk_readback.proofs.Told.{said, behind, said-append, TellsTree, Back, listed}
use Rattle.dlk_readback.proofs.Back.{back}
use Rattle.dlk_readback.proofs.Neighbours.{Fine, end_fine, alone_fine, space_fine}
use Rattle.dlk_readback.proofs.Apart.{Apart, KidApart, apart, joined_apart, same_apart}
use Rattle.dlk_readback.proofs.Calm.{moves-append, moves_more, no_moves, flat_moves}
use Rattle.dlk_readback.proofs.Tame.{Even, refused_clean, shown_even, joined_level}
use Rattle.dlk_readback.proofs.Whole.{lexemes-said, calm_tokens, is_read}

-- what is known of each formula of the sequent
record Known (t : Tree) : Type 0 where
  pub back : Back Formula t
  pub apart : KidApart Formula t
  pub even : Even Refused 1000 (shown t)
  pub small : size t ≤ most_nodes
  pub shallow : depth t ≤ greatest_depth

known : (t : Tree) → IsFormula t → IsWithinLimits t → Known t
known t f l = record {
  back = subst (λ (s : Sort). Back s t) f.sort_is (back t f.well_made);
  apart = subst (λ (s : Sort). KidApart s t) f.sort_is (apart t f.well_made);
  even = moves_more (shown t) l.shallow (shown_even Refused t f.well_made (refused_clean t f.no_dot f.no_hole));
  small = l.small;
  shallow = l.shallow;
}

all_known : (ts : List Tree) → All IsFormula ts → All IsWithinLimits ts → Each Known ts
all_known [] f l = tt
all_known (t ∷ ts) f l = (
  known t (All-head IsFormula t ts f) (All-head IsWithinLimits t ts l),
  all_known ts (All-tail IsFormula t ts f) (All-tail IsWithinLimits t ts l),
)

abbrev comma : List Piece
comma = the_mark mark.Comma ∷ space ∷ []

-- what a side says
record SideTold (s : List Lexeme) (ts : List Tree) : Type 0 where
  pub phrases : Phrases
  pub reads : ReadsSide s phrases
  pub erased : erase_all phrases ≡ ts
  pub no_ills : ills_of_all phrases ≡ []

formulas_told : (n : ℕ) (t : Tree) (ts : List Tree) → Each Known (t ∷ ts) → SideTold (said n (formulas (t ∷ ts))) (t ∷ ts)
formulas_told n t ts all =
    let d = listed {f = formula} shown comma (λ i. refl) n t ts (each_map Known (λ u. TellsTree formula (shown u) u) (t ∷ ts) (λ u k. k.back 1) all) in
    record { phrases = d.phrases; reads = side-list d.reads; erased = d.erased; no_ills = d.no_ills }

left_told : (n : ℕ) (ts : List Tree) → Each Known ts → SideTold (said n (left_side ts)) ts
left_told n [] all = record { phrases = none; reads = side-nothing; erased = refl; no_ills = refl }
left_told n (t ∷ ts) all = subst (λ (l : List Lexeme). SideTold l (t ∷ ts))
    (sym (said-append n (formulas (t ∷ ts)) (space ∷ []) ∙ append-nil (said n (formulas (t ∷ ts))))) (formulas_told n t ts all)

right_told : (n : ℕ) (ts : List Tree) → Each Known ts → SideTold (said n (right_side ts)) ts
right_told n [] all = record { phrases = none; reads = side-nothing; erased = refl; no_ills = refl }
right_told n (t ∷ ts) all = formulas_told n t ts all

-- the bytes of a side are its tokens
texts_apart : (ts : List Tree) → Each Known ts → Each (Apart Formula) (texts_of ts)
texts_apart [] all = tt
texts_apart (t ∷ ts) all = (all.0.apart 1, texts_apart ts all.1)

formulas_apart : (t : Tree) (ts : List Tree) → Each Known (t ∷ ts) → Apart Formula (formulas (t ∷ ts))
formulas_apart t ts all = same_apart (sym (joined-texts comma (t ∷ ts)))
    (joined_apart Formula comma (λ p d f. alone_fine mark.Comma _ refl (space_fine p f)) (λ p d. refl) (shown t) (texts_of ts) (texts_apart (t ∷ ts) all))

left_fine : (ts : List Tree) (p : List Piece) → Each Known ts → Fine p → Fine (left_side ts ++ p)
left_fine [] p all f = f
left_fine (t ∷ ts) p all f = subst Fine (sym (append_assoc (formulas (t ∷ ts)) (space ∷ []) p))
    ((formulas_apart t ts all).fine (space ∷ p) (space_fine p f) refl)

right_fine : (ts : List Tree) → Each Known ts → Fine (right_side ts)
right_fine [] all = end_fine
right_fine (t ∷ ts) all = space_fine (formulas (t ∷ ts)) (subst Fine (append-nil (formulas (t ∷ ts))) ((formulas_apart t ts all).fine [] end_fine refl))

-- the tokens of a side have no fault
texts_even : (ts : List Tree) → Each Known ts → Each (Even Refused 1000) (texts_of ts)
texts_even [] all = tt
texts_even (t ∷ ts) all = (all.0.even, texts_even ts all.1)

formulas_even : (ts : List Tree) → Each Known ts → Even Refused 1000 (formulas ts)
formulas_even ts all = subst (Even Refused 1000) (joined-texts comma ts)
    (joined_level Refused 1000 0 (omega arith) comma (texts_of ts) refl (texts_even ts all))

left_even : (ts : List Tree) → Each Known ts → Even Refused 1000 (left_side ts)
left_even [] all = no_moves
left_even (t ∷ ts) all = moves-append (formulas (t ∷ ts)) (space ∷ []) (formulas_even (t ∷ ts) all) (flat_moves (space ∷ []) (omega arith) refl)

right_even : (ts : List Tree) → Each Known ts → Even Refused 1000 (right_side ts)
right_even [] all = no_moves
right_even (t ∷ ts) all = moves-append (space ∷ []) (formulas (t ∷ ts)) (flat_moves (space ∷ []) (omega arith) refl) (formulas_even (t ∷ ts) all)

-- the trees of phrases, and where they are of ill shape
phrases-erased : (l : Phrases) → map erase (phrases_in l) ≡ erase_all l
phrases-erased none = refl
phrases-erased (snoc l p) = map-append erase (phrases_in l) (p ∷ []) ∙ ap (λ (ts : List Tree). ts ++ erase p ∷ []) (phrases-erased l)

phrases-ills : (l : Phrases) → flat_map ills (phrases_in l) ≡ ills_of_all l
phrases-ills none = refl
phrases-ills (snoc l p) = flat_map-append ills (phrases_in l) (p ∷ []) ∙ ap (λ (ns : List ℕ). flat_map ills (phrases_in l) ++ ns) (append-nil (ills p))
    ∙ ap (λ (ns : List ℕ). ns ++ ills p) (phrases-ills l)

each_append : (P : Tree → Type 0) (ts us : List Tree) → Each P ts → Each P us → Each P (ts ++ us)
each_append P [] us h g = g
each_append P (t ∷ ts) us h g = (h.0, each_append P ts us h.1 g)

pub sequent_text : (s : Sequent) → IsSequent s → All IsWithinLimits s.ante → All IsWithinLimits s.succ → SequentText (spell (shown_sequent s)) s
sequent_text s w l r =
    let left = all_known s.ante w.ante l in
    let right = all_known s.succ w.succ r in
    let front = left_side s.ante in
    let back = the_mark mark.Turnstile ∷ right_side s.succ in
    let f = (left_fine s.ante back left (alone_fine mark.Turnstile (right_side s.succ) refl (right_fine s.succ right))).at 0 in
    let even : Even Refused 1000 (front ++ back) =
    moves-append front back (left_even s.ante left)
    (moves-append (the_mark mark.Turnstile ∷ []) (right_side s.succ) (flat_moves (the_mark mark.Turnstile ∷ []) (omega arith) refl)
    (right_even s.succ right)) in
    let a = left_told 0 s.ante left in
    let b = right_told (behind 0 front + 1) s.succ right in
    let said-is : lexemes f.tokens ≡ said 0 front ++ Turnstile ∷ said (behind 0 front + 1) (right_side s.succ) = lexemes-said f ∙ said-append 0 front back in
    let trees : map erase (phrases_in a.phrases ++ phrases_in b.phrases) ≡ s.ante ++ s.succ = map-append erase (phrases_in a.phrases) (phrases_in b.phrases)
    ∙ ap (λ (ts : List Tree). ts ++ map erase (phrases_in b.phrases)) (phrases-erased a.phrases ∙ a.erased)
    ∙ ap (λ (ts : List Tree). s.ante ++ ts) (phrases-erased b.phrases ∙ b.erased) in
    let no_ills : flat_map ills (phrases_in a.phrases ++ phrases_in b.phrases) ≡ [] = flat_map-append ills (phrases_in a.phrases) (phrases_in b.phrases)
    ∙ ap (λ (ns : List ℕ). ns ++ flat_map ills (phrases_in b.phrases)) (phrases-ills a.phrases ∙ a.no_ills) ∙ phrases-ills b.phrases ∙ b.no_ills in
    record {
      tokens = f.tokens;
      splits = f.splits;
      reads = is_read ReadsSequent both_sides Refused f.tokens erase_sides (one_sides_read (lexemes f.tokens)) (Turned a.phrases b.phrases) s
          (subst (λ (k : List Lexeme). ReadsSequent k (Turned a.phrases b.phrases)) (sym said-is) (sequent-sides a.reads b.reads))
          (λ i. record { ante = a.erased i; succ = b.erased i })
          (calm_tokens Refused 1000 (omega arith) even f) no_ills
          (subst (Each (λ t. size t ≤ most_nodes)) (sym trees)
          (each_append (λ t. size t ≤ most_nodes) s.ante s.succ (each_map Known (λ t. size t ≤ most_nodes) s.ante (λ t k. k.small) left)
          (each_map Known (λ t. size t ≤ most_nodes) s.succ (λ t k. k.small) right)))
          (subst (Each (λ t. depth t ≤ greatest_depth)) (sym trees)
          (each_append (λ t. depth t ≤ greatest_depth) s.ante s.succ (each_map Known (λ t. depth t ≤ greatest_depth) s.ante (λ t k. k.shallow) left)
          (each_map Known (λ t. depth t ≤ greatest_depth) s.succ (λ t k. k.shallow) right)));
    }
