-- The canonical text of a substitution is read back.
use Rattle.std.proofs.Common.{◌≡◌, ℕ, ◌+◌, ◌≤◌, Bool, true, false, ◌&&◌, cond, All, List, [], ◌∷◌, ◌++◌, map, flat_map, Option, Some, None, codes}
use Rattle.std.proofs.Common.{refl, sym, ap, subst, subst₂, ◌∙◌, append_assoc, append-nil, arith}
use Rattle.std.proofs.lemmas.Bool.{and_parts}
use Rattle.std.proofs.lemmas.Grind.{flat_map-append}
use Rattle.std.proofs.lemmas.List.{map-append}
use Rattle.std.proofs.lemmas.List.Elements.{All-head, All-tail}
use Rattle.dlk_tree.specs.declared.op.Kind.{Kind}
use Rattle.dlk_tree.specs.declared.op.Kind.TheVariants.{Func, UnitFunc, Pred, UnitPred, Quant, Prog, Ode}
use Rattle.dlk_tree.specs.declared.op.Sort.{Sort}
use Rattle.dlk_tree.specs.declared.op.Sort.TheVariants.{Term, Formula, Program}
use Rattle.dlk_tree.specs.declared.op.Sym.{Sym}
use Rattle.dlk_tree.specs.Tests.{sort_eq}
use Rattle.dlk_tree.specs.Table.{is_sym_of}
use Rattle.dlk_tree.specs.Trees.{Tree, size, depth, sort as sort_in, WellMade}
use Rattle.dlk_calculus.specs.Pairs.{Pair, is_system_without_domain, is_of_kind}
use Rattle.dlk_grammar.specs.declared.token.Mark.TheVariants as mark
use Rattle.dlk_grammar.specs.declared.token.Dots.TheVariants.{Allowed}
use Rattle.dlk_grammar.specs.Lexemes.{Lexeme, Comma, Becomes, lexemes}
use Rattle.dlk_grammar.specs.Phrases.{System, Truth, Everywhere, Except}
use Rattle.dlk_grammar.specs.Grammar.{formula, term, prog}
use Rattle.dlk_grammar.specs.Erased.{erase, ills, symbol}
use Rattle.dlk_calculus.specs.Limits.{most_nodes, greatest_depth}
use Rattle.dlk_grammar.specs.Substitutions.{function, predicate, PairPhrase, to, ReadsPair, pair-formula, pair-term, pair-function, pair-context}
use Rattle.dlk_grammar.specs.Substitutions.{pair-program, pair-flow, pair-flow-except, ReadsPairs, pairs-one, pairs-more, ReadsSubstitution}
use Rattle.dlk_grammar.specs.Substitutions.{subst-nothing, subst-pairs, replacements, erase_pairs}
use Rattle.dlk_grammar.specs.Texts.{PairsText}
use Rattle.dlk_grammar.specs.Shown.{Piece, space, mark as the_mark, word, spell, shown, ode_brackets}
use Rattle.dlk_grammar.specs.Symbols.{shown_as, is_function, is_formula_too, shown_pair, shown_pairs}
use Rattle.dlk_machine.proofs.ParseLaws.{one_pairs_read}
use Rattle.dlk_readback.specs.Readable.{IsReadablePair}
use Rattle.dlk_readback.proofs.Ambiguous.{no_formula}
use Rattle.dlk_readback.proofs.Climb.{form_at}
use Rattle.dlk_readback.proofs.Kids.{Each, comma}
use Rattle.dlk_readback.proofs.Told.{said, behind, said-append, TellsTree}
use Rattle.dlk_readback.proofs.Symbols.{space_of, bare_symbol, unit_symbol}
use Rattle.dlk_readback.proofs.Back.{back}
use Rattle.dlk_readback.proofs.Lefts.{Left, func_left, pred_left, unit_func_left, unit_pred_left, of_kind, left_fine, left_even}
use Rattle.dlk_readback.proofs.Flows.{flow_told}
use Rattle.dlk_readback.proofs.Neighbours.{Fine, end_fine, alone_fine, space_fine, name_fine, Ends}
use Rattle.dlk_readback.proofs.Apart.{apart, stops_any}
use Rattle.dlk_readback.proofs.Calm.{moves-append, moves_more, no_moves, flat_moves}
use Rattle.dlk_readback.proofs.Tame.{Even, allowed_clean, shown_even}
use Rattle.dlk_readback.proofs.Whole.{lexemes-said, calm_tokens, is_read}

-- the text of a pair, by the kind of its symbol
abbrev pair_text : Kind → Sym → Tree → List Piece
pair_text k s t = cond (is_function k && is_formula_too t) (word (codes "term") ∷ space ∷ []) [] ++ (shown_as k s ++ the_mark mark.Becomes ∷ shown t)

-- the lexemes are a pair
record PairTold (s : List Lexeme) (x : Sym) (t : Tree) : Type 0 where
  pub phrase : PairPhrase
  pub reads : ReadsPair s phrase
  pub symbol_is : phrase.sym ≡ x
  pub erased : erase phrase.by ≡ t
  pub no_ills : ills phrase.by ≡ []

-- a left side, the arrow, and a tree
beyond : ℕ → Kind → Sym → ℕ
beyond n k x = behind n (shown_as k x) + 1

said-pair : (n : ℕ) (k : Kind) (x : Sym) (t : Tree) →
    said n (shown_as k x ++ the_mark mark.Becomes ∷ shown t) ≡ said n (shown_as k x) ++ Becomes ∷ said (beyond n k x) (shown t)
unfolding beyond
said-pair n k x t = said-append n (shown_as k x) (the_mark mark.Becomes ∷ shown t)

function_told : (n : ℕ) (k : Kind) (x : Sym) (t : Tree) → is_function k ≡ true → Left function k x → TellsTree term (shown t) t →
    PairTold (said n (pair_text k x t)) x t
function_told n k x t f left d = rw f (go (is_formula_too t) refl)
  where
    go : (b : Bool) → is_formula_too t ≡ b →
        PairTold (said n (cond b (word (codes "term") ∷ space ∷ []) [] ++ (shown_as k x ++ the_mark mark.Becomes ∷ shown t))) x t
    go true e =
        let r = d (beyond (n + 1) k x) in
        rw (said-pair (n + 1) k x t) (record {
          phrase = to (function left.target) r.phrase;
          reads =
              pair-function refl (left.reads (n + 1)) r.reads;
          symbol_is = left.symbol_is;
          erased = r.erased;
          no_ills = r.no_ills;
        })
    go false e =
        let r = d (beyond n k x) in
        rw (said-pair n k x t) (record {
          phrase = to (function left.target) r.phrase;
          reads = pair-term (left.reads n) r.reads (no_formula (said (beyond n k x) (shown t)) r.phrase r.reads (ap is_formula_too r.erased ∙ e));
          symbol_is = left.symbol_is;
          erased = r.erased;
          no_ills = r.no_ills;
        })

predicate_told : (n : ℕ) (k : Kind) (x : Sym) (t : Tree) → is_function k ≡ false → Left predicate k x → TellsTree formula (shown t) t →
    PairTold (said n (pair_text k x t)) x t
predicate_told n k x t f left d =
    let r = d (beyond n k x) in
    rw (f, said-pair n k x t) (record {
      phrase = to (predicate left.target) r.phrase;
      reads = pair-formula (left.reads n) r.reads;
      symbol_is =
          left.symbol_is;
      erased = r.erased;
      no_ills = r.no_ills;
    })

context_told : (n : ℕ) (x : Sym) (t : Tree) → is_sym_of Quant x ≡ true → TellsTree formula (shown t) t → PairTold (said n (pair_text Quant x t)) x t
context_told n x t h d =
    let r = d (n + 1 + 1 + 1 + 1 + 1) in
    record {
      phrase = to (symbol Quant x.name 0 Everywhere) r.phrase;
      reads = pair-context r.reads;
      symbol_is =
          bare_symbol Quant x h (λ m. refl) refl;
      erased = r.erased;
      no_ills = r.no_ills;
    }

program_told : (n : ℕ) (x : Sym) (t : Tree) → is_sym_of Prog x ≡ true → TellsTree prog (shown t) t → PairTold (said n (pair_text Prog x t)) x t
program_told n x t h d =
    let r = d (n + 1 + 1 + 1) in
    record {
      phrase = to (symbol Prog x.name 0 Everywhere) r.phrase;
      reads = pair-program r.reads;
      symbol_is = bare_symbol Prog x h (λ m. refl) refl;
      erased =
          r.erased;
      no_ills = r.no_ills;
    }

ode_told : (n : ℕ) (x : Sym) (t : Tree) → is_sym_of Ode x ≡ true → is_system_without_domain t ≡ true → WellMade t → PairTold (said n (pair_text Ode x t)) x t
ode_told n x t h f w = go n x.name x.taboo (unit_symbol Ode x h (λ m. refl))
  where
    go : (n : ℕ) (name : List ℕ) (taboo : Option (List ℕ)) → symbol Ode name 0 (space_of taboo) ≡ x →
        PairTold (said n ((the_mark mark.OpenBrace ∷ word name ∷ (ode_brackets taboo ++ the_mark mark.CloseBrace ∷ [])) ++ the_mark mark.Becomes ∷ shown t)) x t
    go n name None e =
        let r = flow_told (n + 1 + 1 + 1 + 1) t w f in
        rw r.said_is (record {
          phrase = to (symbol Ode name 0 Everywhere) (System (n + 1 + 1 + 1 + 1) r.items Truth);
          reads = pair-flow r.reads;
          symbol_is =
              e;
          erased = r.erased;
          no_ills = r.no_ills;
        })
    go n name (Some y) e =
        let m = n + 1 + 1 + 1 + 1 + 1 + 1 + 1 in
        let r = flow_told m t w f in
        rw r.said_is (record {
          phrase = to (symbol Ode name 0 (Except y)) (System m r.items Truth);
          reads = pair-flow-except r.reads;
          symbol_is = e;
          erased =
              r.erased;
          no_ills = r.no_ills;
        })

-- what is said of the sorts
same_sort : (s r : Sort) → sort_eq s r ≡ true → s ≡ r
same_sort Term Term h = refl
same_sort Formula Formula h = refl
same_sort Program Program h = refl
same_sort _ _ h = absurd cc

-- the text of a tree of the sort says it
tells : (s : Sort) (t : Tree) → WellMade t → sort_in t ≡ s → TellsTree (form_at s 1) (shown t) t
tells s t w e = subst (λ (u : Sort). TellsTree (form_at u 1) (shown t) t) e (back t w 1)

by_kind : (n : ℕ) (k : Kind) (x : Sym) (t : Tree) → is_sym_of k x ≡ true → is_of_kind k t ≡ true → WellMade t → PairTold (said n (pair_text k x t)) x t
by_kind n Func x t h f w = function_told n Func x t refl (func_left x h) (tells Term t w (same_sort (sort_in t) Term f))
by_kind n UnitFunc x t h f w = function_told n UnitFunc x t refl (unit_func_left x h) (tells Term t w (same_sort (sort_in t) Term f))
by_kind n Pred x t h f w = predicate_told n Pred x t refl (pred_left x h) (tells Formula t w (same_sort (sort_in t) Formula f))
by_kind n UnitPred x t h f w = predicate_told n UnitPred x t refl (unit_pred_left x h) (tells Formula t w (same_sort (sort_in t) Formula f))
by_kind n Quant x t h f w = context_told n x t h (tells Formula t w (same_sort (sort_in t) Formula f))
by_kind n Prog x t h f w = program_told n x t h (tells Program t w (same_sort (sort_in t) Program f))
by_kind n Ode x t h f w = ode_told n x t h (and_parts (is_system_without_domain t) (sort_eq (sort_in t) Program) f).0 w

pair_told : (n : ℕ) (p : Pair) → IsReadablePair p → PairTold (said n (shown_pair p)) p.sym p.by
pair_told n p r = by_kind n p.sym.kind p.sym p.by (of_kind p.sym.kind p.sym refl r.is_symbol) r.is_replacement r.well_made

-- the lexemes are pairs
record PairsTold (s : List Lexeme) (pairs : List Pair) : Type 0 where
  pub phrases : List PairPhrase
  pub reads : ReadsPairs s phrases
  pub pairs_are : erase_pairs phrases ≡ pairs
  pub no_ills : flat_map ills (replacements phrases) ≡ []

-- the pair that a phrase stands for
erase_pair : PairPhrase → Pair
erase_pair p = record { sym = p.sym; by = erase p.by }

pair_is : {s : List Lexeme} {p : Pair} → (d : PairTold s p.sym p.by) → erase_pair d.phrase ≡ p
unfolding erase_pair
pair_is d = λ i. record { sym = d.symbol_is i; by = d.erased i }

one_pair : {s : List Lexeme} {p : Pair} → PairTold s p.sym p.by → PairsTold s (p ∷ [])
unfolding erase_pair
one_pair {p = p} d = record {
  phrases = d.phrase ∷ [];
  reads = pairs-one d.reads;
  pairs_are = ap (λ (q : Pair). q ∷ []) (pair_is {p = p} d);
  no_ills = ap (λ (l : List ℕ). l ++ []) d.no_ills;
}

more_pairs : {s r : List Lexeme} {pairs : List Pair} {p : Pair} → PairsTold s pairs → PairTold r p.sym p.by → PairsTold (s ++ Comma ∷ r) (pairs ++ p ∷ [])
unfolding erase_pair
more_pairs {pairs = pairs} {p = p} d e = record {
  phrases = d.phrases ++ e.phrase ∷ [];
  reads = pairs-more d.reads e.reads;
  pairs_are = map-append erase_pair d.phrases (e.phrase ∷ []) ∙ ap (λ (l : List Pair). l ++ erase_pair e.phrase ∷ []) d.pairs_are
      ∙ ap (λ (q : Pair). pairs ++ q ∷ []) (pair_is {p = p} e);
  no_ills = ap (flat_map ills) (map-append (λ (q : PairPhrase). q.by) d.phrases (e.phrase ∷ []))
      ∙ flat_map-append ills (replacements d.phrases) (e.phrase.by ∷ [])
      ∙ ap (λ (l : List ℕ). l ++ (ills e.phrase.by ++ [])) d.no_ills ∙ ap (λ (l : List ℕ). l ++ []) e.no_ills;
}

-- the pairs behind those that are told
later_pairs : (n : ℕ) (s : List Lexeme) (done pairs : List Pair) → Each IsReadablePair pairs → PairsTold s done →
    PairsTold (s ++ said n (flat_map (λ p. comma ++ shown_pair p) pairs)) (done ++ pairs)
later_pairs n s done [] all d = rw (append-nil s, append-nil done) d
later_pairs n s done (p ∷ pairs) all d =
    let text = shown_pair p in
    let more = flat_map (λ q. comma ++ shown_pair q) pairs in
    let next = later_pairs (behind (n + 1) text) (s ++ Comma ∷ said (n + 1) text) (done ++ p ∷ []) pairs all.1
    (more_pairs {p = p} d (pair_told (n + 1) p all.0)) in
    rw (said-append (n + 1) text more) (subst₂ (λ (l : List Lexeme) (ps : List Pair). PairsTold l ps)
    (append_assoc s (Comma ∷ said (n + 1) text) (said (behind (n + 1) text) more)) (append_assoc done (p ∷ []) pairs) next)

-- the lexemes are a substitution
record SubstitutionTold (s : List Lexeme) (pairs : List Pair) : Type 0 where
  pub phrases : List PairPhrase
  pub reads : ReadsSubstitution s phrases
  pub pairs_are : erase_pairs phrases ≡ pairs
  pub no_ills : flat_map ills (replacements phrases) ≡ []

pairs_told : (n : ℕ) (pairs : List Pair) → Each IsReadablePair pairs → SubstitutionTold (said n (shown_pairs pairs)) pairs
pairs_told n [] all = record { phrases = []; reads = subst-nothing; pairs_are = refl; no_ills = refl }
pairs_told n (p ∷ pairs) all =
    let text = shown_pair p in
    let more = flat_map (λ q. comma ++ shown_pair q) pairs in
    let d : PairsTold (said n (text ++ more)) (p ∷ pairs) =
    rw (said-append n text more) (later_pairs (behind n text) (said n text) (p ∷ []) pairs all.1 (one_pair {p = p} (pair_told n p all.0))) in
    record { phrases = d.phrases; reads = subst-pairs d.reads; pairs_are = d.pairs_are; no_ills = d.no_ills }

-- the bytes of a pair are its tokens
pair_fine : (p : Pair) → IsReadablePair p → (q : List Piece) → Ends q → Fine q → Fine (shown_pair p ++ q)
pair_fine p r q ends f = go (is_function p.sym.kind && is_formula_too p.by)
  where
    rest : Fine ((shown_as p.sym.kind p.sym ++ the_mark mark.Becomes ∷ shown p.by) ++ q)
    rest = rw (append_assoc (shown_as p.sym.kind p.sym) (the_mark mark.Becomes ∷ shown p.by) q)
        (left_fine p.sym.kind p.sym (of_kind p.sym.kind p.sym refl r.is_symbol) _
        (alone_fine mark.Becomes _ refl ((apart p.by r.well_made 1).fine q f (stops_any (sort_in p.by) q ends))))

    go : (b : Bool) → Fine ((cond b (word (codes "term") ∷ space ∷ []) [] ++ (shown_as p.sym.kind p.sym ++ the_mark mark.Becomes ∷ shown p.by)) ++ q)
    go true = name_fine (codes "term") _ refl refl (space_fine _ rest)
    go false = rest

later_fine : (pairs : List Pair) → Each IsReadablePair pairs →
    Ends (flat_map (λ q. comma ++ shown_pair q) pairs) × Fine (flat_map (λ q. comma ++ shown_pair q) pairs)
later_fine [] all = (refl, end_fine)
later_fine (p ∷ pairs) all = let w = later_fine pairs all.1 in (refl, alone_fine mark.Comma _ refl (pair_fine p all.0 _ w.0 w.1))

pairs_fine : (pairs : List Pair) → Each IsReadablePair pairs → Fine (shown_pairs pairs)
pairs_fine [] all = end_fine
pairs_fine (p ∷ pairs) all = let w = later_fine pairs all.1 in pair_fine p all.0 _ w.0 w.1

-- the tokens of a pair have no fault
pair_even : (p : Pair) → IsReadablePair p → Even Allowed 1000 (shown_pair p)
pair_even p r = go (is_function p.sym.kind && is_formula_too p.by)
  where
    rest : Even Allowed 1000 (shown_as p.sym.kind p.sym ++ the_mark mark.Becomes ∷ shown p.by)
    rest = moves-append (shown_as p.sym.kind p.sym) (the_mark mark.Becomes ∷ shown p.by)
        (moves_more (shown_as p.sym.kind p.sym) (omega arith) (left_even p.sym.kind p.sym))
        (moves-append (the_mark mark.Becomes ∷ []) (shown p.by) (flat_moves (the_mark mark.Becomes ∷ []) (omega arith) refl)
        (moves_more (shown p.by) r.limits.shallow (shown_even Allowed p.by r.well_made (allowed_clean p.by))))

    go : (b : Bool) → Even Allowed 1000 (cond b (word (codes "term") ∷ space ∷ []) [] ++ (shown_as p.sym.kind p.sym ++ the_mark mark.Becomes ∷ shown p.by))
    go true = moves-append (word (codes "term") ∷ space ∷ []) (shown_as p.sym.kind p.sym ++ the_mark mark.Becomes ∷ shown p.by)
        (flat_moves (word (codes "term") ∷ space ∷ []) (omega arith) refl) rest
    go false = rest

later_even : (pairs : List Pair) → Each IsReadablePair pairs → Even Allowed 1000 (flat_map (λ q. comma ++ shown_pair q) pairs)
later_even [] all = no_moves
later_even (p ∷ pairs) all = moves-append (comma ++ shown_pair p) (flat_map (λ q. comma ++ shown_pair q) pairs)
    (moves-append comma (shown_pair p) (flat_moves comma (omega arith) refl) (pair_even p all.0)) (later_even pairs all.1)

pairs_even : (pairs : List Pair) → Each IsReadablePair pairs → Even Allowed 1000 (shown_pairs pairs)
pairs_even [] all = no_moves
pairs_even (p ∷ pairs) all = moves-append (shown_pair p) (flat_map (λ q. comma ++ shown_pair q) pairs) (pair_even p all.0) (later_even pairs all.1)

-- the trees of phrases are the replacements
replacements-erased : (l : List PairPhrase) → map erase (replacements l) ≡ map (λ (p : Pair). p.by) (erase_pairs l)
replacements-erased [] = refl
replacements-erased (p ∷ l) = ap (λ (ts : List Tree). erase p.by ∷ ts) (replacements-erased l)

each_by : (P : Tree → Type 0) (pairs : List Pair) → ((p : Pair) → IsReadablePair p → P p.by) → Each IsReadablePair pairs →
    Each P (map (λ (p : Pair). p.by) pairs)
each_by P [] h all = tt
each_by P (p ∷ pairs) h all = (h p all.0, each_by P pairs h all.1)

each_pair : (pairs : List Pair) → All IsReadablePair pairs → Each IsReadablePair pairs
each_pair [] all = tt
each_pair (p ∷ pairs) all = (All-head IsReadablePair p pairs all, each_pair pairs (All-tail IsReadablePair p pairs all))

pub pairs_text : (pairs : List Pair) → All IsReadablePair pairs → PairsText (spell (shown_pairs pairs)) pairs
pairs_text pairs given =
    let all = each_pair pairs given in
    let f = (pairs_fine pairs all).at 0 in
    let d = pairs_told 0 pairs all in
    let trees : map erase (replacements d.phrases) ≡ map (λ (p : Pair). p.by) pairs = replacements-erased d.phrases
    ∙ ap (map (λ (p : Pair). p.by)) d.pairs_are in
    record {
      tokens = f.tokens;
      splits = f.splits;
      reads = is_read ReadsSubstitution replacements Allowed f.tokens erase_pairs (one_pairs_read (lexemes f.tokens)) d.phrases pairs
          (subst (λ (k : List Lexeme). ReadsSubstitution k d.phrases) (sym (lexemes-said f)) d.reads)
          d.pairs_are
          (calm_tokens Allowed 1000 (omega arith) (pairs_even pairs all) f) d.no_ills
          (subst (Each (λ t. size t ≤ most_nodes)) (sym trees) (each_by (λ t. size t ≤ most_nodes) pairs (λ p r. r.limits.small) all))
          (subst (Each (λ t. depth t ≤ greatest_depth)) (sym trees) (each_by (λ t. depth t ≤ greatest_depth) pairs (λ p r. r.limits.shallow) all));
    }
