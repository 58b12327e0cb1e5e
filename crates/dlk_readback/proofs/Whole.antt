-- Canonical text is read back, with no fault.
use Rattle.std.proofs.Common.{◌≡◌, ℕ, ◌+◌, ◌≤◌, false, List, [], ◌∷◌, ◌++◌, map, flat_map, Some, None, refl, sym, ap, subst, ◌∙◌, arith, lit≤}
use Rattle.dlk_tree.specs.declared.op.Sort.{Sort}
use Rattle.dlk_tree.specs.declared.op.Sort.TheVariants as sort
use Rattle.dlk_tree.specs.Trees.{Tree, size, depth, sort as sort_in}
use Rattle.dlk_grammar.specs.declared.token.Token.{Token}
use Rattle.dlk_grammar.specs.declared.token.TokenKind.{TokenKind}
use Rattle.dlk_grammar.specs.declared.token.TokenKind.TheVariants.{End}
use Rattle.dlk_grammar.specs.declared.token.Dots.{Dots}
use Rattle.dlk_grammar.specs.declared.token.Dots.TheVariants.{Refused, Allowed}
use Rattle.dlk_grammar.specs.declared.token.Form.{Form}
use Rattle.dlk_grammar.specs.declared.token.Form.TheVariants.{Formula, Term, Program, Expression}
use Rattle.dlk_grammar.specs.Lexemes.{Lexeme, lexeme_of, lexemes_from, lexemes}
use Rattle.dlk_grammar.specs.Phrases.{Phrase}
use Rattle.dlk_grammar.specs.Grammar.{formula, term, prog, Reads, as-formula, as-program, as-term}
use Rattle.dlk_grammar.specs.Erased.{erase, ills, lowest}
use Rattle.dlk_calculus.specs.Limits.{most_nodes, greatest_depth}
use Rattle.dlk_grammar.specs.Readings.{Says, SpeaksAgainst, Literal, Nesting, Syntax, Shape, TooBig, TooDeep, ReadFault, FirstPast, IsRead, grammar, itself}
use Rattle.dlk_grammar.specs.Texts.{TreeText}
use Rattle.dlk_grammar.specs.Shown.{Piece, one, space, spell, shown}
use Rattle.dlk_grammar.specs.Symbols.{is_formula_too}
use Rattle.dlk_machine.proofs.Stopping.{said_nowhere}
use Rattle.dlk_machine.proofs.ParseLaws.{one_read, one_expression_read}
use Rattle.dlk_readback.specs.Readable.{form_of, HasNoneRefused, IsReadable}
use Rattle.dlk_readback.proofs.Ambiguous.{no_formula}
use Rattle.dlk_readback.proofs.Climb.{form_at}
use Rattle.dlk_readback.proofs.Kids.{Each}
use Rattle.dlk_readback.proofs.Told.{said, Told}
use Rattle.dlk_readback.proofs.Back.{back}
use Rattle.dlk_readback.proofs.Neighbours.{kinds, TokensAt}
use Rattle.dlk_readback.proofs.Apart.{shown_fine}
use Rattle.dlk_readback.proofs.Calm.{Calm, calm-append, no_literal, no_nesting, all_permitted}
use Rattle.dlk_readback.proofs.Tame.{Even, IsClean, allowed_clean, refused_clean, shown_even}

-- the lexemes of kinds
abbrev lexemes_of : ℕ → List TokenKind → List Lexeme
lexemes_of n [] = []
lexemes_of n (k ∷ ks) = lexeme_of n k ++ lexemes_of (n + 1) ks

by_kinds : (n : ℕ) (tokens : List Token) → lexemes_from n tokens ≡ lexemes_of n (map (λ t. t.kind) tokens)
by_kinds n [] = refl
by_kinds n (t ∷ tokens) = ap (λ (l : List Lexeme). lexeme_of n t.kind ++ l) (by_kinds (n + 1) tokens)

said-kinds : (n : ℕ) (p : List Piece) → lexemes_of n (kinds p ++ End ∷ []) ≡ said n p
said-kinds n [] = refl
said-kinds n (one k ∷ p) = ap (λ (l : List Lexeme). lexeme_of n k ++ l) (said-kinds (n + 1) p)
said-kinds n (space ∷ p) = said-kinds n p

-- the lexemes of a text's tokens are what it says
pub lexemes-said : {p : List Piece} (d : TokensAt 0 p) → lexemes d.tokens ≡ said 0 p
lexemes-said {p} d = by_kinds 0 d.tokens ∙ ap (lexemes_of 0) d.kinds_are ∙ said-kinds 0 p

-- the tokens of a text that needs few levels have no fault
pub calm_tokens : {p : List Piece} (d : Dots) (most : ℕ) → most ≤ 1200 → Even d most p → (t : TokensAt 0 p) → Calm d 0 (map (λ t. t.kind) t.tokens)
calm_tokens {p} d most le even t =
    let w = even.go 0 0 refl (omega arith) in
    let last : 0 + 0 ≤ 1200 = lit≤ tt in
    subst (Calm d 0) (sym t.kinds_are) (calm-append d 0 (kinds p) (End ∷ []) w.0 (refl, subst (λ (n : ℕ). n ≤ 1200) (sym w.1) last, tt))

-- none of the trees passes a limit
none_past : (measure : Tree → ℕ) (limit : ℕ) (before behind : List Tree) (t : Tree) → Each (λ u. measure u ≤ limit) (before ++ t ∷ behind) → measure t ≤ limit
none_past measure limit [] behind t all = all.0
none_past measure limit (u ∷ before) behind t all = none_past measure limit before behind t all.1

module _ {P R : Type 0} (G : List Lexeme → P → Type 0) (parts : P → List Phrase) (d : Dots) (tokens : List Token) (value : P → R) where
  -- a text without a fault
  pub is_read : (unique : (p q : P) → G (lexemes tokens) p → G (lexemes tokens) q → p ≡ q) (phrase : P) (r : R) → G (lexemes tokens) phrase →
      value phrase ≡ r → Calm d 0 (map (λ t. t.kind) tokens)
      → flat_map ills (parts phrase) ≡ [] → Each (λ t. size t ≤ most_nodes) (map erase (parts phrase)) →
      Each (λ t. depth t ≤ greatest_depth) (map erase (parts phrase)) → IsRead G parts d tokens value r
  is_read unique phrase r reads value_is calm no_ills small shallow = record { phrase = phrase; says = says; value_is = value_is; no_fault = against }
    where
      says : Says d G (lexemes tokens) phrase
      says = record { reads = reads; permitted = all_permitted d 0 0 tokens calm }

      same : (p : P) → Says d G (lexemes tokens) p → p ≡ phrase
      same p s = unique p phrase s.reads reads

      past : (measure : Tree → ℕ) (limit n : ℕ) (p : P) → Each (λ t. measure t ≤ limit) (map erase (parts phrase)) → Says d G (lexemes tokens) p →
          FirstPast measure limit (map erase (parts p)) n → ⊥
      past measure limit n p all s f =
          let le = none_past measure limit f.before f.behind f.tree
          (subst (λ (ts : List Tree). Each (λ t. measure t ≤ limit) ts) (ap (λ (q : P). map erase (parts q)) (sym (same p s)) ∙ f.trees_are) all) in
          omega (arith, le, f.past)

      against : (why : ReadFault) → ¬ SpeaksAgainst G parts d tokens why
      against (Literal at) f = no_literal d tokens calm at f
      against (Nesting at) f = no_nesting d tokens calm at f
      against (Syntax at) f = said_nowhere d G phrase says f.1
      against (Shape at) f =
          let e : None ≡ Some f.2.0 = sym (ap lowest no_ills) ∙ sym (ap (λ (q : P). lowest (flat_map ills (parts q))) (same f.0 f.1)) ∙ f.2.1 in
          absurd cc
      against (TooBig n) f = past size most_nodes n f.0 small f.1 f.2
      against (TooDeep n) f = past depth greatest_depth n f.0 shallow f.1 f.2

-- a text of a sort is one of its form, and at most one phrase
as_goal : (s : Sort) {l : List Lexeme} {p : Phrase} → Reads (form_at s 1) l p → grammar (form_of s) l p
as_goal sort.Term r = r
as_goal sort.Formula r = r
as_goal sort.Program r = r

one_of_form : (form : Form) (l : List Lexeme) (p q : Phrase) → grammar form l p → grammar form l q → p ≡ q
one_of_form Term l p q r s = one_read term l p q r s
one_of_form Formula l p q r s = one_read formula l p q r s
one_of_form Program l p q r s = one_read prog l p q r s
one_of_form Expression l p q r s = one_expression_read l p q r s

-- where they are refused, nothing is
clean : (d : Dots) (t : Tree) → HasNoneRefused d t → IsClean d t
clean Refused t h = refused_clean t h.0 h.1
clean Allowed t h = allowed_clean t

module _ (d : Dots) (t : Tree) (r : IsReadable d t) where
  -- the text of the tree is read by a form for which what it says is a text
  text_of : (form : Form) → ((tokens : List Token) → (p : Phrase) → Reads (form_at (sort_in t) 1) (lexemes tokens) p → erase p ≡ t →
      grammar form (lexemes tokens) p) → TreeText form d (spell (shown t)) t
  text_of form read =
      let f = (shown_fine t r.well_made).at 0 in
      let told = subst (λ (l : List Lexeme). Told (form_at (sort_in t) 1) l t) (sym (lexemes-said f)) (back t r.well_made 1 0) in
      let calm = calm_tokens d (depth t) (omega (arith, r.limits.shallow)) (shown_even d t r.well_made (clean d t r.permitted)) f in
      record {
        tokens = f.tokens;
        splits = f.splits;
        reads = is_read (grammar form) itself d f.tokens erase (one_of_form form (lexemes f.tokens)) told.phrase t
            (read f.tokens told.phrase told.reads told.erased) told.erased calm
            (ap (λ (l : List ℕ). l ++ []) told.no_ills) (subst (λ (u : Tree). size u ≤ most_nodes) (sym told.erased) r.limits.small, tt)
            (subst (λ (u : Tree). depth u ≤ greatest_depth) (sym told.erased) r.limits.shallow, tt);
      }

  pub tree_text : TreeText (form_of (sort_in t)) d (spell (shown t)) t
  tree_text = text_of (form_of (sort_in t)) (λ tokens p h erased. as_goal (sort_in t) h)

  -- the tree is of this sort
  sorted : (s : Sort) → sort_in t ≡ s → {l : List Lexeme} {p : Phrase} → Reads (form_at (sort_in t) 1) l p → Reads (form_at s 1) l p
  sorted s e {l} {p} h = subst (λ (u : Sort). Reads (form_at u 1) l p) e h

  pub formula_text : sort_in t ≡ sort.Formula → TreeText Expression d (spell (shown t)) t
  formula_text e = text_of Expression (λ tokens p h erased. as-formula (sorted sort.Formula e h))

  pub program_text : sort_in t ≡ sort.Program → TreeText Expression d (spell (shown t)) t
  program_text e = text_of Expression (λ tokens p h erased. as-program (sorted sort.Program e h))

  pub term_text : sort_in t ≡ sort.Term → is_formula_too t ≡ false → TreeText Expression d (spell (shown t)) t
  term_text e other = text_of Expression (λ tokens p h erased.
      as-term (sorted sort.Term e h) (no_formula (lexemes tokens) p (sorted sort.Term e h) (ap is_formula_too erased ∙ other)))
