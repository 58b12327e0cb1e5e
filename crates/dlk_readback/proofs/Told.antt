-- What the tokens of a text say, wherever they stand.
use Rattle.std.proofs.Common.{◌≡◌, ℕ, ◌+◌, List, [], ◌∷◌, ◌++◌, flat_map, refl, sym, ap, subst, subst₂, ◌∙◌, append_assoc, append-nil}
use Rattle.std.specs.List.{join_by}
use Rattle.dlk_tree.specs.declared.op.Op.{Op}
use Rattle.dlk_tree.specs.declared.op.Sort.{Sort}
use Rattle.dlk_tree.specs.Trees.{Tree, node, no_kids, kid}
use Rattle.dlk_grammar.specs.Lexemes.{Lexeme, Comma, lexeme_of}
use Rattle.dlk_grammar.specs.Phrases.{Phrase, Phrases, none, snoc}
use Rattle.dlk_grammar.specs.Grammar.{Nonterminal, Reads, ReadsList, list-one, list-more}
use Rattle.dlk_grammar.specs.Erased.{erase, erase_all, ills, ills_of_all}
use Rattle.dlk_grammar.specs.Shown.{Piece, one, space, shown_at}
use Rattle.dlk_readback.proofs.Climb.{form_at}
use Rattle.dlk_readback.proofs.Kids.{Each}

-- the lexemes of a text whose first token is at place n
abbrev pub said : ℕ → List Piece → List Lexeme
said n [] = []
said n (one k ∷ ps) = lexeme_of n k ++ said (n + 1) ps
said n (space ∷ ps) = said n ps

-- the place behind a text that begins at place n
abbrev pub behind : ℕ → List Piece → ℕ
behind n [] = n
behind n (one k ∷ ps) = behind (n + 1) ps
behind n (space ∷ ps) = behind n ps

pub said-append : (n : ℕ) (x y : List Piece) → said n (x ++ y) ≡ said n x ++ said (behind n x) y
said-append n [] y = refl
said-append n (one k ∷ x) y = ap (λ (l : List Lexeme). lexeme_of n k ++ l) (said-append (n + 1) x y)
    ∙ sym (append_assoc (lexeme_of n k) (said (n + 1) x) (said (behind (n + 1) x) y))
said-append n (space ∷ x) y = said-append n x y

-- one kid
pub one_kid : (n : ℕ) (o x c : List Piece) → said n (o ++ ((x ++ []) ++ c)) ≡ said n o ++ (said (behind n o) x ++ said (behind (behind n o) x) c)
one_kid n o x c = rw (append-nil x, said-append n o (x ++ c), said-append (behind n o) x c) refl

-- one kid, and nothing behind it
pub last_kid : (n : ℕ) (o x : List Piece) → said n (o ++ ((x ++ []) ++ [])) ≡ said n o ++ said (behind n o) x
last_kid n o x = rw (append-nil x, append-nil x, said-append n o x) refl

-- two kids, and nothing behind them
pub two_kids : (n : ℕ) (o x m y : List Piece) →
    said n (o ++ ((x ++ ((m ++ y) ++ [])) ++ [])) ≡ said n o
    ++ (said (behind n o) x ++ (said (behind (behind n o) x) m ++ said (behind (behind (behind n o) x) m) y))
two_kids n o x m y = rw (
  append-nil (m ++ y),
  append-nil (x ++ (m ++ y)),
  said-append n o (x ++ (m ++ y)),
  said-append (behind n o) x (m ++ y),
  said-append (behind (behind n o) x) m y,
) refl

-- the lexemes are a text of the form, and the tree is what it says
pub record Told (f : Nonterminal) (s : List Lexeme) (t : Tree) : Type 0 where
  pub phrase : Phrase
  pub reads : Reads f s phrase
  pub erased : erase phrase ≡ t
  pub no_ills : ills phrase ≡ []

pub same_text : {f : Nonterminal} {s r : List Lexeme} {t : Tree} → s ≡ r → Told f r t → Told f s t
same_text {f} {s} {r} {t} e d = subst (λ (l : List Lexeme). Told f l t) (sym e) d

-- the same phrase as another text
pub same_told : {f g : Nonterminal} {s r : List Lexeme} {t : Tree} → ((p : Phrase) → Reads f s p → Reads g r p) → Told f s t → Told g r t
same_told make d = record { phrase = d.phrase; reads = make d.phrase d.reads; erased = d.erased; no_ills = d.no_ills }

-- a phrase of one phrase
pub one_told : {g f : Nonterminal} {s r : List Lexeme} {a : Tree} (c : Phrase → Phrase) (o : Op) → ((p : Phrase) → Reads g s p → Reads f r (c p)) →
    ((p : Phrase) → erase (c p) ≡ node o (kid (erase p) no_kids)) → ((p : Phrase) → ills (c p) ≡ ills p) → Told g s a → Told f r (node o (kid a no_kids))
one_told c o make erased ill d = record {
  phrase = c d.phrase;
  reads = make d.phrase d.reads;
  erased = erased d.phrase ∙ ap (λ (t : Tree). node o (kid t no_kids)) d.erased;
  no_ills = ill d.phrase ∙ d.no_ills;
}

-- a phrase of two
pub two_told : {g h f : Nonterminal} {s r l : List Lexeme} {a b : Tree} (c : Phrase → Phrase → Phrase) (o : Op) →
    ((p q : Phrase) → Reads g s p → Reads h r q → Reads f l (c p q)) → ((p q : Phrase) → erase (c p q) ≡ node o (kid (erase p) (kid (erase q) no_kids))) →
    ((p q : Phrase) → ills (c p q) ≡ ills p ++ ills q) → Told g s a → Told h r b → Told f l (node o (kid a (kid b no_kids)))
two_told {a = a} {b = b} c o make erased ill d e = record {
  phrase = c d.phrase e.phrase;
  reads = make d.phrase e.phrase d.reads e.reads;
  erased = erased d.phrase e.phrase ∙ ap (λ (t : Tree). node o (kid t (kid (erase e.phrase) no_kids))) d.erased
      ∙ ap (λ (t : Tree). node o (kid a (kid t no_kids))) e.erased;
  no_ills = ill d.phrase e.phrase ∙ ap (λ (l : List ℕ). l ++ ills e.phrase) d.no_ills ∙ e.no_ills;
}

-- the lexemes are a list of texts of the form, with commas between
pub record ListTold (f : Nonterminal) (s : List Lexeme) (ts : List Tree) : Type 0 where
  pub phrases : Phrases
  pub reads : ReadsList f s phrases
  pub erased : erase_all phrases ≡ ts
  pub no_ills : ills_of_all phrases ≡ []

one_listed : {f : Nonterminal} {s : List Lexeme} {t : Tree} → Told f s t → ListTold f s (t ∷ [])
one_listed d = record { phrases = snoc none d.phrase; reads = list-one d.reads; erased = ap (λ (a : Tree). a ∷ []) d.erased; no_ills = d.no_ills }

more_listed : {f : Nonterminal} {s r : List Lexeme} {ts : List Tree} {t : Tree} → ListTold f s ts → Told f r t → ListTold f (s ++ Comma ∷ r) (ts ++ t ∷ [])
more_listed {ts = ts} d e = record {
  phrases = snoc d.phrases e.phrase;
  reads = list-more d.reads e.reads;
  erased = ap (λ (l : List Tree). l ++ erase e.phrase ∷ []) d.erased ∙ ap (λ (a : Tree). ts ++ a ∷ []) e.erased;
  no_ills = ap (λ (l : List ℕ). l ++ ills e.phrase) d.no_ills ∙ e.no_ills;
}

-- a text that says the tree, wherever it begins
abbrev pub TellsTree : Nonterminal → List Piece → Tree → Type 0
TellsTree f text t = (n : ℕ) → Told f (said n text) t

-- at each least level the tree's text says the tree, wherever it begins
abbrev pub Back : Sort → Tree → Type 0
Back s t = (l : ℕ) → TellsTree (form_at s l) (shown_at l t) t

-- a separator is a comma, maybe with a space
abbrev IsComma : List Piece → Type 0
IsComma sep = (n : ℕ) → said n sep ≡ Comma ∷ []

module _ {f : Nonterminal} (text : Tree → List Piece) (sep : List Piece) (comma : IsComma sep) where
  later_listed : (n : ℕ) (s : List Lexeme) (done ts : List Tree) → Each (λ t. TellsTree f (text t) t) ts → ListTold f s done →
      ListTold f (s ++ said n (flat_map (λ t. sep ++ text t) ts)) (done ++ ts)
  later_listed n s done [] all d = rw (append-nil s, append-nil done) d
  later_listed n s done (t ∷ ts) all d =
      let m = behind n sep in
      let more = flat_map (λ u. sep ++ text u) ts in
      let said-is : said n ((sep ++ text t) ++ more) ≡ Comma ∷ (said m (text t) ++ said (behind m (text t)) more) =
      ap (said n) (append_assoc sep (text t) more) ∙ said-append n sep (text t ++ more) ∙ ap (λ (l : List Lexeme). l ++ said m (text t ++ more)) (comma n)
      ∙ ap (λ (l : List Lexeme). Comma ∷ l) (said-append m (text t) more) in
      let next = later_listed (behind m (text t)) (s ++ Comma ∷ said m (text t)) (done ++ t ∷ []) ts all.1 (more_listed d (all.0 m)) in
      rw said-is (subst₂ (λ (l : List Lexeme) (us : List Tree). ListTold f l us) (append_assoc s (Comma ∷ said m (text t)) (said (behind m (text t)) more))
      (append_assoc done (t ∷ []) ts) next)

  -- texts with commas between are a list
  pub listed : (n : ℕ) (t : Tree) (ts : List Tree) → Each (λ u. TellsTree f (text u) u) (t ∷ ts) → ListTold f (said n (join_by text sep (t ∷ ts))) (t ∷ ts)
  listed n t ts all =
      let more = flat_map (λ u. sep ++ text u) ts in
      rw (said-append n (text t) more) (later_listed (behind n (text t)) (said n (text t)) (t ∷ []) ts all.1 (one_listed (all.0 n)))
