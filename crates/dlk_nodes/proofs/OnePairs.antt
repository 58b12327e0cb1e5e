-- A text says at most one list of pairs, by the numbers of nodes.
use Rattle.std.proofs.Common.{◌≡◌, ℕ, true, false, List, [], ◌∷◌, ◌++◌, codes, refl, sym, ap, subst, ◌∙◌, append_assoc, append-nil, ◌⊎◌, inl, inr}
use Rattle.std.proofs.lemmas.Bool.{and_parts, eqb-true}
use Rattle.dlk_tree.specs.Tests.{sort_rank}
use Rattle.dlk_tree.specs.Table.{kind_row, is_sym}
use Rattle.dlk_tree.specs.Trees.{Tree, sort}
use Rattle.dlk_calculus.specs.Pairs.{Pair, is_of_kind}
use Rattle.dlk_grammar.specs.Shown.{spell}
use Rattle.dlk_grammar.specs.Symbols.{shown_symbol}
use Rattle.dlk_grammar.specs.Tokens.{is_digit}
use Rattle.dlk_lines.specs.Numbers.{IsNumber}
use Rattle.dlk_lines.specs.Spelled.{Names, pair, NamesMorePairs, no_more_pairs, one_more_pair, NamesPairs, no_pairs, first_pair}
use Rattle.dlk_lines.proofs.Numbers.{number_parts}
use Rattle.dlk_lines.proofs.Cuts.{lacks_if, one_cut}
use Rattle.dlk_nodes.specs.Fields.{parts_of}
use Rattle.dlk_nodes.proofs.Fields.{lacks, lacks_both, one_part, next_part}
use Rattle.dlk_nodes.proofs.Numbered.{one_name}
use Rattle.dlk_nodes.proofs.SymbolBack.{symbol_in, symbol_back, symbol_tilde}

module _ (nodes : List Tree) where
  left_of : Pair → List ℕ
  left_of p = spell (shown_symbol p.sym)

  -- a symbol, and a node that its kind allows
  record IsGood (p : Pair) : Type 0 where
    pub symbol : is_sym p.sym ≡ true
    pub kind : is_of_kind p.sym.kind p.by ≡ true

  -- what stands between the signs `~`, behind the first of them
  Chain : Pair → List Pair → List (List ℕ) → Type 0
  Chain p [] [] = ⊥
  Chain p [] (part ∷ []) = (i : List ℕ) × (part ≡ 62 ∷ i) × Names nodes i p.by
  Chain p [] (part ∷ more ∷ parts) = ⊥
  Chain p (q ∷ pairs) [] = ⊥
  Chain p (q ∷ pairs) (part ∷ parts) = (i : List ℕ) × (part ≡ 62 ∷ i ++ 44 ∷ left_of q) × Names nodes i p.by × IsGood q × Chain q pairs parts

  digits_lack : (byte : ℕ) → is_digit byte ≡ false → (text : List ℕ) (n : ℕ) → IsNumber text n → lacks byte text ≡ true
  digits_lack byte other text n is = lacks_if is_digit byte other text (number_parts text n is).digits

  record ChainOf (text : List ℕ) (p : Pair) (pairs : List Pair) : Type 0 where
    pub parts : List (List ℕ)
    pub parts_are : parts_of 126 text ≡ parts
    pub chain : Chain p pairs parts

  more_parts : (i rest : List ℕ) (p : Pair) (pairs : List Pair) → Names nodes i p.by → NamesMorePairs nodes rest pairs → ChainOf (62 ∷ i ++ rest) p pairs
  unfolding Chain left_of
  more_parts i _ p _ name no_more_pairs =
      let lone = ap (parts_of 126) (append-nil (62 ∷ i)) ∙ one_part 126 (62 ∷ i) (digits_lack 126 refl i name.number name.is_number) in
      record { parts = (62 ∷ i) ∷ []; parts_are = lone; chain = (i, refl, name) }
  more_parts i _ p _ name (one_more_pair {rest = rest} {pairs = pairs} (pair {i = j} {p = q} symbol named kind) others) =
      let next = more_parts j rest q pairs named others in
      let left = left_of q in
      let grouped : 62 ∷ i ++ (codes "," ++ (left ++ codes "~>" ++ j) ++ rest) ≡ (62 ∷ i ++ 44 ∷ left) ++ 126 ∷ (62 ∷ j ++ rest) = simp append_assoc in
      let flat : lacks 126 (62 ∷ i ++ 44 ∷ left) ≡ true = lacks_both 126 (62 ∷ i) (44 ∷ left) (digits_lack 126 refl i name.number name.is_number)
      (symbol_tilde q.sym symbol) in
      record {
        parts = (62 ∷ i ++ 44 ∷ left) ∷ next.parts;
        parts_are = ap (parts_of 126) grouped ∙ next_part 126 (62 ∷ i ++ 44 ∷ left) (62 ∷ j ++ rest) refl flat
            ∙ ap (λ l. (62 ∷ i ++ 44 ∷ left) ∷ l) next.parts_are;
        chain = (i, refl, name, record { symbol = symbol; kind = kind }, next.chain);
      }

  -- what a list of pairs is made of
  record PairsParts (text : List ℕ) (p : Pair) (pairs : List Pair) : Type 0 where
    pub good : IsGood p
    pub parts : List (List ℕ)
    pub parts_are : parts_of 126 text ≡ left_of p ∷ parts
    pub chain : Chain p pairs parts

  pairs_parts : (text : List ℕ) (all : List Pair) → NamesPairs nodes text all →
      ((text ≡ []) × (all ≡ [])) ⊎ ((p : Pair) × (pairs : List Pair) × (all ≡ p ∷ pairs) × PairsParts text p pairs)
  unfolding left_of
  pairs_parts _ _ no_pairs = inl (refl, refl)
  pairs_parts _ _ (first_pair {rest = rest} {pairs = pairs} (pair {i = i} {p = p} symbol named kind) others) =
      let next = more_parts i rest p pairs named others in
      let left = left_of p in
      let grouped : left ++ codes "~>" ++ i ++ rest ≡ left ++ 126 ∷ (62 ∷ i ++ rest) = simp append_assoc in
      inr (
        p,
        pairs,
        refl,
        record {
          good = record { symbol = symbol; kind = kind };
          parts = next.parts;
          parts_are = ap (parts_of 126) grouped ∙ next_part 126 left (62 ∷ i ++ rest) refl (symbol_tilde p.sym symbol) ∙ ap (λ l. left ∷ l) next.parts_are;
          chain = next.chain;
        },
      )

  -- a pair's symbol, by its text and its node
  its_rank : (p : Pair) → IsGood p → sort_rank (sort p.by) ≡ sort_rank (kind_row p.sym.kind).sort
  its_rank p good = eqb-true (sort_rank (sort p.by)) (sort_rank (kind_row p.sym.kind).sort) (and_parts _ _ good.kind).1

  one_pair : (p q : Pair) → IsGood p → IsGood q → left_of p ≡ left_of q → p.by ≡ q.by → p ≡ q
  unfolding left_of
  one_pair p q g h lefts trees =
      let ranks = sym (its_rank p g) ∙ ap (λ (t : Tree). sort_rank (sort t)) trees ∙ its_rank q h in
      let symbols : p.sym ≡ q.sym = sym (symbol_back p.sym g.symbol) ∙ (λ i. symbol_in (ranks i) (lefts i)) ∙ symbol_back q.sym h.symbol in
      λ i. record { sym = symbols i; by = trees i }

  no_chain : (x : Pair) (xs : List Pair) → Chain x xs [] → ⊥
  unfolding Chain
  no_chain x [] c = c
  no_chain x (z ∷ xs) c = c

  one_chain : (parts : List (List ℕ)) (p q : Pair) (ps qs : List Pair) → IsGood p → IsGood q → left_of p ≡ left_of q → Chain p ps parts →
      Chain q qs parts → p ∷ ps ≡ q ∷ qs
  unfolding Chain
  one_chain [] p q [] qs g h lefts a b = absurd a
  one_chain [] p q (x ∷ ps) qs g h lefts a b = absurd a
  one_chain (part ∷ more ∷ parts) p q [] qs g h lefts a b = absurd a
  one_chain (part ∷ []) p q [] [] g h lefts a b =
      let same : a.0 ≡ b.0 = let e : 62 ∷ a.0 ≡ 62 ∷ b.0 = sym a.1 ∙ b.1 in cc in
      let trees = one_name nodes b.0 p.by q.by (subst (λ i. Names nodes i p.by) same a.2) b.2 in
      ap (λ x. x ∷ []) (one_pair p q g h lefts trees)
  one_chain (part ∷ []) p q [] (y ∷ qs) g h lefts a b = absurd (no_chain y qs b.4)
  one_chain (part ∷ []) p q (x ∷ ps) qs g h lefts a b = absurd (no_chain x ps a.4)
  one_chain (part ∷ more ∷ parts) p q (x ∷ ps) [] g h lefts a b = absurd b
  one_chain (part ∷ more ∷ parts) p q (x ∷ ps) (y ∷ qs) g h lefts a b =
      let e : 62 ∷ (a.0 ++ 44 ∷ left_of x) ≡ 62 ∷ (b.0 ++ 44 ∷ left_of y) = sym a.1 ∙ b.1 in
      let tails : a.0 ++ 44 ∷ left_of x ≡ b.0 ++ 44 ∷ left_of y = cc in
      let cut = one_cut (b.0 ++ 44 ∷ left_of y) 44 a.0 b.0 (left_of x) (left_of y)
      (record { text_is = sym tails; first = digits_lack 44 refl a.0 a.2.number a.2.is_number }) (record {
        text_is = refl;
        first =
            digits_lack 44 refl b.0 b.2.number b.2.is_number;
      }) in
      let trees = one_name nodes b.0 p.by q.by (subst (λ i. Names nodes i p.by) cut.0 a.2) b.2 in
      let first = one_pair p q g h lefts trees in
      let others = one_chain (more ∷ parts) x y ps qs a.3 b.3 cut.1 a.4 b.4 in
      λ i. first i ∷ others i

  -- a text says one list of pairs
  pub one_list_of_pairs : (text : List ℕ) (a b : List Pair) → NamesPairs nodes text a → NamesPairs nodes text b → a ≡ b
  one_list_of_pairs text a b x y = by_cases (pairs_parts text a x) (pairs_parts text b y)
    where
      cut_empty : (p : Pair) (pairs : List Pair) → text ≡ [] → PairsParts text p pairs → ⊥
      cut_empty p pairs none parts =
          let e : [] ∷ [] ≡ left_of p ∷ parts.parts = ap (parts_of 126) (sym none) ∙ parts.parts_are in
          let empty : parts.parts ≡ [] = cc in
          no_chain p pairs (subst (Chain p pairs) empty parts.chain)

      by_cases : ((text ≡ []) × (a ≡ [])) ⊎ ((p : Pair) × (pairs : List Pair) × (a ≡ p ∷ pairs) × PairsParts text p pairs) →
          ((text ≡ []) × (b ≡ [])) ⊎ ((p : Pair) × (pairs : List Pair) × (b ≡ p ∷ pairs) × PairsParts text p pairs) → a ≡ b
      by_cases (inl v) (inl w) = v.1 ∙ sym w.1
      by_cases (inl v) (inr w) = absurd (cut_empty w.0 w.1 v.0 w.3)
      by_cases (inr v) (inl w) = absurd (cut_empty v.0 v.1 w.0 v.3)
      by_cases (inr v) (inr w) =
          let same = sym v.3.parts_are ∙ w.3.parts_are in
          let lefts : left_of v.0 ≡ left_of w.0 = cc in
          let parts : v.3.parts ≡ w.3.parts = cc in
          v.2 ∙ one_chain w.3.parts v.0 w.0 v.1 w.1 v.3.good w.3.good lefts (subst (Chain v.0 v.1) parts v.3.chain) w.3.chain ∙ sym w.2
