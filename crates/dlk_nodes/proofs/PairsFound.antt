-- The pairs of a text are found one by one.
use Rattle.std.proofs.Common.{◌≡◌, ◌≢◌, ℕ, ◌==◌, true, false, List, [], ◌∷◌, ◌++◌, Option, Some, None, Bor, codes, refl, sym, ap, subst, ◌∙◌}
use Rattle.std.proofs.Common.{append_assoc, append-nil, ◌⊎◌, inl, inr}
use Rattle.std.specs.Prelude.{MatchOption, option_copied}
use Rattle.std.proofs.lemmas.Bool.{and_parts, eqb-true}
use Rattle.dlk_tree.specs.declared.op.Sort.{Sort}
use Rattle.dlk_tree.specs.declared.op.Sort.TheVariants as sort
use Rattle.dlk_tree.specs.declared.op.Sym.{Sym}
use Rattle.dlk_tree.specs.Tests.{sort_rank, sort_eq}
use Rattle.dlk_tree.specs.Table.{kind_row}
use Rattle.dlk_tree.specs.Trees.{Tree, sort as sort_of}
use Rattle.dlk_calculus.specs.Pairs.{Pair, is_of_kind}
use Rattle.dlk_grammar.specs.Shown.{spell}
use Rattle.dlk_grammar.specs.Symbols.{shown_symbol}
use Rattle.dlk_grammar.specs.Tokens.{is_digit}
use Rattle.dlk_lines.specs.Parts.{CutAt}
use Rattle.dlk_lines.specs.Spelled.{Names, NamesPair, pair, NamesMorePairs, no_more_pairs, one_more_pair, NamesPairs, no_pairs, first_pair}
use Rattle.dlk_lines.proofs.Cuts.{one_cut}
use Rattle.dlk_lines.proofs.Numbers.{number_parts}
use Rattle.dlk_nodes.specs.FirstPair.{behind_comma, UpToComma, FirstPair}
use Rattle.dlk_nodes.specs.Symbols.{SpellsOfSort}
use Rattle.dlk_nodes.proofs.OpsBack.{lacks_if}
use Rattle.dlk_nodes.proofs.Numbered.{one_name}
use Rattle.dlk_nodes.proofs.DetailLaws.{Uncut, not_lacking}
use Rattle.dlk_nodes.proofs.SymbolBack.{symbol_tilde}
use Rattle.dlk_nodes.proofs.SymbolForms.{one_symbol}

-- ---- up to a comma

pub one_comma : (text front start : List ℕ) (rest behind : Option (List ℕ)) → UpToComma text front rest → UpToComma text start behind →
    (front ≡ start) × (rest ≡ behind)
one_comma text front start None None a b = (sym (append-nil front) ∙ sym a.text_is ∙ b.text_is ∙ append-nil start, refl)
one_comma text front start None (Some l) a b =
    let cut : CutAt text 44 start l = record { text_is = b.text_is; first = b.first } in
    absurd (not_lacking 44 text start l refl cut (subst (λ t. UpToComma text t None) (sym (append-nil front) ∙ sym a.text_is) a).first)
one_comma text front start (Some l) None a b =
    let cut : CutAt text 44 front l = record { text_is = a.text_is; first = a.first } in
    absurd (not_lacking 44 text front l refl cut (subst (λ t. UpToComma text t None) (sym (append-nil start) ∙ sym b.text_is) b).first)
one_comma text front start (Some l) (Some m) a b =
    let same = one_cut text 44 front start l m (record { text_is = a.text_is; first = a.first }) (record { text_is = b.text_is; first = b.first }) in
    (same.0, ap Some same.1)

-- ---- sorts

sort_at : ℕ → Sort
sort_at n = elim (n == 0) [ true ↦ sort.Term | false ↦ elim (n == 1) [ true ↦ sort.Formula | false ↦ sort.Program ] ]

sort_ranked : (s : Sort) → sort_at (sort_rank s) ≡ s
unfolding sort_at
sort_ranked sort.Term = refl
sort_ranked sort.Formula = refl
sort_ranked sort.Program = refl

pub same_sort : (r s : Sort) → sort_eq r s ≡ true → r ≡ s
same_sort r s e = sym (sort_ranked r) ∙ ap sort_at (eqb-true (sort_rank r) (sort_rank s) e) ∙ sort_ranked s

module _ (nodes : List Tree) where
  -- ---- the first pair

  left_of : Pair → List ℕ
  left_of p = spell (shown_symbol p.sym)

  -- what it is made of
  pub record PairParts (text : List ℕ) (p : Pair) (rest : Option (List ℕ)) : Type 0 where
    pub left : List ℕ
    pub digits : List ℕ
    pub right : List ℕ
    pub cut : CutAt text 126 left (62 ∷ right)
    pub comma : UpToComma right digits rest
    pub names : Names nodes digits p.by
    pub symbol : SpellsOfSort (sort_of p.by) left p.sym
    pub kind : is_of_kind p.sym.kind p.by ≡ true

  its_sort : (p : Pair) → is_of_kind p.sym.kind p.by ≡ true → (kind_row p.sym.kind).sort ≡ sort_of p.by
  its_sort p h = sym (same_sort (sort_of p.by) (kind_row p.sym.kind).sort (and_parts _ _ h).1)

  pub pair_parts : (text : List ℕ) (p : Pair) (rest : Option (List ℕ)) → FirstPair nodes text p rest → PairParts text p rest
  pair_parts text p rest f = by_names f.own p f.names f.text_is
    where
      by_names : (own : List ℕ) (q : Pair) → NamesPair nodes own q → text ≡ own ++ behind_comma rest → PairParts text q rest
      by_names _ _ (pair {i} {p = q} symbol named kind) e =
          let l = spell (shown_symbol q.sym) in
          let grouped : (l ++ codes "~>" ++ i) ++ behind_comma rest ≡ l ++ 126 ∷ (62 ∷ (i ++ behind_comma rest)) = simp append_assoc in
          record {
            left = l;
            digits = i;
            right = i ++ behind_comma rest;
            cut = record { text_is = e ∙ grouped; first = symbol_tilde q.sym symbol };
            comma = record { text_is = refl; first = lacks_if is_digit 44 refl i (number_parts i named.number named.is_number).digits };
            names = named;
            symbol = record { spells = record { real = symbol; text_is = refl }; sort_is = its_sort q kind };
            kind = kind;
          }

  pub pair_made : (text : List ℕ) (p : Pair) (rest : Option (List ℕ)) → PairParts text p rest → FirstPair nodes text p rest
  pair_made text p rest w =
      let l = spell (shown_symbol p.sym) in
      let grouped : l ++ 126 ∷ (62 ∷ (w.digits ++ behind_comma rest)) ≡ (l ++ codes "~>" ++ w.digits) ++ behind_comma rest = simp append_assoc in
      record {
        own = l ++ codes "~>" ++ w.digits;
        text_is = w.cut.text_is ∙ (λ i. w.symbol.spells.text_is i ++ 126 ∷ (62 ∷ w.comma.text_is i)) ∙ grouped;
        names = pair w.symbol.spells.real w.names w.kind;
      }

  -- ---- why there is none

  pub tilde_wanted : (text : List ℕ) → Uncut 126 text → (p : Pair) (rest : Option (List ℕ)) → ¬ FirstPair nodes text p rest
  tilde_wanted text uncut p rest f = let w = pair_parts text p rest f in uncut w.left (62 ∷ w.right) w.cut.text_is

  module _ (text left behind : List ℕ) (cut : CutAt text 126 left behind) where
    pub sign_wanted : ((right : List ℕ) → behind ≢ 62 ∷ right) → (p : Pair) (rest : Option (List ℕ)) → ¬ FirstPair nodes text p rest
    sign_wanted none p rest f =
        let w = pair_parts text p rest f in
        none w.right (one_cut text 126 left w.left behind (62 ∷ w.right) cut w.cut).1

    module _ (right digits : List ℕ) (rest : Option (List ℕ)) (sign : behind ≡ 62 ∷ right) (comma : UpToComma right digits rest) where
      record SameParts (p : Pair) (more : Option (List ℕ)) : Type 0 where
        pub rest_is : more ≡ rest
        pub names : Names nodes digits p.by
        pub symbol : SpellsOfSort (sort_of p.by) left p.sym
        pub kind : is_of_kind p.sym.kind p.by ≡ true

      same_parts : (p : Pair) (more : Option (List ℕ)) → FirstPair nodes text p more → SameParts p more
      same_parts p more f =
          let w = pair_parts text p more f in
          let same = one_cut text 126 w.left left (62 ∷ w.right) behind w.cut cut in
          let both : 62 ∷ w.right ≡ 62 ∷ right = same.1 ∙ sign in
          let rights : w.right ≡ right = cc in
          let commas = one_comma right w.digits digits more rest (subst (λ l. UpToComma l w.digits more) rights w.comma) comma in
          record {
            rest_is = commas.1;
            names = subst (λ d. Names nodes d p.by) commas.0 w.names;
            symbol = subst (λ l. SpellsOfSort (sort_of p.by) l p.sym) same.0 w.symbol;
            kind = w.kind;
          }

      pub node_wanted : ((t : Tree) → ¬ Names nodes digits t) → (p : Pair) (more : Option (List ℕ)) → ¬ FirstPair nodes text p more
      node_wanted none p more f = none p.by (same_parts p more f).names

      module _ (t : Tree) (named : Names nodes digits t) where
        same_tree : (p : Pair) (more : Option (List ℕ)) → FirstPair nodes text p more → p.by ≡ t
        same_tree p more f = one_name nodes digits p.by t (same_parts p more f).names named

        pub symbol_wanted : ((s : Sym) → ¬ SpellsOfSort (sort_of t) left s) → (p : Pair) (more : Option (List ℕ)) → ¬ FirstPair nodes text p more
        symbol_wanted none p more f =
            none p.sym (subst (λ u. SpellsOfSort (sort_of u) left p.sym) (same_tree p more f) (same_parts p more f).symbol)

        module _ (s : Sym) (spells : SpellsOfSort (sort_of t) left s) where
          pub kind_wanted : is_of_kind s.kind t ≡ false → (p : Pair) (more : Option (List ℕ)) → ¬ FirstPair nodes text p more
          kind_wanted fails p more f =
              let w = same_parts p more f in
              let by = same_tree p more f in
              let symbols = one_symbol (sort_of t) left p.sym s (subst (λ u. SpellsOfSort (sort_of u) left p.sym) by w.symbol) spells in
              let clash : true ≡ false = sym w.kind ∙ (λ i. is_of_kind (symbols i).kind (by i)) ∙ fails in
              cc clash

          pub pair_is : is_of_kind s.kind t ≡ true → FirstPair nodes text (record { sym = s; by = t }) rest
          pair_is fits = pair_made text (record { sym = s; by = t }) rest (record {
            left = left;
            digits = digits;
            right = right;
            cut = record { text_is = cut.text_is ∙ ap (λ l. left ++ 126 ∷ l) sign; first = cut.first };
            comma = comma;
            names = named;
            symbol = spells;
            kind = fits;
          })

  -- what comes behind the first pair is the same
  pub one_rest : (text : List ℕ) (p q : Pair) (rest more : Option (List ℕ)) → FirstPair nodes text p rest → FirstPair nodes text q more → rest ≡ more
  one_rest text p q rest more a b =
      let w = pair_parts text q more b in
      (same_parts text w.left (62 ∷ w.right) w.cut w.right w.digits more refl w.comma p rest a).rest_is

  -- ---- more pairs

  record MoreParts (text : List ℕ) (ps : List Pair) : Type 0 where
    pub own : List ℕ
    pub rest : List ℕ
    pub first : Pair
    pub others : List Pair
    pub text_is : text ≡ codes "," ++ own ++ rest
    pub names : NamesPair nodes own first
    pub more : NamesMorePairs nodes rest others
    pub are : ps ≡ first ∷ others

  more_parts : (text : List ℕ) (ps : List Pair) → NamesMorePairs nodes text ps → ((text ≡ []) × (ps ≡ [])) ⊎ MoreParts text ps
  more_parts _ _ no_more_pairs = inl (refl, refl)
  more_parts _ _ (one_more_pair {text} {rest} {p} {pairs} is others) =
      inr (record { own = text; rest = rest; first = p; others = pairs; text_is = refl; names = is; more = others; are = refl })

  -- the text begins with a comma, or there is none
  behind_one : (text : List ℕ) (ps : List Pair) → NamesMorePairs nodes text ps → (rest : Option (List ℕ)) × (text ≡ behind_comma rest)
  behind_one text ps more = elim (more_parts text ps more) [ inl none ↦ (None, none.0) | inr w ↦ (Some (w.own ++ w.rest), w.text_is) ]

  -- at least one pair
  pub record SomePairs (text : List ℕ) (ps : List Pair) : Type 0 where
    pub first : Pair
    pub others : List Pair
    pub rest : Option (List ℕ)
    pub is_first : FirstPair nodes text first rest
    pub more : NamesMorePairs nodes (behind_comma rest) others
    pub are : ps ≡ first ∷ others

  -- the pairs of a text, and none where there is no text
  abbrev pub PairsIn : Option (List ℕ) → List Pair → Type 0
  PairsIn None ps = ps ≡ []
  PairsIn (Some text) ps = SomePairs text ps

  pub to_more : (rest : Option (List ℕ)) (ps : List Pair) → PairsIn rest ps → NamesMorePairs nodes (behind_comma rest) ps
  to_more None ps e = subst (NamesMorePairs nodes []) (sym e) no_more_pairs
  to_more (Some text) ps w =
      subst (NamesMorePairs nodes (codes "," ++ text)) (sym w.are)
      (subst (λ l. NamesMorePairs nodes (codes "," ++ l) (w.first ∷ w.others)) (sym w.is_first.text_is) (one_more_pair w.is_first.names w.more))

  some_from : (text own rest : List ℕ) (p : Pair) (others : List Pair) → text ≡ own ++ rest → NamesPair nodes own p → NamesMorePairs nodes rest others →
      SomePairs text (p ∷ others)
  some_from text own rest p others e names more =
      let b = behind_one rest others more in
      record {
        first = p;
        others = others;
        rest = b.0;
        is_first = record { own = own; text_is = e ∙ ap (λ l. own ++ l) b.1; names = names };
        more = subst (λ l. NamesMorePairs nodes l others) b.1 more;
        are = refl;
      }

  pub from_more : (rest : Option (List ℕ)) (ps : List Pair) → NamesMorePairs nodes (behind_comma rest) ps → PairsIn rest ps
  from_more None ps more = elim (more_parts [] ps more) [ inl none ↦ none.1 | inr w ↦ absurd (let e : [] ≡ codes "," ++ w.own ++ w.rest = w.text_is in cc e) ]
  from_more (Some text) ps more = elim (more_parts (codes "," ++ text) ps more) [
    | inl none ↦ absurd (let e : codes "," ++ text ≡ [] = none.0 in cc e)
    | inr w ↦
        let e : 44 ∷ text ≡ 44 ∷ (w.own ++ w.rest) = w.text_is in
        let tail : text ≡ w.own ++ w.rest = cc in
        subst (SomePairs text) (sym w.are) (some_from text w.own w.rest w.first w.others tail w.names w.more)
  ]

  -- ---- whole lists

  whole_parts : (text : List ℕ) (ps : List Pair) → NamesPairs nodes text ps → ((text ≡ []) × (ps ≡ [])) ⊎ SomePairs text ps
  whole_parts _ _ no_pairs = inl (refl, refl)
  whole_parts _ _ (first_pair {text} {rest} {p} {pairs} is others) = inr (some_from (text ++ rest) text rest p pairs refl is others)

  pub some_are : (text : List ℕ) (ps : List Pair) → SomePairs text ps → NamesPairs nodes text ps
  some_are text ps w =
      subst (NamesPairs nodes text) (sym w.are)
      (subst (λ l. NamesPairs nodes l (w.first ∷ w.others)) (sym w.is_first.text_is) (first_pair w.is_first.names w.more))

  -- no pair is empty
  pub no_empty : (p : Pair) (rest : Option (List ℕ)) → ¬ FirstPair nodes [] p rest
  no_empty p rest f = tilde_wanted [] (λ front behind e. by_front front behind e) p rest f
    where
      by_front : (front behind : List ℕ) → [] ≢ front ++ 126 ∷ behind
      by_front [] behind e = cc e
      by_front (c ∷ front) behind e = cc e

  -- ---- the reader

  pub record PairsSoFar (text : List ℕ) (left : Option (List ℕ)) (done : List Pair) : Type 0 where
    pub found : (ps : List Pair) → PairsIn left ps → NamesPairs nodes text (done ++ ps)
    pub needed : (ps : List Pair) → NamesPairs nodes text ps → (qs : List Pair) × PairsIn left qs

  pub no_text : (text : List ℕ) → text ≡ [] → PairsSoFar text None []
  no_text text e = record {
    found = λ ps none. subst (λ l. NamesPairs nodes l ps) (sym e) (subst (NamesPairs nodes []) (sym none) no_pairs);
    needed = λ ps w. ([], refl);
  }

  pub some_text : (text : List ℕ) → text ≢ [] → PairsSoFar text (Some text) []
  some_text text some = record {
    found = λ ps w. some_are text ps w;
    needed = λ ps w. elim (whole_parts text ps w) [ inl none ↦ absurd (some none.0) | inr v ↦ (ps, v) ];
  }

  pub pairs_begin : (text : List ℕ) (r : Option (Bor (List ℕ))) → MatchOption r (text ≡ []) (λ all. (all.now ≡ text) × (text ≢ [])) →
      PairsSoFar text (option_copied r) []
  pairs_begin text None e = no_text text e
  pairs_begin text (Some x) w = subst (λ l. PairsSoFar text (Some l) []) (sym w.0) (some_text text w.1)

  module _ (text left : List ℕ) (done : List Pair) (so_far : PairsSoFar text (Some left) done) where
    pub pair_wanted : ((p : Pair) (rest : Option (List ℕ)) → ¬ FirstPair nodes left p rest) → (ps : List Pair) → ¬ NamesPairs nodes text ps
    pair_wanted none ps w = let v = (so_far.needed ps w).1 in none v.first v.rest v.is_first

    pub pair_found : (p : Pair) (rest : Option (List ℕ)) → FirstPair nodes left p rest → PairsSoFar text rest (done ++ p ∷ [])
    pair_found p rest is = record {
      found = λ ps w.
          subst (NamesPairs nodes text) (sym (append_assoc done (p ∷ []) ps))
          (so_far.found (p ∷ ps) (record { first = p; others = ps; rest = rest; is_first = is; more = to_more rest ps w; are = refl }));
      needed = λ ps w.
          let v = (so_far.needed ps w).1 in
          (v.others, subst (λ r. PairsIn r v.others) (one_rest left v.first p v.rest rest v.is_first is) (from_more v.rest v.others v.more));
    }

  pub all_pairs : (text : List ℕ) (done : List Pair) → PairsSoFar text None done → NamesPairs nodes text done
  all_pairs text done so_far = subst (NamesPairs nodes text) (append-nil done) (so_far.found [] refl)
