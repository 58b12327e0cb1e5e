-- It is known whether a text says a sequent, a formula or pairs by the numbers of nodes.
use Rattle.std.proofs.Common.{◌≡◌, ℕ, zero, suc, ◌==◌, ◌≤◌, true, List, [], ◌∷◌, ◌++◌, length, Option, Some, None, codes, refl, sym, ap, subst, ◌∙◌}
use Rattle.std.proofs.Common.{append-nil, length-append, arith, ◌⊎◌, inl, inr}
use Rattle.std.specs.Prelude.{All}
use Rattle.std.specs.Str.{bytes_eq}
use Rattle.std.proofs.lemmas.Bool.{eq-eqb, false_from_ne_true}
use Rattle.std.proofs.lemmas.Bool.Decides.{Decides-eqb}
use Rattle.std.proofs.lemmas.List.Elements.{All-nil, All-cons, All-head, All-tail}
use Rattle.std.proofs.lemmas.Slice.Eq.{bytes_eq-Decides}
use Rattle.dlk_tree.specs.declared.op.Sort.{Sort}
use Rattle.dlk_tree.specs.declared.op.Sort.TheVariants.{Formula as OfFormulas}
use Rattle.dlk_tree.specs.declared.op.Sym.{Sym}
use Rattle.dlk_tree.specs.Tests.{sort_rank, sort_eq}
use Rattle.dlk_tree.specs.Table.{kind_row, is_sym}
use Rattle.dlk_tree.specs.Trees.{Tree, sort}
use Rattle.dlk_calculus.specs.Pairs.{Pair, is_of_kind}
use Rattle.dlk_calculus.specs.Sequents.{Sequent}
use Rattle.dlk_grammar.specs.Shown.{spell}
use Rattle.dlk_grammar.specs.Symbols.{shown_symbol}
use Rattle.dlk_lines.specs.Laws.{SaysOrNot}
use Rattle.dlk_lines.specs.Parts.{CutAt}
use Rattle.dlk_lines.specs.Spelled.{ByNodes, NamesEach, none_behind, NamesSequent, NamesFormula, NamesPairs, no_pairs}
use Rattle.dlk_nodes.specs.FirstPair.{behind_comma, UpToComma, FirstPair}
use Rattle.dlk_nodes.specs.Sides.{Sides}
use Rattle.dlk_nodes.specs.Symbols.{SpellsOfSort}
use Rattle.dlk_nodes.proofs.FormulasRead.{parts_formula, sign_first, formula_node, formula_sort}
use Rattle.dlk_nodes.proofs.Fronts.{uncut_lacks}
use Rattle.dlk_nodes.proofs.Numbered.{each_field, found_named}
use Rattle.dlk_nodes.proofs.OpsCut.{not_fields}
use Rattle.dlk_nodes.specs.Fields.{parts_of}
use Rattle.dlk_nodes.proofs.SomeNode.{Known, both, by_test, is_equal, known_cut, known_front, known_name, known_names}
use Rattle.dlk_nodes.proofs.SymbolBack.{symbol_in, symbol_back}
use Rattle.dlk_nodes.proofs.SidesRead.{no_left, one_more_left, no_sides_yet, behind_needed, space_wanted, number_wanted, one_side_more, one_sides}
use Rattle.dlk_nodes.proofs.SidesRead.{sequent_sides, sides_sequent}
use Rattle.dlk_nodes.proofs.PairsFound.{same_sort, tilde_wanted, sign_wanted, node_wanted, symbol_wanted, kind_wanted, pair_is, one_rest, PairsIn}
use Rattle.dlk_nodes.proofs.PairsFound.{to_more, from_more, some_text, some_are}

-- ---- sorts and symbols

known_sort : (r s : Sort) → Known (r ≡ s)
known_sort r s = by_test (sort_eq r s) (same_sort r s, λ e. eq-eqb (sort_rank r) (sort_rank s) (ap sort_rank e))

known_formulas : (ts : List Tree) → Known (All (λ t. sort t ≡ OfFormulas) ts)
known_formulas [] = inl (All-nil (λ t. sort t ≡ OfFormulas))
known_formulas (t ∷ ts) = elim (both (known_sort (sort t) OfFormulas) (known_formulas ts)) [
  | inl w ↦ inl (All-cons (λ t. sort t ≡ OfFormulas) t ts w.0 w.1)
  | inr fails ↦ inr (λ all. fails (All-head (λ t. sort t ≡ OfFormulas) t ts all, All-tail (λ t. sort t ≡ OfFormulas) t ts all))
]

known_symbol : (r : Sort) (text : List ℕ) → ((s : Sym) × SpellsOfSort r text s) ⊎ ((s : Sym) → ¬ SpellsOfSort r text s)
known_symbol r text = by_symbol (symbol_in (sort_rank r) text) refl
  where
    its : (t : Sym) → SpellsOfSort r text t → symbol_in (sort_rank r) text ≡ t
    its t w =
        let ranks : sort_rank r ≡ sort_rank (kind_row t.kind).sort = sym (ap sort_rank w.sort_is) in
        let texts : text ≡ spell (shown_symbol t) = w.spells.text_is in
        (λ i. symbol_in (ranks i) (texts i)) ∙ symbol_back t w.spells.real

    known_parts : (s : Sym) → Known ((is_sym s ≡ true) × ((text ≡ spell (shown_symbol s)) × ((kind_row s.kind).sort ≡ r)))
    known_parts s =
        both (is_equal (is_sym s) true)
        (both (by_test (bytes_eq text (spell (shown_symbol s))) (bytes_eq-Decides text (spell (shown_symbol s)))) (known_sort (kind_row s.kind).sort r))

    by_symbol : (s : Sym) → symbol_in (sort_rank r) text ≡ s → ((s : Sym) × SpellsOfSort r text s) ⊎ ((s : Sym) → ¬ SpellsOfSort r text s)
    by_symbol s is = elim (known_parts s) [
      | inl w ↦ inl (s, record { spells = record { real = w.0; text_is = w.1.0 }; sort_is = w.1.1 })
      | inr fails ↦ inr (λ t w.
          let same : t ≡ s = sym (its t w) ∙ is in
          fails (
            subst (λ z. is_sym z ≡ true) same w.spells.real,
            (subst (λ z. text ≡ spell (shown_symbol z)) same w.spells.text_is, subst (λ (z : Sym). (kind_row z.kind).sort ≡ r) same w.sort_is),
          ))
    ]

up_to : (text : List ℕ) → (front : List ℕ) × (rest : Option (List ℕ)) × UpToComma text front rest
up_to text = elim (known_cut 44 text) [
  | inl cut ↦ (cut.0, Some cut.1, record { text_is = cut.2.text_is; first = cut.2.first })
  | inr uncut ↦ (text, None, record { text_is = sym (append-nil text); first = uncut_lacks 44 text uncut })
]

module _ (nodes : List Tree) where
  -- ---- sequents

  known_behind : (text : List ℕ) → ((ts : List Tree) × NamesEach nodes text ts) ⊎ ((ts : List Tree) → ¬ NamesEach nodes text ts)
  known_behind [] = inl ([], none_behind)
  known_behind (c ∷ text) = elim (by_test (c == 32) (Decides-eqb c 32)) [
    | inl space ↦ elim (known_names nodes (parts_of 32 text)) [
      | inl w ↦ inl (w.0, subst (λ b. NamesEach nodes (b ∷ text) w.0) (sym space) (found_named nodes text w.0 w.1))
      | inr none ↦ inr (λ ts names. none ts (each_field nodes (c ∷ text) ts names))
    ]
    | inr other ↦ inr (λ ts names. other (not_fields nodes (c ∷ text) ts names))
  ]

  known_sides : (n : ℕ) (text : List ℕ) → length text ≤ n → ((xs : List Tree) × (ys : List Tree) × Sides nodes text xs ys) ⊎ ((xs ys : List Tree) →
      ¬ Sides nodes text xs ys)
  known_sides zero text few = inr (λ xs ys s.
      let long = ap length s.text_is in
      let a = length-append (s.left ++ codes "==>") s.right in
      let b = length-append s.left (codes "==>") in
      absurd (omega (arith, few, long, a, b)))
  known_sides (suc n) text few = elim (known_front (codes "==>") text) [
    | inl w ↦ elim (known_behind w.0) [
      | inl b ↦ inl ([], b.0, no_left nodes text w.0 b.0 w.1 b.1)
      | inr none ↦ inr (behind_needed nodes text text [] (no_sides_yet nodes text) w.0 w.1 none)
    ]
    | inr other ↦ elim (known_cut 32 text) [
      | inl cut ↦ elim (known_name nodes cut.0) [
        | inl name ↦ elim (known_sides n cut.1 (omega (arith, few, ap length cut.2.text_is, length-append cut.0 (32 ∷ cut.1)))) [
          | inl s ↦ inl (name.0 ∷ s.0, s.1, one_more_left nodes text cut.0 cut.1 name.0 s.0 s.1 cut.2 name.1 s.2)
          | inr none ↦ inr (λ xs ys s.
              let w = (one_side_more nodes text text [] (no_sides_yet nodes text) (λ rest e. other (rest, e)) cut.0 cut.1 cut.2 name.0 name.1).needed xs ys s in
              none w.0 ys w.1)
        ]
        | inr none ↦ inr (number_wanted nodes text text [] (no_sides_yet nodes text) (λ rest e. other (rest, e)) cut.0 cut.1 cut.2 none)
      ]
      | inr uncut ↦ inr (space_wanted nodes text text [] (no_sides_yet nodes text) (λ rest e. other (rest, e)) uncut)
    ]
  ]

  some_sequent : (text : List ℕ) → ((s : Sequent) × NamesSequent nodes text s) ⊎ ((s : Sequent) → ¬ NamesSequent nodes text s)
  some_sequent text = elim (known_sides (length text) text (omega arith)) [
    | inl s ↦ elim (both (known_formulas s.0) (known_formulas s.1)) [
      | inl w ↦ inl (
        record { ante = s.0; succ = s.1 },
        sides_sequent nodes text (record { ante = s.0; succ = s.1 }) (record { sides = s.2; ante = w.0; succ = w.1 }),
      )
      | inr fails ↦ inr (λ t is.
          let w = sequent_sides nodes text t is in
          let same = one_sides nodes t.ante t.succ s.0 s.1 text w.sides s.2 in
          fails (
            subst (λ l. All (λ t. sort t ≡ OfFormulas) l) same.0 w.ante,
            subst (λ l. All (λ t. sort t ≡ OfFormulas) l) same.1 w.succ,
          ))
    ]
    | inr none ↦ inr (λ t is. none t.ante t.succ (sequent_sides nodes text t is).sides)
  ]

  -- ---- formulas

  some_formula : (text : List ℕ) → ((h : Tree) × NamesFormula nodes text h) ⊎ ((h : Tree) → ¬ NamesFormula nodes text h)
  some_formula text = elim (known_front (codes "#") text) [
    | inl w ↦ elim (known_name nodes w.0) [
      | inl name ↦ elim (known_sort (sort name.0) OfFormulas) [
        | inl is ↦ inl (name.0, parts_formula nodes text name.0 (record { digits = w.0; text_is = w.1; names = name.1; sort_is = is }))
        | inr other ↦ inr (formula_sort nodes text w.0 w.1 name.0 name.1 other)
      ]
      | inr none ↦ inr (formula_node nodes text w.0 w.1 none)
    ]
    | inr none ↦ inr (sign_first nodes text (λ digits e. none (digits, e)))
  ]

  -- ---- pairs

  known_pair : (text : List ℕ) → ((p : Pair) × (rest : Option (List ℕ)) × FirstPair nodes text p rest) ⊎ ((p : Pair) (rest : Option (List ℕ)) →
      ¬ FirstPair nodes text p rest)
  known_pair text = elim (known_cut 126 text) [
    | inl cut ↦ elim (known_front (codes ">") cut.1) [
      | inl w ↦ by_comma cut.0 cut.1 w.0 cut.2 w.1 (up_to w.0)
      | inr none ↦ inr (sign_wanted nodes text cut.0 cut.1 cut.2 (λ right e. none (right, e)))
    ]
    | inr uncut ↦ inr (tilde_wanted nodes text uncut)
  ]
    where
      by_comma : (left behind right : List ℕ) → CutAt text 126 left behind → behind ≡ codes ">" ++ right →
          (front : List ℕ) × (rest : Option (List ℕ)) × UpToComma right front rest →
          ((p : Pair) × (rest : Option (List ℕ)) × FirstPair nodes text p rest) ⊎ ((p : Pair) (rest : Option (List ℕ)) → ¬ FirstPair nodes text p rest)
      by_comma left behind right cut sign comma = elim (known_name nodes comma.0) [
        | inl name ↦ elim (known_symbol (sort name.0) left) [
          | inl s ↦ elim (is_equal (is_of_kind s.0.kind name.0) true) [
            | inl fits ↦ inl (
              record { sym = s.0; by = name.0 },
              comma.1,
              pair_is nodes text left behind cut right comma.0 comma.1 sign comma.2 name.0 name.1 s.0 s.1 fits,
            )
            | inr fails ↦ inr (kind_wanted nodes text left behind cut right comma.0 comma.1 sign comma.2 name.0 name.1 s.0 s.1
                (false_from_ne_true (is_of_kind s.0.kind name.0) fails))
          ]
          | inr none ↦ inr (symbol_wanted nodes text left behind cut right comma.0 comma.1 sign comma.2 name.0 name.1 none)
        ]
        | inr none ↦ inr (node_wanted nodes text left behind cut right comma.0 comma.1 sign comma.2 none)
      ]

  known_in : (n : ℕ) (left : Option (List ℕ)) → length (behind_comma left) ≤ n → ((ps : List Pair) × PairsIn nodes left ps) ⊎ ((ps : List Pair) →
      ¬ PairsIn nodes left ps)
  known_in n None few = inl ([], refl)
  known_in zero (Some text) few = absurd (omega (arith, few))
  known_in (suc n) (Some text) few = elim (known_pair text) [
    | inl p ↦ elim (known_in n p.1 (omega (arith, few, ap length p.2.text_is, length-append p.2.own (behind_comma p.1)))) [
      | inl others ↦ inl (
        p.0 ∷ others.0,
        record { first = p.0; others = others.0; rest = p.1; is_first = p.2; more = to_more nodes p.1 others.0 others.1; are = refl },
      )
      | inr none ↦ inr (λ ps w.
          none w.others (subst (λ r. PairsIn nodes r w.others) (one_rest nodes text w.first p.0 w.rest p.1 w.is_first p.2)
          (from_more nodes w.rest w.others w.more)))
    ]
    | inr none ↦ inr (λ ps w. none w.first w.rest w.is_first)
  ]

  some_list : (text : List ℕ) → ((ps : List Pair) × NamesPairs nodes text ps) ⊎ ((ps : List Pair) → ¬ NamesPairs nodes text ps)
  some_list [] = inl ([], no_pairs)
  some_list (c ∷ text) = elim (known_in (length (behind_comma (Some (c ∷ text)))) (Some (c ∷ text)) (omega arith)) [
    | inl w ↦ inl (w.0, some_are nodes (c ∷ text) w.0 w.1)
    | inr none ↦ inr (λ ps is. let w = (some_text nodes (c ∷ text) (λ e. cc e)).needed ps is in none w.0 w.1)
  ]

  -- the law
  pub says_or_not : SaysOrNot (ByNodes nodes)
  says_or_not = record { some_sequent = some_sequent; some_formula = some_formula; some_list = some_list }
