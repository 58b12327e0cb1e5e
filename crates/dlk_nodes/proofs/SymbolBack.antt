-- A symbol is found again by its text and the sort of what replaces it.
use Rattle.std.proofs.Common.{◌≡◌, ℕ, zero, suc, ◌≤◌, ◌==◌, true, false, List, [], ◌∷◌, ◌++◌, length, Option, Some, None, codes, refl, sym, ap, ◌∙◌, arith}
use Rattle.std.specs.Prelude.{if◌then◌else◌}
use Rattle.std.specs.Fmt.{digits}
use Rattle.std.proofs.lemmas.Bool.{and_from, eq-eqb, leb-true}
use Rattle.dlk_tree.specs.declared.op.Sym.{Sym}
use Rattle.dlk_tree.specs.declared.op.Kind.{Kind}
use Rattle.dlk_tree.specs.declared.op.Kind.TheVariants.{Func, UnitFunc, Pred, UnitPred, Quant, Prog, Ode}
use Rattle.dlk_tree.specs.Names.{is_name_byte, is_name}
use Rattle.dlk_tree.specs.Tests.{kind_rank, sort_rank}
use Rattle.dlk_tree.specs.Table.{kind_row, is_sym, is_sym_of, taboo_is_name}
use Rattle.dlk_grammar.specs.Shown.{spell, unit_brackets}
use Rattle.dlk_grammar.specs.Symbols.{dots, shown_as, shown_symbol}
use Rattle.dlk_nodes.specs.Fields.{parts_of}
use Rattle.dlk_nodes.proofs.Fields.{lacks, lacks_both, one_part, next_part}
use Rattle.dlk_nodes.proofs.OpsBack.{name_lacks, symbol_parts, called, bare, unit_again}

-- ---- the dots behind a name

pub arity_in : List ℕ → ℕ
arity_in [] = 0
arity_in (c ∷ text) = if c == 41 then 0 else length (parts_of 44 (c ∷ text))

pub record DotsText (n : ℕ) : Type 0 where
  pub rest : List ℕ
  pub text_is : spell (dots n) ≡ 40 ∷ rest
  pub no_bar : lacks 124 rest ≡ true
  pub no_round : lacks 40 rest ≡ true
  pub no_tilde : lacks 126 rest ≡ true
  pub no_feed : lacks 10 rest ≡ true
  pub count : arity_in rest ≡ n

pub dots_text : (n : ℕ) → n ≤ 8 → DotsText n
unfolding digits arity_in
dots_text zero h = record { rest = codes ")"; text_is = refl; no_bar = refl; no_round = refl; no_tilde = refl; no_feed = refl; count = refl }
dots_text (suc zero) h = record { rest = codes "._0)"; text_is = refl; no_bar = refl; no_round = refl; no_tilde = refl; no_feed = refl; count = refl }
dots_text (suc (suc zero)) h = record { rest = codes "._0,._1)"; text_is = refl; no_bar = refl; no_round = refl; no_tilde = refl; no_feed = refl; count = refl }
dots_text (suc (suc (suc zero))) h = record {
  rest = codes "._0,._1,._2)";
  text_is = refl;
  no_bar = refl;
  no_round = refl;
  no_tilde = refl;
  no_feed =
      refl;
  count = refl;
}
dots_text (suc (suc (suc (suc zero)))) h = record {
  rest = codes "._0,._1,._2,._3)";
  text_is = refl;
  no_bar = refl;
  no_round = refl;
  no_tilde =
      refl;
  no_feed = refl;
  count = refl;
}
dots_text (suc (suc (suc (suc (suc zero))))) h = record {
  rest = codes "._0,._1,._2,._3,._4)";
  text_is = refl;
  no_bar = refl;
  no_round =
      refl;
  no_tilde = refl;
  no_feed = refl;
  count = refl;
}
dots_text (suc (suc (suc (suc (suc (suc zero)))))) h = record {
  rest = codes "._0,._1,._2,._3,._4,._5)";
  text_is = refl;
  no_bar = refl;
  no_round =
      refl;
  no_tilde = refl;
  no_feed = refl;
  count = refl;
}
dots_text (suc (suc (suc (suc (suc (suc (suc zero))))))) h = record {
  rest = codes "._0,._1,._2,._3,._4,._5,._6)";
  text_is = refl;
  no_bar =
      refl;
  no_round = refl;
  no_tilde = refl;
  no_feed = refl;
  count = refl;
}
dots_text (suc (suc (suc (suc (suc (suc (suc (suc zero)))))))) h = record {
  rest = codes "._0,._1,._2,._3,._4,._5,._6,._7)";
  text_is = refl;
  no_bar =
      refl;
  no_round = refl;
  no_tilde = refl;
  no_feed = refl;
  count = refl;
}
dots_text (suc (suc (suc (suc (suc (suc (suc (suc (suc n))))))))) h = absurd (omega (arith, h))

-- ---- the symbol of a text

abbrev pub sym_of : Kind → List ℕ → ℕ → Option (List ℕ) → Sym
sym_of k x n y = record { kind = k; name = x; arity = n; taboo = y }

-- terms have functions, and formulas predicates
abbrev applied : ℕ → Kind
applied rank = if rank == 0 then Func else Pred

abbrev unit : ℕ → Kind
unit rank = if rank == 0 then UnitFunc else UnitPred

taboo_in : List ℕ → Option (List ℕ)
taboo_in [] = None
taboo_in (c ∷ y) = Some (c ∷ y)

by_bars : ℕ → List ℕ → List ℕ → List (List ℕ) → Sym
by_bars rank x y [] = sym_of (applied rank) x 0 None
by_bars rank x y (a ∷ []) = sym_of (applied rank) x (arity_in y) None
by_bars rank x y (a ∷ b ∷ rest) = sym_of (unit rank) x 0 (taboo_in b)

first_of : List (List ℕ) → List ℕ
first_of [] = []
first_of (a ∷ l) = a

second_of : List (List ℕ) → Option (List ℕ)
second_of [] = None
second_of (a ∷ []) = None
second_of (a ∷ b ∷ l) = Some b

by_brace : List (List ℕ) → Sym
by_brace [] = sym_of Quant [] 0 None
by_brace (x ∷ []) = sym_of Quant x 0 None
by_brace ((c ∷ x) ∷ y ∷ rest) = sym_of Quant (c ∷ x) 0 None
by_brace ([] ∷ y ∷ []) = sym_of Ode (first_of (parts_of 125 y)) 0 None
by_brace ([] ∷ y ∷ z ∷ rest) = sym_of Ode y 0 (second_of (parts_of 124 z))

by_semicolon : List ℕ → List (List ℕ) → Sym
by_semicolon text [] = by_brace (parts_of 123 text)
by_semicolon text (x ∷ []) = by_brace (parts_of 123 text)
by_semicolon text (x ∷ y ∷ rest) = sym_of Prog x 0 None

by_round : ℕ → List ℕ → List (List ℕ) → Sym
by_round rank text [] = by_semicolon text (parts_of 59 text)
by_round rank text (x ∷ []) = by_semicolon text (parts_of 59 text)
by_round rank text (x ∷ y ∷ rest) = by_bars rank x y (parts_of 124 y)

pub symbol_in : ℕ → List ℕ → Sym
symbol_in rank text = by_round rank text (parts_of 40 text)

-- a function or a predicate
module _ (rank : ℕ) where
  call_back : (k : Kind) (s : Sym) → applied rank ≡ k → (kind_row k).taboo ≡ false → is_name s.name ≡ true → s.arity ≤ 8 → is_sym_of k s ≡ true →
      symbol_in rank (s.name ++ spell (dots s.arity)) ≡ s
  unfolding symbol_in by_round by_bars
  call_back k s kind none named few h =
      let d = dots_text s.arity few in
      let text = ap (λ l. s.name ++ l) d.text_is in
      let round = next_part 40 s.name d.rest refl (name_lacks 40 refl s.name named) ∙ ap (λ l. s.name ∷ l) (one_part 40 d.rest d.no_round) in
      let bars = one_part 124 d.rest d.no_bar in
      ap (symbol_in rank) text ∙ ap (by_round rank (s.name ++ 40 ∷ d.rest)) round ∙ ap (by_bars rank s.name d.rest) bars
      ∙ ap (λ n. sym_of (applied rank) s.name n None) d.count ∙ ap (λ j. sym_of j s.name s.arity None) kind ∙ called k s s.arity none refl h

  unit_text_back : (k : Kind) (s : Sym) (y : Option (List ℕ)) → unit rank ≡ k → s.taboo ≡ y → taboo_is_name y ≡ true →
      (kind_row k).arguments ≡ false → is_name s.name ≡ true → is_sym_of k s ≡ true →
      symbol_in rank (spell (shown_as UnitFunc (record s { taboo = y }))) ≡ s
  unfolding symbol_in by_round by_bars taboo_in
  unit_text_back k s None kind e real without named h =
      let rest = codes "||)" in
      let round = next_part 40 s.name rest refl (name_lacks 40 refl s.name named) in
      ap (by_round rank (s.name ++ 40 ∷ rest)) round ∙ ap (λ j. sym_of j s.name 0 None) kind ∙ ap (sym_of k s.name 0) (sym e) ∙ unit_again k s without h
  unit_text_back k s (Some []) kind e real without named h = absurd (cc real)
  unit_text_back k s (Some (c ∷ y)) kind e real without named h =
      let rest = 124 ∷ (c ∷ y) ++ codes "|)" in
      let no_round : lacks 40 rest ≡ true = lacks_both 40 (124 ∷ c ∷ y) (codes "|)") (name_lacks 40 refl (c ∷ y) real) refl in
      let round = next_part 40 s.name rest refl (name_lacks 40 refl s.name named) ∙ ap (λ l. s.name ∷ l) (one_part 40 rest no_round) in
      let bars = next_part 124 [] ((c ∷ y) ++ codes "|)") refl refl ∙ ap (λ l. [] ∷ l) (next_part 124 (c ∷ y) (codes ")") refl (name_lacks 124 refl
      (c ∷ y) real)) in
      ap (by_round rank (s.name ++ 40 ∷ rest)) round ∙ ap (by_bars rank s.name rest) bars ∙ ap (λ j. sym_of j s.name 0 (Some (c ∷ y))) kind
      ∙ ap (sym_of k s.name 0) (sym e) ∙ unit_again k s without h

  quant_back : (s : Sym) → is_name s.name ≡ true → is_sym_of Quant s ≡ true → symbol_in rank (spell (shown_as Quant s)) ≡ s
  unfolding symbol_in by_round by_semicolon by_brace
  quant_back s named h =
      let text = s.name ++ codes "{_}" in
      let round = one_part 40 text (lacks_both 40 s.name (codes "{_}") (name_lacks 40 refl s.name named) refl) in
      let semicolon = one_part 59 text (lacks_both 59 s.name (codes "{_}") (name_lacks 59 refl s.name named) refl) in
      let brace = next_part 123 s.name (codes "_}") refl (name_lacks 123 refl s.name named) in
      ap (by_round rank text) round ∙ ap (by_semicolon text) semicolon ∙ ap by_brace brace ∙ some_name s.name named ∙ bare Quant s refl refl h
    where
      some_name : (x : List ℕ) → is_name x ≡ true → by_brace (x ∷ codes "_}" ∷ []) ≡ sym_of Quant x 0 None
      some_name [] real = absurd (cc real)
      some_name (c ∷ x) real = refl

  prog_back : (s : Sym) → is_name s.name ≡ true → is_sym_of Prog s ≡ true → symbol_in rank (spell (shown_as Prog s)) ≡ s
  unfolding symbol_in by_round by_semicolon
  prog_back s named h =
      let text = s.name ++ codes ";" in
      let round = one_part 40 text (lacks_both 40 s.name (codes ";") (name_lacks 40 refl s.name named) refl) in
      let semicolon = next_part 59 s.name [] refl (name_lacks 59 refl s.name named) in
      ap (by_round rank text) round ∙ ap (by_semicolon text) semicolon ∙ bare Prog s refl refl h

  ode_back : (s : Sym) (y : Option (List ℕ)) → s.taboo ≡ y → taboo_is_name y ≡ true → is_name s.name ≡ true → is_sym_of Ode s ≡ true →
      symbol_in rank (spell (shown_as Ode (record s { taboo = y }))) ≡ s
  unfolding symbol_in by_round by_semicolon by_brace first_of second_of
  ode_back s None e real named h =
      let behind = s.name ++ codes "}" in
      let text = 123 ∷ behind in
      let round = one_part 40 text (lacks_both 40 (123 ∷ s.name) (codes "}") (name_lacks 40 refl s.name named) refl) in
      let semicolon = one_part 59 text (lacks_both 59 (123 ∷ s.name) (codes "}") (name_lacks 59 refl s.name named) refl) in
      let brace = next_part 123 [] behind refl refl ∙ ap (λ l. [] ∷ l) (one_part 123 behind (lacks_both 123 s.name (codes "}")
      (name_lacks 123 refl s.name named) refl)) in
      ap (by_round rank text) round ∙ ap (by_semicolon text) semicolon ∙ ap by_brace brace
      ∙ ap (λ l. sym_of Ode (first_of l) 0 None) (next_part 125 s.name [] refl (name_lacks 125 refl s.name named)) ∙ ap (sym_of Ode s.name 0) (sym e)
      ∙ unit_again Ode s refl h
  ode_back s (Some y) e real named h =
      let inner = 124 ∷ y ++ codes "|}}" in
      let behind = s.name ++ 123 ∷ inner in
      let text = 123 ∷ behind in
      let flat : (byte : ℕ) → lacks byte y ≡ true → lacks byte s.name ≡ true → lacks byte (codes "{") ≡ true → lacks byte (codes "{|") ≡ true →
      lacks byte (codes "|}}") ≡ true → lacks byte text ≡ true =
      λ byte a b c d f. lacks_both byte (codes "{") behind c (lacks_both byte s.name (123 ∷ inner) b (lacks_both byte (codes "{|") (y ++ codes "|}}")
      d (lacks_both byte y (codes "|}}") a f))) in
      let round = one_part 40 text (flat 40 (name_lacks 40 refl y real) (name_lacks 40 refl s.name named) refl refl refl) in
      let semicolon = one_part 59 text (flat 59 (name_lacks 59 refl y real) (name_lacks 59 refl s.name named) refl refl refl) in
      let no_brace : lacks 123 inner ≡ true = lacks_both 123 (124 ∷ y) (codes "|}}") (name_lacks 123 refl y real) refl in
      let brace = next_part 123 [] behind refl refl ∙ ap (λ l. [] ∷ l) (next_part 123 s.name inner refl (name_lacks 123 refl s.name named)
      ∙ ap (λ l. s.name ∷ l) (one_part 123 inner no_brace)) in
      let bars = next_part 124 [] (y ++ codes "|}}") refl refl ∙ ap (λ l. [] ∷ l) (next_part 124 y (codes "}}") refl (name_lacks 124 refl y real)) in
      ap (by_round rank text) round ∙ ap (by_semicolon text) semicolon ∙ ap by_brace brace
      ∙ ap (λ l. sym_of Ode s.name 0 (second_of l)) bars ∙ ap (sym_of Ode s.name 0) (sym e) ∙ unit_again Ode s refl h

-- by kind
by_kind : (k : Kind) (s : Sym) → is_sym_of k s ≡ true → symbol_in (sort_rank (kind_row k).sort) (spell (shown_as k s)) ≡ s
by_kind Func s h = let p = symbol_parts Func s h in call_back 0 Func s refl refl p.name_is (leb-true s.arity 8 p.arity_is) h
by_kind Pred s h = let p = symbol_parts Pred s h in call_back 1 Pred s refl refl p.name_is (leb-true s.arity 8 p.arity_is) h
by_kind UnitFunc s h = let p = symbol_parts UnitFunc s h in unit_text_back 0 UnitFunc s s.taboo refl refl p.taboo_is refl p.name_is h
by_kind UnitPred s h = let p = symbol_parts UnitPred s h in unit_text_back 1 UnitPred s s.taboo refl refl p.taboo_is refl p.name_is h
by_kind Quant s h = quant_back 1 s (symbol_parts Quant s h).name_is h
by_kind Prog s h = prog_back 2 s (symbol_parts Prog s h).name_is h
by_kind Ode s h = let p = symbol_parts Ode s h in ode_back 2 s s.taboo refl p.taboo_is p.name_is h

-- a symbol is found again
pub symbol_back : (s : Sym) → is_sym s ≡ true → symbol_in (sort_rank (kind_row s.kind).sort) (spell (shown_symbol s)) ≡ s
symbol_back s h = by_kind s.kind s (and_from (kind_rank s.kind == kind_rank s.kind) (is_sym s) (eq-eqb (kind_rank s.kind) (kind_rank s.kind) refl) h)

-- ---- what stands in no symbol

module _ (byte : ℕ) (no_name : is_name_byte byte ≡ false) (in_dots : (n : ℕ) → n ≤ 8 → lacks byte (spell (dots n)) ≡ true)
    (rounds : lacks byte (codes "(||)") ≡ true) (opens : lacks byte (codes "(|") ≡ true) (closes : lacks byte (codes "|)") ≡ true) (hole : lacks byte
    (codes "{_}") ≡ true)
    (semicolon : lacks byte (codes ";") ≡ true) (brace : lacks byte (codes "{") ≡ true) (ends : lacks byte (codes "}") ≡ true) (bars : lacks byte
    (codes "{|") ≡ true)
    (ends_bars : lacks byte (codes "|}}") ≡ true) where
  unit_flat : (x : List ℕ) (y : Option (List ℕ)) → is_name x ≡ true → taboo_is_name y ≡ true → lacks byte (x ++ spell (unit_brackets y)) ≡ true
  unit_flat x None h g = lacks_both byte x (codes "(||)") (name_lacks byte no_name x h) rounds
  unit_flat x (Some y) h g =
      lacks_both byte x (codes "(|" ++ (y ++ codes "|)")) (name_lacks byte no_name x h) (lacks_both byte (codes "(|") (y ++ codes "|)") opens
      (lacks_both byte y (codes "|)") (name_lacks byte no_name y g) closes))

  ode_flat : (x : List ℕ) (y : Option (List ℕ)) → is_name x ≡ true → taboo_is_name y ≡ true → lacks byte (spell (shown_as Ode (sym_of Ode x 0 y))) ≡ true
  ode_flat x None h g = lacks_both byte (codes "{") (x ++ codes "}") brace (lacks_both byte x (codes "}") (name_lacks byte no_name x h) ends)
  ode_flat x (Some y) h g =
      lacks_both byte (codes "{") (x ++ (codes "{|" ++ (y ++ codes "|}}"))) brace (lacks_both byte x (codes "{|" ++ (y ++ codes "|}}"))
      (name_lacks byte no_name x h)
      (lacks_both byte (codes "{|") (y ++ codes "|}}") bars (lacks_both byte y (codes "|}}") (name_lacks byte no_name y g) ends_bars)))

  kind_flat : (k : Kind) (s : Sym) → is_sym_of k s ≡ true → lacks byte (spell (shown_as k s)) ≡ true
  kind_flat Func s h = let p = symbol_parts Func s h in lacks_both byte s.name (spell (dots s.arity)) (name_lacks byte no_name s.name p.name_is)
      (in_dots s.arity (leb-true s.arity 8 p.arity_is))
  kind_flat Pred s h = let p = symbol_parts Pred s h in lacks_both byte s.name (spell (dots s.arity)) (name_lacks byte no_name s.name p.name_is)
      (in_dots s.arity (leb-true s.arity 8 p.arity_is))
  kind_flat UnitFunc s h = let p = symbol_parts UnitFunc s h in unit_flat s.name s.taboo p.name_is p.taboo_is
  kind_flat UnitPred s h = let p = symbol_parts UnitPred s h in unit_flat s.name s.taboo p.name_is p.taboo_is
  kind_flat Quant s h = lacks_both byte s.name (codes "{_}") (name_lacks byte no_name s.name (symbol_parts Quant s h).name_is) hole
  kind_flat Prog s h = lacks_both byte s.name (codes ";") (name_lacks byte no_name s.name (symbol_parts Prog s h).name_is) semicolon
  kind_flat Ode s h = let p = symbol_parts Ode s h in ode_flat s.name s.taboo p.name_is p.taboo_is

of_its_kind : (s : Sym) → is_sym s ≡ true → is_sym_of s.kind s ≡ true
of_its_kind s h = and_from (kind_rank s.kind == kind_rank s.kind) (is_sym s) (eq-eqb (kind_rank s.kind) (kind_rank s.kind) refl) h

dots_tilde : (n : ℕ) → n ≤ 8 → lacks 126 (spell (dots n)) ≡ true
dots_tilde n h = let d = dots_text n h in ap (lacks 126) d.text_is ∙ d.no_tilde

dots_feed : (n : ℕ) → n ≤ 8 → lacks 10 (spell (dots n)) ≡ true
dots_feed n h = let d = dots_text n h in ap (lacks 10) d.text_is ∙ d.no_feed

pub symbol_tilde : (s : Sym) → is_sym s ≡ true → lacks 126 (spell (shown_symbol s)) ≡ true
symbol_tilde s h = kind_flat 126 refl dots_tilde refl refl refl refl refl refl refl refl refl s.kind s (of_its_kind s h)

-- no line feed stands in a symbol
pub symbol_feed : (s : Sym) → is_sym s ≡ true → lacks 10 (spell (shown_symbol s)) ≡ true
symbol_feed s h = kind_flat 10 refl dots_feed refl refl refl refl refl refl refl refl refl s.kind s (of_its_kind s h)
