-- What the text of a symbol is made of, by its kind.
use Rattle.std.proofs.Common.{◌≡◌, ◌≢◌, ℕ, zero, suc, ◌+◌, ◌<◌, ◌≤◌, ◌==◌, true, false, ◌&&◌, ◌||◌, List, ◌∷◌, ◌++◌, Option, Some, None, codes, refl}
use Rattle.std.proofs.Common.{sym, ap, subst, ◌∙◌, append_assoc, ◌⊎◌, inl, inr, arith}
use Rattle.std.specs.Prelude.{IsTrue, is_none}
use Rattle.std.specs.Fmt.{digits}
use Rattle.std.proofs.lemmas.Bool.{and_parts, and_from, eq-eqb, leb-true, cases_lt}
use Rattle.std.proofs.lemmas.List.{append_cancel_right}
use Rattle.dlk_tree.specs.declared.op.Sym.{Sym}
use Rattle.dlk_tree.specs.declared.op.Kind.{Kind}
use Rattle.dlk_tree.specs.declared.op.Kind.TheVariants.{Func, UnitFunc, Pred, UnitPred, Quant, Prog, Ode}
use Rattle.dlk_tree.specs.declared.op.Sort.{Sort}
use Rattle.dlk_tree.specs.declared.op.Sort.TheVariants as sort
use Rattle.dlk_tree.specs.Names.{is_name}
use Rattle.dlk_tree.specs.Tests.{kind_rank, sort_rank}
use Rattle.dlk_tree.specs.Table.{kind_row, has_arity, taboo_is_name, is_sym, is_sym_of}
use Rattle.dlk_grammar.specs.Shown.{spell, unit_brackets}
use Rattle.dlk_grammar.specs.Symbols.{dots, shown_as, shown_symbol}
use Rattle.dlk_lines.specs.Parts.{CutAt}
use Rattle.dlk_lines.proofs.Cuts.{one_cut}
use Rattle.dlk_nodes.specs.Words.{constant_text}
use Rattle.dlk_nodes.specs.Details.{SpellsConstant}
use Rattle.dlk_nodes.specs.Symbols.{dots_bytes, AreDots, taboo_bytes, SpellsTaboo, SpellsSymbol, SpellsOfSort, ArePaired, of_terms, of_formulas, SpellsCalled}
use Rattle.dlk_nodes.proofs.Fields.{lacks, lacks_both}
use Rattle.dlk_nodes.proofs.OpsBack.{name_lacks, symbol_parts, called, bare}
use Rattle.dlk_nodes.proofs.DetailLaws.{Uncut, not_lacking}
use Rattle.dlk_nodes.proofs.SymbolBack.{arity_in, dots_text, symbol_in, symbol_back, sym_of}

own_kind : (s : Sym) (k : Kind) → s.kind ≡ k → is_sym s ≡ true → is_sym_of k s ≡ true
own_kind s k e h = and_from (kind_rank s.kind == kind_rank k) (is_sym s) (eq-eqb (kind_rank s.kind) (kind_rank k) (ap kind_rank e)) h

own_text : (text : List ℕ) (s : Sym) (k : Kind) → s.kind ≡ k → text ≡ spell (shown_symbol s) → text ≡ spell (shown_as k s)
own_text text s k e t = t ∙ ap (λ j. spell (shown_as j s)) e

-- ---- forms

-- a name over argument dots
pub record CallForm (k : Kind) (text : List ℕ) (s : Sym) : Type 0 where
  pub is : sym_of k s.name s.arity None ≡ s
  pub few : s.arity ≤ 8
  pub text_is : text ≡ s.name ++ spell (dots s.arity)

-- a unit symbol
pub record UnitForm (k : Kind) (text : List ℕ) (s : Sym) : Type 0 where
  pub real : taboo_is_name s.taboo ≡ true
  pub text_is : text ≡ s.name ++ spell (unit_brackets s.taboo)

-- a name and an ending
pub record EndForm (k : Kind) (ending text : List ℕ) (s : Sym) : Type 0 where
  pub is : sym_of k s.name 0 None ≡ s
  pub text_is : text ≡ s.name ++ ending

-- a constant in braces
pub record BraceForm (text : List ℕ) (s : Sym) : Type 0 where
  pub inner : List ℕ
  pub spells : SpellsConstant inner (s.name, s.taboo)
  pub text_is : text ≡ 123 ∷ (inner ++ codes "}")

module _ (text : List ℕ) (s : Sym) (w : SpellsSymbol text s) where
  pub named : is_name s.name ≡ true
  named = (symbol_parts s.kind s (own_kind s s.kind refl w.real)).name_is

  call_form : (k : Kind) → s.kind ≡ k → (kind_row k).taboo ≡ false → has_arity k s.arity ≡ true → s.arity ≤ 8 →
      text ≡ s.name ++ spell (dots s.arity) → CallForm k text s
  call_form k e none real few t = record { is = called k s s.arity none refl (own_kind s k e w.real); few = few; text_is = t }

  its_arity : (k : Kind) → s.kind ≡ k → has_arity k s.arity ≡ true
  its_arity k e = (symbol_parts k s (own_kind s k e w.real)).arity_is

  func_form : s.kind ≡ Func → CallForm Func text s
  func_form e = call_form Func e refl (its_arity Func e) (leb-true s.arity 8 (its_arity Func e)) (own_text text s Func e w.text_is)

  pred_form : s.kind ≡ Pred → CallForm Pred text s
  pred_form e = call_form Pred e refl (its_arity Pred e) (leb-true s.arity 8 (its_arity Pred e)) (own_text text s Pred e w.text_is)

  unit_form : (k : Kind) → s.kind ≡ k → text ≡ s.name ++ spell (unit_brackets s.taboo) → UnitForm k text s
  unit_form k e t = record { real = (symbol_parts k s (own_kind s k e w.real)).taboo_is; text_is = t }

  pub called_form : (a u : Kind) → ArePaired a u → (s.kind ≡ a) ⊎ (s.kind ≡ u) → CallForm a text s ⊎ UnitForm u text s
  called_form _ _ of_terms (inl e) = inl (func_form e)
  called_form _ _ of_terms (inr e) = inr (unit_form UnitFunc e (own_text text s UnitFunc e w.text_is))
  called_form _ _ of_formulas (inl e) = inl (pred_form e)
  called_form _ _ of_formulas (inr e) = inr (unit_form UnitPred e (own_text text s UnitPred e w.text_is))

  quant_form : s.kind ≡ Quant → EndForm Quant (codes "{_}") text s
  quant_form e = record { is = bare Quant s refl refl (own_kind s Quant e w.real); text_is = own_text text s Quant e w.text_is }

  prog_form : s.kind ≡ Prog → EndForm Prog (codes ";") text s
  prog_form e = record { is = bare Prog s refl refl (own_kind s Prog e w.real); text_is = own_text text s Prog e w.text_is }

  ode_form : s.kind ≡ Ode → BraceForm text s
  ode_form e =
      let p = symbol_parts Ode s (own_kind s Ode e w.real) in
      by_taboo s.taboo refl p.taboo_is (own_text text s Ode e w.text_is)
    where
      by_taboo : (y : Option (List ℕ)) → s.taboo ≡ y → taboo_is_name s.taboo ≡ true → text ≡ spell (shown_as Ode s) → BraceForm text s
      by_taboo y e real t = record {
        inner = constant_text s.name s.taboo;
        spells = record { real = and_from (is_name s.name) (taboo_is_name s.taboo) named real; text_is = refl };
        text_is = t ∙ grouped s.taboo;
      }
        where
          grouped : (z : Option (List ℕ)) → spell (shown_as Ode (record s { taboo = z })) ≡ 123 ∷ (constant_text s.name z ++ codes "}")
          grouped None = refl
          grouped (Some z) = simp append_assoc

  -- by its sort
  pub for_terms : (kind_row s.kind).sort ≡ sort.Term → SpellsCalled Func UnitFunc text s
  for_terms e = by_kind s.kind refl e
    where
      by_kind : (k : Kind) → s.kind ≡ k → (kind_row k).sort ≡ sort.Term → SpellsCalled Func UnitFunc text s
      by_kind Func is e = record { spells = w; kind_is = inl is }
      by_kind UnitFunc is e = record { spells = w; kind_is = inr is }
      by_kind Pred is e = absurd (cc e)
      by_kind UnitPred is e = absurd (cc e)
      by_kind Quant is e = absurd (cc e)
      by_kind Prog is e = absurd (cc e)
      by_kind Ode is e = absurd (cc e)

  pub for_formulas : (kind_row s.kind).sort ≡ sort.Formula → SpellsCalled Pred UnitPred text s ⊎ EndForm Quant (codes "{_}") text s
  for_formulas e = by_kind s.kind refl e
    where
      by_kind : (k : Kind) → s.kind ≡ k → (kind_row k).sort ≡ sort.Formula → SpellsCalled Pred UnitPred text s ⊎ EndForm Quant (codes "{_}") text s
      by_kind Func is e = absurd (cc e)
      by_kind UnitFunc is e = absurd (cc e)
      by_kind Pred is e = inl (record { spells = w; kind_is = inl is })
      by_kind UnitPred is e = inl (record { spells = w; kind_is = inr is })
      by_kind Quant is e = inr (quant_form is)
      by_kind Prog is e = absurd (cc e)
      by_kind Ode is e = absurd (cc e)

  pub for_programs : (kind_row s.kind).sort ≡ sort.Program → EndForm Prog (codes ";") text s ⊎ BraceForm text s
  for_programs e = by_kind s.kind refl e
    where
      by_kind : (k : Kind) → s.kind ≡ k → (kind_row k).sort ≡ sort.Program → EndForm Prog (codes ";") text s ⊎ BraceForm text s
      by_kind Func is e = absurd (cc e)
      by_kind UnitFunc is e = absurd (cc e)
      by_kind Pred is e = absurd (cc e)
      by_kind UnitPred is e = absurd (cc e)
      by_kind Quant is e = absurd (cc e)
      by_kind Prog is e = inl (prog_form is)
      by_kind Ode is e = inr (ode_form is)

-- ---- dots

-- the table is the grammar's
pub dots_are : (n : ℕ) → n ≤ 8 → spell (dots n) ≡ 40 ∷ dots_bytes n
unfolding digits
dots_are zero h = refl
dots_are (suc zero) h = refl
dots_are (suc (suc zero)) h = refl
dots_are (suc (suc (suc zero))) h = refl
dots_are (suc (suc (suc (suc zero)))) h = refl
dots_are (suc (suc (suc (suc (suc zero))))) h = refl
dots_are (suc (suc (suc (suc (suc (suc zero)))))) h = refl
dots_are (suc (suc (suc (suc (suc (suc (suc zero))))))) h = refl
dots_are (suc (suc (suc (suc (suc (suc (suc (suc zero)))))))) h = refl
dots_are (suc (suc (suc (suc (suc (suc (suc (suc (suc n))))))))) h = absurd (omega (arith, h))

pub dots_found : (text : List ℕ) (n : ℕ) → n ≤ 8 → text ≡ dots_bytes n → AreDots text n
dots_found text n few e = record { few = few; text_is = dots_are n few ∙ ap (λ l. 40 ∷ l) (sym e) }

pub dots_here : (text : List ℕ) (n : ℕ) → AreDots text n → text ≡ dots_bytes n
dots_here text n a = let both : 40 ∷ text ≡ 40 ∷ dots_bytes n = sym a.text_is ∙ dots_are n a.few in cc

-- none of the first numbers
abbrev pub NoneBelow : List ℕ → ℕ → Type 0
NoneBelow text k = (m : ℕ) → m < k → ¬ AreDots text m

pub none_at : (text : List ℕ) (k : ℕ) → NoneBelow text k → text ≢ dots_bytes k → NoneBelow text (k + 1)
none_at text k none other m less a = elim (cases_lt m k) [
  | inl below ↦ none m below a
  | inr above ↦ let same : m ≡ k = omega (arith, less, above) in other (dots_here text k (subst (AreDots text) same a))
]

pub none_at_all : (text : List ℕ) → NoneBelow text 9 → (n : ℕ) → ¬ AreDots text n
none_at_all text none n a = let few = a.few in none n (omega (arith, few)) a

-- ---- cuts

-- a text has one number of dots
pub one_arity : (text : List ℕ) (m n : ℕ) → AreDots text m → AreDots text n → m ≡ n
one_arity text m n a b =
    let d = dots_text m a.few in
    let e = dots_text n b.few in
    let left : 40 ∷ text ≡ 40 ∷ d.rest = sym a.text_is ∙ d.text_is in
    let right : 40 ∷ text ≡ 40 ∷ e.rest = sym b.text_is ∙ e.text_is in
    let p : text ≡ d.rest = cc in
    let q : text ≡ e.rest = cc in
    sym d.count ∙ ap arity_in (sym p ∙ q) ∙ e.count

pub no_bar_in_dots : (text inner : List ℕ) (n : ℕ) → text ≡ 124 ∷ inner → ¬ AreDots text n
no_bar_in_dots text inner n e a =
    let d = dots_text n a.few in
    let both : 40 ∷ text ≡ 40 ∷ d.rest = sym a.text_is ∙ d.text_is in
    let same : text ≡ d.rest = cc in
    let clash : false ≡ true = ap (lacks 124) (sym e ∙ same) ∙ d.no_bar in
    cc clash

module _ (k : Kind) (text : List ℕ) (s : Sym) (real : is_name s.name ≡ true) where
  pub call_cut : (x rest : List ℕ) → CutAt text 40 x rest → CallForm k text s → (x ≡ s.name) × AreDots rest s.arity
  call_cut x rest cut f =
      let d = dots_text s.arity f.few in
      let whole : text ≡ s.name ++ 40 ∷ d.rest = f.text_is ∙ ap (λ l. s.name ++ l) d.text_is in
      let same = one_cut text 40 x s.name rest d.rest cut (record { text_is = whole; first = name_lacks 40 refl s.name real }) in
      (same.0, record { few = f.few; text_is = d.text_is ∙ ap (λ l. 40 ∷ l) (sym same.1) })

  bars : (y : Option (List ℕ)) → spell (unit_brackets y) ≡ 40 ∷ (124 ∷ (taboo_bytes y ++ codes "|)"))
  bars None = refl
  bars (Some y) = refl

  pub unit_cut : (x rest : List ℕ) → CutAt text 40 x rest → UnitForm k text s → (x ≡ s.name) × (rest ≡ 124 ∷ (taboo_bytes s.taboo ++ codes "|)"))
  unit_cut x rest cut f =
      let whole : text ≡ s.name ++ 40 ∷ (124 ∷ (taboo_bytes s.taboo ++ codes "|)")) = f.text_is ∙ ap (λ l. s.name ++ l) (bars s.taboo) in
      one_cut text 40 x s.name rest (124 ∷ (taboo_bytes s.taboo ++ codes "|)")) cut
      (record { text_is = whole; first = name_lacks 40 refl s.name real })

-- ---- called symbols

module _ (a u : Kind) (pair : ArePaired a u) (text : List ℕ) where
  forms : (s : Sym) → SpellsCalled a u text s → CallForm a text s ⊎ UnitForm u text s
  forms s c = called_form text s c.spells a u pair c.kind_is

  pub round_wanted : Uncut 40 text → (s : Sym) → ¬ SpellsCalled a u text s
  round_wanted uncut s c = elim (forms s c) [
    | inl f ↦ let d = dots_text s.arity f.few in uncut s.name d.rest (f.text_is ∙ ap (λ l. s.name ++ l) d.text_is)
    | inr f ↦ uncut s.name (124 ∷ (taboo_bytes s.taboo ++ codes "|)")) (f.text_is ∙ ap (λ l. s.name ++ l) (bars a text s (named text s c.spells) s.taboo))
  ]

  module _ (x rest : List ℕ) (cut : CutAt text 40 x rest) where
    -- no bar behind the bracket
    module _ (no_bar : (inner : List ℕ) → rest ≢ 124 ∷ inner) where
      pub dots_wanted : ((n : ℕ) → ¬ AreDots rest n) → (s : Sym) → ¬ SpellsCalled a u text s
      dots_wanted none s c = elim (forms s c) [
        | inl f ↦ none s.arity (call_cut a text s (named text s c.spells) x rest cut f).1
        | inr f ↦ no_bar (taboo_bytes s.taboo ++ codes "|)") (unit_cut u text s (named text s c.spells) x rest cut f).1
      ]

      pub symbol_wanted : (n : ℕ) → AreDots rest n → ¬ IsTrue (is_sym (sym_of a x n None)) → (s : Sym) → ¬ SpellsCalled a u text s
      symbol_wanted n are none s c = elim (forms s c) [
        | inl f ↦
            let w = call_cut a text s (named text s c.spells) x rest cut f in
            let arity = one_arity rest n s.arity are w.1 in
            let same : sym_of a x n None ≡ s = (λ i. sym_of a (w.0 i) (arity i) None) ∙ f.is in
            none (subst (λ t. is_sym t ≡ true) (sym same) c.spells.real)
        | inr f ↦ no_bar (taboo_bytes s.taboo ++ codes "|)") (unit_cut u text s (named text s c.spells) x rest cut f).1
      ]

    pub call_found : (n : ℕ) (s : Sym) → AreDots rest n → s ≡ sym_of a x n None → is_sym s ≡ true → SpellsCalled a u text s
    call_found n s are is real = by_pair a u pair is
      where
        whole : text ≡ x ++ spell (dots n)
        whole = cut.text_is ∙ ap (λ l. x ++ l) (sym are.text_is)

        made : (k v : Kind) → s ≡ sym_of k x n None → spell (shown_as k (sym_of k x n None)) ≡ x ++ spell (dots n) → SpellsCalled k v text s
        made k v is shown = record {
          spells = record { real = real; text_is = whole ∙ sym shown ∙ ap (λ (t : Sym). spell (shown_symbol t)) (sym is) };
          kind_is = inl (ap (λ (t : Sym). t.kind) is);
        }

        by_pair : (k v : Kind) → ArePaired k v → s ≡ sym_of k x n None → SpellsCalled k v text s
        by_pair _ _ of_terms is = made Func UnitFunc is refl
        by_pair _ _ of_formulas is = made Pred UnitPred is refl

    -- a bar behind it
    module _ (inner : List ℕ) (bar : rest ≡ 124 ∷ inner) where
      unit_inner : (s : Sym) → SpellsCalled a u text s → (x ≡ s.name) × (taboo_is_name s.taboo ≡ true) × (inner ≡ taboo_bytes s.taboo ++ codes "|)")
      unit_inner s c = elim (forms s c) [
        | inl f ↦ absurd (no_bar_in_dots rest inner s.arity bar (call_cut a text s (named text s c.spells) x rest cut f).1)
        | inr f ↦
            let w = unit_cut u text s (named text s c.spells) x rest cut f in
            let both : 124 ∷ inner ≡ 124 ∷ (taboo_bytes s.taboo ++ codes "|)") = sym bar ∙ w.1 in
            (w.0, f.real, cc)
      ]

      pub bars_wanted : ((front : List ℕ) → inner ≢ front ++ codes "|)") → (s : Sym) → ¬ SpellsCalled a u text s
      bars_wanted none s c = none (taboo_bytes s.taboo) (unit_inner s c).2

      pub name_wanted : ¬ IsTrue (is_name x) → (s : Sym) → ¬ SpellsCalled a u text s
      name_wanted none s c = none (subst (λ y. is_name y ≡ true) (sym (unit_inner s c).0) (named text s c.spells))

      module _ (y : List ℕ) (ends : inner ≡ y ++ codes "|)") where
        pub taboo_wanted : ((t : Option (List ℕ)) → ¬ SpellsTaboo y t) → (s : Sym) → ¬ SpellsCalled a u text s
        taboo_wanted none s c =
            let w = unit_inner s c in
            none s.taboo (record { real = w.1; text_is = append_cancel_right y (taboo_bytes s.taboo) (codes "|)") (sym ends ∙ w.2) })

        pub unit_found : (t : Option (List ℕ)) (s : Sym) → is_name x ≡ true → SpellsTaboo y t → s ≡ sym_of u x 0 t → SpellsCalled a u text s
        unit_found t s real spells is = by_pair a u pair is
          where
            any_taboo : (z : Option (List ℕ)) → (is_none z || true) ≡ true
            any_taboo None = refl
            any_taboo (Some z) = refl

            bracketed : (k : Kind) → spell (unit_brackets t) ≡ 40 ∷ (124 ∷ (taboo_bytes t ++ codes "|)"))
            bracketed k = bars k text s (subst (λ z. is_name z ≡ true) (ap (λ (v : Sym). v.name) (sym is)) real) t

            whole : text ≡ x ++ spell (unit_brackets t)
            whole =
                cut.text_is ∙ ap (λ l. x ++ 40 ∷ l) (bar ∙ ap (λ l. 124 ∷ l) (ends ∙ ap (λ l. l ++ codes "|)") spells.text_is))
                ∙ ap (λ l. x ++ l) (sym (bracketed u))

            real_symbol : (is_name x && true && taboo_is_name t && (is_none t || true)) ≡ true
            real_symbol = and_from (is_name x && true && taboo_is_name t) (is_none t || true)
                (and_from (is_name x && true) (taboo_is_name t) (and_from (is_name x) true real refl) spells.real) (any_taboo t)

            made : (k v : Kind) → s ≡ sym_of v x 0 t → is_sym (sym_of v x 0 t) ≡ true → spell (shown_as v (sym_of v x 0 t)) ≡ x ++ spell (unit_brackets t) →
                SpellsCalled k v text s
            made k v is good shown = record {
              spells = record {
                real = subst (λ z. is_sym z ≡ true) (sym is) good;
                text_is = whole ∙ sym shown ∙ ap (λ (z : Sym). spell (shown_symbol z)) (sym is);
              };
              kind_is = inr (ap (λ (z : Sym). z.kind) is);
            }

            by_pair : (k v : Kind) → ArePaired k v → s ≡ sym_of v x 0 t → SpellsCalled k v text s
            by_pair _ _ of_terms is = made Func UnitFunc is real_symbol refl
            by_pair _ _ of_formulas is = made Pred UnitPred is real_symbol refl

-- ---- the other ones

module _ (text : List ℕ) where
  pub called_of_terms : (s : Sym) → SpellsCalled Func UnitFunc text s → SpellsOfSort sort.Term text s
  called_of_terms s c = record { spells = c.spells; sort_is = by_kind c.kind_is }
    where
      by_kind : (s.kind ≡ Func) ⊎ (s.kind ≡ UnitFunc) → (kind_row s.kind).sort ≡ sort.Term
      by_kind (inl e) = ap (λ k. (kind_row k).sort) e
      by_kind (inr e) = ap (λ k. (kind_row k).sort) e

  pub called_of_formulas : (s : Sym) → SpellsCalled Pred UnitPred text s → SpellsOfSort sort.Formula text s
  called_of_formulas s c = record { spells = c.spells; sort_is = by_kind c.kind_is }
    where
      by_kind : (s.kind ≡ Pred) ⊎ (s.kind ≡ UnitPred) → (kind_row s.kind).sort ≡ sort.Formula
      by_kind (inl e) = ap (λ k. (kind_row k).sort) e
      by_kind (inr e) = ap (λ k. (kind_row k).sort) e

  pub terms_called : ((s : Sym) → ¬ SpellsCalled Func UnitFunc text s) → (s : Sym) → ¬ SpellsOfSort sort.Term text s
  terms_called none s w = none s (for_terms text s w.spells w.sort_is)

  -- with a bracket a symbol for formulas is called
  pub formulas_called : (x rest : List ℕ) → CutAt text 40 x rest → ((s : Sym) → ¬ SpellsCalled Pred UnitPred text s) → (s : Sym) →
      ¬ SpellsOfSort sort.Formula text s
  formulas_called x rest cut none s w = elim (for_formulas text s w.spells w.sort_is) [
    | inl c ↦ none s c
    | inr f ↦
        let flat = lacks_both 40 s.name (codes "{_}") (name_lacks 40 refl s.name (named text s w.spells)) refl in
        not_lacking 40 text x rest refl cut (ap (lacks 40) f.text_is ∙ flat)
  ]

  -- without one it is a predicational
  module _ (uncut : Uncut 40 text) where
    quantified : (s : Sym) → SpellsOfSort sort.Formula text s → EndForm Quant (codes "{_}") text s
    quantified s w = elim (for_formulas text s w.spells w.sort_is) [
      | inl c ↦ absurd (round_wanted Pred UnitPred of_formulas text uncut s c)
      | inr f ↦ f
    ]

    pub hole_wanted : ((x : List ℕ) → text ≢ x ++ codes "{_}") → (s : Sym) → ¬ SpellsOfSort sort.Formula text s
    hole_wanted none s w = none s.name (quantified s w).text_is

    pub quant_wanted : (x : List ℕ) → text ≡ x ++ codes "{_}" → ¬ IsTrue (is_sym (sym_of Quant x 0 None)) → (s : Sym) → ¬ SpellsOfSort sort.Formula text s
    quant_wanted x e none s w =
        let f = quantified s w in
        let name = append_cancel_right x s.name (codes "{_}") (sym e ∙ f.text_is) in
        let same : sym_of Quant x 0 None ≡ s = ap (λ y. sym_of Quant y 0 None) name ∙ f.is in
        none (subst (λ t. is_sym t ≡ true) (sym same) w.spells.real)

  pub quant_found : (x : List ℕ) (s : Sym) → text ≡ x ++ codes "{_}" → s ≡ sym_of Quant x 0 None → is_sym s ≡ true → SpellsOfSort sort.Formula text s
  quant_found x s e is real = record {
    spells = record { real = real; text_is = e ∙ ap (λ (t : Sym). spell (shown_symbol t)) (sym is) };
    sort_is = ap (λ (t : Sym). (kind_row t.kind).sort) is;
  }

  -- a program constant has no brace
  module _ (no_brace : (inner : List ℕ) → text ≢ 123 ∷ inner) where
    constant_of : (s : Sym) → SpellsOfSort sort.Program text s → EndForm Prog (codes ";") text s
    constant_of s w = elim (for_programs text s w.spells w.sort_is) [
      | inl f ↦ f
      | inr f ↦ absurd (no_brace (f.inner ++ codes "}") f.text_is)
    ]

    pub semicolon_wanted : ((x : List ℕ) → text ≢ x ++ codes ";") → (s : Sym) → ¬ SpellsOfSort sort.Program text s
    semicolon_wanted none s w = none s.name (constant_of s w).text_is

    pub prog_wanted : (x : List ℕ) → text ≡ x ++ codes ";" → ¬ IsTrue (is_sym (sym_of Prog x 0 None)) → (s : Sym) → ¬ SpellsOfSort sort.Program text s
    prog_wanted x e none s w =
        let f = constant_of s w in
        let name = append_cancel_right x s.name (codes ";") (sym e ∙ f.text_is) in
        let same : sym_of Prog x 0 None ≡ s = ap (λ y. sym_of Prog y 0 None) name ∙ f.is in
        none (subst (λ t. is_sym t ≡ true) (sym same) w.spells.real)

  pub prog_found : (x : List ℕ) (s : Sym) → text ≡ x ++ codes ";" → s ≡ sym_of Prog x 0 None → is_sym s ≡ true → SpellsOfSort sort.Program text s
  prog_found x s e is real = record {
    spells = record { real = real; text_is = e ∙ ap (λ (t : Sym). spell (shown_symbol t)) (sym is) };
    sort_is = ap (λ (t : Sym). (kind_row t.kind).sort) is;
  }

  -- an ODE constant has one
  module _ (inner : List ℕ) (brace : text ≡ 123 ∷ inner) where
    braced : (s : Sym) → SpellsOfSort sort.Program text s → BraceForm text s
    braced s w = elim (for_programs text s w.spells w.sort_is) [
      | inl f ↦
          let flat = lacks_both 123 s.name (codes ";") (name_lacks 123 refl s.name (named text s w.spells)) refl in
          let clash : false ≡ true = ap (lacks 123) (sym brace ∙ f.text_is) ∙ flat in
          absurd (cc clash)
      | inr f ↦ f
    ]

    pub end_wanted : ((front : List ℕ) → inner ≢ front ++ codes "}") → (s : Sym) → ¬ SpellsOfSort sort.Program text s
    end_wanted none s w =
        let f = braced s w in
        let both : 123 ∷ inner ≡ 123 ∷ (f.inner ++ codes "}") = sym brace ∙ f.text_is in
        none f.inner (cc)

    module _ (front : List ℕ) (ends : inner ≡ front ++ codes "}") where
      pub constant_wanted : ((u : List ℕ × Option (List ℕ)) → ¬ SpellsConstant front u) → (s : Sym) → ¬ SpellsOfSort sort.Program text s
      constant_wanted none s w =
          let f = braced s w in
          let both : 123 ∷ (front ++ codes "}") ≡ 123 ∷ (f.inner ++ codes "}") = ap (λ l. 123 ∷ l) (sym ends) ∙ sym brace ∙ f.text_is in
          let tail : front ++ codes "}" ≡ f.inner ++ codes "}" = cc in
          let same = append_cancel_right front f.inner (codes "}") tail in
          none (s.name, s.taboo) (subst (λ l. SpellsConstant l (s.name, s.taboo)) (sym same) f.spells)

      pub ode_found : (x : List ℕ) (t : Option (List ℕ)) (s : Sym) → SpellsConstant front (x, t) → s ≡ sym_of Ode x 0 t → SpellsOfSort sort.Program text s
      ode_found x t s spells is = record {
        spells = record {
          real = subst (λ z. is_sym z ≡ true) (sym is) real_symbol;
          text_is = whole ∙ ap (λ (z : Sym). spell (shown_symbol z)) (sym is);
        };
        sort_is = ap (λ (z : Sym). (kind_row z.kind).sort) is;
      }
        where
          any_taboo : (z : Option (List ℕ)) → (is_none z || true) ≡ true
          any_taboo None = refl
          any_taboo (Some z) = refl

          real_symbol : (is_name x && true && taboo_is_name t && (is_none t || true)) ≡ true
          real_symbol =
              let r = and_parts (is_name x) (taboo_is_name t) spells.real in
              and_from (is_name x && true && taboo_is_name t) (is_none t || true)
              (and_from (is_name x && true) (taboo_is_name t) (and_from (is_name x) true r.0 refl) r.1) (any_taboo t)

          grouped : (z : Option (List ℕ)) → 123 ∷ (constant_text x z ++ codes "}") ≡ spell (shown_as Ode (sym_of Ode x 0 z))
          grouped None = refl
          grouped (Some z) = simp append_assoc

          whole : text ≡ spell (shown_as Ode (sym_of Ode x 0 t))
          whole = brace ∙ ap (λ l. 123 ∷ l) (ends ∙ ap (λ l. l ++ codes "}") spells.text_is) ∙ grouped t

-- ---- a text says one symbol of a sort

pub one_symbol : (r : Sort) (text : List ℕ) (s t : Sym) → SpellsOfSort r text s → SpellsOfSort r text t → s ≡ t
one_symbol r text s t a b =
    let ranks = ap sort_rank (a.sort_is ∙ sym b.sort_is) in
    let texts = sym a.spells.text_is ∙ b.spells.text_is in
    sym (symbol_back s a.spells.real) ∙ (λ i. symbol_in (ranks i) (texts i)) ∙ symbol_back t b.spells.real
