-- Symbols by their canonical texts.
use Rattle.std.specs.Prelude.{◌≡◌, ℕ, ◌≤◌, ◌==◌, if◌then◌else◌, List, [], ◌∷◌, Option, None, Some, ◌⊎◌, codes}
use Rattle.dlk_tree.specs.declared.op.Kind.{Kind}
use Rattle.dlk_tree.specs.declared.op.Kind.TheVariants.{Func, UnitFunc, Pred, UnitPred}
use Rattle.dlk_tree.specs.declared.op.Sort.{Sort}
use Rattle.dlk_tree.specs.declared.op.Sym.{Sym}
use Rattle.dlk_tree.specs.Table.{kind_row, is_sym, taboo_is_name}
use Rattle.dlk_grammar.specs.Shown.{spell}
use Rattle.dlk_grammar.specs.Symbols.{dots, shown_symbol}
use Rattle.dlk_nodes.specs.Details.{Spells}

-- so many argument dots, as they stand behind their opening bracket; eight from there on
abbrev pub dots_bytes : ℕ → List ℕ
dots_bytes n =
    if n == 0 then codes ")" else
    if n == 1 then codes "._0)" else
    if n == 2 then codes "._0,._1)" else
    if n == 3 then codes "._0,._1,._2)" else
    if n == 4 then codes "._0,._1,._2,._3)" else
    if n == 5 then codes "._0,._1,._2,._3,._4)" else
    if n == 6 then codes "._0,._1,._2,._3,._4,._5)" else
    if n == 7 then codes "._0,._1,._2,._3,._4,._5,._6)" else
    codes "._0,._1,._2,._3,._4,._5,._6,._7)"

-- the text is that of so many argument dots behind their opening bracket, as the grammar has them
pub record AreDots (text : List ℕ) (n : ℕ) : Type 0 where
  pub few : n ≤ 8
  pub text_is : spell (dots n) ≡ 40 ∷ text

-- a taboo between bars, which may be none
abbrev pub taboo_bytes : Option (List ℕ) → List ℕ
taboo_bytes None = []
taboo_bytes (Some y) = y

abbrev pub SpellsTaboo : List ℕ → Option (List ℕ) → Type 0
SpellsTaboo text y = Spells taboo_is_name taboo_bytes text y

-- the text is that of the symbol, which is as it must be
abbrev pub SpellsSymbol : List ℕ → Sym → Type 0
SpellsSymbol text s = Spells is_sym (λ (s : Sym). spell (shown_symbol s)) text s

-- and it stands for trees of this sort
pub record SpellsOfSort (sort : Sort) (text : List ℕ) (s : Sym) : Type 0 where
  pub spells : SpellsSymbol text s
  pub sort_is : (kind_row s.kind).sort ≡ sort

-- the kinds of a name with arguments and of a unit symbol, for terms or for formulas
pub data ArePaired : Kind → Kind → Type 0 where
  of_terms : ArePaired Func UnitFunc
  of_formulas : ArePaired Pred UnitPred

-- a symbol of one of these two kinds
pub record SpellsCalled (applied unit : Kind) (text : List ℕ) (s : Sym) : Type 0 where
  pub spells : SpellsSymbol text s
  pub kind_is : (s.kind ≡ applied) ⊎ (s.kind ≡ unit)
