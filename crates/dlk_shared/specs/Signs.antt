-- A table of signatures: sets of symbols, over a table that numbers the symbols.
use Rattle.std.specs.Prelude.{◌≡◌, ℕ, suc, ◌<◌, ◌≤◌, Bool, false, ◌||◌, ◌&&◌, List, [], ◌∷◌, ◌++◌, length}
use Rattle.std.specs.List.{list_any}
use Rattle.std.specs.List.Sorted.{IsStrictlySortedBy}
use Rattle.dlk_tree.specs.Listed.{sym_cmp}
use Rattle.dlk_tree.specs.Tests.{sym_eq}
use Rattle.dlk_tree.specs.declared.op.Sym.{Sym}
use Rattle.dlk_vars.specs.Rows.{Row, has_number}
use Rattle.dlk_shared.specs.SetTables.{row_at}

pub record SignTable : Type 0 where
  pub syms : List Sym
  pub signs : List Row

-- whether the symbol stands at a number that passes, where the numbers go on from n
abbrev pub stands : (ℕ → Bool) → ℕ → List Sym → Sym → Bool
stands test n [] s = false
stands test n (t ∷ ts) s = (sym_eq s t && test n) || stands test (suc n) ts s

-- what the number of a signature stands for
abbrev pub sign_at : SignTable → ℕ → Sym → Bool
sign_at t n s = stands (has_number (row_at t.signs n)) 0 t.syms s

-- the number is that of a signature in the table, with symbols of the table alone
pub record IsSign (t : SignTable) (n : ℕ) : Type 0 where
  pub known : n < length t.signs
  pub within : (m : ℕ) → length t.syms ≤ m → has_number (row_at t.signs n) m ≡ false

-- the number stands for these symbols
pub record Signs (t : SignTable) (n : ℕ) (set : Sym → Bool) : Type 0 where
  pub is : IsSign t n
  pub members : (s : Sym) → sign_at t n s ≡ set s

-- each symbol and each signature keeps its number
pub record KeepsSigns (old new : SignTable) : Type 0 where
  pub more : List Sym
  pub syms : new.syms ≡ old.syms ++ more
  pub signs : length old.signs ≤ length new.signs
  pub same : (n : ℕ) → n < length old.signs → row_at new.signs n ≡ row_at old.signs n

-- the symbol comes to those in the list, where it is wanted
pub record AddsSymbol (wanted : Bool) (s : Sym) (old new : List Sym) : Type 0 where
  pub adds : (t : Sym) → list_any (sym_eq t) new ≡ (list_any (sym_eq t) old || (sym_eq t s && wanted))

-- the list is in order, and has these symbols
pub record AreSymbols (set : Sym → Bool) (syms : List Sym) : Type 0 where
  pub ordered : IsStrictlySortedBy sym_cmp syms
  pub members : (s : Sym) → list_any (sym_eq s) syms ≡ set s
