-- The names of atoms, those of the library and `derive`, and the arguments that each wants.
use Rattle.std.specs.Prelude.{◌≡◌, ◌⊎◌, ℕ, List, [], ◌∷◌, Option, Some, None, option_map, ◌||◌, if◌then◌else◌, Bool, All, IsTrue, bytes_eq, codes}
use Rattle.dlk_tree.specs.Names.{is_name}
use Rattle.dlk_tree.specs.Trees.{WellMade}
use Rattle.dlk_calculus.specs.Pairs.{Extra, AreWellMade}
use Rattle.dlk_calculus.specs.Sequents.{IsFormula}
use Rattle.dlk_machine.specs.Symbols.{ReplacesSymbol}
use Rattle.dlk_rules.specs.declared.arguments.Shape.{Shape}
use Rattle.dlk_rules.specs.declared.arguments.Shape.TheVariants as shape
use Rattle.dlk_rules.specs.Words.{wanted, named}
use Rattle.dlk_tacsyn.specs.declared.kind.Kind.{Kind}
use Rattle.dlk_tacsyn.specs.declared.kind.Kind.TheVariants.{FixedPlace, AnyPlace, QuotedFormula, QuotedTerm, AName, QuotedExtra}
use Rattle.dlk_tacsyn.specs.Tactics.{Argument, AtPlace, AnyLeft, AnyRight, Word, GivenFormula, GivenTerm, GivenExtra, Atom, Tactic, EachAtom}

-- what an atom wants, in this order, and what may follow
pub record Row : Type 0 where
  pub wanted : List Kind
  pub optional : Option Kind

-- nothing may follow
abbrev pub wants : List Kind → Row
wants kinds = record { wanted = kinds; optional = None }

-- the arguments of an atom for a rule, by the shape of the rule's
abbrev pub kinds_of : Shape → List Kind
kinds_of shape.OnePlace = AnyPlace ∷ []
kinds_of shape.TwoPlaces = FixedPlace ∷ FixedPlace ∷ []
kinds_of shape.PlaceAndFormula = QuotedFormula ∷ AnyPlace ∷ []
kinds_of shape.OneFormula = QuotedFormula ∷ []
kinds_of shape.PlaceAndName = AName ∷ AnyPlace ∷ []

-- the names of the three atoms that stand without arguments
abbrev pub is_bare : List ℕ → Bool
is_bare name = bytes_eq name (codes "nil") || bytes_eq name (codes "close") || bytes_eq name (codes "leaf")

-- the names of the atoms that use an axiom
abbrev pub is_use : List ℕ → Bool
is_use name = bytes_eq name (codes "useAt") || bytes_eq name (codes "useBack")

-- the names of the library that want a place alone
abbrev pub is_at_place : List ℕ → Bool
is_at_place name = bytes_eq name (codes "dW") || bytes_eq name (codes "dI") || bytes_eq name (codes "step")

-- the names of the library that want a formula and a place
abbrev pub is_with_formula : List ℕ → Bool
is_with_formula name = bytes_eq name (codes "loop") || bytes_eq name (codes "dC")

-- Who does what a name says.
pub data Doer : Type 0 where
  -- the elaborator, by steps
  Elaborator : Doer
  -- the library, by the strategy that the name stands for, before the run
  Library : Doer
  -- the run itself, by a plan for the goal that it comes to
  Run : Doer

-- a row of the table of names
pub record Entry : Type 0 where
  pub by : Doer
  pub row : Row

-- such a row, where nothing may follow
abbrev pub entry : Doer → List Kind → Option Entry
entry by kinds = Some (record { by = by; row = wants kinds })

-- the atom of a rule wants what its word does
abbrev pub rule_entry : List ℕ → Option Entry
rule_entry name = option_map (λ word. record { by = Elaborator; row = wants (kinds_of (wanted word)) }) (named name)

-- The table of names: who does what each says, and its arguments. A use of an axiom is given its name and a place, and maybe names with new
-- names, and pairs. The places of the library's and of `derive` are no locators. No other name is known.
abbrev pub entry_of : List ℕ → Option Entry
entry_of name =
    if is_bare name then entry Elaborator []
    else if bytes_eq name (codes "G") then entry Elaborator (AnyPlace ∷ [])
    else if bytes_eq name (codes "boxCut") then entry Elaborator (QuotedFormula ∷ AnyPlace ∷ [])
    else if is_use name then Some (record { by = Elaborator; row = record { wanted = AName ∷ AnyPlace ∷ []; optional = Some QuotedExtra } })
    else if bytes_eq name (codes "prop") then entry Library []
    else if is_at_place name then entry Library (FixedPlace ∷ [])
    else if is_with_formula name then entry Library (QuotedFormula ∷ FixedPlace ∷ [])
    else if bytes_eq name (codes "dG") then entry Library (AName ∷ QuotedTerm ∷ QuotedTerm ∷ FixedPlace ∷ [])
    else if bytes_eq name (codes "derive") then entry Run (FixedPlace ∷ [])
    else rule_entry name

-- the arguments that a row wants, if it is of this one
abbrev pub row_if : Doer → Doer → Row → Option Row
row_if Elaborator Elaborator row = Some row
row_if Library Library row = Some row
row_if Run Run row = Some row
row_if _ _ row = None

-- and so of what was found in the table
abbrev pub row_by : Doer → Option Entry → Option Row
row_by doer None = None
row_by doer (Some found) = row_if doer found.by found.row

-- the arguments of a name that is an atom's
unfoldable pub row_of : List ℕ → Option Row
row_of name = row_by Elaborator (entry_of name)

-- those of a name of the library
unfoldable pub library_row_of : List ℕ → Option Row
library_row_of name = row_by Library (entry_of name)

-- those of `derive`
unfoldable pub derive_row_of : List ℕ → Option Row
derive_row_of name = row_by Run (entry_of name)

-- those of a row, whose ever it is
abbrev pub row_found : Option Entry → Option Row
row_found found = option_map (λ (it : Entry). it.row) found

-- those of a name in a text, which may be any of these
unfoldable pub text_row_of : List ℕ → Option Row
text_row_of name = row_found (entry_of name)

-- An argument of the kind: a place may have a path and lie on either side, and a locator may stand in its stead where any place may. A formula has
-- no dots, and a term and the replacements of pairs are well made, as what is read is. No other argument is of the kind.
abbrev pub IsOfKind : Kind → Argument → Type 0
IsOfKind FixedPlace (AtPlace place path) = Unit {0}
IsOfKind AnyPlace (AtPlace place path) = Unit {0}
IsOfKind AnyPlace AnyLeft = Unit {0}
IsOfKind AnyPlace AnyRight = Unit {0}
IsOfKind AName (Word name) = Unit {0}
IsOfKind QuotedFormula (GivenFormula h) = IsFormula h
IsOfKind QuotedTerm (GivenTerm e) = WellMade e
IsOfKind QuotedExtra (GivenExtra extra) = AreWellMade extra.pairs
IsOfKind _ _ = ⊥

-- arguments of the kinds that are wanted, as many as there are, and maybe one more of the kind that may follow
abbrev pub AreOfKinds : List Kind → Option Kind → List Argument → Type 0
AreOfKinds [] optional [] = Unit {0}
AreOfKinds [] None (argument ∷ arguments) = ⊥
AreOfKinds [] (Some kind) (argument ∷ arguments) = IsOfKind kind argument × AreOfKinds [] None arguments
AreOfKinds (kind ∷ kinds) optional [] = ⊥
AreOfKinds (kind ∷ kinds) optional (argument ∷ arguments) = IsOfKind kind argument × AreOfKinds kinds optional arguments

-- an atom whose name has a row among these, with arguments of the number and the kinds of that row
pub record HasRow (rows : List ℕ → Option Row) (atom : Atom) : Type 0 where
  pub row : Row
  pub row_is : rows atom.name ≡ Some row
  pub arguments : AreOfKinds row.wanted row.optional atom.arguments

-- an atom that the elaborator knows
abbrev pub IsFitting : Atom → Type 0
IsFitting atom = HasRow row_of atom

-- each atom of the strategy is fitting
abbrev pub AreFitting : Tactic → Type 0
AreFitting t = EachAtom IsFitting t

-- a name of the library
abbrev pub IsLibraryCall : Atom → Type 0
IsLibraryCall atom = HasRow library_row_of atom

-- `derive` at a place
abbrev pub IsDerivation : Atom → Type 0
IsDerivation atom = HasRow derive_row_of atom

-- an atom of a text: a fitting one, or a name of the library, or `derive`
abbrev pub IsOfText : Atom → Type 0
IsOfText atom = IsFitting atom ⊎ (IsLibraryCall atom ⊎ IsDerivation atom)

-- each atom of the strategy is one
abbrev pub AreOfText : Tactic → Type 0
AreOfText t = EachAtom IsOfText t

-- an atom that a run meets, where no name of the library is left: a fitting one, or `derive`
abbrev pub IsRun : Atom → Type 0
IsRun atom = IsFitting atom ⊎ IsDerivation atom

-- each atom of the strategy is one
abbrev pub AreRun : Tactic → Type 0
AreRun t = EachAtom IsRun t

-- both names are names
abbrev pub IsRename : List ℕ × List ℕ → Type 0
IsRename r = IsTrue (is_name r.0) × IsTrue (is_name r.1)

-- the names are names, and what is replaced are symbols
abbrev pub IsNamedExtra : Extra → Type 0
IsNamedExtra extra = All IsRename extra.renames × All ReplacesSymbol extra.pairs

-- each name that the argument is, or that it renames or gives, is a name, and each symbol that it replaces is one
abbrev pub IsNamed : Argument → Type 0
IsNamed (AtPlace place path) = Unit {0}
IsNamed AnyLeft = Unit {0}
IsNamed AnyRight = Unit {0}
IsNamed (Word name) = IsTrue (is_name name)
IsNamed (GivenFormula h) = Unit {0}
IsNamed (GivenTerm e) = Unit {0}
IsNamed (GivenExtra extra) = IsNamedExtra extra

-- each name among the arguments is one
abbrev pub HasNames : Atom → Type 0
HasNames atom = All IsNamed atom.arguments
