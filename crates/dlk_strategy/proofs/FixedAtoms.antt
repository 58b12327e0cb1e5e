-- Atoms without locators, and with a place for one: they are fitting as before, and their names are names.
use Rattle.std.proofs.Common.{◌≡◌, ℕ, List, [], ◌∷◌, map, Option, Some, None}
use Rattle.std.specs.List.{All}
use Rattle.std.proofs.lemmas.List.Elements.{All-nil, All-cons, All-head, All-tail}
use Rattle.dlk_tacsyn.specs.declared.kind.Kind.{Kind}
use Rattle.dlk_tacsyn.specs.declared.kind.Kind.TheVariants.{FixedPlace, AnyPlace, QuotedFormula, QuotedTerm, AName, QuotedExtra}
use Rattle.dlk_tacsyn.specs.Tactics.{Argument, AtPlace, AnyLeft, AnyRight, Word, GivenFormula, GivenTerm, GivenExtra, Atom}
use Rattle.dlk_tacsyn.specs.Rows.{IsOfKind, AreOfKinds, IsFitting}
use Rattle.dlk_elab.specs.Atoms.{IsFixed, HasNoLocator, IsNamed}
use Rattle.dlk_strategy.specs.Runs.{side, put_place, placed}

-- arguments without a side have no locator
pub none_fixed : (args : List Argument) → side args ≡ None → All IsFixed args
none_fixed [] e = All-nil IsFixed
none_fixed (AtPlace place path ∷ rest) e = All-cons IsFixed (AtPlace place path) rest tt (none_fixed rest e)
none_fixed (AnyLeft ∷ rest) e = absurd (cc e)
none_fixed (AnyRight ∷ rest) e = absurd (cc e)
none_fixed (Word name ∷ rest) e = All-cons IsFixed (Word name) rest tt (none_fixed rest e)
none_fixed (GivenFormula h ∷ rest) e = All-cons IsFixed (GivenFormula h) rest tt (none_fixed rest e)
none_fixed (GivenTerm t ∷ rest) e = All-cons IsFixed (GivenTerm t) rest tt (none_fixed rest e)
none_fixed (GivenExtra x ∷ rest) e = All-cons IsFixed (GivenExtra x) rest tt (none_fixed rest e)

put_fixed : (n : ℕ) (a : Argument) → IsFixed (put_place n a)
put_fixed n (AtPlace place path) = tt
put_fixed n AnyLeft = tt
put_fixed n AnyRight = tt
put_fixed n (Word name) = tt
put_fixed n (GivenFormula h) = tt
put_fixed n (GivenTerm t) = tt
put_fixed n (GivenExtra x) = tt

all_fixed : (n : ℕ) (args : List Argument) → All IsFixed (map (put_place n) args)
all_fixed n [] = All-nil IsFixed
all_fixed n (a ∷ rest) = All-cons IsFixed (put_place n a) (map (put_place n) rest) (put_fixed n a) (all_fixed n rest)

pub placed_fixed : (n : ℕ) (atom : Atom) → HasNoLocator (placed n atom)
placed_fixed n atom = all_fixed n atom.arguments

put_kind : (n : ℕ) (kind : Kind) (a : Argument) → IsOfKind kind a → IsOfKind kind (put_place n a)
put_kind n kind (AtPlace place path) h = h
put_kind n kind (Word name) h = h
put_kind n kind (GivenFormula f) h = h
put_kind n kind (GivenTerm t) h = h
put_kind n kind (GivenExtra x) h = h
put_kind n FixedPlace AnyLeft h = absurd h
put_kind n AnyPlace AnyLeft h = tt
put_kind n QuotedFormula AnyLeft h = absurd h
put_kind n QuotedTerm AnyLeft h = absurd h
put_kind n AName AnyLeft h = absurd h
put_kind n QuotedExtra AnyLeft h = absurd h
put_kind n FixedPlace AnyRight h = absurd h
put_kind n AnyPlace AnyRight h = tt
put_kind n QuotedFormula AnyRight h = absurd h
put_kind n QuotedTerm AnyRight h = absurd h
put_kind n AName AnyRight h = absurd h
put_kind n QuotedExtra AnyRight h = absurd h

put_kinds : (n : ℕ) (kinds : List Kind) (optional : Option Kind) (args : List Argument) → AreOfKinds kinds optional args →
    AreOfKinds kinds optional (map (put_place n) args)
put_kinds n [] optional [] h = h
put_kinds n [] None (a ∷ rest) h = absurd h
put_kinds n [] (Some kind) (a ∷ rest) h = (put_kind n kind a h.0, put_kinds n [] None rest h.1)
put_kinds n (kind ∷ kinds) optional [] h = absurd h
put_kinds n (kind ∷ kinds) optional (a ∷ rest) h = (put_kind n kind a h.0, put_kinds n kinds optional rest h.1)

pub placed_fitting : (n : ℕ) (atom : Atom) → IsFitting atom → IsFitting (placed n atom)
placed_fitting n atom h = record { row = h.row; row_is = h.row_is; arguments = put_kinds n h.row.wanted h.row.optional atom.arguments h.arguments }

put_named : (n : ℕ) (a : Argument) → IsNamed a → IsNamed (put_place n a)
put_named n (AtPlace place path) h = h
put_named n AnyLeft h = tt
put_named n AnyRight h = tt
put_named n (Word name) h = h
put_named n (GivenFormula f) h = h
put_named n (GivenTerm t) h = h
put_named n (GivenExtra x) h = h

pub all_named : (n : ℕ) (args : List Argument) → All IsNamed args → All IsNamed (map (put_place n) args)
all_named n [] h = All-nil IsNamed
all_named n (a ∷ rest) h =
    All-cons IsNamed (put_place n a) (map (put_place n) rest) (put_named n a (All-head IsNamed a rest h)) (all_named n rest (All-tail IsNamed a rest h))
