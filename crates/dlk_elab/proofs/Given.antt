-- What atoms for boxes and for uses of axioms are given, if they are fitting and have no locators.
use Rattle.std.proofs.Common.{◌≡◌, ℕ, List, [], ◌∷◌, Some, None, refl, sym, ap, subst}
use Rattle.std.specs.List.{All}
use Rattle.std.proofs.lemmas.List.Elements.{All-nil, All-head, All-tail}
use Rattle.dlk_tree.specs.Trees.{Tree}
use Rattle.dlk_calculus.specs.Pairs.{Extra, AreWellMade}
use Rattle.dlk_calculus.specs.Sequents.{IsFormula}
use Rattle.dlk_match.specs.Instances.{AreNames}
use Rattle.dlk_sequent.specs.declared.sequent.Place.{Place}
use Rattle.dlk_tacsyn.specs.declared.kind.Kind.TheVariants.{AnyPlace, QuotedFormula, AName, QuotedExtra}
use Rattle.dlk_tacsyn.specs.Rows.{IsOfKind, AreOfKinds, IsNamed}
use Rattle.dlk_tacsyn.specs.Tactics.{Argument, AtPlace, AnyLeft, AnyRight, Word, GivenFormula, GivenTerm, GivenExtra}
use Rattle.dlk_elab.specs.Atoms.{IsFixed, UseArguments, alone, with_extra}
use Rattle.dlk_elab.proofs.ProperSteps.{IsMade}
use Rattle.dlk_elab.proofs.ProperUses.{AreBothNames}

a_formula : (a : Argument) → IsOfKind QuotedFormula a → (h : Tree) × (a ≡ GivenFormula h) × IsFormula h
a_formula (AtPlace place path) h = absurd h
a_formula AnyLeft h = absurd h
a_formula AnyRight h = absurd h
a_formula (Word y) h = absurd h
a_formula (GivenFormula t) h = (t, refl, h)
a_formula (GivenTerm t) h = absurd h
a_formula (GivenExtra extra) h = absurd h

a_word : (a : Argument) → IsOfKind AName a → (y : List ℕ) × (a ≡ Word y)
a_word (AtPlace place path) h = absurd h
a_word AnyLeft h = absurd h
a_word AnyRight h = absurd h
a_word (Word y) h = (y, refl)
a_word (GivenFormula t) h = absurd h
a_word (GivenTerm t) h = absurd h
a_word (GivenExtra extra) h = absurd h

a_place : (a : Argument) → IsOfKind AnyPlace a → IsFixed a → (place : Place) × (path : List ℕ) × (a ≡ AtPlace place path)
a_place (AtPlace place path) h fixed = (place, path, refl)
a_place AnyLeft h fixed = absurd fixed
a_place AnyRight h fixed = absurd fixed
a_place (Word y) h fixed = absurd h
a_place (GivenFormula t) h fixed = absurd h
a_place (GivenTerm t) h fixed = absurd h
a_place (GivenExtra extra) h fixed = absurd h

-- names, and replacements that are well made
record IsProperExtra (extra : Extra) : Type 0 where
  names : AreNames extra.renames
  pairs : AreWellMade extra.pairs

an_extra : (a : Argument) → IsOfKind QuotedExtra a → IsNamed a → (extra : Extra) × (a ≡ GivenExtra extra) × IsProperExtra extra
an_extra (AtPlace place path) h named = absurd h
an_extra AnyLeft h named = absurd h
an_extra AnyRight h named = absurd h
an_extra (Word y) h named = absurd h
an_extra (GivenFormula t) h named = absurd h
an_extra (GivenTerm t) h named = absurd h
an_extra (GivenExtra extra) h named = (extra, refl, record { names = named.0; pairs = h })

-- a place alone
pub record OnePlaceGiven (given : List Argument) : Type 0 where
  pub argument : Argument
  pub are : given ≡ argument ∷ []
  pub place : Place
  pub path : List ℕ
  pub is : argument ≡ AtPlace place path

pub one_given : (given : List Argument) → AreOfKinds (AnyPlace ∷ []) None given → All IsFixed given → OnePlaceGiven given
one_given [] h fixed = absurd h
one_given (a ∷ []) h fixed =
    let p = a_place a h.0 (All-head IsFixed a [] fixed) in record { argument = a; are = refl; place = p.0; path = p.1; is = p.2 }
one_given (a ∷ b ∷ rest) h fixed = absurd h.1

-- a formula and a place
pub record CutGiven (given : List Argument) : Type 0 where
  pub formula : Tree
  pub is_formula : IsFormula formula
  pub argument : Argument
  pub are : given ≡ GivenFormula formula ∷ argument ∷ []
  pub place : Place
  pub path : List ℕ
  pub is : argument ≡ AtPlace place path

pub cut_given : (given : List Argument) → AreOfKinds (QuotedFormula ∷ AnyPlace ∷ []) None given → All IsFixed given → CutGiven given
cut_given [] h fixed = absurd h
cut_given (a ∷ []) h fixed = absurd h.1
cut_given (a ∷ b ∷ []) h fixed =
    let f = a_formula a h.0 in
    let p = a_place b h.1.0 (All-head IsFixed b [] (All-tail IsFixed a (b ∷ []) fixed)) in
    record {
      formula = f.0;
      is_formula = f.2;
      argument = b;
      are = ap (λ x. x ∷ b ∷ []) f.1;
      place = p.0;
      path = p.1;
      is = p.2;
    }
cut_given (a ∷ b ∷ x ∷ rest) h fixed = absurd h.1.1

-- the arguments of a use
pub record UseGiven (given : List Argument) : Type 0 where
  pub name : List ℕ
  pub place : Place
  pub path : List ℕ
  pub extra : Extra
  pub are : UseArguments given name place path extra
  pub names : AreNames extra.renames
  pub pairs : AreWellMade extra.pairs

pub use_given : (given : List Argument) → AreOfKinds (AName ∷ AnyPlace ∷ []) (Some QuotedExtra) given → All IsFixed given → All IsNamed given → UseGiven given
use_given [] h fixed named = absurd h
use_given (a ∷ []) h fixed named = absurd h.1
use_given (a ∷ b ∷ []) h fixed named =
    let y = a_word a h.0 in
    let p = a_place b h.1.0 (All-head IsFixed b [] (All-tail IsFixed a (b ∷ []) fixed)) in
    record {
      name = y.0;
      place = p.0;
      path = p.1;
      extra = record { renames = []; pairs = [] };
      are = subst (λ (xs : List Argument). UseArguments xs y.0 p.0 p.1 (record { renames = []; pairs = [] })) (sym (λ i. y.1 i ∷ p.2 i ∷ [])) alone;
      names = All-nil AreBothNames;
      pairs = All-nil IsMade;
    }
use_given (a ∷ b ∷ x ∷ []) h fixed named =
    let y = a_word a h.0 in
    let p = a_place b h.1.0 (All-head IsFixed b (x ∷ []) (All-tail IsFixed a (b ∷ x ∷ []) fixed)) in
    let e = an_extra x h.1.1.0 (All-head IsNamed x [] (All-tail IsNamed b (x ∷ []) (All-tail IsNamed a (b ∷ x ∷ []) named))) in
    record {
      name = y.0;
      place = p.0;
      path = p.1;
      extra = e.0;
      are = subst (λ (xs : List Argument). UseArguments xs y.0 p.0 p.1 e.0) (sym (λ i. y.1 i ∷ p.2 i ∷ e.1 i ∷ [])) with_extra;
      names = e.2.names;
      pairs = e.2.pairs;
    }
use_given (a ∷ b ∷ x ∷ z ∷ rest) h fixed named = absurd h.1.1.1
