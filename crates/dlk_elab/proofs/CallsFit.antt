-- What fitting atoms for boxes and for uses of axioms are given.
use Rattle.std.proofs.Common.{◌≡◌, ◌≢◌, ℕ, List, [], ◌∷◌, map, Option, Some, None, refl, sym, ap, subst, ◌∙◌, true}
use Rattle.std.specs.Prelude.{codes, IsTrue}
use Rattle.std.specs.List.{All}
use Rattle.std.specs.Option.{option_copied}
use Rattle.std.specs.Str.{bytes_eq}
use Rattle.std.proofs.lemmas.Option.{same_Some}
use Rattle.std.proofs.lemmas.List.Elements.{All-head, All-tail}
use Rattle.std.proofs.lemmas.Slice.Eq.{bytes_eq-Decides}
use Rattle.dlk_tree.specs.Trees.{Tree}
use Rattle.dlk_store.specs.declared.Id.{Id}
use Rattle.dlk_store.specs.Stores.{IsId}
use Rattle.dlk_calculus.specs.Sequents.{IsFormula}
use Rattle.dlk_sequent.specs.declared.extra.Extra.{Extra}
use Rattle.dlk_sequent.specs.declared.sequent.Place.{Place}
use Rattle.dlk_tacsyn.specs.declared.kind.Kind.TheVariants.{AnyPlace, QuotedFormula, AName, QuotedExtra}
use Rattle.dlk_tacsyn.specs.declared.tactic.Arg.{Arg}
use Rattle.dlk_tacsyn.specs.declared.tactic.Arg.TheVariants as arg
use Rattle.dlk_tacsyn.specs.declared.tactic.Atom.{Atom}
use Rattle.dlk_tacsyn.specs.Rows.{Row, row_of, wants, is_use, IsOfKind, AreOfKinds, IsFitting}
use Rattle.dlk_tacsyn.specs.Tactics.{Argument, GivenFormula}
use Rattle.dlk_tacsyn.specs.Ties.{argument_at, ArgumentIsKnown, atom_at}
use Rattle.dlk_uses.specs.Uses.{Direction as TheDirection, Forwards, Backwards}
use Rattle.dlk_elab.specs.Atoms.{IsFixed, HasNoLocator, UseArguments, alone, with_extra, word_of_direction}
use Rattle.dlk_elab.specs.Calls.{HasNoUse, UsesNone, IsUseCall, GivenBehind, GivenIsKnown, given_at, direction_of}
use Rattle.dlk_elab.specs.declared.calls.Direction.{Direction as CodeDirection}
use Rattle.dlk_elab.specs.declared.calls.UseCall.{UseCall}
use Rattle.dlk_elab.specs.declared.calls.Call.{Call}
use Rattle.dlk_elab.specs.declared.calls.Call.TheVariants as call

pub row_of_generalize : row_of (codes "G") ≡ Some (wants (AnyPlace ∷ []))
unfolding row_of
row_of_generalize = refl

pub row_of_cut : row_of (codes "boxCut") ≡ Some (wants (QuotedFormula ∷ AnyPlace ∷ []))
unfolding row_of
row_of_cut = refl

-- the name of an atom that uses an axiom
pub named_use : (name : List ℕ) (direction : TheDirection) → name ≡ word_of_direction direction → IsTrue (is_use name)
named_use name Forwards e = subst (λ n. IsTrue (is_use n)) (sym e) refl
named_use name Backwards e = subst (λ n. IsTrue (is_use n)) (sym e) refl

abbrev pub use_row : Row
use_row = record { wanted = AName ∷ AnyPlace ∷ []; optional = Some QuotedExtra }

pub row_of_use : row_of (codes "useAt") ≡ Some use_row
unfolding row_of
row_of_use = refl

pub row_of_use_back : row_of (codes "useBack") ≡ Some use_row
unfolding row_of
row_of_use_back = refl

module _ (trees : List Tree) where
  a_formula : (a : Arg) → IsOfKind QuotedFormula (argument_at trees a) → (h : Id) × (a ≡ arg.Formula h)
  a_formula (arg.At place path) h = absurd h
  a_formula arg.AnyLeft h = absurd h
  a_formula arg.AnyRight h = absurd h
  a_formula (arg.Word y) h = absurd h
  a_formula (arg.Formula id) h = (id, refl)
  a_formula (arg.Term id) h = absurd h
  a_formula (arg.With extra) h = absurd h

  a_word : (a : Arg) → IsOfKind AName (argument_at trees a) → (y : List ℕ) × (a ≡ arg.Word y)
  a_word (arg.At place path) h = absurd h
  a_word arg.AnyLeft h = absurd h
  a_word arg.AnyRight h = absurd h
  a_word (arg.Word y) h = (y, refl)
  a_word (arg.Formula id) h = absurd h
  a_word (arg.Term id) h = absurd h
  a_word (arg.With extra) h = absurd h

  a_place : (a : Arg) → IsOfKind AnyPlace (argument_at trees a) → IsFixed (argument_at trees a) → (place : Place) × (path : List ℕ) × (a ≡ arg.At place path)
  a_place (arg.At place path) h fixed = (place, path, refl)
  a_place arg.AnyLeft h fixed = absurd fixed
  a_place arg.AnyRight h fixed = absurd fixed
  a_place (arg.Word y) h fixed = absurd h
  a_place (arg.Formula id) h fixed = absurd h
  a_place (arg.Term id) h fixed = absurd h
  a_place (arg.With extra) h fixed = absurd h

  an_extra : (a : Arg) → IsOfKind QuotedExtra (argument_at trees a) → (extra : Extra) × (a ≡ arg.With extra)
  an_extra (arg.At place path) h = absurd h
  an_extra arg.AnyLeft h = absurd h
  an_extra arg.AnyRight h = absurd h
  an_extra (arg.Word y) h = absurd h
  an_extra (arg.Formula id) h = absurd h
  an_extra (arg.Term id) h = absurd h
  an_extra (arg.With extra) h = (extra, refl)

  one_fits : (args : List Arg) → AreOfKinds (AnyPlace ∷ []) None (map (argument_at trees) args) → (a : Arg) × (args ≡ a ∷ [])
  one_fits [] h = absurd h
  one_fits (a ∷ []) h = (a, refl)
  one_fits (a ∷ b ∷ rest) h = absurd h.1

  cut_fits : (args : List Arg) → AreOfKinds (QuotedFormula ∷ AnyPlace ∷ []) None (map (argument_at trees) args) →
      (h : Id) × (a : Arg) × (args ≡ arg.Formula h ∷ a ∷ [])
  cut_fits [] h = absurd h
  cut_fits (a ∷ []) h = absurd h.1
  cut_fits (a ∷ b ∷ []) h = let f = a_formula a h.0 in (f.0, b, ap (λ x. x ∷ b ∷ []) f.1)
  cut_fits (a ∷ b ∷ x ∷ rest) h = absurd h.1.1

  use_fits : (args : List Arg) → AreOfKinds (AName ∷ AnyPlace ∷ []) (Some QuotedExtra) (map (argument_at trees) args) →
      All IsFixed (map (argument_at trees) args) → HasNoUse args → ⊥
  use_fits [] h fixed none = h
  use_fits (a ∷ []) h fixed none = h.1
  use_fits (a ∷ b ∷ []) h fixed none =
      let y = a_word a h.0 in
      let p = a_place b h.1.0 (All-head IsFixed (argument_at trees b) [] (All-tail IsFixed (argument_at trees a) (argument_at trees b ∷ []) fixed)) in
      (none y.0 p.0 p.1).0 (λ i. y.1 i ∷ p.2 i ∷ [])
  use_fits (a ∷ b ∷ x ∷ []) h fixed none =
      let y = a_word a h.0 in
      let p = a_place b h.1.0 (All-head IsFixed (argument_at trees b) (argument_at trees x ∷ [])
      (All-tail IsFixed (argument_at trees a) (argument_at trees b ∷ argument_at trees x ∷ []) fixed)) in
      let e = an_extra x h.1.1.0 in
      (none y.0 p.0 p.1).1 e.0 (λ i. y.1 i ∷ p.2 i ∷ e.1 i ∷ [])
  use_fits (a ∷ b ∷ x ∷ z ∷ rest) h fixed none = h.1.1.1

  module _ (atom : Atom) (fitting : IsFitting (atom_at trees atom)) where
    kinds_are : (row : Row) → row_of atom.name ≡ Some row → AreOfKinds row.wanted row.optional (map (argument_at trees) atom.args)
    kinds_are row e =
        subst (λ (r : Row). AreOfKinds r.wanted r.optional (map (argument_at trees) atom.args)) (same_Some _ _ (sym fitting.row_is ∙ e)) fitting.arguments

    pub cut_formula : (t : Tree) (a : Argument) → atom.name ≡ codes "boxCut" → map (argument_at trees) atom.args ≡ GivenFormula t ∷ a ∷ [] → IsFormula t
    cut_formula t a name are =
        let h = kinds_are (wants (QuotedFormula ∷ AnyPlace ∷ [])) (ap row_of name ∙ row_of_cut) in
        (subst (λ (xs : List Argument). AreOfKinds (QuotedFormula ∷ AnyPlace ∷ []) None xs) are h).0

    pub generalize_fits : atom.name ≡ codes "G" → ((a : Arg) → atom.args ≢ a ∷ []) → ⊥
    generalize_fits name none = let f = one_fits atom.args (kinds_are (wants (AnyPlace ∷ [])) (ap row_of name ∙ row_of_generalize)) in none f.0 f.1

    pub cut_box_fits : atom.name ≡ codes "boxCut" → ((h : Id) (a : Arg) → atom.args ≢ arg.Formula h ∷ a ∷ []) → ⊥
    cut_box_fits name none =
        let f = cut_fits atom.args (kinds_are (wants (QuotedFormula ∷ AnyPlace ∷ [])) (ap row_of name ∙ row_of_cut)) in none f.0 f.1 f.2

    pub use_at_fits : HasNoLocator (atom_at trees atom) → atom.name ≡ codes "useAt" → HasNoUse atom.args → ⊥
    use_at_fits fixed name none = use_fits atom.args (kinds_are use_row (ap row_of name ∙ row_of_use)) fixed none

    pub use_back_fits : HasNoLocator (atom_at trees atom) → atom.name ≡ codes "useBack" → HasNoUse atom.args → ⊥
    use_back_fits fixed name none = use_fits atom.args (kinds_are use_row (ap row_of name ∙ row_of_use_back)) fixed none

-- a name by a test of its bytes
pub bytes_are : (name bytes word : List ℕ) → bytes ≡ name → bytes_eq bytes word ≡ true → name ≡ word
bytes_are name bytes word e same = sym e ∙ (bytes_eq-Decides bytes word).0 same

-- a call that is no use
pub uses_none : (k : Call) → ((u : UseCall) → k ≢ call.Use u) → UsesNone k
uses_none call.Plain other = tt
uses_none (call.Generalize at) other = tt
uses_none (call.CutBox h at) other = tt
uses_none (call.Use u) other = other u refl

-- what a use says
module _ (trees : List Tree) (args : List Arg) (named at : Arg) (y : List ℕ) (place : Place) (path : List ℕ) (name_is : named ≡ arg.Word y)
    (place_is : at ≡ arg.At place path) where
  given_said : (o : Option Extra) → GivenBehind args named at o → UseArguments (map (argument_at trees) args) y place path (given_at trees o)
  given_said None e =
      subst (λ (xs : List Arg). UseArguments (map (argument_at trees) xs) y place path (given_at trees None))
      (sym (e ∙ (λ i. name_is i ∷ place_is i ∷ []))) alone
  given_said (Some extra) e =
      subst (λ (xs : List Arg). UseArguments (map (argument_at trees) xs) y place path (given_at trees (Some extra)))
      (sym (e ∙ (λ i. name_is i ∷ place_is i ∷ arg.With extra ∷ []))) with_extra

given_known : (trees : List Tree) (args : List Arg) (named at : Arg) (o : Option Extra) → GivenBehind args named at o → All (ArgumentIsKnown trees) args →
    GivenIsKnown trees o
given_known trees args named at None e known = tt
given_known trees args named at (Some extra) e known =
    let K = ArgumentIsKnown trees in
    let all = subst (All K) e known in
    All-head K (arg.With extra) [] (All-tail K at (arg.With extra ∷ []) (All-tail K named (at ∷ arg.With extra ∷ []) all))

pub use_said : (trees : List Tree) (d : CodeDirection) (args all : List Arg) (u : UseCall) → all ≡ args → IsUseCall d all u →
    UseArguments (map (argument_at trees) args) u.name.now u.place u.path.now (given_at trees (option_copied u.given))
use_said trees d args all u same h =
    subst (λ (xs : List Arg). UseArguments (map (argument_at trees) xs) u.name.now u.place u.path.now (given_at trees (option_copied u.given))) same
    (given_said trees all h.named h.at u.name.now u.place u.path.now h.says.name_is h.says.place_is (option_copied u.given) h.given)

pub use_named : (d : CodeDirection) (args : List Arg) (u : UseCall) (name : List ℕ) → IsUseCall d args u → name ≡ word_of_direction (direction_of d) →
    name ≡ word_of_direction (direction_of u.direction)
use_named d args u name h e = e ∙ ap (λ (x : CodeDirection). word_of_direction (direction_of x)) (sym h.says.direction_is)

pub use_known : (trees : List Tree) (d : CodeDirection) (args all : List Arg) (u : UseCall) → all ≡ args → IsUseCall d all u →
    All (ArgumentIsKnown trees) args →
    GivenIsKnown trees (option_copied u.given)
use_known trees d args all u same h known =
    given_known trees all h.named h.at (option_copied u.given) h.given (subst (All (ArgumentIsKnown trees)) (sym same) known)
