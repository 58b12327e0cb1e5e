-- What fitting arguments say: those of a rule, or a place elsewhere.
use Rattle.std.proofs.Common.{◌≡◌, ◌≢◌, ℕ, List, [], ◌∷◌, Option, Some, None, refl, sym, subst, ◌⊎◌, inl, inr, arith}
use Rattle.std.specs.List.{All, Any}
use Rattle.std.proofs.lemmas.List.Elements.{All-head, All-tail}
use Rattle.dlk_calculus.specs.Rules.{Arguments, OnePlace, TwoPlaces, PlaceAndFormula, OneFormula, PlaceAndName}
use Rattle.dlk_sequent.specs.declared.sequent.Place.{Place}
use Rattle.dlk_sequent.specs.declared.sequent.Place.TheVariants.{Ante, Succ}
use Rattle.dlk_rules.specs.declared.arguments.Shape.{Shape}
use Rattle.dlk_rules.specs.declared.arguments.Shape.TheVariants as shape
use Rattle.dlk_rules.specs.declared.arguments.Side.{Side}
use Rattle.dlk_rules.specs.declared.arguments.Side.TheVariants.{Left, Right}
use Rattle.dlk_rules.specs.declared.rule.RuleWord.{RuleWord}
use Rattle.dlk_rules.specs.declared.rule.RuleWord.TheVariants as word
use Rattle.dlk_rules.specs.Steps.{side_of}
use Rattle.dlk_rules.specs.Words.{shape_of, wanted}
use Rattle.dlk_rules.proofs.SideLaws.{no_side}
use Rattle.dlk_tacsyn.specs.declared.kind.Kind.TheVariants.{FixedPlace, AnyPlace}
use Rattle.dlk_tacsyn.specs.Tactics.{Argument, AtPlace, AnyLeft, AnyRight, Word, GivenFormula, GivenTerm, GivenExtra}
use Rattle.dlk_tacsyn.specs.Rows.{kinds_of, IsOfKind, AreOfKinds}
use Rattle.dlk_elab.specs.Atoms.{IsThere, IsElsewhere, further, across, AreFor, one_place, two_places, place_and_formula, one_formula, place_and_name, IsFixed}

abbrev Found : Side → Argument → Type 0
Found side a = ((i : ℕ) × IsThere (Some side) i a) ⊎ IsElsewhere side a

place_found : (side : Side) (p : Place) (path : List ℕ) → Found side (AtPlace p path)
place_found side p (k ∷ path) = inr (further p k path)
place_found Left (Ante i) [] = inl (i, refl)
place_found Left (Succ j) [] = inr (across j [])
place_found Right (Ante i) [] = inr (across i [])
place_found Right (Succ j) [] = inl (j, refl)

any_place : (side : Side) (a : Argument) → IsOfKind AnyPlace a → IsFixed a → Found side a
any_place side (AtPlace p path) h fixed = place_found side p path
any_place side AnyLeft h fixed = absurd fixed
any_place side AnyRight h fixed = absurd fixed
any_place side (Word y) h fixed = absurd h
any_place side (GivenFormula t) h fixed = absurd h
any_place side (GivenTerm t) h fixed = absurd h
any_place side (GivenExtra e) h fixed = absurd h

fixed_place : (side : Side) (a : Argument) → IsOfKind FixedPlace a → Found side a
fixed_place side (AtPlace p path) h = place_found side p path
fixed_place side AnyLeft h = absurd h
fixed_place side AnyRight h = absurd h
fixed_place side (Word y) h = absurd h
fixed_place side (GivenFormula t) h = absurd h
fixed_place side (GivenTerm t) h = absurd h
fixed_place side (GivenExtra e) h = absurd h

any_first : (P : Argument → Type 0) (a : Argument) (rest : List Argument) → P a → Any P (a ∷ rest)
any_first P a rest h = (0, a, omega arith, refl, h)

any_second : (P : Argument → Type 0) (a b : Argument) (rest : List Argument) → P b → Any P (a ∷ b ∷ rest)
any_second P a b rest h = (1, b, omega arith, refl, h)

-- arguments of a rule of the shape are said
pub record Said (s : Shape) (side : Option Side) (given : List Argument) : Type 0 where
  pub arguments : Arguments
  pub shape_is : shape_of arguments ≡ s
  pub for : AreFor side given arguments

abbrev Fits : Shape → Side → List Argument → Type 0
Fits s side given = Said s (Some side) given ⊎ Any (IsElsewhere side) given

formula_said : (side : Option Side) (given : List Argument) → AreOfKinds (kinds_of shape.OneFormula) None given → Said shape.OneFormula side given
formula_said side [] h = absurd h
formula_said side (GivenFormula t ∷ []) h = record { arguments = OneFormula t; shape_is = refl; for = one_formula t }
formula_said side (AtPlace p path ∷ []) h = absurd h.0
formula_said side (AnyLeft ∷ []) h = absurd h.0
formula_said side (AnyRight ∷ []) h = absurd h.0
formula_said side (Word y ∷ []) h = absurd h.0
formula_said side (GivenTerm t ∷ []) h = absurd h.0
formula_said side (GivenExtra e ∷ []) h = absurd h.0
formula_said side (a ∷ b ∷ rest) h = absurd h.1

place_fits : (side : Side) (given : List Argument) → AreOfKinds (kinds_of shape.OnePlace) None given → All IsFixed given → Fits shape.OnePlace side given
place_fits side [] h fixed = absurd h
place_fits side (a ∷ []) h fixed =
    elim (any_place side a h.0 (All-head IsFixed a [] fixed)) [
      | inl t ↦ inl (record { arguments = OnePlace t.0; shape_is = refl; for = one_place t.1 })
      | inr e ↦ inr (any_first (IsElsewhere side) a [] e)
    ]
place_fits side (a ∷ b ∷ rest) h fixed = absurd h.1

places_fit : (side : Side) (given : List Argument) → AreOfKinds (kinds_of shape.TwoPlaces) None given → Fits shape.TwoPlaces side given
places_fit side [] h = absurd h
places_fit side (a ∷ []) h = absurd h.1
places_fit side (a ∷ b ∷ []) h =
    elim (fixed_place side a h.0) [
      | inl t ↦ elim (fixed_place side b h.1.0) [
        | inl u ↦ inl (record { arguments = TwoPlaces t.0 u.0; shape_is = refl; for = two_places t.1 u.1 })
        | inr e ↦ inr (any_second (IsElsewhere side) a b [] e)
      ]
      | inr e ↦ inr (any_first (IsElsewhere side) a (b ∷ []) e)
    ]
places_fit side (a ∷ b ∷ x ∷ rest) h = absurd h.1.1

quoted_fits : (side : Side) (given : List Argument) → AreOfKinds (kinds_of shape.PlaceAndFormula) None given → All IsFixed given →
    Fits shape.PlaceAndFormula side given
quoted_fits side [] h fixed = absurd h
quoted_fits side (a ∷ []) h fixed = absurd h.1
quoted_fits side (GivenFormula t ∷ b ∷ []) h fixed =
    elim (any_place side b h.1.0 (All-head IsFixed b [] (All-tail IsFixed (GivenFormula t) (b ∷ []) fixed))) [
      | inl u ↦ inl (record { arguments = PlaceAndFormula u.0 t; shape_is = refl; for = place_and_formula t u.1 })
      | inr e ↦ inr (any_second (IsElsewhere side) (GivenFormula t) b [] e)
    ]
quoted_fits side (AtPlace p path ∷ b ∷ []) h fixed = absurd h.0
quoted_fits side (AnyLeft ∷ b ∷ []) h fixed = absurd h.0
quoted_fits side (AnyRight ∷ b ∷ []) h fixed = absurd h.0
quoted_fits side (Word y ∷ b ∷ []) h fixed = absurd h.0
quoted_fits side (GivenTerm t ∷ b ∷ []) h fixed = absurd h.0
quoted_fits side (GivenExtra e ∷ b ∷ []) h fixed = absurd h.0
quoted_fits side (a ∷ b ∷ x ∷ rest) h fixed = absurd h.1.1

name_fits : (side : Side) (given : List Argument) → AreOfKinds (kinds_of shape.PlaceAndName) None given → All IsFixed given → Fits shape.PlaceAndName side given
name_fits side [] h fixed = absurd h
name_fits side (a ∷ []) h fixed = absurd h.1
name_fits side (Word y ∷ b ∷ []) h fixed =
    elim (any_place side b h.1.0 (All-head IsFixed b [] (All-tail IsFixed (Word y) (b ∷ []) fixed))) [
      | inl u ↦ inl (record { arguments = PlaceAndName u.0 y; shape_is = refl; for = place_and_name y u.1 })
      | inr e ↦ inr (any_second (IsElsewhere side) (Word y) b [] e)
    ]
name_fits side (AtPlace p path ∷ b ∷ []) h fixed = absurd h.0
name_fits side (AnyLeft ∷ b ∷ []) h fixed = absurd h.0
name_fits side (AnyRight ∷ b ∷ []) h fixed = absurd h.0
name_fits side (GivenFormula t ∷ b ∷ []) h fixed = absurd h.0
name_fits side (GivenTerm t ∷ b ∷ []) h fixed = absurd h.0
name_fits side (GivenExtra e ∷ b ∷ []) h fixed = absurd h.0
name_fits side (a ∷ b ∷ x ∷ rest) h fixed = absurd h.1.1

fits : (s : Shape) (side : Side) (given : List Argument) → AreOfKinds (kinds_of s) None given → All IsFixed given → Fits s side given
fits shape.OnePlace side given h fixed = place_fits side given h fixed
fits shape.TwoPlaces side given h fixed = places_fit side given h
fits shape.PlaceAndFormula side given h fixed = quoted_fits side given h fixed
fits shape.OneFormula side given h fixed = inl (formula_said (Some side) given h)
fits shape.PlaceAndName side given h fixed = name_fits side given h fixed

-- a place of an atom for the rule of a word has a path, or is on the other side
pub record HasElsewhere (w : RuleWord) (given : List Argument) : Type 0 where
  pub side : Side
  pub side_is : side_of w ≡ Some side
  pub one : Any (IsElsewhere side) given

abbrev Answers : RuleWord → List Argument → Type 0
Answers w given = Said (wanted w) (side_of w) given ⊎ HasElsewhere w given

-- each word but `close` has a side, or wants a formula alone
data Sided (w : RuleWord) : Type 0 where
  is_close : w ≡ word.Close → Sided w
  no_place : wanted w ≡ shape.OneFormula → Sided w
  on_side : (side : Side) → side_of w ≡ Some side → Sided w

sided : (w : RuleWord) → Sided w
sided w = by (side_of w) refl
  where
    by : (side : Option Side) → side_of w ≡ side → Sided w
    by None e = elim (no_side w e) [ inl close ↦ is_close close | inr alone ↦ no_place alone ]
    by (Some side) e = on_side side e

pub answers : (w : RuleWord) (given : List Argument) → w ≢ word.Close → AreOfKinds (kinds_of (wanted w)) None given → All IsFixed given → Answers w given
answers w given other h fixed =
    elim (sided w) [
      | is_close e ↦ absurd (other e)
      | no_place e ↦ inl (subst (λ s. Said s (side_of w) given) (sym e) (formula_said (side_of w) given (subst (λ s. AreOfKinds (kinds_of s) None given) e h)))
      | on_side side e ↦ elim (fits (wanted w) side given h fixed) [
        | inl said ↦ inl (subst (λ s. Said (wanted w) s given) (sym e) said)
        | inr one ↦ inr (record { side = side; side_is = e; one = one })
      ]
    ]
