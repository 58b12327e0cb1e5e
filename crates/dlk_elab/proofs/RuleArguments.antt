-- The arguments of atoms over ids.
use Rattle.std.proofs.Common.{◌≡◌, ◌≢◌, ℕ, ◌<◌, ◌≤◌, List, [], ◌∷◌, map, length, get_or, Option, refl, sym, ap, subst, ◌∙◌, arith}
use Rattle.dlk_tree.specs.Trees.{Tree}
use Rattle.dlk_store.specs.declared.Id.{Id}
use Rattle.dlk_store.specs.Stores.{tree}
use Rattle.dlk_calculus.specs.Rules.{Arguments, OnePlace, TwoPlaces, PlaceAndFormula, OneFormula, PlaceAndName}
use Rattle.dlk_rules.specs.declared.arguments.Shape.{Shape}
use Rattle.dlk_rules.specs.declared.arguments.Shape.TheVariants as shape
use Rattle.dlk_rules.specs.declared.arguments.Side.{Side}
use Rattle.dlk_rules.specs.declared.arguments.Arguments.{Arguments as IdArguments}
use Rattle.dlk_rules.specs.declared.arguments.Arguments.TheVariants as id_arguments
use Rattle.dlk_rules.specs.Words.{shape_of, shape_in, arguments_at}
use Rattle.dlk_tacsyn.specs.declared.tactic.Arg.{Arg}
use Rattle.dlk_tacsyn.specs.declared.tactic.Arg.TheVariants as arg
use Rattle.dlk_tacsyn.specs.Tactics.{Argument, Word, GivenFormula}
use Rattle.dlk_tacsyn.specs.Ties.{argument_at}
use Rattle.dlk_elab.specs.declared.fault.TacFault.{TacFault}
use Rattle.dlk_elab.specs.declared.fault.TacFault.TheVariants as fault
use Rattle.dlk_elab.specs.Atoms.{NoPlace, IsThere, AreFor, one_place, two_places, place_and_formula, one_formula, place_and_name}
use Rattle.dlk_elab.specs.Ties.{IsTacFault, HasNone}

-- arguments over ids have the shape of those that they stand for
pub same_shape : (trees : List Tree) (a : IdArguments (List ℕ)) → shape_of (arguments_at (λ y. y) trees a) ≡ shape_in a
same_shape trees (id_arguments.OnePlace i) = refl
same_shape trees (id_arguments.TwoPlaces i k) = refl
same_shape trees (id_arguments.PlaceAndFormula i h) = refl
same_shape trees (id_arguments.OneFormula h) = refl
same_shape trees (id_arguments.PlaceAndName i y) = refl

-- a list of one item, and one of two
pub one_item : {A : Type 0} (xs : List A) (x : A) → 1 ≤ length xs → length xs < 2 → x ≡ get_or xs 0 x → xs ≡ x ∷ []
one_item [] x low high is = absurd (omega arith)
one_item (y ∷ []) x low high is = λ i. sym is i ∷ []
one_item (y ∷ z ∷ rest) x low high is = absurd (omega arith)

pub two_items : {A : Type 0} (xs : List A) (x y : A) → 2 ≤ length xs → length xs < 3 → x ≡ get_or xs 0 x → y ≡ get_or xs 1 y → xs ≡ x ∷ y ∷ []
two_items [] x y low high p q = absurd (omega arith)
two_items (a ∷ []) x y low high p q = absurd (omega arith)
two_items (a ∷ b ∷ []) x y low high p q = λ i. sym p i ∷ sym q i ∷ []
two_items (a ∷ b ∷ z ∷ rest) x y low high p q = absurd (omega arith)

module _ (trees : List Tree) (side : Option Side) (args : List Arg) where
  pub for_place : (x : Arg) (i : ℕ) → args ≡ x ∷ [] → IsThere side i (argument_at trees x) → AreFor side (map (argument_at trees) args) (OnePlace i)
  for_place x i e h = subst (λ xs. AreFor side (map (argument_at trees) xs) (OnePlace i)) (sym e) (one_place h)

  pub for_places : (x y : Arg) (i k : ℕ) → args ≡ x ∷ y ∷ [] → IsThere side i (argument_at trees x) → IsThere side k (argument_at trees y) →
      AreFor side (map (argument_at trees) args) (TwoPlaces i k)
  for_places x y i k e h j = subst (λ xs. AreFor side (map (argument_at trees) xs) (TwoPlaces i k)) (sym e) (two_places h j)

  pub for_formula : (x y : Arg) (id : Id) (i : ℕ) → args ≡ x ∷ y ∷ [] → x ≡ arg.Formula id → IsThere side i (argument_at trees y) →
      AreFor side (map (argument_at trees) args) (PlaceAndFormula i (tree trees id))
  for_formula x y id i e is h =
      subst (λ xs. AreFor side (map (argument_at trees) xs) (PlaceAndFormula i (tree trees id))) (sym (e ∙ ap (λ z. z ∷ y ∷ []) is)) (place_and_formula
      (tree trees id) h)

  pub for_formula_alone : (x : Arg) (id : Id) → args ≡ x ∷ [] → x ≡ arg.Formula id → AreFor side (map (argument_at trees) args) (OneFormula (tree trees id))
  for_formula_alone x id e is = subst (λ xs. AreFor side (map (argument_at trees) xs) (OneFormula (tree trees id))) (sym (e ∙ ap (λ z. z ∷ []) is))
      (one_formula (tree trees id))

  pub for_name : (x y : Arg) (name : List ℕ) (i : ℕ) → args ≡ x ∷ y ∷ [] → x ≡ arg.Word name → IsThere side i (argument_at trees y) →
      AreFor side (map (argument_at trees) args) (PlaceAndName i name)
  for_name x y name i e is h =
      subst (λ xs. AreFor side (map (argument_at trees) xs) (PlaceAndName i name)) (sym (e ∙ ap (λ z. z ∷ y ∷ []) is)) (place_and_name name h)

-- what is said, by its shape
data SaysPlace (side : Option Side) : List Argument → Type 0 where
  says_place : {a : Argument} (i : ℕ) → IsThere side i a → SaysPlace side (a ∷ [])

data SaysPlaces (side : Option Side) : List Argument → Type 0 where
  says_places : {a b : Argument} (i k : ℕ) → IsThere side i a → IsThere side k b → SaysPlaces side (a ∷ b ∷ [])

data SaysFormula (side : Option Side) : List Argument → Type 0 where
  says_formula : {a : Argument} {t : Tree} (i : ℕ) → IsThere side i a → SaysFormula side (GivenFormula t ∷ a ∷ [])

data SaysFormulaAlone : List Argument → Type 0 where
  says_alone : {t : Tree} → SaysFormulaAlone (GivenFormula t ∷ [])

data SaysName (side : Option Side) : List Argument → Type 0 where
  says_name : {a : Argument} {y : List ℕ} (i : ℕ) → IsThere side i a → SaysName side (Word y ∷ a ∷ [])

module _ (side : Option Side) where
  place_said : (xs : List Argument) (b : Arguments) → shape_of b ≡ shape.OnePlace → AreFor side xs b → SaysPlace side xs
  place_said _ _ e (one_place {i = i} h) = says_place i h
  place_said _ _ e (two_places h j) = absurd (cc e)
  place_said _ _ e (place_and_formula t h) = absurd (cc e)
  place_said _ _ e (one_formula t) = absurd (cc e)
  place_said _ _ e (place_and_name y h) = absurd (cc e)

  places_said : (xs : List Argument) (b : Arguments) → shape_of b ≡ shape.TwoPlaces → AreFor side xs b → SaysPlaces side xs
  places_said _ _ e (one_place h) = absurd (cc e)
  places_said _ _ e (two_places {i = i} {k = k} h j) = says_places i k h j
  places_said _ _ e (place_and_formula t h) = absurd (cc e)
  places_said _ _ e (one_formula t) = absurd (cc e)
  places_said _ _ e (place_and_name y h) = absurd (cc e)

  formula_said : (xs : List Argument) (b : Arguments) → shape_of b ≡ shape.PlaceAndFormula → AreFor side xs b → SaysFormula side xs
  formula_said _ _ e (one_place h) = absurd (cc e)
  formula_said _ _ e (two_places h j) = absurd (cc e)
  formula_said _ _ e (place_and_formula {i = i} t h) = says_formula i h
  formula_said _ _ e (one_formula t) = absurd (cc e)
  formula_said _ _ e (place_and_name y h) = absurd (cc e)

  alone_said : (xs : List Argument) (b : Arguments) → shape_of b ≡ shape.OneFormula → AreFor side xs b → SaysFormulaAlone xs
  alone_said _ _ e (one_place h) = absurd (cc e)
  alone_said _ _ e (two_places h j) = absurd (cc e)
  alone_said _ _ e (place_and_formula t h) = absurd (cc e)
  alone_said _ _ e (one_formula t) = says_alone
  alone_said _ _ e (place_and_name y h) = absurd (cc e)

  name_said : (xs : List Argument) (b : Arguments) → shape_of b ≡ shape.PlaceAndName → AreFor side xs b → SaysName side xs
  name_said _ _ e (one_place h) = absurd (cc e)
  name_said _ _ e (two_places h j) = absurd (cc e)
  name_said _ _ e (place_and_formula t h) = absurd (cc e)
  name_said _ _ e (one_formula t) = absurd (cc e)
  name_said _ _ e (place_and_name {i = i} y h) = says_name i h

  place_of : (xs : List Argument) (a : Argument) → SaysPlace side xs → xs ≡ a ∷ [] → (i : ℕ) × IsThere side i a
  place_of _ a (says_place {a = x} i h) e = let f : x ≡ a = cc in (i, subst (IsThere side i) f h)

  first_place_of : (xs : List Argument) (a b : Argument) → SaysPlaces side xs → xs ≡ a ∷ b ∷ [] → (i : ℕ) × IsThere side i a
  first_place_of _ a b (says_places {a = x} i k h j) e = let f : x ≡ a = cc in (i, subst (IsThere side i) f h)

  formula_of : (xs : List Argument) (a b : Argument) → SaysFormula side xs → xs ≡ a ∷ b ∷ [] → (t : Tree) × (a ≡ GivenFormula t)
  formula_of _ a b (says_formula {t = t} i h) e = (t, cc)

  place_of_formula : (xs : List Argument) (a b : Argument) → SaysFormula side xs → xs ≡ a ∷ b ∷ [] → (i : ℕ) × IsThere side i b
  place_of_formula _ a b (says_formula {a = y} i h) e = let f : y ≡ b = cc in (i, subst (IsThere side i) f h)

  alone_of : (xs : List Argument) (a : Argument) → SaysFormulaAlone xs → xs ≡ a ∷ [] → (t : Tree) × (a ≡ GivenFormula t)
  alone_of _ a (says_alone {t}) e = (t, cc)

  name_of : (xs : List Argument) (a b : Argument) → SaysName side xs → xs ≡ a ∷ b ∷ [] → (y : List ℕ) × (a ≡ Word y)
  name_of _ a b (says_name {y = y} i h) e = (y, cc)

is_formula : (trees : List Tree) (x : Arg) (t : Tree) → argument_at trees x ≡ GivenFormula t → (id : Id) × (x ≡ arg.Formula id)
is_formula trees (arg.At place path) t e = absurd (cc e)
is_formula trees arg.AnyLeft t e = absurd (cc e)
is_formula trees arg.AnyRight t e = absurd (cc e)
is_formula trees (arg.Word name) t e = absurd (cc e)
is_formula trees (arg.Formula id) t e = (id, refl)
is_formula trees (arg.Term id) t e = absurd (cc e)
is_formula trees (arg.With extra) t e = absurd (cc e)

is_word : (trees : List Tree) (x : Arg) (y : List ℕ) → argument_at trees x ≡ Word y → (z : List ℕ) × (x ≡ arg.Word z)
is_word trees (arg.At place path) y e = absurd (cc e)
is_word trees arg.AnyLeft y e = absurd (cc e)
is_word trees arg.AnyRight y e = absurd (cc e)
is_word trees (arg.Word name) y e = (name, refl)
is_word trees (arg.Formula id) y e = absurd (cc e)
is_word trees (arg.Term id) y e = absurd (cc e)
is_word trees (arg.With extra) y e = absurd (cc e)

module _ (trees : List Tree) (side : Option Side) (args : List Arg) (s : Shape) where
  pub no_place : (x : Arg) → s ≡ shape.OnePlace → args ≡ x ∷ [] → ((i : ℕ) → ¬ IsThere side i (argument_at trees x)) →
      HasNone s side (map (argument_at trees) args)
  no_place x e are none b shape_is for =
      let h = place_of side (map (argument_at trees) args) (argument_at trees x) (place_said side _ b (shape_is ∙ e) for) (ap (map (argument_at trees))
      are) in none h.0 h.1

  module _ (x y : Arg) (are : args ≡ x ∷ y ∷ []) where
    all : map (argument_at trees) args ≡ argument_at trees x ∷ argument_at trees y ∷ []
    all = ap (map (argument_at trees)) are

    pub no_first : s ≡ shape.TwoPlaces → ((i : ℕ) → ¬ IsThere side i (argument_at trees x)) → HasNone s side (map (argument_at trees) args)
    no_first e none b shape_is for = let h = first_place_of side _ _ _ (places_said side _ b (shape_is ∙ e) for) all in none h.0 h.1

    pub no_formula : s ≡ shape.PlaceAndFormula → ((id : Id) → x ≢ arg.Formula id) → HasNone s side (map (argument_at trees) args)
    no_formula e none b shape_is for =
        let h = formula_of side _ _ _ (formula_said side _ b (shape_is ∙ e) for) all in
        let f = is_formula trees x h.0 h.1 in none f.0 f.1

    pub no_place_behind_formula : s ≡ shape.PlaceAndFormula → ((i : ℕ) → ¬ IsThere side i (argument_at trees y)) → HasNone s side (map (argument_at trees) args)
    no_place_behind_formula e none b shape_is for = let h = place_of_formula side _ _ _ (formula_said side _ b (shape_is ∙ e) for) all in none h.0 h.1

    pub no_word : s ≡ shape.PlaceAndName → ((z : List ℕ) → x ≢ arg.Word z) → HasNone s side (map (argument_at trees) args)
    no_word e none b shape_is for =
        let h = name_of side _ _ _ (name_said side _ b (shape_is ∙ e) for) all in
        let f = is_word trees x h.0 h.1 in none f.0 f.1

  pub no_formula_alone : (x : Arg) → s ≡ shape.OneFormula → args ≡ x ∷ [] → ((id : Id) → x ≢ arg.Formula id) → HasNone s side (map (argument_at trees) args)
  no_formula_alone x e are none b shape_is for =
      let h = alone_of side _ _ (alone_said side _ b (shape_is ∙ e) for) (ap (map (argument_at trees)) are) in
      let f = is_formula trees x h.0 h.1 in none f.0 f.1

-- what a fault at a place says, weakened
pub place_fault : (P Q : Type 0) → (e : TacFault) → IsTacFault (λ why. (why ≡ NoPlace) × P) e → (P → Q) → IsTacFault (λ why. (why ≡ NoPlace) × Q) e
place_fault P Q fault.UnknownName h weaker = (h.0, weaker h.1)
place_fault P Q fault.NoPlace h weaker = (h.0, weaker h.1)
place_fault P Q fault.NoMatch h weaker = (h.0, weaker h.1)
place_fault P Q (fault.Step why) h weaker = (h.0, weaker h.1)
place_fault P Q fault.Memory h weaker = tt
