-- An atom asks for one thing.
use Rattle.std.proofs.Common.{◌≡◌, ◌≢◌, ℕ, zero, suc, ◌+◌, ◌<◌, true, false, List, [], ◌∷◌, length, Option, Some, None, refl, sym, ap, subst, ◌∙◌}
use Rattle.std.proofs.Common.{◌⊎◌, inl, inr, arith}
use Rattle.std.specs.Prelude.{codes, IsTrue}
use Rattle.std.specs.List.{Any, slice_index_or}
use Rattle.std.specs.Str.{bytes_eq}
use Rattle.std.proofs.lemmas.Option.{none-some, same_Some}
use Rattle.dlk_tree.specs.Trees.{Tree}
use Rattle.dlk_calculus.specs.Sequents.{Sequent}
use Rattle.dlk_calculus.specs.Rules.{Rule, Close, Arguments, OnePlace, TwoPlaces, PlaceAndFormula, PlaceAndName, word_of, arguments_of}
use Rattle.dlk_calculus.specs.Steps.{Leaf, Apply, Merge}
use Rattle.dlk_calculus.specs.declared.reason.Reason.TheVariants.{NotEqual, WrongShape}
use Rattle.dlk_calculus.specs.Axioms.{Axiom, axiom_named}
use Rattle.dlk_calculus.specs.Notation.{box}
use Rattle.dlk_calculus.specs.Pairs.{Extra}
use Rattle.dlk_calculus.specs.Paths.{subtree}
use Rattle.dlk_calculus.specs.Places.{At}
use Rattle.dlk_calculus.proofs.PlaceLaws.{at_one}
use Rattle.dlk_sequent.specs.declared.sequent.Place.{Place}
use Rattle.dlk_sequent.specs.declared.sequent.Place.TheVariants.{Succ}
use Rattle.dlk_rules.specs.declared.arguments.Shape.TheVariants as shape
use Rattle.dlk_rules.specs.declared.arguments.Side.{Side}
use Rattle.dlk_rules.specs.declared.arguments.Side.TheVariants.{Left, Right}
use Rattle.dlk_rules.specs.declared.rule.RuleWord.{RuleWord}
use Rattle.dlk_rules.specs.declared.rule.RuleWord.TheVariants as word
use Rattle.dlk_rules.specs.Steps.{side_of}
use Rattle.dlk_rules.specs.Words.{shape_of, text_of, wanted, named}
use Rattle.dlk_rules.proofs.WordLaws.{word_named}
use Rattle.dlk_tacsyn.specs.Tactics.{Argument, AtPlace, Word, GivenFormula, Atom}
use Rattle.dlk_elab.specs.Atoms.{UnknownName, NoPlace, NoMatch, AtStep, IsThere, IsElsewhere, further, across, AreFor, one_place, two_places}
use Rattle.dlk_elab.specs.Atoms.{place_and_formula, one_formula, place_and_name, AreSame, AreFirstSame, Asked, Steps, Instance, Refused, Asks, nil}
use Rattle.dlk_elab.specs.Atoms.{close, nothing_same, leaf, a_rule, elsewhere, generalize, cut_box, no_box, not_on_the_right, use_axiom, no_axiom}
use Rattle.dlk_elab.specs.Atoms.{not_there, no_match}
use Rattle.dlk_elab.specs.Atoms.{UseArguments, alone, with_extra, word_of_direction, NamesAxiom, IsUse, StandsThere, MatchesThere, IsForBox}
use Rattle.dlk_elab.specs.Atoms.{generalizes, cuts, IsOnTheRight}
use Rattle.dlk_uses.specs.Uses.{Direction, Forwards, Backwards, Use, key, may_stand, generalizing, cutting_box}
use Rattle.dlk_match.specs.Matching.{Match}

there_one : (side : Option Side) (i k : ℕ) (a : Argument) → IsThere side i a → IsThere side k a → i ≡ k
there_one None i k a s t = absurd s
there_one (Some Left) i k a s t = let e = sym s ∙ t in cc
there_one (Some Right) i k a s t = let e = sym s ∙ t in cc

there_or_elsewhere : (side : Side) (i : ℕ) (a : Argument) → IsThere (Some side) i a → IsElsewhere side a → ⊥
there_or_elsewhere side i a s (further place kid path) = cc
there_or_elsewhere Left i a s (across j path) = cc
there_or_elsewhere Right i a s (across j path) = cc

no_formula : (side : Option Side) (i : ℕ) (h : Tree) → IsThere side i (GivenFormula h) → ⊥
no_formula None i h s = s
no_formula (Some side) i h s = cc

no_name : (side : Option Side) (i : ℕ) (y : List ℕ) → IsThere side i (Word y) → ⊥
no_name None i y s = s
no_name (Some side) i y s = cc

for_one : (side : Option Side) (given : List Argument) (a b : Arguments) → AreFor side given a → AreFor side given b → a ≡ b
for_one side _ _ _ (one_place {a} {i} s) (one_place {i = k} t) = ap OnePlace (there_one side i k a s t)
for_one side _ _ _ (one_place {a} {i} s) (one_formula h) = absurd (no_formula side i h s)
for_one side _ _ _ (two_places {a} {b} {i} {k} s u) (two_places {i = m} {k = n} t v) =
    let p = there_one side i m a s t in let q = there_one side k n b u v in λ j. TwoPlaces (p j) (q j)
for_one side _ _ _ (two_places {i} s u) (place_and_formula h t) = absurd (no_formula side i h s)
for_one side _ _ _ (two_places {i} s u) (place_and_name y t) = absurd (no_name side i y s)
for_one side _ _ _ (place_and_formula h s) (two_places {i} t v) = absurd (no_formula side i h t)
for_one side _ _ _ (place_and_formula {a} {i} h s) (place_and_formula {i = k} g t) = ap (λ n. PlaceAndFormula n h) (there_one side i k a s t)
for_one side _ _ _ (one_formula h) (one_place {i} t) = absurd (no_formula side i h t)
for_one side _ _ _ (one_formula h) (one_formula g) = refl
for_one side _ _ _ (place_and_name y s) (two_places {i} t v) = absurd (no_name side i y t)
for_one side _ _ _ (place_and_name {a} {i} y s) (place_and_name {i = k} z t) = ap (λ n. PlaceAndName n y) (there_one side i k a s t)

any_one : (P : Argument → Type 0) (a : Argument) → Any P (a ∷ []) → P a
any_one P a (zero, x, less, is, h) = subst P (sym is) h
any_one P a (suc k, x, less, is, h) = absurd (omega arith)

any_two : (P : Argument → Type 0) (a b : Argument) → Any P (a ∷ b ∷ []) → P a ⊎ P b
any_two P a b h = any_at h.0 h.1 h.2 h.3 h.4
  where
    any_at : (k : ℕ) (x : Argument) → k < length (a ∷ b ∷ []) → slice_index_or (a ∷ b ∷ []) k x ≡ x → P x → P a ⊎ P b
    any_at zero x less is h = inl (subst P (sym is) h)
    any_at (suc zero) x less is h = inr (subst P (sym is) h)
    any_at (suc (suc k)) x less is h = absurd (omega arith)

for_or_elsewhere : (side : Side) (given : List Argument) (a : Arguments) → AreFor (Some side) given a → Any (IsElsewhere side) given → ⊥
for_or_elsewhere side _ _ (one_place {a} {i} s) any = there_or_elsewhere side i a s (any_one (IsElsewhere side) a any)
for_or_elsewhere side _ _ (two_places {a} {b} {i} {k} s t) any =
    elim (any_two (IsElsewhere side) a b any) [ inl e ↦ there_or_elsewhere side i a s e | inr e ↦ there_or_elsewhere side k b t e ]
for_or_elsewhere side _ _ (place_and_formula {a} {i} h s) any =
    elim (any_two (IsElsewhere side) (GivenFormula h) a any) [ inl e ↦ elim e [ ] | inr e ↦ there_or_elsewhere side i a s e ]
for_or_elsewhere side _ _ (one_formula h) any = elim (any_one (IsElsewhere side) (GivenFormula h) any) [ ]
for_or_elsewhere side _ _ (place_and_name {a} {i} y s) any =
    elim (any_two (IsElsewhere side) (Word y) a any) [ inl e ↦ elim e [ ] | inr e ↦ there_or_elsewhere side i a s e ]

-- `close` is given no places
for_none : (given : List Argument) (a : Arguments) → AreFor None given a → shape_of a ≡ shape.TwoPlaces → ⊥
for_none _ _ (one_place s) e = s
for_none _ _ (two_places s t) e = s
for_none _ _ (place_and_formula h s) e = s
for_none _ _ (one_formula h) e = cc
for_none _ _ (place_and_name y s) e = s

apart : (a b : List ℕ) → bytes_eq a b ≡ false → bytes_eq a a ≡ true → a ≡ b → ⊥
apart a b other same e = let f = ap (bytes_eq a) e in cc

not_nil : (w : RuleWord) → text_of w ≡ codes "nil" → ⊥
not_nil w e = none-some w (ap named (sym e) ∙ word_named w)

not_leaf : (w : RuleWord) → text_of w ≡ codes "leaf" → ⊥
not_leaf w e = none-some w (ap named (sym e) ∙ word_named w)

pub is_close : (w : RuleWord) → text_of w ≡ codes "close" → w ≡ word.Close
is_close w e = same_Some w word.Close (sym (word_named w) ∙ ap named e)

same_word : (v w : RuleWord) → text_of v ≡ text_of w → v ≡ w
same_word v w e = same_Some v w (sym (word_named v) ∙ ap named e ∙ word_named w)

first_one : (s : Sequent) (i j k l : ℕ) → AreFirstSame s i j → AreFirstSame s k l → (i ≡ k) × (j ≡ l)
first_one s i j k l f g =
    elim (f.least k l g.same) [
      | inl low ↦ elim (g.least i j f.same) [ inl high ↦ absurd (omega arith) | inr h ↦ absurd (omega (arith, h.0)) ]
      | inr here ↦ elim (g.least i j f.same) [ inl high ↦ absurd (omega (arith, here.0)) | inr h ↦ (here.0, omega (arith, here.1, h.1)) ]
    ]

-- What an atom asks for, by its kind: one for a rule or without arguments, one for a box, one that uses an axiom.

pub data AsksPlainly (rows fact goal : ℕ) (s : Sequent) (atom : Atom) : Asked → Type 0 where
  by_nil : atom.name ≡ codes "nil" → AsksPlainly rows fact goal s atom (Steps [])
  by_close : {i j : ℕ} → atom.name ≡ codes "close" → AreFirstSame s i j → AsksPlainly rows fact goal s atom (Steps (Apply fact goal (Close i j) ∷ []))
  by_nothing_same : atom.name ≡ codes "close" → ((i j : ℕ) → ¬ AreSame s i j) → AsksPlainly rows fact goal s atom (Refused (AtStep NotEqual))
  by_leaf : atom.name ≡ codes "leaf" → AsksPlainly rows fact goal s atom (Steps (Leaf s ∷ Merge fact goal (rows + 1) ∷ []))
  by_a_rule : (word : RuleWord) (rule : Rule) → atom.name ≡ text_of word → word_of rule ≡ text_of word →
      AreFor (side_of word) atom.arguments (arguments_of rule) → AsksPlainly rows fact goal s atom (Steps (Apply fact goal rule ∷ []))
  by_elsewhere : (word : RuleWord) (side : Side) → atom.name ≡ text_of word → side_of word ≡ Some side → Any (IsElsewhere side) atom.arguments →
      AsksPlainly rows fact goal s atom (Refused NoPlace)

pub data AsksBox (rows fact goal : ℕ) (s : Sequent) (atom : Atom) : Asked → Type 0 where
  by_generalize : (j : ℕ) (b f : Tree) → atom.name ≡ codes "G" → atom.arguments ≡ AtPlace (Succ j) [] ∷ [] → At s.succ j (box b f) →
      AsksBox rows fact goal s atom (Steps (generalizing rows (record { fact = fact; goal = goal; s = s }) j b f))
  by_cut_box : (j : ℕ) (b f h : Tree) → atom.name ≡ codes "boxCut" → atom.arguments ≡ GivenFormula h ∷ AtPlace (Succ j) [] ∷ [] →
      At s.succ j (box b f) → AsksBox rows fact goal s atom (Steps (cutting_box rows (record { fact = fact; goal = goal; s = s }) j b f h))
  by_no_box : (p : Argument) (j : ℕ) (e : Tree) → IsForBox atom p → IsOnTheRight s p j e → ((b f : Tree) → e ≢ box b f) →
      AsksBox rows fact goal s atom (Refused (AtStep WrongShape))
  by_not_on_the_right : (p : Argument) → IsForBox atom p → ((j : ℕ) (e : Tree) → ¬ IsOnTheRight s p j e) → AsksBox rows fact goal s atom (Refused NoPlace)

pub data AsksUse (rows fact goal : ℕ) (s : Sequent) (atom : Atom) : Asked → Type 0 where
  by_use_axiom : (used : Use) (e t : Tree) (extra : Extra) → IsUse atom used → StandsThere s used e t →
      IsTrue (may_stand used.its_axiom.form used.direction used.place used.path) → MatchesThere used t extra →
      AsksUse rows fact goal s atom (Instance used extra e)
  by_no_axiom : (direction : Direction) (name : List ℕ) (place : Place) (path : List ℕ) (given : Extra) →
      NamesAxiom atom direction name place path given → axiom_named name ≡ None → AsksUse rows fact goal s atom (Refused UnknownName)
  by_not_there : (used : Use) → IsUse atom used → ((e t : Tree) → ¬ StandsThere s used e t) → AsksUse rows fact goal s atom (Refused NoPlace)
  by_no_match : (used : Use) (e t : Tree) → IsUse atom used → StandsThere s used e t →
      (IsTrue (may_stand used.its_axiom.form used.direction used.place used.path) → (extra : Extra) → ¬ MatchesThere used t extra) →
      AsksUse rows fact goal s atom (Refused NoMatch)

pub data View (rows fact goal : ℕ) (s : Sequent) (atom : Atom) (asked : Asked) : Type 0 where
  plainly : AsksPlainly rows fact goal s atom asked → View rows fact goal s atom asked
  for_box : AsksBox rows fact goal s atom asked → View rows fact goal s atom asked
  for_use : AsksUse rows fact goal s atom asked → View rows fact goal s atom asked

module _ (rows fact goal : ℕ) (s : Sequent) (atom : Atom) where
  pub view : (x : Asked) → Asks rows fact goal s atom x → View rows fact goal s atom x
  view _ (nil n) = plainly (by_nil n)
  view _ (close n f) = plainly (by_close n f)
  view _ (nothing_same n f) = plainly (by_nothing_same n f)
  view _ (leaf n) = plainly (by_leaf n)
  view _ (a_rule w r n its for) = plainly (by_a_rule w r n its for)
  view _ (elsewhere w side n is any) = plainly (by_elsewhere w side n is any)
  view _ (generalize j b f n are here) = for_box (by_generalize j b f n are here)
  view _ (cut_box j b f h n are here) = for_box (by_cut_box j b f h n are here)
  view _ (no_box p j e is there other) = for_box (by_no_box p j e is there other)
  view _ (not_on_the_right p is none) = for_box (by_not_on_the_right p is none)
  view _ (use_axiom used e t extra is there may match) = for_use (by_use_axiom used e t extra is there may match)
  view _ (no_axiom direction name place path given names none) = for_use (by_no_axiom direction name place path given names none)
  view _ (not_there used is none) = for_use (by_not_there used is none)
  view _ (no_match used e t is there none) = for_use (by_no_match used e t is there none)

-- names of the three kinds
data BoxName (name : List ℕ) : Type 0 where
  is_generalize : name ≡ codes "G" → BoxName name
  is_cut : name ≡ codes "boxCut" → BoxName name

data UseName (name : List ℕ) : Type 0 where
  is_use_at : name ≡ codes "useAt" → UseName name
  is_use_back : name ≡ codes "useBack" → UseName name

rule_no_other : (w : RuleWord) (name : List ℕ) → named name ≡ None → text_of w ≡ name → ⊥
rule_no_other w name none e = none-some w (sym none ∙ ap named (sym e) ∙ word_named w)

box_of : (atom : Atom) (p : Argument) → IsForBox atom p → BoxName atom.name
box_of atom p (generalizes n are) = is_generalize n
box_of atom p (cuts h n are) = is_cut n

use_of : (atom : Atom) (direction : Direction) → atom.name ≡ word_of_direction direction → UseName atom.name
use_of atom Forwards n = is_use_at n
use_of atom Backwards n = is_use_back n

module _ (rows fact goal : ℕ) (s : Sequent) (atom : Atom) where
  box_name : (x : Asked) → AsksBox rows fact goal s atom x → BoxName atom.name
  box_name _ (by_generalize j b f n are here) = is_generalize n
  box_name _ (by_cut_box j b f h n are here) = is_cut n
  box_name _ (by_no_box p j e is there other) = box_of atom p is
  box_name _ (by_not_on_the_right p is none) = box_of atom p is

  use_name : (x : Asked) → AsksUse rows fact goal s atom x → UseName atom.name
  use_name _ (by_use_axiom used e t extra is there may match) = use_of atom used.direction is.names.0
  use_name _ (by_no_axiom direction name place path given names none) = use_of atom direction names.0
  use_name _ (by_not_there used is none) = use_of atom used.direction is.names.0
  use_name _ (by_no_match used e t is there none) = use_of atom used.direction is.names.0

  pub plain_other : (name : List ℕ) → bytes_eq (codes "nil") name ≡ false → bytes_eq (codes "close") name ≡ false → bytes_eq (codes "leaf") name ≡ false →
      bytes_eq name name ≡ true → named name ≡ None → (x : Asked) → AsksPlainly rows fact goal s atom x → atom.name ≡ name → ⊥
  plain_other name a b d same none _ (by_nil n) e = apart (codes "nil") name a refl (sym n ∙ e)
  plain_other name a b d same none _ (by_close n f) e = apart (codes "close") name b refl (sym n ∙ e)
  plain_other name a b d same none _ (by_nothing_same n f) e = apart (codes "close") name b refl (sym n ∙ e)
  plain_other name a b d same none _ (by_leaf n) e = apart (codes "leaf") name d refl (sym n ∙ e)
  plain_other name a b d same none _ (by_a_rule w r n its for) e = rule_no_other w name none (sym n ∙ e)
  plain_other name a b d same none _ (by_elsewhere w side n is any) e = rule_no_other w name none (sym n ∙ e)

  plain_no_box : (x y : Asked) → AsksPlainly rows fact goal s atom x → AsksBox rows fact goal s atom y → ⊥
  plain_no_box x y a b = elim (box_name y b) [
    | is_generalize e ↦ plain_other (codes "G") refl refl refl refl refl x a e
    | is_cut e ↦ plain_other (codes "boxCut") refl refl refl refl refl x a e
  ]

  plain_no_use : (x y : Asked) → AsksPlainly rows fact goal s atom x → AsksUse rows fact goal s atom y → ⊥
  plain_no_use x y a b = elim (use_name y b) [
    | is_use_at e ↦ plain_other (codes "useAt") refl refl refl refl refl x a e
    | is_use_back e ↦ plain_other (codes "useBack") refl refl refl refl refl x a e
  ]

  box_no_use : (x y : Asked) → AsksBox rows fact goal s atom x → AsksUse rows fact goal s atom y → ⊥
  box_no_use x y a b = elim (box_name x a) [
    | is_generalize e ↦ elim (use_name y b) [
      | is_use_at f ↦ apart (codes "G") (codes "useAt") refl refl (sym e ∙ f)
      | is_use_back f ↦ apart (codes "G") (codes "useBack") refl refl (sym e ∙ f)
    ]
    | is_cut e ↦ elim (use_name y b) [
      | is_use_at f ↦ apart (codes "boxCut") (codes "useAt") refl refl (sym e ∙ f)
      | is_use_back f ↦ apart (codes "boxCut") (codes "useBack") refl refl (sym e ∙ f)
    ]
  ]

-- ---- boxes

place_one : (atom : Atom) (p q : Argument) → IsForBox atom p → IsForBox atom q → p ≡ q
place_one atom p q (generalizes n are) (generalizes m also) = let e = sym are ∙ also in cc
place_one atom p q (generalizes n are) (cuts h m also) = let e = sym are ∙ also in cc
place_one atom p q (cuts h n are) (generalizes m also) = let e = sym are ∙ also in cc
place_one atom p q (cuts h n are) (cuts k m also) = let e = sym are ∙ also in cc

on_one : (s : Sequent) (p q : Argument) (j k : ℕ) (e f : Tree) → p ≡ q → IsOnTheRight s p j e → IsOnTheRight s q k f → (j ≡ k) × (e ≡ f)
on_one s p q j k e f same a b =
    let places : AtPlace (Succ j) [] ≡ AtPlace (Succ k) [] = sym a.place ∙ same ∙ b.place in
    let n : j ≡ k = cc in
    (n, at_one s.succ k e f (subst (λ m. At s.succ m e) n a.stands) b.stands)

formula_one : (h k : Tree) (p q : Argument) → GivenFormula h ∷ p ∷ [] ≡ GivenFormula k ∷ q ∷ [] → h ≡ k
formula_one h k p q e = cc

program_one : (b f c g : Tree) → box b f ≡ box c g → b ≡ c
program_one b f c g e = cc

under_one : (b f c g : Tree) → box b f ≡ box c g → f ≡ g
under_one b f c g e = cc

module _ (rows fact goal : ℕ) (s : Sequent) (atom : Atom) where
  boxes_one : (x y : Asked) → AsksBox rows fact goal s atom x → AsksBox rows fact goal s atom y → x ≡ y
  boxes_one _ _ (by_generalize j b f n are here) (by_generalize k c g m also there) =
      let p = on_one s (AtPlace (Succ j) []) (AtPlace (Succ k) []) j k (box b f) (box c g)
      (place_one atom (AtPlace (Succ j) []) (AtPlace (Succ k) []) (generalizes n are) (generalizes m also))
      (record { place = refl; stands = here }) (record { place = refl; stands = there }) in
      let pb = program_one b f c g p.1 in
      let pf = under_one b f c g p.1 in
      λ i. Steps (generalizing rows (record { fact = fact; goal = goal; s = s }) (p.0 i) (pb i) (pf i))
  boxes_one _ _ (by_generalize j b f n are here) (by_cut_box k c g h m also there) = absurd (apart (codes "G") (codes "boxCut") refl refl (sym n ∙ m))
  boxes_one _ _ (by_generalize j b f n are here) (by_no_box q k e is there other) =
      let p = on_one s (AtPlace (Succ j) []) q j k (box b f) e (place_one atom (AtPlace (Succ j) []) q (generalizes n are) is)
      (record { place = refl; stands = here }) there in absurd (other b f (sym p.1))
  boxes_one _ _ (by_generalize j b f n are here) (by_not_on_the_right q is none) =
      absurd (none j (box b f) (record { place = sym (place_one atom (AtPlace (Succ j) []) q (generalizes n are) is); stands = here }))
  boxes_one _ _ (by_cut_box j b f h n are here) (by_generalize k c g m also there) = absurd (apart (codes "boxCut") (codes "G") refl refl (sym n ∙ m))
  boxes_one _ _ (by_cut_box j b f h n are here) (by_cut_box k c g l m also there) =
      let p = on_one s (AtPlace (Succ j) []) (AtPlace (Succ k) []) j k (box b f) (box c g)
      (place_one atom (AtPlace (Succ j) []) (AtPlace (Succ k) []) (cuts h n are) (cuts l m also))
      (record { place = refl; stands = here }) (record { place = refl; stands = there }) in
      let pb = program_one b f c g p.1 in
      let pf = under_one b f c g p.1 in
      let ph = formula_one h l (AtPlace (Succ j) []) (AtPlace (Succ k) []) (sym are ∙ also) in
      λ i. Steps (cutting_box rows (record { fact = fact; goal = goal; s = s }) (p.0 i) (pb i) (pf i) (ph i))
  boxes_one _ _ (by_cut_box j b f h n are here) (by_no_box q k e is there other) =
      let p = on_one s (AtPlace (Succ j) []) q j k (box b f) e (place_one atom (AtPlace (Succ j) []) q (cuts h n are) is)
      (record { place = refl; stands = here }) there in absurd (other b f (sym p.1))
  boxes_one _ _ (by_cut_box j b f h n are here) (by_not_on_the_right q is none) =
      absurd (none j (box b f) (record { place = sym (place_one atom (AtPlace (Succ j) []) q (cuts h n are) is); stands = here }))
  boxes_one _ _ (by_no_box q k e is there other) (by_generalize j b f n are here) =
      let p = on_one s (AtPlace (Succ j) []) q j k (box b f) e (place_one atom (AtPlace (Succ j) []) q (generalizes n are) is)
      (record { place = refl; stands = here }) there in absurd (other b f (sym p.1))
  boxes_one _ _ (by_no_box q k e is there other) (by_cut_box j b f h n are here) =
      let p = on_one s (AtPlace (Succ j) []) q j k (box b f) e (place_one atom (AtPlace (Succ j) []) q (cuts h n are) is)
      (record { place = refl; stands = here }) there in absurd (other b f (sym p.1))
  boxes_one _ _ (by_no_box q k e is there other) (by_no_box p j f its here another) = refl
  boxes_one _ _ (by_no_box q k e is there other) (by_not_on_the_right p its none) =
      absurd (none k e (record { place = place_one atom p q its is ∙ there.place; stands = there.stands }))
  boxes_one _ _ (by_not_on_the_right q is none) (by_generalize j b f n are here) =
      absurd (none j (box b f) (record { place = sym (place_one atom (AtPlace (Succ j) []) q (generalizes n are) is); stands = here }))
  boxes_one _ _ (by_not_on_the_right q is none) (by_cut_box j b f h n are here) =
      absurd (none j (box b f) (record { place = sym (place_one atom (AtPlace (Succ j) []) q (cuts h n are) is); stands = here }))
  boxes_one _ _ (by_not_on_the_right p is none) (by_no_box q k e its there other) =
      absurd (none k e (record { place = place_one atom p q is its ∙ there.place; stands = there.stands }))
  boxes_one _ _ (by_not_on_the_right q is none) (by_not_on_the_right p its lacks) = refl

-- ---- uses

direction_one : (c d : Direction) → word_of_direction c ≡ word_of_direction d → c ≡ d
direction_one Forwards Forwards e = refl
direction_one Forwards Backwards e = absurd (apart (codes "useAt") (codes "useBack") refl refl e)
direction_one Backwards Forwards e = absurd (apart (codes "useBack") (codes "useAt") refl refl e)
direction_one Backwards Backwards e = refl

-- what the arguments of a use say is one
record Same (n m : List ℕ) (p q : Place) (a b : List ℕ) (g h : Extra) : Type 0 where
  name : n ≡ m
  place : p ≡ q
  path : a ≡ b
  given : g ≡ h

arguments_one : (xs : List Argument) (n m : List ℕ) (p q : Place) (a b : List ℕ) (g h : Extra) → UseArguments xs n p a g → UseArguments xs m q b h →
    Same n m p q a b g h
arguments_one _ _ _ _ _ _ _ _ _ alone alone = record { name = refl; place = refl; path = refl; given = refl }
arguments_one _ _ _ _ _ _ _ _ _ with_extra with_extra = record { name = refl; place = refl; path = refl; given = refl }

module _ (atom : Atom) where
  axiom_one : (n m : List ℕ) (a b : Axiom) → n ≡ m → axiom_named n ≡ Some a → axiom_named m ≡ Some b → a ≡ b
  axiom_one n m a b e p q = same_Some a b (sym p ∙ ap axiom_named e ∙ q)

  use_one : (u v : Use) → IsUse atom u → IsUse atom v → u ≡ v
  use_one u v x y =
      let args = arguments_one atom.arguments x.name y.name u.place v.place u.path v.path u.given v.given x.names.1 y.names.1 in
      let d = direction_one u.direction v.direction (sym x.names.0 ∙ y.names.0) in
      let a = axiom_one x.name y.name u.its_axiom v.its_axiom args.name x.is_axiom y.is_axiom in
      λ i. record { its_axiom = a i; direction = d i; place = args.place i; path = args.path i; given = args.given i }

  no_such : (u : Use) (direction : Direction) (name : List ℕ) (place : Place) (path : List ℕ) (given : Extra) → IsUse atom u →
      NamesAxiom atom direction name place path given → axiom_named name ≡ None → ⊥
  no_such u direction name place path given x names none =
      let args = arguments_one atom.arguments x.name name u.place place u.path path u.given given x.names.1 names.1 in
      none-some u.its_axiom (sym none ∙ ap axiom_named (sym args.name) ∙ x.is_axiom)

  module _ (s : Sequent) where
    there_one' : (u v : Use) (e t f r : Tree) → u ≡ v → StandsThere s u e t → StandsThere s v f r → (e ≡ f) × (t ≡ r)
    there_one' u v e t f r same x y =
        let z : StandsThere s v e t = subst (λ (w : Use). StandsThere s w e t) same x in
        let p : e ≡ f = same_Some e f (sym z.formula ∙ y.formula) in
        (p, same_Some t r (sym z.inside ∙ ap (λ (d : Tree). subtree d v.path) p ∙ y.inside))

-- a match, and that there is none
unmatched : (atom : Atom) (s : Sequent) (u : Use) (e t : Tree) (extra : Extra) (v : Use) (f r : Tree) → IsUse atom u → IsUse atom v → StandsThere s u e t →
    StandsThere s v f r → IsTrue (may_stand u.its_axiom.form u.direction u.place u.path) → MatchesThere u t extra →
    (IsTrue (may_stand v.its_axiom.form v.direction v.place v.path) → (more : Extra) → ¬ MatchesThere v r more) → ⊥
unmatched atom s u e t extra v f r is its there here may match none =
    let p = use_one atom u v is its in
    let q = there_one' atom s u v e t f r p there here in
    none (subst (λ (w : Use). IsTrue (may_stand w.its_axiom.form w.direction w.place w.path)) p may) extra
    (subst (λ (w : Use). MatchesThere w r extra) p (subst (λ (z : Tree). MatchesThere u z extra) q.1 match))

module _ (one_match : (key : Tree) (own : List (List ℕ)) (e : Tree) (given a b : Extra) → Match key own e given a → Match key own e given b → a ≡ b)
    (rows fact goal : ℕ) (s : Sequent) (atom : Atom) where
  uses_one : (x y : Asked) → AsksUse rows fact goal s atom x → AsksUse rows fact goal s atom y → x ≡ y
  uses_one _ _ (by_use_axiom u e t extra is there may match) (by_use_axiom v f r more its here might other) =
      let p = use_one atom u v is its in
      let q = there_one' atom s u v e t f r p there here in
      let m : MatchesThere v r extra = subst (λ (w : Use). MatchesThere w r extra) p (subst (λ (z : Tree). MatchesThere u z extra) q.1 match) in
      let k = one_match (key v.its_axiom.form v.direction v.place v.its_axiom.formula) v.its_axiom.own_names r v.given extra more m other in
      λ i. Instance (p i) (k i) (q.0 i)
  uses_one _ _ (by_use_axiom u e t extra is there may match) (by_no_axiom d n p pa g names none) = absurd (no_such atom u d n p pa g is names none)
  uses_one _ _ (by_use_axiom u e t extra is there may match) (by_not_there v its none) =
      absurd (none e t (subst (λ (w : Use). StandsThere s w e t) (use_one atom u v is its) there))
  uses_one _ _ (by_use_axiom u e t extra is there may match) (by_no_match v f r its here none) =
      absurd (unmatched atom s u e t extra v f r is its there here may match none)
  uses_one _ _ (by_no_axiom d n p pa g names none) (by_use_axiom u e t extra is there may match) = absurd (no_such atom u d n p pa g is names none)
  uses_one _ _ (by_no_axiom d n p pa g names none) (by_no_axiom c m q qa h also lacks) = refl
  uses_one _ _ (by_no_axiom d n p pa g names none) (by_not_there u is lacks) = absurd (no_such atom u d n p pa g is names none)
  uses_one _ _ (by_no_axiom d n p pa g names none) (by_no_match u e t is there lacks) = absurd (no_such atom u d n p pa g is names none)
  uses_one _ _ (by_not_there v its none) (by_use_axiom u e t extra is there may match) =
      absurd (none e t (subst (λ (w : Use). StandsThere s w e t) (use_one atom u v is its) there))
  uses_one _ _ (by_not_there u is lacks) (by_no_axiom d n p pa g names none) = absurd (no_such atom u d n p pa g is names none)
  uses_one _ _ (by_not_there u is lacks) (by_not_there v its none) = refl
  uses_one _ _ (by_not_there v its none) (by_no_match u e t is there lacks) =
      absurd (none e t (subst (λ (w : Use). StandsThere s w e t) (use_one atom u v is its) there))
  uses_one _ _ (by_no_match v f r its here none) (by_use_axiom u e t extra is there may match) =
      absurd (unmatched atom s u e t extra v f r is its there here may match none)
  uses_one _ _ (by_no_match u e t is there lacks) (by_no_axiom d n p pa g names none) = absurd (no_such atom u d n p pa g is names none)
  uses_one _ _ (by_no_match u e t is there lacks) (by_not_there v its none) =
      absurd (none e t (subst (λ (w : Use). StandsThere s w e t) (use_one atom u v is its) there))
  uses_one _ _ (by_no_match u e t is there lacks) (by_no_match v f r its here none) = refl

module _ (one_rule : (r s : Rule) → word_of r ≡ word_of s → arguments_of r ≡ arguments_of s → r ≡ s)
    (one_shape : (w : RuleWord) (rule : Rule) → word_of rule ≡ text_of w → shape_of (arguments_of rule) ≡ wanted w) where
  -- the atom `close` isn't that of the rule
  no_close : (w : RuleWord) (rule : Rule) (given : List Argument) → text_of w ≡ codes "close" → word_of rule ≡ text_of w →
      AreFor (side_of w) given (arguments_of rule) → ⊥
  no_close w rule given name its for =
      let e = is_close w name in
      for_none given (arguments_of rule) (subst (λ v. AreFor (side_of v) given (arguments_of rule)) e for) (one_shape w rule its ∙ ap wanted e)

  no_side : (w : RuleWord) (side : Side) → text_of w ≡ codes "close" → side_of w ≡ Some side → ⊥
  no_side w side name is = none-some side (ap side_of (sym (is_close w name)) ∙ is)

  module _ (rows fact goal : ℕ) (s : Sequent) (atom : Atom) where
    plainly_one : (x y : Asked) → AsksPlainly rows fact goal s atom x → AsksPlainly rows fact goal s atom y → x ≡ y
    plainly_one _ _ (by_nil n) (by_nil m) = refl
    plainly_one _ _ (by_nil n) (by_close m g) = absurd (apart (codes "nil") (codes "close") refl refl (sym n ∙ m))
    plainly_one _ _ (by_nil n) (by_nothing_same m g) = absurd (apart (codes "nil") (codes "close") refl refl (sym n ∙ m))
    plainly_one _ _ (by_nil n) (by_leaf m) = absurd (apart (codes "nil") (codes "leaf") refl refl (sym n ∙ m))
    plainly_one _ _ (by_nil n) (by_a_rule w r m its for) = absurd (not_nil w (sym m ∙ n))
    plainly_one _ _ (by_nil n) (by_elsewhere w side m is any) = absurd (not_nil w (sym m ∙ n))
    plainly_one _ _ (by_close n f) (by_nil m) = absurd (apart (codes "close") (codes "nil") refl refl (sym n ∙ m))
    plainly_one _ _ (by_close {i} {j} n f) (by_close {i = k} {j = l} m g) =
        let e = first_one s i j k l f g in let p = e.0 in let q = e.1 in λ z. Steps (Apply fact goal (Close (p z) (q z)) ∷ [])
    plainly_one _ _ (by_close {i} {j} n f) (by_nothing_same m g) = absurd (g i j f.same)
    plainly_one _ _ (by_close n f) (by_leaf m) = absurd (apart (codes "close") (codes "leaf") refl refl (sym n ∙ m))
    plainly_one _ _ (by_close n f) (by_a_rule w r m its for) = absurd (no_close w r atom.arguments (sym m ∙ n) its for)
    plainly_one _ _ (by_close n f) (by_elsewhere w side m is any) = absurd (no_side w side (sym m ∙ n) is)
    plainly_one _ _ (by_nothing_same n f) (by_nil m) = absurd (apart (codes "close") (codes "nil") refl refl (sym n ∙ m))
    plainly_one _ _ (by_nothing_same n f) (by_close {i} {j} m g) = absurd (f i j g.same)
    plainly_one _ _ (by_nothing_same n f) (by_nothing_same m g) = refl
    plainly_one _ _ (by_nothing_same n f) (by_leaf m) = absurd (apart (codes "close") (codes "leaf") refl refl (sym n ∙ m))
    plainly_one _ _ (by_nothing_same n f) (by_a_rule w r m its for) = absurd (no_close w r atom.arguments (sym m ∙ n) its for)
    plainly_one _ _ (by_nothing_same n f) (by_elsewhere w side m is any) = absurd (no_side w side (sym m ∙ n) is)
    plainly_one _ _ (by_leaf n) (by_nil m) = absurd (apart (codes "leaf") (codes "nil") refl refl (sym n ∙ m))
    plainly_one _ _ (by_leaf n) (by_close m g) = absurd (apart (codes "leaf") (codes "close") refl refl (sym n ∙ m))
    plainly_one _ _ (by_leaf n) (by_nothing_same m g) = absurd (apart (codes "leaf") (codes "close") refl refl (sym n ∙ m))
    plainly_one _ _ (by_leaf n) (by_leaf m) = refl
    plainly_one _ _ (by_leaf n) (by_a_rule w r m its for) = absurd (not_leaf w (sym m ∙ n))
    plainly_one _ _ (by_leaf n) (by_elsewhere w side m is any) = absurd (not_leaf w (sym m ∙ n))
    plainly_one _ _ (by_a_rule w r n its for) (by_nil m) = absurd (not_nil w (sym n ∙ m))
    plainly_one _ _ (by_a_rule w r n its for) (by_close m g) = absurd (no_close w r atom.arguments (sym n ∙ m) its for)
    plainly_one _ _ (by_a_rule w r n its for) (by_nothing_same m g) = absurd (no_close w r atom.arguments (sym n ∙ m) its for)
    plainly_one _ _ (by_a_rule w r n its for) (by_leaf m) = absurd (not_leaf w (sym n ∙ m))
    plainly_one _ _ (by_a_rule w r n its for) (by_a_rule v q m its' for') =
        let e = same_word v w (sym m ∙ n) in
        let same = for_one (side_of w) atom.arguments (arguments_of r) (arguments_of q) for (subst (λ x. AreFor (side_of x) atom.arguments (arguments_of
        q)) e for') in
        ap (λ x. Steps (Apply fact goal x ∷ [])) (one_rule r q (its ∙ sym n ∙ m ∙ sym its') same)
    plainly_one _ _ (by_a_rule w r n its for) (by_elsewhere v side m is any) =
        let e = same_word v w (sym m ∙ n) in
        absurd (for_or_elsewhere side atom.arguments (arguments_of r) (subst (λ x. AreFor x atom.arguments (arguments_of r)) (ap side_of (sym e) ∙ is) for) any)
    plainly_one _ _ (by_elsewhere w side n is any) (by_nil m) = absurd (not_nil w (sym n ∙ m))
    plainly_one _ _ (by_elsewhere w side n is any) (by_close m g) = absurd (no_side w side (sym n ∙ m) is)
    plainly_one _ _ (by_elsewhere w side n is any) (by_nothing_same m g) = absurd (no_side w side (sym n ∙ m) is)
    plainly_one _ _ (by_elsewhere w side n is any) (by_leaf m) = absurd (not_leaf w (sym n ∙ m))
    plainly_one _ _ (by_elsewhere v side n is any) (by_a_rule w r m its for) =
        let e = same_word v w (sym n ∙ m) in
        absurd (for_or_elsewhere side atom.arguments (arguments_of r) (subst (λ x. AreFor x atom.arguments (arguments_of r)) (ap side_of (sym e) ∙ is) for) any)
    plainly_one _ _ (by_elsewhere w side n is any) (by_elsewhere v other m its one) = refl

    module _ (one_match : (key : Tree) (own : List (List ℕ)) (e : Tree) (given a b : Extra) → Match key own e given a → Match key own e given b → a ≡ b) where
      pub asks_one : (x y : Asked) → Asks rows fact goal s atom x → Asks rows fact goal s atom y → x ≡ y
      asks_one x y a b = elim (view rows fact goal s atom x a) [
        | plainly p ↦ elim (view rows fact goal s atom y b) [
          | plainly q ↦ plainly_one x y p q
          | for_box q ↦ absurd (plain_no_box rows fact goal s atom x y p q)
          | for_use q ↦ absurd (plain_no_use rows fact goal s atom x y p q)
        ]
        | for_box p ↦ elim (view rows fact goal s atom y b) [
          | plainly q ↦ absurd (plain_no_box rows fact goal s atom y x q p)
          | for_box q ↦ boxes_one rows fact goal s atom x y p q
          | for_use q ↦ absurd (box_no_use rows fact goal s atom x y p q)
        ]
        | for_use p ↦ elim (view rows fact goal s atom y b) [
          | plainly q ↦ absurd (plain_no_use rows fact goal s atom y x q p)
          | for_box q ↦ absurd (box_no_use rows fact goal s atom y x q p)
          | for_use q ↦ uses_one one_match rows fact goal s atom x y p q
        ]
      ]
