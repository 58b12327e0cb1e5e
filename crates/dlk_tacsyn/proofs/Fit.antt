-- The atoms of a strategy have what each of them has as it is read.
use Rattle.std.proofs.Common.{◌≡◌, ℕ, ◌+◌, List, [], ◌∷◌, ◌++◌, Option, Some, None, refl, inl, inr}
use Rattle.std.specs.Prelude.{option_map, option_and_then, nat_lt, nat_le, All}
use Rattle.std.proofs.lemmas.List.Elements.{All-nil, All-cons}
use Rattle.dlk_tree.specs.Trees.{Tree, WellMade}
use Rattle.dlk_calculus.specs.Pairs.{Extra, AreWellMade}
use Rattle.dlk_calculus.specs.Sequents.{IsFormula}
use Rattle.dlk_grammar.specs.declared.token.Form.TheVariants.{Formula, Term}
use Rattle.dlk_grammar.specs.declared.token.Dots.TheVariants.{Refused}
use Rattle.dlk_grammar.specs.Texts.{TreeText, ExtraText}
use Rattle.dlk_sequent.specs.declared.sequent.Place.{Place}
use Rattle.dlk_scripts.specs.declared.part.PartKind.TheVariants as kind
use Rattle.dlk_scripts.specs.Parts.{part}
use Rattle.dlk_scripts.specs.Scripts as script
use Rattle.dlk_scripts.specs.Scripts.{arguments_parts, script_parts, sequence_parts, scripts_parts, repeat_parts, primary_parts}
use Rattle.dlk_tacsyn.specs.declared.kind.Kind.{Kind}
use Rattle.dlk_tacsyn.specs.declared.kind.Kind.TheVariants.{FixedPlace, AnyPlace, QuotedFormula, QuotedTerm, AName, QuotedExtra}
use Rattle.dlk_tacsyn.specs.declared.argument.Written.{Written}
use Rattle.dlk_tacsyn.specs.declared.argument.Written.TheVariants as written
use Rattle.dlk_tacsyn.specs.Tactics.{Argument, Atom, Tactic, Tactics, Choice, Sequence, Branch, Repeat, EachAtom, EachAtomOf, AtPlace, AnyLeft}
use Rattle.dlk_tacsyn.specs.Tactics.{AnyRight, Word, GivenFormula, GivenTerm, GivenExtra}
use Rattle.dlk_tacsyn.specs.Rows.{Row, text_row_of}
use Rattle.dlk_tacsyn.specs.Rows.{IsOfKind, AreOfKinds, IsOfText, AreOfText, IsNamedExtra, IsNamed, HasNames}
use Rattle.dlk_tacsyn.specs.Faults.{Nesting}
use Rattle.dlk_tacsyn.specs.Faults as fault
use Rattle.dlk_tacsyn.specs.Strategies.{Says, Reading, IsReading, IsSaid, most_open, most_times, parts, whole, all_written, place_of}
use Rattle.dlk_tacsyn.specs.Strategies.{place_or_locator_of, word_of}
use Rattle.dlk_tacsyn.specs.Strategies.{quoted_of, argument_of, followed, arguments_of, atom_given, atom_by}
use Rattle.dlk_tacsyn.specs.Strategies.{atom_of, opened, choices_of, sequence_of, branches_of, repeat_of, primary_of, strategy_of, StrategyText}
use Rattle.dlk_tacsyn.proofs.Given.{Gives, bind_gives, if_gives, said_gives}
use Rattle.dlk_tacsyn.proofs.Named.{AreNamedParts, named_front, named_behind, named_parts, IsNamedWritten, AreNamedWritten, all_named}
use Rattle.dlk_tacsyn.proofs.Renames.{extra_text_named}
use Rattle.dlk_tacsyn.proofs.Words.{some_row}

-- what holds of a value, if there is one
abbrev Holds : {A : Type 0} → (A → Type 0) → Option A → Type 0
Holds P None = Unit {0}
Holds P (Some a) = P a

module _ (Is : Atom → Type 0) where
  each_last : (ts : List Tactic) (t : Tactic) → EachAtomOf Is (parts ts) → EachAtom Is t → EachAtomOf Is (parts (ts ++ t ∷ []))
  each_last [] t h k = (k, tt)
  each_last (u ∷ ts) t h k = (h.0, each_last ts t h.1 k)

  each_whole : (make : Tactics → Tactic) → ((ps : Tactics) → EachAtomOf Is ps → EachAtom Is (make ps)) →
      (ts : List Tactic) → EachAtomOf Is (parts ts) → EachAtom Is (whole make ts)
  each_whole make m [] h = m _ h
  each_whole make m (t ∷ []) h = h.0
  each_whole make m (t ∷ u ∷ ts) h = m _ h

  each_choice : (ts : List Tactic) → EachAtomOf Is (parts ts) → EachAtom Is (whole Choice ts)
  each_choice ts h = each_whole Choice (λ ps k. k) ts h

  each_sequence : (ts : List Tactic) → EachAtomOf Is (parts ts) → EachAtom Is (whole Sequence ts)
  each_sequence ts h = each_whole Sequence (λ ps k. k) ts h

  module _ (read : Reading)
      (has : (at : ℕ) (x : List ℕ) (ws : List Written) → AreNamedWritten ws → Gives (EachAtom Is) (atom_of read at x ws)) where
    mutual
      choices_each : (n : ℕ) (s : script.Script) → AreNamedParts (script_parts s) → Gives (λ ts. EachAtomOf Is (parts ts)) (choices_of read n s)
      choices_each n (script.OneSequence q) h =
          bind_gives (λ ts. EachAtomOf Is (parts ts)) _ (sequence_of read n q) _ (sequence_each n q h) (λ ts k. (each_sequence ts k, tt))
      choices_each n (script.OrSequence s bar q) h =
          bind_gives (λ us. EachAtomOf Is (parts us)) _ (choices_of read n s) _ (choices_each n s (named_front (script_parts s) _ h))
          (λ us j. bind_gives (λ ts. EachAtomOf Is (parts ts)) _ (sequence_of read n q) _ (sequence_each n q (named_behind (script_parts s) _ h).1)
          (λ ts k. each_last us (whole Sequence ts) j (each_sequence ts k)))

      sequence_each : (n : ℕ) (q : script.Sequence) → AreNamedParts (sequence_parts q) → Gives (λ ts. EachAtomOf Is (parts ts)) (sequence_of read n q)
      sequence_each n (script.OneRepeat r) h = bind_gives (EachAtom Is) _ (repeat_of read n r) _ (repeat_each n r h) (λ t k. (k, tt))
      sequence_each n (script.ThenRepeat q semicolon r) h =
          bind_gives (λ ts. EachAtomOf Is (parts ts)) _ (sequence_of read n q) _ (sequence_each n q (named_front (sequence_parts q) _ h))
          (λ ts j. bind_gives (EachAtom Is) _ (repeat_of read n r) _ (repeat_each n r (named_behind (sequence_parts q) _ h).1) (λ t k. each_last ts t j k))
      sequence_each n (script.ThenBranch q semicolon fork l close) h =
          let front = named_front (sequence_parts q ++ part semicolon kind.Semicolon ∷ part fork kind.Fork ∷ scripts_parts l) _ h in
          bind_gives (λ ts. EachAtomOf Is (parts ts)) _ (sequence_of read n q) _ (sequence_each n q (named_front (sequence_parts q) _ front))
          (λ ts j. bind_gives (λ us. EachAtomOf Is (parts us)) _ (opened n fork (branches_of read (n + 1) l)) _
          (if_gives (λ us. EachAtomOf Is (parts us)) (nat_lt n most_open) (branches_of read (n + 1) l) (Nesting fork)
          (branches_each (n + 1) l (named_behind (sequence_parts q) _ front).1.1))
          (λ us k. each_last ts (Branch fork (parts us)) j k))

      branches_each : (n : ℕ) (l : script.Scripts) → AreNamedParts (scripts_parts l) → Gives (λ ts. EachAtomOf Is (parts ts)) (branches_of read n l)
      branches_each n (script.OneScript s) h =
          bind_gives (λ ts. EachAtomOf Is (parts ts)) _ (choices_of read n s) _ (choices_each n s h) (λ ts k. (each_choice ts k, tt))
      branches_each n (script.ThenScript l comma s) h =
          bind_gives (λ us. EachAtomOf Is (parts us)) _ (branches_of read n l) _ (branches_each n l (named_front (scripts_parts l) _ h))
          (λ us j. bind_gives (λ ts. EachAtomOf Is (parts ts)) _ (choices_of read n s) _ (choices_each n s (named_behind (scripts_parts l) _ h).1)
          (λ ts k. each_last us (whole Choice ts) j (each_choice ts k)))

      repeat_each : (n : ℕ) (r : script.Repeat) → AreNamedParts (repeat_parts r) → Gives (EachAtom Is) (repeat_of read n r)
      repeat_each n (script.Once p) h = primary_each n p h
      repeat_each n (script.Times r star at m) h =
          bind_gives (EachAtom Is) _ (repeat_of read n r) _ (repeat_each n r (named_front (repeat_parts r) _ h))
          (λ t k. if_gives (EachAtom Is) (nat_le m most_times) (Says (Repeat t m)) (fault.Repeat at) k)

      primary_each : (n : ℕ) (p : script.Primary) → AreNamedParts (primary_parts p) → Gives (EachAtom Is) (primary_of read n p)
      primary_each n (script.Group opens s close) h =
          bind_gives (λ ts. EachAtomOf Is (parts ts)) _ (opened n opens (choices_of read (n + 1) s)) _
          (if_gives (λ ts. EachAtomOf Is (parts ts)) (nat_lt n most_open) (choices_of read (n + 1) s) (Nesting opens)
          (choices_each (n + 1) s (named_front (script_parts s) _ h.1)))
          (λ ts k. each_choice ts k)
      primary_each n (script.Atom at x) h = has at x [] tt
      primary_each n (script.Call at x opens l close) h = has at x (all_written l) (all_named l (named_front (arguments_parts l) _ h.1.1))

    pub strategy_each : (s : script.Script) → AreNamedParts (script_parts s) → Gives (EachAtom Is) (strategy_of read s)
    strategy_each s h = bind_gives (λ ts. EachAtomOf Is (parts ts)) _ (choices_of read 0 s) _ (choices_each 0 s h) (λ ts k. each_choice ts k)

-- the arguments of each kind
said_holds : {A : Type 0} (Is P : A → Type 0) → ((a : A) → Is a → P a) → (found : Option A) → IsSaid Is found → Holds P found
said_holds Is P law None m = tt
said_holds Is P law (Some a) m = law a m

module _ (P : Argument → Type 0) where
  place_holds : (w : Written) → ((p : Place) (path : List ℕ) → P (AtPlace p path)) → Holds P (place_of w)
  place_holds (written.At p path) h = h p path
  place_holds written.AnyLeft h = tt
  place_holds written.AnyRight h = tt
  place_holds (written.Word x) h = tt
  place_holds (written.Quoted s) h = tt

  locator_holds : (w : Written) → ((p : Place) (path : List ℕ) → P (AtPlace p path)) → P AnyLeft → P AnyRight → Holds P (place_or_locator_of w)
  locator_holds (written.At p path) h left right = h p path
  locator_holds written.AnyLeft h left right = left
  locator_holds written.AnyRight h left right = right
  locator_holds (written.Word x) h left right = tt
  locator_holds (written.Quoted s) h left right = tt

  word_holds : (w : Written) → ((x : List ℕ) → IsNamedWritten (written.Word x) → P (Word x)) → IsNamedWritten w → Holds P (word_of w)
  word_holds (written.At p path) h named = tt
  word_holds written.AnyLeft h named = tt
  word_holds written.AnyRight h named = tt
  word_holds (written.Word x) h named = h x named
  word_holds (written.Quoted s) h named = tt

  made_holds : {A : Type 0} (make : A → Argument) (found : Option A) → Holds (λ a. P (make a)) found → Holds P (option_map make found)
  made_holds make None h = tt
  made_holds make (Some a) h = h

  quoted_holds : {A : Type 0} (make : A → Argument) (read : List ℕ → Option A) (w : Written) → ((s : List ℕ) → Holds (λ a. P (make a)) (read s)) →
      Holds P (quoted_of make read w)
  quoted_holds make read (written.At p path) h = tt
  quoted_holds make read written.AnyLeft h = tt
  quoted_holds make read written.AnyRight h = tt
  quoted_holds make read (written.Word x) h = tt
  quoted_holds make read (written.Quoted s) h = made_holds make (read s) (h s)

  then_holds : (Q R : List Argument → Type 0) → ((a : Argument) (all : List Argument) → P a → Q all → R (a ∷ all)) → (a : Option Argument) →
      (more : Option (List Argument)) → Holds P a → Holds Q more → Holds R (option_and_then (λ b. option_map (λ all. b ∷ all) more) a)
  then_holds Q R join None more h k = tt
  then_holds Q R join (Some a) None h k = tt
  then_holds Q R join (Some a) (Some all) h k = join a all h k

any_formula : (found : Option Tree) → Holds (λ h. IsNamed (GivenFormula h)) found
any_formula None = tt
any_formula (Some h) = tt

any_term : (found : Option Tree) → Holds (λ e. IsNamed (GivenTerm e)) found
any_term None = tt
any_term (Some e) = tt

module _ (read : Reading) where
  module _ (renames : (s : List ℕ) → Holds (λ (e : Extra). IsNamedExtra e) (read.extra s)) where
    argument_named : (kind : Kind) (w : Written) → IsNamedWritten w → Holds IsNamed (argument_of read kind w)
    argument_named FixedPlace w h = place_holds IsNamed w (λ p path. tt)
    argument_named AnyPlace w h = locator_holds IsNamed w (λ p path. tt) tt tt
    argument_named QuotedFormula w h = quoted_holds IsNamed GivenFormula read.formula w (λ s. any_formula (read.formula s))
    argument_named QuotedTerm w h = quoted_holds IsNamed GivenTerm read.term w (λ s. any_term (read.term s))
    argument_named AName w h = word_holds IsNamed w (λ x is. is) h
    argument_named QuotedExtra w h = quoted_holds IsNamed GivenExtra read.extra w renames

    then_named : (kind : Kind) (w : Written) (more : Option (List Argument)) → IsNamedWritten w → Holds (All IsNamed) more →
        Holds (All IsNamed) (followed read kind w more)
    then_named kind w more h k =
        then_holds IsNamed (All IsNamed) (All IsNamed) (λ a all. All-cons IsNamed a all) (argument_of read kind w) more (argument_named kind w h) k

    arguments_named : (kinds : List Kind) (optional : Option Kind) (ws : List Written) → AreNamedWritten ws →
        Holds (All IsNamed) (arguments_of read kinds optional ws)
    arguments_named [] optional [] h = All-nil IsNamed
    arguments_named [] None (w ∷ ws) h = tt
    arguments_named [] (Some kind) (w ∷ ws) h = then_named kind w (arguments_of read [] None ws) h.0 (arguments_named [] None ws h.1)
    arguments_named (kind ∷ kinds) optional [] h = tt
    arguments_named (kind ∷ kinds) optional (w ∷ ws) h =
        then_named kind w (arguments_of read kinds optional ws) h.0 (arguments_named kinds optional ws h.1)

    given_named : (at : ℕ) (name : List ℕ) (all : Option (List Argument)) → Holds (All IsNamed) all → Gives (EachAtom HasNames) (atom_given read at name all)
    given_named at name None h = tt
    given_named at name (Some all) h = h

    by_named : (at : ℕ) (name : List ℕ) (ws : List Written) → AreNamedWritten ws → (row : Option Row) →
        Gives (EachAtom HasNames) (atom_by read at name ws row)
    by_named at name ws h None = tt
    by_named at name ws h (Some row) =
        given_named at name (arguments_of read row.wanted row.optional ws) (arguments_named row.wanted row.optional ws h)

    atom_named : (at : ℕ) (name : List ℕ) (ws : List Written) → AreNamedWritten ws → Gives (EachAtom HasNames) (atom_of read at name ws)
    atom_named at name ws h = by_named at name ws h (text_row_of name)

  module _ (formulas : (s : List ℕ) → Holds IsFormula (read.formula s)) (terms : (s : List ℕ) → Holds WellMade (read.term s))
      (pairs : (s : List ℕ) → Holds (λ (e : Extra). AreWellMade e.pairs) (read.extra s)) where
    argument_kind : (kind : Kind) (w : Written) → IsNamedWritten w → Holds (IsOfKind kind) (argument_of read kind w)
    argument_kind FixedPlace w h = place_holds (IsOfKind FixedPlace) w (λ p path. tt)
    argument_kind AnyPlace w h = locator_holds (IsOfKind AnyPlace) w (λ p path. tt) tt tt
    argument_kind QuotedFormula w h = quoted_holds (IsOfKind QuotedFormula) GivenFormula read.formula w formulas
    argument_kind QuotedTerm w h = quoted_holds (IsOfKind QuotedTerm) GivenTerm read.term w terms
    argument_kind AName w h = word_holds (IsOfKind AName) w (λ x is. tt) h
    argument_kind QuotedExtra w h = quoted_holds (IsOfKind QuotedExtra) GivenExtra read.extra w pairs

    then_kinds : (kind : Kind) (kinds : List Kind) (optional : Option Kind) (w : Written) (more : Option (List Argument)) → IsNamedWritten w →
        Holds (AreOfKinds kinds optional) more → Holds (λ all. AreOfKinds (kind ∷ kinds) optional all) (followed read kind w more)
    then_kinds kind kinds optional w more h k =
        then_holds (IsOfKind kind) (AreOfKinds kinds optional) (AreOfKinds (kind ∷ kinds) optional) (λ a all is are. (is, are))
        (argument_of read kind w) more (argument_kind kind w h) k

    then_last : (kind : Kind) (w : Written) (more : Option (List Argument)) → IsNamedWritten w → Holds (AreOfKinds [] None) more →
        Holds (AreOfKinds [] (Some kind)) (followed read kind w more)
    then_last kind w more h k =
        then_holds (IsOfKind kind) (AreOfKinds [] None) (AreOfKinds [] (Some kind)) (λ a all is are. (is, are))
        (argument_of read kind w) more (argument_kind kind w h) k

    arguments_kinds : (kinds : List Kind) (optional : Option Kind) (ws : List Written) → AreNamedWritten ws →
        Holds (AreOfKinds kinds optional) (arguments_of read kinds optional ws)
    arguments_kinds [] optional [] h = tt
    arguments_kinds [] None (w ∷ ws) h = tt
    arguments_kinds [] (Some kind) (w ∷ ws) h = then_last kind w (arguments_of read [] None ws) h.0 (arguments_kinds [] None ws h.1)
    arguments_kinds (kind ∷ kinds) optional [] h = tt
    arguments_kinds (kind ∷ kinds) optional (w ∷ ws) h =
        then_kinds kind kinds optional w (arguments_of read kinds optional ws) h.0 (arguments_kinds kinds optional ws h.1)

    given_fits : (at : ℕ) (name : List ℕ) (row : Row) → text_row_of name ≡ Some row → (all : Option (List Argument)) →
        Holds (AreOfKinds row.wanted row.optional) all → Gives (EachAtom IsOfText) (atom_given read at name all)
    given_fits at name row row_is None h = tt
    given_fits at name row row_is (Some all) h = elim (some_row name row row_is) [
      | inl e ↦ inl (record { row = row; row_is = e; arguments = h })
      | inr other ↦ elim other [
        | inl e ↦ inr (inl (record { row = row; row_is = e; arguments = h }))
        | inr e ↦ inr (inr (record { row = row; row_is = e; arguments = h }))
      ]
    ]

    by_fits : (at : ℕ) (name : List ℕ) (ws : List Written) → AreNamedWritten ws → (row : Option Row) → text_row_of name ≡ row →
        Gives (EachAtom IsOfText) (atom_by read at name ws row)
    by_fits at name ws h None e = tt
    by_fits at name ws h (Some row) e =
        given_fits at name row e (arguments_of read row.wanted row.optional ws) (arguments_kinds row.wanted row.optional ws h)

    atom_fits : (at : ℕ) (name : List ℕ) (ws : List Written) → AreNamedWritten ws → Gives (EachAtom IsOfText) (atom_of read at name ws)
    atom_fits at name ws h = by_fits at name ws h (text_row_of name) refl

-- what is read of a quoted text that says names and pairs
extra_holds : (P : Extra → Type 0) → ((s : List ℕ) (e : Extra) → ExtraText s e → P e) → (read : Reading) → IsReading read → (s : List ℕ) →
    Holds P (read.extra s)
extra_holds P law read reading s = said_holds (λ (e : Extra). ExtraText s e) P (law s) (read.extra s) (reading.extras s)

formula_holds : ((s : List ℕ) (h : Tree) → TreeText Formula Refused s h → IsFormula h) → (read : Reading) → IsReading read → (s : List ℕ) →
    Holds IsFormula (read.formula s)
formula_holds law read reading s = said_holds (λ (h : Tree). TreeText Formula Refused s h) IsFormula (law s) (read.formula s) (reading.formulas s)

term_holds : ((s : List ℕ) (e : Tree) → TreeText Term Refused s e → WellMade e) → (read : Reading) → IsReading read → (s : List ℕ) →
    Holds WellMade (read.term s)
term_holds law read reading s = said_holds (λ (e : Tree). TreeText Term Refused s e) WellMade (law s) (read.term s) (reading.terms s)

pub text_named : (bytes : List ℕ) (t : Tactic) → StrategyText bytes t → EachAtom HasNames t
text_named bytes t is =
    said_gives (EachAtom HasNames) (strategy_of is.read is.script) t is.outcome_is
    (strategy_each HasNames is.read
    (atom_named is.read (extra_holds (λ (e : Extra). IsNamedExtra e) extra_text_named is.read is.reading)) is.script (named_parts bytes _ is.says.spelled))

pub text_fits : ((s : List ℕ) (h : Tree) → TreeText Formula Refused s h → IsFormula h) →
    ((s : List ℕ) (e : Tree) → TreeText Term Refused s e → WellMade e) → ((s : List ℕ) (e : Extra) → ExtraText s e → AreWellMade e.pairs) →
    (bytes : List ℕ) (t : Tactic) → StrategyText bytes t → AreOfText t
text_fits formulas terms pairs bytes t is =
    said_gives (EachAtom IsOfText) (strategy_of is.read is.script) t is.outcome_is
    (strategy_each IsOfText is.read
    (atom_fits is.read (formula_holds formulas is.read is.reading) (term_holds terms is.read is.reading)
    (extra_holds (λ (e : Extra). AreWellMade e.pairs) pairs is.read is.reading))
    is.script (named_parts bytes _ is.says.spelled))
