-- The reader of substitutions reads their grammar.
use Rattle.std.proofs.Common.{◌≡◌, List, [], ◌∷◌, ◌++◌, Option, Some, None, inl, inr, refl, sym, ap, subst, ◌∙◌, append_assoc}
use Rattle.std.proofs.lemmas.List.{append-nil}
use Rattle.dlk_tree.specs.declared.op.Sort.TheVariants.{Term, Formula}
use Rattle.dlk_grammar.specs.declared.token.Dots.TheVariants.{Allowed}
use Rattle.dlk_grammar.specs.Lexemes.{Lexeme, Comma}
use Rattle.dlk_grammar.specs.Phrases.{Phrase}
use Rattle.dlk_grammar.specs.Substitutions.{function, PairPhrase, to, ReadsPair, ReadsPairs, pairs-one, pairs-more, ReadsSubstitution, subst-nothing}
use Rattle.dlk_grammar.specs.Substitutions.{subst-pairs}
use Rattle.dlk_machine.specs.Machine.{◌>>=◌, State, step, ended}
use Rattle.dlk_machine.specs.Parse.{or_else}
use Rattle.dlk_machine.proofs.Opening.{some_is, bind_some, all_permitted, Begun, states, states_then}
use Rattle.dlk_machine.proofs.Parsing.{known, none_some, Reader}
use Rattle.dlk_machine.proofs.SequentLaws.{comma_ends}
use Rattle.dlk_machine.specs.Pairs.{Right, EitherOf, TextOf, SystemOf, PairState, Begins, InRight, SystemEnds, right_sort, pair_step, right_ended}
use Rattle.dlk_machine.specs.Pairs.{pair_ended, pair_reader, PairsState, Fresh, Within, within, pairs_step, pairs_ended, pairs_reader}
use Rattle.dlk_machine.proofs.PairItems.{chosen_pair, pair_read}
use Rattle.dlk_machine.proofs.PairStates.{PairAfter, pair_moves}
use Rattle.dlk_machine.proofs.PairEnds.{found_pair, pair_live}

-- a whole pair does not go on with a comma
text_ends : (w : Right) (y : State) (p : PairPhrase) → right_ended w y ≡ Some p → step (right_sort w) y Comma ≡ None
text_ends (EitherOf h) y p e = elim (known (ended Formula y)) [
  | inr o ↦ comma_ends Formula Formula y o.0 o.1
  | inl o ↦
      let b = bind_some (ended Term y) (λ t. Some (to (function h) t)) p (subst (λ (q : Option Phrase). chosen_pair h y q ≡ Some p) o e) in
      comma_ends Formula Term y b.0 b.1
]
text_ends (TextOf g s) y p e = let b = bind_some (ended g y) (λ t. Some (to s t)) p e in comma_ends g g y b.0 b.1
text_ends (SystemOf s) y p e = absurd (none_some p e)

pair_comma : (x : PairState) (p : PairPhrase) → pair_ended x ≡ Some p → pair_step x Comma ≡ None
pair_comma (InRight w y) p e = ap (λ (o : Option State). o >>= λ z. Some (InRight w z)) (text_ends w y p e)
pair_comma (SystemEnds s t) p e = refl
pair_comma _ p e = absurd (none_some p e)

within_is : (l : List PairPhrase) (x : PairState) (k : Lexeme) (y : PairState) → pair_step x k ≡ Some y → within l x k ≡ Some (Within l y)
within_is l x k y e = ap (λ (o : Option PairState). o >>= λ z. Some (Within l z)) e

-- a token of a pair
within_comma : (l : List PairPhrase) (x y : PairState) → pair_step x Comma ≡ Some y → pairs_step (Within l x) Comma ≡ Some (Within l y)
within_comma l x y e = elim (known (pair_ended x)) [
  | inl o ↦ ap (λ (q : Option PairPhrase). or_else q (within l x Comma) (λ p. Some (Within (l ++ p ∷ []) Begins))) o ∙ within_is l x Comma y e
  | inr o ↦ absurd (none_some y (sym (pair_comma x o.0 o.1) ∙ e))
]

within_step : (l : List PairPhrase) (x : PairState) (k : Lexeme) (y : PairState) → pair_step x k ≡ Some y → pairs_step (Within l x) k ≡ Some (Within l y)
within_step l x Comma y e = within_comma l x y e
within_step l x k y e = within_is l x k y e

within_states : (l : List PairPhrase) (s : List Lexeme) (x y : PairState) → states pair_reader x s ≡ Some y
    → states pairs_reader (Within l x) s ≡ Some (Within l y)
within_states l [] x y e = ap (λ (z : PairState). Some (Within l z)) (some_is x y e)
within_states l (k ∷ s) x y e =
    let b = bind_some (pair_step x k) (λ z. states pair_reader z s) y e in
    ap (λ (o : Option PairsState). o >>= λ z. states pairs_reader z s) (within_step l x k b.0 b.1) ∙ within_states l s b.0 y b.2

-- the first pair
fresh_states : (s : List Lexeme) (y : PairState) (p : PairPhrase) → states pair_reader Begins s ≡ Some y → pair_ended y ≡ Some p
    → states pairs_reader Fresh s ≡ Some (Within [] y)
fresh_states [] y p e f = absurd (none_some p (ap pair_ended (some_is Begins y e) ∙ f))
fresh_states (k ∷ s) y p e f =
    let b = bind_some (pair_step Begins k) (λ z. states pair_reader z s) y e in
    ap (λ (o : Option PairsState). o >>= λ z. states pairs_reader z s) (within_is [] Begins k b.0 b.1) ∙ within_states [] s b.0 y b.2

-- What is read of some pairs.
pub record PairsRead (s : List Lexeme) (l : List PairPhrase) : Type 0 where
  pub front : List PairPhrase
  pub last : PairState
  pub pair : PairPhrase
  pub passes : states pairs_reader Fresh s ≡ Some (Within front last)
  pub whole_last : pair_ended last ≡ Some pair
  pub list : front ++ pair ∷ [] ≡ l

pub pairs_read : {s : List Lexeme} {l : List PairPhrase} → ReadsPairs s l → PairsRead s l
pairs_read (pairs-one {s = s} {p = p} d) =
    let r = pair_read d in
    record { front = []; last = r.0; pair = p; passes = fresh_states s r.0 p r.1 r.2; whole_last = r.2; list = refl }
pairs_read (pairs-more {s = s} {r = r} {l = l} {p = p} ds d) =
    let x = pairs_read ds in
    let y = pair_read d in
    let comma : pairs_step (Within x.front x.last) Comma ≡ Some (Within (x.front ++ x.pair ∷ []) Begins) =
    ap (λ (q : Option PairPhrase). or_else q (within x.front x.last Comma) (λ p. Some (Within (x.front ++ p ∷ []) Begins))) x.whole_last in
    record {
      front = x.front ++ x.pair ∷ [];
      last = y.0;
      pair = p;
      passes =
          states_then pairs_reader s (Comma ∷ r) Fresh (Within x.front x.last) x.passes
          ∙ ap (λ (o : Option PairsState). o >>= λ z. states pairs_reader z r) comma ∙ within_states (x.front ++ x.pair ∷ []) r Begins y.0 y.1;
      whole_last = y.2;
      list = ap (λ (z : List PairPhrase). z ++ p ∷ []) x.list;
    }

pub only_pairs : {s : List Lexeme} {l : List PairPhrase} → ReadsSubstitution s l
    → (y : PairsState) × (states pairs_reader Fresh s ≡ Some y) × (pairs_ended y ≡ Some l)
only_pairs subst-nothing = (Fresh, refl, refl)
only_pairs (subst-pairs d) =
    let x = pairs_read d in (
      Within x.front x.last,
      x.passes,
      ap (λ (q : Option PairPhrase). q >>= λ p. Some (x.front ++ p ∷ [])) x.whole_last ∙ ap (λ (z : List PairPhrase). Some z) x.list,
    )

-- What stands before the next pair.
pub data PairsBefore : List PairPhrase → List Lexeme → Type 0 where
  pairs-begin : PairsBefore [] []
  pairs-go_on : {s : List Lexeme} {l : List PairPhrase} → ReadsPairs s l → PairsBefore l (s ++ Comma ∷ [])

pub pairs_joined : {l : List PairPhrase} {k : List Lexeme} → PairsBefore l k → {r : List Lexeme} {p : PairPhrase} → ReadsPair r p
    → ReadsPairs (k ++ r) (l ++ p ∷ [])
pairs_joined pairs-begin d = pairs-one d
pairs_joined {l = l} (pairs-go_on {s = s} ds) {r} {p} d =
    subst (λ (z : List Lexeme). ReadsPairs z (l ++ p ∷ [])) (sym (append_assoc s (Comma ∷ []) r)) (pairs-more ds d)

pub record WithinText (l : List PairPhrase) (x : PairState) (all : List Lexeme) : Type 0 where
  pub listed : List Lexeme
  pub own : List Lexeme
  pub before : PairsBefore l listed
  pub after : PairAfter x own
  pub parts : all ≡ listed ++ own

-- The state after these tokens.
abbrev pub PairsAfter : PairsState → List Lexeme → Type 0
PairsAfter Fresh all = all ≡ []
PairsAfter (Within l x) all = WithinText l x all

pairs_moved : (x y : PairsState) (all : List Lexeme) → Some x ≡ Some y → PairsAfter x all → PairsAfter y all
pairs_moved x y all e a = subst (λ (z : PairsState). PairsAfter z all) (some_is x y e) a

within_moves : (l : List PairPhrase) (x : PairState) (k : Lexeme) (y : PairsState) (all : List Lexeme) → WithinText l x all → within l x k ≡ Some y
    → PairsAfter y (all ++ k ∷ [])
within_moves l x k y all a e =
    let b = bind_some (pair_step x k) (λ z. Some (Within l z)) y e in
    pairs_moved (Within l b.0) y _ b.2
    (record {
      listed = a.listed;
      own = a.own ++ k ∷ [];
      before = a.before;
      after = pair_moves x k b.0 a.own a.after b.1;
      parts = ap (λ (z : List Lexeme). z ++ k ∷ []) a.parts ∙ append_assoc a.listed a.own (k ∷ []);
    })

-- the pairs with the last one
pub all_pairs : (l : List PairPhrase) (x : PairState) (all : List Lexeme) → WithinText l x all → (p : PairPhrase) → pair_ended x ≡ Some p
    → ReadsPairs all (l ++ p ∷ [])
all_pairs l x all a p e = subst (λ (z : List Lexeme). ReadsPairs z (l ++ p ∷ [])) (sym a.parts) (pairs_joined a.before (found_pair x a.own p a.after e))

comma_moves : (l : List PairPhrase) (x : PairState) (y : PairsState) (all : List Lexeme) → WithinText l x all → pairs_step (Within l x) Comma ≡ Some y
    → PairsAfter y (all ++ Comma ∷ [])
comma_moves l x y all a e = elim (known (pair_ended x)) [
  | inl o ↦
      within_moves l x Comma y all a (subst (λ (q : Option PairPhrase). or_else q (within l x Comma) (λ p. Some (Within (l ++ p ∷ []) Begins)) ≡ Some y) o e)
  | inr o ↦
      pairs_moved (Within (l ++ o.0 ∷ []) Begins) y _
      (subst (λ (q : Option PairPhrase). or_else q (within l x Comma) (λ p. Some (Within (l ++ p ∷ []) Begins)) ≡ Some y) o.1 e)
      (record {
        listed = all ++ Comma ∷ [];
        own = [];
        before = pairs-go_on (all_pairs l x all a o.0 o.1);
        after = refl;
        parts = sym (append-nil (all ++ Comma ∷ []));
      })
]

fresh_within : (all : List Lexeme) → all ≡ [] → WithinText [] Begins all
fresh_within all a = record { listed = []; own = all; before = pairs-begin; after = a; parts = refl }

pub pairs_moves : (x : PairsState) (k : Lexeme) (y : PairsState) (all : List Lexeme) → PairsAfter x all → pairs_step x k ≡ Some y → PairsAfter y (all ++ k ∷ [])
pairs_moves Fresh k y all a e = within_moves [] Begins k y all (fresh_within all a) e
pairs_moves (Within l x) Comma y all a e = comma_moves l x y all a e
pairs_moves (Within l x) k y all a e = within_moves l x k y all a e

pairs_after : (s : List Lexeme) (x : PairsState) (all : List Lexeme) (y : PairsState) → PairsAfter x all → states pairs_reader x s ≡ Some y
    → PairsAfter y (all ++ s)
pairs_after [] x all y a e = rw append-nil (pairs_moved x y all e a)
pairs_after (k ∷ s) x all y a e =
    let b = bind_some (pairs_step x k) (λ z. states pairs_reader z s) y e in
    subst (λ (z : List Lexeme). PairsAfter y z) (append_assoc all (k ∷ []) s) (pairs_after s b.0 (all ++ k ∷ []) y (pairs_moves x k b.0 all a b.1) b.2)

found_pairs : (x : PairsState) (all : List Lexeme) (l : List PairPhrase) → PairsAfter x all → pairs_ended x ≡ Some l → ReadsSubstitution all l
found_pairs Fresh all l a e =
    subst (λ (z : List PairPhrase). ReadsSubstitution all z) (some_is [] l e) (subst (λ (z : List Lexeme). ReadsSubstitution z []) (sym a) subst-nothing)
found_pairs (Within m x) all l a e =
    let b = bind_some (pair_ended x) (λ p. Some (m ++ p ∷ [])) l e in
    subst (λ (z : List PairPhrase). ReadsSubstitution all z) (some_is (m ++ b.0 ∷ []) l b.2) (subst-pairs (all_pairs m x all a b.0 b.1))

begun_pairs : (all r : List Lexeme) (l : List PairPhrase) → ReadsSubstitution (all ++ r) l → Begun Allowed ReadsSubstitution all
begun_pairs all r l d = record { more = r; permitted = all_permitted r; tree = l; reads = d }

pairs_live : (x : PairsState) (all : List Lexeme) → PairsAfter x all → Begun Allowed ReadsSubstitution all
pairs_live Fresh all a = begun_pairs all [] [] (rw append-nil (subst (λ (z : List Lexeme). ReadsSubstitution z []) (sym a) subst-nothing))
pairs_live (Within l x) all a =
    let b = pair_live x a.own a.after in
    let at : a.listed ++ (a.own ++ b.more) ≡ all ++ b.more = sym (ap (λ (z : List Lexeme). z ++ b.more) a.parts ∙ append_assoc a.listed a.own b.more) in
    begun_pairs all b.more (l ++ b.pair ∷ [])
    (subst (λ (z : List Lexeme). ReadsSubstitution z (l ++ b.pair ∷ [])) at (subst-pairs (pairs_joined a.before b.reads)))

-- It reads them where dots and the hole are allowed. Where they are refused, it passes C{, which then begins no text.
pub pairs_all : Reader Allowed pairs_reader ReadsSubstitution
pairs_all = record {
  only = λ s l r. only_pairs r;
  found = λ s y l e f. found_pairs y s l (pairs_after s Fresh [] y refl e) f;
  live = λ s y e. pairs_live y s (pairs_after s Fresh [] y refl e);
}
