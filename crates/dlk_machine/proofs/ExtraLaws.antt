-- The reader of renames and pairs reads their grammar.
use Rattle.std.proofs.Common.{◌≡◌, ℕ, List, [], ◌∷◌, ◌++◌, length, Option, Some, refl, sym, ap, subst, ◌∙◌, arith, append_assoc, length-append}
use Rattle.std.proofs.lemmas.List.{append-nil}
use Rattle.dlk_grammar.specs.declared.token.Dots.TheVariants.{Allowed}
use Rattle.dlk_grammar.specs.Lexemes.{Word, Lexeme, Name, Comma, Swaps}
use Rattle.dlk_grammar.specs.Substitutions.{PairPhrase, ReadsPairs, pairs-one, pairs-more, subst-nothing, subst-pairs}
use Rattle.dlk_grammar.specs.Extras.{Rename, ExtraPhrase, rename-names, ReadsRenames, renames-one, renames-more, ReadsExtra, extra-subst}
use Rattle.dlk_grammar.specs.Extras.{extra-renames, extra-both}
use Rattle.dlk_machine.specs.Machine.{◌>>=◌}
use Rattle.dlk_machine.proofs.Opening.{some_is, bind_some, all_permitted, Begun, states, states_then}
use Rattle.dlk_machine.proofs.Parsing.{none_some, Reader}
use Rattle.dlk_machine.specs.Pairs.{PairState, Begins, LeftName, PairsState, Fresh, Within, pairs_step, pairs_ended, pairs_reader, pair_ended}
use Rattle.dlk_machine.specs.Extras.{ExtraState, InPairs, NewWanted, Renamed, extra_step, extra_ended, extra_reader}
use Rattle.dlk_machine.proofs.PairEnds.{pair_live}
use Rattle.dlk_machine.proofs.PairLaws.{pairs_read, only_pairs, PairsBefore, pairs-begin, pairs-go_on, pairs_joined, WithinText, PairsAfter}
use Rattle.dlk_machine.proofs.PairLaws.{all_pairs, pairs_moves}

abbrev with_pairs : List Rename → List PairPhrase → ExtraPhrase
with_pairs n l = record { renames = n; pairs = l }

-- a token of the pairs
in_pairs : (n : List Rename) (x : PairsState) (k : Lexeme) (y : PairsState) → pairs_step x k ≡ Some y → extra_step (InPairs n x) k ≡ Some (InPairs n y)
in_pairs n (Within [] (LeftName w)) Swaps y e = absurd (none_some y e)
in_pairs n x k y e = ap (λ (o : Option PairsState). o >>= λ z. Some (InPairs n z)) e

pairs_states : (n : List Rename) (s : List Lexeme) (x y : PairsState) → states pairs_reader x s ≡ Some y
    → states extra_reader (InPairs n x) s ≡ Some (InPairs n y)
pairs_states n [] x y e = ap (λ (z : PairsState). Some (InPairs n z)) (some_is x y e)
pairs_states n (k ∷ s) x y e =
    let b = bind_some (pairs_step x k) (λ z. states pairs_reader z s) y e in
    ap (λ (o : Option ExtraState). o >>= λ z. states extra_reader z s) (in_pairs n x k b.0 b.1) ∙ pairs_states n s b.0 y b.2

-- the first pair begins behind a comma as where nothing was read
begins_as_fresh : (k : Lexeme) → pairs_step (Within [] Begins) k ≡ pairs_step Fresh k
begins_as_fresh Comma = refl
begins_as_fresh _ = refl

from_begins : (s : List Lexeme) (l : List PairPhrase) (x : PairState) → states pairs_reader Fresh s ≡ Some (Within l x)
    → states pairs_reader (Within [] Begins) s ≡ Some (Within l x)
from_begins [] l x e = absurd cc
from_begins (k ∷ s) l x e = ap (λ (o : Option PairsState). o >>= λ z. states pairs_reader z s) (begins_as_fresh k) ∙ e

-- Renames are read.
renames_read : {s : List Lexeme} {n : List Rename} → ReadsRenames s n → states extra_reader (InPairs [] Fresh) s ≡ Some (Renamed n)
renames_read (renames-one rename-names) = refl
renames_read (renames-more {s = s} {r = r} {l = l} ds rename-names) = states_then extra_reader s (Comma ∷ r) (InPairs [] Fresh) (Renamed l) (renames_read ds)

abbrev ExtraRead : List Lexeme → ExtraPhrase → Type 0
ExtraRead s e = (y : ExtraState) × (states extra_reader (InPairs [] Fresh) s ≡ Some y) × (extra_ended y ≡ Some e)

pairs_end : (n : List Rename) (x : PairsState) (l : List PairPhrase) → pairs_ended x ≡ Some l → extra_ended (InPairs n x) ≡ Some (with_pairs n l)
pairs_end n x l e = ap (λ (o : Option (List PairPhrase)). o >>= λ p. Some (with_pairs n p)) e

only_extra : {s : List Lexeme} {e : ExtraPhrase} → ReadsExtra s e → ExtraRead s e
only_extra (extra-subst {s = s} {l = l} d) = let w = only_pairs d in (InPairs [] w.0, pairs_states [] s Fresh w.0 w.1, pairs_end [] w.0 l w.2)
only_extra (extra-renames {n = n} d) = (Renamed n, renames_read d, refl)
only_extra (extra-both {s = s} {r = r} {n = n} {l = l} d ds) =
    let w = pairs_read ds in
    let last : pairs_ended (Within w.front w.last) ≡ Some l =
    ap (λ (q : Option PairPhrase). q >>= λ p. Some (w.front ++ p ∷ [])) w.whole_last ∙ ap (λ (z : List PairPhrase). Some z) w.list in (
      InPairs n (Within w.front w.last),
      states_then extra_reader s (Comma ∷ r) (InPairs [] Fresh) (Renamed n) (renames_read d)
          ∙ pairs_states n r (Within [] Begins) (Within w.front w.last) (from_begins r w.front w.last w.passes),
      pairs_end n (Within w.front w.last) l last,
    )

-- What stands before the next rename or the first pair.
data RenamesBefore : List Rename → List Lexeme → Type 0 where
  renames-begin : RenamesBefore [] []
  renames-go_on : {s : List Lexeme} {n : List Rename} → ReadsRenames s n → RenamesBefore n (s ++ Comma ∷ [])

rename_joined : {n : List Rename} {f : List Lexeme} → RenamesBefore n f → (i j : ℕ) (x y : Word)
    → ReadsRenames (f ++ Name i x ∷ Swaps ∷ Name j y ∷ []) (n ++ (x, y) ∷ [])
rename_joined renames-begin i j x y = renames-one rename-names
rename_joined {n = n} (renames-go_on {s = s} d) i j x y =
    let own = Name i x ∷ Swaps ∷ Name j y ∷ [] in
    subst (λ (z : List Lexeme). ReadsRenames z (n ++ (x, y) ∷ [])) (sym (append_assoc s (Comma ∷ []) own)) (renames-more d rename-names)

extra_joined : {n : List Rename} {f : List Lexeme} → RenamesBefore n f → {r : List Lexeme} {l : List PairPhrase} → ReadsPairs r l
    → ReadsExtra (f ++ r) (with_pairs n l)
extra_joined renames-begin ds = extra-subst (subst-pairs ds)
extra_joined {n = n} (renames-go_on {s = s} d) {r} {l} ds =
    subst (λ (z : List Lexeme). ReadsExtra z (with_pairs n l)) (sym (append_assoc s (Comma ∷ []) r)) (extra-both d ds)

-- pairs behind renames
record PairsText (n : List Rename) (l : List PairPhrase) (x : PairState) (all : List Lexeme) : Type 0 where
  front : List Lexeme
  own : List Lexeme
  before : RenamesBefore n front
  after : WithinText l x own
  parts : all ≡ front ++ own

-- x ~~ behind renames
record NameText (n : List Rename) (x : Word) (all : List Lexeme) : Type 0 where
  front : List Lexeme
  place : ℕ
  before : RenamesBefore n front
  parts : all ≡ front ++ Name place x ∷ Swaps ∷ []

-- The state after these tokens.
abbrev ExtraAfter : ExtraState → List Lexeme → Type 0
ExtraAfter (InPairs n Fresh) all = (n ≡ []) × (all ≡ [])
ExtraAfter (InPairs n (Within l x)) all = PairsText n l x all
ExtraAfter (NewWanted n x) all = NameText n x all
ExtraAfter (Renamed n) all = ReadsRenames all n

moved : (x y : ExtraState) (all : List Lexeme) → Some x ≡ Some y → ExtraAfter x all → ExtraAfter y all
moved x y all e a = subst (λ (z : ExtraState). ExtraAfter z all) (some_is x y e) a

not_empty : {X : Type 0} (s : List X) (k : X) → s ++ k ∷ [] ≡ [] → ⊥
not_empty s k e = absurd (omega (arith, ap length e, length-append s (k ∷ [])))

-- where nothing was read
fresh_moves : (k : Lexeme) (x : PairsState) (n : List Rename) (all : List Lexeme) → n ≡ [] → all ≡ [] → pairs_step Fresh k ≡ Some x
    → ExtraAfter (InPairs n x) (all ++ k ∷ [])
fresh_moves k Fresh n all e f h = absurd (not_empty all k (pairs_moves Fresh k Fresh all f h))
fresh_moves k (Within l x) n all e f h = record {
  front = [];
  own = all ++ k ∷ [];
  before = subst (λ (m : List Rename). RenamesBefore m []) (sym e) renames-begin;
  after = pairs_moves Fresh k (Within l x) all f h;
  parts = refl;
}

-- a token of the pairs
pairs_text_moves : (n : List Rename) (l : List PairPhrase) (x : PairState) (k : Lexeme) (y : PairsState) (all : List Lexeme) → PairsText n l x all
    → pairs_step (Within l x) k ≡ Some y → ExtraAfter (InPairs n y) (all ++ k ∷ [])
pairs_text_moves n l x k y all a h = settled y (pairs_moves (Within l x) k y a.own a.after h)
  where
    settled : (z : PairsState) → PairsAfter z (a.own ++ k ∷ []) → ExtraAfter (InPairs n z) (all ++ k ∷ [])
    settled Fresh b = absurd (not_empty a.own k b)
    settled (Within m z) b = record {
      front = a.front;
      own = a.own ++ k ∷ [];
      before = a.before;
      after = b;
      parts = ap (λ (s : List Lexeme). s ++ k ∷ []) a.parts ∙ append_assoc a.front a.own (k ∷ []);
    }

-- the name with which the first pair would begin
some_listed : {s : List Lexeme} {l : List PairPhrase} → ReadsPairs s l → l ≡ [] → ⊥
some_listed (pairs-one {p = p} d) e = absurd cc
some_listed (pairs-more {l = l} {p = p} ds d) e = not_empty l p e

none_listed : {s : List Lexeme} {l : List PairPhrase} → PairsBefore l s → l ≡ [] → s ≡ []
none_listed pairs-begin e = refl
none_listed (pairs-go_on ds) e = absurd (some_listed ds e)

name_moves : (n : List Rename) (x : Word) (all : List Lexeme) → PairsText n [] (LeftName x) all → NameText n x (all ++ Swaps ∷ [])
name_moves n x all a =
    let w = a.after in
    let own : a.own ≡ Name w.after.0 x ∷ [] = w.parts ∙ ap (λ (s : List Lexeme). s ++ w.own) (none_listed w.before refl) ∙ w.after.1 in
    record {
      front = a.front;
      place = w.after.0;
      before = a.before;
      parts =
          ap (λ (s : List Lexeme). s ++ Swaps ∷ []) (a.parts ∙ ap (λ (s : List Lexeme). a.front ++ s) own)
          ∙ append_assoc a.front (Name w.after.0 x ∷ []) (Swaps ∷ []);
    }

-- a new name
new_name_moves : (n : List Rename) (x y : Word) (j : ℕ) (all : List Lexeme) → NameText n x all → ReadsRenames (all ++ Name j y ∷ []) (n ++ (x, y) ∷ [])
new_name_moves n x y j all a =
    let at : all ++ Name j y ∷ [] ≡ a.front ++ Name a.place x ∷ Swaps ∷ Name j y ∷ [] =
    ap (λ (s : List Lexeme). s ++ Name j y ∷ []) a.parts ∙ append_assoc a.front (Name a.place x ∷ Swaps ∷ []) (Name j y ∷ []) in
    subst (λ (s : List Lexeme). ReadsRenames s (n ++ (x, y) ∷ [])) (sym at) (rename_joined a.before a.place j x y)

-- behind a comma
first_pair : (n : List Rename) (all : List Lexeme) → ReadsRenames all n → PairsText n [] Begins (all ++ Comma ∷ [])
first_pair n all d = record {
  front = all ++ Comma ∷ [];
  own = [];
  before = renames-go_on d;
  after = record { listed = []; own = []; before = pairs-begin; after = refl; parts = refl };
  parts = sym (append-nil (all ++ Comma ∷ []));
}

-- a token that is the pairs'
pairs_own : (n : List Rename) (x : PairsState) (k : Lexeme) (y : ExtraState) (all : List Lexeme) → ExtraAfter (InPairs n x) all
    → (pairs_step x k >>= λ z. Some (InPairs n z)) ≡ Some y → ExtraAfter y (all ++ k ∷ [])
pairs_own n Fresh k y all a h =
    let b = bind_some (pairs_step Fresh k) (λ z. Some (InPairs n z)) y h in moved (InPairs n b.0) y _ b.2 (fresh_moves k b.0 n all a.0 a.1 b.1)
pairs_own n (Within l x) k y all a h =
    let b = bind_some (pairs_step (Within l x) k) (λ z. Some (InPairs n z)) y h in moved (InPairs n b.0) y _ b.2 (pairs_text_moves n l x k b.0 all a b.1)

extra_moves : (x : ExtraState) (k : Lexeme) (y : ExtraState) (all : List Lexeme) → ExtraAfter x all → extra_step x k ≡ Some y → ExtraAfter y (all ++ k ∷ [])
extra_moves (InPairs n (Within [] (LeftName x))) Swaps y all a h = moved (NewWanted n x) y _ h (name_moves n x all a)
extra_moves (InPairs n x) k y all a h = pairs_own n x k y all a h
extra_moves (NewWanted n x) (Name j z) y all a h = moved (Renamed (n ++ (x, z) ∷ [])) y _ h (new_name_moves n x z j all a)
extra_moves (NewWanted n x) _ y all a h = absurd (none_some y h)
extra_moves (Renamed n) Comma y all a h = moved (InPairs n (Within [] Begins)) y _ h (first_pair n all a)
extra_moves (Renamed n) _ y all a h = absurd (none_some y h)

extra_after : (s : List Lexeme) (x : ExtraState) (all : List Lexeme) (y : ExtraState) → ExtraAfter x all → states extra_reader x s ≡ Some y
    → ExtraAfter y (all ++ s)
extra_after [] x all y a e = rw append-nil (moved x y all e a)
extra_after (k ∷ s) x all y a e =
    let b = bind_some (extra_step x k) (λ z. states extra_reader z s) y e in
    subst (λ (z : List Lexeme). ExtraAfter y z) (append_assoc all (k ∷ []) s) (extra_after s b.0 (all ++ k ∷ []) y (extra_moves x k b.0 all a b.1) b.2)

-- What is read is one.
extra_is : (all : List Lexeme) (d e : ExtraPhrase) → Some d ≡ Some e → ReadsExtra all d → ReadsExtra all e
extra_is all d e h w = subst (λ (z : ExtraPhrase). ReadsExtra all z) (some_is d e h) w

nothing_read : (n : List Rename) (all : List Lexeme) → n ≡ [] → all ≡ [] → ReadsExtra all (with_pairs n [])
nothing_read n all e f = rw (e, f) (extra-subst subst-nothing)

found_extra : (x : ExtraState) (all : List Lexeme) (e : ExtraPhrase) → ExtraAfter x all → extra_ended x ≡ Some e → ReadsExtra all e
found_extra (InPairs n Fresh) all e a h = extra_is all (with_pairs n []) e h (nothing_read n all a.0 a.1)
found_extra (InPairs n (Within l x)) all e a h =
    let b = bind_some (pairs_ended (Within l x)) (λ p. Some (with_pairs n p)) e h in
    let c = bind_some (pair_ended x) (λ p. Some (l ++ p ∷ [])) b.0 b.1 in
    let ds : ReadsPairs a.own b.0 =
    subst (λ (z : List PairPhrase). ReadsPairs a.own z) (some_is (l ++ c.0 ∷ []) b.0 c.2) (all_pairs l x a.own a.after c.0 c.1) in
    extra_is all (with_pairs n b.0) e b.2 (subst (λ (z : List Lexeme). ReadsExtra z (with_pairs n b.0)) (sym a.parts) (extra_joined a.before ds))
found_extra (NewWanted n x) all e a h = absurd (none_some e h)
found_extra (Renamed n) all e a h = extra_is all (with_pairs n []) e h (extra-renames a)

-- Each state has a text that ends it.
begun_extra : (all r : List Lexeme) (e : ExtraPhrase) → ReadsExtra (all ++ r) e → Begun Allowed ReadsExtra all
begun_extra all r e d = record { more = r; permitted = all_permitted r; tree = e; reads = d }

pairs_text_live : (n : List Rename) (l : List PairPhrase) (x : PairState) (all : List Lexeme) → PairsText n l x all → Begun Allowed ReadsExtra all
pairs_text_live n l x all a =
    let w = a.after in
    let b = pair_live x w.own w.after in
    let own : w.listed ++ (w.own ++ b.more) ≡ a.own ++ b.more = sym (ap (λ (z : List Lexeme). z ++ b.more) w.parts ∙ append_assoc w.listed w.own b.more) in
    let at : a.front ++ (a.own ++ b.more) ≡ all ++ b.more = sym (ap (λ (z : List Lexeme). z ++ b.more) a.parts ∙ append_assoc a.front a.own b.more) in
    let ds : ReadsPairs (a.own ++ b.more) (l ++ b.pair ∷ []) =
    subst (λ (z : List Lexeme). ReadsPairs z (l ++ b.pair ∷ [])) own (pairs_joined w.before b.reads) in
    begun_extra all b.more (with_pairs n (l ++ b.pair ∷ []))
    (subst (λ (z : List Lexeme). ReadsExtra z (with_pairs n (l ++ b.pair ∷ []))) at (extra_joined a.before ds))

extra_live : (x : ExtraState) (all : List Lexeme) → ExtraAfter x all → Begun Allowed ReadsExtra all
extra_live (InPairs n Fresh) all a = begun_extra all [] (with_pairs n []) (rw append-nil (nothing_read n all a.0 a.1))
extra_live (InPairs n (Within l x)) all a = pairs_text_live n l x all a
extra_live (NewWanted n x) all a = begun_extra all (Name 0 [] ∷ []) (with_pairs (n ++ (x, []) ∷ []) []) (extra-renames (new_name_moves n x [] 0 all a))
extra_live (Renamed n) all a = begun_extra all [] (with_pairs n []) (rw append-nil (extra-renames a))

-- It reads them where dots and the hole are allowed, as the reader of substitutions does.
pub extra_all : Reader Allowed extra_reader ReadsExtra
extra_all = record {
  only = λ s e d. only_extra d;
  found = λ s y e h w. found_extra y s e (extra_after s (InPairs [] Fresh) [] y (refl, refl) h) w;
  live = λ s y h. extra_live y s (extra_after s (InPairs [] Fresh) [] y (refl, refl) h);
}
