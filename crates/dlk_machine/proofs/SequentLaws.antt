-- The reader of sequents reads the grammar of sequents.
use Rattle.std.proofs.Common.{◌≡◌, Bool, true, false, List, [], ◌∷◌, ◌++◌, inl, inr, Option, Some, None, refl, sym, ap, subst, ◌∙◌, append_assoc}
use Rattle.std.proofs.lemmas.List.{append-nil}
use Rattle.dlk_grammar.specs.Lexemes.{Lexeme, Comma, Turnstile}
use Rattle.dlk_grammar.specs.Phrases.{Phrase, Phrases, none, snoc}
use Rattle.dlk_grammar.specs.Grammar.{formula, ReadsList, list-one, list-more}
use Rattle.dlk_tree.specs.declared.op.Sort.{Sort}
use Rattle.dlk_tree.specs.declared.op.Sort.TheVariants.{Formula}
use Rattle.dlk_machine.specs.Machine.{◌>>=◌, Part, Piece, State, Wants, Has, program_sort, is_program, reduce, place, closing, step, whole, ended}
use Rattle.dlk_grammar.specs.declared.token.Dots.{Dots}
use Rattle.dlk_machine.specs.Parse.{or_else, reader}
use Rattle.dlk_grammar.specs.Grammar.{Sides, Turned, ReadsSide, side-nothing, side-list, ReadsSequent, sequent-sides}
use Rattle.dlk_machine.specs.Sequents.{Side, LeftSide, RightSide, SequentState, Fresh, Reading, turn, inner, sequent_step, sequent_ended, sequent_reader}
use Rattle.dlk_machine.proofs.Opening.{some_is, bind_some, Opening, opening_more, begun, states, states_then}
use Rattle.dlk_machine.proofs.Only.{only_at}
use Rattle.dlk_machine.proofs.Spelled.{ListBefore, list-begins, list-goes_on, list_joined, nothing, After}
use Rattle.dlk_machine.proofs.Found.{moves, ends}
use Rattle.dlk_machine.proofs.Live.{live}
use Rattle.dlk_machine.proofs.Parsing.{known, none_some, Reader}

-- a whole formula does not go on with a comma
no_comma : (g h : Sort) (S : List Part) (p : Piece) (T : List Part) (q : Piece) (t : Phrase) → reduce 0 S p ≡ Some (T, q) → whole h T q ≡ Some t
    → step g (Has S p) Comma ≡ None
no_comma g i S p [] q t e w = go (is_program p) refl
  where
    go : (b : Bool) → is_program p ≡ b → step g (Has S p) Comma ≡ None
    go true h = rw h refl
    go false h = let c : closing Comma S p ≡ None = rw e refl in rw h c
no_comma g i S p (x ∷ T) q t e w = absurd (none_some t w)

pub comma_ends : (g h : Sort) (x : State) (t : Phrase) → ended h x ≡ Some t → step g x Comma ≡ None
comma_ends g h (Has S p) t e =
    let b = bind_some (reduce 0 S p) (λ r. whole h r.0 r.1) t e in
    no_comma g h S p b.0.0 b.0.1 t b.1 b.2
comma_ends g h _ t e = absurd (none_some t e)

-- no formula goes on with ==>
no_turnstile : (g : Sort) (x : State) → step g x Turnstile ≡ None
no_turnstile g (Wants S) = go (program_sort (place g S)) refl
  where
    go : (b : Bool) → program_sort (place g S) ≡ b → step g (Wants S) Turnstile ≡ None
    go true h = rw h refl
    go false h = rw h refl
no_turnstile g (Has S p) = go (is_program p) refl
  where
    go : (b : Bool) → is_program p ≡ b → step g (Has S p) Turnstile ≡ None
    go true h = rw h refl
    go false h = rw h refl
no_turnstile g _ = refl

inner_is : (w : Side) (l : Phrases) (x : State) (k : Lexeme) (y : State) → step Formula x k ≡ Some y → inner w l x k ≡ Some (Reading w l y)
inner_is w l x k y e = ap (λ (o : Option State). o >>= λ z. Some (Reading w l z)) e

-- a token of a formula
inner_comma : (w : Side) (l : Phrases) (x y : State) → step Formula x Comma ≡ Some y → sequent_step (Reading w l x) Comma ≡ Some (Reading w l y)
inner_comma w l x y e = elim (known (ended Formula x)) [
  | inl o ↦ ap (λ (q : Option Phrase). or_else q (inner w l x Comma) (λ t. Some (Reading w (snoc l t) (Wants [])))) o ∙ inner_is w l x Comma y e
  | inr o ↦ absurd (none_some y (sym (comma_ends Formula Formula x o.0 o.1) ∙ e))
]

inner_step : (w : Side) (l : Phrases) (x : State) (k : Lexeme) (y : State) → step Formula x k ≡ Some y → sequent_step (Reading w l x) k ≡ Some (Reading w l y)
inner_step w l x Turnstile y e = absurd (none_some y (sym (no_turnstile Formula x) ∙ e))
inner_step w l x Comma y e = inner_comma w l x y e
inner_step w l x k y e = inner_is w l x k y e

fresh_step : (w : Side) (k : Lexeme) (y : State) → step Formula (Wants []) k ≡ Some y → sequent_step (Fresh w) k ≡ Some (Reading w none y)
fresh_step w Turnstile y e = absurd (none_some y (sym (no_turnstile Formula (Wants [])) ∙ e))
fresh_step w k y e = inner_is w none (Wants []) k y e

inner_states : (w : Side) (l : Phrases) (s : List Lexeme) (x y : State) → states (reader Formula) x s ≡ Some y
    → states sequent_reader (Reading w l x) s ≡ Some (Reading w l y)
inner_states w l [] x y e = ap (λ (z : State). Some (Reading w l z)) (some_is x y e)
inner_states w l (k ∷ s) x y e =
    let b = bind_some (step Formula x k) (λ z. states (reader Formula) z s) y e in
    ap (λ (o : Option SequentState). o >>= λ z. states sequent_reader z s) (inner_step w l x k b.0 b.1) ∙ inner_states w l s b.0 y b.2

-- the first formula of a side
fresh_states : (w : Side) (s : List Lexeme) (y : State) (t : Phrase) → states (reader Formula) (Wants []) s ≡ Some y → ended Formula y ≡ Some t
    → states sequent_reader (Fresh w) s ≡ Some (Reading w none y)
fresh_states w [] y t e f = absurd (none_some t (ap (ended Formula) (some_is (Wants []) y e) ∙ f))
fresh_states w (k ∷ s) y t e f =
    let b = bind_some (step Formula (Wants []) k) (λ z. states (reader Formula) z s) y e in
    ap (λ (o : Option SequentState). o >>= λ z. states sequent_reader z s) (fresh_step w k b.0 b.1) ∙ inner_states w none s b.0 y b.2

-- What is read of the formulas of a side.
record ListRead (w : Side) (s : List Lexeme) (l : Phrases) : Type 0 where
  front : Phrases
  last : State
  tree : Phrase
  passes : states sequent_reader (Fresh w) s ≡ Some (Reading w front last)
  whole_last : ended Formula last ≡ Some tree
  list : snoc front tree ≡ l

list_read : {s : List Lexeme} {l : Phrases} → ReadsList formula s l → (w : Side) → ListRead w s l
list_read (list-one {s = s} {a = a} d) w =
    let r = only_at Formula Formula s a d refl in
    record { front = none; last = r.0; tree = a; passes = fresh_states w s r.0 a r.1 r.2; whole_last = r.2; list = refl }
list_read (list-more {s = s} {r = r} {l = l} {a = a} ds d) w =
    let x = list_read ds w in
    let y = only_at Formula Formula r a d refl in
    let comma : sequent_step (Reading w x.front x.last) Comma ≡ Some (Reading w (snoc x.front x.tree) (Wants [])) =
    ap (λ (q : Option Phrase). or_else q (inner w x.front x.last Comma) (λ t. Some (Reading w (snoc x.front t) (Wants [])))) x.whole_last in
    record {
      front = snoc x.front x.tree;
      last = y.0;
      tree = a;
      passes =
          states_then sequent_reader s (Comma ∷ r) (Fresh w) (Reading w x.front x.last) x.passes
          ∙ ap (λ (o : Option SequentState). o >>= λ z. states sequent_reader z r) comma ∙ inner_states w (snoc x.front x.tree) r (Wants []) y.0 y.1;
      whole_last = y.2;
      list = ap (λ (z : Phrases). snoc z a) x.list;
    }

left_side : {s : List Lexeme} {l : Phrases} → ReadsSide s l → (r : List Lexeme)
    → states sequent_reader (Fresh LeftSide) (s ++ Turnstile ∷ r) ≡ states sequent_reader (Fresh (RightSide l)) r
left_side side-nothing r = refl
left_side (side-list {s = s} {l = l} d) r =
    let x = list_read d LeftSide in
    let turned : sequent_step (Reading LeftSide x.front x.last) Turnstile ≡ Some (Fresh (RightSide l)) =
    ap (λ (o : Option Phrase). o >>= λ t. turn LeftSide (snoc x.front t)) x.whole_last ∙ ap (λ (z : Phrases). Some (Fresh (RightSide z))) x.list in
    states_then sequent_reader s (Turnstile ∷ r) (Fresh LeftSide) (Reading LeftSide x.front x.last) x.passes
    ∙ ap (λ (o : Option SequentState). o >>= λ z. states sequent_reader z r) turned

right_side : {s : List Lexeme} {m : Phrases} → ReadsSide s m → (l : Phrases)
    → (y : SequentState) × (states sequent_reader (Fresh (RightSide l)) s ≡ Some y) × (sequent_ended y ≡ Some (Turned l m))
right_side side-nothing l = (Fresh (RightSide l), refl, refl)
right_side (side-list {s = s} {l = m} d) l =
    let x = list_read d (RightSide l) in (
      Reading (RightSide l) x.front x.last,
      x.passes,
      ap (λ (o : Option Phrase). o >>= λ t. Some (Turned l (snoc x.front t))) x.whole_last ∙ ap (λ (z : Phrases). Some (Turned l z)) x.list,
    )

only_sequent : {s : List Lexeme} {t : Sides} → ReadsSequent s t
    → (y : SequentState) × (states sequent_reader (Fresh LeftSide) s ≡ Some y) × (sequent_ended y ≡ Some t)
only_sequent (sequent-sides {r = r} {l = l} a b) = let y = right_side b l in (y.0, left_side a r ∙ y.1, y.2)

-- The tokens before a side.
data SideText : Side → List Lexeme → Type 0 where
  left-text : SideText LeftSide []
  right-text : {s : List Lexeme} {l : Phrases} → ReadsSide s l → SideText (RightSide l) (s ++ Turnstile ∷ [])

record ReadingText (w : Side) (l : Phrases) (x : State) (all : List Lexeme) : Type 0 where
  front : List Lexeme
  listed : List Lexeme
  own : List Lexeme
  side : SideText w front
  list : ListBefore formula l listed
  after : After Formula x own
  parts : all ≡ front ++ (listed ++ own)

-- The state after these tokens.
abbrev SequentAfter : SequentState → List Lexeme → Type 0
SequentAfter (Fresh w) all = SideText w all
SequentAfter (Reading w l x) all = ReadingText w l x all

sequent_moved : (x y : SequentState) (all : List Lexeme) → Some x ≡ Some y → SequentAfter x all → SequentAfter y all
sequent_moved x y all e a = subst (λ (z : SequentState). SequentAfter z all) (some_is x y e) a

inner_moves : (w : Side) (l : Phrases) (x : State) (k : Lexeme) (y : SequentState) (all : List Lexeme) → ReadingText w l x all → inner w l x k ≡ Some y
    → SequentAfter y (all ++ k ∷ [])
inner_moves w l x k y all a e =
    let b = bind_some (step Formula x k) (λ z. Some (Reading w l z)) y e in
    sequent_moved (Reading w l b.0) y _ b.2
    (record {
      front = a.front;
      listed = a.listed;
      own = a.own ++ k ∷ [];
      side = a.side;
      list = a.list;
      after = moves Formula x k b.0 a.own a.after b.1;
      parts = ap (λ (z : List Lexeme). z ++ k ∷ []) a.parts ∙ simp append_assoc;
    })

fresh_reading : (w : Side) (all : List Lexeme) → SideText w all → ReadingText w none (Wants []) all
fresh_reading w all a = record { front = all; listed = []; own = []; side = a; list = list-begins; after = nothing; parts = sym (append-nil all) }

-- the formulas of a side with the last one
all_listed : (w : Side) (l : Phrases) (x : State) (all : List Lexeme) (a : ReadingText w l x all) (t : Phrase) → ended Formula x ≡ Some t
    → ReadsList formula (a.listed ++ a.own) (snoc l t)
all_listed w l x all a t e = list_joined a.list a.own t (ends Formula Formula x a.own t a.after e)

turn_moves : {w : Side} {f : List Lexeme} → SideText w f → (m : Phrases) (s all : List Lexeme) (y : SequentState) → ReadsSide s m → all ≡ f ++ s
    → turn w m ≡ Some y → SequentAfter y (all ++ Turnstile ∷ [])
turn_moves left-text m s all y d a e =
    sequent_moved (Fresh (RightSide m)) y _ e (subst (λ (z : List Lexeme). SideText (RightSide m) (z ++ Turnstile ∷ [])) (sym a) (right-text d))
turn_moves (right-text r) m s all y d a e = absurd (none_some y e)

comma_moves : (w : Side) (l : Phrases) (x : State) (y : SequentState) (all : List Lexeme) → ReadingText w l x all
    → sequent_step (Reading w l x) Comma ≡ Some y → SequentAfter y (all ++ Comma ∷ [])
comma_moves w l x y all a e = elim (known (ended Formula x)) [
  | inl o ↦
      inner_moves w l x Comma y all a (subst (λ (q : Option Phrase). or_else q (inner w l x Comma) (λ t. Some (Reading w (snoc l t) (Wants []))) ≡ Some y) o e)
  | inr o ↦
      sequent_moved (Reading w (snoc l o.0) (Wants [])) y _
      (subst (λ (q : Option Phrase). or_else q (inner w l x Comma) (λ t. Some (Reading w (snoc l t) (Wants []))) ≡ Some y) o.1 e)
      (record {
        front = a.front;
        listed = (a.listed ++ a.own) ++ Comma ∷ [];
        own = [];
        side = a.side;
        list = list-goes_on (all_listed w l x all a o.0 o.1);
        after = nothing;
        parts = ap (λ (z : List Lexeme). z ++ Comma ∷ []) a.parts ∙ simp (append_assoc, append-nil);
      })
]

sequent_moves : (x : SequentState) (k : Lexeme) (y : SequentState) (all : List Lexeme) → SequentAfter x all → sequent_step x k ≡ Some y
    → SequentAfter y (all ++ k ∷ [])
sequent_moves (Fresh w) Turnstile y all a e = turn_moves a none [] all y side-nothing (sym (append-nil all)) e
sequent_moves (Fresh w) k y all a e = inner_moves w none (Wants []) k y all (fresh_reading w all a) e
sequent_moves (Reading w l x) Turnstile y all a e =
    let b = bind_some (ended Formula x) (λ t. turn w (snoc l t)) y e in
    turn_moves a.side (snoc l b.0) (a.listed ++ a.own) all y (side-list (all_listed w l x all a b.0 b.1)) a.parts b.2
sequent_moves (Reading w l x) Comma y all a e = comma_moves w l x y all a e
sequent_moves (Reading w l x) k y all a e = inner_moves w l x k y all a e

sequent_after : (s : List Lexeme) (x : SequentState) (all : List Lexeme) (y : SequentState) → SequentAfter x all → states sequent_reader x s ≡ Some y
    → SequentAfter y (all ++ s)
sequent_after [] x all y a e = rw append-nil (sequent_moved x y all e a)
sequent_after (k ∷ s) x all y a e =
    let b = bind_some (sequent_step x k) (λ z. states sequent_reader z s) y e in
    subst (λ (z : List Lexeme). SequentAfter y z) (append_assoc all (k ∷ []) s) (sequent_after s b.0 (all ++ k ∷ []) y (sequent_moves x k b.0 all a b.1) b.2)

both_sides : {l : Phrases} {f : List Lexeme} → SideText (RightSide l) f → (m : Phrases) (s all : List Lexeme) → ReadsSide s m → all ≡ f ++ s
    → ReadsSequent all (Turned l m)
both_sides {l} (right-text {s = r} d) m s all e a =
    subst (λ (z : List Lexeme). ReadsSequent z (Turned l m)) (sym (a ∙ append_assoc r (Turnstile ∷ []) s)) (sequent-sides d e)

found_sequent : (x : SequentState) (all : List Lexeme) (t : Sides) → SequentAfter x all → sequent_ended x ≡ Some t → ReadsSequent all t
found_sequent (Fresh (RightSide l)) all t a e =
    subst (λ (z : Sides). ReadsSequent all z) (some_is (Turned l none) t e) (both_sides a none [] all side-nothing (sym (append-nil all)))
found_sequent (Reading (RightSide l) m x) all t a e =
    let b = bind_some (ended Formula x) (λ u. Some (Turned l (snoc m u))) t e in
    subst (λ (z : Sides). ReadsSequent all z) (some_is (Turned l (snoc m b.0)) t b.2)
    (both_sides a.side (snoc m b.0) (a.listed ++ a.own) all (side-list (all_listed (RightSide l) m x all a b.0 b.1)) a.parts)
found_sequent (Fresh LeftSide) all t a e = absurd (none_some t e)
found_sequent (Reading LeftSide m x) all t a e = absurd (none_some t e)

-- a side that is begun, up to its end
side_live : {w : Side} {f : List Lexeme} → SideText w f → (m : Phrases) (s : List Lexeme) → ReadsSide s m → Opening ReadsSequent (f ++ s)
side_live left-text m s d = record { more = Turnstile ∷ []; plain = (refl, tt); tree = Turned m none; reads = sequent-sides d side-nothing }
side_live (right-text {s = r} {l = l} c) m s d = record {
  more = [];
  plain = tt;
  tree = Turned l m;
  reads = rw append-nil (subst (λ (z : List Lexeme). ReadsSequent z (Turned l m)) (sym (append_assoc r (Turnstile ∷ []) s)) (sequent-sides c d));
}

sequent_live : (x : SequentState) (all : List Lexeme) → SequentAfter x all → Opening ReadsSequent all
sequent_live (Fresh w) all a = subst (λ (z : List Lexeme). Opening ReadsSequent z) (append-nil all) (side_live a none [] side-nothing)
sequent_live (Reading w l x) all a =
    let b = live Formula x a.own a.after in
    let d = list_joined a.list (a.own ++ b.more) b.tree b.reads in
    let at : a.front ++ (a.listed ++ (a.own ++ b.more)) ≡ all ++ b.more = sym (ap (λ (z : List Lexeme). z ++ b.more) a.parts ∙ simp append_assoc) in
    opening_more ReadsSequent all b.more b.plain
    (subst (λ (z : List Lexeme). Opening ReadsSequent z) at (side_live a.side (snoc l b.tree) (a.listed ++ (a.own ++ b.more)) (side-list d)))

pub sequents_all : (d : Dots) → Reader d sequent_reader ReadsSequent
sequents_all d = record {
  only = λ s t r. only_sequent r;
  found = λ s y t e f. found_sequent y s t (sequent_after s (Fresh LeftSide) [] y left-text e) f;
  live = λ s y e. begun d ReadsSequent s (sequent_live y s (sequent_after s (Fresh LeftSide) [] y left-text e));
}
