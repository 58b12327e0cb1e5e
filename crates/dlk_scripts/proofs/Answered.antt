-- What reading to the end tells of a text.
use Rattle.std.proofs.Common.{◌≡◌, ℕ, ◌+◌, ◌&&◌, Bool, true, false, List, [], ◌∷◌, ◌++◌, length, Option, Some, None, refl, sym, ap, subst, ◌∙◌}
use Rattle.std.proofs.Common.{append_assoc, length-append, ◌⊎◌, inl, inr, zero-add}
use Rattle.std.specs.List.{list_all}
use Rattle.std.proofs.lemmas.Bool.{and_parts}
use Rattle.std.proofs.lemmas.List.{append-nil}
use Rattle.dlk_grammar.specs.Tokens.{is_digit, are_digits}
use Rattle.dlk_scripts.specs.declared.part.Part.{Part}
use Rattle.dlk_scripts.specs.declared.state.Within.{Within}
use Rattle.dlk_scripts.specs.declared.state.Within.TheVariants.{Between, Slash, Comment, CommentStar, Name, Number, Quoted, Less, Quote}
use Rattle.dlk_scripts.specs.declared.state.State.{State}
use Rattle.dlk_scripts.specs.Parts.{Spelled}
use Rattle.dlk_scripts.specs.Scripts.{Script, Once, Times, Group, Atom, Call, Repeat, script_parts}
use Rattle.dlk_scripts.specs.Texts.{IsScript, HasParts, Begins, Stops, stops-byte, stops-end}
use Rattle.dlk_scripts.specs.Table.{when, is_whole, nothing_open}
use Rattle.dlk_scripts.specs.Steps.{step, settle, is_closed, when_closed, ended, first_state, HasDigits, DigitsIn}
use Rattle.dlk_scripts.proofs.Grown.{Grown, Wanting, Come, Stars, Branched, InCall, NoSemi, Semi, Top, InGroup, InFork, Begun, Signed, InPlace, Dotted, Whole}
use Rattle.dlk_scripts.proofs.Growing.{finished, FinishedAs, finished_as}
use Rattle.dlk_scripts.proofs.Agreeing.{opens_of, stack_of, mode_of, come_mode}
use Rattle.dlk_scripts.proofs.Running.{seed, run, runs}
use Rattle.dlk_scripts.proofs.Reached.{Settled, ReachedIn, Reached, reached_first}
use Rattle.dlk_scripts.proofs.Stepped.{stepped, settles}
use Rattle.dlk_scripts.proofs.Reading.{read, or_stop, read_append, read_more}
use Rattle.dlk_scripts.proofs.Completed.{Done, complete}
use Rattle.dlk_scripts.proofs.Living.{lives}

-- what is closed is finished, and the other way round
abbrev shut : Grown → Bool
shut x = is_whole (mode_of x) && nothing_open (opens_of (stack_of x))

not_open : (b : Bool) → (b && false) ≡ true → ⊥
not_open b e = let p = and_parts b false e in cc

closed_finished : (x : Grown) → shut x ≡ true → (t : Script) × (finished x ≡ Some t)
closed_finished (Come Top A Q r) e = (_, refl)
closed_finished (Come (InGroup S B P o) A Q r) e = absurd (not_open (is_whole (come_mode r)) e)
closed_finished (Come (InFork S B q s f c) A Q r) e = absurd (not_open (is_whole (come_mode r)) e)
closed_finished (Branched Top A q) e = (_, refl)
closed_finished (Branched (InGroup S B P o) A q) e = absurd (cc)
closed_finished (Branched (InFork S B p s f c) A q) e = absurd (cc)
closed_finished (Wanting S A NoSemi) e = absurd (cc)
closed_finished (Wanting S A (Semi q s)) e = absurd (cc)
closed_finished (Stars S A Q r s) e = absurd (cc)
closed_finished (InCall C B Begun) e = absurd (cc)
closed_finished (InCall C B (Signed m)) e = absurd (cc)
closed_finished (InCall C B (InPlace p)) e = absurd (cc)
closed_finished (InCall C B (Dotted p d)) e = absurd (cc)
closed_finished (InCall C B (Whole a)) e = absurd (cc)

come_whole : (r : Repeat) → is_whole (come_mode r) ≡ true
come_whole (Once (Group o t c)) = refl
come_whole (Once (Atom n w)) = refl
come_whole (Once (Call n w o l c)) = refl
come_whole (Times r s n v) = refl

finished_closed : (x : Grown) (t : Script) → finished x ≡ Some t → shut x ≡ true
finished_closed (Come Top A Q r) t e = rw (come_whole r) refl
finished_closed (Come (InGroup S B P o) A Q r) t e = absurd (cc)
finished_closed (Come (InFork S B q s f c) A Q r) t e = absurd (cc)
finished_closed (Branched Top A q) t e = refl
finished_closed (Branched (InGroup S B P o) A q) t e = absurd (cc)
finished_closed (Branched (InFork S B p s f c) A q) t e = absurd (cc)
finished_closed (Wanting S A Q) t e = absurd (cc)
finished_closed (Stars S A Q r s) t e = absurd (cc)
finished_closed (InCall C B p) t e = absurd (cc)

-- bytes that have been read to an end say a script
said_by : (bytes : List ℕ) (z : State) → Settled bytes z → is_closed z ≡ true → HasParts bytes z.parts
said_by bytes z s e =
    let x = s.held.grown in
    let f = closed_finished x (rw (s.held.mode, s.held.opens) at e) in
    let w = subst (FinishedAs x) f.1 (finished_as x) in
    record {
      script = f.0;
      says = record { spelled = subst (Spelled bytes) (sym (w.0 ∙ s.held.parts)) s.spelled; fits = w.1 s.held.fits };
      parts_are = w.0 ∙ s.held.parts;
    }

pub said : (bytes : List ℕ) (y z : State) → Reached bytes y → ended y ≡ Some z → HasParts bytes z.parts
said bytes y z r e = from (settle y) refl e
  where
    close : (u : State) (b : Bool) → settle y ≡ Some u → is_closed u ≡ b → when b (Some u) ≡ Some z → HasParts bytes z.parts
    close u true s c h = let same : u ≡ z = cc in subst (λ (v : State). HasParts bytes v.parts) same (said_by bytes u (settles bytes y u r s) c)
    close u false s c h = absurd (cc)

    from : (o : Option State) → settle y ≡ o → when_closed o ≡ Some z → HasParts bytes z.parts
    from None s h = absurd (cc)
    from (Some u) s h = close u (is_closed u) s refl h

-- a text is read to an end, with its parts
pub record ReadWhole (bytes : List ℕ) (t : Script) : Type 0 where
  pub grown : Grown
  pub run_grown : run seed (script_parts t) ≡ Some grown
  pub finished_grown : finished grown ≡ Some t
  pub done : Done bytes (script_parts t) grown
  pub ends : ended done.last ≡ Some done.settled

pub read_whole : (bytes : List ℕ) (t : Script) → IsScript bytes t → ReadWhole bytes t
read_whole bytes t s =
    let r = runs t s.fits in
    let d = complete s.spelled r.0 r.1 in
    let closed : is_closed d.settled ≡ true = rw (d.mode, d.opens) (finished_closed r.0 t r.2) in
    record {
      grown = r.0;
      run_grown = r.1;
      finished_grown = r.2;
      done = d;
      ends = ap when_closed d.settles ∙ rw closed refl;
    }

some_same : {A : Type 0} (o : Option A) (x y : A) → o ≡ Some x → o ≡ Some y → x ≡ y
some_same o x y e f = cc

pub one_script_said : (bytes : List ℕ) (t u : Script) → IsScript bytes t → IsScript bytes u → t ≡ u
one_script_said bytes t u a b =
    let v = read_whole bytes t a in
    let w = read_whole bytes u b in
    let last = some_same (read first_state 0 bytes) v.done.last w.done.last v.done.reads w.done.reads in
    let settled = some_same (settle v.done.last) v.done.settled w.done.settled v.done.settles (ap settle last ∙ w.done.settles) in
    let parts : script_parts t ≡ script_parts u = sym v.done.parts ∙ ap (λ (z : State). z.parts) settled ∙ w.done.parts in
    let grown = some_same (run seed (script_parts t)) v.grown w.grown v.run_grown (ap (run seed) parts ∙ w.run_grown) in
    some_same (finished v.grown) t u v.finished_grown (ap finished grown ∙ w.finished_grown)

pub one_parts_said : (bytes : List ℕ) (p q : List Part) → HasParts bytes p → HasParts bytes q → p ≡ q
one_parts_said bytes p q a b = sym a.parts_are ∙ ap script_parts (one_script_said bytes a.script b.script a.says b.says) ∙ b.parts_are

-- reading on from what has been reached
pub reached_on : (bytes more : List ℕ) (y z : State) → Reached bytes y → read y (length bytes) more ≡ Some z → Reached (bytes ++ more) z
reached_on bytes [] y z r e = let same : y ≡ z = cc in rw (append-nil bytes) (subst (Reached bytes) same r)
reached_on bytes (b ∷ more) y z r e = from (step y (length bytes) b) refl e
    (λ u s h. reached_on (bytes ++ b ∷ []) more u z (stepped bytes y u b r s) (ap (λ (n : ℕ). read u n more) (length-append bytes (b ∷ [])) ∙ h))
  where
    from : (o : Option State) → step y (length bytes) b ≡ o → or_stop o (λ u. read u (length bytes + 1) more) ≡ Some z →
        ((u : State) → step y (length bytes) b ≡ Some u → read u (length bytes + 1) more ≡ Some z → Reached ((bytes ++ b ∷ []) ++ more) z) →
        Reached (bytes ++ b ∷ more) z
    from None s h f = absurd (cc)
    from (Some u) s h f = subst (λ (v : List ℕ). Reached v z) (append_assoc bytes (b ∷ []) more) (f u s h)

pub begun : (bytes : List ℕ) (y : State) → Reached bytes y → Begins bytes
begun bytes y r =
    let l = lives bytes y (length bytes) r in
    let p = said (bytes ++ l.more) l.there l.closed (reached_on bytes l.more y l.there r l.reads) l.ends in
    record { more = l.more; script = p.script; says = p.says }

-- where a step can't be done, and where the end can't be, the bytes stop
pub stops_here : (bytes rest : List ℕ) (b : ℕ) (y : State) → Reached bytes y → read first_state 0 bytes ≡ Some y → step y (length bytes) b ≡ None →
    Stops (bytes ++ b ∷ rest) (length bytes)
stops_here bytes rest b y r e s = stops-byte b rest (begun bytes y r) never
  where
    never : ¬ Begins (bytes ++ b ∷ [])
    never g =
        let w = read_whole ((bytes ++ b ∷ []) ++ g.more) g.script g.says in
        let at : read first_state 0 ((bytes ++ b ∷ []) ++ g.more) ≡ None =
        ap (read first_state 0) (append_assoc bytes (b ∷ []) g.more)
        ∙ read_append first_state 0 bytes (b ∷ g.more) (length bytes) (zero-add (length bytes))
        ∙ ap (λ (o : Option State). or_stop o (λ z. read z (length bytes) (b ∷ g.more))) e
        ∙ ap (λ (o : Option State). or_stop o (λ z. read z (length bytes + 1) g.more)) s in
        let no : None ≡ Some w.done.last = sym at ∙ w.done.reads in
        cc

pub stops_at_end : (bytes : List ℕ) (y : State) → Reached bytes y → read first_state 0 bytes ≡ Some y → ended y ≡ None → Stops bytes (length bytes)
stops_at_end bytes y r e f = stops-end (begun bytes y r) (λ t s.
    let w = read_whole bytes t s in
    let same = some_same (read first_state 0 bytes) y w.done.last e w.done.reads in
    let no : None ≡ Some w.done.settled = sym f ∙ ap ended same ∙ w.ends in
    cc)

-- each text says a script or stops
abbrev pub Answer : List ℕ → Type 0
Answer bytes = ((t : Script) × IsScript bytes t) ⊎ ((at : ℕ) × Stops bytes at)

end_answer : (bytes : List ℕ) (y : State) → Reached bytes y → read first_state 0 bytes ≡ Some y → Answer bytes
end_answer bytes y r e = from (ended y) refl
  where
    from : (o : Option State) → ended y ≡ o → Answer bytes
    from None f = inr (length bytes, stops_at_end bytes y r e f)
    from (Some z) f = let p = said bytes y z r f in inl (p.script, p.says)

pub step_read : (bytes : List ℕ) (y z : State) (b : ℕ) → read first_state 0 bytes ≡ Some y → step y (length bytes) b ≡ Some z →
    read first_state 0 (bytes ++ b ∷ []) ≡ Some z
step_read bytes y z b e s = read_more first_state y z bytes (b ∷ []) e (ap (λ (o : Option State). or_stop o (λ u. Some u)) s)

answer_from : (bytes rest : List ℕ) (y : State) → Reached bytes y → read first_state 0 bytes ≡ Some y → Answer (bytes ++ rest)
answer_from bytes [] y r e = rw (append-nil bytes) (end_answer bytes y r e)
answer_from bytes (b ∷ rest) y r e = from (step y (length bytes) b) refl
    (λ u s. answer_from (bytes ++ b ∷ []) rest u (stepped bytes y u b r s) (step_read bytes y u b e s))
  where
    from : (o : Option State) → step y (length bytes) b ≡ o → ((u : State) → step y (length bytes) b ≡ Some u → Answer ((bytes ++ b ∷ []) ++ rest)) →
        Answer (bytes ++ b ∷ rest)
    from None s f = inr (length bytes, stops_here bytes rest b y r e s)
    from (Some u) s f = subst Answer (append_assoc bytes (b ∷ []) rest) (f u s)

pub some_answer : (bytes : List ℕ) → Answer bytes
some_answer bytes = answer_from [] bytes first_state reached_first refl

-- what the code asks
pub has_digits : (bytes : List ℕ) (y : State) → Reached bytes y → HasDigits y
has_digits bytes y r = from y.within r
  where
    digits_all : (s : List ℕ) → are_digits s ≡ true → list_all is_digit s ≡ true
    digits_all [] h = refl
    digits_all (b ∷ s) h = h

    from : (w : Within) → ReachedIn w bytes y → DigitsIn w y.buffer
    from Number q = (q.pending.2, digits_all y.buffer q.pending.1)
    from Between q = tt
    from Slash q = tt
    from Comment q = tt
    from CommentStar q = tt
    from Name q = tt
    from Quoted q = tt
    from Less q = tt
    from Quote q = tt
