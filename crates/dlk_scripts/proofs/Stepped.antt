-- A step leads from what has been reached to what has been reached with one more byte.
use Rattle.std.proofs.Common.{◌≡◌, ℕ, ◌==◌, ◌&&◌, ◌||◌, nat_le, Bool, true, false, List, [], ◌∷◌, ◌++◌, length, Option, Some, None, refl, sym, ap}
use Rattle.std.proofs.Common.{subst, ◌∙◌, append_assoc, codes, if◌then◌else◌}
use Rattle.std.specs.List.{list_all}
use Rattle.std.proofs.lemmas.Bool.{and_parts, leb-true, eqb-true}
use Rattle.std.proofs.lemmas.List.{append-nil}
use Rattle.std.proofs.lemmas.List.Folds.{list_all-append}
use Rattle.dlk_tree.specs.Names.{is_letter, is_name_byte, is_word, is_name}
use Rattle.dlk_grammar.specs.Tokens.{is_digit, are_digits, value}
use Rattle.dlk_scripts.specs.declared.part.PartKind.{PartKind}
use Rattle.dlk_scripts.specs.declared.part.PartKind.TheVariants as kind
use Rattle.dlk_scripts.specs.declared.state.Within.{Within}
use Rattle.dlk_scripts.specs.declared.state.Within.TheVariants.{Between, Slash, Comment, CommentStar, Name, Number, Quoted, Less, Quote}
use Rattle.dlk_scripts.specs.declared.state.State.{State}
use Rattle.dlk_scripts.specs.Parts.{is_no_quote, most_digits, Spells, holds_end, IsComment, Spelled}
use Rattle.dlk_scripts.specs.Parts as spell
use Rattle.dlk_scripts.specs.Steps.{take, moves, digits_go_on, ends_name, ends_number, then_starts, step_in, step, settle_in, settle}
use Rattle.dlk_scripts.proofs.Reached.{Held, Settled, took, star_last, InComment, Pending, Wanted, Placed, ReachedIn, Reached, settled_reached}
use Rattle.dlk_scripts.proofs.Reached.{branches, when_so, started}

-- a byte more in the same place, with the rest the same
held_as : (y z : State) → z.parts ≡ y.parts → z.mode ≡ y.mode → z.opens ≡ y.opens → Held y → Held z
held_as y z p m o h = record { grown = h.grown; parts = h.parts ∙ sym p; fits = h.fits; mode = m ∙ h.mode; opens = o ∙ h.opens }

longer : (v w : Within) (bytes : List ℕ) (y : State) (b : ℕ) (buffer : List ℕ) (r : ReachedIn v bytes y) → Pending w buffer (r.tail ++ b ∷ []) →
    Wanted w y.mode buffer →
    Placed w y.begin (length r.front) → Reached (bytes ++ b ∷ []) (record y { within = w; buffer = buffer })
longer v w bytes y b buffer r p q l = record {
  front = r.front;
  tail = r.tail ++ b ∷ [];
  bytes_are = rw r.bytes_are (append_assoc r.front r.tail (b ∷ []));
  spelled = r.spelled;
  held = held_as y (record y { within = w; buffer = buffer }) refl refl refl r.held;
  pending = p;
  wanted = q;
  placed = l;
}

-- a part ends with the bytes
ends : (w : Within) (bytes : List ℕ) (y z : State) (r : ReachedIn w bytes y) (p last : List ℕ) (k : PartKind) → r.tail ++ last ≡ p → Spells p k →
    y.begin ≡ length r.front → take y k y.begin ≡ Some z → Settled (bytes ++ last) z
ends w bytes y z r p last k t s l e =
    let whole : r.front ++ p ≡ bytes ++ last = sym
    (ap (λ (x : List ℕ). x ++ last) r.bytes_are ∙ append_assoc r.front r.tail last ∙ ap (λ (x : List ℕ). r.front ++ x) t) in
    subst (λ (x : List ℕ). Settled x z) whole (took y r.front p k y.begin z r.spelled r.held s l e)

pub name_ends : (bytes : List ℕ) (y z : State) → ReachedIn Name bytes y → ends_name y ≡ Some z → Settled bytes z
name_ends bytes y z r e = when_so (is_name y.buffer) _ z e (λ t h.
    subst (λ (x : List ℕ). Settled x z) (append-nil bytes)
    (ends Name bytes y z r y.buffer [] (kind.Name y.buffer) (append-nil r.tail ∙ r.pending.0) (spell.name y.buffer t) r.placed h))

pub number_ends : (bytes : List ℕ) (y z : State) → ReachedIn Number bytes y → ends_number y ≡ Some z → Settled bytes z
number_ends bytes y z r e =
    subst (λ (x : List ℕ). Settled x z) (append-nil bytes)
    (ends Number bytes y z r y.buffer [] (kind.Number (value y.buffer)) (append-nil r.tail ∙ r.pending.0) (spell.number y.buffer r.pending.1 r.pending.2)
    r.placed e)

starts_then : (bytes : List ℕ) (z : State) (b : ℕ) (o : Option State) → ((y : State) → o ≡ Some y → Settled bytes y) → then_starts o (length bytes) b ≡ Some z →
    Reached (bytes ++ b ∷ []) z
starts_then bytes z b None f e = absurd (cc)
starts_then bytes z b (Some y) f e = started bytes y z b (f y refl) e

pub word_more : (s : List ℕ) (b : ℕ) → is_word s ≡ true → is_name_byte b ≡ true → is_word (s ++ b ∷ []) ≡ true
word_more [] b w n = absurd (cc)
word_more (c ∷ s) b w n =
    let p = and_parts (is_letter c) (list_all is_name_byte s) w in
    rw (p.0, list_all-append is_name_byte s (b ∷ []), p.1, n) refl

pub digits_more : (s : List ℕ) (b : ℕ) → are_digits s ≡ true → is_digit b ≡ true → are_digits (s ++ b ∷ []) ≡ true
digits_more [] b w n = absurd (cc)
digits_more (c ∷ s) b w n =
    let p = and_parts (is_digit c) (list_all is_digit s) w in
    rw (p.0, list_all-append is_digit s (b ∷ []), p.1, n) refl

text_more : (s : List ℕ) (b : ℕ) → list_all is_no_quote s ≡ true → (b == 34) ≡ false → list_all is_no_quote (s ++ b ∷ []) ≡ true
text_more s b w n = rw (list_all-append is_no_quote s (b ∷ []), w, n) refl

nothing_more : (x : Bool) → ((x && false) || false) ≡ false
nothing_more true = refl
nothing_more false = refl

pub or_else_false : (a b c : Bool) → (a || b) ≡ false → (a ≡ false) × (b ≡ false)
or_else_false true b c e = absurd (cc)
or_else_false false b c e = (refl, e)

pub end_more : (s : List ℕ) (b : ℕ) → holds_end s ≡ false → (star_last s && (b == 47)) ≡ false → holds_end (s ++ b ∷ []) ≡ false
end_more [] b n l = nothing_more (b == 42)
end_more (c ∷ []) b n l = rw l (nothing_more (b == 42))
end_more (c ∷ d ∷ s) b n l =
    let p = or_else_false (c == 42 && d == 47) (holds_end (d ∷ s)) true n in
    rw p.0 (end_more (d ∷ s) b p.1 l)

pub star_more : (s : List ℕ) (b : ℕ) → star_last (s ++ b ∷ []) ≡ (b == 42)
star_more [] b = refl
star_more (c ∷ []) b = refl
star_more (c ∷ d ∷ s) b = star_more (d ∷ s) b

-- a comment goes on
in_comment : (starred : Bool) (tail : List ℕ) (b : ℕ) (c : InComment starred tail) → (starred && (b == 47)) ≡ false → (v : Bool) → (b == 42) ≡ v →
    InComment v (tail ++ b ∷ [])
in_comment starred tail b c n v e = record {
  inside = c.inside ++ b ∷ [];
  tail_is = ap (λ (x : List ℕ). x ++ b ∷ []) c.tail_is;
  no_end = end_more c.inside b c.no_end (rw c.last n);
  last = star_more c.inside b ∙ e;
}

-- a list whose last byte is a star
without_star : (s : List ℕ) → star_last s ≡ true → (f : List ℕ) × (s ≡ f ++ 42 ∷ [])
without_star [] e = absurd (cc)
without_star (b ∷ []) e = ([], rw (eqb-true b 42 e) refl)
without_star (b ∷ c ∷ s) e = let w = without_star (c ∷ s) e in (b ∷ w.0, ap (λ (x : List ℕ). b ∷ x) w.1)

end_less : (f : List ℕ) (b : ℕ) → holds_end (f ++ b ∷ []) ≡ false → holds_end f ≡ false
end_less [] b n = refl
end_less (c ∷ []) b n = nothing_more (c == 42)
end_less (c ∷ d ∷ f) b n =
    let p = or_else_false (c == 42 && d == 47) (holds_end (d ∷ (f ++ b ∷ []))) true n in
    rw p.0 (end_less (d ∷ f) b p.1)

comment_whole : (tail : List ℕ) → InComment true tail → IsComment (tail ++ 47 ∷ [])
comment_whole tail c =
    let w = without_star c.inside c.last in
    let no : holds_end (w.0 ++ 42 ∷ []) ≡ false = subst (λ (x : List ℕ). holds_end x ≡ false) w.1 c.no_end in
    let shape : (47 ∷ 42 ∷ (w.0 ++ 42 ∷ 47 ∷ [])) ≡ tail ++ 47 ∷ [] =
    sym (ap (λ (x : List ℕ). x ++ 47 ∷ []) (c.tail_is ∙ ap (λ (x : List ℕ). 47 ∷ 42 ∷ x) w.1) ∙ ap (λ (x : List ℕ). 47 ∷ 42 ∷ x)
    (append_assoc w.0 (42 ∷ []) (47 ∷ []))) in
    subst IsComment shape (spell.comment w.0 (end_less w.0 42 no))

comment_ends : (bytes : List ℕ) (y : State) → ReachedIn CommentStar bytes y → Settled (bytes ++ 47 ∷ []) (moves y Between)
comment_ends bytes y r = record {
  spelled = subst (λ (x : List ℕ). Spelled x y.parts) (sym (rw r.bytes_are (append_assoc r.front r.tail (47 ∷ []))))
      (spell.then_comment (r.tail ++ 47 ∷ []) r.spelled (comment_whole r.tail r.pending));
  held = held_as y (moves y Between) refl refl refl r.held;
  within = refl;
}

pub same_some : (y z : State) → Some y ≡ Some z → y ≡ z
same_some y z e = cc

comment_goes : (starred : Bool) (w : Within) (bytes : List ℕ) (y : State) (b : ℕ) (r : ReachedIn w bytes y) → InComment starred r.tail →
    (starred && (b == 47)) ≡ false → Reached (bytes ++ b ∷ []) (moves y (if b == 42 then CommentStar else Comment))
comment_goes starred w bytes y b r c n = by (b == 42) refl
  where
    by : (v : Bool) → (b == 42) ≡ v → Reached (bytes ++ b ∷ []) (moves y (if v then CommentStar else Comment))
    by true e = longer w CommentStar bytes y b y.buffer r (in_comment starred r.tail b c n true e) tt tt
    by false e = longer w Comment bytes y b y.buffer r (in_comment starred r.tail b c n false e) tt tt

pub stepped_in : (w : Within) (bytes : List ℕ) (y z : State) (b : ℕ) → ReachedIn w bytes y → y.within ≡ w → step_in w y (length bytes) b ≡ Some z →
    Reached (bytes ++ b ∷ []) z
stepped_in Between bytes y z b r i e =
    let here : r.front ≡ bytes = sym (rw r.pending at r.bytes_are ∙ append-nil r.front) in
    started bytes y z b (record { spelled = subst (λ (x : List ℕ). Spelled x y.parts) here r.spelled; held = r.held; within = i }) e
stepped_in Slash bytes y z b r i e = when_so (b == 42) _ z e (λ t h.
    subst (Reached (bytes ++ b ∷ [])) (same_some _ z h) (longer Slash Comment bytes y b y.buffer r
    (record { inside = []; tail_is = rw (r.pending, eqb-true b 42 t) refl; no_end = refl; last = refl }) tt tt))
stepped_in Comment bytes y z b r i e =
    subst (Reached (bytes ++ b ∷ [])) (same_some _ z e) (comment_goes false Comment bytes y b r r.pending refl)
stepped_in CommentStar bytes y z b r i e =
    subst (Reached (bytes ++ b ∷ [])) (same_some _ z e) (by (b == 47) refl)
  where
    by : (v : Bool) → (b == 47) ≡ v → Reached (bytes ++ b ∷ []) (moves y (if v then Between else (if b == 42 then CommentStar else Comment)))
    by true t = rw (eqb-true b 47 t) (settled_reached _ (moves y Between) (comment_ends bytes y r))
    by false t = comment_goes true CommentStar bytes y b r r.pending t
stepped_in Name bytes y z b r i e =
    branches (is_name_byte b) _ _ z e
    (λ t h. subst (Reached (bytes ++ b ∷ [])) (same_some _ z h) (rw i (longer Name Name bytes y b (y.buffer ++ b ∷ []) r
    (ap (λ (x : List ℕ). x ++ b ∷ []) r.pending.0, word_more y.buffer b r.pending.1 t) r.wanted r.placed)))
    (λ t h. starts_then bytes z b (ends_name y) (λ u g. name_ends bytes y u r g) h)
stepped_in Number bytes y z b r i e =
    branches (is_digit b) _ _ z e
    (λ t h. when_so (digits_go_on y.mode (y.buffer ++ b ∷ [])) _ z h (λ g j.
    subst (Reached (bytes ++ b ∷ [])) (same_some _ z j) (rw i (longer Number Number bytes y b (y.buffer ++ b ∷ []) r (
      ap (λ (x : List ℕ). x ++ b ∷ []) r.pending.0,
      digits_more y.buffer b r.pending.1 t,
      leb-true _ _ (and_parts (nat_le (length (y.buffer ++ b ∷ [])) most_digits) _ g).0,
    ) (r.wanted.0, g) r.placed))))
    (λ t h. starts_then bytes z b (ends_number y) (λ u g. number_ends bytes y u r g) h)
stepped_in Quoted bytes y z b r i e =
    branches (b == 34) _ _ z e
    (λ t h. settled_reached _ z (ends Quoted bytes y z r (34 ∷ (y.buffer ++ 34 ∷ [])) (b ∷ []) (kind.Quoted y.buffer)
    (rw (r.pending.0, eqb-true b 34 t) refl) (spell.string y.buffer r.pending.1) r.placed h))
    (λ t h. subst (Reached (bytes ++ b ∷ [])) (same_some _ z h) (rw i (longer Quoted Quoted bytes y b (y.buffer ++ b ∷ []) r
    (ap (λ (x : List ℕ). x ++ b ∷ []) r.pending.0, text_more y.buffer b r.pending.1 t) r.wanted r.placed)))
stepped_in Less bytes y z b r i e = when_so (b == 40) _ z e (λ t h.
    settled_reached _ z (ends Less bytes y z r (codes "<(") (b ∷ []) kind.Fork (rw (r.pending, eqb-true b 40 t) refl) spell.fork r.placed h))
stepped_in Quote bytes y z b r i e =
    branches (b == 76) _ _ z e
    (λ t h. settled_reached _ z (ends Quote bytes y z r (codes "'L") (b ∷ []) kind.AnyLeft (rw (r.pending, eqb-true b 76 t) refl) spell.any_left r.placed h))
    (λ u f. when_so (b == 82) _ z f (λ t h.
    settled_reached _ z (ends Quote bytes y z r (codes "'R") (b ∷ []) kind.AnyRight (rw (r.pending, eqb-true b 82 t) refl) spell.any_right r.placed h)))

pub stepped : (bytes : List ℕ) (y z : State) (b : ℕ) → Reached bytes y → step y (length bytes) b ≡ Some z → Reached (bytes ++ b ∷ []) z
stepped bytes y z b r e = stepped_in y.within bytes y z b r refl e

-- where a name or a number that has come ends, all are whole parts
pub settled_in : (w : Within) (bytes : List ℕ) (y z : State) → ReachedIn w bytes y → y.within ≡ w → settle_in w y ≡ Some z → Settled bytes z
settled_in Between bytes y z r i e =
    let here : r.front ≡ bytes = sym (rw r.pending at r.bytes_are ∙ append-nil r.front) in
    subst (Settled bytes) (same_some y z e) (record { spelled = subst (λ (x : List ℕ). Spelled x y.parts) here r.spelled; held = r.held; within = i })
settled_in Name bytes y z r i e = name_ends bytes y z r e
settled_in Number bytes y z r i e = number_ends bytes y z r e
settled_in Slash bytes y z r i e = absurd (cc)
settled_in Comment bytes y z r i e = absurd (cc)
settled_in CommentStar bytes y z r i e = absurd (cc)
settled_in Quoted bytes y z r i e = absurd (cc)
settled_in Less bytes y z r i e = absurd (cc)
settled_in Quote bytes y z r i e = absurd (cc)

pub settles : (bytes : List ℕ) (y z : State) → Reached bytes y → settle y ≡ Some z → Settled bytes z
settles bytes y z r e = settled_in y.within bytes y z r refl e
