-- The bytes of a text are read to its end.
use Rattle.std.proofs.Common.{◌≡◌, ℕ, ◌+◌, ◌≤◌, ◌==◌, ◌&&◌, ◌||◌, not, nat_lt, nat_le, Bool, true, false, List, [], ◌∷◌, ◌++◌, length, Option, Some}
use Rattle.std.proofs.Common.{None, refl, sym, ap, subst, ◌∙◌, append_assoc, length-append, arith, if◌then◌else◌}
use Rattle.std.specs.List.{list_all}
use Rattle.std.proofs.lemmas.List.{append-nil}
use Rattle.std.proofs.lemmas.Bool.{and_parts, le-leb, lt-ltb, not-true}
use Rattle.dlk_tree.specs.Names.{is_letter, is_name_byte, is_word, is_name}
use Rattle.dlk_grammar.specs.Tokens.{is_space, is_digit, are_digits, value}
use Rattle.dlk_scripts.specs.declared.part.Part.{Part}
use Rattle.dlk_scripts.specs.declared.part.PartKind.{PartKind}
use Rattle.dlk_scripts.specs.declared.part.PartKind.TheVariants as kind
use Rattle.dlk_scripts.specs.declared.mode.Mode.{Mode}
use Rattle.dlk_scripts.specs.declared.mode.Turn.{Turn}
use Rattle.dlk_scripts.specs.declared.state.Within.{Within}
use Rattle.dlk_scripts.specs.declared.state.Within.TheVariants.{Between, Slash, Comment, CommentStar, Name, Number, Quoted, Less, Quote}
use Rattle.dlk_scripts.specs.declared.state.State.{State}
use Rattle.dlk_scripts.specs.Parts.{part, is_no_quote, most_digits, Spells, slash_first, holds_end, IsComment, comment, Spelled}
use Rattle.dlk_scripts.specs.Parts as spell
use Rattle.dlk_scripts.specs.Table.{when, top, leads, wants_name, wants_number, wants_first}
use Rattle.dlk_scripts.specs.Steps.{turned, take, moves, begins, digits_go_on, start, step, settle_in, settle, first_state}
use Rattle.dlk_scripts.proofs.Grown.{Grown, grow}
use Rattle.dlk_scripts.proofs.Agreeing.{opens_of, stack_of, mode_of, Agree, agrees}
use Rattle.dlk_scripts.proofs.Running.{seed, run, run_append, or_none}
use Rattle.dlk_scripts.proofs.Stepped.{or_else_false}
use Rattle.dlk_scripts.proofs.Reading.{read, or_stop, read_more, space_is, letter_is, digit_is}
use Rattle.dlk_scripts.proofs.Asking.{asked, name_asks, fork_asks, left_asks, right_asks, string_asks, number_asks, clear, begins_name, begins_number}

-- what is taken where it grows
pub record Taken (z : State) (k : PartKind) (at : ℕ) (x : Grown) : Type 0 where
  pub after : State
  pub is : take z k at ≡ Some after
  pub there : Turn
  pub leads_there : leads z.mode (top z.opens) k ≡ Some there
  pub mode : after.mode ≡ mode_of x
  pub opens : after.opens ≡ opens_of (stack_of x)
  pub parts : after.parts ≡ z.parts ++ part at k ∷ []
  pub within : after.within ≡ Between

pub taken : (z : State) (x y : Grown) (k : PartKind) (at : ℕ) → z.mode ≡ mode_of x → z.opens ≡ opens_of (stack_of x) → grow x at k ≡ Some y → Taken z k at y
taken z x y k at m o g = from (leads z.mode (top z.opens) k) refl
    (subst (Agree (leads z.mode (top z.opens) k) (opens_of (stack_of x))) g (rw (m, o) (agrees x at k)))
  where
    from : (v : Option Turn) → leads z.mode (top z.opens) k ≡ v → Agree v (opens_of (stack_of x)) (Some y) → Taken z k at y
    from None l a = absurd a
    from (Some t) l a = record {
      after = turned z k at t;
      is = rw l refl;
      there = t;
      leads_there = l;
      mode = sym a.0;
      opens = rw o (sym a.1);
      parts = refl;
      within = refl;
    }

-- The bytes have been read, and with what is within them ended there are these parts and this has grown.
pub record Done (s : List ℕ) (ps : List Part) (x : Grown) : Type 0 where
  pub last : State
  pub settled : State
  pub reads : read first_state 0 s ≡ Some last
  pub settles : settle last ≡ Some settled
  pub parts : settled.parts ≡ ps
  pub mode : settled.mode ≡ mode_of x
  pub opens : settled.opens ≡ opens_of (stack_of x)
  pub within : settled.within ≡ Between

between_settles : (z : State) → z.within ≡ Between → settle z ≡ Some z
between_settles z e = ap (λ (w : Within). settle_in w z) e

or_stop_some : (o : Option State) → or_stop o (λ z. Some z) ≡ o
or_stop_some None = refl
or_stop_some (Some y) = refl

-- a part has been taken
done_taken : (s : List ℕ) (ps : List Part) (x y : Grown) (d : Done s ps x) (p : List ℕ) (k : PartKind) (v : State) → v.parts ≡ ps →
    (t : Taken v k (length s) y) →
    read d.last (length s) p ≡ take v k (length s) → Done (s ++ p) (ps ++ part (length s) k ∷ []) y
done_taken s ps x y d p k v w t e = record {
  last = t.after;
  settled = t.after;
  reads = read_more first_state d.last t.after s p d.reads (e ∙ t.is);
  settles = between_settles t.after t.within;
  parts = t.parts ∙ ap (λ (l : List Part). l ++ part (length s) k ∷ []) w;
  mode = t.mode;
  opens = t.opens;
  within = t.within;
}

done_mark : (s : List ℕ) (ps : List Part) (x y : Grown) (d : Done s ps x) (b : ℕ) (k : PartKind) → grow x (length s) k ≡ Some y → is_name_byte b ≡ false →
    ((z : State) (n : ℕ) → start z n b ≡ take z k n) → Done (s ++ b ∷ []) (ps ++ part (length s) k ∷ []) y
done_mark s ps x y d b k g h e = done_taken s ps x y d (b ∷ []) k d.settled d.parts (taken d.settled x y k (length s) d.mode d.opens g)
    (or_stop_some (step d.last (length s) b) ∙ clear d.last.within d.last d.settled (length s) b d.settles h ∙ e d.settled (length s))

-- a part of two bytes
done_two : (s : List ℕ) (ps : List Part) (x y : Grown) (d : Done s ps x) (b c : ℕ) (w : Within) (k : PartKind) → grow x (length s) k ≡ Some y →
    is_name_byte b ≡ false →
    start d.settled (length s) b ≡ Some (begins d.settled w (length s) []) →
    ((z : State) (n m : ℕ) → step (begins z w m []) n c ≡ take (begins z w m []) k m) → Done (s ++ b ∷ c ∷ []) (ps ++ part (length s) k ∷ []) y
done_two s ps x y d b c w k g h e f =
    let v = begins d.settled w (length s) [] in
    let first : step d.last (length s) b ≡ Some v = clear d.last.within d.last d.settled (length s) b d.settles h ∙ e in
    done_taken s ps x y d (b ∷ c ∷ []) k v d.parts (taken v x y k (length s) d.mode d.opens g)
    (ap (λ (o : Option State). or_stop o (λ z. read z (length s + 1) (c ∷ []))) first ∙ or_stop_some (step v (length s + 1) c) ∙ f d.settled (length s + 1)
    (length s))

text_reads : (w buffer : List ℕ) (z : State) (n m : ℕ) → list_all is_no_quote w ≡ true →
    read (begins z Quoted m buffer) n (w ++ 34 ∷ []) ≡ take (begins z Quoted m (buffer ++ w)) (kind.Quoted (buffer ++ w)) m
text_reads [] buffer z n m h =
    or_stop_some (take (begins z Quoted m buffer) (kind.Quoted buffer) m)
    ∙ ap (λ (v : List ℕ). take (begins z Quoted m v) (kind.Quoted v) m) (sym (append-nil buffer))
text_reads (c ∷ w) buffer z n m h =
    let p = and_parts (is_no_quote c) (list_all is_no_quote w) h in
    rw (not-true (c == 34) p.0) (text_reads w (buffer ++ c ∷ []) z (n + 1) m p.1
    ∙ ap (λ (v : List ℕ). take (begins z Quoted m v) (kind.Quoted v) m) (append_assoc buffer (c ∷ []) w))

done_string : (s : List ℕ) (ps : List Part) (x y : Grown) (d : Done s ps x) (w : List ℕ) → grow x (length s) (kind.Quoted w) ≡ Some y →
    list_all is_no_quote w ≡ true → Done (s ++ (34 ∷ w ++ 34 ∷ [])) (ps ++ part (length s) (kind.Quoted w) ∷ []) y
done_string s ps x y d w g h =
    let t0 = taken d.settled x y (kind.Quoted w) (length s) d.mode d.opens g in
    let wants = asked _ _ t0.there (string_asks d.settled.mode (top d.settled.opens) w) t0.leads_there in
    let v = begins d.settled Quoted (length s) w in
    let first : step d.last (length s) 34 ≡ Some (begins d.settled Quoted (length s) []) =
    clear d.last.within d.last d.settled (length s) 34 d.settles refl ∙ rw wants refl in
    done_taken s ps x y d (34 ∷ w ++ 34 ∷ []) (kind.Quoted w) v d.parts (taken v x y (kind.Quoted w) (length s) d.mode d.opens g)
    (ap (λ (o : Option State). or_stop o (λ z. read z (length s + 1) (w ++ 34 ∷ []))) first ∙ text_reads w [] d.settled (length s + 1) (length s) h)

name_reads : (r buffer : List ℕ) (z : State) (n m : ℕ) → list_all is_name_byte r ≡ true →
    read (begins z Name m buffer) n r ≡ Some (begins z Name m (buffer ++ r))
name_reads [] buffer z n m h = ap (λ (v : List ℕ). Some (begins z Name m v)) (sym (append-nil buffer))
name_reads (c ∷ r) buffer z n m h =
    let p = and_parts (is_name_byte c) (list_all is_name_byte r) h in
    rw p.0 (name_reads r (buffer ++ c ∷ []) z (n + 1) m p.1 ∙ ap (λ (v : List ℕ). Some (begins z Name m v)) (append_assoc buffer (c ∷ []) r))

-- a name or a number has come, and ends when it is settled
done_begun : (s : List ℕ) (ps : List Part) (x y : Grown) (d : Done s ps x) (p : List ℕ) (k : PartKind) (v : State) → v.parts ≡ ps →
    (t : Taken v k (length s) y) →
    read d.last (length s) p ≡ Some v → settle v ≡ take v k (length s) → Done (s ++ p) (ps ++ part (length s) k ∷ []) y
done_begun s ps x y d p k v w t e f = record {
  last = v;
  settled = t.after;
  reads = read_more first_state d.last v s p d.reads e;
  settles = f ∙ t.is;
  parts = t.parts ∙ ap (λ (l : List Part). l ++ part (length s) k ∷ []) w;
  mode = t.mode;
  opens = t.opens;
  within = t.within;
}

letter_starts : (z : State) (n b : ℕ) → is_letter b ≡ true → wants_name z.mode ≡ true → start z n b ≡ Some (begins z Name n (b ∷ []))
letter_starts z n b l h = let p = letter_is b l in rw (p.0, p.1, l, h) refl

digit_starts : (z : State) (n b : ℕ) → is_digit b ≡ true → wants_number z.mode ≡ true → start z n b ≡ Some (begins z Number n (b ∷ []))
digit_starts z n b l h = let p = digit_is b l in rw (p.0, p.1, p.2, l, h) refl

name_is_word : (w : List ℕ) → is_name w ≡ true → is_word w ≡ true
name_is_word w h = (and_parts (is_word w) _ (and_parts _ _ h).0).0

done_name : (s : List ℕ) (ps : List Part) (x y : Grown) (d : Done s ps x) (w : List ℕ) → grow x (length s) (kind.Name w) ≡ Some y →
    is_name w ≡ true → is_word w ≡ true → Done (s ++ w) (ps ++ part (length s) (kind.Name w) ∷ []) y
done_name s ps x y d [] g h i = absurd (cc)
done_name s ps x y d (c ∷ r) g h i =
    let p = and_parts (is_letter c) (list_all is_name_byte r) i in
    let t0 = taken d.settled x y (kind.Name (c ∷ r)) (length s) d.mode d.opens g in
    let wants = asked _ _ t0.there (name_asks d.settled.mode (top d.settled.opens) (c ∷ r)) t0.leads_there in
    let v = begins d.settled Name (length s) (c ∷ r) in
    let first : step d.last (length s) c ≡ Some (begins d.settled Name (length s) (c ∷ [])) =
    begins_name d.last.within d.last d.settled (length s) c d.settles p.0 wants ∙ letter_starts d.settled (length s) c p.0 wants in
    done_begun s ps x y d (c ∷ r) (kind.Name (c ∷ r)) v d.parts (taken v x y (kind.Name (c ∷ r)) (length s) d.mode d.opens g)
    (ap (λ (o : Option State). or_stop o (λ z. read z (length s + 1) r)) first ∙ name_reads r (c ∷ []) d.settled (length s + 1) (length s) p.1)
    (ap (λ (b : Bool). when b (take v (kind.Name (c ∷ r)) (length s))) h)

-- the front of a number that may come may go on
goes_on : (m : Mode) (buffer r : List ℕ) → length (buffer ++ r) ≤ most_digits → (wants_first m ≡ true → 1 ≤ value (buffer ++ r)) → digits_go_on m buffer ≡ true
goes_on m buffer [] few least =
    let same = append-nil buffer in
    rw (le-leb (length buffer) most_digits (subst (λ (v : List ℕ). length v ≤ most_digits) same few))
    (by (wants_first m) refl)
  where
    by : (b : Bool) → wants_first m ≡ b → (true && (not b || nat_lt (length buffer) most_digits || nat_le 1 (value buffer))) ≡ true
    by false e = refl
    by true e = rw (le-leb 1 (value buffer) (subst (λ (v : List ℕ). 1 ≤ value v) (append-nil buffer) (least e))) (last (nat_lt (length buffer) most_digits))
      where
        last : (b : Bool) → (b || true) ≡ true
        last true = refl
        last false = refl
goes_on m buffer (c ∷ r) few least =
    let size = length-append buffer (c ∷ r) in
    rw (le-leb (length buffer) most_digits (omega (arith, few, size)), lt-ltb (length buffer) most_digits (omega (arith, few, size))) (by (wants_first m))
  where
    by : (b : Bool) → (true && (not b || true || nat_le 1 (value buffer))) ≡ true
    by true = refl
    by false = refl

digits_read : (r buffer : List ℕ) (z : State) (n m : ℕ) → list_all is_digit r ≡ true → length (buffer ++ r) ≤ most_digits →
    (wants_first z.mode ≡ true → 1 ≤ value (buffer ++ r)) → read (begins z Number m buffer) n r ≡ Some (begins z Number m (buffer ++ r))
digits_read [] buffer z n m h few least = ap (λ (v : List ℕ). Some (begins z Number m v)) (sym (append-nil buffer))
digits_read (c ∷ r) buffer z n m h few least =
    let p = and_parts (is_digit c) (list_all is_digit r) h in
    let same = append_assoc buffer (c ∷ []) r in
    let few_more : length ((buffer ++ c ∷ []) ++ r) ≤ most_digits = subst (λ (v : List ℕ). length v ≤ most_digits) (sym same) few in
    let least_more : wants_first z.mode ≡ true → 1 ≤ value ((buffer ++ c ∷ []) ++ r) = subst (λ (v : List ℕ). wants_first z.mode ≡ true → 1 ≤ value v)
    (sym same) least in
    rw (p.0, goes_on z.mode (buffer ++ c ∷ []) r few_more least_more)
    (digits_read r (buffer ++ c ∷ []) z (n + 1) m p.1 few_more least_more ∙ ap (λ (v : List ℕ). Some (begins z Number m v)) same)

done_number : (s : List ℕ) (ps : List Part) (x y : Grown) (d : Done s ps x) (w : List ℕ) → grow x (length s) (kind.Number (value w)) ≡ Some y →
    are_digits w ≡ true → length w ≤ most_digits → Done (s ++ w) (ps ++ part (length s) (kind.Number (value w)) ∷ []) y
done_number s ps x y d [] g h few = absurd (cc)
done_number s ps x y d (c ∷ r) g h few =
    let p = and_parts (is_digit c) (list_all is_digit r) h in
    let k = kind.Number (value (c ∷ r)) in
    let t0 = taken d.settled x y k (length s) d.mode d.opens g in
    let wants = asked _ _ t0.there (number_asks d.settled.mode (top d.settled.opens) (value (c ∷ r))) t0.leads_there in
    let v = begins d.settled Number (length s) (c ∷ r) in
    let first : step d.last (length s) c ≡ Some (begins d.settled Number (length s) (c ∷ [])) =
    begins_number d.last.within d.last d.settled (length s) c d.settles wants.0 ∙ digit_starts d.settled (length s) c p.0 wants.0 in
    done_begun s ps x y d (c ∷ r) k v d.parts (taken v x y k (length s) d.mode d.opens g)
    (ap (λ (o : Option State). or_stop o (λ z. read z (length s + 1) r)) first ∙ digits_read r (c ∷ []) d.settled (length s + 1) (length s) p.1 few wants.1)
    refl

-- a comment
abbrev comment_within : Bool → Within
comment_within starred = if starred then CommentStar else Comment

comment_step : (starred : Bool) (z : State) (n b : ℕ) → (starred && (b == 47)) ≡ false →
    step (moves z (comment_within starred)) n b ≡ Some (moves z (comment_within (b == 42)))
comment_step true z n b h = rw h refl
comment_step false z n b h = refl

comment_reads : (s : List ℕ) (starred : Bool) (z : State) (n : ℕ) → holds_end s ≡ false → (starred && slash_first s) ≡ false →
    read (moves z (comment_within starred)) n (s ++ 42 ∷ 47 ∷ []) ≡ Some (moves z Between)
comment_reads [] true z n h f = refl
comment_reads [] false z n h f = refl
comment_reads (b ∷ s) starred z n h f =
    let p = or_else_false (b == 42 && slash_first s) (holds_end s) true h in
    ap (λ (o : Option State). or_stop o (λ u. read u (n + 1) (s ++ 42 ∷ 47 ∷ []))) (comment_step starred z n b f)
    ∙ comment_reads s (b == 42) z (n + 1) p.1 p.0

done_comment : (s : List ℕ) (ps : List Part) (x : Grown) (d : Done s ps x) (c : List ℕ) → IsComment c → Done (s ++ c) ps x
done_comment s ps x d c (comment inside h) =
    let first : step d.last (length s) 47 ≡ Some (moves d.settled Slash) = clear d.last.within d.last d.settled (length s) 47 d.settles refl in
    record {
      last = moves d.settled Between;
      settled = moves d.settled Between;
      reads = read_more first_state d.last (moves d.settled Between) s (47 ∷ 42 ∷ inside ++ 42 ∷ 47 ∷ []) d.reads
          (ap (λ (o : Option State). or_stop o (λ z. read z (length s + 1) (42 ∷ inside ++ 42 ∷ 47 ∷ []))) first
          ∙ comment_reads inside false d.settled (length s + 1 + 1) h refl);
      settles = refl;
      parts = d.parts;
      mode = d.mode;
      opens = d.opens;
      within = refl;
    }

done_space : (s : List ℕ) (ps : List Part) (x : Grown) (d : Done s ps x) (b : ℕ) → is_space b ≡ true → Done (s ++ b ∷ []) ps x
done_space s ps x d b h = record {
  last = d.settled;
  settled = d.settled;
  reads = read_more first_state d.last d.settled s (b ∷ []) d.reads
      (or_stop_some (step d.last (length s) b) ∙ clear d.last.within d.last d.settled (length s) b d.settles (space_is b h) ∙ rw h refl);
  settles = between_settles d.settled d.within;
  parts = d.parts;
  mode = d.mode;
  opens = d.opens;
  within = d.within;
}

done_part : (s : List ℕ) (ps : List Part) (x y : Grown) (d : Done s ps x) (p : List ℕ) (k : PartKind) → Spells p k → grow x (length s) k ≡ Some y →
    Done (s ++ p) (ps ++ part (length s) k ∷ []) y
done_part s ps x y d p k spell.open_bracket g = done_mark s ps x y d 40 kind.Open g refl (λ z n. refl)
done_part s ps x y d p k spell.close_bracket g = done_mark s ps x y d 41 kind.Close g refl (λ z n. refl)
done_part s ps x y d p k spell.semicolon g = done_mark s ps x y d 59 kind.Semicolon g refl (λ z n. refl)
done_part s ps x y d p k spell.bar g = done_mark s ps x y d 124 kind.Bar g refl (λ z n. refl)
done_part s ps x y d p k spell.comma g = done_mark s ps x y d 44 kind.Comma g refl (λ z n. refl)
done_part s ps x y d p k spell.star g = done_mark s ps x y d 42 kind.Star g refl (λ z n. refl)
done_part s ps x y d p k spell.minus g = done_mark s ps x y d 45 kind.Minus g refl (λ z n. refl)
done_part s ps x y d p k spell.point g = done_mark s ps x y d 46 kind.Point g refl (λ z n. refl)
done_part s ps x y d p k spell.fork g =
    let t = taken d.settled x y kind.Fork (length s) d.mode d.opens g in
    let wants = asked _ _ t.there (fork_asks d.settled.mode (top d.settled.opens)) t.leads_there in
    done_two s ps x y d 60 40 Less kind.Fork g refl (rw wants refl) (λ z n m. refl)
done_part s ps x y d p k spell.any_left g =
    let t = taken d.settled x y kind.AnyLeft (length s) d.mode d.opens g in
    let wants = asked _ _ t.there (left_asks d.settled.mode (top d.settled.opens)) t.leads_there in
    done_two s ps x y d 39 76 Quote kind.AnyLeft g refl (rw wants refl) (λ z n m. refl)
done_part s ps x y d p k spell.any_right g =
    let t = taken d.settled x y kind.AnyRight (length s) d.mode d.opens g in
    let wants = asked _ _ t.there (right_asks d.settled.mode (top d.settled.opens)) t.leads_there in
    done_two s ps x y d 39 82 Quote kind.AnyRight g refl (rw wants refl) (λ z n m. refl)
done_part s ps x y d p k (spell.name w h) g = done_name s ps x y d w g h (name_is_word w h)
done_part s ps x y d p k (spell.number w h few) g = done_number s ps x y d w g h few
done_part s ps x y d p k (spell.string w h) g = done_string s ps x y d w g h

-- the last part grew from what had grown before it
record LastPart (ps : List Part) (p : Part) (y : Grown) : Type 0 where
  before : Grown
  run_before : run seed ps ≡ Some before
  grows_to : grow before p.at p.kind ≡ Some y

last_part : (ps : List Part) (p : Part) (y : Grown) → run seed (ps ++ p ∷ []) ≡ Some y → LastPart ps p y
last_part ps p y e = from (run seed ps) refl (sym (run_append seed ps (p ∷ [])) ∙ e)
  where
    one : (o : Option Grown) → or_none o (λ z. Some z) ≡ Some y → o ≡ Some y
    one None h = absurd (cc)
    one (Some z) h = h

    from : (o : Option Grown) → run seed ps ≡ o → or_none o (λ z. run z (p ∷ [])) ≡ Some y → LastPart ps p y
    from None r h = absurd (cc)
    from (Some x) r h = record { before = x; run_before = r; grows_to = one (grow x p.at p.kind) h }

done_first : Done [] [] seed
done_first = record { last = first_state; settled = first_state; reads = refl; settles = refl; parts = refl; mode = refl; opens = refl; within = refl }

pub complete : {s : List ℕ} {ps : List Part} → Spelled s ps → (x : Grown) → run seed ps ≡ Some x → Done s ps x
complete spell.nothing x e = let same : seed ≡ x = cc in subst (Done [] []) same done_first
complete (spell.then_space {s = s} {ps = ps} b w h) x e = done_space s ps x (complete w x e) b h
complete (spell.then_comment {s = s} {ps = ps} c w h) x e = done_comment s ps x (complete w x e) c h
complete (spell.then_part {s = s} {ps = ps} p k w h) x e =
    let l = last_part ps (part (length s) k) x e in
    done_part s ps l.before x (complete w l.before l.run_before) p k h l.grows_to
