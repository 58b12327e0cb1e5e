-- What has been read byte by byte: the bytes are parts of something that grows, and the front of one more part.
use Rattle.std.proofs.Common.{◌≡◌, ℕ, ◌≤◌, ◌==◌, ◌&&◌, ◌||◌, not, nat_le, Bool, true, false, List, [], ◌∷◌, ◌++◌, length, Option, Some, None, refl}
use Rattle.std.proofs.Common.{sym, ap, subst, ◌∙◌, arith, if◌then◌else◌, option_and_then}
use Rattle.std.specs.List.{list_all}
use Rattle.std.proofs.lemmas.Bool.{eqb-true}
use Rattle.std.proofs.lemmas.List.{append-nil}
use Rattle.dlk_tree.specs.Names.{is_letter, is_word}
use Rattle.dlk_grammar.specs.Tokens.{is_space, is_digit, are_digits, value}
use Rattle.dlk_scripts.specs.declared.part.Part.{Part}
use Rattle.dlk_scripts.specs.declared.part.PartKind.{PartKind}
use Rattle.dlk_scripts.specs.declared.mode.Mode.{Mode}
use Rattle.dlk_scripts.specs.declared.mode.Turn.{Turn}
use Rattle.dlk_scripts.specs.declared.state.Within.{Within}
use Rattle.dlk_scripts.specs.declared.state.Within.TheVariants.{Between, Slash, Comment, CommentStar, Name, Number, Quoted, Less, Quote}
use Rattle.dlk_scripts.specs.declared.state.State.{State}
use Rattle.dlk_scripts.specs.Parts.{part, is_no_quote, most_digits, Spells, holds_end, Spelled}
use Rattle.dlk_scripts.specs.Parts as spell
use Rattle.dlk_scripts.specs.Table.{when, top, leads, changed, wants_name, wants_number, wants_first, wants_argument, wants_fork}
use Rattle.dlk_scripts.specs.Steps.{mark_of, turned, take, moves, begins, digits_go_on, takes_mark, start, first_state}
use Rattle.dlk_scripts.proofs.Grown.{Grown, grow, grown_parts, GrownFits}
use Rattle.dlk_scripts.proofs.Growing.{Kept, kept}
use Rattle.dlk_scripts.proofs.Agreeing.{opens_of, stack_of, mode_of, Agree, agrees}
use Rattle.dlk_scripts.proofs.Running.{seed}

-- the parts so far have grown to something
pub record Held (y : State) : Type 0 where
  pub grown : Grown
  pub parts : grown_parts grown ≡ y.parts
  pub fits : GrownFits grown
  pub mode : y.mode ≡ mode_of grown
  pub opens : y.opens ≡ opens_of (stack_of grown)

held_turned : (y : State) (h : Held y) (k : PartKind) (at : ℕ) (o : Option Turn) (g : Option Grown) →
    Agree o (opens_of (stack_of h.grown)) g → Kept (grown_parts h.grown ++ part at k ∷ []) (GrownFits h.grown) g →
    (t : Turn) → o ≡ Some t → Held (turned y k at t)
held_turned y h k at None g a b t e = absurd (cc)
held_turned y h k at (Some u) None a b t e = absurd a
held_turned y h k at (Some u) (Some x) a b t e =
    let same : u ≡ t = cc in
    record {
      grown = x;
      parts = b.0 ∙ ap (λ (s : List Part). s ++ part at k ∷ []) h.parts;
      fits = b.1 h.fits;
      mode = sym (a.0 ∙ ap (λ (v : Turn). v.mode) same);
      opens = rw h.opens (sym (a.1 ∙ ap (λ (v : Turn). changed v.change (opens_of (stack_of h.grown))) same));
    }

-- behind whole parts
pub record Settled (bytes : List ℕ) (y : State) : Type 0 where
  pub spelled : Spelled bytes y.parts
  pub held : Held y
  pub within : y.within ≡ Between

pub took : (y : State) (front p : List ℕ) (k : PartKind) (at : ℕ) (z : State) → Spelled front y.parts → Held y → Spells p k → at ≡ length front →
    take y k at ≡ Some z → Settled (front ++ p) z
took y front p k at z s h w place e = from (leads y.mode (top y.opens) k) refl e
  where
    turned_to : (t : Turn) → leads y.mode (top y.opens) k ≡ Some t → Settled (front ++ p) (turned y k at t)
    turned_to t l = record {
      spelled = rw place (spell.then_part p k s w);
      held = held_turned y h k at (leads (mode_of h.grown) (top (opens_of (stack_of h.grown))) k) (grow h.grown at k)
          (agrees h.grown at k) (kept h.grown at k) t (rw (h.mode, h.opens) at l);
      within = refl;
    }

    from : (o : Option Turn) → leads y.mode (top y.opens) k ≡ o → option_and_then (λ t. Some (turned y k at t)) o ≡ Some z → Settled (front ++ p) z
    from None l d = absurd (cc)
    from (Some t) l d = let same : turned y k at t ≡ z = cc in subst (Settled (front ++ p)) same (turned_to t l)

-- the last of the bytes is a star
abbrev pub star_last : List ℕ → Bool
star_last [] = false
star_last (b ∷ []) = b == 42
star_last (b ∷ c ∷ s) = star_last (c ∷ s)

-- Pending within buffer tail: the tail is the front of something within.
pub record InComment (starred : Bool) (tail : List ℕ) : Type 0 where
  pub inside : List ℕ
  pub tail_is : tail ≡ 47 ∷ 42 ∷ inside
  pub no_end : holds_end inside ≡ false
  pub last : star_last inside ≡ starred

abbrev pub Pending : Within → List ℕ → List ℕ → Type 0
Pending Between buffer tail = tail ≡ []
Pending Slash buffer tail = tail ≡ 47 ∷ []
Pending Comment buffer tail = InComment false tail
Pending CommentStar buffer tail = InComment true tail
Pending Name buffer tail = (tail ≡ buffer) × (is_word buffer ≡ true)
Pending Number buffer tail = (tail ≡ buffer) × (are_digits buffer ≡ true) × (length buffer ≤ most_digits)
Pending Quoted buffer tail = (tail ≡ 34 ∷ buffer) × (list_all is_no_quote buffer ≡ true)
Pending Less buffer tail = tail ≡ 60 ∷ []
Pending Quote buffer tail = tail ≡ 39 ∷ []

-- it may go on
abbrev pub Wanted : Within → Mode → List ℕ → Type 0
Wanted Between m buffer = Unit {0}
Wanted Slash m buffer = Unit {0}
Wanted Comment m buffer = Unit {0}
Wanted CommentStar m buffer = Unit {0}
Wanted Name m buffer = wants_name m ≡ true
Wanted Number m buffer = (wants_number m ≡ true) × (digits_go_on m buffer ≡ true)
Wanted Quoted m buffer = wants_argument m ≡ true
Wanted Less m buffer = wants_fork m ≡ true
Wanted Quote m buffer = wants_argument m ≡ true

-- the place of what is within
abbrev pub Placed : Within → ℕ → ℕ → Type 0
Placed Between at n = Unit {0}
Placed Slash at n = Unit {0}
Placed Comment at n = Unit {0}
Placed CommentStar at n = Unit {0}
Placed Name at n = at ≡ n
Placed Number at n = at ≡ n
Placed Quoted at n = at ≡ n
Placed Less at n = at ≡ n
Placed Quote at n = at ≡ n

pub record ReachedIn (w : Within) (bytes : List ℕ) (y : State) : Type 0 where
  pub front : List ℕ
  pub tail : List ℕ
  pub bytes_are : bytes ≡ front ++ tail
  pub spelled : Spelled front y.parts
  pub held : Held y
  pub pending : Pending w y.buffer tail
  pub wanted : Wanted w y.mode y.buffer
  pub placed : Placed w y.begin (length front)

abbrev pub Reached : List ℕ → State → Type 0
Reached bytes y = ReachedIn y.within bytes y

pub reached_first : Reached [] first_state
reached_first = record {
  front = [];
  tail = [];
  bytes_are = refl;
  spelled = spell.nothing;
  held = record { grown = seed; parts = refl; fits = (tt, tt, tt); mode = refl; opens = refl };
  pending = refl;
  wanted = tt;
  placed = tt;
}

pub settled_reached : (bytes : List ℕ) (y : State) → Settled bytes y → Reached bytes y
settled_reached bytes y s = subst (λ (w : Within). ReachedIn w bytes y) (sym s.within) (record {
  front = bytes;
  tail = [];
  bytes_are = sym (append-nil bytes);
  spelled = s.spelled;
  held = s.held;
  pending = refl;
  wanted = tt;
  placed = tt;
})

-- what holds of both branches
pub branches : {A P : Type 0} (b : Bool) (x y : Option A) (z : A) → (if b then x else y) ≡ Some z →
    (b ≡ true → x ≡ Some z → P) → (b ≡ false → y ≡ Some z → P) → P
branches true x y z e f g = f refl e
branches false x y z e f g = g refl e

pub when_so : {A P : Type 0} (b : Bool) (x : Option A) (z : A) → when b x ≡ Some z → (b ≡ true → x ≡ Some z → P) → P
when_so true x z e f = f refl e
when_so false x z e f = absurd (cc)

-- something begins within, in other bytes, with the rest the same
began : (bytes : List ℕ) (y : State) (b : ℕ) (w : Within) (buffer : List ℕ) → Settled bytes y → Pending w buffer (b ∷ []) → Wanted w y.mode buffer →
    Placed w (length bytes) (length bytes) → Reached (bytes ++ b ∷ []) (begins y w (length bytes) buffer)
began bytes y b w buffer s p q l = record {
  front = bytes;
  tail = b ∷ [];
  bytes_are = refl;
  spelled = s.spelled;
  held = record { grown = s.held.grown; parts = s.held.parts; fits = s.held.fits; mode = s.held.mode; opens = s.held.opens };
  pending = p;
  wanted = q;
  placed = l;
}

slashed : (bytes : List ℕ) (y : State) → Settled bytes y → Reached (bytes ++ 47 ∷ []) (moves y Slash)
slashed bytes y s = record {
  front = bytes;
  tail = 47 ∷ [];
  bytes_are = refl;
  spelled = s.spelled;
  held = record { grown = s.held.grown; parts = s.held.parts; fits = s.held.fits; mode = s.held.mode; opens = s.held.opens };
  pending = refl;
  wanted = tt;
  placed = tt;
}

digit_goes_on : (m : Mode) (b : ℕ) → digits_go_on m (b ∷ []) ≡ true
digit_goes_on m b = first (wants_first m)
  where
    first : (c : Bool) → (true && (not c || true || nat_le 1 (value (b ∷ [])))) ≡ true
    first true = refl
    first false = refl

-- the part that is one byte
marked : (b : ℕ) → (k : PartKind) → mark_of b ≡ Some k → Spells (b ∷ []) k
marked b k e =
    branches (b == 40) _ _ k e (λ t h. at b 40 _ _ t h spell.open_bracket) (λ t0 e0.
    branches (b == 41) _ _ k e0 (λ t h. at b 41 _ _ t h spell.close_bracket) (λ t1 e1.
    branches (b == 59) _ _ k e1 (λ t h. at b 59 _ _ t h spell.semicolon) (λ t2 e2.
    branches (b == 124) _ _ k e2 (λ t h. at b 124 _ _ t h spell.bar) (λ t3 e3.
    branches (b == 44) _ _ k e3 (λ t h. at b 44 _ _ t h spell.comma) (λ t4 e4.
    branches (b == 42) _ _ k e4 (λ t h. at b 42 _ _ t h spell.star) (λ t5 e5.
    branches (b == 45) _ _ k e5 (λ t h. at b 45 _ _ t h spell.minus) (λ t6 e6.
    branches (b == 46) _ _ k e6 (λ t h. at b 46 _ _ t h spell.point) (λ t7 e7. absurd (cc)))))))))
  where
    at : (c d : ℕ) (j i : PartKind) → (c == d) ≡ true → Some j ≡ Some i → Spells (d ∷ []) j → Spells (c ∷ []) i
    at c d j i t h s =
        let same : j ≡ i = cc in
        let byte : d ≡ c = sym (eqb-true c d t) in
        subst (λ (x : ℕ). Spells (x ∷ []) i) byte (subst (Spells (d ∷ [])) same s)

at_mark : (bytes : List ℕ) (y z : State) (b : ℕ) → Settled bytes y → (o : Option PartKind) → mark_of b ≡ o → takes_mark y (length bytes) o ≡ Some z →
    Reached (bytes ++ b ∷ []) z
at_mark bytes y z b s None m e = absurd (cc)
at_mark bytes y z b s (Some k) m e = settled_reached _ z (took y bytes (b ∷ []) k (length bytes) z s.spelled s.held (marked b k m) refl e)

pub started : (bytes : List ℕ) (y z : State) (b : ℕ) → Settled bytes y → start y (length bytes) b ≡ Some z → Reached (bytes ++ b ∷ []) z
started bytes y z b s e =
    branches (is_space b) _ _ z e (λ t h. let same : y ≡ z = cc in subst (Reached (bytes ++ b ∷ [])) same (settled_reached _ y
    (record { spelled = spell.then_space b s.spelled t; held = s.held; within = s.within }))) (λ t0 e0.
    branches (b == 47) _ _ z e0 (λ t h. let same : moves y Slash ≡ z = cc in
    subst (Reached (bytes ++ b ∷ [])) same (rw (eqb-true b 47 t) (slashed bytes y s))) (λ t1 e1.
    branches (is_letter b) _ _ z e1 (λ t h. when_so (wants_name y.mode) _ z h (λ g i. let same : begins y Name (length bytes) (b ∷ []) ≡ z = cc in
    subst (Reached (bytes ++ b ∷ [])) same (began bytes y b Name (b ∷ []) s (refl, rw t refl) g refl))) (λ t2 e2.
    branches (is_digit b) _ _ z e2 (λ t h. when_so (wants_number y.mode) _ z h (λ g i. let same : begins y Number (length bytes) (b ∷ []) ≡ z = cc in
    subst (Reached (bytes ++ b ∷ [])) same (began bytes y b Number (b ∷ []) s (refl, rw t refl, omega arith) (g, digit_goes_on y.mode b) refl))) (λ t3 e3.
    branches (b == 34) _ _ z e3 (λ t h. when_so (wants_argument y.mode) _ z h (λ g i. let same : begins y Quoted (length bytes) [] ≡ z = cc in
    subst (Reached (bytes ++ b ∷ [])) same (began bytes y b Quoted [] s (rw (eqb-true b 34 t) refl, refl) g refl))) (λ t4 e4.
    branches (b == 39) _ _ z e4 (λ t h. when_so (wants_argument y.mode) _ z h (λ g i. let same : begins y Quote (length bytes) [] ≡ z = cc in
    subst (Reached (bytes ++ b ∷ [])) same (began bytes y b Quote [] s (rw (eqb-true b 39 t) refl) g refl))) (λ t5 e5.
    branches (b == 60) _ _ z e5 (λ t h. when_so (wants_fork y.mode) _ z h (λ g i. let same : begins y Less (length bytes) [] ≡ z = cc in
    subst (Reached (bytes ++ b ∷ [])) same (began bytes y b Less [] s (rw (eqb-true b 60 t) refl) g refl))) (λ t6 e6.
    at_mark bytes y z b s (mark_of b) refl e6)))))))
