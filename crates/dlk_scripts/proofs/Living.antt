-- Whatever has been reached can be gone on with to the end of a text.
use Rattle.std.proofs.Common.{◌≡◌, ℕ, ◌+◌, ◌*◌, ◌-◌, ◌≤◌, ◌&&◌, ◌||◌, nat_lt, nat_le, Bool, true, false, List, [], ◌∷◌, ◌++◌, length, Option, Some}
use Rattle.std.proofs.Common.{refl, sym, ap, ◌∙◌, length-append, arith, codes}
use Rattle.std.specs.List.{fold}
use Rattle.std.specs.Str.{bytes_eq}
use Rattle.std.proofs.lemmas.Bool.{and_parts, leb-true, le-leb, ltb-true, true≢false}
use Rattle.std.proofs.lemmas.Slice.Eq.{bytes_eq-Decides}
use Rattle.dlk_tree.specs.Names.{is_word, is_name}
use Rattle.dlk_grammar.specs.Tokens.{value}
use Rattle.dlk_scripts.specs.declared.part.PartKind.{PartKind}
use Rattle.dlk_scripts.specs.declared.part.PartKind.TheVariants as kind
use Rattle.dlk_scripts.specs.declared.mode.Mode.{Mode}
use Rattle.dlk_scripts.specs.declared.mode.Mode.TheVariants as mode
use Rattle.dlk_scripts.specs.declared.mode.Opening.{Opening}
use Rattle.dlk_scripts.specs.declared.mode.Opening.TheVariants as opening
use Rattle.dlk_scripts.specs.declared.mode.Change.TheVariants.{Keep, Close}
use Rattle.dlk_scripts.specs.declared.mode.Turn.{Turn}
use Rattle.dlk_scripts.specs.declared.state.Within.{Within}
use Rattle.dlk_scripts.specs.declared.state.Within.TheVariants.{Between, Slash, Comment, CommentStar, Name, Number, Quoted, Less, Quote}
use Rattle.dlk_scripts.specs.declared.state.State.{State}
use Rattle.dlk_scripts.specs.Parts.{most_digits}
use Rattle.dlk_scripts.specs.Table.{top, leads, keeps, at_close, without_top, wants_name, wants_number, wants_first, wants_argument, wants_fork, is_whole}
use Rattle.dlk_scripts.specs.Steps.{turned, moves, begins, grows, digits_go_on, step_in, step, settle_in, when_closed, ended}
use Rattle.dlk_scripts.proofs.Reached.{Pending, Wanted, Reached}
use Rattle.dlk_scripts.proofs.Stepped.{word_more}
use Rattle.dlk_scripts.proofs.Reading.{read, or_stop}

-- some bytes lead to the end of a text
pub record Lives (y : State) (n : ℕ) : Type 0 where
  pub more : List ℕ
  pub there : State
  pub reads : read y n more ≡ Some there
  pub closed : State
  pub ends : ended there ≡ Some closed

lives_step : (y z : State) (n b : ℕ) → step y n b ≡ Some z → Lives z (n + 1) → Lives y n
lives_step y z n b e l = record {
  more = b ∷ l.more;
  there = l.there;
  reads = ap (λ (o : Option State). or_stop o (λ u. read u (n + 1) l.more)) e ∙ l.reads;
  closed = l.closed;
  ends = l.ends;
}

whole_close : (m : Mode) (o : Option Opening) → is_whole m ≡ true → leads m o kind.Close ≡ at_close o
whole_close mode.Named o e = refl
whole_close (mode.After n) o e = refl
whole_close mode.Wants o e = absurd (cc)
whole_close mode.Next o e = absurd (cc)
whole_close (mode.Starred n) o e = absurd (cc)
whole_close mode.Argument o e = absurd (cc)
whole_close mode.Signed o e = absurd (cc)
whole_close mode.Place o e = absurd (cc)
whole_close mode.Pointed o e = absurd (cc)
whole_close mode.Argued o e = absurd (cc)

-- a closing bracket where nothing is within
close_step : (z : State) (n : ℕ) (t : Turn) → z.within ≡ Between → leads z.mode (top z.opens) kind.Close ≡ Some t → step z n 41 ≡ Some (turned z kind.Close n t)
close_step z n t i e = ap (λ (w : Within). step_in w z n 41) i ∙ rw e refl

closes : (os : List Opening) (z : State) (n : ℕ) → z.within ≡ Between → z.opens ≡ os → is_whole z.mode ≡ true → Lives z n
closes [] z n i o w = record {
  more = [];
  there = z;
  reads = refl;
  closed = z;
  ends = ap when_closed (ap (λ (v : Within). settle_in v z) i) ∙ rw (w, o) refl;
}
closes (opening.Group ∷ os) z n i o w =
    let t : Turn = record { mode = mode.After 0; change = Close } in
    lives_step z (turned z kind.Close n t) n 41 (close_step z n t i (rw o (whole_close z.mode (Some opening.Group) w)))
    (closes os (turned z kind.Close n t) (n + 1) refl (ap without_top o) refl)
closes (opening.Fork ∷ os) z n i o w =
    let t : Turn = record { mode = mode.After 8; change = Close } in
    lives_step z (turned z kind.Close n t) n 41 (close_step z n t i (rw o (whole_close z.mode (Some opening.Fork) w)))
    (closes os (turned z kind.Close n t) (n + 1) refl (ap without_top o) refl)

-- behind an argument
argued_lives : (z : State) (n : ℕ) → z.within ≡ Between → ((o : Option Opening) → leads z.mode o kind.Close ≡ keeps (mode.After 0)) → Lives z n
argued_lives z n i e =
    let t : Turn = record { mode = mode.After 0; change = Keep } in
    lives_step z (turned z kind.Close n t) n 41 (close_step z n t i (e (top z.opens)))
    (closes z.opens (turned z kind.Close n t) (n + 1) refl refl refl)

-- the number 1 comes
number_lives : (z : State) (n : ℕ) (m : Mode) → z.within ≡ Between → wants_number z.mode ≡ true →
    ((o : Option Opening) → leads z.mode o (kind.Number 1) ≡ keeps m) →
    ((u : State) (k : ℕ) → u.within ≡ Between → u.mode ≡ m → Lives u k) → Lives z n
number_lives z n m i w e f =
    let v = begins z Number n (49 ∷ []) in
    let t : Turn = record { mode = m; change = Keep } in
    let u = turned v (kind.Number 1) n t in
    lives_step z v n 49 (ap (λ (x : Within). step_in x z n 49) i ∙ rw w refl)
    (lives_step v u (n + 1) 32 (rw (e (top z.opens)) refl) (f u (n + 1 + 1) refl refl))

-- the name `a` comes
name_lives : (z : State) (n : ℕ) → z.within ≡ Between → wants_name z.mode ≡ true →
    ((o : Option Opening) → leads z.mode o (kind.Name (97 ∷ [])) ≡ keeps mode.Named) → Lives z n
name_lives z n i w e =
    let v = begins z Name n (97 ∷ []) in
    let t : Turn = record { mode = mode.Named; change = Keep } in
    let u = turned v (kind.Name (97 ∷ [])) n t in
    lives_step z v n 97 (ap (λ (x : Within). step_in x z n 97) i ∙ rw w refl)
    (lives_step v u (n + 1) 32 (rw (e (top z.opens)) refl) (closes u.opens u (n + 1 + 1) refl refl refl))

place_lives : (u : State) (k : ℕ) → u.within ≡ Between → u.mode ≡ mode.Place → Lives u k
place_lives u k i e = argued_lives u k i (λ o. rw e refl)

-- behind whole parts
lives_at : (m : Mode) (z : State) (n : ℕ) → z.within ≡ Between → z.mode ≡ m → Lives z n
lives_at mode.Wants z n i e = name_lives z n i (rw e refl) (λ o. rw e refl)
lives_at mode.Next z n i e = name_lives z n i (rw e refl) (λ o. rw e refl)
lives_at mode.Named z n i e = closes z.opens z n i refl (rw e refl)
lives_at (mode.After r) z n i e = closes z.opens z n i refl (rw e refl)
lives_at (mode.Starred r) z n i e = number_lives z n (mode.After r) i (rw e refl) (λ o. rw e refl) (λ u k j f. closes u.opens u k j refl (rw f refl))
lives_at mode.Argument z n i e = number_lives z n mode.Place i (rw e refl) (λ o. rw e refl) place_lives
lives_at mode.Signed z n i e = number_lives z n mode.Place i (rw e refl) (λ o. rw e refl) place_lives
lives_at mode.Place z n i e = place_lives z n i e
lives_at mode.Pointed z n i e = number_lives z n mode.Place i (rw e refl) (λ o. rw e refl) place_lives
lives_at mode.Argued z n i e = argued_lives z n i (λ o. rw e refl)

turned_lives : (y : State) (k : PartKind) (at : ℕ) (t : Turn) (n : ℕ) → Lives (turned y k at t) n
turned_lives y k at t n = lives_at t.mode (turned y k at t) n refl refl

between_lives : (y : State) (n : ℕ) → Lives (moves y Between) n
between_lives y n = lives_at y.mode (moves y Between) n refl refl

-- what may come where it is wanted
abbrev Leads : Mode → Option Opening → PartKind → Type 0
Leads m o k = (t : Turn) × (leads m o k ≡ Some t)

name_leads : (m : Mode) (o : Option Opening) (w : List ℕ) → wants_name m ≡ true → Leads m o (kind.Name w)
name_leads mode.Wants o w e = (_, refl)
name_leads mode.Next o w e = (_, refl)
name_leads mode.Argument o w e = (_, refl)
name_leads mode.Named o w e = absurd (cc)
name_leads (mode.After n) o w e = absurd (cc)
name_leads (mode.Starred n) o w e = absurd (cc)
name_leads mode.Signed o w e = absurd (cc)
name_leads mode.Place o w e = absurd (cc)
name_leads mode.Pointed o w e = absurd (cc)
name_leads mode.Argued o w e = absurd (cc)

number_leads : (m : Mode) (o : Option Opening) (v : ℕ) → wants_number m ≡ true → (wants_first m ≡ true → 1 ≤ v) → Leads m o (kind.Number v)
number_leads (mode.Starred n) o v e f = (_, refl)
number_leads mode.Argument o v e f = (record { mode = mode.Place; change = Keep }, rw (le-leb 1 v (f refl)) refl)
number_leads mode.Signed o v e f = (record { mode = mode.Place; change = Keep }, rw (le-leb 1 v (f refl)) refl)
number_leads mode.Pointed o v e f = (_, refl)
number_leads mode.Wants o v e f = absurd (cc)
number_leads mode.Next o v e f = absurd (cc)
number_leads mode.Named o v e f = absurd (cc)
number_leads (mode.After n) o v e f = absurd (cc)
number_leads mode.Place o v e f = absurd (cc)
number_leads mode.Argued o v e f = absurd (cc)

is_argument : (m : Mode) → wants_argument m ≡ true → m ≡ mode.Argument
is_argument mode.Argument e = refl
is_argument mode.Wants e = absurd (cc)
is_argument mode.Next e = absurd (cc)
is_argument mode.Named e = absurd (cc)
is_argument (mode.After n) e = absurd (cc)
is_argument (mode.Starred n) e = absurd (cc)
is_argument mode.Signed e = absurd (cc)
is_argument mode.Place e = absurd (cc)
is_argument mode.Pointed e = absurd (cc)
is_argument mode.Argued e = absurd (cc)

is_next : (m : Mode) → wants_fork m ≡ true → m ≡ mode.Next
is_next mode.Next e = refl
is_next mode.Wants e = absurd (cc)
is_next mode.Argument e = absurd (cc)
is_next mode.Named e = absurd (cc)
is_next (mode.After n) e = absurd (cc)
is_next (mode.Starred n) e = absurd (cc)
is_next mode.Signed e = absurd (cc)
is_next mode.Place e = absurd (cc)
is_next mode.Pointed e = absurd (cc)
is_next mode.Argued e = absurd (cc)

-- a word with one more letter `a` is a name
abbrev last_of : List ℕ → ℕ
last_of [] = 0
last_of (b ∷ []) = b
last_of (b ∷ c ∷ s) = last_of (c ∷ s)

last_is : (s : List ℕ) (b : ℕ) → last_of (s ++ b ∷ []) ≡ b
last_is [] b = refl
last_is (c ∷ []) b = refl
last_is (c ∷ d ∷ s) b = last_is (d ∷ s) b

differs : (s t : List ℕ) → last_of t ≡ 101 → bytes_eq (s ++ 97 ∷ []) t ≡ false
differs s t e = by (bytes_eq (s ++ 97 ∷ []) t) refl
  where
    by : (v : Bool) → bytes_eq (s ++ 97 ∷ []) t ≡ v → bytes_eq (s ++ 97 ∷ []) t ≡ false
    by false h = h
    by true h =
        let same : s ++ 97 ∷ [] ≡ t = (bytes_eq-Decides (s ++ 97 ∷ []) t).0 h in
        let no : 97 ≡ 101 = sym (last_is s 97) ∙ ap last_of same ∙ e in
        absurd (omega (arith, no))

name_more : (s : List ℕ) → is_word s ≡ true → is_name (s ++ 97 ∷ []) ≡ true
name_more s h = rw (word_more s 97 h refl, differs s (codes "true") refl, differs s (codes "false") refl) refl

-- a space ends a number
space_ends : (y : State) (n : ℕ) → y.within ≡ Number → wants_number y.mode ≡ true → (wants_first y.mode ≡ true → 1 ≤ value y.buffer) → Lives y n
space_ends y n i w f =
    let l = number_leads y.mode (top y.opens) (value y.buffer) w f in
    lives_step y (turned y (kind.Number (value y.buffer)) y.begin l.0) n 32 (ap (λ (x : Within). step_in x y n 32) i ∙ rw l.1 refl)
    (turned_lives y (kind.Number (value y.buffer)) y.begin l.0 (n + 1))

value_more : (s : List ℕ) (b : ℕ) → value (s ++ b ∷ []) ≡ 10 * value s + (b - 48)
value_more s b = fold_snoc 0 s b
  where
    fold_snoc : (v : ℕ) (s : List ℕ) (b : ℕ) → fold (λ n c. 10 * n + (c - 48)) v (s ++ b ∷ []) ≡ 10 * fold (λ n c. 10 * n + (c - 48)) v s + (b - 48)
    fold_snoc v [] b = refl
    fold_snoc v (c ∷ s) b = fold_snoc (10 * v + (c - 48)) s b

number_goes_on : (y : State) (n : ℕ) → y.within ≡ Number → wants_number y.mode ≡ true → digits_go_on y.mode y.buffer ≡ true → Lives y n
number_goes_on y n i w g = by (wants_first y.mode) refl (nat_le 1 (value y.buffer)) refl
  where
    with_one : wants_first y.mode ≡ true → nat_le 1 (value y.buffer) ≡ false → Lives y n
    with_one f z =
        let room : (nat_lt (length y.buffer) most_digits || false) ≡ true = rw (f, z) at (and_parts (nat_le (length y.buffer) most_digits) _ g).1 in
        let few = ltb-true (length y.buffer) most_digits (or_false (nat_lt (length y.buffer) most_digits) room) in
        let size = length-append y.buffer (49 ∷ []) in
        let positive : 1 ≤ value (y.buffer ++ 49 ∷ []) = rw (value_more y.buffer 49) (omega arith) in
        let goes : digits_go_on y.mode (y.buffer ++ 49 ∷ []) ≡ true =
        rw (le-leb (length (y.buffer ++ 49 ∷ [])) most_digits (omega (arith, few, size)), le-leb 1 (value (y.buffer ++ 49 ∷ [])) positive, f)
        (or_true (nat_lt (length (y.buffer ++ 49 ∷ [])) most_digits)) in
        lives_step y (grows y 49) n 49 (ap (λ (x : Within). step_in x y n 49) i ∙ rw goes refl)
        (space_ends (grows y 49) (n + 1) i w (λ h. positive))
      where
        or_false : (a : Bool) → (a || false) ≡ true → a ≡ true
        or_false true h = refl
        or_false false h = absurd (cc)

        or_true : (a : Bool) → (true && (false || a || true)) ≡ true
        or_true true = refl
        or_true false = refl

    by : (f : Bool) → wants_first y.mode ≡ f → (v : Bool) → nat_le 1 (value y.buffer) ≡ v → Lives y n
    by false f v z = space_ends y n i w (λ h. absurd (true≢false (sym h ∙ f)))
    by true f true z = space_ends y n i w (λ h. leb-true 1 (value y.buffer) z)
    by true f false z = with_one f z

lives_in : (w : Within) (y : State) (n : ℕ) (tail : List ℕ) → y.within ≡ w → Pending w y.buffer tail → Wanted w y.mode y.buffer → Lives y n
lives_in Between y n tail i p h = lives_at y.mode y n i refl
lives_in Slash y n tail i p h =
    lives_step y (moves y Comment) n 42 (ap (λ (x : Within). step_in x y n 42) i)
    (lives_step (moves y Comment) (moves y CommentStar) (n + 1) 42 refl
    (lives_step (moves y CommentStar) (moves y Between) (n + 1 + 1) 47 refl (between_lives y (n + 1 + 1 + 1))))
lives_in Comment y n tail i p h =
    lives_step y (moves y CommentStar) n 42 (ap (λ (x : Within). step_in x y n 42) i)
    (lives_step (moves y CommentStar) (moves y Between) (n + 1) 47 refl (between_lives y (n + 1 + 1)))
lives_in CommentStar y n tail i p h =
    lives_step y (moves y Between) n 47 (ap (λ (x : Within). step_in x y n 47) i) (between_lives y (n + 1))
lives_in Name y n tail i p h =
    let w = y.buffer ++ 97 ∷ [] in
    let l = name_leads y.mode (top y.opens) (y.buffer ++ 97 ∷ []) h in
    lives_step y (grows y 97) n 97 (ap (λ (x : Within). step_in x y n 97) i)
    (lives_step (grows y 97) (turned (grows y 97) (kind.Name (y.buffer ++ 97 ∷ [])) y.begin l.0) (n + 1) 32
    (ap (λ (x : Within). step_in x (grows y 97) (n + 1) 32) i ∙ rw (name_more y.buffer p.1, l.1) refl)
    (turned_lives (grows y 97) (kind.Name (y.buffer ++ 97 ∷ [])) y.begin l.0 (n + 1 + 1)))
lives_in Number y n tail i p h = number_goes_on y n i h.0 h.1
lives_in Quoted y n tail i p h =
    let t : Turn = record { mode = mode.Argued; change = Keep } in
    lives_step y (turned y (kind.Quoted y.buffer) y.begin t) n 34 (ap (λ (x : Within). step_in x y n 34) i ∙ rw (is_argument y.mode h) refl)
    (turned_lives y (kind.Quoted y.buffer) y.begin t (n + 1))
lives_in Less y n tail i p h =
    let l : Leads y.mode (top y.opens) kind.Fork = rw (is_next y.mode h) (_, refl) in
    lives_step y (turned y kind.Fork y.begin l.0) n 40 (ap (λ (x : Within). step_in x y n 40) i ∙ rw l.1 refl)
    (turned_lives y kind.Fork y.begin l.0 (n + 1))
lives_in Quote y n tail i p h =
    let t : Turn = record { mode = mode.Argued; change = Keep } in
    lives_step y (turned y kind.AnyLeft y.begin t) n 76 (ap (λ (x : Within). step_in x y n 76) i ∙ rw (is_argument y.mode h) refl)
    (turned_lives y kind.AnyLeft y.begin t (n + 1))

pub lives : (bytes : List ℕ) (y : State) (n : ℕ) → Reached bytes y → Lives y n
lives bytes y n r = lives_in y.within y n r.tail refl r.pending r.wanted
