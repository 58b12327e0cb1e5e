-- A guard that has seen lines one by one knows the first that is refused.
use Rattle.std.proofs.Common.{◌≡◌, ◌∙◌, refl, sym, subst, ap, ℕ, zero, suc, ◌+◌, ◌-◌, ◌<◌, ◌≤◌, List, [], ◌∷◌, ◌++◌, length, take, Bool, true, false}
use Rattle.std.proofs.Common.{◌⊎◌, inl, inr, arith}
use Rattle.std.proofs.Common.{Option, None, Some, append_assoc, length-append}
use Rattle.std.specs.Prelude.{◌==◌}
use Rattle.std.specs.List.{slice_get}
use Rattle.std.proofs.lemmas.Bool.{eq-eqb, eqb-true}
use Rattle.std.proofs.lemmas.Option.{none-some}
use Rattle.std.proofs.lemmas.List.{append-nil}
use Rattle.dlk_calculus.specs.Places.{At}
use Rattle.dlk_calculus.proofs.PlaceLaws.{at_one, at_suc, At_place, At-more, At-between}
use Rattle.dlk_guard.specs.declared.why.Why.{Why}
use Rattle.dlk_guard.specs.declared.raw.Raw.{Raw}
use Rattle.dlk_guard.specs.declared.guard.Refusal.{Refusal}
use Rattle.dlk_guard.specs.Instances.{first_of}
use Rattle.dlk_guard.specs.Guarded.{Line, mark, mark_at, marks_behind, marks, misuse, why_raw, why_last, line_why, IsRefused, Guarded, FirstUnguarded}
use Rattle.dlk_guard.specs.Watched.{Watch, started, earlier, against, watched, watched_all, watch_of, verdict}
use Rattle.dlk_guard.proofs.LastMark.{flat}

-- ---- one line more

marks_behind_snoc : (before : List (Option Raw)) (all : List Line) (l : Line) →
    marks_behind before (all ++ l ∷ []) ≡ marks_behind before all ++ mark (marks_behind before all) l ∷ []
marks_behind_snoc before [] l = refl
marks_behind_snoc before (k ∷ all) l = marks_behind_snoc (before ++ mark before k ∷ []) all l

marks_snoc : (all : List Line) (l : Line) → marks (all ++ l ∷ []) ≡ marks all ++ mark (marks all) l ∷ []
marks_snoc all l = marks_behind_snoc [] all l

marks_behind_length : (before : List (Option Raw)) (all : List Line) → length (marks_behind before all) ≡ length before + length all
marks_behind_length before [] = omega arith
marks_behind_length before (k ∷ all) =
    omega (arith, marks_behind_length (before ++ mark before k ∷ []) all, length-append before (mark before k ∷ []))

marks_length : (all : List Line) → length (marks all) ≡ length all
marks_length all = omega (arith, marks_behind_length [] all)

watched_snoc : (w : Watch) (all : List Line) (l : Line) → watched_all w (all ++ l ∷ []) ≡ watched (watched_all w all) l
watched_snoc w [] l = refl
watched_snoc w (k ∷ all) l = watched_snoc (watched w k) all l

pub watch_snoc : (all : List Line) (l : Line) → watch_of (all ++ l ∷ []) ≡ watched (watch_of all) l
watch_snoc all l = watched_snoc started all l

-- ---- lines that are refused whatever follows

abbrev IsMisused : List Line → ℕ → Why → Type 0
IsMisused all n why = (l : Line) × At all n l × (misuse (marks (take (n - 1) all)) l.step ≡ Some why)

front_same : (all : List Line) (l : Line) (n : ℕ) → n ≤ length all → take (n - 1) (all ++ l ∷ []) ≡ take (n - 1) all
front_same all l n le = front all (n - 1) (omega arith)
  where
    front : (xs : List Line) (k : ℕ) → k ≤ length xs → take k (xs ++ l ∷ []) ≡ take k xs
    front xs zero le = refl
    front [] (suc k) le = absurd (omega (arith, le))
    front (x ∷ xs) (suc k) le = ap (λ ys. x ∷ ys) (front xs k (omega (arith, le)))

whole_front : (all : List Line) (l : Line) → take (length all) (all ++ l ∷ []) ≡ all
whole_front [] l = refl
whole_front (x ∷ all) l = ap (λ ys. x ∷ ys) (whole_front all l)

-- an item of a list with one more is one of the list, or the last
at_snoc : (all : List Line) (l k : Line) (n : ℕ) → At (all ++ l ∷ []) n k → At all n k ⊎ ((n ≡ length all + 1) × (k ≡ l))
at_snoc all l k zero h = absurd (cc h)
at_snoc all l k (suc n) h = elim (go all n (sym (at_suc (all ++ l ∷ []) n) ∙ h)) [
  | inl there ↦ inl (at_suc all n ∙ there)
  | inr last ↦ inr (omega (arith, last.0), last.1)
]
  where
    go : (xs : List Line) (i : ℕ) → slice_get (xs ++ l ∷ []) i ≡ Some k → (slice_get xs i ≡ Some k) ⊎ ((i ≡ length xs) × (k ≡ l))
    go [] zero e = inr (refl, cc)
    go [] (suc i) e = absurd (cc e)
    go (x ∷ xs) zero e = inl e
    go (x ∷ xs) (suc i) e = elim (go xs i e) [ inl there ↦ inl there | inr last ↦ inr (omega (arith, last.0), last.1) ]

misused_more : (all : List Line) (l : Line) (n : ℕ) (w : Why) → IsMisused all n w → IsMisused (all ++ l ∷ []) n w
misused_more all l n w m =
    let within = (At_place all n m.0 m.1).1 in
    (m.0, At-more all (l ∷ []) n m.0 m.1, ap (λ ls. misuse (marks ls) m.0.step) (front_same all l n within) ∙ m.2)

misused_last : (all : List Line) (l : Line) (w : Why) → misuse (marks all) l.step ≡ Some w → IsMisused (all ++ l ∷ []) (length all + 1) w
misused_last all l w e =
    let one : length all + 1 - 1 ≡ length all = omega arith in
    (l, At-between all l [], ap (λ k. misuse (marks (take k (all ++ l ∷ []))) l.step) one ∙ ap (λ ls. misuse (marks ls) l.step) (whole_front all l) ∙ e)

misused_before : (all : List Line) (l : Line) (n : ℕ) (w : Why) → IsMisused (all ++ l ∷ []) n w →
    IsMisused all n w ⊎ ((n ≡ length all + 1) × (misuse (marks all) l.step ≡ Some w))
misused_before all l n w m = elim (at_snoc all l m.0 n m.1) [
  | inl there ↦
      let within = (At_place all n m.0 there).1 in
      inl (m.0, there, ap (λ ls. misuse (marks ls) m.0.step) (sym (front_same all l n within)) ∙ m.2)
  | inr last ↦
      let one : length all ≡ n - 1 = omega (arith, last.0) in
      inr (
        last.0,
        ap (λ ls. misuse (marks ls) l.step) (sym (whole_front all l)) ∙ ap (λ k. misuse (marks (take k (all ++ l ∷ []))) l.step) one
            ∙ ap (λ (k : Line). misuse (marks (take (n - 1) (all ++ l ∷ []))) k.step) (sym last.1) ∙ m.2,
      )
]

-- ---- what a guard keeps

abbrev Found : List Line → Option Refusal → Type 0
Found all None = (n : ℕ) (w : Why) → ¬ IsMisused all n w
Found all (Some r) = IsMisused all r.line r.why × ((m : ℕ) (w : Why) → m < r.line → ¬ IsMisused all m w)

record Sees (all : List Line) (w : Watch) : Type 0 where
  marks_are : w.marks ≡ marks all
  found : Found all w.refused

none_misused : (n : ℕ) (w : Why) → ¬ IsMisused [] n w
none_misused n w m = let place = At_place [] n m.0 m.1 in omega (arith, place.0, place.1)

sees_none : Sees [] started
sees_none = record { marks_are = refl; found = none_misused }

found_more : (all : List Line) (l : Line) (line : ℕ) → line ≡ length all + 1 → (r : Option Refusal) → Found all r →
    (why : Option Why) → misuse (marks all) l.step ≡ why → Found (all ++ l ∷ []) (earlier r (against line why))
found_more all l line is (Some r) found why e =
    let within = (At_place all r.line found.0.0 found.0.1).1 in (
      misused_more all l r.line r.why found.0,
      λ m w lt misused. elim (misused_before all l m w misused) [
        | inl before ↦ found.1 m w lt before
        | inr last ↦ omega (arith, last.0, lt, within)
      ],
    )
found_more all l line is None found None e = λ n w misused. elim (misused_before all l n w misused) [
  | inl before ↦ found n w before
  | inr last ↦ none-some w (sym e ∙ last.1)
]
found_more all l line is None found (Some why) e = (
  subst (λ k. IsMisused (all ++ l ∷ []) k why) (sym is) (misused_last all l why e),
  λ m w lt misused. elim (misused_before all l m w misused) [
    | inl before ↦ found m w before
    | inr last ↦ omega (arith, last.0, lt, is)
  ],
)

sees_more : (all : List Line) (l : Line) (w : Watch) → Sees all w → Sees (all ++ l ∷ []) (watched w l)
sees_more all l w s =
    let as_many : length w.marks ≡ length all = ap length s.marks_are ∙ marks_length all in
    record {
      marks_are = ap (λ ms. ms ++ mark ms l ∷ []) s.marks_are ∙ sym (marks_snoc all l);
      found = found_more all l (length w.marks + 1) (omega (arith, as_many)) w.refused s.found (misuse w.marks l.step)
          (ap (λ ms. misuse ms l.step) (sym s.marks_are));
    }

sees_behind : (front more : List Line) (w : Watch) → Sees front w → Sees (front ++ more) (watched_all w more)
sees_behind front [] w s = subst (λ ls. Sees ls w) (sym (append-nil front)) s
sees_behind front (l ∷ more) w s =
    subst (λ ls. Sees ls (watched_all (watched w l) more)) (append_assoc front (l ∷ []) more)
    (sees_behind (front ++ l ∷ []) more (watched w l) (sees_more front l w s))

sees_all : (all : List Line) → Sees all (watch_of all)
sees_all all = sees_behind [] all started sees_none

-- ---- what it says at the end

abbrev Says : List Line → Option Refusal → Type 0
Says all None = Guarded all
Says all (Some r) = FirstUnguarded all r.line r.why

refused_none : (n : ℕ) (w : Why) → ¬ IsRefused [] n w
refused_none n w m = let place = At_place [] n m.0 m.1 in omega (arith, place.0, place.1)

-- a line is refused by its step, or it is the last one and its row is raw
refused_cases : (all : List Line) (n : ℕ) (w : Why) → (r : IsRefused all n w) →
    IsMisused all n w ⊎ ((misuse (marks (take (n - 1) all)) r.0.step ≡ None) × (n ≡ length all) × (why_raw (mark (marks (take (n - 1) all)) r.0) ≡ Some w))
refused_cases all n w r = go (misuse (marks (take (n - 1) all)) r.0.step) refl (n == length all) refl r.2
  where
    go : (step : Option Why) → misuse (marks (take (n - 1) all)) r.0.step ≡ step → (is_last : Bool) → (n == length all) ≡ is_last →
        first_of (step ∷ why_last is_last (mark (marks (take (n - 1) all)) r.0) ∷ []) ≡ Some w →
        IsMisused all n w ⊎ ((misuse (marks (take (n - 1) all)) r.0.step ≡ None) × (n ≡ length all) × (why_raw (mark (marks (take (n - 1) all)) r.0) ≡ Some w))
    go (Some v) e is_last f h = inl (r.0, r.1, e ∙ h)
    go None e true f h = inr (e, eqb-true n (length all) f, only _ h)
      where
        only : (o : Option Why) → first_of (o ∷ []) ≡ Some w → o ≡ Some w
        only None g = absurd (cc g)
        only (Some v) g = g
    go None e false f h = absurd (cc h)

refused_misused : (all : List Line) (n : ℕ) (w : Why) → IsMisused all n w → IsRefused all n w
refused_misused all n w m = (m.0, m.1, go _ m.2)
  where
    go : (step : Option Why) → step ≡ Some w → first_of (step ∷ why_last (n == length all) (mark (marks (take (n - 1) all)) m.0) ∷ []) ≡ Some w
    go None e = absurd (cc e)
    go (Some v) e = e

-- the mark of the last of these lines
last_mark : (all : List Line) (l : Line) → mark_at (marks (all ++ l ∷ [])) (length (marks (all ++ l ∷ []))) ≡ mark (marks all) l
last_mark all l =
    let count : length (marks (all ++ l ∷ [])) ≡ length (marks all) + 1 = ap length (marks_snoc all l) ∙ length-append (marks all) (mark (marks all) l ∷ []) in
    ap (mark_at (marks (all ++ l ∷ []))) count ∙ ap (λ ms. mark_at ms (length (marks all) + 1)) (marks_snoc all l)
    ∙ ap flat (At-between (marks all) (mark (marks all) l) [])

snoc_length : (all : List Line) (l : Line) → length (all ++ l ∷ []) ≡ length all + 1
snoc_length all l = length-append all (l ∷ [])

module _ (all : List Line) (l : Line) where
  abbrev whole : List Line
  whole = all ++ l ∷ []

  there : At whole (length all + 1) l
  there = At-between all l []

  front_marks : marks (take (length all + 1 - 1) whole) ≡ marks all
  front_marks = let one : length all + 1 - 1 ≡ length all = omega arith in ap (λ k. marks (take k whole)) one ∙ ap marks (whole_front all l)

  -- a line that is refused for its row alone is the last one
  last_refused : (n : ℕ) (w : Why) (r : IsRefused whole n w) → n ≡ length whole → why_raw (mark (marks (take (n - 1) whole)) r.0) ≡ Some w →
      why_raw (mark (marks all) l) ≡ Some w
  last_refused n w r last e =
      let place : n ≡ length all + 1 = last ∙ snoc_length all l in
      let same : r.0 ≡ l = at_one whole (length all + 1) r.0 l (subst (λ k. At whole k r.0) place r.1) there in
      let ms : marks (take (n - 1) whole) ≡ marks all = ap (λ k. marks (take (k - 1) whole)) place ∙ front_marks in
      ap (λ k. why_raw (mark (marks all) k)) (sym same) ∙ ap (λ m. why_raw (mark m r.0)) (sym ms) ∙ e

  -- no step is refused
  module _ (none : (n : ℕ) (w : Why) → ¬ IsMisused whole n w) where
    said : (o : Option Why) → why_raw (mark (marks all) l) ≡ o → Says whole (against (length whole) o)
    said None e = record {
      none = λ n w r. elim (refused_cases whole n w r) [
        | inl misused ↦ none n w misused
        | inr last ↦ none-some w (sym e ∙ last_refused n w r last.1 last.2)
      ];
    }
    said (Some v) e = record {
      refused = (l, subst (λ k. At whole k l) (sym (snoc_length all l)) there, refuses);
      first = λ m w lt r. elim (refused_cases whole m w r) [
        | inl misused ↦ none m w misused
        | inr last ↦ omega (arith, last.1, lt)
      ];
    }
      where
        before : marks (take (length whole - 1) whole) ≡ marks all
        before = ap (λ k. marks (take (k - 1) whole)) (snoc_length all l) ∙ front_marks

        step_none : (o : Option Why) → misuse (marks all) l.step ≡ o → o ≡ None
        step_none None h = refl
        step_none (Some w) h = absurd (none (length all + 1) w (misused_last all l w h))

        row_only : (step : Option Why) → step ≡ None → (is_last : Bool) → is_last ≡ true → first_of (step ∷ why_last is_last (mark (marks all) l) ∷ []) ≡ Some v
        row_only (Some w) h is_last t = absurd (cc h)
        row_only None h false t = absurd (cc t)
        row_only None h true t = ap (λ o. first_of (o ∷ [])) e

        refuses : line_why (marks (take (length whole - 1) whole)) (length whole == length whole) l ≡ Some v
        refuses = ap (λ ms. line_why ms (length whole == length whole) l) before
            ∙ row_only (misuse (marks all) l.step) (step_none _ refl) (length whole == length whole) (eq-eqb (length whole) (length whole) refl)

  says_snoc : (w : Watch) → Sees whole w → Says whole (verdict w)
  says_snoc w s = go w.refused s.found
    where
      last_is : against (length w.marks) (why_raw (mark_at w.marks (length w.marks))) ≡ against (length whole) (why_raw (mark (marks all) l))
      last_is =
          ap (λ ms. against (length ms) (why_raw (mark_at ms (length ms)))) s.marks_are
          ∙ ap (λ m. against (length (marks whole)) (why_raw m)) (last_mark all l)
          ∙ ap (λ k. against k (why_raw (mark (marks all) l))) (marks_length whole)

      go : (o : Option Refusal) → Found whole o → Says whole (earlier o (against (length w.marks) (why_raw (mark_at w.marks (length w.marks)))))
      go (Some r) found = record {
        refused = refused_misused whole r.line r.why found.0;
        first = λ m v lt refused. elim (refused_cases whole m v refused) [
          | inl misused ↦ found.1 m v lt misused
          | inr last ↦ let within = (At_place whole r.line found.0.0 found.0.1).1 in omega (arith, last.1, lt, within)
        ];
      }
      go None found = subst (Says whole) (sym last_is) (said found (why_raw (mark (marks all) l)) refl)

-- every list is empty or has a last item
ends_in : (all : List Line) → (all ≡ []) ⊎ ((front : List Line) × (l : Line) × (all ≡ front ++ l ∷ []))
ends_in [] = inl refl
ends_in (x ∷ all) = elim (ends_in all) [
  | inl none ↦ inr ([], x, ap (λ ls. x ∷ ls) none)
  | inr last ↦ inr (x ∷ last.0, last.1, ap (λ ls. x ∷ ls) last.2)
]

says_all : (all : List Line) → Says all (verdict (watch_of all))
says_all all = elim (ends_in all) [
  | inl none ↦ subst (λ ls. Says ls (verdict (watch_of ls))) (sym none) (record { none = refused_none })
  | inr last ↦ subst (λ ls. Says ls (verdict (watch_of ls))) (sym last.2)
      (says_snoc last.0 last.1 (watch_of (last.0 ++ last.1 ∷ [])) (sees_all (last.0 ++ last.1 ∷ [])))
]

pub says_none : (all : List Line) → verdict (watch_of all) ≡ None → Guarded all
says_none all e = subst (Says all) e (says_all all)

pub says_some : (all : List Line) (r : Refusal) → verdict (watch_of all) ≡ Some r → FirstUnguarded all r.line r.why
says_some all r e = subst (Says all) e (says_all all)
