-- Lines without the axioms DI, DG and Dforall, and with nothing below a ( )' of a formula, are guarded.
use Rattle.std.proofs.Common.{◌≡◌, ◌∙◌, refl, sym, ap, ℕ, zero, suc, ◌-◌, List, [], ◌∷◌, ◌++◌, length, take, Bool, true, false, not, Option, None}
use Rattle.std.specs.Prelude.{◌==◌, All, option_and_then, option_map}
use Rattle.std.specs.List.{slice_get}
use Rattle.std.proofs.lemmas.Option.{none-some}
use Rattle.std.proofs.lemmas.List.Elements.{All-head, All-tail, All-nil, All-cons}
use Rattle.dlk_calculus.specs.Sequents.{Sequent}
use Rattle.dlk_calculus.specs.Steps.{Step, Start, UseAxiom, UseRule, Leaf, Apply, Merge, Substitute, Rename}
use Rattle.dlk_calculus.proofs.PlaceLaws.{at_suc, At_All}
use Rattle.dlk_guard.specs.declared.why.Why.TheVariants.{DifferentialContext, Dforall, RawFact}
use Rattle.dlk_guard.specs.declared.raw.Raw.{Raw}
use Rattle.dlk_guard.specs.Instances.{first_of, unless}
use Rattle.dlk_guard.specs.Guarded.{Line, made_of, mark_at, mark_of, mark, marks_behind, marks, misuse, why_raw, why_last, line_why, HasPlainStep}
use Rattle.dlk_guard.specs.Guarded.{IsPlain, Guarded}
use Rattle.dlk_guard.proofs.LastMark.{flat}

-- no row is raw
abbrev NoneRaw : List (Option Raw) → Type 0
NoneRaw ms = (n : ℕ) → mark_at ms n ≡ None

none_more : (ms : List (Option Raw)) (m : Option Raw) → NoneRaw ms → m ≡ None → NoneRaw (ms ++ m ∷ [])
none_more ms m none e zero = refl
none_more ms m none e (suc n) = ap flat (at_suc (ms ++ m ∷ []) n) ∙ go ms (λ i. ap flat (sym (at_suc ms i)) ∙ none (suc i)) n
  where
    go : (xs : List (Option Raw)) → ((i : ℕ) → flat (slice_get xs i) ≡ None) → (i : ℕ) → flat (slice_get (xs ++ m ∷ []) i) ≡ None
    go [] h zero = e
    go [] h (suc i) = refl
    go (x ∷ xs) h zero = h 0
    go (x ∷ xs) h (suc i) = go xs (λ j. h (suc j)) i

none_marked : (ms : List (Option Raw)) (step : Step) (s : Sequent) → NoneRaw ms → HasPlainStep step → mark_of ms step s ≡ None
none_marked ms (Start t) s none plain = refl
none_marked ms (UseAxiom name) s none plain = ap (option_map (λ origin. record { origin = origin; why = RawFact })) plain.0
none_marked ms (UseRule name) s none plain = refl
none_marked ms (Leaf t) s none plain = refl
none_marked ms (Apply fact goal rule) s none plain = refl
none_marked ms (Merge fact goal by) s none plain = refl
none_marked ms (Substitute fact pairs) s none plain = ap (λ m. made_of m s) (none fact)
none_marked ms (Rename fact x y) s none plain = ap (λ m. made_of m s) (none fact)

none_misused : (ms : List (Option Raw)) (step : Step) → NoneRaw ms → HasPlainStep step → misuse ms step ≡ None
none_misused ms (Start t) none plain = refl
none_misused ms (UseAxiom name) none plain = ap (λ b. unless (not b) Dforall) plain.1
none_misused ms (UseRule name) none plain = refl
none_misused ms (Leaf t) none plain = refl
none_misused ms (Apply fact goal rule) none plain = refl
none_misused ms (Merge fact goal by) none plain =
    ap (λ m. first_of (why_raw m ∷ why_raw (mark_at ms by) ∷ [])) (none fact) ∙ ap (λ m. first_of (why_raw m ∷ [])) (none by)
none_misused ms (Substitute fact pairs) none plain = ap (λ b. unless (not b) DifferentialContext) plain
none_misused ms (Rename fact x y) none plain = refl

none_behind : (before : List (Option Raw)) (all : List Line) → NoneRaw before → All IsPlain all → NoneRaw (marks_behind before all)
none_behind before [] none plain = none
none_behind before (l ∷ all) none plain =
    none_behind (before ++ mark before l ∷ []) all
    (none_more before (mark before l) none (none_marked before l.step l.conclusion none (All-head IsPlain l all plain))) (All-tail IsPlain l all plain)

none_at_all : NoneRaw []
none_at_all zero = refl
none_at_all (suc n) = ap (option_and_then (λ mark. mark)) (at_suc {A = Option Raw} [] n)

plain_front : (k : ℕ) (all : List Line) → All IsPlain all → All IsPlain (take k all)
plain_front zero all plain = All-nil IsPlain
plain_front (suc k) [] plain = All-nil IsPlain
plain_front (suc k) (l ∷ all) plain = All-cons IsPlain l (take k all) (All-head IsPlain l all plain) (plain_front k all (All-tail IsPlain l all plain))

-- such a line is not refused
none_refused : (ms : List (Option Raw)) (is_last : Bool) (l : Line) → NoneRaw ms → IsPlain l → line_why ms is_last l ≡ None
none_refused ms is_last l none plain =
    ap (λ o. first_of (o ∷ why_last is_last (mark ms l) ∷ [])) (none_misused ms l.step none plain)
    ∙ ap (λ m. first_of (why_last is_last m ∷ [])) (none_marked ms l.step l.conclusion none plain) ∙ last is_last
  where
    last : (b : Bool) → first_of (why_last b None ∷ []) ≡ None
    last true = refl
    last false = refl

pub plain_guarded : (all : List Line) → All IsPlain all → Guarded all
plain_guarded all plain = record {
  none = λ n w r.
      let ms = marks (take (n - 1) all) in
      none-some w (sym (none_refused ms (n == length all) r.0 (none_behind [] (take (n - 1) all) none_at_all (plain_front (n - 1) all plain))
      (At_All IsPlain all n r.0 plain r.1)) ∙ r.2);
}
