-- What commas, ==> and the end make of the formulas of a sequent.
use Rattle.std.proofs.Common.{◌≡◌, [], Option, Some, None, Ok, Err, refl, ap, subst, ◌∙◌}
use Rattle.dlk_tree.specs.declared.op.Sort.TheVariants.{Formula}
use Rattle.dlk_grammar.specs.Lexemes.{Comma}
use Rattle.dlk_grammar.specs.Phrases.{Phrase, Phrases, none, snoc}
use Rattle.dlk_grammar.specs.Grammar.{Sides, Turned}
use Rattle.dlk_machine.specs.Machine.{◌>>=◌, as_sort, State, Wants, ended}
use Rattle.dlk_machine.specs.Parse.{or_else}
use Rattle.dlk_machine.specs.Sequents.{Side, LeftSide, RightSide, SequentState, Fresh, Reading, inner, sequent_step, sequent_ended}
use Rattle.dlk_reader.specs.declared.stop.LexemeFault.{LexemeFault}
use Rattle.dlk_reader.specs.declared.stop.LexemeFault.TheVariants as fault
use Rattle.dlk_reader.specs.declared.parts.Mode.{Mode}
use Rattle.dlk_reader.specs.declared.parts.Mode.TheVariants as mode
use Rattle.dlk_forms.specs.declared.sides.SidesSoFar.{SidesSoFar}
use Rattle.dlk_reader.specs.Shows.{Agrees}
use Rattle.dlk_reader.specs.Ends.{at_comma}
use Rattle.dlk_forms.specs.Readers.{ShowsBetween, ShowsReading, ShowsSidesAt, finished, both_of}
use Rattle.dlk_reader.proofs.Commas.{behind, comma_behind, ended_is_with}

-- a formula that ended
pub finished_ok : (r : SidesSoFar) (w : Side) (l : Phrases) (x : State) → Agrees {X = Unit {0}} (λ _ m. ShowsBetween r w m) (Ok tt) (finished l x)
    → (t : Phrase) × (ended Formula x ≡ Some t) × ShowsBetween r w (snoc l t)
finished_ok r w l x a = go (ended Formula x) refl a
  where
    go : (o : Option Phrase) → ended Formula x ≡ o → Agrees {X = Unit {0}} (λ _ m. ShowsBetween r w m) (Ok tt) (o >>= λ t. Some (snoc l t))
        → (t : Phrase) × (ended Formula x ≡ Some t) × ShowsBetween r w (snoc l t)
    go (Some t) e a = (t, e, a)
    go None e a = absurd a

pub finished_err : {V W : Type 0} (s : Unit {0} → Phrases → Type 0) (r : V → W → Type 0) (f : LexemeFault) (l : Phrases) (o : Option Phrase)
    (g : Phrase → Option W) → Agrees s (Err f) (o >>= λ t. Some (snoc l t)) → Agrees r (Err f) (o >>= g)
finished_err s r fault.Memory l o g a = tt
finished_err s r fault.Syntax l (Some t) g a = absurd a
finished_err s r fault.Syntax l None g a = tt

-- the next formula begins
pub begins : (r : SidesSoFar) (w : Side) (m : Phrases) → ShowsBetween r w m → ShowsSidesAt r (Some mode.Wants) (Reading w m (Wants []))
begins r w m h = record { mode = mode.Wants; mode_is = refl; reading = record { side = h.side; shows = record { mode = refl; lists = h.lists } } }

-- a formula, which ends at a comma or goes on
module _ (w : Side) (l : Phrases) where
  abbrev pub next_formula : Phrase → Option SequentState
  next_formula t = Some (Reading w (snoc l t) (Wants []))

  abbrev pub in_formula : State → Option SequentState
  in_formula y = Some (Reading w l y)

  pub formula_at_comma : (x : State) → sequent_step (Reading w l x) Comma ≡ (at_comma Formula x >>= behind (as_sort Formula) next_formula in_formula)
  formula_at_comma x =
      ap (λ (o : Option Phrase). or_else o (inner w l x Comma) next_formula) (ended_is_with Formula x) ∙ comma_behind Formula
      (as_sort Formula) next_formula in_formula x

-- where the reader stands in a side
pub inside_shown : (r : SidesSoFar) (m : Option Mode) (k : Mode) (x : SequentState) → m ≡ Some k → ShowsSidesAt r m x
    → (w : Side) × (l : Phrases) × (y : State) × (x ≡ Reading w l y) × ShowsReading r k w l y
inside_shown r m k (Fresh w) e h = absurd (let i = h.mode in cc)
inside_shown r m k (Reading w l y) e h = (
  w,
  l,
  y,
  refl,
  let same : h.mode ≡ k = (let i = h.mode_is in cc) in subst
      (λ (o : Mode). ShowsReading r o w l y) same h.reading,
)

pub between_shown : (r : SidesSoFar) (m : Option Mode) (x : SequentState) → m ≡ None → ShowsSidesAt r m x → (w : Side) × (x ≡ Fresh w) × ShowsBetween r w none
between_shown r m (Fresh w) e h = (w, refl, h.between)
between_shown r m (Reading w l y) e h = absurd (let i = h.mode_is in cc)

-- what both sides are where the right one ends
pub both_ended : (w : Side) (l : Phrases) (x : State) (t : Phrase) → ended Formula x ≡ Some t → sequent_ended (Reading w l x) ≡ both_of w (snoc l t)
both_ended LeftSide l x t e = refl
both_ended (RightSide m) l x t e = rw e refl

pub fresh_ended : (w : Side) → sequent_ended (Fresh w) ≡ both_of w none
fresh_ended LeftSide = refl
fresh_ended (RightSide m) = refl

pub unfinished : {V : Type 0} (s : Unit {0} → Phrases → Type 0) (r : V → Sides → Type 0) (f : LexemeFault) (w : Side) (l : Phrases) (x : State)
    → Agrees s (Err f) (finished l x) → Agrees r (Err f) (sequent_ended (Reading w l x))
unfinished s r fault.Memory w l x a = tt
unfinished s r fault.Syntax LeftSide l x a = tt
unfinished s r fault.Syntax (RightSide m) l x a = finished_err s r fault.Syntax l (ended Formula x) (λ t. Some (Turned m (snoc l t))) a
