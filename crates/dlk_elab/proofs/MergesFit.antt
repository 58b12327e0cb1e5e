-- What atoms for boxes and uses of axioms merge fits.
use Rattle.std.proofs.Common.{◌≡◌, ℕ, Bool, true, List, [], ◌∷◌, length, Some, refl, sym, ap, subst, ◌∙◌, inl, inr}
use Rattle.std.specs.Prelude.{codes, find}
use Rattle.std.specs.List.{All}
use Rattle.std.specs.Str.{bytes_eq}
use Rattle.std.proofs.lemmas.Bool.{cases_Bool, cond-true, cond-false}
use Rattle.std.proofs.lemmas.Option.{none-some, same_Some}
use Rattle.std.proofs.lemmas.Slice.Eq.{bytes_eq-Decides}
use Rattle.dlk_tree.specs.Trees.{Tree}
use Rattle.dlk_calculus.specs.declared.reason.Reason.TheVariants.{NotEqual}
use Rattle.dlk_calculus.specs.Axioms.{Axiom, axioms, axiom_named}
use Rattle.dlk_calculus.specs.Notation.{box}
use Rattle.dlk_calculus.specs.Pairs.{Extra}
use Rattle.dlk_calculus.specs.Places.{At}
use Rattle.dlk_calculus.specs.Provables.{Provable, HasFormulas}
use Rattle.dlk_calculus.specs.Sequents.{Sequent, IsSequent}
use Rattle.dlk_calculus.specs.Steps.{Step, IsGoal}
use Rattle.dlk_calculus.proofs.PlaceLaws.{At_All}
use Rattle.dlk_kernel.specs.Taken.{Takes}
use Rattle.dlk_tacsyn.specs.Tactics.{Atom}
use Rattle.dlk_uses.specs.Applying.{Applies}
use Rattle.dlk_uses.specs.Taking.{FirstFault}
use Rattle.dlk_uses.specs.Uses.{Use, Spot, instance, FinishesBehind, generalizing, cutting_box}
use Rattle.dlk_elab.specs.Atoms.{FailWhy, AtStep, Asked, Steps, Instance, Refused, Asks, use_axiom, AtomFault, asks_none, not_taken, not_instantiated}
use Rattle.dlk_elab.specs.Atoms.{not_used, IsByAxioms}
use Rattle.dlk_elab.proofs.AskLaws.{AsksPlainly, AsksBox, by_generalize, by_cut_box, by_no_box, by_not_on_the_right, AsksUse, by_use_axiom}
use Rattle.dlk_elab.proofs.AskLaws.{by_no_axiom, by_not_there, by_no_match, plainly, for_box, for_use, view, plain_other}
use Rattle.dlk_elab.proofs.AtomLaws.{same_instance}

found_holds : (p : Axiom → Bool) (xs : List Axiom) (a : Axiom) → find p xs ≡ Some a → p a ≡ true
found_holds p [] a e = absurd (none-some a e)
found_holds p (x ∷ xs) a e =
    elim (cases_Bool (p x)) [
      | inl t ↦ subst (λ (y : Axiom). p y ≡ true) (same_Some x a (sym (cond-true (p x) (Some x) (find p xs) t) ∙ e)) t
      | inr f ↦ found_holds p xs a (sym (cond-false (p x) (Some x) (find p xs) f) ∙ e)
    ]

-- an axiom is found by its own name
pub named_itself : (name : List ℕ) (a : Axiom) → axiom_named name ≡ Some a → axiom_named a.name ≡ Some a
named_itself name a e =
    let same : a.name ≡ name = (bytes_eq-Decides a.name name).0 (found_holds (λ (x : Axiom). bytes_eq x.name name) axioms a e) in
    ap axiom_named same ∙ e

-- a use, with what it is on
record Case : Type 0 where
  used : Use
  extra : Extra
  e : Tree

record Applied (rows : List Provable) (fact goal : ℕ) (s : Sequent) (c : Case) : Type 0 where
  applies : Applies rows (record { fact = fact; goal = goal; s = s }) c.used c.e c.extra
  named : axiom_named c.used.its_axiom.name ≡ Some c.used.its_axiom

module _ (rows : List Provable) (fact goal : ℕ) (s : Sequent) (atom : Atom) (is_goal : IsGoal rows fact goal s) (formulas : IsSequent s) where
  applied : (u : Use) (x : Extra) (e : Tree) (asked : Asked) → Asks (length rows) fact goal s atom asked → asked ≡ Instance u x e →
      Applied rows fact goal s (record { used = u; extra = x; e = e })
  applied u x e _ (use_axiom v f t y is there may match) q =
      let p = same_instance v u y x f e q in
      let it : Applied rows fact goal s (record { used = v; extra = y; e = f }) = record {
        applies = record { goal = is_goal; formulas = formulas; stands = there.formula; may = may; there = t; inside = there.inside; matches = match };
        named = named_itself is.name v.its_axiom is.is_axiom;
      } in
      subst (Applied rows fact goal s) (λ i. record { used = p.0 i; extra = p.1 i; e = p.2 i }) it
  applied u x e _ asks q = absurd (cc q)

  plain_not : IsByAxioms atom.name → (x : Asked) → AsksPlainly (length rows) fact goal s atom x → ⊥
  plain_not names x a = elim names [
    | inl e ↦ plain_other (length rows) fact goal s atom (codes "G") refl refl refl refl refl x a e
    | inr (inl e) ↦ plain_other (length rows) fact goal s atom (codes "boxCut") refl refl refl refl refl x a e
    | inr (inr (inl e)) ↦ plain_other (length rows) fact goal s atom (codes "useAt") refl refl refl refl refl x a e
    | inr (inr (inr e)) ↦ plain_other (length rows) fact goal s atom (codes "useBack") refl refl refl refl refl x a e
  ]

  box_refused : (x : Asked) → AsksBox (length rows) fact goal s atom x → x ≡ Refused (AtStep NotEqual) → ⊥
  box_refused _ (by_generalize j b f n are here) e = cc
  box_refused _ (by_cut_box j b f h n are here) e = cc
  box_refused _ (by_no_box p j f is there other) e = cc
  box_refused _ (by_not_on_the_right p is none) e = cc

  use_refused : (x : Asked) → AsksUse (length rows) fact goal s atom x → x ≡ Refused (AtStep NotEqual) → ⊥
  use_refused _ (by_use_axiom u f t extra is there may match) e = cc
  use_refused _ (by_no_axiom d n p pa g names none) e = cc
  use_refused _ (by_not_there u is none) e = cc
  use_refused _ (by_no_match u f t is there none) e = cc

  use_no_steps : (x : Asked) (steps : List Step) → AsksUse (length rows) fact goal s atom x → x ≡ Steps steps → ⊥
  use_no_steps _ steps (by_use_axiom u f t extra is there may match) e = cc
  use_no_steps _ steps (by_no_axiom d n p pa g names none) e = cc
  use_no_steps _ steps (by_not_there u is none) e = cc
  use_no_steps _ steps (by_no_match u f t is there none) e = cc

  module _ (generalizing_fits : (j : ℕ) (b f : Tree) → At s.succ j (box b f) →
      FirstFault rows (generalizing (length rows) (record { fact = fact; goal = goal; s = s }) j b f) NotEqual → ⊥)
      (cutting_fits : (j : ℕ) (b f h : Tree) → At s.succ j (box b f) →
      FirstFault rows (cutting_box (length rows) (record { fact = fact; goal = goal; s = s }) j b f h) NotEqual → ⊥) where
    box_fits : (x : Asked) (steps : List Step) → AsksBox (length rows) fact goal s atom x → x ≡ Steps steps → FirstFault rows steps NotEqual → ⊥
    box_fits _ steps (by_generalize j b f n are here) e fault =
        let same : generalizing (length rows) (record { fact = fact; goal = goal; s = s }) j b f ≡ steps = cc in
        generalizing_fits j b f here (subst (λ xs. FirstFault rows xs NotEqual) (sym same) fault)
    box_fits _ steps (by_cut_box j b f h n are here) e fault =
        let same : cutting_box (length rows) (record { fact = fact; goal = goal; s = s }) j b f h ≡ steps = cc in
        cutting_fits j b f h here (subst (λ xs. FirstFault rows xs NotEqual) (sym same) fault)
    box_fits _ steps (by_no_box p j f is there other) e fault = cc
    box_fits _ steps (by_not_on_the_right p is none) e fault = cc

pub goal_formulas : (rows : List Provable) (fact goal : ℕ) (s : Sequent) → All HasFormulas rows → IsGoal rows fact goal s → IsSequent s
goal_formulas rows fact goal s all g =
    let row : HasFormulas g.0 = At_All HasFormulas rows fact g.0 all g.1 in At_All IsSequent g.0.goals goal s row.goals g.2

module _ (instance_fits : (rows : List Provable) (n : ℕ) (name : List ℕ) (extra : Extra) → FirstFault rows (instance n name extra) NotEqual → ⊥)
    (behind_fits : (rows between : List Provable) (name : List ℕ) (spot : Spot) (used : Use) (e : Tree) (extra : Extra) (rest : List Step) →
    Applies rows spot used e extra → axiom_named name ≡ Some used.its_axiom → Takes rows (instance (length rows) name extra) between →
    FinishesBehind between spot used e rest → FirstFault between rest NotEqual → ⊥)
    (generalizing_fits : (rows : List Provable) (spot : Spot) (j : ℕ) (b f : Tree) → IsGoal rows spot.fact spot.goal spot.s → At spot.s.succ j (box b f) →
    FirstFault rows (generalizing (length rows) spot j b f) NotEqual → ⊥)
    (cutting_fits : (rows : List Provable) (spot : Spot) (j : ℕ) (b f h : Tree) → IsGoal rows spot.fact spot.goal spot.s → At spot.s.succ j (box b f) →
    FirstFault rows (cutting_box (length rows) spot j b f h) NotEqual → ⊥) where
  fits : (rows : List Provable) (fact goal : ℕ) (atom : Atom) (why : FailWhy) → All HasFormulas rows → IsByAxioms atom.name →
      AtomFault rows fact goal atom why → why ≡ AtStep NotEqual → ⊥
  fits rows fact goal atom _ all names (asks_none {why} s p asks) e =
      elim (view (length rows) fact goal s atom (Refused why) asks) [
        | plainly a ↦ plain_not rows fact goal s atom p (goal_formulas rows fact goal s all p) names (Refused why) a
        | for_box a ↦ box_refused rows fact goal s atom p (goal_formulas rows fact goal s all p) (Refused why) a (ap Refused e)
        | for_use a ↦ use_refused rows fact goal s atom p (goal_formulas rows fact goal s all p) (Refused why) a (ap Refused e)
      ]
  fits rows fact goal atom _ all names (not_taken {why} s steps p asks h) e =
      let same : why ≡ NotEqual = cc in
      elim (view (length rows) fact goal s atom (Steps steps) asks) [
        | plainly a ↦ plain_not rows fact goal s atom p (goal_formulas rows fact goal s all p) names (Steps steps) a
        | for_box a ↦ box_fits rows fact goal s atom p (goal_formulas rows fact goal s all p)
            (λ j b f here. generalizing_fits rows (record { fact = fact; goal = goal; s = s }) j b f p here)
            (λ j b f k here. cutting_fits rows (record { fact = fact; goal = goal; s = s }) j b f k p here) (Steps steps) steps a refl
            (subst (FirstFault rows steps) same h)
        | for_use a ↦ use_no_steps rows fact goal s atom p (goal_formulas rows fact goal s all p) (Steps steps) steps a refl
      ]
  fits rows fact goal atom _ all names (not_instantiated {why} s used extra f p asks h) e =
      let same : why ≡ NotEqual = cc in
      instance_fits rows (length rows) used.its_axiom.name extra (subst (FirstFault rows (instance (length rows) used.its_axiom.name extra)) same h)
  fits rows fact goal atom _ all names (not_used {why} s used extra f between rest p asks first behind h) e =
      let same : why ≡ NotEqual = cc in
      let a = applied rows fact goal s atom p (goal_formulas rows fact goal s all p) used extra f (Instance used extra f) asks refl in
      behind_fits rows between used.its_axiom.name (record { fact = fact; goal = goal; s = s }) used f extra rest a.applies a.named first behind
      (subst (FirstFault between rest) same h)

  pub merges_fit : (rows : List Provable) (fact goal : ℕ) (atom : Atom) → All HasFormulas rows → IsByAxioms atom.name →
      AtomFault rows fact goal atom (AtStep NotEqual) → ⊥
  merges_fit rows fact goal atom all names fault = fits rows fact goal atom (AtStep NotEqual) all names fault refl
