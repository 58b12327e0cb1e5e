-- Steps that are taken may be written by the numbers of their nodes.
use Rattle.std.proofs.Common.{◌≤◌, List, [], ◌∷◌, ◌++◌, length}
use Rattle.std.specs.Prelude.{All}
use Rattle.std.proofs.lemmas.List.Elements.{All-nil, All-push, All-head, All-tail}
use Rattle.dlk_tree.specs.Trees.{Tree}
use Rattle.dlk_calculus.specs.Limited.{IsLimited}
use Rattle.dlk_calculus.specs.Pairs.{Pair}
use Rattle.dlk_calculus.specs.Provables.{Provable}
use Rattle.dlk_calculus.specs.Rules.{Arguments, OnePlace, TwoPlaces, PlaceAndFormula, OneFormula, PlaceAndName, arguments_of}
use Rattle.dlk_calculus.specs.Sequents.{IsFormula}
use Rattle.dlk_calculus.specs.Steps.{Step, Start, UseAxiom, UseRule, Leaf, Apply, Merge, Substitute, Rename}
use Rattle.dlk_calculus.proofs.LimitLaws.{step_limited}
use Rattle.dlk_calculus.proofs.PlaceLaws.{All-front, All-between}
use Rattle.dlk_kernel.specs.Taken.{Takes, none, more}
use Rattle.dlk_lines.specs.Laws.{AreRead, IsRead}
use Rattle.dlk_lines.specs.Spelled.{ByNodes}
use Rattle.dlk_lines.specs.Written.{formulas_in, trees_of, replacements_in}
use Rattle.dlk_readback.specs.Readable.{IsWithinLimits, IsReadablePair}
use Rattle.dlk_termtext.specs.Written.{AreWritable as AreWrittenInFull, IsWritable as IsWrittenInFull}
use Rattle.dlk_nodes.specs.Follow.{AreThere, EachGood}
use Rattle.dlk_nodes.specs.TermFiles.{IsWritable, AreWritable}
use Rattle.dlk_nodes.proofs.PartsRead.{sequent_read, formula_read, pairs_read}
use Rattle.dlk_replay.specs.Symbols.{HasSymbols}
use Rattle.dlk_recorder.proofs.Writable.{taken_writable}

-- ---- the trees of a step

good_both : (xs ys : List Tree) → EachGood xs → EachGood ys → EachGood (xs ++ ys)
good_both [] ys a b = b
good_both (x ∷ xs) ys a b = (a.0, good_both xs ys a.1 b)

side_good : (ts : List Tree) → All IsFormula ts → All IsWithinLimits ts → EachGood ts
side_good [] a b = tt
side_good (t ∷ ts) a b =
    let is = All-head IsFormula t ts a in
    let l = All-head IsWithinLimits t ts b in (
      record { well_made = is.well_made; small = l.small; shallow = l.shallow },
      side_good ts (All-tail IsFormula t ts a) (All-tail IsWithinLimits t ts b),
    )

pairs_good : (ps : List Pair) → All IsReadablePair ps → EachGood (replacements_in ps)
pairs_good [] a = tt
pairs_good (p ∷ ps) a =
    let r = All-head IsReadablePair p ps a in
    (record { well_made = r.well_made; small = r.limits.small; shallow = r.limits.shallow }, pairs_good ps (All-tail IsReadablePair p ps a))

formulas_good : (a : Arguments) → AreWrittenInFull a → EachGood (formulas_in a)
formulas_good (OnePlace i) w = tt
formulas_good (TwoPlaces i k) w = tt
formulas_good (PlaceAndFormula i h) w =
    (record { well_made = w.1.is_formula.well_made; small = w.1.limits.small; shallow = w.1.limits.shallow }, tt)
formulas_good (OneFormula h) w = (record { well_made = w.is_formula.well_made; small = w.limits.small; shallow = w.limits.shallow }, tt)
formulas_good (PlaceAndName i y) w = tt

trees_good : (step : Step) → IsWrittenInFull step → EachGood (trees_of step)
trees_good (Start s) w = good_both s.ante s.succ (side_good s.ante w.is_sequent.ante w.ante) (side_good s.succ w.is_sequent.succ w.succ)
trees_good (UseAxiom name) w = tt
trees_good (UseRule name) w = tt
trees_good (Leaf s) w = good_both s.ante s.succ (side_good s.ante w.is_sequent.ante w.ante) (side_good s.succ w.is_sequent.succ w.succ)
trees_good (Apply fact goal rule) w = formulas_good (arguments_of rule) w.2
trees_good (Merge fact goal by) w = tt
trees_good (Substitute fact pairs) w = pairs_good pairs w.1
trees_good (Rename fact x y) w = tt

-- ---- its line

module _ (nodes : List Tree) (few : length nodes ≤ 999999999) where
  arguments_read : (a : Arguments) → AreThere nodes (formulas_in a) → AreWrittenInFull a → AreRead (ByNodes nodes) a
  arguments_read (OnePlace i) h w = w
  arguments_read (TwoPlaces i k) h w = w
  arguments_read (PlaceAndFormula i f) h w = (w.0, formula_read nodes few f h.0 w.1.is_formula.sort_is)
  arguments_read (OneFormula f) h w = formula_read nodes few f h.0 w.is_formula.sort_is
  arguments_read (PlaceAndName i y) h w = w

  step_read : (step : Step) → AreThere nodes (trees_of step) → IsWrittenInFull step → IsRead (ByNodes nodes) step
  step_read (Start s) h w =
      sequent_read nodes few s h (λ k d lt. (w.is_sequent.ante k d lt).sort_is) (λ k d lt. (w.is_sequent.succ k d lt).sort_is)
  step_read (UseAxiom name) h w = w
  step_read (UseRule name) h w = w
  step_read (Leaf s) h w =
      sequent_read nodes few s h (λ k d lt. (w.is_sequent.ante k d lt).sort_is) (λ k d lt. (w.is_sequent.succ k d lt).sort_is)
  step_read (Apply fact goal rule) h w = (w.0, w.1, arguments_read (arguments_of rule) h w.2)
  step_read (Merge fact goal by) h w = w
  step_read (Substitute fact pairs) h w =
      (w.0, pairs_read nodes few pairs h (λ k d lt. (w.1 k d lt).is_symbol) (λ k d lt. (w.1 k d lt).is_replacement))
  step_read (Rename fact x y) h w = w

step_writable : (step : Step) → IsWrittenInFull step → IsWritable step
step_writable step w = record { trees = trees_good step w; line = λ nodes few there. step_read nodes few step there w }

-- ---- several steps

writable_push : (steps : List Step) (step : Step) → AreWritable steps → IsWritable step → AreWritable (steps ++ step ∷ [])
writable_push [] step all last = (last, tt)
writable_push (first ∷ steps) step all last = (all.0, writable_push steps step all.1 last)

all_taken : (steps : List Step) (rows : List Provable) → Takes [] steps rows → All HasSymbols steps → All IsLimited rows × AreWritable steps
all_taken _ _ none symbols = (All-nil IsLimited, tt)
all_taken _ _ (more {steps} {mid} {step} {p} before given) symbols =
    let w = all_taken steps mid before (All-front HasSymbols steps (step ∷ []) symbols) in
    let its = taken_writable mid step p w.0 (All-between HasSymbols steps [] step symbols) given in
    (All-push IsLimited mid p w.0 (step_limited mid step p w.0 given), writable_push steps step w.1 (step_writable step its))

-- the law
pub taken_steps_writable : (steps : List Step) (rows : List Provable) → Takes [] steps rows → All HasSymbols steps → AreWritable steps
taken_steps_writable steps rows taken symbols = (all_taken steps rows taken symbols).1
