-- The uses of a plan are fitting atoms, and their names are names.
use Rattle.std.proofs.Common.{◌≡◌, refl, ℕ, zero, suc, List, [], ◌∷◌, ◌++◌, map, Option, Some, arith}
use Rattle.std.specs.Prelude.{All, IsTrue, codes}
use Rattle.dlk_tree.specs.Names.{is_name}
use Rattle.dlk_tree.specs.Trees.{Tree}
use Rattle.dlk_sequent.specs.declared.sequent.Place.{Place}
use Rattle.dlk_tacsyn.specs.declared.kind.Kind.TheVariants.{AnyPlace, AName, QuotedExtra}
use Rattle.dlk_tacsyn.specs.Rows.{Row, row_of, IsFitting, HasNames}
use Rattle.dlk_derive.specs.Derivative.{OfTerm, variable, of_number, constant, negative, sum, difference, product, power}
use Rattle.dlk_derive.specs.Derivative.{OfFormula, equal, unequal, at_least, greater, at_most, less, both, either, all}
use Rattle.dlk_derive.specs.Derives.{Plans, of_term, of_formula, use_of}
use Rattle.dlk_derive.specs.Plans.{Call, below, plan}

abbrev use_row : Row
use_row = record { wanted = AName ∷ AnyPlace ∷ []; optional = Some QuotedExtra }

row_is : row_of (codes "useAt") ≡ Some use_row
unfolding row_of
row_is = refl

pub use_fits : (byte : ℕ) (place : Place) (call : Call) → IsFitting (use_of byte place call)
use_fits byte place call = record { row = use_row; row_is = row_is; arguments = (tt, (tt, tt)) }

-- the axiom of each is a name
abbrev AreNamed : List Call → Type 0
AreNamed [] = Unit {0}
AreNamed (call ∷ calls) = IsTrue (is_name call.its_axiom) × AreNamed calls

joined : (calls others : List Call) → AreNamed calls → AreNamed others → AreNamed (calls ++ others)
joined [] others h g = g
joined (call ∷ calls) others h g = (h.0, joined calls others h.1 g)

further_down : (way : List ℕ) (calls : List Call) → AreNamed calls → AreNamed (map (below way) calls)
further_down way [] h = tt
further_down way (call ∷ calls) h = (h.0, further_down way calls h.1)

-- those for one kid, and those for two
for_one : (way : List ℕ) (calls : List Call) → AreNamed calls → AreNamed (map (below way) calls ++ [])
for_one way calls h = joined (map (below way) calls) [] (further_down way calls h) tt

for_two : (way other : List ℕ) (calls others : List Call) → AreNamed calls → AreNamed others →
    AreNamed (map (below way) calls ++ (map (below other) others ++ []))
for_two way other calls others h g =
    joined (map (below way) calls) (map (below other) others ++ []) (further_down way calls h) (for_one other others g)

term_named : {e d : Tree} → OfTerm e d → AreNamed (plan e)
term_named (variable x) = (refl, tt)
term_named (of_number k) = (refl, tt)
term_named (constant s) = (refl, tt)
term_named (negative a) = (refl, for_one (0 ∷ []) _ (term_named a))
term_named (sum a b) = (refl, for_two (0 ∷ []) (1 ∷ []) _ _ (term_named a) (term_named b))
term_named (difference a b) = (refl, for_two (0 ∷ []) (1 ∷ []) _ _ (term_named a) (term_named b))
term_named (product a b) = (refl, for_two (0 ∷ 0 ∷ []) (1 ∷ 1 ∷ []) _ _ (term_named a) (term_named b))
term_named (power k n a) = (refl, for_one (1 ∷ []) _ (term_named a))

formula_named : {f d : Tree} → OfFormula f d → AreNamed (plan f)
formula_named (equal a b) = (refl, for_two (0 ∷ []) (1 ∷ []) _ _ (term_named a) (term_named b))
formula_named (unequal a b) = (refl, for_two (0 ∷ []) (1 ∷ []) _ _ (term_named a) (term_named b))
formula_named (at_least a b) = (refl, for_two (0 ∷ []) (1 ∷ []) _ _ (term_named a) (term_named b))
formula_named (greater a b) = (refl, for_two (0 ∷ []) (1 ∷ []) _ _ (term_named a) (term_named b))
formula_named (at_most a b) = (refl, for_two (0 ∷ []) (1 ∷ []) _ _ (term_named a) (term_named b))
formula_named (less a b) = (refl, for_two (0 ∷ []) (1 ∷ []) _ _ (term_named a) (term_named b))
formula_named (both f g) = (refl, for_two (0 ∷ []) (1 ∷ []) _ _ (formula_named f) (formula_named g))
formula_named (either f g) = (refl, for_two (0 ∷ []) (1 ∷ []) _ _ (formula_named f) (formula_named g))
formula_named (all x f) = (refl, for_one (0 ∷ []) _ (formula_named f))

use_names : (byte : ℕ) (place : Place) (call : Call) → IsTrue (is_name call.its_axiom) → HasNames (use_of byte place call)
use_names byte place call h zero d n = h
use_names byte place call h (suc zero) d n = tt
use_names byte place call h (suc (suc i)) d n = absurd (omega arith)

all_names : (byte : ℕ) (place : Place) (calls : List Call) → AreNamed calls → All HasNames (map (use_of byte place) calls)
all_names byte place [] h i d n = absurd (omega arith)
all_names byte place (call ∷ calls) h zero d n = use_names byte place call h.0
all_names byte place (call ∷ calls) h (suc i) d n = all_names byte place calls h.1 i d (omega arith)

pub plan_names : (there : Option Tree) (path : List ℕ) (calls : List Call) → Plans there path calls → (byte : ℕ) (place : Place) →
    All HasNames (map (use_of byte place) calls)
plan_names there path calls (of_term e k d is at h) byte place = all_names byte place _ (further_down path (plan k) (term_named h))
plan_names there path calls (of_formula e k d is at h) byte place = all_names byte place _ (further_down path (plan k) (formula_named h))
