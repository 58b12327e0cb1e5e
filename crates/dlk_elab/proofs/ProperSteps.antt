-- Steps that use an axiom are proper where what they put in the place of symbols is well made.
use Rattle.std.proofs.Common.{ℕ, ◌+◌, List, [], ◌∷◌}
use Rattle.std.specs.List.{All}
use Rattle.std.proofs.lemmas.List.Elements.{All-nil, All-cons}
use Rattle.dlk_tree.specs.declared.op.Op.TheVariants.{Dot, Hole}
use Rattle.dlk_tree.specs.Trees.{Tree, WellMade}
use Rattle.dlk_calculus.specs.Notation.{leaf}
use Rattle.dlk_calculus.specs.Pairs.{Pair, AreWellMade}
use Rattle.dlk_calculus.specs.Paths.{put_at}
use Rattle.dlk_calculus.specs.Rules.{imply}
use Rattle.dlk_calculus.specs.Steps.{Step, IsProper}
use Rattle.dlk_sequent.specs.declared.sequent.Place.{Place}
use Rattle.dlk_sequent.specs.declared.sequent.Place.TheVariants.{Ante, Succ}
use Rattle.dlk_uses.specs.Uses.{Direction, Forwards, Backwards, Spot, ◌~>◌, program_a, any_p, any_q, any_f, any_g, p_of_one, context_c, exchange}
use Rattle.dlk_uses.specs.Uses.{by_equivalence, by_equation, by_conditional_equation, by_conditional_equivalence, by_implication, by_fact}
use Rattle.dlk_uses.specs.Uses.{generalizing, cutting_box}

-- each step is proper, one by one
abbrev pub EachProper : List Step → Type 0
EachProper [] = Unit {0}
EachProper (step ∷ steps) = IsProper step × EachProper steps

pub all_proper : (steps : List Step) → EachProper steps → All IsProper steps
all_proper [] h = All-nil IsProper
all_proper (step ∷ steps) h = All-cons IsProper step steps h.0 (all_proper steps h.1)

-- and so of replacements
abbrev EachMade : List Pair → Type 0
EachMade [] = Unit {0}
EachMade (p ∷ pairs) = WellMade p.by × EachMade pairs

abbrev pub IsMade : Pair → Type 0
IsMade p = WellMade p.by

are_made : (pairs : List Pair) → EachMade pairs → AreWellMade pairs
are_made [] h = All-nil IsMade
are_made (p ∷ pairs) h = All-cons IsMade p pairs h.0 (are_made pairs h.1)

exchange_proper : (by rows : ℕ) (spot : Spot) (place : Place) (direction : Direction) (new : Tree) → EachProper (exchange by rows spot place direction new)
exchange_proper by rows spot (Succ j) Forwards new = (tt, (tt, (tt, (tt, (tt, tt)))))
exchange_proper by rows spot (Succ j) Backwards new = (tt, (tt, (tt, (tt, tt))))
exchange_proper by rows spot (Ante i) Forwards new = (tt, (tt, (tt, (tt, tt))))
exchange_proper by rows spot (Ante i) Backwards new = (tt, (tt, (tt, (tt, (tt, tt)))))

pub equivalence_proper : (now : ℕ) (spot : Spot) (place : Place) (direction : Direction) (e : Tree) (path : List ℕ) (l r : Tree) →
    WellMade l → WellMade r → WellMade (put_at e path (leaf Hole)) → EachProper (by_equivalence now spot place direction e path l r)
equivalence_proper now spot place Forwards e path l r left right context = (
  tt,
  (
    are_made ((any_p ~> l) ∷ (any_q ~> r) ∷ (context_c ~> put_at e path (leaf Hole)) ∷ []) (left, (right, (context, tt))),
    (tt, exchange_proper (now + 3) (now + 3) spot place Forwards (put_at e path r)),
  ),
)
equivalence_proper now spot place Backwards e path l r left right context = (
  tt,
  (
    are_made ((any_p ~> l) ∷ (any_q ~> r) ∷ (context_c ~> put_at e path (leaf Hole)) ∷ []) (left, (right, (context, tt))),
    (tt, exchange_proper (now + 3) (now + 3) spot place Backwards (put_at e path l)),
  ),
)

-- what is put at both places of a use of an equation is well made
pub record EquationMade (e : Tree) (outer inner : List ℕ) (d l r : Tree) : Type 0 where
  pub left : WellMade l
  pub right : WellMade r
  pub dot : WellMade (put_at d inner (leaf (Dot 0)))
  pub left_there : WellMade (put_at d inner l)
  pub right_there : WellMade (put_at d inner r)
  pub context : WellMade (put_at e outer (leaf Hole))

pub equation_proper : (now : ℕ) (spot : Spot) (place : Place) (direction : Direction) (e : Tree) (outer inner : List ℕ) (d l r : Tree) →
    EquationMade e outer inner d l r → EachProper (by_equation now spot place direction e outer inner d l r)
equation_proper now spot place direction e outer inner d l r m = (
  tt,
  (
    are_made ((any_f ~> l) ∷ (any_g ~> r) ∷ []) (m.left, (m.right, tt)),
    (
      tt,
      (
        are_made ((p_of_one ~> put_at d inner (leaf (Dot 0))) ∷ []) (m.dot, tt),
        equivalence_proper (now + 4) spot place direction e outer (put_at d inner l) (put_at d inner r) m.left_there m.right_there m.context,
      ),
    ),
  ),
)

pub conditional_equation_proper : (now : ℕ) (spot : Spot) (place : Place) (direction : Direction) (e : Tree) (outer inner : List ℕ) (d b l r : Tree) →
    EquationMade e outer inner d l r → EachProper (by_conditional_equation now spot place direction e outer inner d b l r)
conditional_equation_proper now spot place direction e outer inner d b l r m =
    (tt, (tt, (tt, (tt, (tt, equation_proper (now + 5) spot place direction e outer inner d l r m)))))

pub conditional_equivalence_proper : (now : ℕ) (spot : Spot) (j : ℕ) (b l r : Tree) → EachProper (by_conditional_equivalence now spot j b l r)
conditional_equivalence_proper now spot j b l r = (tt, (tt, (tt, (tt, (tt, (tt, (tt, (tt, (tt, (tt, (tt, (tt, tt))))))))))))

pub implication_proper : (now : ℕ) (spot : Spot) (place : Place) (b h : Tree) → EachProper (by_implication now spot place b h)
implication_proper now spot (Succ j) b h = (tt, (tt, (tt, tt)))
implication_proper now spot (Ante i) b h = (tt, (tt, (tt, tt)))

pub fact_proper : (now : ℕ) (spot : Spot) (j : ℕ) → EachProper (by_fact now spot j)
fact_proper now spot j = (tt, (tt, tt))

pub generalizing_proper : (now : ℕ) (spot : Spot) (j : ℕ) (b f : Tree) → WellMade b → WellMade f → EachProper (generalizing now spot j b f)
generalizing_proper now spot j b f program formula =
    (tt, (are_made ((program_a ~> b) ∷ (any_p ~> f) ∷ []) (program, (formula, tt)), (tt, (tt, tt))))

pub cutting_proper : (now : ℕ) (spot : Spot) (j : ℕ) (b f h : Tree) → WellMade b → WellMade f → WellMade h → WellMade (imply h f) →
    EachProper (cutting_box now spot j b f h)
cutting_proper now spot j b f h program formula cut implied = (
  tt,
  (
    are_made ((program_a ~> b) ∷ (any_p ~> h) ∷ (any_q ~> f) ∷ []) (program, (cut, (formula, tt))),
    (
      tt,
      (
        are_made ((program_a ~> b) ∷ (any_p ~> imply h f) ∷ []) (program, (implied, tt)),
        (tt, (tt, (tt, (tt, (tt, (tt, tt)))))),
      ),
    ),
  ),
)
