-- What the steps of each form of an axiom replace are symbols, and what those for a box do.
use Rattle.std.proofs.Common.{◌≡◌, ℕ, ◌+◌, Bool, true, false, cond, List, [], ◌∷◌, length, refl, subst}
use Rattle.std.specs.Prelude.{codes}
use Rattle.std.specs.List.{All}
use Rattle.std.specs.Str.{bytes_eq}
use Rattle.std.proofs.lemmas.List.Elements.{All-nil, All-cons, All-append}
use Rattle.dlk_tree.specs.declared.op.Op.TheVariants.{Dot, Hole, Eq}
use Rattle.dlk_tree.specs.Trees.{Tree}
use Rattle.dlk_calculus.specs.Notation.{leaf, two, box}
use Rattle.dlk_calculus.specs.Pairs.{Pair, Extra}
use Rattle.dlk_calculus.specs.Paths.{put_at}
use Rattle.dlk_calculus.specs.Rules.{Rule, Close, Cut, CutL, CutR, CoHideR, ImplyL, ImplyR, EquivifyR, CommuteEquivR, imply, equiv}
use Rattle.dlk_calculus.specs.Sequents.{Sequent, alone_right}
use Rattle.dlk_calculus.specs.Steps.{Step, Start, UseAxiom, UseRule, Leaf, Apply, Merge, Substitute, Rename}
use Rattle.dlk_sequent.specs.declared.sequent.Place.{Place}
use Rattle.dlk_sequent.specs.declared.sequent.Place.TheVariants.{Ante, Succ}
use Rattle.dlk_machine.specs.Symbols.{ReplacesSymbol}
use Rattle.dlk_uses.specs.Uses.{Direction, Forwards, Backwards, Use, Spot, renaming, substituting, instance, in_turn, closed_by}
use Rattle.dlk_uses.specs.Uses.{program_a, any_p, any_q, any_f, any_g, p_of_one, context_c, ◌~>◌}
use Rattle.dlk_uses.specs.Uses.{exchange, by_equivalence, by_equation, by_conditional_equation, by_conditional_equivalence, by_implication}
use Rattle.dlk_uses.specs.Uses.{Finishes, equivalence, equation, conditional_equivalence, conditional_equation, implication, generalizing, cutting_box}
use Rattle.dlk_uses.specs.Uses.{fact as by_its_fact}
use Rattle.dlk_elab.specs.Symbols.{ReplacesSymbols}

-- ---- steps that substitute nothing

pub start_symbols : (s : Sequent) → ReplacesSymbols (Start s)
start_symbols s = λ fact pairs e. absurd (cc e)

pub axiom_symbols : (name : List ℕ) → ReplacesSymbols (UseAxiom name)
axiom_symbols name = λ fact pairs e. absurd (cc e)

pub rule_symbols : (name : List ℕ) → ReplacesSymbols (UseRule name)
rule_symbols name = λ fact pairs e. absurd (cc e)

pub leaf_symbols : (s : Sequent) → ReplacesSymbols (Leaf s)
leaf_symbols s = λ fact pairs e. absurd (cc e)

pub apply_symbols : (fact goal : ℕ) (rule : Rule) → ReplacesSymbols (Apply fact goal rule)
apply_symbols fact goal rule = λ other pairs e. absurd (cc e)

pub merge_symbols : (fact goal by : ℕ) → ReplacesSymbols (Merge fact goal by)
merge_symbols fact goal by = λ other pairs e. absurd (cc e)

rename_symbols : (fact : ℕ) (x y : List ℕ) → ReplacesSymbols (Rename fact x y)
rename_symbols fact x y = λ other pairs e. absurd (cc e)

-- ---- and those that substitute

same_pairs : (fact other : ℕ) (pairs more : List Pair) → Substitute fact pairs ≡ Substitute other more → pairs ≡ more
same_pairs fact other pairs more e = cc

substitute_symbols : (fact : ℕ) (pairs : List Pair) → All ReplacesSymbol pairs → ReplacesSymbols (Substitute fact pairs)
substitute_symbols fact pairs h = λ other more e. subst (All ReplacesSymbol) (same_pairs fact other pairs more e) h

-- one pair, two and three
one_pair : (p : Pair) → ReplacesSymbol p → All ReplacesSymbol (p ∷ [])
one_pair p h = All-cons ReplacesSymbol p [] h (All-nil ReplacesSymbol)

two_pairs : (p q : Pair) → ReplacesSymbol p → ReplacesSymbol q → All ReplacesSymbol (p ∷ q ∷ [])
two_pairs p q h k = All-cons ReplacesSymbol p (q ∷ []) h (one_pair q k)

three_pairs : (p q r : Pair) → ReplacesSymbol p → ReplacesSymbol q → ReplacesSymbol r → All ReplacesSymbol (p ∷ q ∷ r ∷ [])
three_pairs p q r h k l = All-cons ReplacesSymbol p (q ∷ r ∷ []) h (two_pairs q r k l)

-- ---- lists of steps

-- a step before others
pub added : (step : Step) (steps : List Step) → ReplacesSymbols step → All ReplacesSymbols steps → All ReplacesSymbols (step ∷ steps)
added = All-cons ReplacesSymbols

pub no_steps : All ReplacesSymbols []
no_steps = All-nil ReplacesSymbols

in_turn_symbols : (fact rows : ℕ) (rules : List (ℕ × Rule)) → All ReplacesSymbols (in_turn fact rows rules)
in_turn_symbols fact rows [] = no_steps
in_turn_symbols fact rows (r ∷ rules) =
    added (Apply fact r.0 r.1) (in_turn (rows + 1) (rows + 1) rules) (apply_symbols fact r.0 r.1) (in_turn_symbols (rows + 1) (rows + 1) rules)

closed_symbols : (by fact rows : ℕ) (rules : List (ℕ × Rule)) (goal : ℕ) → All ReplacesSymbols (closed_by by fact rows rules goal)
closed_symbols by fact rows rules goal =
    let last = Merge (rows + length rules) goal by in
    All-append ReplacesSymbols (in_turn fact rows rules) (last ∷ []) (in_turn_symbols fact rows rules)
    (added last [] (merge_symbols (rows + length rules) goal by) no_steps)

renaming_symbols : (rows : ℕ) (renames : List (List ℕ × List ℕ)) → All ReplacesSymbols (renaming rows renames)
renaming_symbols rows [] = no_steps
renaming_symbols rows (r ∷ renames) =
    go (bytes_eq r.0 r.1) (renaming_symbols rows renames)
    (added (Rename rows r.0 r.1) (renaming (rows + 1) renames) (rename_symbols rows r.0 r.1) (renaming_symbols (rows + 1) renames))
  where
    go : (b : Bool) → All ReplacesSymbols (renaming rows renames) → All ReplacesSymbols (Rename rows r.0 r.1 ∷ renaming (rows + 1) renames) →
        All ReplacesSymbols (cond b (renaming rows renames) (Rename rows r.0 r.1 ∷ renaming (rows + 1) renames))
    go true h k = h
    go false h k = k

substituting_symbols : (rows : ℕ) (pairs : List Pair) → All ReplacesSymbol pairs → All ReplacesSymbols (substituting rows pairs)
substituting_symbols rows [] h = no_steps
substituting_symbols rows (p ∷ pairs) h = added (Substitute rows (p ∷ pairs)) [] (substitute_symbols rows (p ∷ pairs) h) no_steps

pub instance_symbols : (rows : ℕ) (name : List ℕ) (extra : Extra) → All ReplacesSymbol extra.pairs → All ReplacesSymbols (instance rows name extra)
instance_symbols rows name extra h =
    let renamed = renaming (rows + 1) extra.renames in
    let named = UseAxiom name ∷ renamed in
    All-append ReplacesSymbols named (substituting (rows + length named) extra.pairs)
    (added (UseAxiom name) renamed (axiom_symbols name) (renaming_symbols (rows + 1) extra.renames))
    (substituting_symbols (rows + length named) extra.pairs h)

-- ---- forms

exchange_symbols : (by rows : ℕ) (spot : Spot) (place : Place) (direction : Direction) (new : Tree) →
    All ReplacesSymbols (exchange by rows spot place direction new)
exchange_symbols by rows spot (Succ j) Forwards new =
    closed_symbols by spot.fact rows (
    (spot.goal, CutR j new) ∷ (spot.goal + 1, CoHideR j) ∷ (spot.goal + 1, EquivifyR 1) ∷ (spot.goal + 1, CommuteEquivR 1) ∷ []
    ) (spot.goal + 1)
exchange_symbols by rows spot (Succ j) Backwards new =
    closed_symbols by spot.fact rows (
    (spot.goal, CutR j new) ∷ (spot.goal + 1, CoHideR j) ∷ (spot.goal + 1, EquivifyR 1) ∷ []
    ) (spot.goal + 1)
exchange_symbols by rows spot (Ante i) Forwards new =
    closed_symbols by spot.fact rows (
    (spot.goal, CutL i new) ∷ (spot.goal + 1, CoHideR (length spot.s.succ + 1)) ∷ (spot.goal + 1, EquivifyR 1) ∷ []
    ) (spot.goal + 1)
exchange_symbols by rows spot (Ante i) Backwards new =
    closed_symbols by spot.fact rows (
    (spot.goal, CutL i new) ∷ (spot.goal + 1, CoHideR (length spot.s.succ + 1)) ∷ (spot.goal + 1, EquivifyR 1) ∷
    (spot.goal + 1, CommuteEquivR 1) ∷ []
    ) (spot.goal + 1)

-- three steps that make what an equivalence proves of whole formulas, and others behind them
equivalent_symbols : (now : ℕ) (l r context : Tree) (rest : List Step) → All ReplacesSymbols rest →
    All ReplacesSymbols (
    UseRule (codes "CE") ∷ Substitute (now + 1) ((any_p ~> l) ∷ (any_q ~> r) ∷ (context_c ~> context) ∷ []) ∷ Merge (now + 2) 1 now ∷ rest
    )
equivalent_symbols now l r context rest h =
    let pairs = (any_p ~> l) ∷ (any_q ~> r) ∷ (context_c ~> context) ∷ [] in
    added (UseRule (codes "CE")) (Substitute (now + 1) pairs ∷ Merge (now + 2) 1 now ∷ rest) (rule_symbols (codes "CE"))
    (added (Substitute (now + 1) pairs) (Merge (now + 2) 1 now ∷ rest)
    (substitute_symbols (now + 1) pairs (three_pairs (any_p ~> l) (any_q ~> r) (context_c ~> context) refl refl refl))
    (added (Merge (now + 2) 1 now) rest (merge_symbols (now + 2) 1 now) h))

equivalence_symbols : (now : ℕ) (spot : Spot) (place : Place) (direction : Direction) (e : Tree) (path : List ℕ) (l r : Tree) →
    All ReplacesSymbols (by_equivalence now spot place direction e path l r)
equivalence_symbols now spot place Forwards e path l r =
    equivalent_symbols now l r (put_at e path (leaf Hole)) (exchange (now + 3) (now + 3) spot place Forwards (put_at e path r))
    (exchange_symbols (now + 3) (now + 3) spot place Forwards (put_at e path r))
equivalence_symbols now spot place Backwards e path l r =
    equivalent_symbols now l r (put_at e path (leaf Hole)) (exchange (now + 3) (now + 3) spot place Backwards (put_at e path l))
    (exchange_symbols (now + 3) (now + 3) spot place Backwards (put_at e path l))

equation_symbols : (now : ℕ) (spot : Spot) (place : Place) (direction : Direction) (e : Tree) (outer inner : List ℕ) (d l r : Tree) →
    All ReplacesSymbols (by_equation now spot place direction e outer inner d l r)
equation_symbols now spot place direction e outer inner d l r =
    let equal = (any_f ~> l) ∷ (any_g ~> r) ∷ [] in
    let inside = (p_of_one ~> put_at d inner (leaf (Dot 0))) ∷ [] in
    let fourth = by_equivalence (now + 4) spot place direction e outer (put_at d inner l) (put_at d inner r) in
    let third = Substitute (now + 3) inside ∷ fourth in
    let second = Merge (now + 2) 1 now ∷ third in
    added (UseRule (codes "CQ")) (Substitute (now + 1) equal ∷ second) (rule_symbols (codes "CQ"))
    (added (Substitute (now + 1) equal) second (substitute_symbols (now + 1) equal (two_pairs (any_f ~> l) (any_g ~> r) refl refl))
    (added (Merge (now + 2) 1 now) third (merge_symbols (now + 2) 1 now)
    (added (Substitute (now + 3) inside) fourth (substitute_symbols (now + 3) inside (one_pair (p_of_one ~> put_at d inner (leaf (Dot 0))) refl))
    (equivalence_symbols (now + 4) spot place direction e outer (put_at d inner l) (put_at d inner r)))))

conditional_equation_symbols : (now : ℕ) (spot : Spot) (place : Place) (direction : Direction) (e : Tree) (outer inner : List ℕ) (d b l r : Tree) →
    All ReplacesSymbols (by_conditional_equation now spot place direction e outer inner d b l r)
conditional_equation_symbols now spot place direction e outer inner d b l r =
    let fifth = by_equation (now + 5) spot place direction e outer inner d l r in
    let fourth = Merge (now + 3) 1 (now + 4) ∷ fifth in
    let third = Leaf (alone_right b) ∷ fourth in
    let second = Merge (now + 2) 2 now ∷ third in
    added (Start (alone_right (two Eq l r))) (Apply (now + 1) 1 (CutR 1 b) ∷ second) (start_symbols (alone_right (two Eq l r)))
    (added (Apply (now + 1) 1 (CutR 1 b)) second (apply_symbols (now + 1) 1 (CutR 1 b))
    (added (Merge (now + 2) 2 now) third (merge_symbols (now + 2) 2 now)
    (added (Leaf (alone_right b)) fourth (leaf_symbols (alone_right b))
    (added (Merge (now + 3) 1 (now + 4)) fifth (merge_symbols (now + 3) 1 (now + 4)) (equation_symbols (now + 5) spot place direction e outer inner d l r)))))

conditional_equivalence_symbols : (now : ℕ) (spot : Spot) (j : ℕ) (b l r : Tree) → All ReplacesSymbols (by_conditional_equivalence now spot j b l r)
conditional_equivalence_symbols now spot j b l r =
    let third = spot.goal + 2 in
    closed_symbols now spot.fact now (
    (spot.goal, CutR j r) ∷ (spot.goal + 1, CutR j b) ∷
    (third, CoHideR j) ∷ (third, ImplyR 1) ∷ (third, EquivifyR 1) ∷ (third, CommuteEquivR 1) ∷
    (third, Cut (imply b (equiv l r))) ∷ (third, ImplyL 2) ∷ (third, Close 1 2) ∷ (third, Close 2 1) ∷ (third, CoHideR 2) ∷ []
    ) third

implication_symbols : (now : ℕ) (spot : Spot) (place : Place) (b h : Tree) → All ReplacesSymbols (by_implication now spot place b h)
implication_symbols now spot (Succ j) b h =
    closed_symbols now spot.fact now ((spot.goal, CutR j b) ∷ (spot.goal + 1, CoHideR j) ∷ []) (spot.goal + 1)
implication_symbols now spot (Ante i) b h =
    closed_symbols now spot.fact now ((spot.goal, CutL i h) ∷ (spot.goal + 1, CoHideR (length spot.s.succ + 1)) ∷ []) (spot.goal + 1)

pub finishing_symbols : (now : ℕ) (spot : Spot) (used : Use) (e f : Tree) (steps : List Step) → Finishes now spot used e f steps → All ReplacesSymbols steps
finishing_symbols now spot used e f _ (equivalence form) = equivalence_symbols now spot used.place used.direction e used.path _ _
finishing_symbols now spot used e f _ (equation outer inner d form around) = equation_symbols now spot used.place used.direction e outer inner d _ _
finishing_symbols now spot used e f _ (conditional_equivalence j form place) = conditional_equivalence_symbols now spot j _ _ _
finishing_symbols now spot used e f _ (conditional_equation outer inner d form around) =
    conditional_equation_symbols now spot used.place used.direction e outer inner d _ _ _
finishing_symbols now spot used e f _ (implication form) = implication_symbols now spot used.place _ _
finishing_symbols now spot used e f _ (by_its_fact j form place) = closed_symbols now spot.fact now ((spot.goal, CoHideR j) ∷ []) spot.goal

-- ---- boxes

pub generalizing_symbols : (now : ℕ) (spot : Spot) (j : ℕ) (b f : Tree) → All ReplacesSymbols (generalizing now spot j b f)
generalizing_symbols now spot j b f =
    let pairs = (program_a ~> b) ∷ (any_p ~> f) ∷ [] in
    let last = Merge (now + 3) spot.goal (now + 2) in
    let third = Apply spot.fact spot.goal (CoHideR j) in
    added (UseRule (codes "G")) (Substitute (now + 1) pairs ∷ third ∷ last ∷ []) (rule_symbols (codes "G"))
    (added (Substitute (now + 1) pairs) (third ∷ last ∷ []) (substitute_symbols (now + 1) pairs (two_pairs (program_a ~> b) (any_p ~> f) refl refl))
    (added third (last ∷ []) (apply_symbols spot.fact spot.goal (CoHideR j)) (added last [] (merge_symbols (now + 3) spot.goal (now + 2)) no_steps)))

pub cutting_symbols : (now : ℕ) (spot : Spot) (j : ℕ) (b f h : Tree) → All ReplacesSymbols (cutting_box now spot j b f h)
cutting_symbols now spot j b f h =
    let second = spot.goal + 1 in
    let third = spot.goal + 2 in
    let k = (program_a ~> b) ∷ (any_p ~> h) ∷ (any_q ~> f) ∷ [] in
    let g = (program_a ~> b) ∷ (any_p ~> imply h f) ∷ [] in
    let tenth = Apply (now + 9) second (ImplyR 1) ∷ [] in
    let ninth = Merge (now + 8) second (now + 4) ∷ tenth in
    let eighth = Merge (now + 7) third (now + 2) ∷ ninth in
    let seventh = Apply (now + 6) second (CutR 1 (box b (imply h f))) ∷ eighth in
    let sixth = Apply (now + 5) second (CoHideR j) ∷ seventh in
    let fifth = Apply spot.fact spot.goal (CutR j (box b h)) ∷ sixth in
    let fourth = Substitute (now + 3) g ∷ fifth in
    let behind = UseRule (codes "G") ∷ fourth in
    added (UseAxiom (codes "K")) (Substitute (now + 1) k ∷ behind) (axiom_symbols (codes "K"))
    (added (Substitute (now + 1) k) behind
    (substitute_symbols (now + 1) k (three_pairs (program_a ~> b) (any_p ~> h) (any_q ~> f) refl refl refl))
    (added (UseRule (codes "G")) fourth (rule_symbols (codes "G"))
    (added (Substitute (now + 3) g) fifth (substitute_symbols (now + 3) g (two_pairs (program_a ~> b) (any_p ~> imply h f) refl refl))
    (added (Apply spot.fact spot.goal (CutR j (box b h))) sixth (apply_symbols spot.fact spot.goal (CutR j (box b h)))
    (added (Apply (now + 5) second (CoHideR j)) seventh (apply_symbols (now + 5) second (CoHideR j))
    (added (Apply (now + 6) second (CutR 1 (box b (imply h f)))) eighth (apply_symbols (now + 6) second (CutR 1 (box b (imply h f))))
    (added (Merge (now + 7) third (now + 2)) ninth (merge_symbols (now + 7) third (now + 2))
    (added (Merge (now + 8) second (now + 4)) tenth (merge_symbols (now + 8) second (now + 4))
    (added (Apply (now + 9) second (ImplyR 1)) [] (apply_symbols (now + 9) second (ImplyR 1)) no_steps)))))))))
