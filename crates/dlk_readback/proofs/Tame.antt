-- The tokens of shown text have no fault.
use Rattle.std.proofs.Common.{◌≡◌, ℕ, zero, suc, ◌+◌, ◌≤◌, ◌==◌, max, Bool, true, false, cond, nat_lt, nat_le, ◌&&◌, ◌||◌, List, [], ◌∷◌, ◌++◌}
use Rattle.std.proofs.Common.{length, replicate, flat_map, get_or, Option, Some, None, refl, sym, subst, ◌∙◌, arith, leb-true, le-ltb}
use Rattle.std.proofs.lemmas.Bool.{and_parts, or_parts}
use Rattle.dlk_tree.specs.declared.op.OdeItem.{OdeItem}
use Rattle.dlk_tree.specs.declared.op.OdeItem.TheVariants.{Evolve, Const}
use Rattle.dlk_tree.specs.declared.op.Sort.{Sort}
use Rattle.dlk_tree.specs.declared.op.Sort.TheVariants.{Term, Formula, Program}
use Rattle.dlk_tree.specs.declared.op.Op.{Op}
use Rattle.dlk_tree.specs.declared.op.Op.TheVariants as op
use Rattle.dlk_tree.specs.Table.{sort_of, kid_sorts, evolved, Fits}
use Rattle.dlk_tree.specs.Trees.{Tree, Forest, node, root, no_kids, kid, trees_in, sort, sorts, depth, depth_all, WellMade, AllWellMade}
use Rattle.dlk_tree.specs.Occurs.{has, any_has, is_some_dot, is_hole, has_dots, has_hole}
use Rattle.dlk_grammar.specs.declared.token.Mark.TheVariants as mark
use Rattle.dlk_grammar.specs.declared.token.Dots.{Dots}
use Rattle.dlk_grammar.specs.declared.token.Dots.TheVariants.{Refused, Allowed}
use Rattle.dlk_grammar.specs.Shown.{Piece, mark as the_mark, word, style, level, least, opening, between, closing, items_of, bracketed, variable}
use Rattle.dlk_grammar.specs.Shown.{unit_brackets, ode_brackets, item_text, terms_behind, item_texts, is_true, domain_text, inside, joined, shown_at}
use Rattle.dlk_grammar.specs.Shown.{shown_kids, shown}
use Rattle.dlk_readback.proofs.Kids.{Each, body}
use Rattle.dlk_readback.proofs.Calm.{is_refused, Moves, moves-append, moves_more, moves_up, no_moves, flat, flat_moves, leads, leads_moves, trails}
use Rattle.dlk_readback.proofs.Calm.{trails_moves}

-- dots and the hole, where they are refused
abbrev pub is_bad : Dots → Op → Bool
is_bad d (op.Dot n) = is_refused d
is_bad d op.Hole = is_refused d
is_bad d _ = false

abbrev pub IsClean : Dots → Tree → Type 0
IsClean d t = has (is_bad d) t ≡ false

nowhere : (x y : Bool) → x ≡ false → y ≡ false → (x || y) ≡ false
nowhere true y h g = absurd cc
nowhere false y h g = g

-- nothing is bad where all is allowed
not_bad : (o : Op) → is_bad Allowed o ≡ false
not_bad (op.Dot n) = refl
not_bad op.Hole = refl
not_bad _ = refl

mutual
  pub allowed_clean : (t : Tree) → IsClean Allowed t
  allowed_clean (node o kids) = nowhere (is_bad Allowed o) (any_has (is_bad Allowed) kids) (not_bad o) (allowed_all kids)

  allowed_all : (kids : Forest) → any_has (is_bad Allowed) kids ≡ false
  allowed_all no_kids = refl
  allowed_all (kid t rest) = nowhere (has (is_bad Allowed) t) (any_has (is_bad Allowed) rest) (allowed_clean t) (allowed_all rest)

not_dot : (o : Op) → is_some_dot o ≡ false → is_hole o ≡ false → is_bad Refused o ≡ false
not_dot (op.Dot n) h g = absurd cc
not_dot op.Hole h g = absurd cc
not_dot _ h g = refl

mutual
  pub refused_clean : (t : Tree) → has_dots t ≡ false → has_hole t ≡ false → IsClean Refused t
  refused_clean (node o kids) h g =
      let u = or_parts (is_some_dot o) (any_has is_some_dot kids) h in
      let v = or_parts (is_hole o) (any_has is_hole kids) g in
      nowhere (is_bad Refused o) (any_has (is_bad Refused) kids) (not_dot o u.0 v.0) (refused_all kids u.1 v.1)

  refused_all : (kids : Forest) → any_has is_some_dot kids ≡ false → any_has is_hole kids ≡ false → any_has (is_bad Refused) kids ≡ false
  refused_all no_kids h g = refl
  refused_all (kid t rest) h g =
      let u = or_parts (has is_some_dot t) (any_has is_some_dot rest) h in
      let v = or_parts (has is_hole t) (any_has is_hole rest) g in
      nowhere (has (is_bad Refused) t) (any_has (is_bad Refused) rest) (refused_clean t u.0 v.0) (refused_all rest u.1 v.1)

-- the level from which a tree of the sort with brackets of its own stands without others
abbrev top : Sort → ℕ
top Term = 5
top Formula = 5
top Program = 3

-- How an operator is written: with no brackets of its own, with brackets round its kids, or as a modality.
data Tidy (d : Dots) (o : Op) : Type 0 where
  plain : flat d (opening o) ≡ true → flat d (between o) ≡ true → flat d (closing o) ≡ true → Tidy d o
  around : leads d (opening o) ≡ true → flat d (between o) ≡ true → trails d (closing o) ≡ true → nat_le (top (sort_of o)) (level o) ≡ true → Tidy d o
  modal : leads d (opening o) ≡ true → trails d (between o) ≡ true → flat d (closing o) ≡ true → nat_le (top (sort_of o)) (level o) ≡ true →
      items_of o ≡ None → (s u : Sort) → kid_sorts o ≡ s ∷ u ∷ [] → Tidy d o

variable_flat : (d : Dots) (x : List ℕ) (primed : Bool) → flat d (variable (record { name = x; primed = primed })) ≡ true
variable_flat d x true = refl
variable_flat d x false = refl

gets_flat : (d : Dots) (x : List ℕ) (primed : Bool) → flat d (variable (record { name = x; primed = primed }) ++ the_mark mark.Gets ∷ []) ≡ true
gets_flat d x true = refl
gets_flat d x false = refl

unit_flat : (d : Dots) (y : Option (List ℕ)) → flat d (unit_brackets y) ≡ true
unit_flat d None = refl
unit_flat d (Some y) = refl

ode_flat : (d : Dots) (y : Option (List ℕ)) → flat d (ode_brackets y) ≡ true
ode_flat d None = refl
ode_flat d (Some y) = refl

dot_flat : (d : Dots) (n : ℕ) → is_refused d ≡ false → flat d (opening (op.Dot n)) ≡ true
dot_flat Refused n h = absurd cc
dot_flat Allowed n h = refl

hole_flat : (d : Dots) → is_refused d ≡ false → flat d (opening op.Hole) ≡ true
hole_flat Refused h = absurd cc
hole_flat Allowed h = refl

tidy : (d : Dots) (o : Op) → is_bad d o ≡ false → Tidy d o
tidy d (op.Variable v) h = plain (variable_flat d v.name v.primed) refl refl
tidy d (op.Dot n) h = plain (dot_flat d n h) refl refl
tidy d op.Hole h = plain (hole_flat d h) refl refl
tidy d (op.UnitFun s) h = plain refl refl (unit_flat d s.taboo)
tidy d (op.UnitPred s) h = plain refl refl (unit_flat d s.taboo)
tidy d (op.Apply s) h = around refl refl refl refl
tidy d (op.Holds s) h = around refl refl refl refl
tidy d op.Diff h = around refl refl refl refl
tidy d op.DiffF h = around refl refl refl refl
tidy d (op.Predicational s) h = around refl refl refl refl
tidy d (op.System items) h = around refl refl refl refl
tidy d op.Loop h = around refl refl refl refl
tidy d op.Box h = modal refl refl refl refl refl Program Formula refl
tidy d op.Dia h = plain refl refl refl
tidy d (op.Assign v) h = plain (gets_flat d v.name v.primed) refl refl
tidy d _ h = plain refl refl refl

-- the least levels of kids stand below the tops of their sorts
abbrev fit_levels : Op → ℕ → List Sort → Bool
fit_levels o i [] = true
fit_levels o i (s ∷ ss) = nat_le (least o i) (top s) && fit_levels o (i + 1) ss

any_fit : (o : Op) → (style o).first ≡ 1 → (style o).later ≡ 1 → (i : ℕ) (ss : List Sort) → fit_levels o i ss ≡ true
any_fit o e f i [] = refl
any_fit o e f i (s ∷ ss) = rw (by_place (i == 0), by_sort s, any_fit o e f (i + 1) ss) refl
  where
    by_place : (b : Bool) → cond b (style o).first (style o).later ≡ 1
    by_place true = e
    by_place false = f

    by_sort : (s : Sort) → nat_le 1 (top s) ≡ true
    by_sort Term = refl
    by_sort Formula = refl
    by_sort Program = refl

all_fit : (o : Op) → fit_levels o 0 (kid_sorts o) ≡ true
all_fit (op.Apply s) = any_fit (op.Apply s) refl refl 0 (replicate s.arity Term)
all_fit (op.Holds s) = any_fit (op.Holds s) refl refl 0 (replicate s.arity Term)
all_fit (op.System items) = any_fit (op.System items) refl refl 0 (replicate (length (evolved items)) Term ++ Formula ∷ [])
all_fit _ = refl

-- texts with a flat separator between
module _ (d : Dots) (most a : ℕ) (le : a ≤ most) where
  more_level : (sep : List Piece) (xs : List (List Piece)) → flat d sep ≡ true → Each (Moves d most a a) xs → Moves d most a a (flat_map (λ y. sep ++ y) xs)
  more_level sep [] s all = no_moves
  more_level sep (x ∷ xs) s all = moves-append (sep ++ x) (flat_map (λ y. sep ++ y) xs) (moves-append sep x (flat_moves sep le s) all.0)
      (more_level sep xs s all.1)

  pub joined_level : (sep : List Piece) (xs : List (List Piece)) → flat d sep ≡ true → Each (Moves d most a a) xs → Moves d most a a (joined sep xs)
  joined_level sep [] s all = no_moves
  joined_level sep (x ∷ xs) s all = moves-append x (flat_map (λ y. sep ++ y) xs) all.0 (more_level sep xs s all.1)

  some_level : (xs : List (List Piece)) (i : ℕ) → Each (Moves d most a a) xs → Moves d most a a (get_or xs i [])
  some_level [] i all = no_moves
  some_level (x ∷ xs) zero all = all.0
  some_level (x ∷ xs) (suc i) all = some_level xs i all.1

  item_level : (item : OdeItem) (xs : List (List Piece)) → Each (Moves d most a a) xs → Moves d most a a (item_text item xs)
  item_level (Const s) xs all = flat_moves (word s.name ∷ ode_brackets s.taboo) le (ode_flat d s.taboo)
  item_level (Evolve x) xs all = moves-append (word x ∷ the_mark mark.Prime ∷ the_mark mark.Equal ∷ []) (get_or xs 0 [])
      (flat_moves (word x ∷ the_mark mark.Prime ∷ the_mark mark.Equal ∷ []) le refl) (some_level xs 0 all)

  behind_level : (item : OdeItem) (xs : List (List Piece)) → Each (Moves d most a a) xs → Each (Moves d most a a) (terms_behind item xs)
  behind_level (Const s) xs all = all
  behind_level (Evolve x) [] all = tt
  behind_level (Evolve x) (y ∷ xs) all = all.1

  items_level : (items : List OdeItem) (xs : List (List Piece)) → Each (Moves d most a a) xs → Each (Moves d most a a) (item_texts items xs)
  items_level [] xs all = tt
  items_level (item ∷ items) xs all = (item_level item xs all, items_level items (terms_behind item xs) (behind_level item xs all))

  domain_level : (domain : Tree) (text : List Piece) → Moves d most a a text → Moves d most a a (domain_text domain text)
  domain_level domain text h = by_test (is_true (root domain))
    where
      by_test : (b : Bool) → Moves d most a a (cond b [] (the_mark mark.And ∷ text))
      by_test true = no_moves
      by_test false = moves-append (the_mark mark.And ∷ []) text (flat_moves (the_mark mark.And ∷ []) le refl) h

  inside_level : (items : Option (List OdeItem)) (sep : List Piece) (kids : List Tree) (xs : List (List Piece)) → flat d sep ≡ true →
      Each (Moves d most a a) xs → Moves d most a a (inside items sep kids xs)
  inside_level None sep kids xs s all = joined_level sep xs s all
  inside_level (Some items) sep kids xs s all =
      let n = length (evolved items) in
      let domain = get_or kids n (node op.True no_kids) in
      moves-append (joined sep (item_texts items xs)) (domain_text domain (get_or xs n []))
      (joined_level sep (item_texts items xs) s (items_level items xs all)) (domain_level domain (get_or xs n []) (some_level xs n all))

-- a text that leads nowhere, and for which `most` levels suffice
abbrev pub Even : Dots → ℕ → List Piece → Type 0
Even d most text = Moves d most 0 0 text

-- brackets take one level more
in_brackets : (d : Dots) (most : ℕ) (s : Sort) (text : List Piece) → Even d most text → Even d (most + 1) (bracketed true s text)
in_brackets d most Term text h = moves-append (the_mark mark.OpenRound ∷ []) (text ++ the_mark mark.CloseRound ∷ [])
    (leads_moves (the_mark mark.OpenRound ∷ []) (omega arith) refl)
    (moves-append text (the_mark mark.CloseRound ∷ []) (moves_up text h) (trails_moves (the_mark mark.CloseRound ∷ []) (omega arith) refl))
in_brackets d most Formula text h = moves-append (the_mark mark.OpenRound ∷ []) (text ++ the_mark mark.CloseRound ∷ [])
    (leads_moves (the_mark mark.OpenRound ∷ []) (omega arith) refl)
    (moves-append text (the_mark mark.CloseRound ∷ []) (moves_up text h) (trails_moves (the_mark mark.CloseRound ∷ []) (omega arith) refl))
in_brackets d most Program text h = moves-append (the_mark mark.OpenBrace ∷ []) (text ++ the_mark mark.CloseBrace ∷ [])
    (leads_moves (the_mark mark.OpenBrace ∷ []) (omega arith) refl)
    (moves-append text (the_mark mark.CloseBrace ∷ []) (moves_up text h) (trails_moves (the_mark mark.CloseBrace ∷ []) (omega arith) refl))

-- a modality's two kids
modal_even : (d : Dots) (most : ℕ) (sep x y : List Piece) → trails d sep ≡ true → Even d most x → Even d most y →
    Moves d (most + 1) 1 0 (x ++ ((sep ++ y) ++ []))
modal_even d most sep x y s h g = moves-append x ((sep ++ y) ++ []) (moves_up x h)
    (moves-append (sep ++ y) [] (moves-append sep y (trails_moves sep (omega arith) s) (moves_more y (omega arith) g)) no_moves)

each_up : (d : Dots) (most : ℕ) (xs : List (List Piece)) → Each (Even d most) xs → Each (Moves d (most + 1) 1 1) xs
each_up d most [] all = tt
each_up d most (x ∷ xs) all = (moves_up x all.0, each_up d most xs all.1)

each_more : (d : Dots) (few most : ℕ) → few ≤ most → (xs : List (List Piece)) → Each (Even d few) xs → Each (Even d most) xs
each_more d few most le [] all = tt
each_more d few most le (x ∷ xs) all = (moves_more x le all.0, each_more d few most le xs all.1)

modal_inside : (d : Dots) (o : Op) (kids : Forest) (most : ℕ) (s u : Sort) → sorts kids ≡ s ∷ u ∷ [] → trails d (between o) ≡ true →
    Each (Even d most) (shown_kids o 0 kids) → Moves d (most + 1) 1 0 (inside None (between o) (trees_in kids) (shown_kids o 0 kids))
modal_inside d o no_kids most s u e t all = absurd cc
modal_inside d o (kid a no_kids) most s u e t all = absurd cc
modal_inside d o (kid a (kid b no_kids)) most s u e t all = modal_even d most (between o) (shown_at (least o 0) a) (shown_at (least o 1) b) t all.0 all.1.0
modal_inside d o (kid a (kid b (kid c rest))) most s u e t all = absurd cc

-- no brackets stand round an operator of so high a level
unbracketed : (o : Op) (n : ℕ) → n ≤ top (sort_of o) → nat_le (top (sort_of o)) (level o) ≡ true → nat_lt (level o) n ≡ false
unbracketed o n le h = le-ltb (level o) n (omega (arith, leb-true (top (sort_of o)) (level o) h))

node_even : (d : Dots) (o : Op) (kids : Forest) (most n : ℕ) → Fits o (sorts kids) → Tidy d o → n ≤ top (sort_of o) →
    Each (Even d most) (shown_kids o 0 kids) → Even d (most + 1) (bracketed (nat_lt (level o) n) (sort_of o) (body o kids))
node_even d o kids most n fits (plain h g k) le all = go (nat_lt (level o) n)
  where
    text : Even d most (body o kids)
    text =
        let middle = inside (items_of o) (between o) (trees_in kids) (shown_kids o 0 kids) in
        moves-append (opening o) (middle ++ closing o) (flat_moves (opening o) (omega arith) h)
        (moves-append middle (closing o) (inside_level d most 0 (omega arith) (items_of o) (between o) (trees_in kids) (shown_kids o 0 kids) g all)
        (flat_moves (closing o) (omega arith) k))

    go : (b : Bool) → Even d (most + 1) (bracketed b (sort_of o) (body o kids))
    go true = in_brackets d most (sort_of o) (body o kids) text
    go false = moves_more (body o kids) (omega arith) text
node_even d o kids most n fits (around h g k up) le all =
    let middle = inside (items_of o) (between o) (trees_in kids) (shown_kids o 0 kids) in
    rw (unbracketed o n le up)
    (moves-append (opening o) (middle ++ closing o) (leads_moves (opening o) (omega arith) h)
    (moves-append middle (closing o) (inside_level d (most + 1) 1 (omega arith) (items_of o) (between o) (trees_in kids) (shown_kids o 0 kids) g
    (each_up d most (shown_kids o 0 kids) all)) (trails_moves (closing o) (omega arith) k)))
node_even d o kids most n fits (modal h g k up none s u is) le all =
    let middle = inside None (between o) (trees_in kids) (shown_kids o 0 kids) in
    let text : Even d (most + 1) (opening o ++ (middle ++ closing o)) =
    moves-append (opening o) (middle ++ closing o) (leads_moves (opening o) (omega arith) h)
    (moves-append middle (closing o) (modal_inside d o kids most s u (fits.kids_fit ∙ is) g all) (flat_moves (closing o) (omega arith) k)) in
    rw (unbracketed o n le up, none) text

mutual
  pub tree_even : (d : Dots) (n : ℕ) (t : Tree) → WellMade t → IsClean d t → n ≤ top (sort t) → Even d (depth t) (shown_at n t)
  tree_even d n (node o kids) w c le =
      let v = or_parts (is_bad d o) (any_has (is_bad d) kids) c in
      let all = kids_even d o 0 kids (subst (λ (ss : List Sort). fit_levels o 0 ss ≡ true) (sym w.0.kids_fit) (all_fit o)) w.1 v.1 in
      let up : depth_all kids + 1 ≡ 1 + depth_all kids = omega arith in
      subst (λ (m : ℕ). Even d m (shown_at n (node o kids))) up (node_even d o kids (depth_all kids) n w.0 (tidy d o v.0) le all)

  kids_even : (d : Dots) (o : Op) (i : ℕ) (kids : Forest) → fit_levels o i (sorts kids) ≡ true → AllWellMade kids → any_has (is_bad d) kids ≡ false →
      Each (Even d (depth_all kids)) (shown_kids o i kids)
  kids_even d o i no_kids h w c = tt
  kids_even d o i (kid t rest) h w c =
      let u = and_parts (nat_le (least o i) (top (sort t))) (fit_levels o (i + 1) (sorts rest)) h in
      let v = or_parts (has (is_bad d) t) (any_has (is_bad d) rest) c in (
        moves_more (shown_at (least o i) t) (omega arith) (tree_even d (least o i) t w.0 v.0 (leb-true (least o i) (top (sort t)) u.0)),
        each_more d (depth_all rest) (max (depth t) (depth_all rest)) (omega arith) (shown_kids o (i + 1) rest) (kids_even d o (i + 1) rest u.1 w.1 v.1),
      )

one_low : (s : Sort) → 1 ≤ top s
one_low Term = omega arith
one_low Formula = omega arith
one_low Program = omega arith

-- the text of a tree
pub shown_even : (d : Dots) (t : Tree) → WellMade t → IsClean d t → Even d (depth t) (shown t)
shown_even d t w c = tree_even d 1 t w c (one_low (sort t))
