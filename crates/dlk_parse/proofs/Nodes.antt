-- Nodes that are made of a code are those of its phrases' trees.
use Rattle.std.proofs.Common.{◌≡◌, ℕ, suc, zero, ◌+◌, ◌-◌, ◌≤◌, List, [], ◌∷◌, ◌++◌, length, take, drop, map, get_or, Some, true, false, cond, refl}
use Rattle.std.proofs.Common.{sym, ap, subst, ◌∙◌, append_assoc, add-one, arith, fold}
use Rattle.std.specs.Prelude.{All, flat_map, ◌==◌}
use Rattle.std.proofs.lemmas.List.{append-nil, map-append, length-map, take-map, take_at, take_rest, take-append-drop, nil_from_length}
use Rattle.std.proofs.lemmas.List.Sums.{fold-append}
use Rattle.std.proofs.lemmas.List.Elements.{All-nil, All-cons, All-head, All-tail, All-append, All-map, All-take, All-same}
use Rattle.std.proofs.lemmas.Bool.Decides.{nat_tests}
use Rattle.dlk_tree.specs.Trees.{Tree, node, kid, forest, sort, sorts, WellMade, AllWellMade as ForestWellMade}
use Rattle.dlk_tree.specs.Table.{kid_sorts, Fits}
use Rattle.dlk_tree.specs.declared.op.Op.{Op}
use Rattle.dlk_tree.specs.declared.op.Op.TheVariants as op
use Rattle.dlk_store.specs.declared.Id.{Id}
use Rattle.dlk_store.specs.Stores.{IsId, tree, kid_trees, sorts_at, Keeps, StandsFor}
use Rattle.dlk_sequent.proofs.Kept.{trees-kept}
use Rattle.dlk_grammar.specs.Phrases.{Phrase, Phrases, Noted}
use Rattle.dlk_grammar.specs.Erased.{count, erase}
use Rattle.dlk_grammar.specs.Readings.{phrases_in}
use Rattle.dlk_reader.specs.Codes.{postfix, postfix_all}
use Rattle.dlk_parse.specs.Made.{IsWellMade, AreMade}
use Rattle.dlk_parse.specs.Stacks.{top, below}
use Rattle.dlk_parse.specs.Making.{Making, call, put, put_outside, make_step, making_at, AllWellMade}
use Rattle.dlk_parse.specs.declared.making.Maker.{Maker}
use Rattle.dlk_reader.specs.declared.code.Code.{Code}
use Rattle.dlk_reader.specs.declared.code.Code.TheVariants as code
use Rattle.dlk_parse.proofs.PhraseParts.{parts, of_each, operator, same_some, IsOver, View, over, noted, view, postfix_all_is}
use Rattle.dlk_parse.proofs.Stacked.{top_is, below_is}

-- ids and the trees that they stand for
pub drop-map : {A B : Type 0} (f : A → B) (n : ℕ) (xs : List A) → drop n (map f xs) ≡ map f (drop n xs)
drop-map f zero xs = refl
drop-map f (suc n) [] = refl
drop-map f (suc n) (x ∷ xs) = drop-map f n xs

pub top-map : {A B : Type 0} (f : A → B) (n : ℕ) (xs : List A) → map f (top n xs) ≡ top n (map f xs)
top-map f n xs = sym (drop-map f (length xs - n) xs) ∙ ap (λ k. drop (k - n) (map f xs)) (sym (length-map xs f))

pub below-map : {A B : Type 0} (f : A → B) (n : ℕ) (xs : List A) → map f (below n xs) ≡ below n (map f xs)
below-map f n xs = sym (take-map f (length xs - n) xs) ∙ ap (λ k. take (k - n) (map f xs)) (sym (length-map xs f))

kid_trees_are : (trees : List Tree) (ks : List Id) → kid_trees trees ks ≡ forest (map (tree trees) ks)
kid_trees_are trees [] = refl
kid_trees_are trees (k ∷ ks) = ap (kid (tree trees k)) (kid_trees_are trees ks)

sorts_are : (trees : List Tree) (ks : List Id) → sorts (forest (map (tree trees) ks)) ≡ sorts_at trees ks
sorts_are trees [] = refl
sorts_are trees (k ∷ ks) = ap (λ s. sort (tree trees k) ∷ s) (sorts_are trees ks)

-- a node was put in place of its kids
pub put_is : {old new : List Tree} (o : Op) (ids : List Id) (id : Id) → Keeps old new → All (IsId old) ids →
    StandsFor new id (node o (kid_trees old (top (length (kid_sorts o)) ids)))
    → map (tree new) (below (length (kid_sorts o)) ids ++ id ∷ []) ≡ put o (map (tree old) ids)
put_is {old} {new} o ids id keeps known made =
    let n = length (kid_sorts o) in
    let front : map (tree new) (below n ids) ≡ below n (map (tree old) ids) = trees-kept keeps (below n ids) (All-take (IsId old) (length ids - n) ids known)
    ∙ below-map (tree old) n ids in
    let here : tree new id ≡ node o (forest (top n (map (tree old) ids))) = made.tree_is
    ∙ ap (node o) (kid_trees_are old (top n ids) ∙ ap forest (top-map (tree old) n ids)) in
    map-append (tree new) (below n ids) (id ∷ []) ∙ (λ i. front i ++ here i ∷ [])

pub put_made : {old new : List Tree} (o : Op) (ids shorter longer : List Id) (id : Id) (at : ℕ) → at ≡ length ids - length (kid_sorts o) → Keeps old new →
    All (IsId old) ids
    → StandsFor new id (node o (kid_trees old (take (length ids - at) (drop at ids)))) → shorter ≡ take at ids → longer ≡ shorter ++ id ∷ [] →
    map (tree new) longer ≡ put o (map (tree old) ids)
put_made {old} {new} o ids shorter longer id at e keeps known made f g =
    let made-at : StandsFor new id (node o (kid_trees old (top (length (kid_sorts o)) ids))) =
    subst (λ ks. StandsFor new id (node o (kid_trees old ks))) (take_rest ids at ∙ ap (λ n. drop n ids) e) made in
    let parts : longer ≡ below (length (kid_sorts o)) ids ++ id ∷ [] = g ∙ ap (λ l. l ++ id ∷ []) (f ∙ ap (λ n. take n ids) e) in
    ap (map (tree new)) parts ∙ put_is o ids id keeps known made-at

-- what is on top of a stack is well made
last_well_made : (ts : List Tree) (t : Tree) → All WellMade (ts ++ t ∷ []) → WellMade t
last_well_made [] t all = All-head WellMade t [] all
last_well_made (u ∷ ts) t all = last_well_made ts t (All-tail WellMade u (ts ++ t ∷ []) all)

front_well_made : (ts : List Tree) (t : Tree) → All WellMade (ts ++ t ∷ []) → All WellMade ts
front_well_made ts t all = All-same WellMade ts (take (length ts) (ts ++ t ∷ [])) (sym (take-append ts)) (All-take WellMade (length ts) (ts ++ t ∷ []) all)
  where
    take-append : (ts : List Tree) → take (length ts) (ts ++ t ∷ []) ≡ ts
    take-append ts = take_at ts (t ∷ []) (length ts) refl

-- an operator that is put fits the sorts of the ids on top
pub put_fits : (trees : List Tree) (o : Op) (ids : List Id) → All WellMade (put o (map (tree trees) ids)) →
    Fits o (sorts_at trees (top (length (kid_sorts o)) ids))
put_fits trees o ids all =
    let n = length (kid_sorts o) in
    let fits : Fits o (sorts (forest (top n (map (tree trees) ids)))) =
    (last_well_made (below n (map (tree trees) ids)) (node o (forest (top n (map (tree trees) ids)))) all).0 in
    subst (Fits o) (ap (λ ts. sorts (forest ts)) (sym (top-map (tree trees) n ids)) ∙ sorts_are trees (top n ids)) fits

-- outside of notes
pub outside_fits : (trees : List Tree) (o : Op) (maker : Maker) → maker.notes ≤ 0 → AllWellMade (put_outside o (making_at trees maker)) →
    Fits o (sorts_at trees (top (length (kid_sorts o)) maker.ids.items))
outside_fits trees o maker h w = put_fits trees o maker.ids.items (outside (none maker.notes h) w.each)
  where
    none : (n : ℕ) → n ≤ 0 → n ≡ 0
    none n h = omega arith

    outside : maker.notes ≡ 0 → All WellMade (put_outside o (making_at trees maker)).trees → All WellMade (put o (map (tree trees) maker.ids.items))
    outside e all = subst (λ n. All WellMade (put_outside o (record { notes = n; trees = map (tree trees) maker.ids.items })).trees) e all

abbrev making : ℕ → List Tree → Making
making n ts = record { notes = n; trees = ts }

-- an operator outside of notes puts a node, and inside nothing
step_is : (m : Making) (c : Code) (o : Op) → operator c ≡ Some o → make_step m c ≡ put_outside o m
step_is m (code.Operator q) o e = ap (λ k. put_outside k m) (same_some e)
step_is m (code.Call false at x n) o e = ap (λ k. put_outside k m) (same_some e)
step_is m (code.Call true at x n) o e = ap (λ k. put_outside k m) (same_some e)
step_is m (code.System at items) o e = ap (λ k. put_outside k m) (same_some e)
step_is m code.Notes o e = absurd cc
step_is m (code.EndNotes n) o e = absurd cc

not_zero : (n : ℕ) → (suc n == 0) ≡ false
not_zero n = grind (arith, nat_tests)

nothing_inside : (o : Op) (n : ℕ) (ts : List Tree) → put_outside o (making (suc n) ts) ≡ making (suc n) ts
nothing_inside o n ts = ap (λ b. cond b (making 0 (put o ts)) (making (suc n) ts)) (not_zero n)

-- what a phrase's code does to the stack: outside of notes it leaves its tree there, and inside nothing
record Makes (p : Phrase) : Type 0 where
  outside : (ts : List Tree) → fold make_step (making 0 ts) (postfix p) ≡ making 0 (ts ++ erase p ∷ [])
  inside : (n : ℕ) (ts : List Tree) → fold make_step (making (suc n) ts) (postfix p) ≡ making (suc n) ts

all_outside : (ps : List Phrase) → All Makes ps → (ts : List Tree) → fold make_step (making 0 ts) (flat_map postfix ps) ≡ making 0 (ts ++ map erase ps)
all_outside [] all ts = ap (making 0) (sym (append-nil ts))
all_outside (p ∷ ps) all ts =
    fold-append make_step (making 0 ts) (postfix p) (flat_map postfix ps)
    ∙ ap (λ m. fold make_step m (flat_map postfix ps)) ((All-head Makes p ps all).outside ts)
    ∙ all_outside ps (All-tail Makes p ps all) (ts ++ erase p ∷ [])
    ∙ ap (making 0) (append_assoc ts (erase p ∷ []) (map erase ps))

all_inside : (ps : List Phrase) → All Makes ps → (n : ℕ) (ts : List Tree) → fold make_step (making (suc n) ts) (flat_map postfix ps) ≡ making (suc n) ts
all_inside [] all n ts = refl
all_inside (p ∷ ps) all n ts =
    fold-append make_step (making (suc n) ts) (postfix p) (flat_map postfix ps)
    ∙ ap (λ m. fold make_step m (flat_map postfix ps)) ((All-head Makes p ps all).inside n ts)
    ∙ all_inside ps (All-tail Makes p ps all) n ts

module _ {p : Phrase} (c : Code) (o : Op) (w : IsOver p c o) (all : All Makes (parts p)) where
  put_parts : (ts : List Tree) → put o (ts ++ map erase (parts p)) ≡ ts ++ erase p ∷ []
  put_parts ts =
      let n : length (kid_sorts o) ≡ length (map erase (parts p)) = sym w.long ∙ sym (length-map (parts p) erase) in
      let under = below_is ts (map erase (parts p)) (length (kid_sorts o)) n in
      let kids : node o (forest (top (length (kid_sorts o)) (ts ++ map erase (parts p)))) ≡ erase p =
      ap (λ us. node o (forest us)) (top_is ts (map erase (parts p)) (length (kid_sorts o)) n) ∙ sym w.tree_is in
      λ i. under i ++ kids i ∷ []

  over_makes : Makes p
  over_makes = record {
    outside = λ ts. ap (fold make_step (making 0 ts)) w.spelled ∙ fold-append make_step (making 0 ts) (flat_map postfix (parts p)) (c ∷ [])
        ∙ ap (λ m. make_step m c) (all_outside (parts p) all ts)
        ∙ step_is (making 0 (ts ++ map erase (parts p))) c o w.operator_is ∙ ap (making 0) (put_parts ts);
    inside = λ n ts. ap (fold make_step (making (suc n) ts)) w.spelled ∙ fold-append make_step (making (suc n) ts) (flat_map postfix (parts p)) (c ∷ [])
        ∙ ap (λ m. make_step m c) (all_inside (parts p) all n ts)
        ∙ step_is (making (suc n) ts) c o w.operator_is ∙ nothing_inside o n ts;
  }

module _ (q : Phrase) (l : Phrases) (all : All Makes (q ∷ phrases_in l)) where
  -- the code of a program, and what the formulas beside it do
  beside_makes : (m : Making) (n : ℕ) (ts : List Tree) → fold make_step m (postfix q) ≡ making n ts → fold make_step m (postfix (Noted q l)) ≡ making n ts
  beside_makes m n ts e =
      let ending = code.EndNotes (count l) ∷ [] in
      let one_more : n + 1 ≡ suc n = add-one n in
      let one_less : suc n - 1 ≡ n = omega arith in
      fold-append make_step m (postfix q) (code.Notes ∷ (postfix_all l ++ ending))
      ∙ ap (λ k. fold make_step k (code.Notes ∷ (postfix_all l ++ ending))) e
      ∙ ap (λ c. fold make_step (making (n + 1) ts) (c ++ ending)) (postfix_all_is l)
      ∙ ap (λ k. fold make_step (making k ts) (flat_map postfix (phrases_in l) ++ ending)) one_more
      ∙ fold-append make_step (making (suc n) ts) (flat_map postfix (phrases_in l)) ending
      ∙ ap (λ k. make_step k (code.EndNotes (count l))) (all_inside (phrases_in l) (All-tail Makes q (phrases_in l) all) n ts)
      ∙ ap (λ k. making k ts) one_less

  noted_makes : Makes (Noted q l)
  noted_makes = record {
    outside = λ ts. beside_makes (making 0 ts) 0 (ts ++ erase q ∷ []) ((All-head Makes q (phrases_in l) all).outside ts);
    inside = λ n ts. beside_makes (making (suc n) ts) (suc n) ts ((All-head Makes q (phrases_in l) all).inside n ts);
  }

by_view : {p : Phrase} → View p → All Makes (parts p) → Makes p
by_view (over {p} c o w) all = over_makes c o w all
by_view (noted q l) all = noted_makes q l all

each_makes : (p : Phrase) → Makes p
each_makes p = of_each Makes (λ q all. by_view (view q) all) p

-- the code of phrases leaves their trees
pub phrases_made : (ps : List Phrase) → fold make_step (making 0 []) (flat_map postfix ps) ≡ making 0 (map erase ps)
phrases_made ps = all_outside ps (λ k d h. each_makes (get_or ps k d)) []

-- what was well made at the end was so before
kids_well_made : (ts : List Tree) → ForestWellMade (forest ts) → All WellMade ts
kids_well_made [] w = All-nil WellMade
kids_well_made (t ∷ ts) w = All-cons WellMade t ts w.0 (kids_well_made ts w.1)

before_put : (o : Op) (ts : List Tree) → All WellMade (put o ts) → All WellMade ts
before_put o ts all =
    let n = length (kid_sorts o) in
    let node_made : WellMade (node o (forest (top n ts))) = last_well_made (below n ts) (node o (forest (top n ts))) all in
    All-same WellMade ts (below n ts ++ top n ts) (sym (take-append-drop (length ts - n) ts))
    (All-append WellMade (below n ts) (top n ts) (front_well_made (below n ts) (node o (forest (top n ts))) all) (kids_well_made (top n ts) node_made.1))

before_outside : (o : Op) (n : ℕ) (ts : List Tree) → All WellMade (put_outside o (making n ts)).trees → All WellMade ts
before_outside o zero ts all = before_put o ts all
before_outside o (suc n) ts all = subst (λ m. All WellMade m.trees) (nothing_inside o n ts) all

before_step : (m : Making) (c : Code) → All WellMade (make_step m c).trees → All WellMade m.trees
before_step m (code.Operator o) all = before_outside o m.notes m.trees all
before_step m (code.Call holds at x n) all = before_outside (call holds x n) m.notes m.trees all
before_step m (code.System at items) all = before_outside (op.System items) m.notes m.trees all
before_step m code.Notes all = all
before_step m (code.EndNotes n) all = all

pub before : (m : Making) (cs : List Code) → All WellMade (fold make_step m cs).trees → All WellMade m.trees
before m [] all = all
before m (c ∷ cs) all = before_step m c (before (make_step m c) cs all)

-- the rest of a code, whose first node is put next
pub next_well_made : (m : Making) (c : Code) (code rest after : List Code) → IsWellMade code → fold make_step m rest ≡ fold make_step (making 0 []) code →
    rest ≡ c ∷ after → AllWellMade (make_step m c)
next_well_made m c code rest after w ends e =
    let same : fold make_step (make_step m c) after ≡ making 0 (map erase w.phrases) = ap (fold make_step m) (sym e) ∙ ends
    ∙ ap (fold make_step (making 0 [])) w.code_is ∙ phrases_made w.phrases in
    record { each = before (make_step m c) after (subst (λ k. All WellMade k.trees) (sym same) (All-map WellMade erase w.phrases w.well_made)) }

-- nothing of the code is left
pub all_made : (trees : List Tree) (maker : Maker) (code rest : List Code) → All (IsId trees) maker.ids.items →
    fold make_step (making_at trees maker) rest ≡ fold make_step (making 0 []) code → length rest ≡ 0 → AreMade code trees maker.ids.items
all_made trees maker code rest known ends e = record {
  known = known;
  of_phrases = λ ps is. ap (λ m. m.trees) (ap (fold make_step (making_at trees maker)) (sym (nil_from_length rest e)) ∙ ends
      ∙ ap (fold make_step (making 0 [])) is ∙ phrases_made ps);
}
