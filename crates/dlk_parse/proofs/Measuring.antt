-- What is measured of a code is the measures of its phrases.
use Rattle.std.proofs.Common.{◌≡◌, ℕ, ◌+◌, min, List, [], ◌∷◌, ◌++◌, length, map, Option, Some, None, Bool, true, false, refl, sym, ap, ◌∙◌}
use Rattle.std.proofs.Common.{append_assoc, arith, get_or, fold}
use Rattle.std.specs.Prelude.{max, All, nat_lt, flat_map}
use Rattle.std.proofs.lemmas.List.{append-nil, length-map}
use Rattle.std.proofs.lemmas.List.Sums.{fold-append}
use Rattle.std.proofs.lemmas.List.Elements.{All-head, All-tail}
use Rattle.dlk_tree.specs.Trees.{Tree, node, forest, size, size_all, depth, depth_all}
use Rattle.dlk_tree.specs.Table.{evolved}
use Rattle.dlk_tree.specs.declared.op.Op.{Op}
use Rattle.dlk_tree.specs.declared.op.Op.TheVariants as op
use Rattle.dlk_grammar.specs.Phrases.{Phrase, Phrases, Noted}
use Rattle.dlk_grammar.specs.Erased.{count, erase, place_if, ills, lowest}
use Rattle.dlk_grammar.specs.Readings.{phrases_in}
use Rattle.dlk_reader.specs.Codes.{postfix, postfix_all}
use Rattle.dlk_parse.specs.Measures.{measure}
use Rattle.dlk_parse.specs.Measuring.{lesser, place_when, with_kid, raised, over_kids, joined, beside, measure_step, are_ill}
use Rattle.dlk_reader.specs.declared.code.Code.{Code}
use Rattle.dlk_reader.specs.declared.code.Code.TheVariants as code
use Rattle.dlk_parse.specs.declared.measures.Measure.{Measure}
use Rattle.dlk_parse.proofs.PhraseParts.{parts, of_each, operator, place_of, IsOver, View, over, noted, view, pops, pops_are, count_is}
use Rattle.dlk_parse.proofs.PhraseParts.{postfix_all_is, ills_of_all_is}
use Rattle.dlk_parse.proofs.Stacked.{top_is, below_is}

-- the lesser of two places
pub lesser_none : (a : Option ℕ) → lesser a None ≡ a
lesser_none None = refl
lesser_none (Some a) = refl

pub lesser_assoc : (a b c : Option ℕ) → lesser (lesser a b) c ≡ lesser a (lesser b c)
lesser_assoc None b c = refl
lesser_assoc (Some a) None c = refl
lesser_assoc (Some a) (Some b) None = refl
lesser_assoc (Some a) (Some b) (Some c) = ap Some (min_assoc a b c)
  where
    min_assoc : (a b c : ℕ) → min (min a b) c ≡ min a (min b c)
    min_assoc a b c = omega arith

least_more : (n m : ℕ) (ms : List ℕ) → fold min (min n m) ms ≡ min n (fold min m ms)
least_more n m [] = refl
least_more n m (k ∷ ms) = ap (λ a. fold min a ms) (min_assoc n m k) ∙ least_more n (min m k) ms
  where
    min_assoc : (a b c : ℕ) → min (min a b) c ≡ min a (min b c)
    min_assoc a b c = omega arith

pub lowest-append : (ns ms : List ℕ) → lowest (ns ++ ms) ≡ lesser (lowest ns) (lowest ms)
lowest-append [] ms = refl
lowest-append (n ∷ ns) [] = ap (λ l. lowest (n ∷ l)) (append-nil ns)
lowest-append (n ∷ ns) (m ∷ ms) = ap Some (fold-append min n ns (m ∷ ms) ∙ least_more (fold min n ns) m ms)

least_place : (ill : Bool) (at : ℕ) → lowest (place_if ill at) ≡ place_when ill at
least_place true at = refl
least_place false at = refl

-- the measures of a node whose kids so far have this size and this depth
so_far : Option ℕ → ℕ → ℕ → Measure
so_far ill s d = record { ill = ill; size = min s 4294967295; depth = min d 4294967295 }

sizes_join : (s a b : ℕ) → min (min s 4294967295 + min a 4294967295) 4294967295 ≡ min (s + a) 4294967295
sizes_join s a b = omega arith

depths_join : (d a : ℕ) → max (min d 4294967295) (min a 4294967295) ≡ min (max d a) 4294967295
depths_join d a = omega arith

max_assoc : (a b c : ℕ) → max (max a b) c ≡ max a (max b c)
max_assoc a b c = omega arith

add_assoc' : (a b c : ℕ) → (a + b) + c ≡ a + (b + c)
add_assoc' a b c = omega arith

one_kid : (ill : Option ℕ) (s d : ℕ) (p : Phrase) →
    with_kid (so_far ill s d) (measure p) ≡ so_far (lesser ill (lowest (ills p))) (s + size (erase p)) (max d (depth (erase p)))
unfolding so_far
one_kid ill s d p = λ i. record { ill = lesser ill (lowest (ills p)); size = sizes_join s (size (erase p)) 0 i; depth = depths_join d (depth (erase p)) i }

so_far-same : {a b : Option ℕ} {s r d e : ℕ} → a ≡ b → s ≡ r → d ≡ e → so_far a s d ≡ so_far b r e
so_far-same f g h = λ i. so_far (f i) (g i) (h i)

max_zero : (d : ℕ) → d ≡ max d 0
max_zero d = omega arith

with_kids : (ps : List Phrase) (ill : Option ℕ) (s d : ℕ) →
    fold with_kid (so_far ill s d) (map measure ps) ≡ so_far (lesser ill (lowest (flat_map ills ps))) (s + size_all (forest (map erase ps)))
    (max d (depth_all (forest (map erase ps))))
with_kids [] ill s d = so_far-same (sym (lesser_none ill)) (omega arith) (max_zero d)
with_kids (p ∷ ps) ill s d =
    ap (λ m. fold with_kid m (map measure ps)) (one_kid ill s d p)
    ∙ with_kids ps (lesser ill (lowest (ills p))) (s + size (erase p)) (max d (depth (erase p)))
    ∙ so_far-same (lesser_assoc ill (lowest (ills p)) (lowest (flat_map ills ps)) ∙ ap (lesser ill) (sym (lowest-append (ills p) (flat_map ills ps))))
    (add_assoc' s (size (erase p)) (size_all (forest (map erase ps))))
    (max_assoc d (depth (erase p)) (depth_all (forest (map erase ps))))

-- the measures of a tree
tree_measure : Option ℕ → Tree → Measure
tree_measure ill t = record { ill = ill; size = min (size t) 4294967295; depth = min (depth t) 4294967295 }

raised_depth : (d : ℕ) → min (min (max 0 d) 4294967295 + 1) 4294967295 ≡ min (1 + d) 4294967295
raised_depth d = omega arith

kids_measure : (ill : Option ℕ) (o : Op) (ps : List Phrase) →
    over_kids ill (map measure ps) ≡ tree_measure (lesser ill (lowest (flat_map ills ps))) (node o (forest (map erase ps)))
unfolding so_far tree_measure
kids_measure ill o ps =
    let e : fold with_kid (record { ill = ill; size = 1; depth = 0 }) (map measure ps) ≡ so_far (lesser ill (lowest (flat_map ills ps)))
    (1 + size_all (forest (map erase ps))) (max 0 (depth_all (forest (map erase ps)))) = with_kids ps ill 1 0 in
    ap raised e ∙ (λ i. record {
      ill = lesser ill (lowest (flat_map ills ps));
      size = min (1 + size_all (forest (map erase ps))) 4294967295;
      depth =
          raised_depth (depth_all (forest (map erase ps))) i;
    })

measure-same : (p : Phrase) (places : List ℕ) (t : Tree) → ills p ≡ places → erase p ≡ t → measure p ≡ tree_measure (lowest places) t
unfolding tree_measure
measure-same p places t f g = λ i. record { ill = lowest (f i); size = min (size (g i)) 4294967295; depth = min (depth (g i)) 4294967295 }

-- one code over what is on the stack
step_is : (stack : List Measure) (c : Code) (o : Op) → operator c ≡ Some o → measure_step stack c ≡ joined (pops c) (lowest (place_of c)) stack
step_is stack (code.Operator q) o e = refl
step_is stack (code.Call holds at x n) o e = ap (λ ill. joined n ill stack) (sym (least_place (nat_lt 8 n) at))
step_is stack (code.System at items) o e = ap (λ ill. joined (length (evolved items) + 1) ill stack) (sym (least_place (are_ill items) at))
step_is stack code.Notes o e = absurd cc
step_is stack (code.EndNotes n) o e = absurd cc

joined_is : (s ms : List Measure) (n : ℕ) (ill : Option ℕ) → n ≡ length ms → joined n ill (s ++ ms) ≡ s ++ over_kids ill ms ∷ []
joined_is s ms n ill e = λ i. below_is s ms n e i ++ over_kids ill (top_is s ms n e i) ∷ []

over_step : (p : Phrase) (c : Code) (o : Op) → IsOver p c o → (s : List Measure) → measure_step (s ++ map measure (parts p)) c ≡ s ++ measure p ∷ []
over_step p c o w s =
    let n : pops c ≡ length (map measure (parts p)) = pops_are c o w.operator_is ∙ sym w.long ∙ sym (length-map (parts p) measure) in
    let m : over_kids (lowest (place_of c)) (map measure (parts p)) ≡ measure p =
    kids_measure (lowest (place_of c)) o (parts p)
    ∙ ap (λ ill. tree_measure ill (node o (forest (map erase (parts p))))) (sym (lowest-append (place_of c) (flat_map ills (parts p))))
    ∙ sym (measure-same p (place_of c ++ flat_map ills (parts p)) (node o (forest (map erase (parts p)))) w.places w.tree_is) in
    step_is (s ++ map measure (parts p)) c o w.operator_is ∙ joined_is s (map measure (parts p)) (pops c) (lowest (place_of c)) n ∙ ap (λ k. s ++ k ∷ []) m

-- formulas beside a program
beside_is : (q : Phrase) (l : Phrases) → beside (measure q ∷ map measure (phrases_in l)) ≡ measure (Noted q l) ∷ []
unfolding tree_measure
beside_is q l =
    let places : lesser (lowest (ills q)) (lowest (flat_map ills (phrases_in l))) ≡ lowest (ills (Noted q l)) =
    sym (lowest-append (ills q) (flat_map ills (phrases_in l))) ∙ ap (λ ns. lowest (ills q ++ ns)) (sym (ills_of_all_is l)) in
    let k = kids_measure (lowest (ills q)) op.Loop (phrases_in l) in
    λ i. record { ill = (ap (λ m. m.ill) k ∙ places) i; size = min (size (erase q)) 4294967295; depth = min (depth (erase q)) 4294967295 } ∷ []

Measured : Phrase → Type 0
Measured p = (s : List Measure) → fold measure_step s (postfix p) ≡ s ++ measure p ∷ []

all_measured : (ps : List Phrase) → All Measured ps → (s : List Measure) → fold measure_step s (flat_map postfix ps) ≡ s ++ map measure ps
unfolding Measured
all_measured [] h s = sym (append-nil s)
all_measured (p ∷ ps) h s =
    fold-append measure_step s (postfix p) (flat_map postfix ps)
    ∙ ap (λ r. fold measure_step r (flat_map postfix ps)) (All-head Measured p ps h s)
    ∙ all_measured ps (All-tail Measured p ps h) (s ++ measure p ∷ [])
    ∙ append_assoc s (measure p ∷ []) (map measure ps)

noted_step : (q : Phrase) (l : Phrases) (s : List Measure) →
    measure_step ((s ++ measure q ∷ []) ++ map measure (phrases_in l)) (code.EndNotes (count l)) ≡ s ++ measure (Noted q l) ∷ []
noted_step q l s =
    let ms = measure q ∷ map measure (phrases_in l) in
    let n : count l + 1 ≡ length ms = omega (arith, count_is l, length-map (phrases_in l) measure) in
    let parted : (s ++ measure q ∷ []) ++ map measure (phrases_in l) ≡ s ++ ms = append_assoc s (measure q ∷ []) (map measure (phrases_in l)) in
    ap (λ r. measure_step r (code.EndNotes (count l))) parted
    ∙ (λ i. below_is s ms (count l + 1) n i ++ beside (top_is s ms (count l + 1) n i))
    ∙ ap (λ r. s ++ r) (beside_is q l)

by_view : {p : Phrase} → View p → All Measured (parts p) → (s : List Measure) → fold measure_step s (postfix p) ≡ s ++ measure p ∷ []
unfolding Measured
by_view (over {p} c o w) all s =
    ap (fold measure_step s) w.spelled
    ∙ fold-append measure_step s (flat_map postfix (parts p)) (c ∷ [])
    ∙ ap (λ r. measure_step r c) (all_measured (parts p) all s)
    ∙ over_step p c o w s
by_view (noted q l) all s =
    let ending = code.EndNotes (count l) ∷ [] in
    fold-append measure_step s (postfix q) (code.Notes ∷ (postfix_all l ++ ending))
    ∙ ap (λ r. fold measure_step r (postfix_all l ++ ending)) (All-head Measured q (phrases_in l) all s)
    ∙ ap (λ c. fold measure_step (s ++ measure q ∷ []) (c ++ ending)) (postfix_all_is l)
    ∙ fold-append measure_step (s ++ measure q ∷ []) (flat_map postfix (phrases_in l)) ending
    ∙ ap (λ r. measure_step r (code.EndNotes (count l))) (all_measured (phrases_in l) (All-tail Measured q (phrases_in l) all) (s ++ measure q ∷ []))
    ∙ noted_step q l s

rule : (p : Phrase) → All Measured (parts p) → Measured p
unfolding Measured
rule p all s = by_view (view p) all s

each_measured : (p : Phrase) → Measured p
each_measured p = of_each Measured rule p

pub phrases_measured : (ps : List Phrase) → fold measure_step [] (flat_map postfix ps) ≡ map measure ps
phrases_measured ps = all_measured ps (λ k d h. each_measured (get_or ps k d)) []
