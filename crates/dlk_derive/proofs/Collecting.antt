-- Uses that are added one after another.
use Rattle.std.proofs.Common.{◌≡◌, ◌∙◌, refl, sym, ap, ℕ, zero, suc, ◌+◌, ◌<◌, ◌≤◌, min, List, [], ◌∷◌, ◌++◌, map, drop, length, get_or, inl, inr}
use Rattle.std.proofs.Common.{Bor, append_assoc, drop-cons, add-one, arith}
use Rattle.std.proofs.lemmas.List.{append-nil, map-append, length-map, get_or-map, drop_all}
use Rattle.std.proofs.lemmas.Bool.{cases_lt}
use Rattle.std.specs.Prelude.{All}
use Rattle.dlk_tree.specs.declared.op.Op.{Op}
use Rattle.dlk_tree.specs.Trees.{Tree, node, Forest, no_kids, kid}
use Rattle.dlk_store.specs.declared.Id.{Id}
use Rattle.dlk_store.specs.Stores.{tree, kid_trees}
use Rattle.dlk_store.proofs.Kids.{kid_trees-drop}
use Rattle.dlk_sequent.specs.declared.sequent.Place.{Place}
use Rattle.dlk_tacsyn.specs.declared.tactic.Atom.{Atom}
use Rattle.dlk_tacsyn.specs.Ties.{atom_at, AtomIsKnown}
use Rattle.dlk_derive.specs.Derives.{use_of}
use Rattle.dlk_derive.specs.Plans.{Call, below, axiom_for, ways_for, plan, plan_all, plan_at}
use Rattle.dlk_derive.specs.Ties.{atom_of}

-- the atoms for these uses, below a path
abbrev pub uses_at : Place → List ℕ → List Call → List Atom
uses_at place path calls = map (atom_of place) (map (below path) calls)

-- the ways behind references
abbrev pub seen : List (Bor (List ℕ)) → List (List ℕ)
seen ways = map (λ (way : Bor (List ℕ)). way.now) ways

below_below : (path way : List ℕ) (calls : List Call) → map (below path) (map (below way) calls) ≡ map (below (path ++ way)) calls
below_below path way [] = refl
below_below path way (c ∷ calls) =
    let head = ap (λ p. record { its_axiom = c.its_axiom; path = p }) (sym (append_assoc path way c.path)) in
    let tail = below_below path way calls in
    λ i. head i ∷ tail i

-- the use of the own axiom, and all that come
pub begins : (place : Place) (path : List ℕ) (old new : List Atom) (t : Tree) (op : Op) (kids : Forest) → t ≡ node op kids →
    new ≡ old ++ atom_of place (record { its_axiom = axiom_for op; path = path }) ∷ [] →
    new ++ uses_at place path (plan_all (ways_for op) kids) ≡ old ++ map (atom_of place) (plan_at t path)
begins place path old new t op kids e is =
    let own : List ℕ → Atom = λ p. atom_of place (record { its_axiom = axiom_for op; path = p }) in
    let rest = uses_at place path (plan_all (ways_for op) kids) in
    ap (λ us. us ++ rest) is ∙ append_assoc old (own path ∷ []) rest ∙ ap (λ p. old ++ own p ∷ rest) (sym (append-nil path))
    ∙ ap (λ u. old ++ map (atom_of place) (plan_at u path)) (sym e)

-- those for one kid more
goes_on : (place : Place) (path way : List ℕ) (ways : List (List ℕ)) (t : Tree) (rest : Forest) (old new every : List Atom) →
    old ++ uses_at place path (plan_all (way ∷ ways) (kid t rest)) ≡ every → new ≡ old ++ map (atom_of place) (plan_at t (path ++ way)) →
    new ++ uses_at place path (plan_all ways rest) ≡ every
goes_on place path way ways t rest old new every e is =
    let A = atom_of place in
    let others = plan_all ways rest in
    let last = uses_at place path others in
    let moved : map (below path) (plan_all (way ∷ ways) (kid t rest)) ≡ plan_at t (path ++ way) ++ map (below path) others =
    map-append (below path) (map (below way) (plan t)) others ∙ ap (λ cs. cs ++ map (below path) others) (below_below path way (plan t)) in
    let parted = ap (map A) moved ∙ map-append A (plan_at t (path ++ way)) (map (below path) others) in
    ap (λ us. us ++ last) is ∙ append_assoc old (map A (plan_at t (path ++ way))) last ∙ ap (λ us. old ++ us) (sym parted) ∙ e

-- the way at a place, and those behind it
next_way : (ways : List (Bor (List ℕ))) (n : ℕ) (w : Bor (List ℕ)) → n < length ways →
    drop n (seen ways) ≡ (get_or ways n w).now ∷ drop (n + 1) (seen ways)
next_way ways n w h =
    let there : n < length (seen ways) = omega (arith, length-map ways (λ (way : Bor (List ℕ)). way.now)) in
    rw (drop-cons (seen ways) n w.now there, add-one)
    (ap (λ v. v ∷ drop (suc n) (seen ways)) (get_or-map (λ (way : Bor (List ℕ)). way.now) ways n w w.now h))

-- the same at a place in the lists
pub next : (place : Place) (path longer : List ℕ) (ways : List (Bor (List ℕ))) (trees : List Tree) (ks : List Id) (n : ℕ) (w : Bor (List ℕ)) (d : Id)
    (old new every : List Atom) → n < length ways → n < length ks → longer ≡ path ++ (get_or ways n w).now →
    new ≡ old ++ map (atom_of place) (plan_at (tree trees (get_or ks n d)) longer) →
    old ++ uses_at place path (plan_all (drop n (seen ways)) (kid_trees trees (drop n ks))) ≡ every →
    new ++ uses_at place path (plan_all (drop (n + 1) (seen ways)) (kid_trees trees (drop (n + 1) ks))) ≡ every
next place path longer ways trees ks n w d old new every in_ways in_kids longer_is is e =
    let t = tree trees (get_or ks n d) in
    let way = next_way ways n w in_ways in
    let first = kid_trees-drop trees ks n d in_kids in
    goes_on place path (get_or ways n w).now (drop (n + 1) (seen ways)) t (kid_trees trees (drop (n + 1) ks)) old new every
    ((λ i. old ++ uses_at place path (plan_all (sym way i) (sym first i))) ∙ e) (is ∙ ap (λ q. old ++ map (atom_of place) (plan_at t q)) longer_is)

without_kids : (ways : List (List ℕ)) → plan_all ways no_kids ≡ []
without_kids [] = refl
without_kids (way ∷ ways) = refl

-- no way is left, or no kid
none_left : (ways : List (List ℕ)) (trees : List Tree) (ks : List Id) (n : ℕ) → min (length ways) (length ks) ≤ n →
    plan_all (drop n ways) (kid_trees trees (drop n ks)) ≡ []
none_left ways trees ks n h = elim (cases_lt n (length ways)) as (λ _. plan_all (drop n ways) (kid_trees trees (drop n ks)) ≡ []) [
  | inl more ↦ ap (λ js. plan_all (drop n ways) (kid_trees trees js)) (drop_all n ks (omega arith)) ∙ without_kids (drop n ways)
  | inr done ↦ ap (λ ws. plan_all ws (kid_trees trees (drop n ks))) (drop_all n ways done)
]

pub ends : (place : Place) (path : List ℕ) (ways : List (Bor (List ℕ))) (trees : List Tree) (ks : List Id) (n : ℕ) (uses every : List Atom) →
    min (length ways) (length ks) ≤ n → uses ++ uses_at place path (plan_all (drop n (seen ways)) (kid_trees trees (drop n ks))) ≡ every → uses ≡ every
ends place path ways trees ks n uses every h e =
    let none = none_left (seen ways) trees ks n (rw (length-map ways (λ (way : Bor (List ℕ)). way.now)) h) in
    sym (append-nil uses) ∙ ap (λ cs. uses ++ uses_at place path cs) (sym none) ∙ e

-- ---- what the atoms are, over all trees

pub all_uses : (trees : List Tree) (place : Place) (calls : List Call) → map (atom_at trees) (map (atom_of place) calls) ≡ map (use_of 0 place) calls
all_uses trees place [] = refl
all_uses trees place (c ∷ calls) = ap (λ us. use_of 0 place c ∷ us) (all_uses trees place calls)

pub all_known : (trees : List Tree) (place : Place) (calls : List Call) → All (AtomIsKnown trees) (map (atom_of place) calls)
all_known trees place [] i d h = absurd (omega arith)
all_known trees place (c ∷ calls) zero d h = two_known
  where
    two_known : AtomIsKnown trees (atom_of place c)
    two_known zero a n = tt
    two_known (suc zero) a n = tt
    two_known (suc (suc i)) a n = absurd (omega arith)
all_known trees place (c ∷ calls) (suc i) d h = all_known trees place calls i d (omega arith)
