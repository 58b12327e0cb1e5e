-- Names exchanged in turn: part by part.
use Rattle.std.proofs.Common.{◌≡◌, refl, sym, ap, ◌∙◌, ℕ, List, [], ◌∷◌, Bool, true, false, cond, if◌then◌else◌}
use Rattle.std.specs.Str.{bytes_eq}
use Rattle.dlk_tree.specs.declared.op.Op.{Op}
use Rattle.dlk_tree.specs.Trees.{Tree, node, Forest, no_kids, kid}
use Rattle.dlk_calculus.specs.Rename.{swap_op, swap, swap_all}
use Rattle.dlk_match.specs.Matching.{exchanged}

abbrev pub Names : Type 0
Names = List (List ℕ × List ℕ)

-- a change by two names, for each pair of unlike ones in turn
abbrev pub in_turn : {A : Type 0} → (List ℕ → List ℕ → A → A) → Names → A → A
in_turn change [] a = a
in_turn change (r ∷ renames) a = in_turn change renames (if bytes_eq r.0 r.1 then a else change r.0 r.1 a)

pub exchanged_in_turn : (renames : Names) (e : Tree) → exchanged renames e ≡ in_turn swap renames e
exchanged_in_turn [] e = refl
exchanged_in_turn (r ∷ renames) e = exchanged_in_turn renames (cond (bytes_eq r.0 r.1) e (swap r.0 r.1 e))

-- what a change leaves alone stays
pub unchanged : {A : Type 0} (change : List ℕ → List ℕ → A → A) (a : A) → ((x y : List ℕ) → change x y a ≡ a) → (renames : Names) →
    in_turn change renames a ≡ a
unchanged change a same [] = refl
unchanged change a same (r ∷ renames) = ap (in_turn change renames) (go (bytes_eq r.0 r.1)) ∙ unchanged change a same renames
  where
    go : (b : Bool) → cond b a (change r.0 r.1 a) ≡ a
    go true = refl
    go false = same r.0 r.1

-- a change that goes to the one part, and one that goes to both
pub carried : {A B : Type 0} (make : A → B) (part : List ℕ → List ℕ → A → A) (whole : List ℕ → List ℕ → B → B) →
    ((x y : List ℕ) (a : A) → whole x y (make a) ≡ make (part x y a)) → (renames : Names) (a : A) →
    in_turn whole renames (make a) ≡ make (in_turn part renames a)
carried {A = A} {B = B} make part whole same [] a = refl
carried {A = A} {B = B} make part whole same (r ∷ renames) a = go (carried make part whole same renames) (bytes_eq r.0 r.1)
  where
    go : ((b : A) → in_turn whole renames (make b) ≡ make (in_turn part renames b)) → (b : Bool) →
        in_turn whole renames (cond b (make a) (whole r.0 r.1 (make a))) ≡ make (in_turn part renames (cond b a (part r.0 r.1 a)))
    go rest true = rest a
    go rest false = ap (in_turn whole renames) (same r.0 r.1 a) ∙ rest (part r.0 r.1 a)

pub carried_both : {A B C : Type 0} (make : A → B → C) (one : List ℕ → List ℕ → A → A) (two : List ℕ → List ℕ → B → B) (whole : List ℕ → List ℕ → C → C) →
    ((x y : List ℕ) (a : A) (b : B) → whole x y (make a b) ≡ make (one x y a) (two x y b)) → (renames : Names) (a : A) (b : B) →
    in_turn whole renames (make a b) ≡ make (in_turn one renames a) (in_turn two renames b)
carried_both {A = A} {B = B} make one two whole same [] a b = refl
carried_both {A = A} {B = B} make one two whole same (r ∷ renames) a b = go (carried_both make one two whole same renames) (bytes_eq r.0 r.1)
  where
    go : ((c : A) (d : B) → in_turn whole renames (make c d) ≡ make (in_turn one renames c) (in_turn two renames d)) → (t : Bool) →
        in_turn whole renames (cond t (make a b) (whole r.0 r.1 (make a b)))
        ≡ make (in_turn one renames (cond t a (one r.0 r.1 a))) (in_turn two renames (cond t b (two r.0 r.1 b)))
    go rest true = rest a b
    go rest false = ap (in_turn whole renames) (same r.0 r.1 a b) ∙ rest (one r.0 r.1 a) (two r.0 r.1 b)

-- ---- trees

pub exchanged_node : (renames : Names) (op : Op) (kids : Forest) →
    exchanged renames (node op kids) ≡ node (in_turn swap_op renames op) (in_turn swap_all renames kids)
exchanged_node renames op kids = exchanged_in_turn renames (node op kids) ∙ carried_both node swap_op swap_all swap (λ x y o ts. refl) renames op kids

pub exchanged_none : (renames : Names) → in_turn swap_all renames no_kids ≡ no_kids
exchanged_none renames = unchanged swap_all no_kids (λ x y. refl) renames

pub exchanged_kid : (renames : Names) (t : Tree) (ts : Forest) → in_turn swap_all renames (kid t ts) ≡ kid (exchanged renames t) (in_turn swap_all renames ts)
exchanged_kid renames t ts =
    carried_both kid swap swap_all swap_all (λ x y u us. refl) renames t ts ∙ ap (λ u. kid u (in_turn swap_all renames ts)) (sym (exchanged_in_turn renames t))

-- an operator that no exchange changes, over two kids
pub exchanged_two : (op : Op) → ((x y : List ℕ) → swap_op x y op ≡ op) → (renames : Names) (l r : Tree) →
    exchanged renames (node op (kid l (kid r no_kids))) ≡ node op (kid (exchanged renames l) (kid (exchanged renames r) no_kids))
exchanged_two op same renames l r =
    let o = unchanged swap_op op same renames in
    let none = exchanged_none renames in
    let last = exchanged_kid renames r no_kids ∙ ap (kid (exchanged renames r)) none in
    let both = exchanged_kid renames l (kid r no_kids) ∙ ap (kid (exchanged renames l)) last in
    exchanged_node renames op (kid l (kid r no_kids)) ∙ (λ i. node (o i) (both i))
