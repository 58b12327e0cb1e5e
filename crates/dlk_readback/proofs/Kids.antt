-- The kids of applications and systems, and their texts.
use Rattle.std.proofs.Common.{◌≡◌, ℕ, zero, suc, ◌+◌, ◌==◌, Bool, true, false, cond, ◌&&◌, nat_le, List, [], ◌∷◌, ◌++◌, length, map, replicate}
use Rattle.std.proofs.Common.{flat_map, get_or, Some, refl, ap, subst, ◌∙◌}
use Rattle.std.specs.List.{join_by, list_all}
use Rattle.std.proofs.lemmas.Bool.{and_parts}
use Rattle.dlk_tree.specs.declared.op.OdeItem.{OdeItem}
use Rattle.dlk_tree.specs.declared.op.OdeItem.TheVariants.{Evolve, Const}
use Rattle.dlk_tree.specs.declared.op.Sort.{Sort}
use Rattle.dlk_tree.specs.declared.op.Sort.TheVariants.{Term, Formula}
use Rattle.dlk_tree.specs.declared.op.Op.{Op}
use Rattle.dlk_tree.specs.declared.op.Op.TheVariants as op
use Rattle.dlk_tree.specs.Table.{kid_sorts, evolved, is_item, are_items, all_distinct}
use Rattle.dlk_tree.specs.Trees.{Tree, node, root, Forest, no_kids, kid, forest, trees_in, sort, sorts, WellMade, AllWellMade}
use Rattle.dlk_grammar.specs.declared.token.Mark.TheVariants as mark
use Rattle.dlk_grammar.specs.Shown.{Piece, mark, style, opening, between, closing, items_of, shown_at, shown_kids, shown, joined, item_texts, is_true}
use Rattle.dlk_grammar.specs.Shown.{domain_text, inside}
use Rattle.dlk_readback.proofs.Rows.{AllKids, none_of}

-- P holds of each
abbrev pub Each : {X : Type 0} → (X → Type 0) → List X → Type 0
Each P [] = Unit {0}
Each P (t ∷ ts) = P t × Each P ts

pub each_map : {X : Type 0} (P Q : X → Type 0) (ts : List X) → ((t : X) → P t → Q t) → Each P ts → Each Q ts
each_map P Q [] h all = tt
each_map P Q (t ∷ ts) h all = (h t all.0, each_map P Q ts h all.1)

pub forest-trees : (kids : Forest) → forest (trees_in kids) ≡ kids
forest-trees no_kids = refl
forest-trees (kid t rest) = ap (kid t) (forest-trees rest)

-- the text of a node without brackets
abbrev pub body : Op → Forest → List Piece
body o kids = opening o ++ (inside (items_of o) (between o) (trees_in kids) (shown_kids o 0 kids) ++ closing o)

abbrev pub texts_of : List Tree → List (List Piece)
texts_of ts = map (shown_at 1) ts

abbrev pub comma : List Piece
comma = mark mark.Comma ∷ []

-- kids of any level
pub any_kids : (o : Op) → (style o).first ≡ 1 → (style o).later ≡ 1 → (i : ℕ) (kids : Forest) → shown_kids o i kids ≡ texts_of (trees_in kids)
any_kids o e f i no_kids = refl
any_kids o e f i (kid t rest) = ap (λ (l : List Piece). l ∷ shown_kids o (i + 1) rest) (by_place (i == 0))
    ∙ ap (λ (l : List (List Piece)). shown_at 1 t ∷ l) (any_kids o e f (i + 1) rest)
  where
    by_place : (b : Bool) → shown_at (cond b (style o).first (style o).later) t ≡ shown_at 1 t
    by_place true = ap (λ (l : ℕ). shown_at l t) e
    by_place false = ap (λ (l : ℕ). shown_at l t) f

flat_map-map : (sep : List Piece) (ts : List Tree) → flat_map (λ x. sep ++ x) (texts_of ts) ≡ flat_map (λ t. sep ++ shown_at 1 t) ts
flat_map-map sep [] = refl
flat_map-map sep (t ∷ ts) = ap (λ (l : List Piece). (sep ++ shown_at 1 t) ++ l) (flat_map-map sep ts)

pub joined-texts : (sep : List Piece) (ts : List Tree) → joined sep (texts_of ts) ≡ join_by shown sep ts
joined-texts sep [] = refl
joined-texts sep (t ∷ ts) = ap (λ (l : List Piece). shown_at 1 t ++ l) (flat_map-map sep ts)

-- the arguments of an application
pub args_of : (K : Sort → Tree → Type 0) (k : ℕ) (kids : Forest) → sorts kids ≡ replicate k Term → AllKids K kids →
    Each (K Term) (trees_in kids) × (length (trees_in kids) ≡ k)
args_of K zero no_kids e all = (tt, refl)
args_of K zero (kid t rest) e all = absurd cc
args_of K (suc k) no_kids e all = absurd cc
args_of K (suc k) (kid t rest) e all =
    let at : sort t ≡ Term = cc in
    let tail : sorts rest ≡ replicate k Term = cc in
    let more = args_of K k rest tail all.1 in
    ((subst (λ (u : Sort). K u t) at all.0, more.0), ap suc more.1)

-- P holds of the right sides of items, and there are as many as evolved names
abbrev pub Sides : (Tree → Type 0) → List OdeItem → List Tree → Type 0
Sides P [] ts = Unit {0}
Sides P (Evolve x ∷ items) [] = ⊥
Sides P (Evolve x ∷ items) (t ∷ ts) = P t × Sides P items ts
Sides P (Const s ∷ items) ts = Sides P items ts

-- the right sides of items
abbrev pub sides_of : List OdeItem → List Tree → List Tree
sides_of [] ts = []
sides_of (Evolve x ∷ items) [] = []
sides_of (Evolve x ∷ items) (t ∷ ts) = t ∷ sides_of items ts
sides_of (Const s ∷ items) ts = sides_of items ts

-- the kids of a system: the right sides of its items, and its domain
pub record SystemKids (K : Sort → Tree → Type 0) (items : List OdeItem) (kids : Forest) : Type 0 where
  pub domain : Tree
  pub sides : Sides (K Term) items (trees_in kids)
  pub domain_at : get_or (trees_in kids) (length (evolved items)) (node op.True no_kids) ≡ domain
  pub text_at : get_or (texts_of (trees_in kids)) (length (evolved items)) [] ≡ shown_at 1 domain
  pub all : trees_in kids ≡ sides_of items (trees_in kids) ++ domain ∷ []
  pub holds : K Formula domain
  pub made : WellMade domain

pub system_kids : (K : Sort → Tree → Type 0) (items : List OdeItem) (kids : Forest) → sorts kids ≡ replicate (length (evolved items)) Term ++ Formula ∷ [] →
    AllKids K kids → AllWellMade kids → SystemKids K items kids
system_kids K [] no_kids e all w = absurd cc
system_kids K [] (kid t no_kids) e all w = let at : sort t ≡ Formula = cc in
    record { domain = t; sides = tt; domain_at = refl; text_at = refl; all = refl; holds = subst (λ (u : Sort). K u t) at all.0; made = w.0 }
system_kids K [] (kid t (kid u rest)) e all w = absurd cc
system_kids K (Const s ∷ items) kids e all w =
    let k = system_kids K items kids e all w in
    record { domain = k.domain; sides = k.sides; domain_at = k.domain_at; text_at = k.text_at; all = k.all; holds = k.holds; made = k.made }
system_kids K (Evolve x ∷ items) no_kids e all w = absurd cc
system_kids K (Evolve x ∷ items) (kid t rest) e all w =
    let at : sort t ≡ Term = cc in
    let tail : sorts rest ≡ replicate (length (evolved items)) Term ++ Formula ∷ [] = cc in
    let k = system_kids K items rest tail all.1 w.1 in
    record {
      domain = k.domain;
      sides = (subst (λ (u : Sort). K u t) at all.0, k.sides);
      domain_at = k.domain_at;
      text_at = k.text_at;
      all =
          ap (λ (l : List Tree). t ∷ l) {y = sides_of items (trees_in rest) ++ k.domain ∷ []} k.all;
      holds = k.holds;
      made = k.made;
    }

is_true_is : (o : Op) → is_true o ≡ true → o ≡ op.True
is_true_is op.True h = refl
is_true_is _ h = absurd cc

pub truth : (t : Tree) → WellMade t → is_true (root t) ≡ true → t ≡ node op.True no_kids
truth (node o kids) w h =
    let o-is = is_true_is o h in
    let none : sorts kids ≡ [] = w.0.kids_fit ∙ ap (λ (p : Op). kid_sorts p) o-is in
    none_of (λ (ks : Forest). node o ks ≡ node op.True no_kids) kids none (ap (λ (p : Op). node p no_kids) o-is)

-- what stands between a system's braces
abbrev pub system_inside : List OdeItem → List Tree → Tree → List Piece
system_inside items ts domain = joined comma (item_texts items (texts_of ts)) ++ domain_text domain (shown_at 1 domain)

pub inside_is : (K : Sort → Tree → Type 0) (items : List OdeItem) (kids : Forest) (k : SystemKids K items kids) →
    inside (Some items) comma (trees_in kids) (shown_kids (op.System items) 0 kids) ≡ system_inside items (trees_in kids) k.domain
inside_is K items kids k =
    let front = joined comma (item_texts items (texts_of (trees_in kids))) in
    ap (inside (Some items) comma (trees_in kids)) (any_kids (op.System items) refl refl 0 kids)
    ∙ ap (λ (l : List Piece). front ++ domain_text (get_or (trees_in kids) (length (evolved items)) (node op.True no_kids)) l) k.text_at
    ∙ ap (λ (t : Tree). front ++ domain_text t (shown_at 1 k.domain)) k.domain_at

-- the items of a system are as they must be
pub real_items : (items : List OdeItem) → are_items items ≡ true → list_all is_item items ≡ true
real_items items h =
    let w = and_parts (nat_le 1 (length items) && nat_le (length items) 64 && list_all is_item items) (all_distinct (evolved items)) h in
    (and_parts (nat_le 1 (length items) && nat_le (length items) 64) (list_all is_item items) w.0).1
