-- Subtrees at paths, and what is put there.
use Rattle.std.proofs.Common.{◌≡◌, refl, sym, ap, subst, ◌∙◌, ℕ, suc, zero, ◌-◌, List, [], ◌∷◌, ◌++◌, Bool}
use Rattle.std.proofs.Common.{false, Some, None, cond, arith}
use Rattle.std.proofs.lemmas.Bool.{or_parts, both_ways}
use Rattle.std.proofs.Math.Dec.{eqb-suc-zero}
use Rattle.dlk_tree.specs.declared.op.Var.{Var}
use Rattle.dlk_tree.specs.declared.op.Op.{Op}
use Rattle.dlk_tree.specs.declared.op.Op.TheVariants as Op'
use Rattle.dlk_tree.specs.Trees.{Tree, node, Forest, no_kids, kid, sort, sorts, WellMade, AllWellMade}
use Rattle.dlk_tree.specs.Occurs.{has, any_has, is_dot, is_some_dot, is_hole, has_dots, has_hole}
use Rattle.dlk_calculus.specs.Kids.{later}
use Rattle.dlk_calculus.specs.Captures.{captures, Stays}
use Rattle.dlk_calculus.specs.Plug.{IsClear, PlugAt, Plug, PlugAll, filled, filled_all}
use Rattle.dlk_calculus.specs.Paths.{subtree, subtree_in, put_at, put_in}
use Rattle.dlk_calculus.proofs.Sorts.{fits_still}
use Rattle.dlk_calculus.proofs.Lacks.{all_lack}

-- ---- one step of a path

pub subtree_nil : (e : Tree) → subtree e [] ≡ Some e
subtree_nil (node op kids) = refl

pub put_nil : (e new : Tree) → put_at e [] new ≡ new
put_nil (node op kids) new = refl

pub subtree_later : (t : Tree) (rest : Forest) (n : ℕ) (path : List ℕ) → subtree_in (kid t rest) (suc n) path ≡ subtree_in rest n path
subtree_later t rest n path = let e : suc n - 1 ≡ n = omega arith in rw (eqb-suc-zero n, e) refl

pub put_later : (t : Tree) (rest : Forest) (n : ℕ) (path : List ℕ) (new : Tree) → put_in (kid t rest) (suc n) path new ≡ kid t (put_in rest n path new)
put_later t rest n path new = let e : suc n - 1 ≡ n = omega arith in rw (eqb-suc-zero n, e) refl

some_same : {s t : Tree} → Some s ≡ Some t → s ≡ t
some_same e = cc

none_some : {s : Tree} → None ≡ Some s → ⊥
none_some e = cc

-- ---- what is put

mutual
  pub put_itself : (e : Tree) (path : List ℕ) (s : Tree) → subtree e path ≡ Some s → put_at e path s ≡ e
  put_itself (node op kids) [] s h = sym (some_same h)
  put_itself (node op kids) (n ∷ path) s h = ap (node op) (put_in_itself kids n path s h)

  put_in_itself : (kids : Forest) (n : ℕ) (path : List ℕ) (s : Tree) → subtree_in kids n path ≡ Some s → put_in kids n path s ≡ kids
  put_in_itself no_kids n path s h = refl
  put_in_itself (kid t rest) zero path s h = ap (λ u. kid u rest) (put_itself t path s h)
  put_in_itself (kid t rest) (suc n) path s h =
      put_later t rest n path s ∙ ap (kid t) (put_in_itself rest n path s (sym (subtree_later t rest n path) ∙ h))

mutual
  pub put_there : (e : Tree) (path : List ℕ) (s new : Tree) → subtree e path ≡ Some s → subtree (put_at e path new) path ≡ Some new
  put_there (node op kids) [] s new h = subtree_nil new
  put_there (node op kids) (n ∷ path) s new h = put_in_there kids n path s new h

  put_in_there : (kids : Forest) (n : ℕ) (path : List ℕ) (s new : Tree) → subtree_in kids n path ≡ Some s
      → subtree_in (put_in kids n path new) n path ≡ Some new
  put_in_there no_kids n path s new h = absurd (none_some h)
  put_in_there (kid t rest) zero path s new h = put_there t path s new h
  put_in_there (kid t rest) (suc n) path s new h =
      ap (λ kids. subtree_in kids (suc n) path) (put_later t rest n path new)
      ∙ subtree_later t (put_in rest n path new) n path ∙ put_in_there rest n path s new (sym (subtree_later t rest n path) ∙ h)

-- another tree of the same sort
module _ (s new : Tree) (same : sort new ≡ sort s) where
  pub put_sort : (e : Tree) (path : List ℕ) → subtree e path ≡ Some s → sort (put_at e path new) ≡ sort e
  put_sort (node op kids) [] h = same ∙ ap sort (sym (some_same h))
  put_sort (node op kids) (n ∷ path) h = refl

  pub put_sorts : (kids : Forest) (n : ℕ) (path : List ℕ) → subtree_in kids n path ≡ Some s → sorts (put_in kids n path new) ≡ sorts kids
  put_sorts no_kids n path h = refl
  put_sorts (kid t rest) zero path h = let e = put_sort t path h in λ i. e i ∷ sorts rest
  put_sorts (kid t rest) (suc n) path h =
      let e = put_sorts rest n path (sym (subtree_later t rest n path) ∙ h) in
      ap sorts (put_later t rest n path new) ∙ (λ i. sort t ∷ e i)

  module _ (new_made : WellMade new) where
    mutual
      pub put_made : (e : Tree) (path : List ℕ) → WellMade e → subtree e path ≡ Some s → WellMade (put_at e path new)
      put_made (node op kids) [] made h = new_made
      put_made (node op kids) (n ∷ path) made h =
          (fits_still op kids (put_in kids n path new) made.0 (put_sorts kids n path h), put_in_made kids n path made.1 h)

      put_in_made : (kids : Forest) (n : ℕ) (path : List ℕ) → AllWellMade kids → subtree_in kids n path ≡ Some s → AllWellMade (put_in kids n path new)
      put_in_made no_kids n path made h = tt
      put_in_made (kid t rest) zero path made h = (put_made t path made.0 h, made.1)
      put_in_made (kid t rest) (suc n) path made h =
          subst AllWellMade (sym (put_later t rest n path new)) (made.0, put_in_made rest n path made.1 (sym (subtree_later t rest n path) ∙ h))

-- ---- subtrees

mutual
  pub subtree_made : (e : Tree) (path : List ℕ) (s : Tree) → WellMade e → subtree e path ≡ Some s → WellMade s
  subtree_made (node op kids) [] s made h = subst WellMade (some_same h) made
  subtree_made (node op kids) (n ∷ path) s made h = subtree_in_made kids n path s made.1 h

  subtree_in_made : (kids : Forest) (n : ℕ) (path : List ℕ) (s : Tree) → AllWellMade kids → subtree_in kids n path ≡ Some s → WellMade s
  subtree_in_made no_kids n path s made h = absurd (none_some h)
  subtree_in_made (kid t rest) zero path s made h = subtree_made t path s made.0 h
  subtree_in_made (kid t rest) (suc n) path s made h = subtree_in_made rest n path s made.1 (sym (subtree_later t rest n path) ∙ h)

module _ (test : Op → Bool) where
  mutual
    pub subtree_lacks : (e : Tree) (path : List ℕ) (s : Tree) → has test e ≡ false → subtree e path ≡ Some s → has test s ≡ false
    subtree_lacks (node op kids) [] s none h = ap (has test) (sym (some_same h)) ∙ none
    subtree_lacks (node op kids) (n ∷ path) s none h = subtree_in_lacks kids n path s (or_parts _ _ none).1 h

    subtree_in_lacks : (kids : Forest) (n : ℕ) (path : List ℕ) (s : Tree) → any_has test kids ≡ false → subtree_in kids n path ≡ Some s → has test s ≡ false
    subtree_in_lacks no_kids n path s none h = absurd (none_some h)
    subtree_in_lacks (kid t rest) zero path s none h = subtree_lacks t path s (or_parts _ _ none).0 h
    subtree_in_lacks (kid t rest) (suc n) path s none h = subtree_in_lacks rest n path s (or_parts _ _ none).1 (sym (subtree_later t rest n path) ∙ h)

-- ---- paths that go on

mutual
  pub subtree_join : (e : Tree) (outer inner : List ℕ) (d : Tree) → subtree e outer ≡ Some d → subtree e (outer ++ inner) ≡ subtree d inner
  subtree_join (node op kids) [] inner d h = ap (λ t. subtree t inner) (some_same h)
  subtree_join (node op kids) (n ∷ outer) inner d h = subtree_in_join kids n outer inner d h

  subtree_in_join : (kids : Forest) (n : ℕ) (outer inner : List ℕ) (d : Tree) → subtree_in kids n outer ≡ Some d
      → subtree_in kids n (outer ++ inner) ≡ subtree d inner
  subtree_in_join no_kids n outer inner d h = absurd (none_some h)
  subtree_in_join (kid t rest) zero outer inner d h = subtree_join t outer inner d h
  subtree_in_join (kid t rest) (suc n) outer inner d h =
      subtree_later t rest n (outer ++ inner) ∙ subtree_in_join rest n outer inner d (sym (subtree_later t rest n outer) ∙ h)

mutual
  pub put_join : (e : Tree) (outer inner : List ℕ) (d new : Tree) → subtree e outer ≡ Some d
      → put_at e (outer ++ inner) new ≡ put_at e outer (put_at d inner new)
  put_join (node op kids) [] inner d new h = ap (λ t. put_at t inner new) (some_same h)
  put_join (node op kids) (n ∷ outer) inner d new h = ap (node op) (put_in_join kids n outer inner d new h)

  put_in_join : (kids : Forest) (n : ℕ) (outer inner : List ℕ) (d new : Tree) → subtree_in kids n outer ≡ Some d
      → put_in kids n (outer ++ inner) new ≡ put_in kids n outer (put_at d inner new)
  put_in_join no_kids n outer inner d new h = refl
  put_in_join (kid t rest) zero outer inner d new h = ap (λ u. kid u rest) (put_join t outer inner d new h)
  put_in_join (kid t rest) (suc n) outer inner d new h =
      let below = put_in_join rest n outer inner d new (sym (subtree_later t rest n outer) ∙ h) in
      put_later t rest n (outer ++ inner) new ∙ ap (kid t) below ∙ sym (put_later t rest n outer (put_at d inner new))

-- a path that stays in the tree stays there on the way
mutual
  pub subtree_before : (e : Tree) (outer inner : List ℕ) (s : Tree) → subtree e (outer ++ inner) ≡ Some s → (d : Tree) × (subtree e outer ≡ Some d)
  subtree_before (node op kids) [] inner s h = (node op kids, refl)
  subtree_before (node op kids) (n ∷ outer) inner s h = subtree_in_before kids n outer inner s h

  subtree_in_before : (kids : Forest) (n : ℕ) (outer inner : List ℕ) (s : Tree) → subtree_in kids n (outer ++ inner) ≡ Some s
      → (d : Tree) × (subtree_in kids n outer ≡ Some d)
  subtree_in_before no_kids n outer inner s h = absurd (none_some h)
  subtree_in_before (kid t rest) zero outer inner s h = subtree_before t outer inner s h
  subtree_in_before (kid t rest) (suc n) outer inner s h =
      let below = subtree_in_before rest n outer inner s (sym (subtree_later t rest n (outer ++ inner)) ∙ h) in
      (below.0, subtree_later t rest n outer ∙ below.1)

-- ---- filling

module _ (f : Tree) where
  mutual
    pub fill_without : (e : Tree) → has_hole e ≡ false → filled f e ≡ e
    fill_without (node op kids) none =
        let p = or_parts _ _ none in
        ap (λ b. cond b f (node op (filled_all f kids))) p.0 ∙ ap (node op) (fill_all_without kids p.1)

    fill_all_without : (kids : Forest) → any_has is_hole kids ≡ false → filled_all f kids ≡ kids
    fill_all_without no_kids none = refl
    fill_all_without (kid t rest) none =
        let p = or_parts _ _ none in
        let first = fill_without t p.0 in
        let others = fill_all_without rest p.1 in
        λ i. kid (first i) (others i)

  abbrev hole : Tree
  hole = node Op'.Hole no_kids

  mutual
    pub put_fill : (e : Tree) (path : List ℕ) → has_hole e ≡ false → filled f (put_at e path (node Op'.Hole no_kids)) ≡ put_at e path f
    put_fill (node op kids) [] none = refl
    put_fill (node op kids) (n ∷ path) none =
        let p = or_parts _ _ none in
        ap (λ b. cond b f (node op (filled_all f (put_in kids n path hole)))) p.0 ∙ ap (node op) (put_in_fill kids n path p.1)

    put_in_fill : (kids : Forest) (n : ℕ) (path : List ℕ) → any_has is_hole kids ≡ false → filled_all f (put_in kids n path hole) ≡ put_in kids n path f
    put_in_fill no_kids n path none = refl
    put_in_fill (kid t rest) zero path none =
        let p = or_parts _ _ none in
        let first = put_fill t path p.0 in
        let others = fill_all_without rest p.1 in
        λ i. kid (first i) (others i)
    put_in_fill (kid t rest) (suc n) path none =
        let p = or_parts _ _ none in
        let first = fill_without t p.0 in
        let others = put_in_fill rest n path p.1 in
        ap (filled_all f) (put_later t rest n path hole) ∙ (λ i. kid (first i) (others i)) ∙ sym (put_later t rest n path f)

-- ---- plugging

plug_at_without : (args : List Tree) (op : Op) (old new : Forest) (t : Tree) → is_some_dot op ≡ false → PlugAt args op old new t → t ≡ node op new
plug_at_without args (Op'.Dot n) old new t none p = absurd (cc none)
plug_at_without args _ old new t none p = p.1

module _ (args : List Tree) where
  mutual
    pub plug_without : (e t : Tree) → Plug args e t → has_dots e ≡ false → t ≡ e
    plug_without (node op kids) t p none =
        let parts = or_parts _ _ none in
        plug_at_without args op kids p.0 t parts.0 p.2 ∙ ap (node op) (plug_all_without kids p.0 p.1 parts.1)

    plug_all_without : (es ts : Forest) → PlugAll args es ts → any_has is_some_dot es ≡ false → ts ≡ es
    plug_all_without no_kids no_kids p none = refl
    plug_all_without no_kids (kid t ts) p none = absurd p
    plug_all_without (kid e es) no_kids p none = absurd p
    plug_all_without (kid e es) (kid t ts) p none =
        let parts = or_parts _ _ none in
        let first = plug_without e t p.0 parts.0 in
        let others = plug_all_without es ts p.1 parts.1 in
        λ i. kid (first i) (others i)

  plug_first : (e : Tree) (es other : Forest) (new : Forest) → has_dots e ≡ false → ((ts : Forest) → PlugAll args es ts → ts ≡ other)
      → PlugAll args (kid e es) new → new ≡ kid e other
  plug_first e es other no_kids none rest p = absurd p
  plug_first e es other (kid t ts) none rest p =
      let first = plug_without e t p.0 none in
      let others = rest ts p.1 in
      λ i. kid (first i) (others i)

-- a tree without argument dots is its own result
module _ (test : Op → Bool) where
  later_lack : (kids : Forest) → any_has test kids ≡ false → any_has test (later kids) ≡ false
  later_lack no_kids none = refl
  later_lack (kid t rest) none = (or_parts _ _ none).1

  reached_lack : (op : Op) (kids : Forest) → any_has test kids ≡ false → any_has test ((captures op).reach kids) ≡ false
  reached_lack Op'.Box kids none = later_lack kids none
  reached_lack Op'.Dia kids none = later_lack kids none
  reached_lack Op'.Seq kids none = later_lack kids none
  reached_lack _ kids none = none

dot_is_some : (n : ℕ) (op : Op) → is_some_dot op ≡ false → is_dot n op ≡ false
dot_is_some n (Op'.Dot m) none = absurd (cc none)
dot_is_some n _ none = refl

clear_without : (args : List Tree) (set : Var → Bool) (kids : Forest) → any_has is_some_dot kids ≡ false → IsClear args set kids
clear_without args set kids none = record {
  clear = λ n a e stands.
      let not = all_lack is_some_dot is_some_dot (is_dot n) (λ op p q. dot_is_some n op p) kids none none in
      absurd (both_ways (any_has (is_dot n) kids) not stands);
}

plug_at_stays : (args : List Tree) (op : Op) (old new : Forest) (t : Tree) → is_some_dot op ≡ false → Stays (IsClear args) op old new t →
    PlugAt args op old new t
plug_at_stays args (Op'.Dot n) old new t none p = absurd (cc none)
plug_at_stays args _ old new t none p = p

module _ (args : List Tree) where
  mutual
    pub plug_itself : (e : Tree) → has_dots e ≡ false → Plug args e e
    plug_itself (node op kids) none =
        let parts = or_parts _ _ none in
        let clear = clear_without args ((captures op).set kids) ((captures op).reach kids) (reached_lack is_some_dot op kids parts.1) in
        (kids, plug_all_itself kids parts.1, plug_at_stays args op kids kids (node op kids) parts.0 (clear, refl))

    plug_all_itself : (es : Forest) → any_has is_some_dot es ≡ false → PlugAll args es es
    plug_all_itself no_kids none = tt
    plug_all_itself (kid e es) none = let parts = or_parts _ _ none in (plug_itself e parts.0, plug_all_itself es parts.1)

module _ (a : Tree) where
  abbrev dot : Tree
  dot = node (Op'.Dot 0) no_kids

  mutual
    pub put_plug : (e : Tree) (path : List ℕ) (t : Tree) → has_dots e ≡ false → Plug (a ∷ []) (put_at e path (node (Op'.Dot 0) no_kids)) t → t ≡ put_at e path a
    put_plug (node op kids) [] t none p = sym (some_same p.2)
    put_plug (node op kids) (n ∷ path) t none p =
        let parts = or_parts _ _ none in
        plug_at_without (a ∷ []) op (put_in kids n path dot) p.0 t parts.0 p.2 ∙ ap (node op) (put_in_plug kids n path p.0 parts.1 p.1)

    put_in_plug : (kids : Forest) (n : ℕ) (path : List ℕ) (new : Forest) → any_has is_some_dot kids ≡ false
        → PlugAll (a ∷ []) (put_in kids n path dot) new → new ≡ put_in kids n path a
    put_in_plug no_kids n path new none p = plug_all_without (a ∷ []) no_kids new p refl
    put_in_plug (kid e es) zero path no_kids none p = absurd p
    put_in_plug (kid e es) zero path (kid t ts) none p =
        let parts = or_parts _ _ none in
        let first = put_plug e path t parts.0 p.0 in
        let others = plug_all_without (a ∷ []) es ts p.1 parts.1 in
        λ i. kid (first i) (others i)
    put_in_plug (kid e es) (suc n) path new none p =
        let parts = or_parts _ _ none in
        let now = subst (λ ks. PlugAll (a ∷ []) ks new) (put_later e es n path dot) p in
        let rest = λ (ts : Forest) (q : PlugAll (a ∷ []) (put_in es n path dot) ts). put_in_plug es n path ts parts.1 q in
        plug_first (a ∷ []) e (put_in es n path dot) (put_in es n path a) new parts.0 rest now ∙ sym (put_later e es n path a)
