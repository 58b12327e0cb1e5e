-- A node of the key whose operator is no symbol's and no system's.
use Rattle.std.proofs.Common.{◌≡◌, refl, sym, ap, subst, ◌∙◌, ℕ, List, [], ◌∷◌, length, get_or, arith, ◌⊎◌, ⊎_elim, Bool, true, false, Option, Some, None}
use Rattle.std.specs.Prelude.{◌↔◌, ◌==◌, IsTrue}
use Rattle.std.proofs.lemmas.Option.{same_Some, none-some}
use Rattle.dlk_tree.specs.declared.op.Op.{Op}
use Rattle.dlk_tree.specs.declared.op.Op.TheVariants as Op'
use Rattle.dlk_tree.specs.declared.op.Var.{Var}
use Rattle.dlk_tree.specs.declared.op.Sym.{Sym}
use Rattle.dlk_tree.specs.Trees.{Tree, node, Forest, no_kids, kid}
use Rattle.dlk_store.specs.declared.Id.{Id}
use Rattle.dlk_store.specs.Stores.{tree, kid_trees, sorts_at}
use Rattle.dlk_calculus.specs.Pairs.{Extra}
use Rattle.dlk_match.specs.Abstract.{abstracted}
use Rattle.dlk_match.specs.Matching.{renamed_to, GetsName, GetsReplacement, Application, of_nothing, of_variable, Over, MatchesAt, MatchesAll, Matches}
use Rattle.dlk_match.specs.Tried.{Tried, name_in, with_name, IsNamedLike, IsLike, is_other, IsArgument, IsNoArgument, HeadIs, taken}
use Rattle.dlk_match.proofs.OneMatch.{no_kid, one_name, one_node, one_variable}

pub not_true : IsTrue false → ⊥
not_true h = cc

name_in_with : (key : Op) (x y : List ℕ) → name_in key ≡ Some x → name_in (with_name y key) ≡ Some y
name_in_with (Op'.Variable v) x y e = refl
name_in_with (Op'.Forall z) x y e = refl
name_in_with (Op'.Exists z) x y e = refl
name_in_with (Op'.Assign v) x y e = refl
name_in_with (Op'.Any z) x y e = refl
name_in_with _ x y e = absurd (none-some x e)

-- ---- operators that are alike

module _ (key target : Op) (old : Extra) where
  unnamed : (o : Option (List ℕ)) → o ≡ None → (is : Bool) → IsTrue is ↔ (key ≡ target) → Tried (IsNamedLike o key target) old old is
  unnamed None none true same = (sym (same.0 refl), refl)
  unnamed None none false same = λ other p. not_true (same.1 (sym p.0))
  unnamed (Some x) none is same = absurd (none-some x (sym none))

  pub like_unnamed : name_in key ≡ None → (is : Bool) → IsTrue is ↔ (key ≡ target) → Tried (IsLike key target) old old is
  like_unnamed none is same = unnamed (name_in key) none is same

  -- the name that the target's operator has
  module _ (x : List ℕ) (named : name_in key ≡ Some x) where
    given_name : (o : Option (List ℕ)) → o ≡ Some x → (other : Extra) → IsNamedLike o key target old other
        → (y : List ℕ) × (target ≡ with_name y key) × GetsName x y old other
    given_name (Some z) is other p =
        let same = same_Some z x is in
        (p.0, p.1, subst (λ w. GetsName w p.0 old other) same p.2)
    given_name None is other p = absurd (none-some x is)

    gives_name : (o : Option (List ℕ)) → o ≡ Some x → (other : Extra) (y : List ℕ) → target ≡ with_name y key → GetsName x y old other
        → IsNamedLike o key target old other
    gives_name (Some z) is other y same p = (y, same, subst (λ w. GetsName w y old other) (sym (same_Some z x is)) p)
    gives_name None is other y same p = absurd (none-some x is)

    target_named : (y : List ℕ) → target ≡ with_name y key → name_in target ≡ Some y
    target_named y same = ap name_in same ∙ name_in_with key x y named

    pub unlike_unnamed : name_in target ≡ None → (other : Extra) → IsLike key target old other → ⊥
    unlike_unnamed none other p =
        let like = given_name (name_in key) named other p in
        none-some like.0 (sym none ∙ target_named like.0 like.1)

    module _ (y : List ℕ) (is : name_in target ≡ Some y) where
      its_name : (z : List ℕ) → target ≡ with_name z key → z ≡ y
      its_name z same = same_Some z y (sym (target_named z same) ∙ is)

      pub unlike_named : (is : Bool) → is ≡ false → (IsTrue is ↔ (target ≡ with_name y key)) → (other : Extra) → IsLike key target old other → ⊥
      unlike_named is no_truth same other p =
          let like = given_name (name_in key) named other p in
          let true_one = same.1 (like.1 ∙ ap (λ z. with_name z key) (its_name like.0 like.1)) in
          not_true (subst IsTrue no_truth true_one)

      pub like_named : target ≡ with_name y key → (new : Extra) (tried : Bool) → Tried (GetsName x y) old new tried → Tried (IsLike key target) old new tried
      like_named same new true p = gives_name (name_in key) named new y same p
      like_named same new false p = λ other q.
          let like = given_name (name_in key) named other q in
          p other (subst (λ z. GetsName x z old other) (its_name like.0 like.1) like.2)

one_named_like : (o : Option (List ℕ)) (key target : Op) (old a b : Extra) → name_in key ≡ o → IsNamedLike o key target old a
    → IsNamedLike o key target old b → a ≡ b
one_named_like None key target old a b is p q = p.1 ∙ sym q.1
one_named_like (Some x) key target old a b is p q =
    let same = same_Some q.0 p.0 (sym (name_in_with key x q.0 is) ∙ ap name_in (sym q.1 ∙ p.1) ∙ name_in_with key x p.0 is) in
    one_name x p.0 old a b p.2 (subst (λ y. GetsName x y old b) same q.2)

one_like : (key target : Op) (old a b : Extra) → IsLike key target old a → IsLike key target old b → a ≡ b
one_like key target old a b p q = one_named_like (name_in key) key target old a b refl p q

-- ---- nodes

-- the tree's operator is like the key's, and its kids match
record Via (op : Op) (e : Tree) (Kids : Forest → Extra → Extra → Type 0) (old new : Extra) : Type 0 where
  pub mid : Extra
  pub target : Op
  pub kids : Forest
  pub node_is : e ≡ node target kids
  pub like : IsLike op target old mid
  pub rest : Kids kids mid new

module _ (keys : Forest) (e : Tree) (Kids : Forest → Extra → Extra → Type 0) (old new : Extra) where
  down : (op : Op) → IsTrue (is_other op) → MatchesAt op keys e Kids old new → Via op e Kids old new
  down (Op'.UnitFun s) h p = absurd (not_true h)
  down (Op'.Apply s) h p = absurd (not_true h)
  down (Op'.UnitPred s) h p = absurd (not_true h)
  down (Op'.Holds s) h p = absurd (not_true h)
  down (Op'.Predicational s) h p = absurd (not_true h)
  down (Op'.Const s) h p = absurd (not_true h)
  down (Op'.System items) h p = absurd (not_true h)
  down (Op'.Variable v) h p =
      record {
        mid = p.1;
        target = Op'.Variable (record { name = p.0; primed = v.primed });
        kids = p.3.0;
        node_is = p.3.1;
        like =
            (p.0, refl, p.2);
        rest = p.3.2;
      }
  down (Op'.Forall x) h p = record { mid = p.1; target = Op'.Forall p.0; kids = p.3.0; node_is = p.3.1; like = (p.0, refl, p.2); rest = p.3.2 }
  down (Op'.Exists x) h p = record { mid = p.1; target = Op'.Exists p.0; kids = p.3.0; node_is = p.3.1; like = (p.0, refl, p.2); rest = p.3.2 }
  down (Op'.Assign v) h p =
      record { mid = p.1; target = Op'.Assign (record { name = p.0; primed = v.primed }); kids = p.3.0; node_is = p.3.1; like = (p.0, refl, p.2); rest = p.3.2 }
  down (Op'.Any x) h p = record { mid = p.1; target = Op'.Any p.0; kids = p.3.0; node_is = p.3.1; like = (p.0, refl, p.2); rest = p.3.2 }
  down op h p = record { mid = old; target = op; kids = p.0; node_is = p.1; like = (refl, refl); rest = p.2 }

  over : (op : Op) (v : Via op e Kids old new) (made : Op) → v.target ≡ made → Over made e Kids v.mid new
  over op v made same = (v.kids, v.node_is ∙ ap (λ (o : Op). node o v.kids) same, v.rest)

  up : (op : Op) → IsTrue (is_other op) → Via op e Kids old new → MatchesAt op keys e Kids old new
  up (Op'.UnitFun s) h v = absurd (not_true h)
  up (Op'.Apply s) h v = absurd (not_true h)
  up (Op'.UnitPred s) h v = absurd (not_true h)
  up (Op'.Holds s) h v = absurd (not_true h)
  up (Op'.Predicational s) h v = absurd (not_true h)
  up (Op'.Const s) h v = absurd (not_true h)
  up (Op'.System items) h v = absurd (not_true h)
  up (Op'.Variable w) h v = (v.like.0, v.mid, v.like.2, over (Op'.Variable w) v _ v.like.1)
  up (Op'.Forall x) h v = (v.like.0, v.mid, v.like.2, over (Op'.Forall x) v _ v.like.1)
  up (Op'.Exists x) h v = (v.like.0, v.mid, v.like.2, over (Op'.Exists x) v _ v.like.1)
  up (Op'.Assign w) h v = (v.like.0, v.mid, v.like.2, over (Op'.Assign w) v _ v.like.1)
  up (Op'.Any x) h v = (v.like.0, v.mid, v.like.2, over (Op'.Any x) v _ v.like.1)
  up op h v = subst (λ (mid : Extra). Over op e Kids mid new) v.like.1 (over op v op v.like.0)

-- the target's operator was tried
module _ (keys : Forest) (e : Tree) (old new : Extra) (op target : Op) (kids : Forest) (is : e ≡ node target kids) (other : IsTrue (is_other op)) where
  same_target : {o : Op} {ks : Forest} → e ≡ node o ks → (o ≡ target) × (ks ≡ kids)
  same_target p = one_node p is

  pub head_refused : ((mid : Extra) → IsLike op target old mid → ⊥) → (last : Extra) → Matches (node op keys) e old last → ⊥
  head_refused none last p =
      let via = down keys e (MatchesAll keys) old last op other p in
      none via.mid (subst (λ (o : Op). IsLike op o old via.mid) (same_target via.node_is).0 via.like)

  pub head_left : IsLike op target old new → (last : Extra) → Matches (node op keys) e old last ↔ MatchesAll keys kids new last
  head_left like last = (
    λ p.
        let via = down keys e (MatchesAll keys) old last op other p in
        let same = same_target via.node_is in
        let mid = one_like op target old via.mid new (subst (λ (o : Op). IsLike op o old via.mid) same.0 via.like) like in
        subst (λ (m : Extra). MatchesAll keys kids m last) mid (subst (λ ks. MatchesAll keys ks via.mid last) same.1 via.rest),
    λ q. up keys e (MatchesAll keys) old last op other (record { mid = new; target = target; kids = kids; node_is = is; like = like; rest = q }),
  )

-- ---- symbols

module _ (s : Sym) (kids : Forest) (e : Tree) (old new : Extra) where
  pub applied_to_nothing : kids ≡ no_kids → (is : Bool) → Tried (GetsReplacement s e) old new is → Tried (Application s kids e) old new is
  applied_to_nothing none true p = of_nothing none p
  applied_to_nothing none false p = λ other q. refused other q
    where
      refused : (other : Extra) → Application s kids e old other → ⊥
      refused other (of_nothing is q) = p other q
      refused other (of_variable q) = no_kid none q.kids_are

  pub applied_to_none : (kids ≡ no_kids → ⊥) → IsNoArgument old.renames kids → Application s kids e old new → ⊥
  applied_to_none some none (of_nothing is q) = some is
  applied_to_none some none (of_variable q) =
      none (record { name = q.y; primed = q.v.primed }) (record { v = q.v; kids_are = q.kids_are; name_is = q.name_is; primed_is = refl })

  module _ (w : Var) (a : IsArgument old.renames kids w) where
    body_is : (v : Var) (y : List ℕ) → kids ≡ kid (node (Op'.Variable v) no_kids) no_kids → renamed_to old.renames v.name ≡ Some y
        → abstracted (record { name = y; primed = v.primed }) e ≡ abstracted w e
    body_is v y is named =
        let same : v ≡ a.v = one_variable is a.kids_are in
        let y_is : y ≡ w.name = same_Some y w.name (sym named ∙ ap (λ (u : Var). renamed_to old.renames u.name) same ∙ a.name_is) in
        let primed : v.primed ≡ w.primed = ap (λ (u : Var). u.primed) same ∙ sym a.primed_is in
        λ i. abstracted (record { name = y_is i; primed = primed i }) e

    pub applied_to_variable : (is : Bool) → Tried (GetsReplacement s (abstracted w e)) old new is → Tried (Application s kids e) old new is
    applied_to_variable true p =
        of_variable (record {
          v = a.v;
          kids_are = a.kids_are;
          y = w.name;
          name_is = a.name_is;
          replaced = subst (λ t. GetsReplacement s t old new) (sym (body_is a.v w.name a.kids_are a.name_is)) p;
        })
    applied_to_variable false p = λ other q. refused other q
      where
        refused : (other : Extra) → Application s kids e old other → ⊥
        refused other (of_nothing is q) = no_kid is a.kids_are
        refused other (of_variable q) = p other (subst (λ t. GetsReplacement s t old other) (body_is q.v q.y q.kids_are q.name_is) q.replaced)

module _ (keys : Forest) (e : Tree) (trees : List Tree) (old new : Extra) (s : Sym) (is : Bool) where
  unit_rows : (op : Op) → ((k : Extra) → Matches (node op keys) e old k ≡ GetsReplacement s e old k) → Tried (GetsReplacement s e) old new is
      → HeadIs op keys e trees old new (taken is)
  unit_rows op row p = at is p
    where
      at : (b : Bool) → Tried (GetsReplacement s e) old new b → HeadIs op keys e trees old new (taken b)
      at true q = subst (λ Z. Z) (sym (row new)) q
      at false q = λ other r. q other (subst (λ Z. Z) (row other) r)

  pub unit_head : (op : Op) → (op ≡ Op'.UnitFun s) ⊎ ((op ≡ Op'.UnitPred s) ⊎ (op ≡ Op'.Const s)) → Tried (GetsReplacement s e) old new is
      → HeadIs op keys e trees old new (taken is)
  unit_head op at p =
      let goal = λ (o : Op). HeadIs o keys e trees old new (taken is) in
      ⊎_elim (λ q. subst goal (sym q) (unit_rows (Op'.UnitFun s) (λ k. refl) p))
      (⊎_elim (λ q. subst goal (sym q) (unit_rows (Op'.UnitPred s) (λ k. refl) p)) (λ q. subst goal (sym q) (unit_rows (Op'.Const s) (λ k. refl) p))) at

  applied_rows : (op : Op) → ((k : Extra) → Matches (node op keys) e old k ≡ Application s keys e old k) → Tried (Application s keys e) old new is
      → HeadIs op keys e trees old new (taken is)
  applied_rows op row p = at is p
    where
      at : (b : Bool) → Tried (Application s keys e) old new b → HeadIs op keys e trees old new (taken b)
      at true q = subst (λ Z. Z) (sym (row new)) q
      at false q = λ other r. q other (subst (λ Z. Z) (row other) r)

  pub applied_head : (op : Op) → (op ≡ Op'.Apply s) ⊎ (op ≡ Op'.Holds s) → Tried (Application s keys e) old new is → HeadIs op keys e trees old new (taken is)
  applied_head op at p =
      let goal = λ (o : Op). HeadIs o keys e trees old new (taken is) in
      ⊎_elim (λ q. subst goal (sym q) (applied_rows (Op'.Apply s) (λ k. refl) p)) (λ q. subst goal (sym q) (applied_rows (Op'.Holds s) (λ k. refl) p)) at

-- ---- the one argument

pub one_kid : (trees : List Tree) (ks : List Id) (d : Id) → length ks ≡ 1 → kid_trees trees ks ≡ kid (tree trees (get_or ks 0 d)) no_kids
one_kid trees [] d h = absurd (omega arith)
one_kid trees (k ∷ []) d h = refl
one_kid trees (k ∷ j ∷ ks) d h = absurd (omega arith)

pub none_in : (trees : List Tree) (ks : List Id) → sorts_at trees ks ≡ [] → kid_trees trees ks ≡ no_kids
none_in trees [] e = refl
none_in trees (k ∷ ks) e = absurd (cons-nil e)
  where
    cons-nil : {A : Type 0} {x : A} {xs : List A} → x ∷ xs ≡ [] → ⊥
    cons-nil p = cc

first_of : Forest → Tree
first_of no_kids = node Op'.True no_kids
first_of (kid t rest) = t

module _ (renames : List (List ℕ × List ℕ)) (kids : Forest) (t : Tree) (one : kids ≡ kid t no_kids) (op : Op) (below : Forest) (is : t ≡ node op below) where
  its_op : (w : Var) (a : IsArgument renames kids w) → op ≡ Op'.Variable a.v
  its_op w a =
      let kids_same : kid t no_kids ≡ kid (node (Op'.Variable a.v) no_kids) no_kids = sym one ∙ a.kids_are in
      let same : t ≡ node (Op'.Variable a.v) no_kids = cc in
      (one_node is same).0

  pub no_variable : ((v : Var) → op ≡ Op'.Variable v → ⊥) → IsNoArgument renames kids
  no_variable none w a = none a.v (its_op w a)

  pub no_new_name : (v : Var) → op ≡ Op'.Variable v → renamed_to renames v.name ≡ None → IsNoArgument renames kids
  no_new_name v op_is none w a =
      let same : v ≡ a.v = variable_of v a.v (sym op_is ∙ its_op w a) in
      none-some w.name (sym none ∙ ap (λ (u : Var). renamed_to renames u.name) same ∙ a.name_is)
    where
      variable_of : (u v : Var) → Op'.Variable u ≡ Op'.Variable v → u ≡ v
      variable_of u v e = cc

  pub its_argument : (v : Var) (y : List ℕ) → op ≡ Op'.Variable v → below ≡ no_kids → renamed_to renames v.name ≡ Some y
      → IsArgument renames kids (record { name = y; primed = v.primed })
  its_argument v y op_is bare named = record {
    v = v;
    kids_are = one ∙ ap (λ u. kid u no_kids) (is ∙ λ i. node (op_is i) (bare i));
    name_is = named;
    primed_is = refl;
  }

-- ---- whether there are kids

pub not_empty : (trees : List Tree) (ks : List Id) (is : Bool) → is ≡ false → is ≡ (length ks == 0) → kid_trees trees ks ≡ no_kids → ⊥
not_empty trees [] is no_truth e q = not_true (sym no_truth ∙ e)
not_empty trees (k ∷ ks) is no_truth e q = no_kid q refl

pub is_bare : (trees : List Tree) (ks : List Id) (is : Bool) → is ≡ true → is ≡ (length ks == 0) → kid_trees trees ks ≡ no_kids
is_bare trees [] is truth e = refl
is_bare trees (k ∷ ks) is truth e = absurd (grind (arith, truth, e))

pub not_one : (renames : List (List ℕ × List ℕ)) (trees : List Tree) (ks : List Id) → (length ks ≡ 1 → ⊥) → IsNoArgument renames (kid_trees trees ks)
not_one renames trees [] h w a = no_kid refl a.kids_are
not_one renames trees (k ∷ []) h w a = h refl
not_one renames trees (k ∷ j ∷ ks) h w a = later_kid a.kids_are
  where
    later_kid : {s t u : Tree} {rest : Forest} → kid s (kid t rest) ≡ kid u no_kids → ⊥
    later_kid e = cc

pub no_predicational : (keys : Forest) (e : Tree) (old : Extra) (op : Op) (s : Sym) → op ≡ Op'.Predicational s → (other : Extra)
    → Matches (node op keys) e old other → ⊥
no_predicational keys e old op s is other p = subst (λ (o : Op). Matches (node o keys) e old other) is p
