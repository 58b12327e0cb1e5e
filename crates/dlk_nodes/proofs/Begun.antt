-- How far the nodes of trees have been put behind others.
use Rattle.std.proofs.Common.{◌≡◌, ◌≢◌, ℕ, ◌+◌, ◌<◌, ◌≤◌, false, List, [], ◌∷◌, ◌++◌, length, map, drop, get_or, cond, refl, sym, ap, subst, ◌∙◌}
use Rattle.std.proofs.Common.{append_assoc, append-nil, add-one}
use Rattle.std.proofs.Math.Seq.{drop-cons}
use Rattle.std.proofs.lemmas.List.{drop_all}
use Rattle.dlk_tree.specs.Trees.{Tree, node, Forest}
use Rattle.dlk_tree.specs.declared.op.Op.{Op}
use Rattle.dlk_store.specs.declared.Id.{Id}
use Rattle.dlk_store.specs.Stores.{tree, kid_trees}
use Rattle.dlk_sequent.specs.declared.subst.Pair.{Pair}
use Rattle.dlk_sequent.specs.Substitutions.{pairs_at}
use Rattle.dlk_rules.specs.declared.arguments.Arguments.{Arguments}
use Rattle.dlk_rules.specs.declared.arguments.Arguments.TheVariants as args
use Rattle.dlk_rules.specs.Words.{arguments_at}
use Rattle.dlk_lines.specs.Written.{replacements_in, formulas_in}
use Rattle.dlk_nodes.specs.Nodes.{has_node}
use Rattle.dlk_nodes.specs.Put.{AreBegun}
use Rattle.dlk_nodes.specs.Terms.{new_nodes, new_in_kids, new_in_each}

-- of what is put behind the old nodes, this is left
pub record PutSoFar (old more now left : List Tree) : Type 0 where
  pub there : List Tree
  pub put : now ≡ old ++ there
  pub whole : now ++ left ≡ old ++ more

pub not_begun : (old : List Tree) {more left : List Tree} → left ≡ more → PutSoFar old more old left
not_begun old e = record { there = []; put = sym (append-nil old); whole = ap (λ l. old ++ l) e }

pub same_left : {old more now left next : List Tree} → left ≡ next → PutSoFar old more now left → PutSoFar old more now next
same_left {old} {more} {now} e s = subst (λ l. PutSoFar old more now l) e s

-- the next of them were put there
pub were_put : {old more now new : List Tree} (part left : List Tree) → PutSoFar old more now (part ++ left) → new ≡ now ++ part → PutSoFar old more new left
were_put {old} {more} {now} part left s e = record {
  there = s.there ++ part;
  put = e ∙ ap (λ l. l ++ part) s.put ∙ append_assoc old s.there part;
  whole = ap (λ l. l ++ left) e ∙ append_assoc now part left ∙ s.whole;
}

-- some of the next ones were
pub partly_put : {old more now new : List Tree} (part left : List Tree) → PutSoFar old more now (part ++ left) → AreBegun now new part → AreBegun old new more
partly_put {old} {more} {now} {new} part left s b = record {
  there = s.there ++ b.there;
  left = b.left ++ left;
  put = b.put ∙ ap (λ l. l ++ b.there) s.put ∙ append_assoc old s.there b.there;
  whole = sym s.whole ∙ sym (append_assoc now part left) ∙ ap (λ l. l ++ left) b.whole ∙ append_assoc new b.left left;
}

-- so many are there
pub begun_now : {old more now left : List Tree} → PutSoFar old more now left → AreBegun old now more
begun_now {left = left} s = record { there = s.there; left = left; put = s.put; whole = sym s.whole }

pub all_put : {old more now : List Tree} → PutSoFar old more now [] → now ≡ old ++ more
all_put {now = now} s = sym (append-nil now) ∙ s.whole

-- all of them at once
pub whole_begun : (old new more : List Tree) → new ≡ old ++ more → AreBegun old new more
whole_begun old new more e = record { there = more; left = []; put = e; whole = sym e ∙ sym (append-nil new) }

pub none_begun : (old more : List Tree) → AreBegun old old more
none_begun old more = record { there = []; left = more; put = sym (append-nil old); whole = refl }

-- ---- kids

-- those of the next kid
pub next_kid_left : (trees old now : List Tree) (more : List Tree) (ks : List Id) (i : ℕ) (d : Id) → i < length ks →
    PutSoFar old more now (new_in_kids now (kid_trees trees (drop i ks))) →
    PutSoFar old more now (new_nodes now (tree trees (get_or ks i d)) ++ new_in_kids (now ++ new_nodes now (tree trees (get_or ks i d)))
    (kid_trees trees (drop (i + 1) ks)))
next_kid_left trees old now more ks i d less s =
    same_left (ap (λ l. new_in_kids now (kid_trees trees l)) (drop-cons ks i d less ∙ ap (λ n. get_or ks i d ∷ drop n ks) (sym (add-one i)))) s

pub kid_put : (trees old now new : List Tree) (more : List Tree) (ks : List Id) (i : ℕ) (d : Id) → i < length ks →
    new ≡ now ++ new_nodes now (tree trees (get_or ks i d)) → PutSoFar old more now (new_in_kids now (kid_trees trees (drop i ks))) →
    PutSoFar old more new (new_in_kids new (kid_trees trees (drop (i + 1) ks)))
kid_put trees old now new more ks i d less e s =
    let t = tree trees (get_or ks i d) in
    let rest = kid_trees trees (drop (i + 1) ks) in
    same_left (ap (λ n. new_in_kids n rest) (sym e))
    (were_put (new_nodes now t) (new_in_kids (now ++ new_nodes now t) rest) (next_kid_left trees old now more ks i d less s) e)

pub kid_begun : (trees old now new : List Tree) (more : List Tree) (ks : List Id) (i : ℕ) (d : Id) → i < length ks →
    AreBegun now new (new_nodes now (tree trees (get_or ks i d))) → PutSoFar old more now (new_in_kids now (kid_trees trees (drop i ks))) →
    AreBegun old new more
kid_begun trees old now new more ks i d less b s =
    partly_put (new_nodes now (tree trees (get_or ks i d))) _ (next_kid_left trees old now more ks i d less s) b

-- ---- several trees

module _ {B : Type 0} (f : B → Tree) (old : List Tree) (more : List Tree) (items : List B) where
  pub next_tree_left : (now : List Tree) (i : ℕ) (d : B) → i < length items → PutSoFar old more now (new_in_each now (map f (drop i items))) →
      PutSoFar old more now (new_nodes now (f (get_or items i d)) ++ new_in_each (now ++ new_nodes now (f (get_or items i d))) (map f (drop (i + 1) items)))
  next_tree_left now i d less s =
      same_left (ap (λ l. new_in_each now (map f l)) (drop-cons items i d less ∙ ap (λ n. get_or items i d ∷ drop n items) (sym (add-one i)))) s

  pub tree_put : (now new : List Tree) (i : ℕ) (d : B) → i < length items → new ≡ now ++ new_nodes now (f (get_or items i d)) →
      PutSoFar old more now (new_in_each now (map f (drop i items))) → PutSoFar old more new (new_in_each new (map f (drop (i + 1) items)))
  tree_put now new i d less e s =
      let t = f (get_or items i d) in
      let rest = map f (drop (i + 1) items) in
      same_left (ap (λ n. new_in_each n rest) (sym e))
      (were_put (new_nodes now t) (new_in_each (now ++ new_nodes now t) rest) (next_tree_left now i d less s) e)

  pub tree_begun : (now new : List Tree) (i : ℕ) (d : B) → i < length items → AreBegun now new (new_nodes now (f (get_or items i d))) →
      PutSoFar old more now (new_in_each now (map f (drop i items))) → AreBegun old new more
  tree_begun now new i d less b s = partly_put (new_nodes now (f (get_or items i d))) _ (next_tree_left now i d less s) b

  pub no_trees_left : (now : List Tree) (i : ℕ) → length items ≤ i → PutSoFar old more now (new_in_each now (map f (drop i items))) →
      PutSoFar old more now []
  no_trees_left now i le s = same_left (ap (λ l. new_in_each now (map f l)) (drop_all i items le)) s

-- those of two lists of trees
pub in_both : (nodes ts us : List Tree) → new_in_each nodes (ts ++ us) ≡ new_in_each nodes ts ++ new_in_each (nodes ++ new_in_each nodes ts) us
in_both nodes [] us = ap (λ n. new_in_each n us) (sym (append-nil nodes))
in_both nodes (t ∷ ts) us =
    let a = new_nodes nodes t in
    let b = new_in_each (nodes ++ a) ts in
    ap (λ l. a ++ l) (in_both (nodes ++ a) ts us) ∙ sym (append_assoc a b (new_in_each ((nodes ++ a) ++ b) us))
    ∙ ap (λ n. (a ++ b) ++ new_in_each n us) (append_assoc nodes a b)

pub both_added : (nodes mid new ts us : List Tree) → mid ≡ nodes ++ new_in_each nodes ts → new ≡ mid ++ new_in_each mid us →
    new ≡ nodes ++ new_in_each nodes (ts ++ us)
both_added nodes mid new ts us e f =
    let a = new_in_each nodes ts in
    f ∙ ap (λ n. n ++ new_in_each n us) e ∙ append_assoc nodes a (new_in_each (nodes ++ a) us) ∙ ap (λ l. nodes ++ l) (sym (in_both nodes ts us))

pub both_begun : (nodes mid new ts us : List Tree) → mid ≡ nodes ++ new_in_each nodes ts → AreBegun mid new (new_in_each mid us) →
    AreBegun nodes new (new_in_each nodes (ts ++ us))
both_begun nodes mid new ts us e b =
    let a = new_in_each nodes ts in
    let rest = new_in_each (nodes ++ a) us in
    let start : PutSoFar nodes (new_in_each nodes (ts ++ us)) nodes (a ++ rest) = not_begun nodes (sym (in_both nodes ts us)) in
    let there : PutSoFar nodes (new_in_each nodes (ts ++ us)) mid (rest ++ []) = same_left (sym (append-nil rest)) (were_put a rest start e) in
    partly_put rest [] there (subst (λ n. AreBegun mid new (new_in_each n us)) e b)

-- ---- one tree

pub begun_more : (old new a b : List Tree) → AreBegun old new a → AreBegun old new (a ++ b)
begun_more old new a b w = record {
  there = w.there;
  left = w.left ++ b;
  put = w.put;
  whole = sym (append_assoc old a b) ∙ ap (λ l. l ++ b) w.whole ∙ append_assoc new w.left b;
}

-- a tree without a node has those of its kids, and its own
its_nodes : (nodes : List Tree) (op : Op) (kids : Forest) → has_node nodes (node op kids) ≡ false →
    new_nodes nodes (node op kids) ≡ new_in_kids nodes kids ++ node op kids ∷ []
its_nodes nodes op kids none = ap (λ b. cond b [] (new_in_kids nodes kids ++ node op kids ∷ [])) none

pub begun_in_kids : (old new : List Tree) (t : Tree) (op : Op) (kids : Forest) → t ≡ node op kids → has_node old (node op kids) ≡ false →
    AreBegun old new (new_in_kids old kids) → AreBegun old new (new_nodes old t)
begun_in_kids old new t op kids is none b =
    subst (λ l. AreBegun old new l) (sym (ap (new_nodes old) is ∙ its_nodes old op kids none))
    (begun_more old new (new_in_kids old kids) (node op kids ∷ []) b)

-- ---- the trees of pairs

pub replaced : (trees : List Tree) (pairs : List Pair) → map (λ (p : Pair). tree trees p.by) pairs ≡ replacements_in (pairs_at trees pairs)
replaced trees [] = refl
replaced trees (p ∷ pairs) = ap (λ l. tree trees p.by ∷ l) (replaced trees pairs)

-- ---- the formula of a rule

pub no_formulas : {N : Type 0} (name : N → List ℕ) (trees : List Tree) (arguments : Arguments N) →
    ((i : ℕ) (h : Id) → arguments ≢ args.PlaceAndFormula i h) → ((h : Id) → arguments ≢ args.OneFormula h) →
    formulas_in (arguments_at name trees arguments) ≡ []
no_formulas name trees (args.OnePlace i) a b = refl
no_formulas name trees (args.TwoPlaces i k) a b = refl
no_formulas name trees (args.PlaceAndFormula i h) a b = absurd (a i h refl)
no_formulas name trees (args.OneFormula h) a b = absurd (b h refl)
no_formulas name trees (args.PlaceAndName i y) a b = refl
