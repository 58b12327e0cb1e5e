-- The node of a text that is read over a table of ids.
use Rattle.std.proofs.Common.{◌≡◌, ℕ, suc, ◌≤◌, true, false, List, [], ◌∷◌, ◌++◌, length, take, get_or, ◌+◌, ◌<◌, codes, refl, sym, ap, subst, ◌∙◌}
use Rattle.std.proofs.Common.{append_assoc, arith}
use Rattle.std.specs.Prelude.{All}
use Rattle.std.proofs.lemmas.List.{take_more, take_all, map-append}
use Rattle.dlk_tree.specs.declared.op.Sort.{Sort}
use Rattle.std.proofs.lemmas.List.Elements.{All-nil, All-cons, All-head, All-tail}
use Rattle.dlk_tree.specs.declared.op.Op.{Op}
use Rattle.dlk_tree.specs.Table.{Fits}
use Rattle.dlk_tree.specs.Trees.{Tree, node, forest, sorts, sort, kid}
use Rattle.dlk_calculus.specs.Limits.{IsSmall, IsShallow}
use Rattle.dlk_calculus.proofs.PlaceLaws.{At_All}
use Rattle.dlk_store.specs.declared.Id.{Id}
use Rattle.dlk_store.specs.Stores.{IsId, tree, kid_trees, sorts_at, Keeps, StandsFor, HasOneId}
use Rattle.dlk_lines.specs.Numbers.{IsNumber}
use Rattle.dlk_lines.specs.Parts.{CutAt, NumberThen}
use Rattle.dlk_lines.specs.Spelled.{NamesEach, none_behind, one_behind}
use Rattle.dlk_nodes.specs.Nodes.{has_node, NamesNode, op_and_kids, IsNew, IsNode, new_node, IsNodeLine, node_line, TakesKids, IsRead}
use Rattle.dlk_nodes.specs.Tables.{nodes_at, has}
use Rattle.dlk_nodes.proofs.Numbered.{from_each, names_each_at}
use Rattle.dlk_nodes.proofs.Readings.{one_reading}
use Rattle.dlk_nodes.proofs.OneNode.{node_parts, line_parts, same_parts}
use Rattle.dlk_nodes.proofs.Tables.{has_same}

-- ---- ids and their trees

forest_at : (trees : List Tree) (ids : List Id) → forest (nodes_at trees ids) ≡ kid_trees trees ids
forest_at trees [] = refl
forest_at trees (i ∷ ids) = ap (kid (tree trees i)) (forest_at trees ids)

sorts_known : (trees : List Tree) (ids : List Id) → sorts (forest (nodes_at trees ids)) ≡ sorts_at trees ids
sorts_known trees [] = refl
sorts_known trees (i ∷ ids) = ap (λ l. sort (tree trees i) ∷ l) (sorts_known trees ids)

pub nodes_kept : (old new : List Tree) → Keeps old new → (ids : List Id) → All (IsId old) ids → nodes_at new ids ≡ nodes_at old ids
nodes_kept old new keeps [] all = refl
nodes_kept old new keeps (i ∷ ids) all =
    let first = keeps.same i (All-head (IsId old) i ids all) in
    let rest = nodes_kept old new keeps ids (All-tail (IsId old) i ids all) in
    λ t. first t ∷ rest t

pub all_kept : (old new : List Tree) → Keeps old new → (ids : List Id) → All (IsId old) ids → All (IsId new) ids
all_kept old new keeps ids all = λ i d less. let h = all i d less in let k = keeps.known in omega (arith, h, k)

-- numbers of ids of the table are known
pub named_known : {A : Type 0} (P : A → Type 0) (items : List A) (text : List ℕ) (xs : List A) → All P items → NamesEach items text xs → All P xs
named_known P items _ _ all none_behind = All-nil P
named_known P items _ _ all (one_behind {i} {text} {x} {xs} name others) = All-cons P x xs (At_All P items name.number x all name.there)
    (named_known P items text xs all others)

pub read_known : {A : Type 0} (P : A → Type 0) (items : List A) (text : List ℕ) (o : Op) (xs : List A) → All P items → IsRead items text o xs → All P xs
read_known {A = A} P items text o xs all is = by_names text o xs is.names
  where
    by_names : (text : List ℕ) (o : Op) (xs : List A) → NamesNode items text o xs → All P xs
    by_names _ _ _ (op_and_kids {text} {kids} o names) = named_known P items text kids all names

-- ---- what is read

record FromTable (table : List Id) (trees : List Tree) (text : List ℕ) (o : Op) (kids : List Tree) : Type 0 where
  pub ids : List Id
  pub read : IsRead table text o ids
  pub are : kids ≡ nodes_at trees ids

from_names : (table : List Id) (trees : List Tree) (text : List ℕ) (o : Op) (kids : List Tree) → NamesNode (nodes_at trees table) text o kids →
    IsRead (nodes_at trees table) text o kids →
    FromTable table trees text o kids
from_names table trees _ _ _ (op_and_kids {text} {kids} o names) is =
    let w = from_each (tree trees) table text kids names in
    record {
      ids = w.all;
      read = record { names = op_and_kids o w.names; parts = is.parts; arity = subst (TakesKids o) (ap length w.are ∙ long w.all) is.arity };
      are = w.are;
    }
  where
    long : (ids : List Id) → length (nodes_at trees ids) ≡ length ids
    long [] = refl
    long (i ∷ ids) = ap (λ n. suc n) (long ids)

-- the node of the text is the one that the table gives
pub record TheNode (table : List Id) (trees : List Tree) (text : List ℕ) (o : Op) (ids : List Id) (t : Tree) : Type 0 where
  pub tree_is : t ≡ node o (kid_trees trees ids)
  pub fits : Fits o (sorts_at trees ids)
  pub new : IsNew (nodes_at trees table) o (nodes_at trees ids)

pub the_node : (table : List Id) (trees : List Tree) (text : List ℕ) (o : Op) (ids : List Id) (t : Tree) → IsRead table text o ids →
    IsNode (nodes_at trees table) text t →
    TheNode table trees text o ids t
the_node table trees text o ids t is n =
    let nodes = nodes_at trees table in
    let p = node_parts nodes text t n in
    let w = from_names table trees text p.its_op p.kids p.read.names p.read in
    let same = one_reading table text p.its_op o w.ids ids w.read is in
    let kids : p.kids ≡ nodes_at trees ids = w.are ∙ ap (nodes_at trees) same.1 in
    let new : IsNew nodes o (nodes_at trees ids) = subst (λ q. IsNew nodes q (nodes_at trees ids)) same.0 (subst (λ ks. IsNew nodes p.its_op ks) kids p.new) in
    record {
      tree_is = p.tree_is ∙ (λ i. node (same.0 i) (forest (kids i))) ∙ ap (node o) (forest_at trees ids);
      fits = subst (Fits o) (sorts_known trees ids) new.fits;
      new = new;
    }

pub no_reading : (table : List Id) (trees : List Tree) (text : List ℕ) → ((o : Op) (ids : List Id) → ¬ IsRead table text o ids) → (t : Tree) →
    ¬ IsNode (nodes_at trees table) text t
no_reading table trees text none t n =
    let p = node_parts (nodes_at trees table) text t n in
    let w = from_names table trees text p.its_op p.kids p.read.names p.read in
    none p.its_op w.ids w.read

pub not_fitting : (table : List Id) (trees : List Tree) (text : List ℕ) (o : Op) (ids : List Id) → IsRead table text o ids → ¬ Fits o (sorts_at trees ids) →
    (t : Tree) → ¬ IsNode (nodes_at trees table) text t
not_fitting table trees text o ids is fails t n = fails (the_node table trees text o ids t is n).fits

module _ (old new : List Tree) (keeps : Keeps old new) (one : HasOneId new) (table : List Id) (known : All (IsId old) table) (text : List ℕ) (o : Op)
    (ids : List Id) (is : IsRead table text o ids)
    (id : Id) (made : StandsFor new id (node o (kid_trees old ids))) where
  same_test : has table id ≡ has_node (nodes_at old table) (node o (kid_trees old ids))
  same_test =
      has_same new one table id (all_kept old new keeps table known) made.known
      ∙ (λ i. has_node (nodes_kept old new keeps table known i) (made.tree_is i))

  -- the id has a node already
  pub not_new : has table id ≡ true → (t : Tree) → ¬ IsNode (nodes_at old table) text t
  not_new there t n =
      let w = the_node table old text o ids t is n in
      let none : has_node (nodes_at old table) (node o (kid_trees old ids)) ≡ false = subst (λ ks. has_node (nodes_at old table) (node o ks) ≡ false)
      (forest_at old ids) w.new.new in
      let clash : true ≡ false = sym there ∙ same_test ∙ none in
      cc clash

  -- the tree is past a limit
  pub not_within : (IsSmall (tree new id) → IsShallow (tree new id) → ⊥) → (t : Tree) → ¬ IsNode (nodes_at old table) text t
  not_within past t n =
      let w = the_node table old text o ids t is n in
      let same : node o (forest (nodes_at old ids)) ≡ tree new id = ap (node o) (forest_at old ids) ∙ sym made.tree_is in
      past (subst IsSmall same w.new.small) (subst IsShallow same w.new.shallow)

  -- and else it is the new node
  pub is_new : Fits o (sorts_at old ids) → has table id ≡ false → IsSmall (tree new id) → IsShallow (tree new id) →
      IsNode (nodes_at old table) text (tree new id)
  is_new fits none small shallow =
      let same : tree new id ≡ node o (forest (nodes_at old ids)) = made.tree_is ∙ ap (node o) (sym (forest_at old ids)) in
      subst (IsNode (nodes_at old table) text) (sym same)
      (at_trees text o ids is.names (record {
        fits = subst (Fits o) (sym (sorts_known old ids)) fits;
        small = subst IsSmall same small;
        shallow = subst IsShallow same shallow;
        new = subst (λ ks. has_node (nodes_at old table) (node o ks) ≡ false) (sym (forest_at old ids)) (sym same_test ∙ none);
      }))
    where
      at_trees : (text : List ℕ) (o : Op) (ids : List Id) → NamesNode table text o ids → IsNew (nodes_at old table) o (nodes_at old ids) →
          IsNode (nodes_at old table) text (node o (forest (nodes_at old ids)))
      at_trees _ _ _ (op_and_kids {text} {kids} o names) new = new_node (op_and_kids o (names_each_at (tree old) table text kids names)) new

-- ---- lines

module _ (nodes : List Tree) (line behind : List ℕ) (head : line ≡ codes "node " ++ behind) where
  pub no_number : ((n : ℕ) (rest : List ℕ) → ¬ NumberThen behind 32 n rest) → (m : ℕ) (t : Tree) → ¬ IsNodeLine nodes line m t
  no_number none m t is =
      let q = line_parts nodes line m t is in
      let e : codes "node " ++ q.behind ≡ codes "node " ++ behind = sym q.line_is ∙ head in
      let same : q.behind ≡ behind = cc in
      none m q.text (record { digits = q.digits; is_number = q.number_is; text_is = sym same ∙ q.cut.text_is })

  module _ (digits text : List ℕ) (cut : CutAt behind 32 digits text) where
    pub no_node : ((t : Tree) → ¬ IsNode nodes text t) → (m : ℕ) (t : Tree) → ¬ IsNodeLine nodes line m t
    no_node none m t is =
        let q = line_parts nodes line m t is in
        none t (subst (λ l. IsNode nodes l t) (same_parts nodes line behind digits text m t head cut q).1 q.node_is)

    pub line_is : (m : ℕ) (t : Tree) → IsNumber digits m → IsNode nodes text t → IsNodeLine nodes line m t
    line_is m t n is =
        let grouped : codes "node " ++ digits ++ codes " " ++ text ≡ codes "node " ++ (digits ++ 32 ∷ text) = simp append_assoc in
        subst (λ l. IsNodeLine nodes l m t) (grouped ∙ sym (head ∙ ap (λ l. codes "node " ++ l) cut.text_is)) (node_line n is)
