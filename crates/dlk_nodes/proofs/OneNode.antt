-- A text says at most one node line.
use Rattle.std.proofs.Common.{◌≡◌, ℕ, suc, List, [], ◌∷◌, ◌++◌, length, codes, refl, sym, ap, subst, ◌∙◌, append_assoc}
use Rattle.std.proofs.lemmas.List.{length-replicate}
use Rattle.dlk_tree.specs.declared.op.Op.{Op}
use Rattle.dlk_tree.specs.declared.op.Op.TheVariants as op
use Rattle.dlk_tree.specs.declared.op.Sort.TheVariants.{Term}
use Rattle.dlk_tree.specs.Table.{kid_sorts}
use Rattle.dlk_tree.specs.Trees.{Tree, node, forest, sorts}
use Rattle.dlk_lines.specs.Numbers.{IsNumber}
use Rattle.dlk_lines.specs.Parts.{CutAt}
use Rattle.dlk_nodes.specs.Nodes.{IsNew, IsNode, new_node, IsNodeLine, node_line, TakesKids, IsRead}
use Rattle.dlk_lines.proofs.Numbers.{one_number}
use Rattle.dlk_lines.proofs.Cuts.{one_cut}
use Rattle.dlk_nodes.proofs.Numbered.{number_lacks_space}
use Rattle.dlk_nodes.proofs.Readings.{one_reading}

sorts_long : (ts : List Tree) → length (sorts (forest ts)) ≡ length ts
sorts_long [] = refl
sorts_long (t ∷ ts) = ap suc (sorts_long ts)

-- an operator that fits its kids takes so many
pub takes_kids : (o : Op) (kids : List Tree) → sorts (forest kids) ≡ kid_sorts o → TakesKids o (length kids)
takes_kids (op.Apply s) kids fit = sym (length-replicate s.arity Term) ∙ sym (ap length fit) ∙ sorts_long kids
takes_kids (op.Holds s) kids fit = sym (length-replicate s.arity Term) ∙ sym (ap length fit) ∙ sorts_long kids
takes_kids (op.Variable v) kids fit = tt
takes_kids _ kids fit = tt

module _ (nodes : List Tree) where
  -- ---- the text of a node

  pub record NodeParts (text : List ℕ) (t : Tree) : Type 0 where
    pub its_op : Op
    pub kids : List Tree
    pub tree_is : t ≡ node its_op (forest kids)
    pub read : IsRead nodes text its_op kids
    pub new : IsNew nodes its_op kids

  pub node_parts : (text : List ℕ) (t : Tree) → IsNode nodes text t → NodeParts text t
  node_parts _ _ (new_node {op = o} {kids} names new) = record {
    its_op = o;
    kids = kids;
    tree_is = refl;
    read = record { names = names; parts = new.fits.parts_fit; arity = takes_kids o kids new.fits.kids_fit };
    new = new;
  }

  pub one_node : (text : List ℕ) (s t : Tree) → IsNode nodes text s → IsNode nodes text t → s ≡ t
  one_node text s t a b =
      let p = node_parts text s a in
      let q = node_parts text t b in
      let same = one_reading nodes text p.its_op q.its_op p.kids q.kids p.read q.read in
      p.tree_is ∙ (λ i. node (same.0 i) (forest (same.1 i))) ∙ sym q.tree_is

  -- ---- lines

  pub record LineParts (line : List ℕ) (m : ℕ) (t : Tree) : Type 0 where
    pub behind : List ℕ
    pub digits : List ℕ
    pub text : List ℕ
    pub line_is : line ≡ codes "node " ++ behind
    pub cut : CutAt behind 32 digits text
    pub number_is : IsNumber digits m
    pub node_is : IsNode nodes text t

  pub line_parts : (line : List ℕ) (m : ℕ) (t : Tree) → IsNodeLine nodes line m t → LineParts line m t
  line_parts _ _ _ (node_line {n} {text} {number = m} is its_node) = record {
    behind = n ++ 32 ∷ text;
    digits = n;
    text = text;
    line_is = simp append_assoc;
    cut = record { text_is = refl; first = number_lacks_space n m is };
    number_is = is;
    node_is = its_node;
  }

  pub same_behind : (a b : List ℕ) → codes "node " ++ a ≡ codes "node " ++ b → a ≡ b
  same_behind a b e = cc

  -- the number and the text of a line
  pub same_parts : (line : List ℕ) (behind digits text : List ℕ) (m : ℕ) (t : Tree) → line ≡ codes "node " ++ behind → CutAt behind 32 digits text →
      (q : LineParts line m t) →
      (q.digits ≡ digits) × (q.text ≡ text)
  same_parts line behind digits text m t line_is cut q =
      let same : q.behind ≡ behind = same_behind q.behind behind (sym q.line_is ∙ line_is) in
      one_cut behind 32 q.digits digits q.text text (subst (λ l. CutAt l 32 q.digits q.text) same q.cut) cut

  -- one number and one tree
  pub one_node_line : (line : List ℕ) (m n : ℕ) (s t : Tree) → IsNodeLine nodes line m s → IsNodeLine nodes line n t → (m ≡ n) × (s ≡ t)
  one_node_line line m n s t a b =
      let p = line_parts line m s a in
      let q = line_parts line n t b in
      let same = same_parts line q.behind q.digits q.text m s q.line_is q.cut p in (
        one_number q.digits m n (subst (λ d. IsNumber d m) same.0 p.number_is) q.number_is,
        one_node q.text s t (subst (λ l. IsNode nodes l s) same.1 p.node_is) q.node_is,
      )
