-- The lines of a step, appended one by one.
use Rattle.std.proofs.Common.{◌≡◌, ℕ, suc, ◌+◌, ◌<◌, ◌≤◌, List, [], ◌∷◌, ◌++◌, length, take, drop, get_or, codes, refl, sym, ap, subst, ◌∙◌}
use Rattle.std.proofs.Common.{append_assoc, append-nil, add-one, arith, length-take}
use Rattle.std.proofs.Math.Seq.{drop-cons}
use Rattle.std.proofs.lemmas.List.{take_more, take-append-drop, drop_all, get_or-map}
use Rattle.dlk_tree.specs.Trees.{Tree}
use Rattle.dlk_calculus.specs.Rules.{Arguments, OnePlace, TwoPlaces, PlaceAndFormula, OneFormula, PlaceAndName, arguments_of}
use Rattle.dlk_calculus.specs.Steps.{Step, Start, UseAxiom, UseRule, Leaf, Apply, Merge, Substitute, Rename}
use Rattle.dlk_store.specs.declared.Id.{Id}
use Rattle.dlk_store.specs.Stores.{tree}
use Rattle.dlk_print.specs.Printed.{Begun}
use Rattle.dlk_print.proofs.Left.{Left, unbegun, same_rest}
use Rattle.dlk_lines.specs.Looks.{arguments_looks, step_looks}
use Rattle.dlk_lines.specs.Spelled.{ByNodes}
use Rattle.dlk_lines.specs.Written.{line_text, trees_of}
use Rattle.dlk_nodes.specs.Follow.{HasKidsThere}
use Rattle.dlk_nodes.specs.Put.{KidsFollow}
use Rattle.dlk_nodes.specs.Tables.{nodes_at}
use Rattle.dlk_nodes.specs.TermFiles.{nodes_after, node_lines, its_lines, ended}
use Rattle.dlk_nodes.specs.Terms.{new_in_each}
use Rattle.dlk_nodes.specs.Written.{numbered_text, node_text}
use Rattle.dlk_nodes.proofs.LongerTable.{text_stays}

-- ---- the lines of nodes

module _ (all : List Tree) (k : ℕ) (d : Tree) (less : k < length all) where
  next : drop k all ≡ get_or all k d ∷ drop (k + 1) all
  next = drop-cons all k d less ∙ ap (λ n. get_or all k d ∷ drop n all) (sym (add-one k))

  -- the next line is left
  pub line_left : {old text now : List ℕ} → Left old text now (ended (node_lines (take k all) (drop k all))) →
      Left old text now (node_text (take k all) (get_or all k d) ++ (codes "\n" ++ ended (node_lines (take (k + 1) all) (drop (k + 1) all))))
  line_left left =
      let t = get_or all k d in
      let first = ap (λ l. ended (node_lines (take k all) l)) next in
      let then : node_text (take k all) t ++ 10 ∷ ended (node_lines (take k all ++ t ∷ []) (drop (k + 1) all)) ≡ node_text (take k all) t ++ 10 ∷ ended
      (node_lines (take (k + 1) all) (drop (k + 1) all)) =
      ap (λ n. node_text (take k all) t ++ 10 ∷ ended (node_lines n (drop (k + 1) all))) (sym (take_more all k d less)) in
      same_rest (first ∙ then) left

  first_there : KidsFollow (take k all) (drop k all) → HasKidsThere (take k all) (get_or all k d)
  first_there f = let w : KidsFollow (take k all) (get_or all k d ∷ drop (k + 1) all) = subst (KidsFollow (take k all)) next f in w.0

  pub follow_next : KidsFollow (take k all) (drop k all) → KidsFollow (take (k + 1) all) (drop (k + 1) all)
  follow_next f =
      let w : KidsFollow (take k all) (get_or all k d ∷ drop (k + 1) all) = subst (KidsFollow (take k all)) next f in
      subst (λ n. KidsFollow n (drop (k + 1) all)) (sym (take_more all k d less)) w.1

  -- its text behind all nodes is that behind those before it
  pub line_same : KidsFollow (take k all) (drop k all) → numbered_text (k + 1) all (get_or all k d) ≡ node_text (take k all) (get_or all k d)
  line_same f =
      let t = get_or all k d in
      let whole : take k all ++ drop k all ≡ all = take-append-drop k all in
      let long : length (take k all) + 1 ≡ k + 1 = omega (arith, length-take k all, less) in
      ap (λ n. numbered_text (k + 1) n t) (sym whole) ∙ text_stays (take k all) (drop k all) (k + 1) t (first_there f)
      ∙ ap (λ n. numbered_text n (take k all) t) (sym long)

pub no_lines_left : {old text now : List ℕ} (all : List Tree) (k : ℕ) → length all ≤ k → Left old text now (ended (node_lines (take k all) (drop k all))) →
    Left old text now []
no_lines_left all k le left = same_rest (ap (λ l. ended (node_lines (take k all) l)) (drop_all k all le)) left

-- ids and their trees
pub tree_there : (trees : List Tree) (ids : List Id) (k : ℕ) (d : Id) → k < length ids →
    get_or (nodes_at trees ids) k (tree trees d) ≡ tree trees (get_or ids k d)
tree_there trees ids k d less = get_or-map (tree trees) ids k d (tree trees d) less

pub as_many : (trees : List Tree) (ids : List Id) → length (nodes_at trees ids) ≡ length ids
as_many trees [] = refl
as_many trees (i ∷ ids) = ap suc (as_many trees ids)

-- the line of the node at a place, where the ids are read again
pub line_at : (trees : List Tree) (ids read : List Id) (k : ℕ) (d : Id) → read ≡ ids → k < length ids →
    KidsFollow (take k (nodes_at trees ids)) (drop k (nodes_at trees ids)) →
    numbered_text (k + 1) (nodes_at trees ids) (tree trees (get_or read k d)) ≡ node_text (take k (nodes_at trees ids)) (get_or (nodes_at trees ids) k
    (tree trees d))
line_at trees ids read k d e less follow =
    let all = nodes_at trees ids in
    let same : tree trees (get_or read k d) ≡ get_or all k (tree trees d) = ap (λ l. tree trees (get_or l k d)) e ∙ sym (tree_there trees ids k d less) in
    ap (numbered_text (k + 1) all) same ∙ line_same all k (tree trees d) (omega (arith, less, as_many trees ids)) follow

-- ---- nodes behind others

module _ (n : ℕ) (nodes new whole : List Tree) (long : n ≡ length nodes) (e : whole ≡ nodes ++ new) where
  taken : (k : ℕ) (xs ys : List Tree) → k ≡ length xs → take k (xs ++ ys) ≡ xs
  taken k xs ys same = ap (λ m. take m (xs ++ ys)) same ∙ go xs
    where
      go : (zs : List Tree) → take (length zs) (zs ++ ys) ≡ zs
      go [] = refl
      go (z ∷ zs) = ap (λ l. z ∷ l) (go zs)

  dropped : (k : ℕ) (xs ys : List Tree) → k ≡ length xs → drop k (xs ++ ys) ≡ ys
  dropped k xs ys same = ap (λ m. drop m (xs ++ ys)) same ∙ go xs
    where
      go : (zs : List Tree) → drop (length zs) (zs ++ ys) ≡ ys
      go [] = refl
      go (z ∷ zs) = go zs

  pub front_is : take n whole ≡ nodes
  front_is = ap (take n) e ∙ taken n nodes new long

  pub behind_is : drop n whole ≡ new
  behind_is = ap (drop n) e ∙ dropped n nodes new long

  pub lines_are : ended (node_lines (take n whole) (drop n whole)) ≡ ended (node_lines nodes new)
  lines_are = λ i. ended (node_lines (front_is i) (behind_is i))

  pub follow_are : KidsFollow nodes new → KidsFollow (take n whole) (drop n whole)
  follow_are f = subst (λ l. KidsFollow l (drop n whole)) (sym front_is) (subst (KidsFollow nodes) (sym behind_is) f)

-- ---- the whole text

pub ended_both : (a b : List (List ℕ)) → ended (a ++ b) ≡ ended a ++ ended b
ended_both [] b = refl
ended_both (line ∷ a) b = ap (λ l. line ++ 10 ∷ l) (ended_both a b) ∙ sym (append_assoc line (10 ∷ ended a) (ended b))

pub its_text_left : (old : List ℕ) (nodes : List Tree) (number : ℕ) (step : Step) →
    Left old (ended (its_lines nodes number step)) old (ended (node_lines nodes (new_in_each nodes (trees_of step))) ++
    (line_text (ByNodes (nodes_after nodes step)) number step ++ codes "\n"))
its_text_left old nodes number step =
    unbegun old (sym (ended_both (node_lines nodes (new_in_each nodes (trees_of step))) (line_text (ByNodes (nodes_after nodes step)) number step ∷ [])))

pub whole_text : {old text now : List ℕ} → Left old text now [] → now ≡ old ++ text
whole_text {now = now} s = sym (append-nil now) ∙ s.left

pub all_begun : {old text now : List ℕ} → Left old text now [] → Begun old now text
all_begun s = record { grown = s.grown; within = ([], sym s.left) }

pub nothing_begun : (old text : List ℕ) → Begun old old text
nothing_begun old text = record { grown = ([], sym (append-nil old)); within = (text, refl) }

-- ---- no node is looked at by its number

no_arguments_looks : (nodes : List Tree) (arguments : Arguments) → arguments_looks (ByNodes nodes) arguments ≡ 0
no_arguments_looks nodes (OnePlace i) = refl
no_arguments_looks nodes (TwoPlaces i k) = refl
no_arguments_looks nodes (PlaceAndFormula i h) = refl
no_arguments_looks nodes (OneFormula h) = refl
no_arguments_looks nodes (PlaceAndName i y) = refl

pub no_looks : (nodes : List Tree) (step : Step) → step_looks (ByNodes nodes) step ≡ 0
no_looks nodes (Start s) = refl
no_looks nodes (UseAxiom name) = refl
no_looks nodes (UseRule name) = refl
no_looks nodes (Leaf s) = refl
no_looks nodes (Apply fact goal rule) = no_arguments_looks nodes (arguments_of rule)
no_looks nodes (Merge fact goal by) = refl
no_looks nodes (Substitute fact pairs) = refl
no_looks nodes (Rename fact x y) = refl
