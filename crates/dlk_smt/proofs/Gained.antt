-- What is collected of trees one after the other.
use Rattle.std.proofs.Common.{◌≡◌, ℕ, ◌≤◌, List, [], ◌∷◌, ◌++◌, length, get_or, drop, map, refl, sym, ap, ◌∙◌, arith, append_assoc, subst}
use Rattle.std.specs.declared.cmp.Ordering.{Ordering}
use Rattle.std.specs.Ordering.{nat_cmp}
use Rattle.std.specs.Cmp.Lexicographic.{slice_cmp}
use Rattle.std.specs.BTreeSet.{insert_key}
use Rattle.dlk_tree.specs.Listed.{var_cmp}
use Rattle.dlk_tree.specs.declared.op.Var.{Var}
use Rattle.dlk_tree.specs.declared.op.Op.{Op}
use Rattle.dlk_tree.specs.Trees.{Tree, node, kid, forest}
use Rattle.dlk_store.specs.declared.Id.{Id}
use Rattle.dlk_store.specs.Stores.{tree, kid_trees}
use Rattle.dlk_sequent.specs.Sequents.{sequent_at}
use Rattle.dlk_sequent.specs.declared.sequent.Sequent.{Sequent}
use Rattle.dlk_smt.specs.Smt.{put_all, own_variables, own_functions, everywhere_in, in_formulas}
use Rattle.dlk_smt.specs.Collected.{Gains}
use Rattle.dlk_smt.specs.declared.collected.Symbols.{Symbols}

pub put_all-append : {A : Type 0} (cmp : A → A → Ordering) (keys xs ys : List A) → put_all cmp keys (xs ++ ys) ≡ put_all cmp (put_all cmp keys xs) ys
put_all-append cmp keys [] ys = refl
put_all-append cmp keys (x ∷ xs) ys = put_all-append cmp (insert_key cmp keys x) xs ys

-- one after the other
pub Gains-both : (a b c : Symbols) (vs ws : List Var) (fs gs : List (List ℕ)) → Gains a b vs fs → Gains b c ws gs → Gains a c (vs ++ ws) (fs ++ gs)
Gains-both a b c vs ws fs gs p q = record {
  variables_are = q.variables_are ∙ ap (λ ks. put_all var_cmp ks ws) p.variables_are ∙ sym (put_all-append var_cmp a.variables.keys vs ws);
  functions_are = q.functions_are ∙ ap (λ ks. put_all (slice_cmp nat_cmp) ks gs) p.functions_are ∙ sym
      (put_all-append (slice_cmp nat_cmp) a.functions.keys fs gs);
}

-- kids are those of their trees
pub kid_trees-forest : (trees : List Tree) (ks : List Id) → kid_trees trees ks ≡ forest (map (tree trees) ks)
kid_trees-forest trees [] = refl
kid_trees-forest trees (k ∷ ks) = ap (kid (tree trees k)) (kid_trees-forest trees ks)

-- a node, its kids and what stands behind it
everywhere_node : {A : Type 0} (own : Op → List A) (trees : List Tree) (ks : List Id) (d : Id) (op : Op) (js : List Id) → 1 ≤ length ks
    → tree trees (get_or ks 0 d) ≡ node op (kid_trees trees js)
    → own op ++ (everywhere_in own (kid_trees trees js) ++ everywhere_in own (kid_trees trees (drop 1 ks))) ≡ everywhere_in own (kid_trees trees ks)
everywhere_node own trees [] d op js h e = absurd (omega (arith, h))
everywhere_node own trees (k ∷ ks) d op js h e =
    sym (append_assoc (own op) (everywhere_in own (kid_trees trees js)) (everywhere_in own (kid_trees trees ks)))
    ∙ ap (λ t. everywhere_in own (kid t (kid_trees trees ks))) (sym e)

pub Gains-node : (a b c d : Symbols) (trees : List Tree) (ks : List Id) (i : Id) (op : Op) (js : List Id) → 1 ≤ length ks
    → tree trees (get_or ks 0 i) ≡ node op (kid_trees trees js)
    → Gains a b (own_variables op) (own_functions op)
    → Gains b c (everywhere_in own_variables (kid_trees trees js)) (everywhere_in own_functions (kid_trees trees js))
    → Gains c d (everywhere_in own_variables (kid_trees trees (drop 1 ks))) (everywhere_in own_functions (kid_trees trees (drop 1 ks)))
    → Gains a d (everywhere_in own_variables (kid_trees trees ks)) (everywhere_in own_functions (kid_trees trees ks))
Gains-node a b c d trees ks i op js h e p q r =
    let vs = everywhere_node own_variables trees ks i op js h e in
    let fs = everywhere_node own_functions trees ks i op js h e in
    let all = Gains-both a b d _ _ _ _ p (Gains-both b c d _ _ _ _ q r) in
    subst (λ l. Gains a d l (everywhere_in own_functions (kid_trees trees ks))) vs
    (subst (λ l. Gains a d (own_variables op ++ (everywhere_in own_variables (kid_trees trees js) ++ everywhere_in own_variables
    (kid_trees trees (drop 1 ks)))) l) fs all)

-- a sequent's sides one after the other
pub Gains-sequent : (a b c : Symbols) (trees : List Tree) (s : Sequent) (ls rs : List Id) → ls ≡ s.ante → rs ≡ s.succ → a.variables.keys ≡ []
    → a.functions.keys ≡ []
    → Gains a b (everywhere_in own_variables (kid_trees trees ls)) (everywhere_in own_functions (kid_trees trees ls))
    → Gains b c (everywhere_in own_variables (kid_trees trees rs)) (everywhere_in own_functions (kid_trees trees rs))
    → (c.variables.keys ≡ put_all var_cmp [] (in_formulas own_variables (sequent_at trees s))) ×
    (c.functions.keys ≡ put_all (slice_cmp nat_cmp) [] (in_formulas own_functions (sequent_at trees s)))
Gains-sequent a b c trees s ls rs l r v f p q =
    let all = Gains-both a b c _ _ _ _ p q in
    let left = kid_trees-forest trees ls ∙ ap (λ ks. forest (map (tree trees) ks)) l in
    let right = kid_trees-forest trees rs ∙ ap (λ ks. forest (map (tree trees) ks)) r in (
      all.variables_are ∙ (λ i. put_all var_cmp (v i) (everywhere_in own_variables (left i) ++ everywhere_in own_variables (right i))),
      all.functions_are ∙ (λ i. put_all (slice_cmp nat_cmp) (f i) (everywhere_in own_functions (left i) ++ everywhere_in own_functions (right i))),
    )
