-- Each symbol that an assertion uses is declared, once.
use Rattle.std.proofs.Common.{◌≡◌, ◌⊎◌, inl, inr, ℕ, suc, Bool, true, false, ◌||◌, List, [], ◌∷◌, ◌++◌, get_or, map, refl}
use Rattle.std.proofs.Common.{sym, ap, subst, ◌∙◌, arith}
use Rattle.std.specs.Prelude.{All}
use Rattle.std.specs.List.{list_any, AllByRecursion}
use Rattle.std.specs.List.Sorted.{IsStrictlySortedBy}
use Rattle.std.specs.Str.{bytes_eq}
use Rattle.std.specs.Ordering.{nat_cmp, is_eq}
use Rattle.std.specs.Cmp.Lexicographic.{slice_cmp, nat_list_cmp_total, texts_ties}
use Rattle.std.specs.declared.cmp.Ordering.{Ordering}
use Rattle.std.specs.declared.cmp.Ordering.TheVariants.{Equal}
use Rattle.std.proofs.lemmas.List.{append-nil}
use Rattle.std.proofs.lemmas.List.Elements.{All-append, All-map}
use Rattle.std.proofs.lemmas.List.Kept.{IsStrictlySortedBy-filter}
use Rattle.std.proofs.lemmas.Slice.Eq.{bytes_eq-Decides}
use Rattle.std.proofs.lemmas.Bool.{or_right}
use Rattle.dlk_tree.specs.Names.{is_name}
use Rattle.dlk_tree.specs.Listed.{var_cmp}
use Rattle.dlk_tree.specs.Statics.{free}
use Rattle.dlk_tree.specs.Table.{Fits, all_distinct}
use Rattle.dlk_tree.specs.Trees.{Tree, node, Forest, no_kids, kid, forest, sorts, WellMade, AllWellMade}
use Rattle.dlk_tree.specs.declared.op.Var.{Var}
use Rattle.dlk_tree.specs.declared.op.Sort.{Sort}
use Rattle.dlk_tree.specs.declared.op.Op.{Op}
use Rattle.dlk_tree.specs.declared.op.Op.TheVariants as op
use Rattle.dlk_tree.proofs.Listing.{var_total, var_exact}
use Rattle.dlk_calculus.specs.Sequents.{Sequent, IsFormula, IsSequent}
use Rattle.dlk_smt.specs.Smt.{Expr, uses, variable_symbol, function_symbol, base_symbol, expression, denied, own_variables, own_functions, everywhere}
use Rattle.dlk_smt.specs.Smt.{everywhere_in, in_formulas, in_some_formula, put_all, free_variables, functions, declared, asserted}
use Rattle.dlk_smt.proofs.Members.{Has, Has-left, Has-right, Has-either, Has-map, Has-of-map, Has-filter, Has-at, Has-put, any_Has, Each-append}
use Rattle.dlk_smt.proofs.Members.{Each-filter, Each-put, sorted-put, absent, present, distinct_texts}
use Rattle.dlk_smt.proofs.Unlike.{one_variable, one_function, variable_no_function, base_no_variable, base_no_function}
use Rattle.dlk_smt.proofs.Used.{Names, used, denied_uses}

name_exact : (x y : List ℕ) → slice_cmp nat_cmp x y ≡ Equal → x ≡ y
name_exact x y e = (bytes_eq-Decides x y).0 (texts_ties x y ∙ ap is_eq e)

in_side : {A : Type 0} (own : Op → List A) (a : A) (t : Tree) (ts : List Tree) → Has t ts → Has a (everywhere own t) → Has a (everywhere_in own (forest ts))
in_side own a t [] h there = absurd h
in_side own a t (u ∷ ts) (inl e) there = Has-left a (everywhere own u) (everywhere_in own (forest ts)) (subst (λ z. Has a (everywhere own z)) e there)
in_side own a t (u ∷ ts) (inr h) there = Has-right a (everywhere own u) (everywhere_in own (forest ts)) (in_side own a t ts h there)

module _ (s : Sequent) where
  in_formula : {A : Type 0} (own : Op → List A) (a : A) (t : Tree) → Has t s.ante ⊎ Has t s.succ → Has a (everywhere own t) → Has a (in_formulas own s)
  in_formula own a t (inl left) there = Has-left a (everywhere_in own (forest s.ante)) (everywhere_in own (forest s.succ)) (in_side own a t s.ante left there)
  in_formula own a t (inr right) there = Has-right a (everywhere_in own (forest s.ante)) (everywhere_in own (forest s.succ))
      (in_side own a t s.succ right there)

  passes : (p : Tree → Bool) (t : Tree) → Has t s.ante ⊎ Has t s.succ → p t ≡ true → in_some_formula p s ≡ true
  passes p t (inl left) e = ap (λ b. b || list_any p s.succ) (any_Has p t s.ante e left)
  passes p t (inr right) e = or_right (list_any p s.ante) _ (any_Has p t s.succ e right)

  declared_of : (t : Tree) → Has t s.ante ⊎ Has t s.succ → (x : List ℕ) → Names x (free t) (everywhere own_variables t) (everywhere own_functions t)
      → Has x (declared s)
  declared_of t there x (inl (v, e, is_free, stands)) =
      let among = Has-put var_cmp var_exact v [] (in_formulas own_variables s) (in_formula own_variables v t there stands) in
      let kept = Has-filter (λ w. in_some_formula (λ u. free u w) s) v (put_all var_cmp [] (in_formulas own_variables s))
      (passes (λ u. free u v) t there is_free) among in
      subst (λ z. Has z (declared s)) (sym e) (Has-left (variable_symbol v) (map variable_symbol (free_variables s))
      (map function_symbol (functions s)) (Has-map variable_symbol v (free_variables s) kept))
  declared_of t there x (inr (g, e, stands)) =
      let among = Has-put (slice_cmp nat_cmp) name_exact g [] (in_formulas own_functions s) (in_formula own_functions g t there stands) in
      subst (λ z. Has z (declared s)) (sym e) (Has-right (function_symbol g) (map variable_symbol (free_variables s))
      (map function_symbol (functions s)) (Has-map function_symbol g (functions s) among))

  -- what an expression uses is declared
  abbrev pub IsCovered : Expr → Type 0
  IsCovered e = (x : List ℕ) → uses x e ≡ true → list_any (bytes_eq x) (declared s) ≡ true

  covered : (t : Tree) → Has t s.ante ⊎ Has t s.succ → IsCovered (expression t)
  covered t there x h = present x (declared s) (declared_of t there x (used t x h))

  pub all_covered : All IsCovered (asserted s)
  all_covered = All-append IsCovered (map expression s.ante) (map denied s.succ)
      (All-map IsCovered expression s.ante (λ i d h. covered (get_or s.ante i d) (inl (Has-at s.ante i d h))))
      (All-map IsCovered denied s.succ (λ i d h x u. covered (get_or s.succ i d) (inr (Has-at s.succ i d h)) x (denied_uses (get_or s.succ i d) x u)))

  no_base : Has base_symbol (declared s) → ⊥
  no_base h = elim (Has-either base_symbol (map variable_symbol (free_variables s)) (map function_symbol (functions s)) h) [
    | inl among ↦ let v = Has-of-map variable_symbol base_symbol (free_variables s) among in base_no_variable v.0 v.2
    | inr among ↦ let g = Has-of-map function_symbol base_symbol (functions s) among in base_no_function g.0 g.2
  ]

  pub base_undeclared : list_any (bytes_eq base_symbol) (declared s) ≡ false
  base_undeclared = absent base_symbol (declared s) no_base

-- ---- once

abbrev IsNamed : Var → Type 0
IsNamed v = is_name v.name ≡ true

own_named : (o : Op) (ks : List Sort) → Fits o ks → AllByRecursion IsNamed (own_variables o)
own_named (op.Variable v) ks f = (f.parts_fit, tt)
own_named _ ks f = tt

mutual
  named : (t : Tree) → WellMade t → AllByRecursion IsNamed (everywhere own_variables t)
  named (node o kids) w = Each-append IsNamed (own_variables o) (everywhere_in own_variables kids) (own_named o (sorts kids) w.0) (named_all kids w.1)

  named_all : (kids : Forest) → AllWellMade kids → AllByRecursion IsNamed (everywhere_in own_variables kids)
  named_all no_kids w = tt
  named_all (kid t rest) w = Each-append IsNamed (everywhere own_variables t) (everywhere_in own_variables rest) (named t w.0) (named_all rest w.1)

well_made_side : (ts : List Tree) → All IsFormula ts → AllWellMade (forest ts)
well_made_side [] all = tt
well_made_side (t ∷ ts) all = ((all 0 t (omega arith)).well_made, well_made_side ts (λ i d h. all (suc i) d (omega (arith, h))))

function_apart : (v : Var) (gs : List (List ℕ)) → Has (variable_symbol v) (map function_symbol gs) → ⊥
function_apart v gs h = let g = Has-of-map function_symbol (variable_symbol v) gs h in variable_no_function v g.0 g.2

abbrev Any : List ℕ → Type 0
Any x = Unit {0}

any_each : (xs : List (List ℕ)) → AllByRecursion Any xs
any_each [] = tt
any_each (x ∷ xs) = (tt, any_each xs)

sorted_none : {A : Type 0} (cmp : A → A → Ordering) → IsStrictlySortedBy cmp []
unfolding IsStrictlySortedBy
sorted_none cmp = tt

pub declared_distinct : (s : Sequent) → IsSequent s → all_distinct (declared s) ≡ true
declared_distinct s made =
    let names = functions s in
    let one_each : all_distinct (map function_symbol names ++ []) ≡ true = distinct_texts (slice_cmp nat_cmp) nat_list_cmp_total function_symbol Any
    (λ g h a b e. one_function g h e) [] (λ g h. h) names
    (sorted-put (slice_cmp nat_cmp) nat_list_cmp_total [] (in_formulas own_functions s) (sorted_none (slice_cmp nat_cmp))) (any_each names) refl in
    let functions_once = ap all_distinct (sym (append-nil (map function_symbol names))) ∙ one_each in
    let is_free : Var → Bool = λ w. in_some_formula (λ u. free u w) s in
    let all = Each-append IsNamed (everywhere_in own_variables (forest s.ante)) (everywhere_in own_variables (forest s.succ))
    (named_all (forest s.ante) (well_made_side s.ante made.ante)) (named_all (forest s.succ) (well_made_side s.succ made.succ)) in
    let sorted = IsStrictlySortedBy-filter var_cmp is_free (put_all var_cmp [] (in_formulas own_variables s))
    (sorted-put var_cmp var_total [] (in_formulas own_variables s) (sorted_none var_cmp)) in
    distinct_texts var_cmp var_total variable_symbol IsNamed one_variable (map function_symbol names) (λ v. function_apart v names) (free_variables s) sorted
    (Each-filter IsNamed is_free (put_all var_cmp [] (in_formulas own_variables s)) (Each-put var_cmp IsNamed [] (in_formulas own_variables s) tt all))
    functions_once
