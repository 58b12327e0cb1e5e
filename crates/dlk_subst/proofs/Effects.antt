-- What a substitution does at an operator, by its effect.
use Rattle.std.proofs.Common.{◌≡◌, refl, sym, ap, subst, ◌∙◌, ℕ, ◌<◌, ◌≤◌, List, length, replicate, Bool, true, false, Option, Some, None, arith}
use Rattle.std.proofs.Common.{Result, Ok, Err}
use Rattle.std.specs.Prelude.{IsTrue, IfOk}
use Rattle.std.proofs.lemmas.Bool.Decides.{nat_tests}
use Rattle.std.proofs.lemmas.List.{length-replicate}
use Rattle.std.proofs.lemmas.Bool.{and_parts}
use Rattle.dlk_tree.specs.declared.op.Sym.{Sym}
use Rattle.dlk_tree.specs.declared.op.Kind.{Kind}
use Rattle.dlk_tree.specs.declared.op.Kind.TheVariants.{Func, UnitFunc, Pred, UnitPred, Quant, Prog, Ode}
use Rattle.dlk_tree.specs.declared.op.Sort.TheVariants.{Term, Formula}
use Rattle.dlk_tree.specs.declared.op.OdeItem.{OdeItem}
use Rattle.dlk_tree.specs.declared.op.Op.{Op}
use Rattle.dlk_tree.specs.declared.op.Op.TheVariants as Op'
use Rattle.dlk_tree.specs.Table.{has_arity, is_sym_of, Fits}
use Rattle.dlk_tree.specs.Trees.{Tree, Forest, sort, trees_in}
use Rattle.dlk_tree.specs.Statics.{all}
use Rattle.dlk_store.specs.declared.Id.{Id}
use Rattle.dlk_store.specs.Stores.{IsId, tree, kid_trees, sorts_at}
use Rattle.dlk_store.specs.Kids.{sorts-kid_trees}
use Rattle.dlk_store.proofs.Kids.{kids_length}
use Rattle.dlk_calculus.specs.Kids.{first}
use Rattle.dlk_calculus.specs.Captures.{Stays}
use Rattle.dlk_calculus.specs.Plug.{Plug, filled}
use Rattle.dlk_calculus.specs.Pairs.{replacement}
use Rattle.dlk_calculus.specs.Subst.{IsAdmissible, Replaced, SubstAt}
use Rattle.dlk_calculus.proofs.Sorts.{AreTerms, terms_replicated, first_sort}
use Rattle.dlk_sequent.specs.declared.subst.Pair.{Pair}
use Rattle.dlk_sequent.specs.Substitutions.{pairs_at, AreKnownPairs}
use Rattle.dlk_subst.specs.declared.pairs.Effect.{Effect}
use Rattle.dlk_subst.specs.declared.pairs.Effect.TheVariants as Effect'
use Rattle.dlk_subst.specs.Results.{IsResult, HasNone, args_at}
use Rattle.dlk_subst.specs.Effects.{found, or_stays, effect_of, EffectRow}
use Rattle.dlk_subst.proofs.Found.{tree_of, found_tree, found_known}

abbrev pub is_system : Op → Bool
is_system (Op'.System items) = true
is_system _ = false

pub no_system : (op : Op) → ((items : List OdeItem) → op ≡ Op'.System items → ⊥) → is_system op ≡ false
no_system (Op'.System items) h = absurd (h items refl)
no_system _ h = refl

-- ---- the row of an effect

module _ (trees : List Tree) (pairs : List Pair) (old new : Forest) (t : Tree) where
  -- what holds with a replacement holds by its id, and without one the operator stays
  module _ (op : Op) (effect : Id → Effect) (With : Tree → Type 0) where
    replaced : (o : Option Id) → ((id : Id) → EffectRow trees pairs op old new (effect id) t → With (tree trees id)) →
        EffectRow trees pairs op old new (or_stays effect o) t → Replaced (tree_of trees o) With (Stays (IsAdmissible (pairs_at trees pairs)) op old new t)
    replaced (Some id) same h = same id h
    replaced None same h = h

    by_id : (o : Option Id) → ((id : Id) → With (tree trees id) → EffectRow trees pairs op old new (effect id) t) →
        Replaced (tree_of trees o) With (Stays (IsAdmissible (pairs_at trees pairs)) op old new t) → EffectRow trees pairs op old new (or_stays effect o) t
    by_id (Some id) same h = same id h
    by_id None same h = h

    from_found : (s : Sym) → ((id : Id) → EffectRow trees pairs op old new (effect id) t → With (tree trees id)) →
        EffectRow trees pairs op old new (or_stays effect (found pairs s)) t
        → Replaced (replacement (pairs_at trees pairs) s) With (Stays (IsAdmissible (pairs_at trees pairs)) op old new t)
    from_found s same h =
        subst (λ o. Replaced o With (Stays (IsAdmissible (pairs_at trees pairs)) op old new t)) (sym (found_tree trees pairs s))
        (replaced (found pairs s) same h)

    to_found : (s : Sym) → ((id : Id) → With (tree trees id) → EffectRow trees pairs op old new (effect id) t) →
        Replaced (replacement (pairs_at trees pairs) s) With (Stays (IsAdmissible (pairs_at trees pairs)) op old new t)
        → EffectRow trees pairs op old new (or_stays effect (found pairs s)) t
    to_found s same h =
        by_id (found pairs s) same (subst (λ o. Replaced o With (Stays (IsAdmissible (pairs_at trees pairs)) op old new t)) (found_tree trees pairs s) h)

  effect_row : (op : Op) → is_system op ≡ false → EffectRow trees pairs op old new (effect_of pairs op) t → SubstAt (pairs_at trees pairs) op old new t
  effect_row (Op'.UnitFun s) e h = from_found (Op'.UnitFun s) Effect'.Gives (λ r. t ≡ r) s (λ id k. k) h
  effect_row (Op'.UnitPred s) e h = from_found (Op'.UnitPred s) Effect'.Gives (λ r. t ≡ r) s (λ id k. k) h
  effect_row (Op'.Const s) e h = from_found (Op'.Const s) Effect'.Gives (λ r. t ≡ r) s (λ id k. k) h
  effect_row (Op'.Apply s) e h = from_found (Op'.Apply s) Effect'.Plugs (λ r. Plug (trees_in new) r t) s (λ id k. k) h
  effect_row (Op'.Holds s) e h = from_found (Op'.Holds s) Effect'.Plugs (λ r. Plug (trees_in new) r t) s (λ id k. k) h
  effect_row (Op'.Predicational s) e h =
      from_found (Op'.Predicational s) Effect'.Fills (λ r. IsAdmissible (pairs_at trees pairs) all old × (t ≡ filled (first new) r)) s (λ id k. k) h
  effect_row (Op'.System items) e h = cc
  effect_row _ e h = h

  row_effect : (op : Op) → is_system op ≡ false → SubstAt (pairs_at trees pairs) op old new t → EffectRow trees pairs op old new (effect_of pairs op) t
  row_effect (Op'.UnitFun s) e h = to_found (Op'.UnitFun s) Effect'.Gives (λ r. t ≡ r) s (λ id k. k) h
  row_effect (Op'.UnitPred s) e h = to_found (Op'.UnitPred s) Effect'.Gives (λ r. t ≡ r) s (λ id k. k) h
  row_effect (Op'.Const s) e h = to_found (Op'.Const s) Effect'.Gives (λ r. t ≡ r) s (λ id k. k) h
  row_effect (Op'.Apply s) e h = to_found (Op'.Apply s) Effect'.Plugs (λ r. Plug (trees_in new) r t) s (λ id k. k) h
  row_effect (Op'.Holds s) e h = to_found (Op'.Holds s) Effect'.Plugs (λ r. Plug (trees_in new) r t) s (λ id k. k) h
  row_effect (Op'.Predicational s) e h =
      to_found (Op'.Predicational s) Effect'.Fills (λ r. IsAdmissible (pairs_at trees pairs) all old × (t ≡ filled (first new) r)) s (λ id k. k) h
  row_effect (Op'.System items) e h = cc
  row_effect _ e h = h

module _ (trees : List Tree) (pairs : List Pair) (op : Op) (old new : Forest) (effect : Effect) (other : is_system op ≡ false)
    (is : effect ≡ effect_of pairs op) where
  pub effect_holds : (now : List Tree) (id : Id) → IsResult (EffectRow trees pairs op old new effect) now id →
      IsResult (SubstAt (pairs_at trees pairs) op old new) now id
  effect_holds now id h = record {
    result = h.result;
    is_related = effect_row trees pairs old new h.result op other (subst (λ r. EffectRow trees pairs op old new r h.result) is h.is_related);
    stands = h.stands;
  }

  pub effect_ok : {E : Type 0} (now : List Tree) (result : Result Id E) → IfOk result (IsResult (EffectRow trees pairs op old new effect) now) →
      IfOk result (IsResult (SubstAt (pairs_at trees pairs) op old new) now)
  effect_ok now (Err e) ok = tt
  effect_ok now (Ok id) ok = effect_holds now id ok

  pub effect_none : (Made : Tree → Type 0) → HasNone (EffectRow trees pairs op old new effect) →
      HasNone (λ t. SubstAt (pairs_at trees pairs) op old new t × Made t)
  effect_none Made none = λ t made. none t (subst (λ r. EffectRow trees pairs op old new r t) (sym is) (row_effect trees pairs old new t op other made.0))

-- ---- what an effect says of the operator

abbrev pub effect_id : Effect → Option Id
effect_id (Effect'.Gives id) = Some id
effect_id (Effect'.Plugs id) = Some id
effect_id (Effect'.Fills id) = Some id
effect_id Effect'.Stays = None

or_stays_id : (effect : Id → Effect) → ((id : Id) → effect_id (effect id) ≡ Some id) → (o : Option Id) → effect_id (or_stays effect o) ≡ o
or_stays_id effect is (Some id) = is id
or_stays_id effect is None = refl

-- the id of an effect was found for a symbol
id_found : (pairs : List Pair) (op : Op) (id : Id) → effect_id (effect_of pairs op) ≡ Some id → (s : Sym) × (found pairs s ≡ Some id)
id_found pairs (Op'.UnitFun s) id e = (s, sym (or_stays_id Effect'.Gives (λ i. refl) (found pairs s)) ∙ e)
id_found pairs (Op'.UnitPred s) id e = (s, sym (or_stays_id Effect'.Gives (λ i. refl) (found pairs s)) ∙ e)
id_found pairs (Op'.Const s) id e = (s, sym (or_stays_id Effect'.Gives (λ i. refl) (found pairs s)) ∙ e)
id_found pairs (Op'.Apply s) id e = (s, sym (or_stays_id Effect'.Plugs (λ i. refl) (found pairs s)) ∙ e)
id_found pairs (Op'.Holds s) id e = (s, sym (or_stays_id Effect'.Plugs (λ i. refl) (found pairs s)) ∙ e)
id_found pairs (Op'.Predicational s) id e = (s, sym (or_stays_id Effect'.Fills (λ i. refl) (found pairs s)) ∙ e)
id_found pairs _ id e = cc

pub effect_found : (pairs : List Pair) (op : Op) (effect : Effect) (id : Id) → effect ≡ effect_of pairs op → effect_id effect ≡ Some id
    → (s : Sym) × (found pairs s ≡ Some id)
effect_found pairs op effect id e h = id_found pairs op id (ap effect_id (sym e) ∙ h)

-- the replacement of an effect is one of the store
pub effect_known : (trees : List Tree) (pairs : List Pair) (op : Op) (effect : Effect) (id : Id) → AreKnownPairs trees pairs →
    effect ≡ effect_of pairs op → effect_id effect ≡ Some id → IsId trees id
effect_known trees pairs op effect id all e h = let f = effect_found pairs op effect id e h in found_known trees pairs f.0 id all f.1

abbrev is_plug : Effect → Bool
is_plug (Effect'.Plugs id) = true
is_plug _ = false

abbrev is_fill : Effect → Bool
is_fill (Effect'.Fills id) = true
is_fill _ = false

-- a test that no effect of this kind passes
none_passes : (test : Effect → Bool) (effect : Id → Effect) → ((id : Id) → test (effect id) ≡ false) → test Effect'.Stays ≡ false → (o : Option Id) →
    test (or_stays effect o) ≡ true → ⊥
none_passes test effect fails stays (Some id) e = let f = fails id in cc
none_passes test effect fails stays None e = cc

few_arguments : (k : Kind) (n : ℕ) → IsTrue (has_arity k n) → n ≤ 8
few_arguments Func n e = grind (arith, nat_tests)
few_arguments UnitFunc n e = grind (arith, nat_tests)
few_arguments Pred n e = grind (arith, nat_tests)
few_arguments UnitPred n e = grind (arith, nat_tests)
few_arguments Quant n e = grind (arith, nat_tests)
few_arguments Prog n e = grind (arith, nat_tests)
few_arguments Ode n e = grind (arith, nat_tests)

symbol_few : (k : Kind) (s : Sym) → IsTrue (is_sym_of k s) → s.arity ≤ 8
symbol_few k s e =
    let parts = and_parts _ _ (and_parts _ _ (and_parts _ _ e).1).0 in
    few_arguments s.kind s.arity (and_parts _ _ parts.0).1

-- few terms
abbrev AreArguments : List Tree → List Id → Type 0
AreArguments trees ids = (length ids ≤ 8) × AreTerms (args_at trees ids)

arguments_at : (trees : List Tree) (new : List Id) (k : Kind) (s : Sym) → IsTrue (is_sym_of k s) → sorts_at trees new ≡ replicate s.arity Term →
    AreArguments trees new
arguments_at trees new k s is fit =
    let many : length new ≡ s.arity = sym (kids_length trees new) ∙ ap length fit ∙ length-replicate s.arity Term in
    (omega (arith, symbol_few k s is), terms_replicated (kid_trees trees new) s.arity (sorts-kid_trees trees new ∙ fit))

plugged_at : (trees : List Tree) (pairs : List Pair) (op : Op) (new : List Id) → is_plug (effect_of pairs op) ≡ true → Fits op (sorts_at trees new) →
    AreArguments trees new
plugged_at trees pairs (Op'.Apply s) new e fits = arguments_at trees new Func s fits.parts_fit fits.kids_fit
plugged_at trees pairs (Op'.Holds s) new e fits = arguments_at trees new Pred s fits.parts_fit fits.kids_fit
plugged_at trees pairs (Op'.UnitFun s) new e fits = absurd (none_passes is_plug Effect'.Gives (λ i. refl) refl (found pairs s) e)
plugged_at trees pairs (Op'.UnitPred s) new e fits = absurd (none_passes is_plug Effect'.Gives (λ i. refl) refl (found pairs s) e)
plugged_at trees pairs (Op'.Const s) new e fits = absurd (none_passes is_plug Effect'.Gives (λ i. refl) refl (found pairs s) e)
plugged_at trees pairs (Op'.Predicational s) new e fits = absurd (none_passes is_plug Effect'.Fills (λ i. refl) refl (found pairs s) e)
plugged_at trees pairs _ new e fits = cc

-- what is plugged are few terms
pub plugs_arguments : (trees : List Tree) (pairs : List Pair) (op : Op) (new : List Id) (id : Id) → Effect'.Plugs id ≡ effect_of pairs op →
    Fits op (sorts_at trees new) → (length new ≤ 8) × AreTerms (args_at trees new)
plugs_arguments trees pairs op new id e fits = plugged_at trees pairs op new (ap is_plug (sym e)) fits

-- there is a first one, and it is a formula
abbrev IsFormulaFirst : List Tree → List Id → Type 0
IsFormulaFirst trees ids = (0 < length ids) × (sort (first (kid_trees trees ids)) ≡ Formula)

filled_at : (trees : List Tree) (pairs : List Pair) (op : Op) (new : List Id) → is_fill (effect_of pairs op) ≡ true → Fits op (sorts_at trees new) →
    IsFormulaFirst trees new
filled_at trees pairs (Op'.Predicational s) new e fits =
    let many : length new ≡ 1 = sym (kids_length trees new) ∙ ap length fits.kids_fit in
    (omega arith, first_sort (kid_trees trees new) Formula (sorts-kid_trees trees new ∙ fits.kids_fit))
filled_at trees pairs (Op'.UnitFun s) new e fits = absurd (none_passes is_fill Effect'.Gives (λ i. refl) refl (found pairs s) e)
filled_at trees pairs (Op'.UnitPred s) new e fits = absurd (none_passes is_fill Effect'.Gives (λ i. refl) refl (found pairs s) e)
filled_at trees pairs (Op'.Const s) new e fits = absurd (none_passes is_fill Effect'.Gives (λ i. refl) refl (found pairs s) e)
filled_at trees pairs (Op'.Apply s) new e fits = absurd (none_passes is_fill Effect'.Plugs (λ i. refl) refl (found pairs s) e)
filled_at trees pairs (Op'.Holds s) new e fits = absurd (none_passes is_fill Effect'.Plugs (λ i. refl) refl (found pairs s) e)
filled_at trees pairs _ new e fits = cc

-- what fills `_` is a formula
pub fills_formula : (trees : List Tree) (pairs : List Pair) (op : Op) (new : List Id) (id : Id) → Effect'.Fills id ≡ effect_of pairs op →
    Fits op (sorts_at trees new) → (0 < length new) × (sort (first (kid_trees trees new)) ≡ Formula)
fills_formula trees pairs op new id e fits = filled_at trees pairs op new (ap is_fill (sym e)) fits
