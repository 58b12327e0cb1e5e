-- A context of one argument dot on a plain way: what is plugged comes there, whatever is free in it.
use Rattle.std.proofs.Common.{◌≡◌, ℕ, suc, zero, List, [], ◌∷◌, ◌++◌, refl, sym, ap, subst, ◌∙◌, Some, false, Bool}
use Rattle.std.specs.Prelude.{IsTrue}
use Rattle.std.proofs.lemmas.Bool.{or_parts}
use Rattle.dlk_tree.specs.declared.op.Op.{Op}
use Rattle.dlk_tree.specs.declared.op.Op.TheVariants as Op'
use Rattle.dlk_tree.specs.declared.op.Var.{Var}
use Rattle.dlk_tree.specs.Trees.{Tree, node, Forest, no_kids, kid}
use Rattle.dlk_tree.specs.Occurs.{any_has, is_some_dot, has_dots}
use Rattle.dlk_tree.specs.Statics.{none, free}
use Rattle.dlk_calculus.specs.Captures.{AreApart}
use Rattle.dlk_calculus.specs.Notation.{leaf}
use Rattle.dlk_calculus.specs.Paths.{subtree, subtree_in, put_at, put_in}
use Rattle.dlk_calculus.specs.Plug.{Plug, PlugAll, PlugAt, IsClear}
use Rattle.dlk_calculus.proofs.PathLaws.{put_later, subtree_later, plug_itself}
use Rattle.dlk_derive.specs.Ways.{is_arithmetic_or_comparison, IsPlainWay}

abbrev dot : Tree
dot = leaf (Op'.Dot 0)

-- where nothing is captured, all is clear
pub nothing_free : (set : Var → Bool) → AreApart none set
nothing_free set h = absurd (cc h.2)

clear : (args : List Tree) (trees : Forest) → IsClear args none trees
clear args trees = record { clear = λ n a at has. nothing_free (free a) }

stays : (args : List Tree) (op : Op) (old new : Forest) → IsTrue (is_arithmetic_or_comparison op) → PlugAt args op old new (node op new)
stays args Op'.Neg old new h = (clear args old, refl)
stays args Op'.Add old new h = (clear args old, refl)
stays args Op'.Sub old new h = (clear args old, refl)
stays args Op'.Mul old new h = (clear args old, refl)
stays args Op'.Div old new h = (clear args old, refl)
stays args Op'.Pow old new h = (clear args old, refl)
stays args Op'.Eq old new h = (clear args old, refl)
stays args Op'.Ne old new h = (clear args old, refl)
stays args Op'.Ge old new h = (clear args old, refl)
stays args Op'.Gt old new h = (clear args old, refl)
stays args Op'.Le old new h = (clear args old, refl)
stays args Op'.Lt old new h = (clear args old, refl)
stays args _ old new h = absurd (cc h)

-- the same along a path into one of these
abbrev IsPlainIn : Forest → ℕ → List ℕ → Type 0
IsPlainIn kids m path =
    (front back : List ℕ) (n : ℕ) (t : Tree) → path ≡ front ++ n ∷ back → subtree_in kids m front ≡ Some t → IsTrue (is_arithmetic_or_comparison (root_of t))
  where
    root_of : Tree → Op
    root_of (node op kids) = op

module _ (a : Tree) where
  all_itself : (kids : Forest) → any_has is_some_dot kids ≡ false → PlugAll (a ∷ []) kids kids
  all_itself no_kids none = tt
  all_itself (kid t rest) none = let p = or_parts _ _ none in (plug_itself (a ∷ []) t p.0, all_itself rest p.1)

  mutual
    pub plugged : (e : Tree) (path : List ℕ) → has_dots e ≡ false → (s : Tree) → subtree e path ≡ Some s → IsPlainWay e path →
        Plug (a ∷ []) (put_at e path dot) (put_at e path a)
    plugged (node op kids) [] lacks s h plain = at_end a
      where
        at_end : (a : Tree) → Plug (a ∷ []) dot a
        at_end a = (no_kids, tt, refl)
    plugged (node op kids) (n ∷ path) lacks s h plain =
        let p = or_parts _ _ lacks in
        let here : IsTrue (is_arithmetic_or_comparison op) = plain [] path n (node op kids) refl refl in (
          put_in kids n path a,
          plugged_in kids n path p.1 s h (λ front back m t e found. plain (n ∷ front) back m t (ap (λ l. n ∷ l) e) found),
          stays (a ∷ []) op (put_in kids n path dot) (put_in kids n path a) here,
        )

    plugged_in : (kids : Forest) (n : ℕ) (path : List ℕ) → any_has is_some_dot kids ≡ false → (s : Tree) → subtree_in kids n path ≡ Some s →
        IsPlainIn kids n path → PlugAll (a ∷ []) (put_in kids n path dot) (put_in kids n path a)
    plugged_in no_kids n path lacks s h plain = tt
    plugged_in (kid t rest) zero path lacks s h plain = let p = or_parts _ _ lacks in (plugged t path p.0 s h plain, all_itself rest p.1)
    plugged_in (kid t rest) (suc n) path lacks s h plain =
        let p = or_parts _ _ lacks in
        let below = plugged_in rest n path p.1 s (sym (subtree_later t rest n path) ∙ h)
        (λ front back m u e found. plain front back m u e (subtree_later t rest n front ∙ found)) in
        subst (λ ks. PlugAll (a ∷ []) ks (put_in (kid t rest) (suc n) path a)) (sym (put_later t rest n path dot))
        (subst (λ ks. PlugAll (a ∷ []) (kid t (put_in rest n path dot)) ks) (sym (put_later t rest n path a)) (plug_itself (a ∷ []) t p.0, below))
