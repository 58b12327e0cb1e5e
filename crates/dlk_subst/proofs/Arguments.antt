-- Arguments by their ids, and when an operator is clear of them.
use Rattle.std.proofs.Common.{◌≡◌, refl, sym, ap, subst, ◌∙◌, ℕ, zero, suc, ◌<◌, ◌≤◌, List, [], ◌∷◌, length, get_or, Bool, Some, slice_get, arith}
use Rattle.std.specs.Prelude.{All, IsTrue}
use Rattle.std.proofs.lemmas.Option.{same_Some, slice_get_within}
use Rattle.dlk_tree.specs.declared.op.Var.{Var}
use Rattle.dlk_tree.specs.Trees.{Tree, Forest}
use Rattle.dlk_tree.specs.Statics.{free}
use Rattle.dlk_tree.specs.Occurs.{any_has, is_dot}
use Rattle.dlk_store.specs.declared.Id.{Id}
use Rattle.dlk_store.specs.Stores.{IsId, tree, StandsFor}
use Rattle.dlk_calculus.specs.Captures.{AreApart}
use Rattle.dlk_calculus.specs.Plug.{IsClear}
use Rattle.dlk_subst.specs.Results.{IsResult, HasNone, args_at}

pub args_length : (trees : List Tree) (ids : List Id) → length (args_at trees ids) ≡ length ids
args_length trees [] = refl
args_length trees (id ∷ ids) = ap suc (args_length trees ids)

-- the argument of a number
pub arg_at : (trees : List Tree) (ids : List Id) (n : ℕ) (d : Id) → n < length ids → slice_get (args_at trees ids) n ≡ Some (tree trees (get_or ids n d))
arg_at trees [] n d h = absurd (omega arith)
arg_at trees (id ∷ ids) zero d h = refl
arg_at trees (id ∷ ids) (suc n) d h = arg_at trees ids n d (omega arith)

-- an argument is the tree of its id
arg_is : (trees : List Tree) (ids : List Id) (n : ℕ) (d : Id) (a : Tree) → slice_get (args_at trees ids) n ≡ Some a → (n < length ids)
    × (tree trees (get_or ids n d) ≡ a)
arg_is trees ids n d a e =
    let within : n < length ids = omega (arith, slice_get_within (args_at trees ids) n a e, args_length trees ids) in
    (within, same_Some (tree trees (get_or ids n d)) a (sym (arg_at trees ids n d within) ∙ e))

module _ (trees : List Tree) (set : Var → Bool) (kids : Forest) where
  -- no variable of the set is free in the argument, if its dot stands in the kids
  abbrev pub IsSafe : ℕ → Id → Type 0
  IsSafe n id = IsTrue (any_has (is_dot n) kids) → AreApart set (free (tree trees id))

  pub clear_of : (ids : List Id) (d : Id) → ((n : ℕ) → n < length ids → IsSafe n (get_or ids n d)) → IsClear (args_at trees ids) set kids
  clear_of ids d safe = record {
    clear = λ n a e stands. let is = arg_is trees ids n d a e in subst (λ t. AreApart set (free t)) is.1 (safe n is.0 stands);
  }

  pub safe_of : (ids : List Id) (n : ℕ) (d : Id) → n < length ids → IsClear (args_at trees ids) set kids → IsSafe n (get_or ids n d)
  safe_of ids n d h clear = λ stands. clear.clear n (tree trees (get_or ids n d)) (arg_at trees ids n d h) stands

-- the argument of a dot
pub arg_holds : (trees : List Tree) (ids : List Id) (n i : ℕ) (id d : Id) → i ≡ n → i < length ids → id ≡ get_or ids i d → All (IsId trees) ids →
    IsResult (λ t. slice_get (args_at trees ids) n ≡ Some t) trees id
arg_holds trees ids n i id d e h is all = record {
  result = tree trees (get_or ids n d);
  is_related = arg_at trees ids n d (omega (arith, e));
  stands =
      subst (λ k. StandsFor trees k (tree trees (get_or ids n d))) (sym is)
      (subst (λ m. StandsFor trees (get_or ids i d) (tree trees (get_or ids m d))) e (record { known = all i d h; tree_is = refl }));
}

pub arg_none : (trees : List Tree) (ids : List Id) (n : ℕ) → length ids ≤ n → HasNone (λ t. slice_get (args_at trees ids) n ≡ Some t)
arg_none trees ids n h = λ t e. let within = slice_get_within (args_at trees ids) n t e in omega (arith, args_length trees ids)
