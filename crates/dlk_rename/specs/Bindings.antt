-- What a formula binds, by ids, and the same with another name.
use Rattle.std.specs.Prelude.{◌≡◌, ℕ, List, IsTrue}
use Rattle.dlk_tree.specs.declared.op.Sort.TheVariants.{Term, Formula}
use Rattle.dlk_tree.specs.Trees.{Tree, sort}
use Rattle.dlk_store.specs.declared.Id.{Id}
use Rattle.dlk_store.specs.Stores.{IsId, tree}
use Rattle.dlk_calculus.specs.Notation.{forall, exists, box, dia, assign}
use Rattle.dlk_calculus.specs.Rename.{may_rename, RenamesBound}
use Rattle.dlk_rename.specs.declared.binder.Assignment.{Assignment}
use Rattle.dlk_rename.specs.declared.binder.Binding.{Binding}
use Rattle.dlk_rename.specs.declared.binder.Form.{Form}
use Rattle.dlk_rename.specs.declared.binder.Form.TheVariants as form

-- the formula of this form that binds x over f
abbrev pub formed : List Tree → Form → List ℕ → Tree → Tree
formed trees form.Forall x f = forall x f
formed trees form.Exists x f = exists x f
formed trees (form.Box e) x f = box (assign x (tree trees e)) f
formed trees (form.Dia e) x f = dia (assign x (tree trees e)) f

-- the id stands for a term
pub record IsTerm (trees : List Tree) (e : Id) : Type 0 where
  pub known : IsId trees e
  pub term : sort (tree trees e) ≡ Term

-- what it assigns is a term
abbrev pub IsForm : List Tree → Form → Type 0
IsForm trees form.Forall = Unit {0}
IsForm trees form.Exists = Unit {0}
IsForm trees (form.Box e) = IsTerm trees e
IsForm trees (form.Dia e) = IsTerm trees e

-- the program assigns this term to the variable
pub record IsAssignment (trees : List Tree) (t : Tree) (a : Assignment) : Type 0 where
  pub is : t ≡ assign a.name (tree trees a.term)
  pub term : IsTerm trees a.term

pub record AssignsNone (t : Tree) : Type 0 where
  pub none : (x : List ℕ) (e : Tree) → ¬ (t ≡ assign x e)

-- the formula has this form and binds the variable over the body
pub record IsBinding (trees : List Tree) (t : Tree) (b : Binding) : Type 0 where
  pub is : t ≡ formed trees b.form b.name (tree trees b.body)
  pub form : IsForm trees b.form
  pub known : IsId trees b.body
  pub formula : sort (tree trees b.body) ≡ Formula

-- it binds no variable that can have another name
pub record BindsNone (t : Tree) : Type 0 where
  pub none : (x y : List ℕ) (f u : Tree) → ¬ RenamesBound x y f t u

-- the id stands for t with y, which is fresh, for the variable that t binds
pub record IsRenamed (y : List ℕ) (t : Tree) (trees : List Tree) (id : Id) : Type 0 where
  pub x : List ℕ
  pub f : Tree
  pub renames : RenamesBound x y f t (tree trees id)
  pub fresh : IsTrue (may_rename x y f)
  pub known : IsId trees id
