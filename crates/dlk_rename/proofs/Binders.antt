-- Formulas that bind a name, by ids.
use Rattle.std.proofs.Common.{◌≡◌, refl, sym, ap, subst, ◌∙◌, ℕ, List, [], ◌∷◌, get_or, Option, None, Some, false, arith, inl, inr}
use Rattle.std.specs.Prelude.{All, MatchOption}
use Rattle.std.proofs.lemmas.List.Elements.{All-head, All-tail}
use Rattle.dlk_tree.specs.declared.op.Op.{Op}
use Rattle.dlk_tree.specs.declared.op.Op.TheVariants as Op'
use Rattle.dlk_tree.specs.declared.op.Sort.{Sort}
use Rattle.dlk_tree.specs.declared.op.Sort.TheVariants.{Term, Formula, Program}
use Rattle.dlk_tree.specs.declared.op.Var.{Var}
use Rattle.dlk_tree.specs.Table.{kid_sorts}
use Rattle.dlk_tree.specs.Trees.{Tree, node, sort, WellMade}
use Rattle.dlk_store.specs.declared.Id.{Id}
use Rattle.dlk_store.specs.Stores.{IsId, tree, kid_trees, sorts_at, Keeps}
use Rattle.dlk_store.proofs.Kids.{node_fits}
use Rattle.dlk_calculus.specs.Notation.{one, two, box, dia, assign}
use Rattle.dlk_calculus.specs.Rename.{swap, RenamesBound, in_forall, in_exists, in_box, in_dia}
use Rattle.dlk_calculus.proofs.Binders.{Binds, binds}
use Rattle.dlk_rename.specs.declared.binder.Assignment.{Assignment}
use Rattle.dlk_rename.specs.declared.binder.Binding.{Binding}
use Rattle.dlk_rename.specs.declared.binder.Form.{Form}
use Rattle.dlk_rename.specs.declared.binder.Form.TheVariants as form
use Rattle.dlk_rename.specs.Bindings.{formed, IsForm, IsAssignment, AssignsNone, IsTerm, IsBinding, BindsNone}

-- an option that isn't `Some`
pub not_some : {A N : Type 0} (S : A → Type 0) (o : Option A) → MatchOption o N S → ((x : A) → o ≡ Some x → ⊥) → N
not_some S None h n = h
not_some S (Some x) h n = absurd (n x refl)

-- ---- kids of a node by their ids

abbrev id_at : List Id → ℕ → Id
id_at ids n = get_or ids n (record { 0 = 0 })

-- a node of a store
pub record IsNode (trees : List Tree) (id : Id) (op : Op) (ids : List Id) : Type 0 where
  pub made : All WellMade trees
  pub known : IsId trees id
  pub node_is : tree trees id ≡ node op (kid_trees trees ids)
  pub kids : All (IsId trees) ids

record HasOne (trees : List Tree) (t : Tree) (op : Op) (s : Sort) (a : Id) : Type 0 where
  is : t ≡ one op (tree trees a)
  known : IsId trees a
  sort_is : sort (tree trees a) ≡ s

record HasTwo (trees : List Tree) (t : Tree) (op : Op) (s r : Sort) (a b : Id) : Type 0 where
  is : t ≡ two op (tree trees a) (tree trees b)
  first : IsId trees a
  second : IsId trees b
  sort_is : sort (tree trees b) ≡ r

abbrev sort_in : ℕ → List Sort → Sort
sort_in n ss = get_or ss n Program

has_one : {trees : List Tree} {id : Id} {op : Op} (ids : List Id) (s : Sort) → IsNode trees id op ids → kid_sorts op ≡ s ∷ [] →
    HasOne trees (tree trees id) op s (id_at ids 0)
has_one {trees} {id} {op} ids s n sorts = go ids (node_fits trees id op ids n.made n.known n.node_is).kids_fit n.node_is n.kids
  where
    go : (ks : List Id) → sorts_at trees ks ≡ kid_sorts op → tree trees id ≡ node op (kid_trees trees ks) → All (IsId trees) ks →
        HasOne trees (tree trees id) op s (id_at ks 0)
    go [] e is known = let k = e ∙ sorts in cc
    go (a ∷ []) e is known = record { is = is; known = All-head (IsId trees) a [] known; sort_is = ap (sort_in 0) (e ∙ sorts) }
    go (a ∷ b ∷ ks) e is known = let k = e ∙ sorts in cc

has_two : {trees : List Tree} {id : Id} {op : Op} (ids : List Id) (s r : Sort) → IsNode trees id op ids → kid_sorts op ≡ s ∷ r ∷ [] →
    HasTwo trees (tree trees id) op s r (id_at ids 0) (id_at ids 1)
has_two {trees} {id} {op} ids s r n sorts = go ids (node_fits trees id op ids n.made n.known n.node_is).kids_fit n.node_is n.kids
  where
    go : (ks : List Id) → sorts_at trees ks ≡ kid_sorts op → tree trees id ≡ node op (kid_trees trees ks) → All (IsId trees) ks →
        HasTwo trees (tree trees id) op s r (id_at ks 0) (id_at ks 1)
    go [] e is known = let k = e ∙ sorts in cc
    go (a ∷ []) e is known = let k = e ∙ sorts in cc
    go (a ∷ b ∷ []) e is known = record {
      is = is;
      first = All-head (IsId trees) a (b ∷ []) known;
      second = All-head (IsId trees) b [] (All-tail (IsId trees) a (b ∷ []) known);
      sort_is = ap (sort_in 1) (e ∙ sorts);
    }
    go (a ∷ b ∷ c ∷ ks) e is known = let k = e ∙ sorts in cc

-- ---- what is read

module _ {trees : List Tree} {id : Id} {op : Op} (ids : List Id) (n : IsNode trees id op ids) (name : List ℕ) where
  pub assignment_read : (v : Var) → op ≡ Op'.Assign v → v.primed ≡ false → v.name ≡ name →
      IsAssignment trees (tree trees id) (record { name = name; term = id_at ids 0 })
  assignment_read v is unprimed same =
      let k = has_one ids Term n (ap kid_sorts is) in
      record {
        is = k.is ∙ ap (λ o. one o (tree trees (id_at ids 0))) (is ∙ (λ i. Op'.Assign (record { name = same i; primed = unprimed i })));
        term = record { known = k.known; term = k.sort_is };
      }

  pub forall_read : (x : List ℕ) → op ≡ Op'.Forall x → x ≡ name →
      IsBinding trees (tree trees id) (record { form = form.Forall; name = name; body = id_at ids 0 })
  forall_read x is same =
      let k = has_one ids Formula n (ap kid_sorts is) in
      record { is = k.is ∙ ap (λ o. one o (tree trees (id_at ids 0))) (is ∙ ap Op'.Forall same); form = tt; known = k.known; formula = k.sort_is }

  pub exists_read : (x : List ℕ) → op ≡ Op'.Exists x → x ≡ name →
      IsBinding trees (tree trees id) (record { form = form.Exists; name = name; body = id_at ids 0 })
  exists_read x is same =
      let k = has_one ids Formula n (ap kid_sorts is) in
      record { is = k.is ∙ ap (λ o. one o (tree trees (id_at ids 0))) (is ∙ ap Op'.Exists same); form = tt; known = k.known; formula = k.sort_is }

module _ {trees : List Tree} {id : Id} {op : Op} (ids : List Id) (n : IsNode trees id op ids) where
  module _ (a : Assignment) (assigns : IsAssignment trees (tree trees (id_at ids 0)) a) where
    pub box_read : op ≡ Op'.Box → IsBinding trees (tree trees id) (record { form = form.Box a.term; name = a.name; body = id_at ids 1 })
    box_read is =
        let k = has_two ids Program Formula n (ap kid_sorts is) in
        record { is = k.is ∙ (λ i. two (is i) (assigns.is i) (tree trees (id_at ids 1))); form = assigns.term; known = k.second; formula = k.sort_is }

    pub dia_read : op ≡ Op'.Dia → IsBinding trees (tree trees id) (record { form = form.Dia a.term; name = a.name; body = id_at ids 1 })
    dia_read is =
        let k = has_two ids Program Formula n (ap kid_sorts is) in
        record { is = k.is ∙ (λ i. two (is i) (assigns.is i) (tree trees (id_at ids 1))); form = assigns.term; known = k.second; formula = k.sort_is }

-- a formula over another program and a body binds no name that can be another
first_of : (o p : Op) (a b c d : Tree) → two o a b ≡ two p c d → a ≡ c
first_of o p a b c d e = cc

no_binding : (t : Tree) (op : Op) (a b : Tree) → t ≡ two op a b → AssignsNone a → BindsNone t
no_binding t op a b is n = record { none = λ x y f u r. go x f (binds r) }
  where
    one_or_two : (x : List ℕ) (f : Tree) (o : Op) → two op a b ≡ one o f → ⊥
    one_or_two x f o e = cc

    go : (x : List ℕ) (f : Tree) → Binds x f t → ⊥
    go x f (inl e) = one_or_two x f (Op'.Forall x) (sym is ∙ e)
    go x f (inr (inl e)) = one_or_two x f (Op'.Exists x) (sym is ∙ e)
    go x f (inr (inr (inl h))) = n.none x h.0 (first_of op Op'.Box a b (assign x h.0) f (sym is ∙ h.1))
    go x f (inr (inr (inr h))) = n.none x h.0 (first_of op Op'.Dia a b (assign x h.0) f (sym is ∙ h.1))

pub no_modal : {trees : List Tree} {id : Id} {op : Op} (ids : List Id) → IsNode trees id op ids → kid_sorts op ≡ Program ∷ Formula ∷ [] →
    AssignsNone (tree trees (id_at ids 0)) → BindsNone (tree trees id)
no_modal {trees} {id} {op} ids n sorts none =
    no_binding (tree trees id) op (tree trees (id_at ids 0)) (tree trees (id_at ids 1)) (has_two ids Program Formula n sorts).is none

-- ---- the same with another name

-- a formula of each form, and the same with y for the variable that it binds
renames : (trees : List Tree) (form : Form) (x y : List ℕ) (f : Tree) → RenamesBound x y f (formed trees form x f) (formed trees form y (swap x y f))
renames trees form.Forall x y f = in_forall
renames trees form.Exists x y f = in_exists
renames trees (form.Box e) x y f = in_box (tree trees e)
renames trees (form.Dia e) x y f = in_dia (tree trees e)

pub binding_renames : {trees : List Tree} {t : Tree} {b : Binding} (y : List ℕ) → IsBinding trees t b →
    RenamesBound b.name y (tree trees b.body) t (formed trees b.form y (swap b.name y (tree trees b.body)))
binding_renames {trees} {t} {b} y h =
    let f = tree trees b.body in
    subst (λ t. RenamesBound b.name y f t (formed trees b.form y (swap b.name y f))) (sym h.is) (renames trees b.form b.name y f)

-- a form is the same over a store that has grown
pub formed_kept : {old new : List Tree} → Keeps old new → (form : Form) (x : List ℕ) (f : Tree) → IsForm old form → formed new form x f ≡ formed old form x f
formed_kept keeps form.Forall x f h = refl
formed_kept keeps form.Exists x f h = refl
formed_kept keeps (form.Box e) x f h = ap (λ t. box (assign x t) f) (keeps.same e h.known)
formed_kept keeps (form.Dia e) x f h = ap (λ t. dia (assign x t) f) (keeps.same e h.known)

term_kept : {old new : List Tree} → Keeps old new → (e : Id) → IsTerm old e → IsTerm new e
term_kept keeps e h = record { known = omega (arith, keeps.known, h.known); term = ap sort (keeps.same e h.known) ∙ h.term }

pub form_kept : {old new : List Tree} → Keeps old new → (form : Form) → IsForm old form → IsForm new form
form_kept keeps form.Forall h = tt
form_kept keeps form.Exists h = tt
form_kept keeps (form.Box e) h = term_kept keeps e h
form_kept keeps (form.Dia e) h = term_kept keeps e h
