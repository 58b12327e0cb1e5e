-- The steps of exchanging names.
use Rattle.std.proofs.Common.{◌≡◌, refl, ap, sym, subst, ◌∙◌, ℕ, List, length}
use Rattle.std.specs.Prelude.{IsTrue}
use Rattle.dlk_tree.specs.declared.op.Op.{Op}
use Rattle.dlk_tree.specs.declared.op.Sort.{Sort}
use Rattle.dlk_tree.specs.declared.op.Sort.TheVariants.{Formula}
use Rattle.dlk_tree.specs.Names.{is_name}
use Rattle.dlk_tree.specs.Table.{Fits}
use Rattle.dlk_tree.specs.Trees.{Tree, node, kid, sort}
use Rattle.dlk_store.specs.declared.Id.{Id}
use Rattle.dlk_store.specs.Stores.{tree, kid_trees}
use Rattle.dlk_store.proofs.Made.{Made, Gives, all_made}
use Rattle.dlk_calculus.specs.Rename.{swap_op, swap, swap_all}
use Rattle.dlk_calculus.proofs.Swapped.{swap_fits, swap_sort}

module _ (x y : List ℕ) where
  -- a node, of its operator and its kids with the names exchanged
  pub swapped_node : {before now : List Tree} {id : Id} {op : Op} {ks js : List Id} {n : ℕ}
      → Made (Gives (swap x y)) before now id op ks js n → n ≡ length ks → (made : Op) → made ≡ swap_op x y op →
      swap x y (tree before id) ≡ node made (kid_trees now js)
  swapped_node m whole made is =
      let kids = all_made m whole (λ ts us. us ≡ swap_all x y ts) refl (λ t u ts us a b. λ i. kid (a i) (b i)) in
      ap (swap x y) m.node_is ∙ (λ i. node (sym is i) (sym kids i))

  -- the operator fits kids of the same sorts
  pub swapped_fits : IsTrue (is_name x) → IsTrue (is_name y) → (op made : Op) (kids : List Sort) → made ≡ swap_op x y op → Fits op kids → Fits made kids
  swapped_fits real_x real_y op made kids n fits = subst (λ (o : Op). Fits o kids) (sym n) (swap_fits x y real_x real_y op kids fits)

  -- and a formula stays one
  pub swapped_formula : (t made : Tree) → made ≡ swap x y t → sort t ≡ Formula → sort made ≡ Formula
  swapped_formula t made e formula = ap sort e ∙ swap_sort x y t ∙ formula
