-- A filled node.
use Rattle.std.proofs.Common.{◌≡◌, false, refl, ap, cond, sym, ◌∙◌, ℕ, List, length}
use Rattle.dlk_tree.specs.declared.op.Op.{Op}
use Rattle.dlk_tree.specs.Trees.{Tree, node, kid}
use Rattle.dlk_tree.specs.Occurs.{is_hole}
use Rattle.dlk_store.specs.declared.Id.{Id}
use Rattle.dlk_store.specs.Stores.{tree, kid_trees}
use Rattle.dlk_store.proofs.Made.{Made, Gives, all_made}
use Rattle.dlk_calculus.specs.Plug.{filled, filled_all}

-- a node that isn't `_`, of its kids filled
pub filled_node : (f : Tree) {before now : List Tree} {id : Id} {op : Op} {ks js : List Id} {n : ℕ}
    → Made (Gives (filled f)) before now id op ks js n → n ≡ length ks → is_hole op ≡ false → filled f (tree before id) ≡ node op (kid_trees now js)
filled_node f {before} {now} {id} {op} {ks} m whole no_hole =
    let kids = all_made m whole (λ ts us. us ≡ filled_all f ts) refl (λ t u ts us a b. λ i. kid (a i) (b i)) in
    ap (filled f) m.node_is ∙ ap (λ b. cond b f (node op (filled_all f (kid_trees before ks)))) no_hole ∙ ap (node op) (sym kids)
