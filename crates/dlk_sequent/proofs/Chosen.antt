-- The first reason against a pair, by the tests for each.
use Rattle.std.proofs.Common.{◌≡◌, List, Bool, cond, ◌&&◌, not, Option, Some, None}
use Rattle.std.specs.List.{list_any}
use Rattle.dlk_tree.specs.Tests.{sym_eq}
use Rattle.dlk_tree.specs.Table.{kind_row}
use Rattle.dlk_tree.specs.Trees.{Tree}
use Rattle.dlk_tree.specs.Occurs.{has, has_hole}
use Rattle.dlk_store.specs.Stores.{tree}
use Rattle.dlk_calculus.specs.declared.why.Why.{Why}
use Rattle.dlk_calculus.specs.declared.why.Why.TheVariants as Why'
use Rattle.dlk_calculus.specs.Pairs.{Pair as TreePair, is_of_kind, is_dot_from, touched, has_taboo, why}
use Rattle.dlk_sequent.specs.declared.subst.Pair.{Pair}
use Rattle.dlk_sequent.specs.Substitutions.{pair_at}

abbrev pub chosen : (is_sorted is_twice has_dots is_stray is_taboo : Bool) → Option Why
chosen is_sorted is_twice has_dots is_stray is_taboo =
    cond (not is_sorted) (Some Why'.Sort) (cond is_twice (Some Why'.Twice)
    (cond has_dots (Some Why'.Dot) (cond is_stray (Some Why'.Hole) (cond is_taboo (Some Why'.Taboo) None))))

pub chosen_is : (trees : List Tree) (p : Pair) {is_sorted is_twice has_dots is_stray is_taboo : Bool} →
    is_sorted ≡ is_of_kind p.sym.kind (tree trees p.by) →
    has_dots ≡ has (is_dot_from p.sym.arity) (tree trees p.by) →
    is_stray ≡ (has_hole (tree trees p.by) && not (kind_row p.sym.kind).hole) →
    is_taboo ≡ has_taboo p.sym.taboo (touched p.sym.kind (tree trees p.by)) →
    (earlier : List TreePair) → is_twice ≡ list_any (λ (q : TreePair). sym_eq p.sym q.sym) earlier →
    chosen is_sorted is_twice has_dots is_stray is_taboo ≡ why earlier (pair_at trees p)
chosen_is trees p sorted dots stray taboo earlier twice = λ i. chosen (sorted i) (twice i) (dots i) (stray i) (taboo i)
