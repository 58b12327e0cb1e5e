-- Ids that stand for the same trees, one by one.
use Rattle.std.proofs.Common.{◌≡◌, ℕ, ◌<◌, List, map, length, get_or, sym, ap, ◌∙◌}
use Rattle.std.proofs.lemmas.List.{get_or-map}
use Rattle.dlk_tree.specs.Trees.{Tree}
use Rattle.dlk_store.specs.declared.Id.{Id}
use Rattle.dlk_store.specs.Stores.{tree}

pub same_at : (trees : List Tree) (a b : List Id) (i : ℕ) (d : Id) → i < length a → i < length b → map (tree trees) a ≡ map (tree trees) b →
    tree trees (get_or a i d) ≡ tree trees (get_or b i d)
same_at trees a b i d lt le e =
    sym (get_or-map (tree trees) a i d (tree trees d) lt) ∙ ap (λ ts. get_or ts i (tree trees d)) e ∙ get_or-map (tree trees) b i d (tree trees d) le
