use Rattle.std.proofs.Common.{List, ℕ, Bool, ap}
use Rattle.std.specs.Str.{bytes_eq}
use Rattle.dlk_tree.specs.Occurs.{any_has}
use Rattle.dlk_tree.specs.Named.{any_name, is_named}
use Rattle.dlk_store.specs.Stores.{tree, kid_trees}
use Rattle.dlk_store.proofs.Kids.{kid_smaller}
use Rattle.dlk_plain.specs.Plain.{trees_of}
use Rattle.dlk_plain.proofs.Owed.{Owes-rest}
use Rattle.dlk_plain.proofs.store.PlainStore.+names_at.Goals as goal

pub loop-k-init : goal.loop-k-init
loop-k-init t c =
    let trees = trees_of c.args.self.now.nodes.items in
    let op = c.node-node.result.op.now in
    let ks = c.node-node.result.kids.now in
    let e = c.node-node.ensures.node in
    let first : List ℕ → Bool = λ y. any_name (bytes_eq y) op in
    let rest : List ℕ → Bool = λ y. any_has (any_name (bytes_eq y)) (kid_trees trees ks) in
    let whole : List ℕ → Bool = λ y. is_named y (tree trees c.args.id) in
    record {
      rest = Owes-rest bytes_eq first rest whole (λ y. ap (is_named y) e) c.args.names.now.keys c.add_names.new.names.keys c.in_ok-add_names.ensures;
      known = c.node-node.ensures.known;
      smaller = λ i d h. kid_smaller trees (tree trees c.args.id) op ks i d e h;
    }
