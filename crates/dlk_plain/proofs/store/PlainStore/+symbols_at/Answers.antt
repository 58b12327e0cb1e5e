use Rattle.std.proofs.Common.{Bool, ap}
use Rattle.dlk_tree.specs.Tests.{sym_eq}
use Rattle.dlk_tree.specs.Occurs.{any_has, has_symbol, occurs}
use Rattle.dlk_tree.specs.declared.op.Sym.{Sym}
use Rattle.dlk_store.specs.Stores.{tree, kid_trees}
use Rattle.dlk_store.proofs.Kids.{kid_smaller}
use Rattle.dlk_plain.specs.Plain.{trees_of}
use Rattle.dlk_plain.proofs.Owed.{Owes-rest}
use Rattle.dlk_plain.proofs.store.PlainStore.+symbols_at.Goals as goal

pub loop-k-init : goal.loop-k-init
loop-k-init t c =
    let trees = trees_of c.args.self.now.nodes.items in
    let op = c.node-node.result.op.now in
    let ks = c.node-node.result.kids.now in
    let e = c.node-node.ensures.node in
    let first : Sym → Bool = λ s. has_symbol s op in
    let rest : Sym → Bool = λ s. any_has (has_symbol s) (kid_trees trees ks) in
    let whole : Sym → Bool = λ s. occurs s (tree trees c.args.id) in
    record {
      rest = Owes-rest sym_eq first rest whole (λ s. ap (occurs s) e) c.args.syms.now.keys c.add_symbols.new.syms.keys c.in_ok-add_symbols.ensures;
      known = c.node-node.ensures.known;
      smaller = λ i d h. kid_smaller trees (tree trees c.args.id) op ks i d e h;
    }
