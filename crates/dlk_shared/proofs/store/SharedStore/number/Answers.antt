use Rattle.std.proofs.Common.{sym, subst, ap, ◌∙◌, arith}
use Rattle.std.proofs.lemmas.Option.{slice_get_within, get_or_from_slice_get}
use Rattle.dlk_tree.proofs.Same.{op_decides}
use Rattle.dlk_tree.specs.contracts.op.OpPartialEq.TheImpl as OpEq
use Rattle.dlk_tree.specs.declared.op.Op.TheVariants.{True}
use Rattle.dlk_shared.specs.Rows.{trees_of_rows}
use Rattle.dlk_shared.specs.Kept.{IsFactsOf}
use Rattle.dlk_shared.specs.Nodes.{op_at, EachIs}
use Rattle.dlk_shared.specs.Sound.{tried_keeps, rows_kept, nodes_kept}
use Rattle.dlk_shared.proofs.store.SharedStore.number.Goals as goal

pub invariant_of-self-clause-sound : goal.invariant_of-self-clause-sound
invariant_of-self-clause-sound c =
    let s = c.args.self.now in
    let tried = c.insert_full.ensures in
    nodes_kept (tried_keeps OpEq.ghosts.eq s.ops.keys c.args.op c.insert_full.result c.insert_full.new.self.keys tried.keys tried.err) s.nodes.entries s.sound

pub invariant_of-self-clause-facts : goal.invariant_of-self-clause-facts
invariant_of-self-clause-facts c =
    let s = c.args.self.now in
    let tried = c.insert_full.ensures in
    let keeps = tried_keeps OpEq.ghosts.eq s.ops.keys c.args.op c.insert_full.result c.insert_full.new.self.keys tried.keys tried.err in
    subst (λ rows. EachIs (IsFactsOf s.sets s.signs) (trees_of_rows rows) s.nodes.entries) (sym (rows_kept keeps s.nodes.entries s.sound.known)) s.facts

pub returns-in-Ok-clause-op : goal.returns-in-Ok-clause-op
returns-in-Ok-clause-op c =
    let stored = c.in_ok-n.ensures.stored in
    let ops = c.insert_full.new.self.keys in
    ap (op_at ops) c.in-Ok.ensures.same ∙ get_or_from_slice_get ops c.in_ok-n.n stored.0 True stored.1 ∙ sym ((op_decides c.args.op stored.0).0 stored.2)

pub returns-in-Ok-clause-known : goal.returns-in-Ok-clause-known
returns-in-Ok-clause-known c =
    let stored = c.in_ok-n.ensures.stored in
    omega (arith, c.in-Ok.ensures.same, slice_get_within c.insert_full.new.self.keys c.in_ok-n.n stored.0 stored.1)

pub returns-in-Ok-clause-trees : goal.returns-in-Ok-clause-trees
returns-in-Ok-clause-trees c =
    let s = c.args.self.now in
    let tried = c.insert_full.ensures in
    let keeps = tried_keeps OpEq.ghosts.eq s.ops.keys c.args.op c.insert_full.result c.insert_full.new.self.keys tried.keys tried.err in
    ap trees_of_rows (rows_kept keeps s.nodes.entries s.sound.known)

pub returns-in-Err-Memory-clause-trees : goal.returns-in-Err-Memory-clause-trees
returns-in-Err-Memory-clause-trees c =
    let s = c.args.self.now in
    let tried = c.insert_full.ensures in
    let keeps = tried_keeps OpEq.ghosts.eq s.ops.keys c.args.op c.insert_full.result c.insert_full.new.self.keys tried.keys tried.err in
    ap trees_of_rows (rows_kept keeps s.nodes.entries s.sound.known)
