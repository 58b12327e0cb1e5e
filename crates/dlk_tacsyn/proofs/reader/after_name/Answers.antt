use Rattle.std.proofs.Common.{◌≡◌, List, refl, sym, ap, ◌∙◌}
use Rattle.dlk_tree.specs.Trees.{Tree}
use Rattle.dlk_tacsyn.specs.Faults.{IsTacSyntaxOf}
use Rattle.dlk_tacsyn.specs.Strategies.{Says, Fails, atom_of}
use Rattle.dlk_tacsyn.specs.Steps.{after_name, after_whole}
use Rattle.dlk_tacsyn.specs.Ties.{tactic_at, TacticIsKnown}
use Rattle.dlk_tacsyn.specs.States.{ByReading, frame_at, stack_at, state_at, BracketsAreKnown, ReaderIsKnown}
use Rattle.dlk_tacsyn.proofs.Kept.{ok_map, err_map, stack_kept, frame_kept, brackets_known}
use Rattle.dlk_tacsyn.proofs.Quoted.{weaken}
use Rattle.dlk_tacsyn.proofs.Behind.{name_ended}
use Rattle.dlk_tacsyn.proofs.reader.after_name.Goals as goal

pub returns-in_ok-t-in_default : goal.returns-in_ok-t-in_default
returns-in_ok-t-in_default g c =
    let old = g.S.Store.trees c.args.store.now in
    let new = g.S.Store.trees c.atom.new.store in
    let t = c.in_ok-t-in_default.t in
    let keeps = g.met.S.Store.grows_keeps c.args.store.now c.atom.new.store c.in_ok-t-in_default.ensures.grows in
    let stacks = stack_kept old new keeps c.args.brackets.outer.items c.requires.outer in
    let frames = frame_kept old new keeps c.args.brackets.inner c.requires.inner in
    let kind = c.args.part.kind in
    record {
      found = ok_map
          (λ r. (trees : List Tree) → after_whole c.args.part.at kind (stack_at trees c.args.brackets.outer.items) (frame_at trees c.args.brackets.inner)
          (tactic_at trees t) ≡ Says (state_at trees r))
          (λ r. ByReading (λ read. after_name read c.args.part.at c.args.part.kind (stack_at old c.args.brackets.outer.items)
          (frame_at old c.args.brackets.inner) c.args.at c.args.name ≡ Says (state_at new r)))
          (λ r p read reading.
          (λ i. after_name read c.args.part.at c.args.part.kind (sym stacks i) (sym frames i) c.args.at c.args.name)
          ∙ name_ended read c.args.part.at c.args.part.kind kind (stack_at new c.args.brackets.outer.items) (frame_at new c.args.brackets.inner) c.args.at
          c.args.name (tactic_at new t) (Says (state_at new r))
          refl c.in_default.not-Open (ap (atom_of read c.args.at c.args.name) (sym c.new-in_default.ensures) ∙ c.in_ok-t-in_default.ensures.found read reading)
          (p new))
          c.after_whole.result c.after_whole.ensures.found;
      known = ok_map
          (λ r. (trees : List Tree) → BracketsAreKnown trees c.args.brackets → TacticIsKnown trees t → ReaderIsKnown trees r) (ReaderIsKnown new)
          (λ r p. p new (brackets_known old new keeps c.args.brackets c.requires) c.in_ok-t-in_default.ensures.known)
          c.after_whole.result c.after_whole.ensures.known;
      fault = err_map
          (IsTacSyntaxOf (λ f. (trees : List Tree) →
          after_whole c.args.part.at kind (stack_at trees c.args.brackets.outer.items) (frame_at trees c.args.brackets.inner)
          (tactic_at trees t) ≡ Fails f))
          (IsTacSyntaxOf (λ f. ByReading (λ read. after_name read c.args.part.at c.args.part.kind (stack_at old c.args.brackets.outer.items)
          (frame_at old c.args.brackets.inner) c.args.at c.args.name ≡ Fails f)))
          (λ e p. weaken
          (λ f. (trees : List Tree) → after_whole c.args.part.at kind (stack_at trees c.args.brackets.outer.items) (frame_at trees c.args.brackets.inner)
          (tactic_at trees t) ≡ Fails f)
          (λ f. ByReading (λ read. after_name read c.args.part.at c.args.part.kind (stack_at old c.args.brackets.outer.items)
          (frame_at old c.args.brackets.inner) c.args.at c.args.name ≡ Fails f))
          (λ f w read reading.
          (λ i. after_name read c.args.part.at c.args.part.kind (sym stacks i) (sym frames i) c.args.at c.args.name)
          ∙ name_ended read c.args.part.at c.args.part.kind kind (stack_at new c.args.brackets.outer.items) (frame_at new c.args.brackets.inner) c.args.at
          c.args.name (tactic_at new t) (Fails f)
          refl c.in_default.not-Open (ap (atom_of read c.args.at c.args.name) (sym c.new-in_default.ensures) ∙ c.in_ok-t-in_default.ensures.found read reading)
          (w new))
          e p)
          c.after_whole.result c.after_whole.ensures.fault;
      grows = c.in_ok-t-in_default.ensures.grows;
    }
