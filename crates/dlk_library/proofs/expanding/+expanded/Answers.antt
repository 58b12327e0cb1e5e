use Rattle.std.proofs.Common.{rules, ◌≡◌, ◌+◌, List, [], ◌∷◌, ◌++◌, take, sym, ap, subst, ◌∙◌, arith}
use Rattle.std.specs.List.{All}
use Rattle.std.proofs.lemmas.List.Elements.{All-push}
use denote.Param.Weighed.{most}
use Rattle.dlk_tacsyn.proofs.tactic.Tactic.TheLaws.{the_size}
use Rattle.dlk_tacsyn.specs.declared.tactic.Tactic.{Tactic}
use Rattle.dlk_tacsyn.specs.Tactics as the
use Rattle.dlk_tacsyn.specs.Ties.{tactic_at, TacticIsKnown}
use Rattle.dlk_library.specs.Expanded.{Expanded, AllExpanded}
use Rattle.dlk_library.proofs.Depths.{size_choice, size_sequence, size_branch}
use Rattle.dlk_library.proofs.Walking.{parts_at, IsText, choice_at, sequence_at, branch_at}
use Rattle.dlk_library.proofs.Walking.{choice_known, sequence_known, branch_known, choice_of_text, sequence_of_text, branch_of_text}
use Rattle.dlk_library.proofs.Turns.{more_found}
use Rattle.dlk_library.proofs.expanding.+expanded.Goals as goal

pub all_expanded-loop-t-preserved : goal.all_expanded-loop-t-preserved
all_expanded-loop-t-preserved g t c =
    let trees = g.S.Store.trees c.args.store.now in
    let pushed : c.push.new.self.items ≡ c.loop-t.new.items ++ c.in_ok-t.t ∷ [] = c.in_ok-push.ensures.items in
    let found = more_found trees c.args.parts.now c.loop-t.new.items c.loop-t.t-index c.t-item.result c.in_ok-t.t c.loop-t-test.true c.t-item.is
    c.loop-t.invariant.found c.in_ok-t.ensures.found in
    let known : All (TacticIsKnown trees) (c.loop-t.new.items ++ c.in_ok-t.t ∷ []) =
    All-push (TacticIsKnown trees) c.loop-t.new.items c.in_ok-t.t c.loop-t.invariant.known c.in_ok-t.ensures.known in
    record {
      found = subst (λ (xs : List Tactic). AllExpanded (parts_at trees (take (c.loop-t.t-index + 1) c.args.parts.now)) (parts_at trees xs)) (sym pushed) found;
      known = subst (All (TacticIsKnown trees)) (sym pushed) known;
    }

pub expanded-all_expanded-requires : goal.expanded-all_expanded-requires
expanded-all_expanded-requires g t c κs within =
    let trees = g.S.Store.trees c.args.store.now in
    let known = subst (All (TacticIsKnown trees)) (sym c.as_slice.ensures.value)
    (choice_known trees c.in-Choice.parts (subst (TacticIsKnown trees) c.in-Choice.is c.requires.known)) in
    let text = subst (All (IsText trees)) (sym c.as_slice.ensures.value)
    (choice_of_text trees c.in-Choice.parts (subst (IsText trees) c.in-Choice.is c.requires.of_text)) in (
      omega (arith, size_choice c.in-Choice.parts, ap the_size c.in-Choice.is, ap (most the_size) c.as_slice.ensures.value, c.decreases),
      (search rules, (known, text)),
    )

pub expanded-all_expanded-requires-in-Seq : goal.expanded-all_expanded-requires-in-Seq
expanded-all_expanded-requires-in-Seq g t c κs within =
    let trees = g.S.Store.trees c.args.store.now in
    let known = subst (All (TacticIsKnown trees)) (sym c.as_slice-in-Seq.ensures.value)
    (sequence_known trees c.in-Seq.parts (subst (TacticIsKnown trees) c.in-Seq.is c.requires.known)) in
    let text = subst (All (IsText trees)) (sym c.as_slice-in-Seq.ensures.value)
    (sequence_of_text trees c.in-Seq.parts (subst (IsText trees) c.in-Seq.is c.requires.of_text)) in (
      omega (arith, size_sequence c.in-Seq.parts, ap the_size c.in-Seq.is, ap (most the_size) c.as_slice-in-Seq.ensures.value, c.decreases),
      (search rules, (known, text)),
    )

pub expanded-all_expanded-requires-in-Branch : goal.expanded-all_expanded-requires-in-Branch
expanded-all_expanded-requires-in-Branch g t c κs within =
    let trees = g.S.Store.trees c.args.store.now in
    let at = c.in-Branch.at in
    let known = subst (All (TacticIsKnown trees)) (sym c.as_slice-in-Branch.ensures.value)
    (branch_known trees at c.in-Branch.parts (subst (TacticIsKnown trees) c.in-Branch.is c.requires.known)) in
    let text = subst (All (IsText trees)) (sym c.as_slice-in-Branch.ensures.value)
    (branch_of_text trees at c.in-Branch.parts (subst (IsText trees) c.in-Branch.is c.requires.of_text)) in (
      omega (arith, size_branch at c.in-Branch.parts, ap the_size c.in-Branch.is, ap (most the_size) c.as_slice-in-Branch.ensures.value, c.decreases),
      (search rules, (known, text)),
    )

pub expanded-returns-in_ok-all_expanded-in-Choice-clause-found : goal.expanded-returns-in_ok-all_expanded-in-Choice-clause-found
expanded-returns-in_ok-all_expanded-in-Choice-clause-found g t c =
    let trees = g.S.Store.trees c.args.store.now in
    let old = ap (tactic_at trees) c.in-Choice.is ∙ choice_at trees c.in-Choice.parts
    ∙ ap (λ xs. the.Choice (parts_at trees xs)) (sym c.as_slice.ensures.value) in
    subst (λ (a : the.Tactic). Expanded a (tactic_at trees c.choice.result)) (sym old)
    (parts_at trees c.in_ok-all_expanded-in-Choice.field-0.items, c.in_ok-all_expanded-in-Choice.ensures.found, c.choice.ensures.made trees)

pub expanded-returns-in_ok-all_expanded-in-Seq-clause-found : goal.expanded-returns-in_ok-all_expanded-in-Seq-clause-found
expanded-returns-in_ok-all_expanded-in-Seq-clause-found g t c =
    let trees = g.S.Store.trees c.args.store.now in
    let old = ap (tactic_at trees) c.in-Seq.is ∙ sequence_at trees c.in-Seq.parts
    ∙ ap (λ xs. the.Sequence (parts_at trees xs)) (sym c.as_slice-in-Seq.ensures.value) in
    subst (λ (a : the.Tactic). Expanded a (tactic_at trees c.sequence.result)) (sym old)
    (parts_at trees c.in_ok-all_expanded-in-Seq.field-0.items, c.in_ok-all_expanded-in-Seq.ensures.found, c.sequence.ensures.made trees)

pub expanded-returns-in_ok-all_expanded-in-Branch-clause-found : goal.expanded-returns-in_ok-all_expanded-in-Branch-clause-found
expanded-returns-in_ok-all_expanded-in-Branch-clause-found g t c =
    let trees = g.S.Store.trees c.args.store.now in
    let at = c.in-Branch.at in
    let old = ap (tactic_at trees) c.in-Branch.is ∙ branch_at trees at c.in-Branch.parts
    ∙ ap (λ xs. the.Branch at (parts_at trees xs)) (sym c.as_slice-in-Branch.ensures.value) in
    subst (λ (a : the.Tactic). Expanded a (tactic_at trees c.branch-branch.result)) (sym old)
    (parts_at trees c.in_ok-all_expanded-in-Branch.field-0.items, c.in_ok-all_expanded-in-Branch.ensures.found, c.branch-branch.ensures.made trees)
