use Rattle.std.proofs.Common.{subst}
use Rattle.dlk_tacsyn.specs.Ties.{atom_at}
use Rattle.dlk_elab.specs.Calls.{IsCall, CallIsKnown}
use Rattle.dlk_elab.proofs.CallsFit.{cut_formula}
use Rattle.dlk_elab.proofs.elaborating.planned.Goals as goal

pub plain-requires-clause-plain : goal.plain-requires-clause-plain
plain-requires-clause-plain g c =
    let trees = g.S.Store.trees c.args.kernel.now.store in subst (IsCall trees (atom_at trees c.args.atom.now)) c.in-Plain.is c.requires.call

pub generalize-requires-clause-call : goal.generalize-requires-clause-call
generalize-requires-clause-call g c =
    let trees = g.S.Store.trees c.args.kernel.now.store in subst (IsCall trees (atom_at trees c.args.atom.now)) c.in-Generalize.is c.requires.call

pub cut_box-requires-clause-known : goal.cut_box-requires-clause-known
cut_box-requires-clause-known g c = subst (CallIsKnown (g.S.Store.trees c.args.kernel.now.store)) c.in-CutBox.is c.requires.call_known

pub cut_box-requires-clause-formula : goal.cut_box-requires-clause-formula
cut_box-requires-clause-formula g c =
    let trees = g.S.Store.trees c.args.kernel.now.store in
    let h = subst (IsCall trees (atom_at trees c.args.atom.now)) c.in-CutBox.is c.requires.call in
    cut_formula trees c.args.atom.now c.requires.fitting _ _ h.0 h.1

pub cut_box-requires-clause-call : goal.cut_box-requires-clause-call
cut_box-requires-clause-call g c =
    let trees = g.S.Store.trees c.args.kernel.now.store in subst (IsCall trees (atom_at trees c.args.atom.now)) c.in-CutBox.is c.requires.call
