use Rattle.std.proofs.Common.{◌≡◌, rules, subst, ◌∙◌}
use Rattle.std.specs.Prelude.{codes}
use Rattle.dlk_elab.specs.Calls.{HasNoUse}
use Rattle.dlk_elab.specs.declared.calls.Direction.TheVariants as direction
use Rattle.dlk_elab.proofs.CallsFit.{generalize_fits, cut_box_fits, use_at_fits, use_back_fits, use_said, use_named, use_known}
use Rattle.dlk_elab.proofs.calls.call_of.Goals as goal

pub returns-in-None-clause-call : goal.returns-in-None-clause-call
returns-in-None-clause-call c = λ trees fitting fixed.
    let name : c.args.atom.now.name ≡ codes "G" = search rules in
    absurd (generalize_fits trees c.args.atom.now fitting name (λ a e. c.in-None.ensures.none a (c.as_slice-args.ensures ∙ e)))

pub returns-in-None-cut_box_call-clause-call : goal.returns-in-None-cut_box_call-clause-call
returns-in-None-cut_box_call-clause-call c = λ trees fitting fixed.
    let name : c.args.atom.now.name ≡ codes "boxCut" = search rules in
    absurd (cut_box_fits trees c.args.atom.now fitting name (λ h a e. c.in-None-cut_box_call.ensures.none h a (c.as_slice-args.ensures ∙ e)))

pub returns-in-Some-use_call-clause-call : goal.returns-in-Some-use_call-clause-call
returns-in-Some-use_call-clause-call c = λ trees fitting fixed.
    let name : c.args.atom.now.name ≡ codes "useAt" = search rules in (
      use_named direction.Forwards c.as_slice-args.result.now _ c.args.atom.now.name c.in-Some-use_call.ensures.found name,
      use_said trees direction.Forwards c.args.atom.now.args c.as_slice-args.result.now _ c.as_slice-args.ensures c.in-Some-use_call.ensures.found,
    )

pub returns-in-None-use_call-clause-call : goal.returns-in-None-use_call-clause-call
returns-in-None-use_call-clause-call c = λ trees fitting fixed.
    let name : c.args.atom.now.name ≡ codes "useAt" = search rules in
    absurd (use_at_fits trees c.args.atom.now fitting fixed name (subst HasNoUse c.as_slice-args.ensures c.in-None-use_call.ensures.none))

pub returns-in-Some-use_call-2-clause-call : goal.returns-in-Some-use_call-2-clause-call
returns-in-Some-use_call-2-clause-call c = λ trees fitting fixed.
    let name : c.args.atom.now.name ≡ codes "useBack" = search rules in (
      use_named direction.Backwards c.as_slice-args.result.now _ c.args.atom.now.name c.in-Some-use_call-2.ensures.found name,
      use_said trees direction.Backwards c.args.atom.now.args c.as_slice-args.result.now _ c.as_slice-args.ensures c.in-Some-use_call-2.ensures.found,
    )

pub returns-in-None-use_call-2-clause-call : goal.returns-in-None-use_call-2-clause-call
returns-in-None-use_call-2-clause-call c = λ trees fitting fixed.
    let name : c.args.atom.now.name ≡ codes "useBack" = search rules in
    absurd (use_back_fits trees c.args.atom.now fitting fixed name (subst HasNoUse c.as_slice-args.ensures c.in-None-use_call-2.ensures.none))

pub returns-in-Some-use_call-clause-known : goal.returns-in-Some-use_call-clause-known
returns-in-Some-use_call-clause-known c = λ trees known.
    use_known trees direction.Forwards c.args.atom.now.args c.as_slice-args.result.now _ c.as_slice-args.ensures c.in-Some-use_call.ensures.found known

pub returns-in-Some-use_call-2-clause-known : goal.returns-in-Some-use_call-2-clause-known
returns-in-Some-use_call-2-clause-known c = λ trees known.
    use_known trees direction.Backwards c.args.atom.now.args c.as_slice-args.result.now _ c.as_slice-args.ensures c.in-Some-use_call-2.ensures.found known
