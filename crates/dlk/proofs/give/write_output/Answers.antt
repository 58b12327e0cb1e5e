use Rattle.std.proofs.Common.{◌≡◌, List, ℕ, Some, option_copied, option_map, sym, subst}
use Rattle.dlk.specs.Outputs.{output_with, WrittenInPart}
use Rattle.dlk.proofs.Given.{part_is}
use Rattle.dlk.proofs.give.write_output.Goals as goal

pub returns-clause-part : goal.returns-clause-part
returns-clause-part g c = λ t.
    let old = (g.D.Desk.outside c.args.desk.now).files in
    let new = (g.D.Desk.outside c.write_all.new.desk).files in
    let name = c.in-Some.name.now in
    let bytes = c.in-Some-written.bytes.items in
    let front = c.write_all.ensures.front in
    let is : output_with (option_copied c.args.name) (option_map (λ v. v.items) c.args.reply.now.written) ≡ Some (record { name = name; bytes = bytes }) =
    λ i. output_with (option_copied (c.in-Some.is i)) (option_map (λ v. v.items) (c.in-Some-written.is i)) in
    subst (λ o. WrittenInPart o old new) (sym is)
    (subst (λ (b : List ℕ). WrittenInPart (Some (record { name = name; bytes = b })) old new) c.deref.ensures.value
    (part_is name c.deref.result.now old new (front.file t) (front.others t)))
