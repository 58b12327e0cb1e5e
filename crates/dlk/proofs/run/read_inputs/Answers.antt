use Rattle.std.proofs.Common.{◌≡◌, ◌+◌, ◌<◌, ◌++◌, ◌∷◌, [], length, map, option_map, take, drop, get_or, refl, sym, subst, ◌∙◌, ap, string_bytes, arith, rules}
use Rattle.std.proofs.lemmas.List.{map-append}
use Rattle.dlk_transfer.specs.Transfer.{TookUpTo, ReadUpTo}
use Rattle.dlk_replies.specs.Forms.{limit_of}
use Rattle.dlk_replies.specs.Shown.{texts_of}
use Rattle.dlk_replies.specs.declared.form.Role.TheVariants.{Model}
use Rattle.dlk.specs.Cuts.{cut_bytes_of}
use Rattle.dlk.proofs.Asked.{asked_further, asked_next, read_took}
use Rattle.dlk.proofs.Cut.{cut_more}
use Rattle.dlk.proofs.run.read_inputs.Goals as goal

pub returns-in_err-read_all-clause-asks : goal.returns-in_err-read_all-clause-asks
returns-in_err-read_all-clause-asks g c =
    let tells = g.D.Desk.tells in
    let old = g.D.Desk.outside c.args.desk.now in
    let mid = g.D.Desk.outside c.loop-i.desk in
    let new = g.D.Desk.outside c.read_all.new.desk in
    let name = c.index-names-i.result in
    let role = get_or c.args.roles.now c.loop-i.i Model in
    let named : c.deref.result.now ≡ string_bytes name = search rules in
    let lt : c.loop-i.i < length c.args.names.now = search rules in
    let took = subst (λ l. TookUpTo tells l (string_bytes name) mid new) c.limit.ensures.limit
    (subst (λ n. TookUpTo tells c.limit.result n mid new) named c.read_all.ensures.took) in
    asked_further tells c.args.names.now c.args.roles.now name role Model c.loop-i.i old mid new
    lt (omega (arith, lt, c.requires)) c.index-names-i.is refl c.loop-i.invariant.asks c.loop-i.invariant.only.files took

pub returns-in_err-push-clause-asks : goal.returns-in_err-push-clause-asks
returns-in_err-push-clause-asks g c =
    let tells = g.D.Desk.tells in
    let old = g.D.Desk.outside c.args.desk.now in
    let mid = g.D.Desk.outside c.loop-i.desk in
    let new = g.D.Desk.outside c.read_all.new.desk in
    let name = c.index-names-i.result in
    let role = get_or c.args.roles.now c.loop-i.i Model in
    let named : c.deref.result.now ≡ string_bytes name = search rules in
    let lt : c.loop-i.i < length c.args.names.now = search rules in
    let took = subst (λ l. TookUpTo tells l (string_bytes name) mid new) c.limit.ensures.limit
    (subst (λ n. TookUpTo tells c.limit.result n mid new) named c.read_all.ensures.took) in
    asked_further tells c.args.names.now c.args.roles.now name role Model c.loop-i.i old mid new
    lt (omega (arith, lt, c.requires)) c.index-names-i.is refl c.loop-i.invariant.asks c.loop-i.invariant.only.files took

pub loop-i-preserved : goal.loop-i-preserved
loop-i-preserved g c =
    let tells = g.D.Desk.tells in
    let old = g.D.Desk.outside c.args.desk.now in
    let mid = g.D.Desk.outside c.loop-i.desk in
    let new = g.D.Desk.outside c.read_all.new.desk in
    let name = c.index-names-i.result in
    let role = get_or c.args.roles.now c.loop-i.i Model in
    let bytes = c.in_ok-read_all.field-0 in
    let named : c.deref.result.now ≡ string_bytes name = search rules in
    let lt : c.loop-i.i < length c.args.names.now = search rules in
    let read = subst (λ l. ReadUpTo tells l (string_bytes name) bytes.items mid new) c.limit.ensures.limit
    (subst (λ n. ReadUpTo tells c.limit.result n bytes.items mid new) named c.in_ok-read_all.ensures.ok) in
    let names = c.args.names.now in
    let roles = c.args.roles.now in
    let whole = cut_bytes_of old.files (map string_bytes names) (map limit_of roles) in
    let rest = cut_bytes_of old.files (map string_bytes (drop (c.loop-i.i + 1) names)) (map limit_of (drop (c.loop-i.i + 1) roles)) in
    let more : texts_of c.loop-i.inputs.items ++ bytes.items ∷ [] ≡ texts_of c.push.new.self.items =
    sym (map-append (λ v. v.items) c.loop-i.inputs.items (bytes ∷ [])) ∙ sym (ap texts_of c.in_ok-push.ensures.items) in
    record {
      files = λ t. subst (λ texts. whole ≡ option_map (λ others. texts ++ others) rest) more
          (cut_more old.files names roles name role Model c.loop-i.i (texts_of c.loop-i.inputs.items) bytes.items whole
          lt (omega (arith, lt, c.requires)) c.index-names-i.is refl (c.loop-i.invariant.files t)
          (ap (option_map (take (limit_of role + 1))) (sym (c.loop-i.invariant.only.files t (string_bytes name))) ∙ read.file t));
      asks = asked_next tells c.args.names.now c.args.roles.now name role Model c.loop-i.i old mid new
          lt (omega (arith, lt, c.requires)) c.index-names-i.is refl c.loop-i.invariant.asks c.loop-i.invariant.only.files
          (read_took tells (limit_of role) (string_bytes name) bytes.items mid new read);
      count = search rules;
      only = search rules;
    }
