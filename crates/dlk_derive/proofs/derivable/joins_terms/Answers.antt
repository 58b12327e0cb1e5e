use Rattle.std.proofs.Common.{◌∙◌, sym, ap}
use Rattle.dlk_store.specs.Stores.{kid_trees}
use Rattle.dlk_derive.specs.Decided.{joins_terms}
use Rattle.dlk_derive.proofs.Kids.{bare_kids}
use Rattle.dlk_derive.proofs.derivable.joins_terms.Goals as goal

pub returns-in-Apply-clause-value : goal.returns-in-Apply-clause-value
returns-in-Apply-clause-value g c =
    let trees = g.S.Store.trees c.args.store.now in
    c.is_empty.ensures ∙ bare_kids trees c.args.kids.now ∙ sym (ap (λ op. joins_terms op (kid_trees trees c.args.kids.now)) c.in-Apply.is)
