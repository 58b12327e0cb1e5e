use Rattle.std.proofs.Common.{map, ap, ◌∙◌}
use Rattle.dlk_sequent.specs.declared.subst.Pair.{Pair}
use Rattle.dlk_parse.proofs.SaidExtra.{extra_code_made, extra_found}
use Rattle.dlk_parse.proofs.SaidPairs.{pairs_known}
use Rattle.dlk_lex.proofs.Sources.{gives_tokens}
use Rattle.dlk_parse.proofs.owned.extra_of.Goals as goal

pub make_all-requires : goal.make_all-requires
make_all-requires g c = extra_code_made c.in_ok-renames.ensures.read.0 c.in_ok-renames.field-0 c.in_ok-renames.ensures.read.2
    (gives_tokens c.args.origin c.in_ok-renames.ensures.read.0 c.requires c.in_ok-renames.ensures.read.1)

pub returns-clause-found : goal.returns-clause-found
returns-clause-found g c = (
  c.in_ok-renames.ensures.read.0,
  c.in_ok-renames.ensures.read.1,
  extra_found c.in_ok-renames.ensures.read.0 c.in_ok-renames.field-0 c.in_ok-renames.ensures.read.2 (g.S.Store.trees c.make_all.new.store)
      c.in_ok-ids.ids.items c.in_ok-ids.ensures.made (record { renames = c.from_vec.result; pairs = c.from_vec-2.result }) c.from_vec.ensures
      (ap (map (λ (p : Pair). p.sym)) c.from_vec-2.ensures ∙ c.in_ok-pairs.ensures.symbols)
      (ap (map (λ (p : Pair). p.by)) c.from_vec-2.ensures ∙ c.in_ok-pairs.ensures.ids ∙ c.as_slice.ensures.value),
)

pub returns-clause-known : goal.returns-clause-known
returns-clause-known g c =
    pairs_known (g.S.Store.trees c.make_all.new.store) c.in_ok-ids.ids.items c.from_vec-2.result
    (ap (map (λ (p : Pair). p.by)) c.from_vec-2.ensures ∙ c.in_ok-pairs.ensures.ids ∙ c.as_slice.ensures.value) c.in_ok-ids.ensures.made.known
