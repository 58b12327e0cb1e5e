use Rattle.std.proofs.Common.{◌∙◌}
use Rattle.dlk_parse.proofs.SaidPairs.{pairs_code_made, pairs_found, pairs_known}
use Rattle.dlk_lex.proofs.Sources.{gives_tokens}
use Rattle.dlk_parse.proofs.owned.pairs_of.Goals as goal

pub make_all-requires : goal.make_all-requires
make_all-requires g c = pairs_code_made c.in_ok-symbols.ensures.read.0 c.in_ok-symbols.field-0 c.in_ok-symbols.ensures.read.2
    (gives_tokens c.args.origin c.in_ok-symbols.ensures.read.0 c.requires c.in_ok-symbols.ensures.read.1)

pub returns-clause-found : goal.returns-clause-found
returns-clause-found g c = (
  c.in_ok-symbols.ensures.read.0,
  c.in_ok-symbols.ensures.read.1,
  pairs_found c.in_ok-symbols.ensures.read.0 c.in_ok-symbols.field-0 c.in_ok-symbols.ensures.read.2 (g.S.Store.trees c.make_all.new.store)
      c.in_ok-ids.ids.items c.in_ok-ids.ensures.made c.in_ok-pairs.pairs.items c.in_ok-pairs.ensures.symbols
      (c.in_ok-pairs.ensures.ids ∙ c.as_slice.ensures.value),
)

pub returns-clause-known : goal.returns-clause-known
returns-clause-known g c =
    pairs_known (g.S.Store.trees c.make_all.new.store) c.in_ok-ids.ids.items c.in_ok-pairs.pairs.items (c.in_ok-pairs.ensures.ids ∙ c.as_slice.ensures.value)
    c.in_ok-ids.ensures.made.known
