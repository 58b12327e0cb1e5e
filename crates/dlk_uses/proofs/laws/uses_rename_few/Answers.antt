use Rattle.dlk_uses.specs.Uses.{key}
use Rattle.dlk_uses.proofs.Renamed.{renamed_few}
use Rattle.dlk_uses.proofs.laws.uses_rename_few.Goals as goal

pub returns : goal.returns
returns c =
    λ name a direction place t given extra named matches.
    renamed_few c.axioms_have_own_names.ensures.ends_names name a direction place extra.renames named (c.axioms_have_own_names.ensures.names name a named)
    (λ own. (c.match_is_proper.ensures.given a.own_names (key a.form direction place a.formula) t given extra own matches).0)
