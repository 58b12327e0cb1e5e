use Rattle.dlk_shared.proofs.SetLemmas.{means_kept, keeps_trans}
use Rattle.dlk_shared.proofs.sets.SetTable.system_sets.Goals as goal

pub in_items-requires-2 : goal.in_items-requires-2
in_items-requires-2 c = means_kept c.in_ok-free.ensures.keeps c.requires

pub returns-in_err-bound-clause-keeps : goal.returns-in_err-bound-clause-keeps
returns-in_err-bound-clause-keeps c = keeps_trans c.in_ok-free.ensures.keeps c.in_err-bound.ensures.keeps

pub in_items-requires-3 : goal.in_items-requires-3
in_items-requires-3 c = means_kept (keeps_trans c.in_ok-free.ensures.keeps c.in_ok-bound.ensures.keeps) c.requires

pub returns-in_err-must-clause-keeps : goal.returns-in_err-must-clause-keeps
returns-in_err-must-clause-keeps c = keeps_trans (keeps_trans c.in_ok-free.ensures.keeps c.in_ok-bound.ensures.keeps) c.in_err-must.ensures.keeps

pub returns-clause-means : goal.returns-clause-means
returns-clause-means c = record {
  free = means_kept (keeps_trans c.in_ok-bound.ensures.keeps c.in_ok-must.ensures.keeps) c.in_ok-free.ensures.means;
  bound = means_kept c.in_ok-must.ensures.keeps c.in_ok-bound.ensures.means;
  must = c.in_ok-must.ensures.means;
}

pub returns-clause-keeps : goal.returns-clause-keeps
returns-clause-keeps c = keeps_trans (keeps_trans c.in_ok-free.ensures.keeps c.in_ok-bound.ensures.keeps) c.in_ok-must.ensures.keeps
