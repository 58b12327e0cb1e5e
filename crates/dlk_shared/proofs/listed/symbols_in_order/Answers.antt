use Rattle.std.proofs.Common.{subst}
use Rattle.std.specs.List.Sorted.{IsStrictlySortedBy}
use Rattle.std.specs.declared.cmp.Ordering.{Ordering}
use Rattle.dlk_tree.specs.declared.op.Sym.{Sym}
use Rattle.dlk_tree.proofs.Listing.{sym_cmp_derived}
use Rattle.dlk_shared.proofs.listed.symbols_in_order.Goals as goal

pub returns-clause-ordered : goal.returns-clause-ordered
returns-clause-ordered c = subst (λ (cmp : Sym → Sym → Ordering). IsStrictlySortedBy cmp c.args.syms.keys) sym_cmp_derived c.into_iter.ensures.into_iter_gives.4
