-- Plugging and substitution go by rows.
use Rattle.std.specs.Prelude.{List}
use Rattle.dlk_tree.specs.declared.op.Op.{Op}
use Rattle.dlk_tree.specs.Trees.{Tree, Forest, no_kids, kid, WellMade}
use Rattle.dlk_store.specs.Rows.{GoesByRows}
use Rattle.dlk_calculus.specs.Plug.{Plug, PlugAll, PlugAt}
use Rattle.dlk_calculus.specs.Pairs.{Pair}
use Rattle.dlk_calculus.specs.Subst.{Subst, SubstAll, SubstAt}
use Rattle.dlk_calculus.specs.OneResult.{one_plug_all, one_subst_all}

plug_parts : (args : List Tree) (t : Tree) (ts us : Forest) → PlugAll args (kid t ts) us → (u : Tree) × (vs : Forest) × Plug args t u × PlugAll args ts vs
plug_parts args t ts no_kids p = absurd p
plug_parts args t ts (kid u us) p = (u, us, p.0, p.1)

pub plugging : GoesByRows Plug PlugAll PlugAt
plugging = record {
  none = λ args. tt;
  one = λ args t u ts us p q. (p, q);
  parts = plug_parts;
  same = one_plug_all;
  up = λ args op ts us u all row. (us, all, row);
  down = λ args op ts u p. p;
}

-- a row of substitution, which gives well-made trees alone
abbrev pub SubstRow : List Pair → Op → Forest → Forest → Tree → Type 0
SubstRow pairs op old new t = SubstAt pairs op old new t × WellMade t

subst_parts : (pairs : List Pair) (t : Tree) (ts us : Forest) → SubstAll pairs (kid t ts) us
    → (u : Tree) × (vs : Forest) × Subst pairs t u × SubstAll pairs ts vs
subst_parts pairs t ts no_kids p = absurd p
subst_parts pairs t ts (kid u us) p = (u, us, p.0, p.1)

pub substituting : GoesByRows Subst SubstAll SubstRow
substituting = record {
  none = λ pairs. tt;
  one = λ pairs t u ts us p q. (p, q);
  parts = subst_parts;
  same = one_subst_all;
  up = λ pairs op ts us u all row. (us, all, row.0, row.1);
  down = λ pairs op ts u p. (p.0, p.1, (p.2, p.3));
}
