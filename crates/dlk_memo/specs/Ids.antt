-- Ids in a row, wherever they stand.
use Rattle.std.specs.Prelude.{List, []}
use Rattle.dlk_store.specs.declared.Id.{Id}
use Rattle.dlk_memo.specs.declared.kids.Ids.{Ids}
use Rattle.dlk_memo.specs.declared.kids.Ids.TheVariants as In

abbrev pub ids_in : Ids → List Id
ids_in In.None = []
ids_in (In.One ids) = ids
ids_in (In.Two ids) = ids
ids_in (In.More ids) = ids.items
