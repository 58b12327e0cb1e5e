use Rattle.std.proofs.Common.{◌≡◌, ◌<◌, length, sym, ap, subst, ◌∙◌, arith, false, []}
use Rattle.std.proofs.lemmas.Option.{slice_get_within, get_or_from_slice_get}
use Rattle.dlk_vars.specs.Rows.{row_eq}
use Rattle.dlk_shared.specs.SetTables.{row_at}
use Rattle.dlk_shared.specs.RowTables.{KeepsRows}
use Rattle.dlk_shared.proofs.SetLemmas.{mapped, row_decides}
use Rattle.dlk_shared.proofs.RowLemmas.{tried_rows, known_empty}
use Rattle.dlk_shared.proofs.rows.RowTable.keep.Goals as goal

pub invariant_of-self : goal.invariant_of-self
invariant_of-self c =
    let tried = c.insert_full.ensures in
    known_empty (tried_rows row_eq c.self.inside.rows.keys c.args.set c.insert_full.result c.insert_full.new.self.keys tried.keys tried.err) c.self.invariant

pub invariant_of-self-2 : goal.invariant_of-self-2
invariant_of-self-2 c =
    let tried = c.insert_full.ensures in
    known_empty (tried_rows row_eq c.self.inside.rows.keys c.args.set c.insert_full.result c.insert_full.new.self.keys tried.keys tried.err) c.self.invariant

pub returns-clause-known : goal.returns-clause-known
returns-clause-known c =
    let stored = c.in_ok-n.ensures.stored in
    let rows = c.insert_full.new.self.keys in
    mapped (λ m. m ≡ c.in_ok-n.n) (λ m. m < length rows) c.narrow.result
    (λ m e. omega (arith, e, slice_get_within rows c.in_ok-n.n stored.0 stored.1)) c.narrow.ensures.same

pub returns-clause-row : goal.returns-clause-row
returns-clause-row c =
    let stored = c.in_ok-n.ensures.stored in
    let rows = c.insert_full.new.self.keys in
    let row : row_at rows c.in_ok-n.n ≡ c.args.set =
    get_or_from_slice_get rows c.in_ok-n.n stored.0 (record { words = []; others = false }) stored.1
    ∙ sym ((row_decides c.args.set stored.0).0 stored.2) in
    mapped (λ m. m ≡ c.in_ok-n.n) (λ m. row_at rows m ≡ c.args.set) c.narrow.result (λ m e. ap (row_at rows) e ∙ row) c.narrow.ensures.same

pub returns-clause-keeps : goal.returns-clause-keeps
returns-clause-keeps c =
    let tried = c.insert_full.ensures in
    let rows = c.insert_full.new.self.keys in
    subst (λ l. KeepsRows l rows) c.self.view_is
    (tried_rows row_eq c.self.inside.rows.keys c.args.set c.insert_full.result rows tried.keys tried.err)
