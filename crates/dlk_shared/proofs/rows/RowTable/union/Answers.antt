use Rattle.std.proofs.Common.{◌≡◌, ◌||◌, sym}
use Rattle.dlk_tree.specs.Statics.{either}
use Rattle.dlk_vars.specs.Rows.{ByNumber}
use Rattle.dlk_vars.specs.Sets.{Picks}
use Rattle.dlk_vars.proofs.Members.{union_picks}
use Rattle.dlk_vars.proofs.Words.{within_union}
use Rattle.dlk_shared.specs.SetTables.{row_at}
use Rattle.dlk_shared.proofs.SetLemmas.{mapped}
use Rattle.dlk_shared.proofs.RowLemmas.{turned_union, at_rows}
use Rattle.dlk_shared.proofs.rows.RowTable.union.Goals as goal

pub returns-then-includes-clause-numbers : goal.returns-then-includes-clause-numbers
returns-then-includes-clause-numbers c =
    at_rows (ByNumber ◌||◌) c.at.ensures c.at-2.ensures c.at.ensures
    (within_union c.includes.result c.at.result.now c.at-2.result.now c.includes.ensures.numbers c.if-includes.true)

pub returns-then-includes-clause-vars : goal.returns-then-includes-clause-vars
returns-then-includes-clause-vars c =
    at_rows (Picks either) c.at.ensures c.at-2.ensures c.at.ensures (c.includes.ensures.vars c.if-includes.true)

pub returns-then-includes-2-clause-numbers : goal.returns-then-includes-2-clause-numbers
returns-then-includes-2-clause-numbers c =
    at_rows (ByNumber ◌||◌) c.at-4.ensures c.at-3.ensures c.at-3.ensures
    (turned_union (within_union c.includes-2.result c.at-3.result.now c.at-4.result.now c.includes-2.ensures.numbers c.if-includes-2.true))

pub returns-then-includes-2-clause-vars : goal.returns-then-includes-2-clause-vars
returns-then-includes-2-clause-vars c =
    let rows = c.args.self.now in
    union_picks (row_at rows c.args.a) (row_at rows c.args.b) (row_at rows c.args.b) (returns-then-includes-2-clause-numbers c)

pub returns-clause-numbers : goal.returns-clause-numbers
returns-clause-numbers c =
    let old = c.args.self.now in
    let new = c.keep.new.self in
    mapped (λ m. row_at new m ≡ c.in_ok-set.set) (λ m. ByNumber ◌||◌ (row_at old c.args.a) (row_at old c.args.b) (row_at new m)) c.keep.result
    (λ m e. at_rows (ByNumber ◌||◌) c.at-5.ensures c.at-6.ensures (sym e) c.in_ok-set.ensures.numbers) c.keep.ensures.row

pub returns-clause-vars : goal.returns-clause-vars
returns-clause-vars c =
    let old = c.args.self.now in
    let new = c.keep.new.self in
    mapped (λ m. row_at new m ≡ c.in_ok-set.set) (λ m. Picks either (row_at old c.args.a) (row_at old c.args.b) (row_at new m)) c.keep.result
    (λ m e. at_rows (Picks either) c.at-5.ensures c.at-6.ensures (sym e) c.in_ok-set.ensures.vars) c.keep.ensures.row
