use Rattle.std.proofs.Common.{◌≡◌, ◌∙◌, ◌||◌, [], ◌∷◌, List, ap, sym, ⊎_elim}
use Rattle.std.specs.List.{list_any}
use Rattle.std.proofs.lemmas.Result.{on_ok_weaker}
use Rattle.dlk_tree.specs.Tests.{sym_eq}
use Rattle.dlk_tree.specs.Occurs.{symbols_of, has_symbol}
use Rattle.dlk_tree.specs.declared.op.Sym.{Sym}
use Rattle.dlk_tree.specs.declared.op.Op.{Op}
use Rattle.dlk_plain.specs.Added.{Adds}
use Rattle.dlk_plain.proofs.Owed.{or_none}
use Rattle.dlk_plain.proofs.list.add_symbols.Goals as goal

-- the one symbol of an operator
Adds-alone : (op : Op) (s : Sym) (old new : List Sym) → symbols_of op ≡ s ∷ [] → Adds sym_eq (λ t. sym_eq t s) old new →
    Adds sym_eq (λ t. has_symbol t op) old new
Adds-alone op s old new e a = record {
  adds = λ t. a.adds t
      ∙ ap (λ b. list_any (sym_eq t) old || b) (or_none (sym_eq t s) ∙ ap (λ ss. list_any (sym_eq t) ss) (sym e));
}

pub returns-in-UnitFun : goal.returns-in-UnitFun
returns-in-UnitFun c =
    let e : symbols_of c.args.op.now ≡ c.in-UnitFun.s ∷ [] =
    ⊎_elim (ap symbols_of) (⊎_elim (ap symbols_of) (⊎_elim (ap symbols_of) (⊎_elim (ap symbols_of) (⊎_elim (ap symbols_of) (ap symbols_of)))))
    c.in-UnitFun.is in
    on_ok_weaker c.add_symbol.result (Adds-alone c.args.op.now c.in-UnitFun.s c.args.syms.now.keys c.add_symbol.new.syms.keys e) c.add_symbol.ensures
