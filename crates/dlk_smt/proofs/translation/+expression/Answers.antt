use Rattle.std.proofs.Common.{◌-◌, length, drop, arith, rules, codes}
use Rattle.std.proofs.lemmas.List.Elements.{All-drop, All-take}
use Rattle.std.proofs.lemmas.List.{take_rest}
use Rattle.dlk_tree.specs.Statics.{plain}
use Rattle.dlk_store.specs.Stores.{IsId, kid_trees}
use Rattle.dlk_print.proofs.Left.{unbegun, appended, last}
use Rattle.dlk_smt.specs.Smt.{shown, shown_all, first, expressions, times, symbol, base_symbol, variable_symbol}
use Rattle.dlk_smt.proofs.Kids.{rest_smaller}
use Rattle.dlk_smt.proofs.Parts.{power_parts, quantified_parts}
use Rattle.dlk_smt.proofs.translation.+expression.Goals as goal

pub append_kids-append_kids-requires : goal.append_kids-append_kids-requires
append_kids-append_kids-requires g t c κs within =
    let trees = g.S.Store.trees c.args.store.now in
    let ks = c.args.kids.now in
    let less = rw (← take_rest ks 1) at (rest_smaller trees ks c.in-len1-up.len_at_least) in
    (omega (arith, less), (search rules, (search rules, All-take (IsId trees) (length ks - 1) (drop 1 ks) (All-drop (IsId trees) 1 ks c.requires))))

pub append_power-returns : goal.append_power-returns
append_power-returns g t c =
    let kids = kid_trees (g.S.Store.trees c.args.store.now) c.args.kids.now in
    let base = first (expressions kids) in
    let count = c.in-Some.count in
    let none = unbegun c.args.out.now.items (power_parts count _ base c.in-Some.ensures c.if-count-eq1.false) in
    let opened = appended (codes "(let ((|e| ") _ none c.in_ok-append.ensures.ok in
    let named = appended (shown base) _ opened c.in_ok-append_first.ensures in
    let product = appended (codes ")) (*") _ named c.in_ok-append-2.ensures.ok in
    let bases = appended (shown_all (times count (symbol base_symbol))) _ product c.in_ok-append_bases.ensures in
    (last bases c.append-4.ensures).ok

pub append_quantified-returns : goal.append_quantified-returns
append_quantified-returns g t c =
    let kids = kid_trees (g.S.Store.trees c.args.store.now) c.args.kids.now in
    let body = first (expressions kids) in
    let none = unbegun c.args.out.now.items (quantified_parts c.args.word.now (variable_symbol (plain c.args.x.now)) (shown body)) in
    let opened = appended (codes "(") _ none c.in_ok-append.ensures.ok in
    let word = appended c.args.word.now _ opened c.in_ok-append-2.ensures.ok in
    let bracket = appended (codes " ((") _ word c.in_ok-append-3.ensures.ok in
    let named = appended (variable_symbol (plain c.args.x.now)) _ bracket c.in_ok-append_unprimed.ensures in
    let real = appended (codes " Real)) ") _ named c.in_ok-append-4.ensures.ok in
    let formula = appended (shown body) _ real c.in_ok-append_first.ensures in
    (last formula c.append-5.ensures).ok
