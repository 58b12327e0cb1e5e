-- A substitution without pairs changes nothing.
use Rattle.std.proofs.Common.{◌≡◌, ◌∙◌, refl, sym, ap, List, [], ◌∷◌, Bool}
use Rattle.std.specs.Prelude.{IsTrue, ◌&&◌}
use Rattle.std.specs.List.{flat_map}
use Rattle.std.proofs.lemmas.List.Concat.{flat_map-cons}
use Rattle.std.proofs.lemmas.List.Elements.{All-nil}
use Rattle.dlk_tree.specs.declared.op.Var.{Var}
use Rattle.dlk_tree.specs.declared.op.Op.{Op}
use Rattle.dlk_tree.specs.declared.op.Op.TheVariants as Op'
use Rattle.dlk_tree.specs.declared.op.OdeItem.{OdeItem}
use Rattle.dlk_tree.specs.Table.{kind_row}
use Rattle.dlk_tree.specs.Trees.{Tree, node, Forest, no_kids, kid, WellMade, AllWellMade}
use Rattle.dlk_tree.specs.Statics.{free}
use Rattle.dlk_tree.specs.Occurs.{any_has, has_symbol}
use Rattle.dlk_calculus.specs.Captures.{AreApart, captures}
use Rattle.dlk_calculus.specs.Kids.{last}
use Rattle.dlk_calculus.specs.Pairs.{Pair}
use Rattle.dlk_calculus.specs.Subst.{IsAdmissible, Member, Equation, Constant, members, items_of, kids_of, spliced, new_members, Subst, SubstAll, SubstAt}
use Rattle.dlk_match.proofs.SystemsBack.{items_back, kids_back}

admissible : (set : Var → Bool) (trees : Forest) → IsAdmissible [] set trees
admissible set trees = All-nil (λ (p : Pair). IsTrue ((kind_row p.sym.kind).arguments && any_has (has_symbol p.sym) trees) → AreApart set (free p.by))

none_spliced : (ms : List Member) → flat_map (spliced []) ms ≡ ms
none_spliced [] = refl
none_spliced (Equation x side ∷ ms) = flat_map-cons (spliced []) (Equation x side) ms ∙ ap (λ ns. Equation x side ∷ ns) (none_spliced ms)
none_spliced (Constant s ∷ ms) = flat_map-cons (spliced []) (Constant s) ms ∙ ap (λ ns. Constant s ∷ ns) (none_spliced ms)

system_stays : (items : List OdeItem) (kids : Forest) → WellMade (node (Op'.System items) kids) →
    node (Op'.System items) kids ≡ node (Op'.System (items_of (new_members [] items kids))) (kids_of (new_members [] items kids) (last kids))
system_stays items kids made =
    let same : members items kids ≡ new_members [] items kids = sym (none_spliced (members items kids)) in
    ap (λ its. node (Op'.System its) kids) (sym (items_back items kids))
    ∙ ap (λ ks. node (Op'.System (items_of (members items kids))) ks) (sym (kids_back items kids made.0.kids_fit))
    ∙ ap (λ ms. node (Op'.System (items_of ms)) (kids_of ms (last kids))) same

stays : (op : Op) (kids : Forest) → WellMade (node op kids) → SubstAt [] op kids kids (node op kids)
stays (Op'.System items) kids made =
    let op = Op'.System (items_of (new_members [] items kids)) in
    (admissible ((captures op).set kids) ((captures op).reach kids), system_stays items kids made)
stays op kids made = (admissible ((captures op).set kids) ((captures op).reach kids), refl)

mutual
  pub nothing_replaced : (e : Tree) → WellMade e → Subst [] e e
  nothing_replaced (node op kids) made = (kids, nothing_in_kids kids made.1, stays op kids made, made)

  nothing_in_kids : (kids : Forest) → AllWellMade kids → SubstAll [] kids kids
  nothing_in_kids no_kids made = tt
  nothing_in_kids (kid t rest) made = (nothing_replaced t made.0, nothing_in_kids rest made.1)
