-- What a key matches is of the key's sort.
use Rattle.std.proofs.Common.{◌≡◌, ◌∙◌, sym, ap, ℕ, List}
use Rattle.std.specs.Prelude.{IsTrue}
use Rattle.std.proofs.lemmas.Bool.{and_parts}
use Rattle.dlk_tree.specs.declared.op.Sym.{Sym}
use Rattle.dlk_tree.specs.declared.op.Kind.{Kind}
use Rattle.dlk_tree.specs.declared.op.Kind.TheVariants.{Func, UnitFunc, Pred, UnitPred, Prog}
use Rattle.dlk_tree.specs.declared.op.Op.{Op}
use Rattle.dlk_tree.specs.declared.op.Op.TheVariants as Op'
use Rattle.dlk_tree.specs.Table.{sort_of, has_parts, kind_row, is_sym_of}
use Rattle.dlk_tree.specs.Trees.{Tree, node, Forest, sort, WellMade}
use Rattle.dlk_calculus.specs.Pairs.{Extra}
use Rattle.dlk_calculus.proofs.Sorts.{kind_of_rank}
use Rattle.dlk_match.specs.Matching.{GetsReplacement, Over, Application, of_nothing, of_variable, MatchesAt, Matches, MatchesAll, Match}
use Rattle.dlk_match.proofs.Abstracted.{sort_abstracted}

-- a symbol of a kind is replaced by what is of the kind's sort
symbol_sort : (kind : Kind) (s : Sym) (e : Tree) (old new : Extra) → IsTrue (is_sym_of kind s) → GetsReplacement s e old new → sort e ≡ (kind_row kind).sort
symbol_sort kind s e old new real m = m.0 ∙ ap (λ k. (kind_row k).sort) (kind_of_rank s.kind kind (and_parts _ _ real).0)

application_sort : (kind : Kind) (s : Sym) (kids : Forest) (e : Tree) (old new : Extra) → IsTrue (is_sym_of kind s) → Application s kids e old new →
    sort e ≡ (kind_row kind).sort
application_sort kind s kids e old new real (of_nothing k m) = symbol_sort kind s e old new real m
application_sort kind s kids e old new real (of_variable a) =
    sym (sort_abstracted (record { name = a.y; primed = a.v.primed }) e) ∙ symbol_sort kind s _ old new real a.replaced

module _ (e : Tree) (Kids : Forest → Extra → Extra → Type 0) (old new : Extra) where
  over_sort : (op : Op) (mid : Extra) → Over op e Kids mid new → sort e ≡ sort_of op
  over_sort op mid m = ap sort m.1

  sort_at : (op : Op) (kids : Forest) → IsTrue (has_parts op) → MatchesAt op kids e Kids old new → sort e ≡ sort_of op
  sort_at (Op'.Variable v) kids h m = ap sort m.3.1
  sort_at (Op'.UnitFun s) kids h m = symbol_sort UnitFunc s e old new h m
  sort_at (Op'.UnitPred s) kids h m = symbol_sort UnitPred s e old new h m
  sort_at (Op'.Const s) kids h m = symbol_sort Prog s e old new h m
  sort_at (Op'.Apply s) kids h m = application_sort Func s kids e old new h m
  sort_at (Op'.Holds s) kids h m = application_sort Pred s kids e old new h m
  sort_at (Op'.Predicational s) kids h m = absurd m
  sort_at (Op'.Forall x) kids h m = ap sort m.3.1
  sort_at (Op'.Exists x) kids h m = ap sort m.3.1
  sort_at (Op'.Assign v) kids h m = ap sort m.3.1
  sort_at (Op'.Any x) kids h m = ap sort m.3.1
  sort_at (Op'.System items) kids h m = ap sort m.target_is
  sort_at op kids h m = over_sort op old m

matches_sort : (key e : Tree) (old new : Extra) → WellMade key → Matches key e old new → sort e ≡ sort key
matches_sort (node op kids) e old new made m = sort_at e (MatchesAll kids) old new op kids made.0.parts_fit m

pub match_sort : (key : Tree) (own : List (List ℕ)) (e : Tree) (given extra : Extra) → WellMade key → Match key own e given extra → sort e ≡ sort key
match_sort key own e given extra made m = matches_sort key e given m.found made m.matches
