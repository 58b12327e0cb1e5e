-- The pairs of a list one by one: their symbols, the first bad one, and whether a replacement has a free variable.
use Rattle.std.proofs.Common.{◌≡◌, ◌∙◌, ℕ, suc, zero, ◌+◌, ◌-◌, ◌<◌, ◌≤◌, List, [], ◌∷◌, length, take, drop, get_or, Option, Some, None, Bool, true}
use Rattle.std.proofs.Common.{false, ◌||◌, refl, sym, ap, subst, arith, inl, inr, ⊎_elim}
use Rattle.std.specs.Prelude.{IsTrue}
use Rattle.std.specs.List.{list_any}
use Rattle.std.proofs.lemmas.List.{drop_more, drop_all, take-map, length-map}
use Rattle.std.proofs.lemmas.Option.{none-some}
use Rattle.std.proofs.Math.Bool.{or-false}
use Rattle.dlk_tree.specs.declared.op.Sym.{Sym}
use Rattle.dlk_tree.specs.Tests.{sym_eq}
use Rattle.dlk_tree.specs.Table.{kind_row}
use Rattle.dlk_tree.specs.Trees.{Tree}
use Rattle.dlk_tree.specs.Statics.{free}
use Rattle.dlk_tree.specs.Listed.{IsInhabited}
use Rattle.dlk_store.specs.Stores.{tree}
use Rattle.dlk_calculus.specs.declared.why.Why.{Why}
use Rattle.dlk_calculus.specs.Places.{At}
use Rattle.dlk_calculus.specs.Pairs.{Pair as TreePair, IsFreeIn, why, IsIll, FirstIll, IsWellFormed}
use Rattle.dlk_calculus.proofs.PlaceLaws.{At-map, At_read, At_place, at_one}
use Rattle.dlk_calculus.proofs.WellFormed.{AreGoodBelow, good_more, all_good}
use Rattle.dlk_sequent.specs.declared.subst.Pair.{Pair}
use Rattle.dlk_sequent.specs.Substitutions.{pair_at, pairs_at}
use Rattle.dlk_sequent.specs.SymbolSets.{AreSymbolsOf}

-- ---- their symbols

abbrev any_of : Sym → List TreePair → Bool
any_of s pairs = list_any (λ (p : TreePair). sym_eq s p.sym) pairs

or_last : (a b c : Bool) → a || (b || c) ≡ (a || b) || c
or_last true b c = refl
or_last false b c = refl

-- the symbol stands in the first i pairs and the next one
any_more : (trees : List Tree) (s : Sym) (pairs : List Pair) (i : ℕ) (p : Pair) → i < length pairs → p ≡ get_or pairs i p
    → any_of s (pairs_at trees (take (suc i) pairs)) ≡ any_of s (pairs_at trees (take i pairs)) || sym_eq s p.sym
any_more trees s [] i p h e = absurd (omega arith)
any_more trees s (q ∷ pairs) zero p h e = or-false (sym_eq s q.sym) ∙ ap (λ (r : Pair). sym_eq s r.sym) (sym e)
any_more trees s (q ∷ pairs) (suc i) p h e =
    ap (λ b. sym_eq s q.sym || b) (any_more trees s pairs i p (omega arith) e)
    ∙ or_last (sym_eq s q.sym) (any_of s (pairs_at trees (take i pairs))) (sym_eq s p.sym)

pub no_symbols : (trees : List Tree) (pairs : List Pair) (symbols : List Sym) → symbols ≡ [] → AreSymbolsOf (pairs_at trees (take 0 pairs)) symbols
no_symbols trees pairs symbols none s = ap (list_any (sym_eq s)) none

-- the symbols of the first i pairs with that of the next one
pub symbols_more : (trees : List Tree) (pairs : List Pair) (i : ℕ) (p : Pair) (old new : List Sym) → i < length pairs → p ≡ get_or pairs i p
    → AreSymbolsOf (pairs_at trees (take i pairs)) old → ((s : Sym) → list_any (sym_eq s) new ≡ list_any (sym_eq s) old || sym_eq s p.sym)
    → AreSymbolsOf (pairs_at trees (take (i + 1) pairs)) new
symbols_more trees pairs i p old new h e are more s =
    let next : suc i ≡ i + 1 = omega arith in
    more s ∙ ap (λ b. b || sym_eq s p.sym) (are s) ∙ sym (any_more trees s pairs i p h e) ∙ ap (λ n. any_of s (pairs_at trees (take n pairs))) next

-- the symbol stands in pairs of ids as it does in those of trees
pub any_here : (trees : List Tree) (s : Sym) (pairs : List Pair) → list_any (λ (p : Pair). sym_eq s p.sym) pairs ≡ any_of s (pairs_at trees pairs)
any_here trees s [] = refl
any_here trees s (p ∷ pairs) = ap (λ b. sym_eq s p.sym || b) (any_here trees s pairs)

-- ---- the first bad one

-- none of the first i pairs is bad
abbrev pub AreGoodBefore : List Tree → List Pair → ℕ → Type 0
AreGoodBefore trees pairs i = AreGoodBelow (pairs_at trees pairs) (i + 1)

pub none_before : (trees : List Tree) (pairs : List Pair) → AreGoodBefore trees pairs 0
none_before trees pairs m w lt ill = omega (arith, lt, (At_place (pairs_at trees pairs) m ill.0 ill.1).0)

-- past the last all are good
pub all_well : (trees : List Tree) (pairs : List Pair) (i : ℕ) → length pairs ≤ i → AreGoodBefore trees pairs i → IsWellFormed (pairs_at trees pairs)
all_well trees pairs i past good = all_good (pairs_at trees pairs) (i + 1) (omega (arith, past, length-map pairs (pair_at trees))) good

-- the next pair p, about which the answer is the first reason against it
module _ (trees : List Tree) (pairs : List Pair) (i : ℕ) (within : i < length pairs) (good : AreGoodBefore trees pairs i)
    (p : Pair) (is_next : p ≡ get_or pairs i p) (answer : Option Why)
    (is_reason : answer ≡ why (pairs_at trees (take i pairs)) (pair_at trees p)) where
  back : i + 1 - 1 ≡ i
  back = omega arith

  there : At (pairs_at trees pairs) (i + 1) (pair_at trees p)
  there =
      At-map (pair_at trees) pairs (i + 1) p (At_read pairs (i + 1) p (omega arith, omega (arith, within)) (is_next ∙ ap (λ k. get_or pairs k p) (sym back)))

  reason : why (take (i + 1 - 1) (pairs_at trees pairs)) (pair_at trees p) ≡ answer
  reason =
      let before = ap (λ k. take k (pairs_at trees pairs)) back ∙ take-map (pair_at trees) i pairs in
      ap (λ earlier. why earlier (pair_at trees p)) before ∙ sym is_reason

  pub next_is_bad : (w : Why) → answer ≡ Some w → FirstIll (pairs_at trees pairs) (i + 1) w
  next_is_bad w e = record { ill = (pair_at trees p, there, reason ∙ e); first = good }

  next_good : answer ≡ None → (w : Why) → ¬ IsIll (pairs_at trees pairs) (i + 1) w
  next_good e w ill =
      let same = at_one (pairs_at trees pairs) (i + 1) (pair_at trees p) ill.0 there ill.1 in
      none-some w (sym (reason ∙ e) ∙ ap (why (take (i + 1 - 1) (pairs_at trees pairs))) same ∙ ill.2)

  pub next_is_good : answer ≡ None → AreGoodBefore trees pairs (i + 1)
  next_is_good e m w lt = good_more (pairs_at trees pairs) (i + 1) good (next_good e) m w (omega (arith, lt))

-- a function or a predicate, in whose replacement some variable is free
abbrev pub IsFree : List Tree → Pair → Type 0
IsFree trees p = IsTrue (kind_row p.sym.kind).arguments × IsInhabited (free (tree trees p.by))

pub free_at : (trees : List Tree) (pairs : List Pair) (i : ℕ) (d : Pair) → i < length pairs → IsFree trees (get_or pairs i d) → IsFreeIn (pairs_at trees pairs)
free_at trees [] i d within h = absurd (omega arith)
free_at trees (p ∷ pairs) zero d within h = inl h
free_at trees (p ∷ pairs) (suc i) d within h = inr (free_at trees pairs i d (omega arith) h)

pub free_later : (trees : List Tree) (pairs : List Pair) (i : ℕ) (d : Pair) → i < length pairs → (IsFree trees (get_or pairs i d) → ⊥) →
    IsFreeIn (pairs_at trees (drop i pairs)) → IsFreeIn (pairs_at trees (drop (i + 1) pairs))
free_later trees pairs i d within bare h =
    ⊎_elim (λ here. absurd (bare here)) (λ later. later) (subst (λ (rest : List Pair). IsFreeIn (pairs_at trees rest)) (drop_more pairs i d within) h)

pub free_nowhere : (trees : List Tree) (pairs : List Pair) (i : ℕ) → length pairs ≤ i → IsFreeIn (pairs_at trees (drop i pairs)) → ⊥
free_nowhere trees pairs i past h = subst (λ (rest : List Pair). IsFreeIn (pairs_at trees rest)) (drop_all i pairs past) h
