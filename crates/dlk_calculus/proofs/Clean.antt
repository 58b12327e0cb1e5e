-- Trees without argument dots and without `_`; and the replacements of a well-formed substitution.
use Rattle.std.proofs.Common.{◌≡◌, refl, subst, ℕ, List, Bool, true, false, ◌||◌, ◌&&◌, not, Some, arith}
use Rattle.std.specs.Prelude.{IsTrue}
use Rattle.std.proofs.lemmas.Bool.{or_parts, or_from, and_parts, leb-false}
use Rattle.std.proofs.lemmas.List.Elements.{All-weaker}
use Rattle.dlk_tree.specs.declared.op.Sym.{Sym}
use Rattle.dlk_tree.specs.declared.op.Kind.{Kind}
use Rattle.dlk_tree.specs.declared.op.Op.{Op}
use Rattle.dlk_tree.specs.declared.op.Op.TheVariants as Op'
use Rattle.dlk_tree.specs.Table.{kind_row, has_arity, is_sym_of}
use Rattle.dlk_tree.specs.Trees.{Tree, Forest}
use Rattle.dlk_tree.specs.Occurs.{has, any_has, is_some_dot, is_hole, has_dots, has_hole}
use Rattle.dlk_calculus.specs.declared.why.Why.TheVariants as Why'
use Rattle.dlk_calculus.specs.Pairs.{Pair, replacement, is_dot_from, IsWellFormed}
use Rattle.dlk_calculus.proofs.WellFormed.{IsGood, good_pairs, replacement_has}
use Rattle.dlk_calculus.proofs.Lacks.{lacks}
use Rattle.dlk_calculus.proofs.Sorts.{kind_of_rank}

-- an argument dot or `_`
abbrev pub is_gap : Op → Bool
is_gap op = is_some_dot op || is_hole op

abbrev pub IsClean : Tree → Type 0
IsClean t = has is_gap t ≡ false

abbrev pub AreClean : Forest → Type 0
AreClean ts = any_has is_gap ts ≡ false

pub clean : (t : Tree) → has_dots t ≡ false → has_hole t ≡ false → IsClean t
clean t dots holes = lacks is_some_dot is_hole is_gap (λ op p q. or_from _ _ p q) t dots holes

pub clean-no_dot : (t : Tree) → IsClean t → has_dots t ≡ false
clean-no_dot t h = lacks is_gap is_gap is_some_dot (λ op p q. (or_parts _ _ p).0) t h h

pub clean-no_hole : (t : Tree) → IsClean t → has_hole t ≡ false
clean-no_hole t h = lacks is_gap is_gap is_hole (λ op p q. (or_parts _ _ p).1) t h h

-- ---- replacements

-- the dots and holes that a replacement of the symbol may have
record IsFilling (s : Sym) (r : Tree) : Type 0 where
  dots : has (is_dot_from s.arity) r ≡ false
  holes : has_hole r && not (kind_row s.kind).hole ≡ false

kind_is : (k : Kind) (s : Sym) → IsTrue (is_sym_of k s) → s.kind ≡ k
kind_is k s is = kind_of_rank s.kind k (and_parts _ _ is).0

arity_of_kind : (k : Kind) (s : Sym) → IsTrue (is_sym_of k s) → IsTrue (has_arity k s.arity)
arity_of_kind k s is =
    let symbol = and_parts _ _ (and_parts _ _ is).1 in
    subst (λ l. IsTrue (has_arity l s.arity)) (kind_is k s is) (and_parts _ _ (and_parts _ _ symbol.0).0).1

not_both : (a b : Bool) → a && not b ≡ false → b ≡ false → a ≡ false
not_both true false h e = h
not_both true true h e = cc
not_both false b h e = refl

-- a symbol of the kind has no arguments
abbrev pub TakesNone : Kind → Type 0
TakesNone k = (n : ℕ) → IsTrue (has_arity k n) → n ≡ 0

dot_from_none : (op : Op) → is_dot_from 0 op ≡ false → is_some_dot op ≡ false
dot_from_none (Op'.Dot n) h = let below = leb-false 0 n h in absurd (omega arith)
dot_from_none _ h = refl

module _ (pairs : List Pair) (well : IsWellFormed pairs) (k : Kind) (s : Sym) (r : Tree) (is : IsTrue (is_sym_of k s))
    (found : replacement pairs s ≡ Some r) where
  filling : IsFilling s r
  filling = replacement_has IsFilling pairs s r
      (All-weaker IsGood (λ p. IsFilling p.sym p.by) (λ p good. record { dots = good.1 Why'.Dot; holes = good.1 Why'.Hole }) pairs
      (good_pairs pairs well)) found

  pub replacement_no_hole : (kind_row k).hole ≡ false → has_hole r ≡ false
  replacement_no_hole h = not_both (has_hole r) (kind_row k).hole (subst (λ l. has_hole r && not (kind_row l).hole ≡ false) (kind_is k s is) filling.holes) h

  pub replacement_no_dot : TakesNone k → has_dots r ≡ false
  replacement_no_dot none =
      let h = subst (λ n. has (is_dot_from n) r ≡ false) (none s.arity (arity_of_kind k s is)) filling.dots in
      lacks (is_dot_from 0) (is_dot_from 0) is_some_dot (λ op p q. dot_from_none op p) r h h

  pub replacement_clean : TakesNone k → (kind_row k).hole ≡ false → IsClean r
  replacement_clean none h = clean r (replacement_no_dot none) (replacement_no_hole h)
