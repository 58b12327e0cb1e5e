-- Where no two symbols of renamed pairs are equal, the replacement of a symbol is that of the renamed symbol.
use Rattle.std.proofs.Common.{◌≡◌, refl, sym, ap, subst, ◌∙◌, ℕ, zero, suc, ◌-◌, List, [], ◌∷◌, map, take, slice_get, Bool, true, false, cond, arith}
use Rattle.std.proofs.Common.{None, Some, find}
use Rattle.std.specs.List.{list_any}
use Rattle.std.proofs.lemmas.Bool.{or_parts}
use Rattle.std.proofs.lemmas.Option.{none-some, same_Some}
use Rattle.dlk_tree.specs.declared.op.Sym.{Sym}
use Rattle.dlk_tree.specs.Tests.{sym_eq}
use Rattle.dlk_tree.specs.Trees.{Tree}
use Rattle.dlk_tree.proofs.Same.{sym_eq_decides}
use Rattle.dlk_calculus.specs.declared.why.Why.{Why}
use Rattle.dlk_calculus.specs.declared.why.Why.TheVariants as Why'
use Rattle.dlk_calculus.specs.Pairs.{Pair, replacement, is_against, why, IsWellFormed}
use Rattle.dlk_calculus.proofs.PlaceLaws.{at_suc}
use Rattle.dlk_calculus.proofs.WellFormed.{no_reason}
use Rattle.dlk_match.specs.Matching.{renamed_symbol, renamed_pairs}
use Rattle.dlk_match.proofs.Turns.{Names}

-- no pair has the symbol of an earlier one
abbrev pub AreUnlike : List Pair → Type 0
AreUnlike pairs = (i : ℕ) (q : Pair) → slice_get pairs i ≡ Some q → list_any (λ (p : Pair). sym_eq q.sym p.sym) (take i pairs) ≡ false

-- no reason was found: none of the second kind is one
second_not_found : {A : Type 0} (test : A → Bool) (x y : A) (xs : List A) → find test (x ∷ y ∷ xs) ≡ None → test y ≡ false
second_not_found test x y xs e = go (test x) (test y) e
  where
    go : (a b : Bool) → cond a (Some x) (cond b (Some y) (find test xs)) ≡ None → b ≡ false
    go true b h = cc
    go false true h = cc
    go false false h = refl

not_twice : (earlier : List Pair) (p : Pair) → why earlier p ≡ None → list_any (λ (q : Pair). sym_eq p.sym q.sym) earlier ≡ false
not_twice earlier p e = second_not_found (λ (w : Why). is_against w earlier p) Why'.Sort Why'.Twice (Why'.Dot ∷ Why'.Hole ∷ Why'.Taboo ∷ []) e

one_less : (n : ℕ) → suc n - 1 ≡ n
one_less n = omega arith

pub well_formed_unlike : (pairs : List Pair) → IsWellFormed pairs → AreUnlike pairs
well_formed_unlike pairs well i q there =
    not_twice (take i pairs) q
    (no_reason _ (λ w e. well.none (suc i) w (q, at_suc pairs i ∙ there, ap (λ k. why (take k pairs) q) (one_less i) ∙ e)))

unlike_rest : (p : Pair) (pairs : List Pair) → AreUnlike (p ∷ pairs) → AreUnlike pairs
unlike_rest p pairs unlike i q there = (or_parts _ _ (unlike (suc i) q there)).1

-- a symbol with a replacement is that of some pair
pair_of : (pairs : List Pair) (s : Sym) (r : Tree) → replacement pairs s ≡ Some r → (i : ℕ) × (q : Pair) × (slice_get pairs i ≡ Some q) × (q.sym ≡ s)
pair_of [] s r e = absurd (none-some r e)
pair_of (p ∷ pairs) s r e = go (λ h. pair_of pairs s r h) (sym_eq s p.sym) refl e
  where
    go : (replacement pairs s ≡ Some r → (i : ℕ) × (q : Pair) × (slice_get pairs i ≡ Some q) × (q.sym ≡ s)) → (b : Bool) → sym_eq s p.sym ≡ b →
        cond b (Some p.by) (replacement pairs s) ≡ Some r → (i : ℕ) × (q : Pair) × (slice_get (p ∷ pairs) i ≡ Some q) × (q.sym ≡ s)
    go rest true same h = (zero, p, refl, sym ((sym_eq_decides s p.sym).0 same))
    go rest false same h = let found = rest h in (suc found.0, found.1, found.2, found.3)

slice_get_map : (change : Pair → Pair) (pairs : List Pair) (i : ℕ) (q : Pair) → slice_get pairs i ≡ Some q → slice_get (map change pairs) i ≡ Some (change q)
slice_get_map change [] i q e = absurd (none-some q e)
slice_get_map change (p ∷ pairs) zero q e = ap Some (ap change (same_Some p q e))
slice_get_map change (p ∷ pairs) (suc i) q e = slice_get_map change pairs i q e

module _ (renames : Names) where
  abbrev change : Pair → Pair
  change p = record { sym = renamed_symbol renames p.sym; by = p.by }

  -- the first symbol is none of a later pair
  not_first : (p : Pair) (pairs : List Pair) (s : Sym) (r : Tree) → AreUnlike (renamed_pairs renames (p ∷ pairs)) → replacement pairs s ≡ Some r →
      sym_eq (renamed_symbol renames s) (renamed_symbol renames p.sym) ≡ false
  not_first p pairs s r unlike e =
      let found = pair_of pairs s r e in
      let there = slice_get_map change pairs found.0 found.1 found.2 in
      let h = (or_parts _ _ (unlike (suc found.0) (change found.1) there)).0 in
      subst (λ z. sym_eq (renamed_symbol renames z) (renamed_symbol renames p.sym) ≡ false) found.3 h

  pub renamed_replacement : (pairs : List Pair) (s : Sym) (r : Tree) → AreUnlike (renamed_pairs renames pairs) → replacement pairs s ≡ Some r →
      replacement (renamed_pairs renames pairs) (renamed_symbol renames s) ≡ Some r
  renamed_replacement [] s r unlike e = absurd (none-some r e)
  renamed_replacement (p ∷ pairs) s r unlike e =
      go (λ h. renamed_replacement pairs s r (unlike_rest (change p) (renamed_pairs renames pairs) unlike) h) (sym_eq s p.sym) refl e
    where
      go : (replacement pairs s ≡ Some r → replacement (renamed_pairs renames pairs) (renamed_symbol renames s) ≡ Some r) → (b : Bool) → sym_eq s p.sym ≡ b →
          cond b (Some p.by) (replacement pairs s) ≡ Some r → replacement (renamed_pairs renames (p ∷ pairs)) (renamed_symbol renames s) ≡ Some r
      go rest true same h =
          let symbol = (sym_eq_decides s p.sym).0 same in
          let test = (sym_eq_decides (renamed_symbol renames s) (renamed_symbol renames p.sym)).1 (ap (renamed_symbol renames) symbol) in
          ap (λ b. cond b (Some p.by) (replacement (renamed_pairs renames pairs) (renamed_symbol renames s))) test ∙ h
      go rest false same h =
          ap (λ b. cond b (Some p.by) (replacement (renamed_pairs renames pairs) (renamed_symbol renames s))) (not_first p pairs s r unlike h) ∙ rest h
