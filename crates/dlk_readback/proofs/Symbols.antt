-- A symbol of a kind, by its parts.
use Rattle.std.proofs.Common.{◌≡◌, ℕ, zero, suc, ◌≤◌, Bool, true, false, ◌&&◌, ◌||◌, nat_le, ◌==◌, List, Option, Some, None, is_none, refl, sym, ap, ◌∙◌}
use Rattle.std.proofs.lemmas.Bool.{and_parts, leb-true, eqb-true}
use Rattle.dlk_tree.specs.declared.op.Kind.{Kind}
use Rattle.dlk_tree.specs.declared.op.Kind.TheVariants.{Func, UnitFunc, Pred, UnitPred, Quant, Prog, Ode}
use Rattle.dlk_tree.specs.declared.op.Sym.{Sym}
use Rattle.dlk_tree.specs.Tests.{kind_rank}
use Rattle.dlk_tree.specs.Names.{is_name}
use Rattle.dlk_tree.specs.Table.{is_sym, is_sym_of, kind_row, has_arity, taboo_is_name}
use Rattle.dlk_grammar.specs.Phrases.{Space, Everywhere, Except}
use Rattle.dlk_grammar.specs.Erased.{taboo, symbol}

-- the kinds in their order
kind_at : ℕ → Kind
kind_at zero = Func
kind_at (suc zero) = UnitFunc
kind_at (suc (suc zero)) = Pred
kind_at (suc (suc (suc zero))) = UnitPred
kind_at (suc (suc (suc (suc zero)))) = Quant
kind_at (suc (suc (suc (suc (suc zero))))) = Prog
kind_at (suc (suc (suc (suc (suc (suc n)))))) = Ode

kind_at-rank : (k : Kind) → kind_at (kind_rank k) ≡ k
unfolding kind_at
kind_at-rank Func = refl
kind_at-rank UnitFunc = refl
kind_at-rank Pred = refl
kind_at-rank UnitPred = refl
kind_at-rank Quant = refl
kind_at-rank Prog = refl
kind_at-rank Ode = refl

same_kind : (j k : Kind) → (kind_rank j == kind_rank k) ≡ true → j ≡ k
same_kind j k h = sym (kind_at-rank j) ∙ ap kind_at (eqb-true (kind_rank j) (kind_rank k) h) ∙ kind_at-rank k

-- the variables on which a symbol with this taboo may depend
abbrev pub space_of : Option (List ℕ) → Space
space_of None = Everywhere
space_of (Some y) = Except y

taboo-space : (y : Option (List ℕ)) → taboo (space_of y) ≡ y
taboo-space None = refl
taboo-space (Some y) = refl

pub record SymParts (k : Kind) (s : Sym) : Type 0 where
  pub name : is_name s.name ≡ true
  pub kind : s.kind ≡ k
  pub arity : has_arity k s.arity ≡ true
  pub taboo_name : taboo_is_name s.taboo ≡ true
  pub taboo : (is_none s.taboo || (kind_row k).taboo) ≡ true

pub sym_parts : (k : Kind) (s : Sym) → is_sym_of k s ≡ true → SymParts k s
sym_parts k s h =
    let of = and_parts (kind_rank s.kind == kind_rank k) (is_sym s) h in
    let w = and_parts (is_name s.name && has_arity s.kind s.arity && taboo_is_name s.taboo) (is_none s.taboo || (kind_row s.kind).taboo) of.1 in
    let v = and_parts (is_name s.name && has_arity s.kind s.arity) (taboo_is_name s.taboo) w.0 in
    let u = and_parts (is_name s.name) (has_arity s.kind s.arity) v.0 in
    let k-is = same_kind s.kind k of.0 in
    record {
      name = u.0;
      kind = k-is;
      arity = sym (ap (λ (j : Kind). has_arity j s.arity) k-is) ∙ u.1;
      taboo_name = v.1;
      taboo = sym (ap (λ (j : Kind). is_none s.taboo || (kind_row j).taboo) k-is) ∙ w.1;
    }

no_taboo : (y : Option (List ℕ)) → (is_none y || false) ≡ true → y ≡ None
no_taboo None h = refl
no_taboo (Some y) h = absurd cc

-- a symbol with arguments
pub called : (k : Kind) (s : Sym) (n : ℕ) → is_sym_of k s ≡ true → (kind_row k).taboo ≡ false → n ≡ s.arity → symbol k s.name n Everywhere ≡ s
called k s n h untold e =
    let w = sym_parts k s h in
    let t : s.taboo ≡ None = no_taboo s.taboo (sym (ap (λ (b : Bool). is_none s.taboo || b) untold) ∙ w.taboo) in
    (λ i. record { kind = sym w.kind i; name = s.name; arity = e i; taboo = sym t i })

-- one without
pub unit_symbol : (k : Kind) (s : Sym) → is_sym_of k s ≡ true → ((n : ℕ) → has_arity k n ≡ (n == 0)) → symbol k s.name 0 (space_of s.taboo) ≡ s
unit_symbol k s h none =
    let w = sym_parts k s h in
    let n : s.arity ≡ 0 = eqb-true s.arity 0 (sym (none s.arity) ∙ w.arity) in
    (λ i. record { kind = sym w.kind i; name = s.name; arity = sym n i; taboo = taboo-space s.taboo i })

-- one without arguments or a taboo
pub bare_symbol : (k : Kind) (s : Sym) → is_sym_of k s ≡ true → ((n : ℕ) → has_arity k n ≡ (n == 0)) → (kind_row k).taboo ≡ false
    → symbol k s.name 0 Everywhere ≡ s
bare_symbol k s h none untold =
    let w = sym_parts k s h in
    called k s 0 h untold (sym (eqb-true s.arity 0 (sym (none s.arity) ∙ w.arity)))

-- a symbol has at most eight arguments
pub arity_most : (k : Kind) (s : Sym) → is_sym_of k s ≡ true → ((n : ℕ) → has_arity k n ≡ nat_le n 8) → s.arity ≤ 8
arity_most k s h some = leb-true s.arity 8 (sym (some s.arity) ∙ (sym_parts k s h).arity)
