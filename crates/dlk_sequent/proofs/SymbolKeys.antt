-- A set that has its symbols in order has a symbol by the test on symbols.
use Rattle.std.proofs.Common.{◌≡◌, ◌∙◌, ◌||◌, List, [], ◌∷◌, true, cond, refl, sym, subst}
use Rattle.std.specs.List.{list_any}
use Rattle.std.specs.Ordering.{eq_by_cmp}
use Rattle.std.specs.declared.cmp.Ordering.{Ordering}
use Rattle.dlk_tree.specs.Tests.{sym_eq}
use Rattle.dlk_tree.specs.declared.op.Sym.{Sym}
use Rattle.dlk_tree.specs.contracts.op.SymOrd.TheImpl as SymOrd
use Rattle.dlk_tree.specs.contracts.op.SymOrd.TheImpl.Laws.{matches_eq-law}
use Rattle.dlk_tree.proofs.Same.{sym_eq_decides, sym_derived_decides}
use Rattle.dlk_tree.proofs.Listing.{sym_inserted, sym_cmp_derived, one_answer}

ties : (s t : Sym) → eq_by_cmp SymOrd.ghosts.cmp s t ≡ sym_eq s t
ties s t = sym (one_answer _ _ (sym_eq_decides s t) (sym_derived_decides s t) ∙ matches_eq-law s t)

pub keys_have : (keys : List Sym) (s : Sym) → list_any (eq_by_cmp SymOrd.ghosts.cmp s) keys ≡ list_any (sym_eq s) keys
keys_have [] s = refl
keys_have (k ∷ keys) s = λ i. ties s k i || keys_have keys s i

pub one_more : (old new : List Sym) (s : Sym)
    → ((q : Sym) → list_any (eq_by_cmp SymOrd.ghosts.cmp q) new
    ≡ cond (eq_by_cmp SymOrd.ghosts.cmp s q) true (list_any (eq_by_cmp SymOrd.ghosts.cmp q) old))
    → (t : Sym) → list_any (sym_eq t) new ≡ (list_any (sym_eq t) old || sym_eq t s)
one_more old new s has =
    sym_inserted old new s
    (subst (λ (cmp : Sym → Sym → Ordering). (q : Sym) → list_any (eq_by_cmp cmp q) new ≡ cond (eq_by_cmp cmp s q) true (list_any (eq_by_cmp cmp q) old))
    sym_cmp_derived has)
