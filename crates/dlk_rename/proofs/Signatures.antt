-- A test that some symbol of a tree passes, by the tree's signature.
use Rattle.std.proofs.Common.{◌≡◌, ◌∙◌, sym, ap, List, [], ◌∷◌, Bool, true, ⊎_elim}
use Rattle.std.specs.List.{list_any}
use Rattle.std.proofs.lemmas.Bool.{or_cases, or_left, or_right}
use Rattle.std.proofs.lemmas.Bool.Decides.{same_from_decides}
use Rattle.dlk_tree.specs.declared.op.Sym.{Sym}
use Rattle.dlk_tree.specs.declared.op.Op.{Op}
use Rattle.dlk_tree.specs.Tests.{sym_eq}
use Rattle.dlk_tree.specs.Trees.{Tree, node, Forest, no_kids, kid}
use Rattle.dlk_tree.specs.Occurs.{has, any_has, symbols_of, has_symbol, occurs}
use Rattle.dlk_tree.specs.Listed.{IsSignature}
use Rattle.dlk_tree.proofs.Same.{sym_eq_decides}

-- where one operator passes one test, it may pass another
mutual
  another_test : (p q : Op → Bool) → ((op : Op) → p op ≡ true → q op ≡ true) → (t : Tree) → has p t ≡ true → has q t ≡ true
  another_test p q h (node op kids) e = ⊎_elim (λ a. or_left _ _ (h op a)) (λ b. or_right _ _ (another_test_all p q h kids b)) (or_cases _ _ e)

  another_test_all : (p q : Op → Bool) → ((op : Op) → p op ≡ true → q op ≡ true) → (ts : Forest) → any_has p ts ≡ true → any_has q ts ≡ true
  another_test_all p q h no_kids e = e
  another_test_all p q h (kid t rest) e =
      ⊎_elim (λ a. or_left _ _ (another_test p q h t a)) (λ b. or_right _ _ (another_test_all p q h rest b)) (or_cases _ _ e)

module _ (test : Sym → Bool) where
  passes_of_one : (s : Sym) (ss : List Sym) → test s ≡ true → list_any (sym_eq s) ss ≡ true → list_any test ss ≡ true
  passes_of_one s [] h e = e
  passes_of_one s (r ∷ rs) h e =
      ⊎_elim (λ a. or_left _ _ (ap test (sym ((sym_eq_decides s r).0 a)) ∙ h)) (λ b. or_right _ _ (passes_of_one s rs h b)) (or_cases _ _ e)

  one_passes : (ss : List Sym) → list_any test ss ≡ true → (s : Sym) × (test s ≡ true) × (list_any (sym_eq s) ss ≡ true)
  one_passes [] e = cc
  one_passes (r ∷ rs) e =
      ⊎_elim (λ a. (r, a, or_left _ _ ((sym_eq_decides r r).1 (λ i. r)))) (λ b. let s = one_passes rs b in (s.0, s.1, or_right _ _ s.2)) (or_cases _ _ e)

  -- a symbol of the tree passes
  mutual
    one_occurs : (t : Tree) → has (λ op. list_any test (symbols_of op)) t ≡ true → (s : Sym) × (test s ≡ true) × (occurs s t ≡ true)
    one_occurs (node op kids) e = ⊎_elim
        (λ a. let s = one_passes (symbols_of op) a in (s.0, s.1, or_left _ _ s.2))
        (λ b. let s = one_occurs_in kids b in (s.0, s.1, or_right _ _ s.2))
        (or_cases _ _ e)

    one_occurs_in : (ts : Forest) → any_has (λ op. list_any test (symbols_of op)) ts ≡ true → (s : Sym) × (test s ≡ true) × (any_has (has_symbol s) ts ≡ true)
    one_occurs_in no_kids e = cc
    one_occurs_in (kid t rest) e = ⊎_elim
        (λ a. let s = one_occurs t a in (s.0, s.1, or_left _ _ s.2))
        (λ b. let s = one_occurs_in rest b in (s.0, s.1, or_right _ _ s.2))
        (or_cases _ _ e)

  pub some_symbol : (t : Tree) (ss : List Sym) → IsSignature t ss → list_any test ss ≡ has (λ op. list_any test (symbols_of op)) t
  some_symbol t ss is =
      same_from_decides _ _ (λ e. e, λ e. e) (
        λ e. let s = one_occurs t e in passes_of_one s.0 ss s.1 (is.members s.0 ∙ s.2),
        λ e. let s = one_passes ss e in
            another_test (has_symbol s.0) (λ op. list_any test (symbols_of op)) (λ op h. passes_of_one s.0 (symbols_of op) s.1 h) t
            (sym (is.members s.0) ∙ s.2),
      )
