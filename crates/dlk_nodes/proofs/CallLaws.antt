-- The operator of a unit symbol, by its word and its detail.
use Rattle.std.proofs.Common.{◌≡◌, ℕ, zero, suc, true, ◌&&◌, List, [], ◌∷◌, ◌++◌, length, Option, Some, None, codes, refl, sym, ap, subst, ◌∙◌}
use Rattle.std.specs.Prelude.{IsTrue}
use Rattle.std.proofs.lemmas.Bool.{and_from}
use Rattle.dlk_tree.specs.declared.op.Sym.{Sym}
use Rattle.dlk_tree.specs.declared.op.Kind.{Kind}
use Rattle.dlk_tree.specs.declared.op.Kind.TheVariants.{UnitFunc, UnitPred}
use Rattle.dlk_tree.specs.declared.op.Op.{Op}
use Rattle.dlk_tree.specs.declared.op.Op.TheVariants as op
use Rattle.dlk_tree.specs.Names.{is_name}
use Rattle.dlk_tree.specs.Table.{is_sym_of, taboo_is_name}
use Rattle.dlk_nodes.specs.Fields.{parts_of}
use Rattle.dlk_nodes.specs.Words.{Detail, NoDetail, Named, OfVariable, OfNumber, OfDot, OfUnit, OfItems, detail_text, call_of}
use Rattle.dlk_nodes.specs.Nodes.{TakesKids}
use Rattle.dlk_nodes.specs.Details.{SpellsUnit, IsCall}
use Rattle.dlk_nodes.proofs.OpsBack.{unit_in, symbol_parts}
use Rattle.dlk_nodes.proofs.OpsRead.{detail_fields, read_op, makers, found, op_back}

-- so many fields
fill : ℕ → List (List ℕ)
fill zero = []
fill (suc n) = [] ∷ fill n

fill_long : (n : ℕ) → length (fill n) ≡ n
unfolding fill
fill_long zero = refl
fill_long (suc n) = ap suc (fill_long n)

behind_space : (a b : List ℕ) → codes " " ++ a ≡ codes " " ++ b → a ≡ b
behind_space a b e = cc

one_field : (a b : List ℕ) → codes " " ++ a ≡ codes " " ++ b → a ∷ [] ≡ b ∷ []
one_field a b e = ap (λ l. l ∷ []) (behind_space a b e)

its_field : (x : Detail) (d : List ℕ) → detail_text x ≡ codes " " ++ d → detail_fields x ≡ d ∷ []
its_field NoDetail d e = let none : [] ≡ 32 ∷ d = e in absurd (cc none)
its_field (Named x) d e = one_field _ d e
its_field (OfVariable v) d e = one_field _ d e
its_field (OfNumber n) d e = one_field _ d e
its_field (OfDot n) d e = one_field _ d e
its_field (OfUnit x y) d e = one_field _ d e
its_field (OfItems items) d e = one_field _ d e

-- an operator with this word and detail is the one that is found
called_op : (w d : List ℕ) (n : ℕ) (o : Op) → IsCall w d n o → read_op w (d ∷ fill n) ≡ found (fill n) o
called_op w d n o is =
    let field = its_field (call_of o).1 d is.detail_is in
    let word = is.word_is in
    sym (λ i. read_op (word i) (field i ++ fill n)) ∙ op_back o (fill n) is.parts (subst (TakesKids o) (sym (fill_long n)) is.arity)

op_of : Op → Option (Op × List (List ℕ)) → Op
op_of o None = o
op_of o (Some x) = x.0

-- what is said of the operator is said of the one that is found
again : (w d : List ℕ) (n : ℕ) (o p : Op) → IsCall w d n o → read_op w (d ∷ fill n) ≡ found (fill n) p → IsCall w d n p
unfolding op_of
again w d n o p is e =
    let same : found (fill n) o ≡ found (fill n) p = sym (called_op w d n o is) ∙ e in
    subst (IsCall w d n) (ap (op_of o) same) is

-- ---- unit symbols

unit_named : (k : Kind) (s : Sym) → is_sym_of k s ≡ true → IsTrue (is_name s.name && taboo_is_name s.taboo)
unit_named k s h = let p = symbol_parts k s h in and_from (is_name s.name) (taboo_is_name s.taboo) p.name_is p.taboo_is

pub ufun_detail : (d : List ℕ) (n : ℕ) (o : Op) → IsCall (codes "ufun") d n o → (u : List ℕ × Option (List ℕ)) × SpellsUnit d u
unfolding read_op makers
ufun_detail d n o is =
    let u = unit_in (parts_of 124 d) in
    let s : Sym = record { kind = UnitFunc; name = u.0; arity = 0; taboo = u.1 } in
    let q = again (codes "ufun") d n o (op.UnitFun s) is refl in
    (u, record { real = unit_named UnitFunc s q.parts; text_is = sym (behind_space _ d q.detail_is) })

pub upred_detail : (d : List ℕ) (n : ℕ) (o : Op) → IsCall (codes "upred") d n o → (u : List ℕ × Option (List ℕ)) × SpellsUnit d u
unfolding read_op makers
upred_detail d n o is =
    let u = unit_in (parts_of 124 d) in
    let s : Sym = record { kind = UnitPred; name = u.0; arity = 0; taboo = u.1 } in
    let q = again (codes "upred") d n o (op.UnitPred s) is refl in
    (u, record { real = unit_named UnitPred s q.parts; text_is = sym (behind_space _ d q.detail_is) })

-- ---- what a word's detail must be

pub ufun_needed : (w d : List ℕ) (n : ℕ) → w ≡ codes "ufun" → ((u : List ℕ × Option (List ℕ)) → ¬ SpellsUnit d u) → (o : Op) → ¬ IsCall w d n o
ufun_needed w d n e none o is = let u = ufun_detail d n o (subst (λ x. IsCall x d n o) e is) in none u.0 u.1

pub upred_needed : (w d : List ℕ) (n : ℕ) → w ≡ codes "upred" → ((u : List ℕ × Option (List ℕ)) → ¬ SpellsUnit d u) → (o : Op) → ¬ IsCall w d n o
upred_needed w d n e none o is = let u = upred_detail d n o (subst (λ x. IsCall x d n o) e is) in none u.0 u.1
