-- What signatures stand for while their table grows, and what is made of them.
use Rattle.std.proofs.Common.{take, get_or, ◌≡◌, ℕ, zero, suc, ◌+◌, ◌<◌, ◌≤◌, ◌==◌, Bool, true, false, cond, ◌||◌, ◌&&◌, List, [], ◌∷◌, ◌++◌, length}
use Rattle.std.proofs.Common.{Some, slice_get, Result, Ok, Err, IfOk, refl, sym, ap, ◌∙◌, arith, length-append}
use Rattle.std.proofs.lemmas.Bool.{eq-eqb, ne_eqb}
use Rattle.std.proofs.lemmas.List.{append-nil, append_assoc, take_more}
use Rattle.std.proofs.lemmas.List.Folds.{list_any-append}
use Rattle.std.proofs.lemmas.Option.{none-some, same_Some}
use Rattle.std.specs.List.{list_any}
use Rattle.std.specs.Prelude.{All}
use Rattle.std.proofs.Math.Bool.{and-false, and-true, or-false}
use Rattle.indexmap.specs.IndexSet.{insert_key}
use Rattle.dlk_tree.specs.Occurs.{constants}
use Rattle.dlk_tree.specs.Tests.{sym_eq}
use Rattle.dlk_tree.specs.declared.op.OdeItem.{OdeItem}
use Rattle.dlk_tree.specs.declared.op.OdeItem.TheVariants.{Evolve, Const}
use Rattle.dlk_tree.specs.declared.op.Sym.{Sym}
use Rattle.dlk_vars.specs.Rows.{Row, has_number, ByNumber}
use Rattle.dlk_shared.specs.SetTables.{row_at}
use Rattle.dlk_shared.specs.RowTables.{IsEmptyAt, KeepsRows}
use Rattle.dlk_shared.specs.Signs.{SignTable, stands, sign_at, IsSign, Signs, KeepsSigns}

-- ---- symbols at the numbers that pass

pub stands_none : (test : ℕ → Bool) (n : ℕ) (xs : List Sym) (s : Sym) → ((m : ℕ) → n ≤ m → test m ≡ false) → stands test n xs s ≡ false
stands_none test n [] s h = refl
stands_none test n (x ∷ xs) s h =
    let here = h n (omega arith) in
    (λ i. (sym_eq s x && here i) || stands_none test (suc n) xs s (λ m l. h m (omega (arith, l))) i) ∙ ap (λ b. b || false) (and-false (sym_eq s x))

pub stands_append : (test : ℕ → Bool) (n : ℕ) (xs ys : List Sym) (s : Sym) →
    stands test n (xs ++ ys) s ≡ (stands test n xs s || stands test (n + length xs) ys s)
stands_append test n [] ys s = ap (λ k. stands test k ys s) (omega arith)
stands_append test n (x ∷ xs) ys s =
    let k : suc n + length xs ≡ n + suc (length xs) = omega arith in
    ap (λ b. (sym_eq s x && test n) || b) (stands_append test (suc n) xs ys s ∙ ap (λ j. stands test (suc n) xs s || stands test j ys s) k)
    ∙ assoc (sym_eq s x && test n) (stands test (suc n) xs s) (stands test (n + suc (length xs)) ys s)
  where
    assoc : (a b c : Bool) → (a || (b || c)) ≡ ((a || b) || c)
    assoc true b c = refl
    assoc false b c = refl

pub stands_or : (p q r : ℕ → Bool) (n : ℕ) (xs : List Sym) (s : Sym) → ((m : ℕ) → r m ≡ (p m || q m)) → stands r n xs s ≡ (stands p n xs s || stands q n xs s)
stands_or p q r n [] s h = refl
stands_or p q r n (x ∷ xs) s h =
    (λ i. (sym_eq s x && h n i) || stands_or p q r (suc n) xs s h i) ∙ mix (sym_eq s x) (p n) (q n) (stands p (suc n) xs s) (stands q (suc n) xs s)
  where
    mix : (e a b c d : Bool) → ((e && (a || b)) || (c || d)) ≡ (((e && a) || c) || ((e && b) || d))
    mix true true b c d = refl
    mix true false true true d = refl
    mix true false true false d = refl
    mix true false false c d = refl
    mix false a b c d = refl

pub stands_one : (xs : List Sym) (n k : ℕ) (x s : Sym) → slice_get xs k ≡ Some x → stands (λ m. m == n + k) n xs s ≡ sym_eq s x
stands_one [] n k x s e = absurd (none-some x e)
stands_one (y ∷ xs) n zero x s e =
    let here : (n == n + 0) ≡ true = eq-eqb n (n + 0) (omega arith) in
    let rest = stands_none (λ m. m == n + 0) (suc n) xs s (λ m l. ne_eqb m (n + 0) (λ q. omega (arith, l, q))) in
    (λ i. (sym_eq s y && here i) || rest i) ∙ or-false (sym_eq s y && true) ∙ and-true (sym_eq s y) ∙ ap (sym_eq s) (same_Some y x e)
stands_one (y ∷ xs) n (suc k) x s e =
    let here : (n == n + suc k) ≡ false = ne_eqb n (n + suc k) (λ q. omega (arith, q)) in
    let at : n + suc k ≡ suc n + k = omega arith in
    (λ i. (sym_eq s y && here i) || stands (λ m. m == at i) (suc n) xs s) ∙ ap (λ b. b || stands (λ m. m == suc n + k) (suc n) xs s) (and-false (sym_eq s y))
    ∙ stands_one xs (suc n) k x s e

pub stands_first : (xs : List Sym) (k : ℕ) (x s : Sym) → slice_get xs k ≡ Some x → stands (λ m. m == k) 0 xs s ≡ sym_eq s x
stands_first xs k x s e = let at : k ≡ 0 + k = omega arith in ap (λ j. stands (λ m. m == j) 0 xs s) at ∙ stands_one xs 0 k x s e

-- ---- a table that grows

more_of : (b : Bool) (xs : List Sym) (x : Sym) → (m : List Sym) × (cond b xs (xs ++ x ∷ []) ≡ xs ++ m)
more_of true xs x = ([], sym (append-nil xs))
more_of false xs x = (x ∷ [], refl)

pub inserted_keeps : (eq : Sym → Sym → Bool) (old : SignTable) (syms new : List Sym) (signs : List Row) (x : Sym) → syms ≡ old.syms → signs ≡ old.signs
    → new ≡ insert_key eq syms x → KeepsSigns old (record { syms = new; signs = signs })
inserted_keeps eq old syms new signs x same_syms same_signs is =
    let m = more_of (list_any (eq x) syms) syms x in
    record {
      more = m.0;
      syms = is ∙ m.1 ∙ ap (λ l. l ++ m.0) same_syms;
      signs = omega (arith, ap length same_signs);
      same = λ n h. ap (λ l. row_at l n) same_signs;
    }

pub keeps_refl : (t : SignTable) → KeepsSigns t t
keeps_refl t = record { more = []; syms = sym (append-nil t.syms); signs = omega arith; same = λ n h. refl }

pub keeps_trans : {a b c : SignTable} → KeepsSigns a b → KeepsSigns b c → KeepsSigns a c
keeps_trans {a} p q = record {
  more = p.more ++ q.more;
  syms = q.syms ∙ ap (λ l. l ++ q.more) p.syms ∙ append_assoc a.syms p.more q.more;
  signs = omega (arith, p.signs, q.signs);
  same = λ n h. q.same n (omega (arith, p.signs)) ∙ p.same n h;
}

-- symbols that came later aren't in an old set of numbers
pub stands_kept : (old more new : List Sym) (r : Row) (s : Sym) → new ≡ old ++ more → ((m : ℕ) → length old ≤ m → has_number r m ≡ false)
    → stands (has_number r) 0 new s ≡ stands (has_number r) 0 old s
stands_kept old more new r s is within =
    ap (λ l. stands (has_number r) 0 l s) is ∙ stands_append (has_number r) 0 old more s
    ∙ ap (λ b. stands (has_number r) 0 old s || b) (stands_none (has_number r) (0 + length old) more s (λ m l. within m (omega (arith, l))))
    ∙ or-false (stands (has_number r) 0 old s)

pub sign_kept : {old new : SignTable} {n : ℕ} → KeepsSigns old new → IsSign old n → IsSign new n
sign_kept {old} {new} {n} k h = record {
  known = omega (arith, k.signs, h.known);
  within = λ m l. ap (λ r. has_number r m) (k.same n h.known) ∙ h.within m (omega (arith, l, ap length k.syms, length-append old.syms k.more));
}

pub sign_at_kept : {old new : SignTable} {n : ℕ} → KeepsSigns old new → IsSign old n → (s : Sym) → sign_at new n s ≡ sign_at old n s
sign_at_kept {old} {new} {n} k h s =
    ap (λ r. stands (has_number r) 0 new.syms s) (k.same n h.known) ∙ stands_kept old.syms k.more new.syms (row_at old.signs n) s k.syms h.within

pub signs_kept : {old new : SignTable} {n : ℕ} {set : Sym → Bool} → KeepsSigns old new → Signs old n set → Signs new n set
signs_kept k m = record { is = sign_kept k m.is; members = λ s. sign_at_kept k m.is s ∙ m.members s }

-- a set of numbers that is kept
pub row_signs : {E : Type 0} (r : Result ℕ E) (new : SignTable) (syms : List Sym) (row : Row) (set : Sym → Bool)
    → IfOk r (λ n. n < length new.signs) → IfOk r (λ n. row_at new.signs n ≡ row) → new.syms ≡ syms
    → ((m : ℕ) → length syms ≤ m → has_number row m ≡ false) → ((s : Sym) → stands (has_number row) 0 syms s ≡ set s) → IfOk r (λ n. Signs new n set)
row_signs (Ok n) new syms row set known is same within members = record {
  is = record { known = known; within = λ m l. ap (λ q. has_number q m) is ∙ within m (omega (arith, l, ap length same)) };
  members = λ s. (λ i. stands (has_number (is i)) 0 (same i) s) ∙ members s;
}
row_signs (Err e) new syms row set known is same within members = tt

-- ---- rows of the table

pub rows_keep_signs : (old : SignTable) (syms : List Sym) (rows new : List Row) → syms ≡ old.syms → rows ≡ old.signs → KeepsRows rows new
    → KeepsSigns old (record { syms = syms; signs = new })
rows_keep_signs old syms rows new same_syms same_rows k = record {
  more = [];
  syms = same_syms ∙ sym (append-nil old.syms);
  signs = omega (arith, k.long, ap length same_rows);
  same = λ n h. k.same n (omega (arith, h, ap length same_rows)) ∙ ap (λ l. row_at l n) same_rows;
}

pub empty_signs : {E : Type 0} (r : Result ℕ E) (syms : List Sym) (rows : List Row) → IfOk r (IsEmptyAt rows)
    → IfOk r (λ n. Signs (record { syms = syms; signs = rows }) n (λ _. false))
empty_signs (Ok n) syms rows e = record {
  is = record { known = e.known; within = λ m l. e.numbers m };
  members = λ s. stands_none (has_number (row_at rows n)) 0 syms s (λ m l. e.numbers m);
}
empty_signs (Err x) syms rows e = tt

pub union_signs : {E : Type 0} (r : Result ℕ E) (old : SignTable) (a b : ℕ) (syms : List Sym) (rows new : List Row) → syms ≡ old.syms → rows ≡ old.signs
    → IsSign old a → IsSign old b → IfOk r (λ n. n < length new) → IfOk r (λ n. ByNumber ◌||◌ (row_at rows a) (row_at rows b) (row_at new n))
    → IfOk r (λ n. Signs (record { syms = syms; signs = new }) n (λ s. sign_at old a s || sign_at old b s))
union_signs (Ok n) old a b syms rows new same_syms same_rows first second known joined =
    let x = row_at old.signs a in
    let y = row_at old.signs b in
    let numbers : (m : ℕ) → has_number (row_at new n) m ≡ (has_number x m || has_number y m) =
    λ m. joined.numbers m ∙ (λ i. has_number (row_at (same_rows i) a) m || has_number (row_at (same_rows i) b) m) in
    let past : (m : ℕ) → length syms ≤ m → length old.syms ≤ m = λ m l. omega (arith, l, ap length same_syms) in
    record {
      is = record { known = known; within = λ m l. numbers m ∙ (λ i. first.within m (past m l) i || second.within m (past m l) i) };
      members = λ s. stands_or (has_number x) (has_number y) (has_number (row_at new n)) 0 syms s numbers
          ∙ (λ i. stands (has_number x) 0 (same_syms i) s || stands (has_number y) 0 (same_syms i) s);
    }
union_signs (Err z) old a b syms rows new same_syms same_rows first second known joined = tt

-- the symbols of kids come to those of what stands before them
pub signs_same : {t : SignTable} {n : ℕ} {s r : Sym → Bool} → ((x : Sym) → s x ≡ r x) → Signs t n s → Signs t n r
signs_same same m = record { is = m.is; members = λ x. m.members x ∙ same x }

pub in_kids_kept : {old new : SignTable} → KeepsSigns old new → (ks : List ℕ) → All (IsSign old) ks → (s : Sym)
    → list_any (λ k. sign_at new k s) ks ≡ list_any (λ k. sign_at old k s) ks
in_kids_kept k [] all s = refl
in_kids_kept k (n ∷ ns) all s =
    let first = sign_at_kept k (all 0 n (omega arith)) s in
    let rest = in_kids_kept k ns (λ i d h. all (suc i) d (omega arith)) s in
    λ i. first i || rest i

pub turned : (a b : Bool) → (a || b) ≡ (b || a)
turned true true = refl
turned true false = refl
turned false true = refl
turned false false = refl

pub grouped : (a b c : Bool) → ((a || b) || c) ≡ (a || (b || c))
grouped true b c = refl
grouped false b c = refl

-- ---- constants of items, one after another

constants_append : (xs ys : List OdeItem) → constants (xs ++ ys) ≡ constants xs ++ constants ys
constants_append [] ys = refl
constants_append (Evolve x ∷ xs) ys = constants_append xs ys
constants_append (Const x ∷ xs) ys = ap (λ l. x ∷ l) (constants_append xs ys)

pub constants_more : (xs : List OdeItem) (k : ℕ) (d : OdeItem) (s : Sym) → k < length xs
    → list_any (sym_eq s) (constants (take (k + 1) xs)) ≡ (list_any (sym_eq s) (constants (take k xs)) || list_any (sym_eq s) (constants (get_or xs k d ∷ [])))
constants_more xs k d s lt =
    ap (λ l. list_any (sym_eq s) (constants l)) (take_more xs k d lt) ∙ ap (list_any (sym_eq s)) (constants_append (take k xs) (get_or xs k d ∷ []))
    ∙ list_any-append (sym_eq s) (constants (take k xs)) (constants (get_or xs k d ∷ []))
