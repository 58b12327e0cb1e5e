-- How a table of results goes on while a tree is walked.
use Rattle.std.proofs.Common.{◌≡◌, ℕ, suc, zero, ◌+◌, ◌*◌, ◌<◌, ◌≤◌, ◌⊎◌, inl, inr, Bool, true, false, cond, List, [], ◌∷◌, length, get_or, Option}
use Rattle.std.proofs.Common.{Some, None, is_some, Result, Ok, Err, refl, sym, ap, subst, ◌∙◌, arith, eqb-true, true≢false}
use Rattle.std.specs.Prelude.{IsTrue, IsSome, IfOk, OnOk, OnErr, Contains}
use Rattle.std.specs.Option.{ok_or}
use Rattle.std.proofs.lemmas.Option.{same_Some, none-some}
use Rattle.std.proofs.lemmas.Bool.{eq-eqb}
use Rattle.std.proofs.Math.Nat.{mul-le-mul_right}
use Rattle.std.proofs.lemmas.List.Elements.{Contains-append_right, Contains-append_left}
use Rattle.dlk_tree.specs.declared.op.Op.{Op}
use Rattle.dlk_tree.specs.Trees.{Tree, node, size}
use Rattle.dlk_store.specs.declared.Id.{Id}
use Rattle.dlk_store.specs.Stores.{IsId, tree, kid_trees, Keeps}
use Rattle.dlk_store.specs.Kids.{Keeps-trans}
use Rattle.dlk_store.proofs.Made.{Made, next_same}
use Rattle.dlk_subst.specs.Results.{IsResult}
use Rattle.dlk_subst.proofs.Results.{holds_tree}
use Rattle.dlk_subst.specs.Counts.{subtrees, subtrees_of}
use Rattle.dlk_subst.specs.Looked.{same_id}
use Rattle.dlk_subst.proofs.Looked.{root_within}
use Rattle.dlk_memo.specs.Tables.{Table, found, HasEachOnce, Puts, Opened, Unopened, IsRight, IsOpenAbove, OpensNone, Spends}

-- a new entry makes the table one longer
pub one_more : (n m : ℕ) (old o : Option (Option Id)) → n ≡ m + cond (is_some old) 0 1 → old ≡ o → o ≡ None → n ≡ m + 1
one_more n m old o len is none = len ∙ ap (λ (v : Option (Option Id)). m + cond (is_some v) 0 1) (is ∙ none)

pub same_is : (a b : Id) → same_id a b ≡ true → a ≡ b
same_is a b h i = record { 0 = eqb-true a.0 b.0 h i }

-- what the table has for an id after a change
at_put : (old new : Table) (id : Id) (r : Option Id) → Puts old new id r → (k : Id) (v : Option Id) → found new k ≡ Some v
    → ((id ≡ k) × (v ≡ r)) ⊎ (found old k ≡ Some v)
at_put old new id r put k v h = by (same_id id k) refl
  where
    by : (b : Bool) → same_id id k ≡ b → ((id ≡ k) × (v ≡ r)) ⊎ (found old k ≡ Some v)
    by true e =
        let p : Some v ≡ Some r = sym h ∙ put k ∙ ap (λ c. cond c (Some r) (found old k)) e in
        inl (same_is id k e, same_Some v r p)
    by false e = inr (sym (ap (λ c. cond c (Some r) (found old k)) e) ∙ sym (put k) ∙ h)

abbrev no_result : Option Id
no_result = None

-- ---- results

module _ (related : Tree → Tree → Type 0) where
  -- an answer that the table has is a result, since what has none is larger
  pub answered : {E : Type 0} (trees : List Tree) (table : Table) (id : Id) (known : Option Id) (e : E) → IsRight related trees table
      → IsOpenAbove trees (size (tree trees id)) table → found table id ≡ Some known → IfOk (ok_or known e) (IsResult (related (tree trees id)) trees)
  answered trees table id None e right above is = absurd (omega (arith, above.larger id is))
  answered trees table id (Some r) e right above is = record {
    result = tree trees r;
    is_related = right.result_related id r is;
    stands = record { known = right.result_known id r is; tree_is = refl };
  }

  pub answered_none : {X : Type 0} (trees : List Tree) (table : Table) (id : Id) (known : Option Id)
      → IsOpenAbove trees (size (tree trees id)) table → found table id ≡ Some known → (known ≡ no_result) → X
  answered_none trees table id known above is none = absurd (omega (arith, above.larger id (is ∙ ap Some none)))

  -- a tree that is begun has no result
  pub right_begun : (trees : List Tree) (old new : Table) (id : Id) → Puts old new id no_result → IsId trees id → IsRight related trees old →
      IsRight related trees new
  right_begun trees old new id put known h = record {
    known = λ k r e. known_by k r (at_put old new id no_result put k r e);
    result_known = λ k r e. h.result_known k r (result_by k r (at_put old new id no_result put k (Some r) e));
    result_related = λ k r e. h.result_related k r (result_by k r (at_put old new id no_result put k (Some r) e));
  }
    where
      known_by : (k : Id) (r : Option Id) → ((id ≡ k) × (r ≡ no_result)) ⊎ (found old k ≡ Some r) → IsId trees k
      known_by k r (inl e) = subst (IsId trees) e.0 known
      known_by k r (inr e) = h.known k r e

      result_by : (k r : Id) → ((id ≡ k) × (Some r ≡ no_result)) ⊎ (found old k ≡ Some (Some r)) → found old k ≡ Some (Some r)
      result_by k r (inl e) = absurd (none-some r (sym e.1))
      result_by k r (inr e) = e

  -- the store grows
  pub right_kept : {before now : List Tree} → Keeps before now → (table : Table) → IsRight related before table → IsRight related now table
  right_kept {before} {now} keeps table h = record {
    known = λ k r e. let known = h.known k r e in omega (arith, known, keeps.known);
    result_known = λ k r e. let known = h.result_known k r e in omega (arith, known, keeps.known);
    result_related = λ k r e.
        let key = keeps.same k (h.known k (Some r) e) in
        let result = keeps.same r (h.result_known k r e) in
        subst (λ X. X) (λ i. related (sym key i) (sym result i)) (h.result_related k r e);
  }

  -- and then has one
  pub right_finished : (trees : List Tree) (old new : Table) (id made : Id) → Puts old new id (Some made) → IsId trees id → IsId trees made
      → related (tree trees id) (tree trees made) → IsRight related trees old → IsRight related trees new
  right_finished trees old new id made put known is holds h = record {
    known = λ k r e. known_by k r (at_put old new id (Some made) put k r e);
    result_known = λ k r e. result_by k r (at_put old new id (Some made) put k (Some r) e);
    result_related = λ k r e. related_by k r (at_put old new id (Some made) put k (Some r) e);
  }
    where
      known_by : (k : Id) (r : Option Id) → ((id ≡ k) × (r ≡ Some made)) ⊎ (found old k ≡ Some r) → IsId trees k
      known_by k r (inl e) = subst (IsId trees) e.0 known
      known_by k r (inr e) = h.known k r e

      result_by : (k r : Id) → ((id ≡ k) × (Some r ≡ Some made)) ⊎ (found old k ≡ Some (Some r)) → IsId trees r
      result_by k r (inl e) = subst (IsId trees) (sym (same_Some r made e.1)) is
      result_by k r (inr e) = h.result_known k r e

      related_by : (k r : Id) → ((id ≡ k) × (Some r ≡ Some made)) ⊎ (found old k ≡ Some (Some r)) → related (tree trees k) (tree trees r)
      related_by k r (inl e) =
          let same = same_Some r made e.1 in
          subst (λ j. related (tree trees j) (tree trees r)) e.0 (subst (λ j. related (tree trees id) (tree trees j)) (sym same) holds)
      related_by k r (inr e) = h.result_related k r e

  pub right_concluded : {E : Type 0} (trees : List Tree) (old new : Table) (id : Id) (root : Tree) (result : Result Id E)
      → IfOk result (λ made. Puts old new id (Some made)) → IsId trees id → tree trees id ≡ root → IfOk result (IsResult (related root) trees)
      → IsRight related trees old → OnOk result (IsRight related trees new)
  right_concluded trees old new id root (Err e) put known is ok h = tt
  right_concluded trees old new id root (Ok made) put known is ok h =
      right_finished trees old new id made put known ok.stands.known (subst (λ t. related t (tree trees made)) (sym is) (holds_tree ok)) h

  -- an empty table is right
  pub right_empty : (trees : List Tree) (table : Table) → table ≡ [] → IsRight related trees table
  right_empty trees table is = record {
    known = λ k r e. absurd (none-some r (sym (ap (λ t. found t k) is) ∙ e));
    result_known = λ k r e. absurd (none-some (Some r) (sym (ap (λ t. found t k) is) ∙ e));
    result_related = λ k r e. absurd (none-some (Some r) (sym (ap (λ t. found t k) is) ∙ e));
  }

-- ---- trees without a result

pub above_empty : (trees : List Tree) (bound : ℕ) (table : Table) → table ≡ [] → IsOpenAbove trees bound table
above_empty trees bound table is = record { larger = λ k e. absurd (none-some no_result (sym (ap (λ t. found t k) is) ∙ e)) }

pub opens_itself : (table : Table) → OpensNone table table
opens_itself table = record { was = λ k e. e }

pub opens_then : {a b c : Table} → OpensNone a b → OpensNone b c → OpensNone a c
opens_then p q = record { was = λ k e. p.was k (q.was k e) }

-- a kid is smaller than what is being made: its node, and what was being made before
module _ (first now : List Tree) (old begun table : Table) (id : Id) (put : Puts old begun id no_result) (opens : OpensNone begun table)
    (keeps : Keeps first now) (id_known : IsId first id) (known : (k : Id) (r : Option Id) → found old k ≡ Some r → IsId first k) where
  pub kid_above : (bound : ℕ) → bound < size (tree first id) → IsOpenAbove first (size (tree first id)) old → IsOpenAbove now bound table
  kid_above bound less above = record { larger = λ k e. by k (at_put old begun id no_result put k no_result (opens.was k e)) }
    where
      by : (k : Id) → ((id ≡ k) × (no_result ≡ no_result)) ⊎ (found old k ≡ Some no_result) → bound < size (tree now k)
      by k (inl e) = subst (λ j. bound < size (tree now j)) e.0 (let same = ap size (keeps.same id id_known) in omega (arith, same, less))
      by k (inr e) =
          let same = ap size (keeps.same k (known k no_result e)) in
          let larger = above.larger k e in
          omega (arith, same, larger, less)

-- what has a result at the end isn't open
pub opens_whole : (old begun grown new : Table) (id made : Id) → Puts old begun id no_result → OpensNone begun grown → Puts grown new id (Some made) →
    OpensNone old new
opens_whole old begun grown new id made begin opens finish = record { was = λ k e. by k e (at_put grown new id (Some made) finish k no_result e) }
  where
    here : (k : Id) → id ≡ k → found new k ≡ Some (Some made)
    here k e = subst (λ j. found new j ≡ Some (Some made)) e (finish id ∙ ap (λ b. cond b (Some (Some made)) (found grown id)) (eq-eqb id.0 id.0 refl))

    before : (k : Id) → found new k ≡ Some no_result → ((id ≡ k) × (no_result ≡ no_result)) ⊎ (found old k ≡ Some no_result) → found old k ≡ Some no_result
    before k e (inl p) = let q : Some (Some made) ≡ Some no_result = sym (here k p.0) ∙ e in absurd (none-some made (sym (same_Some (Some made) no_result q)))
    before k e (inr p) = p

    by : (k : Id) → found new k ≡ Some no_result → ((id ≡ k) × (no_result ≡ Some made)) ⊎ (found grown k ≡ Some no_result) → found old k ≡ Some no_result
    by k e (inl p) = absurd (none-some made p.1)
    by k e (inr p) = before k e (at_put old begun id no_result begin k no_result (opens.was k p))

pub opens_concluded : {E : Type 0} (old begun grown new : Table) (id : Id) (result : Result Id E) → Puts old begun id no_result → OpensNone begun grown
    → IfOk result (λ made. Puts grown new id (Some made)) → OnOk result (OpensNone old new)
opens_concluded old begun grown new id (Err e) begin opens put = tt
opens_concluded old begun grown new id (Ok made) begin opens put = opens_whole old begun grown new id made begin opens put

-- ---- subtrees

row_within : (trees : List Tree) (ids : List Id) (k : ℕ) (d : Id) (t : Tree) → k < length ids → Contains (subtrees (tree trees (get_or ids k d))) t
    → Contains (subtrees_of (kid_trees trees ids)) t
row_within trees [] k d t h c = absurd (omega arith)
row_within trees (id ∷ ids) zero d t h c = Contains-append_left (subtrees (tree trees id)) (subtrees_of (kid_trees trees ids)) t c
row_within trees (id ∷ ids) (suc k) d t h c =
    Contains-append_right (subtrees (tree trees id)) (subtrees_of (kid_trees trees ids)) t (row_within trees ids k d t (omega arith) c)

-- what is within a kid is within the tree
pub kid_within : (trees : List Tree) (root kid_tree : Tree) (op : Op) (ids : List Id) (k : ℕ) (d : Id) → root ≡ node op (kid_trees trees ids) → k < length ids
    → kid_tree ≡ tree trees (get_or ids k d) → (t : Tree) → Contains (subtrees kid_tree) t → Contains (subtrees root) t
kid_within trees root kid_tree op ids k d is h same t c =
    subst (λ u. Contains (subtrees u) t) (sym is)
    (Contains-append_right (node op (kid_trees trees ids) ∷ []) (subtrees_of (kid_trees trees ids)) t
    (row_within trees ids k d t h (subst (λ u. Contains (subtrees u) t) same c)))

-- ---- what is spent

some_is : (o : Option (Option Id)) (r : Option Id) → o ≡ Some r → IsSome o
some_is None r e = absurd (none-some r e)
some_is (Some v) r e = refl

value_of : (o : Option (Option Id)) → IsSome o → (r : Option Id) × (o ≡ Some r)
value_of None h = absurd (true≢false (sym h))
value_of (Some r) h = (r, refl)

module _ (unique : Bool) (price : ℕ) (root : Tree) where
  pub spends_none : (trees : List Tree) (table : Table) (s : ℕ) → HasEachOnce table → Spends unique price root trees table table s s
  spends_none trees table s once = record { entry = λ k r e. inl (some_is (found table k) r e); once = once; cost = λ u. omega arith }

  pub spends_kept : {before now : List Tree} → Keeps before now → (old new : Table) (s0 s1 : ℕ) → Spends unique price root before old new s0 s1
      → Spends unique price root now old new s0 s1
  spends_kept {before} {now} keeps old new s0 s1 h = record { entry = λ k r e. by k (h.entry k r e); once = h.once; cost = h.cost }
    where
      by : (k : Id) → IsSome (found old k) ⊎ (IsId before k × Contains (subtrees root) (tree before k))
          → IsSome (found old k) ⊎ (IsId now k × Contains (subtrees root) (tree now k))
      by k (inl e) = inl e
      by k (inr e) =
          let known = e.0 in
          inr (omega (arith, known, keeps.known), subst (λ t. Contains (subtrees root) t) (sym (keeps.same k known)) e.1)

  -- one after the other, where the second walked a tree within
  pub spends_then : (trees : List Tree) (within : Tree) (a b c : Table) (s0 s1 s2 : ℕ) →
      ((t : Tree) → Contains (subtrees within) t → Contains (subtrees root) t)
      → Spends unique price root trees a b s0 s1 → Spends unique price within trees b c s1 s2 → Spends unique price root trees a c s0 s2
  spends_then trees within a b c s0 s1 s2 wider p q = record {
    entry = λ k r e. by k (q.entry k r e);
    once = q.once;
    cost = λ u. let x = p.cost u in let y = q.cost u in omega (arith, x, y);
  }
    where
      by : (k : Id) → IsSome (found b k) ⊎ (IsId trees k × Contains (subtrees within) (tree trees k))
          → IsSome (found a k) ⊎ (IsId trees k × Contains (subtrees root) (tree trees k))
      by k (inl e) = let v = value_of (found b k) e in p.entry k v.0 v.1
      by k (inr e) = inr (e.0, wider (tree trees k) e.1)

-- a node that was opened, and at which at most m more looks were taken
module _ (unique : Bool) (m : ℕ) (root : Tree) (trees : List Tree) (old begun : Table) (id : Id) (s0 s1 : ℕ) (known : IsId trees id)
    (root_is : tree trees id ≡ root) where
  entry_opened : Puts old begun id no_result → (k : Id) (r : Option Id) → found begun k ≡ Some r
      → IsSome (found old k) ⊎ (IsId trees k × Contains (subtrees root) (tree trees k))
  entry_opened put k r e = by (at_put old begun id no_result put k r e)
    where
      by : ((id ≡ k) × (r ≡ no_result)) ⊎ (found old k ≡ Some r) → IsSome (found old k) ⊎ (IsId trees k × Contains (subtrees root) (tree trees k))
      by (inl p) =
          inr (subst (λ j. IsId trees j × Contains (subtrees root) (tree trees j)) p.0
          (known, subst (λ t. Contains (subtrees root) t) (sym root_is) (root_within root)))
      by (inr p) = inl (some_is (found old k) r p)

  pub spends_opened : Opened old begun id s0 s1 → (new : Table) (s2 s3 : ℕ) → Spends unique (1 + m) root trees begun new s1 s2
      → (IsTrue unique → s3 ≤ s2 + m) → Spends unique (1 + m) root trees old new s0 s3
  spends_opened opened new s2 s3 h more = record {
    entry = λ k r e. by k (h.entry k r e);
    once = h.once;
    cost = λ u.
        let paid = h.cost u in
        let last = more u in
        let grown : length begun * (1 + m) ≡ (length old + 1) * (1 + m) = ap (λ n. n * (1 + m)) opened.long in
        omega (arith, paid, last, grown, opened.step);
  }
    where
      by : (k : Id) → IsSome (found begun k) ⊎ (IsId trees k × Contains (subtrees root) (tree trees k))
          → IsSome (found old k) ⊎ (IsId trees k × Contains (subtrees root) (tree trees k))
      by k (inl e) = let v = value_of (found begun k) e in entry_opened opened.put k v.0 v.1
      by k (inr e) = inr e

  -- where opening failed
  pub spends_failed : HasEachOnce begun → Opened old begun id s0 s1 ⊎ Unopened old begun s0 s1 → Spends unique (1 + m) root trees old begun s0 s1
  spends_failed once (inl opened) =
      spends_opened opened begun s1 s1 (spends_none unique (1 + m) root trees begun s1 once) (λ u. omega arith)
  spends_failed once (inr un) =
      subst (λ t. Spends unique (1 + m) root trees old t s0 s1) (sym un.same)
      (subst (λ s. Spends unique (1 + m) root trees old old s0 s) (sym un.no_step)
      (spends_none unique (1 + m) root trees old s0 (subst HasEachOnce un.same once)))

  -- the entry of the node gets its result
  pub spends_finished : {E : Type 0} (grown new : Table) (result : Result Id E) (s2 : ℕ) → IfOk result (λ made. Puts grown new id (Some made))
      → OnErr result (new ≡ grown) → length grown ≤ length new → HasEachOnce new → Spends unique (1 + m) root trees begun grown s1 s2
      → Spends unique (1 + m) root trees begun new s1 s2
  spends_finished grown new (Err e) s2 put same long once h = subst (λ t. Spends unique (1 + m) root trees begun t s1 s2) (sym same) h
  spends_finished grown new (Ok made) s2 put same long once h = record {
    entry = λ k r e. by k r (at_put grown new id (Some made) put k r e);
    once = once;
    cost = λ u. let paid = h.cost u in let up : length grown * (1 + m) ≤ length new * (1 + m) = mul-le-mul_right (1 + m) long in omega (arith, paid, up);
  }
    where
      by : (k : Id) (r : Option Id) → ((id ≡ k) × (r ≡ Some made)) ⊎ (found grown k ≡ Some r)
          → IsSome (found begun k) ⊎ (IsId trees k × Contains (subtrees root) (tree trees k))
      by k r (inl p) =
          inr (subst (λ j. IsId trees j × Contains (subtrees root) (tree trees j)) p.0
          (known, subst (λ t. Contains (subtrees root) t) (sym root_is) (root_within root)))
      by k r (inr p) = h.entry k r p

-- ---- a kid of a node

module _ {R : Tree → Tree → Type 0} {first ts : List Tree} {id : Id} {op : Op} {ks js : List Id} {n : ℕ} (m : Made R first ts id op ks js n)
    (unique : Bool) (looks : ℕ) (us : List Tree) (keeps : Keeps ts us) where
  abbrev next : Id
  next = get_or ks n (record { 0 = 0 })

  pub kid_spent : {begun done grown : Table} {s1 s2 s3 : ℕ} → n < length ks → Spends unique (1 + looks) (tree first id) ts begun done s1 s2
      → Spends unique (1 + looks) (tree ts next) us done grown s2 s3 → Spends unique (1 + looks) (tree first id) us begun grown s1 s3
  kid_spent {begun} {done} {grown} {s1} {s2} {s3} h before below =
      let d : Id = record { 0 = 0 } in
      let wider = kid_within first (tree first id) (tree ts next) op ks n d m.node_is h (next_same m d h) in
      spends_then unique (1 + looks) (tree first id) us (tree ts next) begun done grown s1 s2 s3 wider
      (spends_kept unique (1 + looks) (tree first id) keeps begun done s1 s2 before) below

  pub kid_failed : {old begun done grown : Table} {s0 s1 s2 s3 : ℕ} → IsId first id → n < length ks → Opened old begun id s0 s1
      → Spends unique (1 + looks) (tree first id) ts begun done s1 s2 → Spends unique (1 + looks) (tree ts next) us done grown s2 s3
      → Spends unique (1 + looks) (tree first id) us old grown s0 s3
  kid_failed {old} {begun} {done} {grown} {s0} {s1} {s2} {s3} known h opened before below =
      let all = Keeps-trans m.kept keeps in
      spends_opened unique looks (tree first id) us old begun id s0 s1 (omega (arith, all.known, known)) (all.same id known) opened grown s3 s3
      (kid_spent h before below) (λ u. omega arith)
