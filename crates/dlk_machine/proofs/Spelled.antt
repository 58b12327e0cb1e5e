-- What the open parts and what was read last spell, and what closing parts leaves.
use Rattle.std.proofs.Common.{◌≡◌, ℕ, ◌+◌, ◌<◌, ◌≤◌, ◌⊎◌, inl, inr, Bool, true, false, cond, ltb, List, [], ◌∷◌, ◌++◌, Option, Some, refl, sym, ap}
use Rattle.std.proofs.Common.{subst, ◌∙◌, append_assoc, arith}
use Rattle.std.proofs.lemmas.Bool.{ltb-true, ltb-false}
use Rattle.std.proofs.lemmas.List.{append-nil}
use Rattle.dlk_grammar.specs.declared.token.Infix.TheVariants.{Equiv, Imply, Or, And, Equal, NotEqual, AtLeast, Greater, AtMost, Less, Add, Sub, Mul}
use Rattle.dlk_grammar.specs.declared.token.Infix.TheVariants.{Div, Pow, Choice}
use Rattle.dlk_grammar.specs.Lexemes.{Word, Lexeme, Name, All, Exist, Invariant, RoundBar, BraceBar, Open, Close, OpenBox, CloseBox, OpenBrace, Bang}
use Rattle.dlk_grammar.specs.Lexemes.{Prime, Gets, Query, Semi, Comma, Op}
use Rattle.dlk_grammar.specs.Phrases.{Phrase, Variable, Box, Dia, Noted, Phrases, none, snoc, Item, Items, no_items, add}
use Rattle.dlk_grammar.specs.Grammar.{Nonterminal, formula, unf, term, neg, prog, stmt, Reads, formula-equiv, imp-imply, disj-or, conj-and, unf-not}
use Rattle.dlk_grammar.specs.Grammar.{unf-forall, unf-exists, unf-box, unf-dia, atom-compare, term-add, term-sub, mul-times, mul-over, neg-minus}
use Rattle.dlk_grammar.specs.Grammar.{pow-power, prog-choice, seq-then, stmt-group, cmp-equal, cmp-not_equal, cmp-at_least, cmp-greater, cmp-at_most}
use Rattle.dlk_grammar.specs.Grammar.{cmp-less, ReadsList, list-one, list-more, ReadsBrace, ReadsItems, items-one, items-more, ReadsItem, ReadsStar}
use Rattle.dlk_grammar.specs.Grammar.{star-none, ReadsInv, inv-none, inv-some, semi-none, semi-some}
use Rattle.dlk_tree.specs.declared.op.Sort.{Sort}
use Rattle.dlk_tree.specs.declared.op.Sort.TheVariants.{Term, Formula, Program}
use Rattle.dlk_machine.specs.Levels.{form_level, form_sort}
use Rattle.dlk_machine.specs.Machine.{◌>>=◌, Between, By, Next, Quantifier, ForAll, ForSome, InBox, InDia, Prefix, Minus, Bang', Bound, Modal, Holder}
use Rattle.dlk_machine.specs.Machine.{Round, Args, InContext, In, InBrace, Assigns, Tests, Evolves, Domain, Notes, Part, Left, Before, Inside, level}
use Rattle.dlk_machine.specs.Machine.{right_level, operand_sort, result_sort, binary, prefix_level, prefix_sort, unary, Tail, Done, Bare, Grouped}
use Rattle.dlk_machine.specs.Machine.{Braced, Starred, Annotated, Piece, Is, State, Wants, Has, Calls, Bars, BarsName, Binds, Starts, StartsPrime}
use Rattle.dlk_machine.specs.Machine.{StartsGets, StartsStar, Opens, OpensName, OpensPrime, WantsItem, ItemName, ItemPrime, ItemBar, ItemBarName}
use Rattle.dlk_machine.specs.Machine.{ItemEnds, Invariants, as_sort, tail_of, is_program, wanted, join, reduce, fits}
use Rattle.dlk_machine.proofs.Opening.{bind_some}
use Rattle.dlk_machine.proofs.Climb.{own_form, left_form, right_form, need, stands}
use Rattle.dlk_machine.proofs.OpenParts.{Loose}

abbrev pub prefix_form : Prefix → Nonterminal
prefix_form Minus = neg
prefix_form _ = unf

abbrev pub mark : Between → List Lexeme
mark (By o) = Op o ∷ []
mark Next = []

pub binary_reads : (o : Between) (s r : List Lexeme) (a b : Phrase) → Reads (left_form o) s a → Reads (right_form o) r b
    → Reads (own_form o) (s ++ (mark o ++ r)) (binary o a b)
binary_reads (By Equiv) s r a b d e = formula-equiv d e
binary_reads (By Imply) s r a b d e = imp-imply d e
binary_reads (By Or) s r a b d e = disj-or d e
binary_reads (By And) s r a b d e = conj-and d e
binary_reads (By Equal) s r a b d e = atom-compare cmp-equal d e
binary_reads (By NotEqual) s r a b d e = atom-compare cmp-not_equal d e
binary_reads (By AtLeast) s r a b d e = atom-compare cmp-at_least d e
binary_reads (By Greater) s r a b d e = atom-compare cmp-greater d e
binary_reads (By AtMost) s r a b d e = atom-compare cmp-at_most d e
binary_reads (By Less) s r a b d e = atom-compare cmp-less d e
binary_reads (By Add) s r a b d e = term-add d e
binary_reads (By Sub) s r a b d e = term-sub d e
binary_reads (By Mul) s r a b d e = mul-times d e
binary_reads (By Div) s r a b d e = mul-over d e
binary_reads (By Pow) s r a b d e = pow-power d e
binary_reads (By Choice) s r a b d e = prog-choice d e
binary_reads Next s r a b d e = seq-then d e

-- The tokens of a prefix.
pub data PrefixText : Prefix → List Lexeme → Type 0 where
  minus-text : PrefixText Minus (Op Sub ∷ [])
  bang-text : PrefixText Bang' (Bang ∷ [])
  forall-text : {n : ℕ} {x : Word} → PrefixText (Bound ForAll x) (All ∷ Name n x ∷ [])
  exists-text : {n : ℕ} {x : Word} → PrefixText (Bound ForSome x) (Exist ∷ Name n x ∷ [])
  boxed-text : {s : List Lexeme} {p : Phrase} → Reads prog s p → PrefixText (Modal InBox p) (OpenBox ∷ (s ++ CloseBox ∷ []))
  dia-text : {s : List Lexeme} {p : Phrase} → Reads prog s p → PrefixText (Modal InDia p) (Op Less ∷ (s ++ Op Greater ∷ []))

pub unary_reads : {o : Prefix} {k : List Lexeme} → PrefixText o k → (s : List Lexeme) (a : Phrase) → Reads (prefix_form o) s a
    → Reads (prefix_form o) (k ++ s) (unary o a)
unary_reads minus-text s a d = neg-minus d
unary_reads bang-text s a d = unf-not d
unary_reads forall-text s a d = unf-forall d
unary_reads exists-text s a d = unf-exists d
unary_reads (boxed-text {s = q} {p = p} e) s a d =
    subst (λ (l : List Lexeme). Reads unf (OpenBox ∷ l) (Box p a)) (sym (append_assoc q (CloseBox ∷ []) s)) (unf-box e d)
unary_reads (dia-text {s = q} {p = p} e) s a d =
    subst (λ (l : List Lexeme). Reads unf (Op Less ∷ l) (Dia p a)) (sym (append_assoc q (Op Greater ∷ []) s)) (unf-dia e d)

pub record Prefix_table (o : Prefix) : Type 0 where
  pub sort : form_sort (prefix_form o) ≡ prefix_sort o
  pub own : form_level (prefix_form o) ≡ prefix_level o
  pub operand : need (prefix_form o) ≤ prefix_level o
  pub above : 1 ≤ prefix_level o
  pub low : prefix_level o ≤ 9

pub prefix_table : (o : Prefix) → Prefix_table o
prefix_table Minus = record { sort = refl; own = refl; operand = omega arith; above = omega arith; low = omega arith }
prefix_table Bang' = record { sort = refl; own = refl; operand = omega arith; above = omega arith; low = omega arith }
prefix_table (Bound q x) = record { sort = refl; own = refl; operand = omega arith; above = omega arith; low = omega arith }
prefix_table (Modal m p) = record { sort = refl; own = refl; operand = omega arith; above = omega arith; low = omega arith }

-- What the tables say of each operator.
pub record Table (o : Between) : Type 0 where
  pub left_sort : form_sort (left_form o) ≡ operand_sort o
  pub right_sort : form_sort (right_form o) ≡ operand_sort o
  pub own_sort : form_sort (own_form o) ≡ result_sort o
  pub own : form_level (own_form o) ≡ level o
  pub right_own : form_level (right_form o) ≡ right_level o
  pub right : need (right_form o) ≤ right_level o
  pub tight : right_level o ≤ level o + 1
  pub above : 1 ≤ level o
  pub low : right_level o ≤ 9
  pub level_low : level o ≤ 10
  pub left : (need (left_form o) ≤ level o) ⊎ ((need (left_form o) ≤ level o + 1) × (level o ≤ 5)) ⊎ ((need (left_form o) ≤ 11) × (9 ≤ level o))
  pub assoc : (right_level o ≤ level o) ⊎ (6 ≤ level o)

left_need : (o : Between) → (need (left_form o) ≤ level o) ⊎ ((need (left_form o) ≤ level o + 1) × (level o ≤ 5)) ⊎ ((need (left_form o) ≤ 11) × (9 ≤ level o))
left_need (By Equiv) = inr (inl (omega arith, omega arith))
left_need (By Imply) = inr (inl (omega arith, omega arith))
left_need (By Or) = inr (inl (omega arith, omega arith))
left_need (By And) = inr (inl (omega arith, omega arith))
left_need (By Choice) = inr (inl (omega arith, omega arith))
left_need Next = inr (inl (omega arith, omega arith))
left_need (By Pow) = inr (inr (omega arith, omega arith))
left_need _ = inl (omega arith)

associates : (o : Between) → (right_level o ≤ level o) ⊎ (6 ≤ level o)
associates (By Equiv) = inl (omega arith)
associates (By Imply) = inl (omega arith)
associates (By Or) = inl (omega arith)
associates (By And) = inl (omega arith)
associates (By Pow) = inl (omega arith)
associates (By Choice) = inl (omega arith)
associates Next = inl (omega arith)
associates _ = inr (omega arith)

table_of : (o : Between) → ((need (left_form o) ≤ level o) ⊎ ((need (left_form o) ≤ level o + 1) × (level o ≤ 5)) ⊎ ((need (left_form o) ≤ 11) × (9 ≤ level o)))
    → (right_level o ≤ level o) ⊎ (6 ≤ level o) → Table o
table_of (By Equiv) l a = record {
  left_sort = refl;
  right_sort = refl;
  own_sort = refl;
  own = refl;
  right_own = refl;
  right = omega arith;
  tight = omega arith;
  above = omega arith;
  low = omega arith;
  level_low = omega arith;
  left = l;
  assoc = a;
}
table_of _ l a = record {
  left_sort = refl;
  right_sort = refl;
  own_sort = refl;
  own = refl;
  right_own = refl;
  right = omega arith;
  tight = omega arith;
  above = omega arith;
  low = omega arith;
  level_low = omega arith;
  left = l;
  assoc = a;
}

pub table : (o : Between) → Table o
table o = table_of o (left_need o) (associates o)

-- What stands before the next of a list, and of items.
pub data ListBefore (f : Nonterminal) : Phrases → List Lexeme → Type 0 where
  list-begins : ListBefore f none []
  list-goes_on : {s : List Lexeme} {l : Phrases} → ReadsList f s l → ListBefore f l (s ++ Comma ∷ [])

pub list_joined : {f : Nonterminal} {l : Phrases} {k : List Lexeme} → ListBefore f l k → (r : List Lexeme) (t : Phrase) → Reads f r t
    → ReadsList f (k ++ r) (snoc l t)
list_joined list-begins r t d = list-one d
list_joined {f = f} {l = l} (list-goes_on {s = s} m) r t d =
    subst (λ (z : List Lexeme). ReadsList f z (snoc l t)) (sym (append_assoc s (Comma ∷ []) r)) (list-more m d)

pub data ItemsBefore : Items → List Lexeme → Type 0 where
  items-begin : ItemsBefore no_items []
  items-go_on : {s : List Lexeme} {l : Items} → ReadsItems s l → ItemsBefore l (s ++ Comma ∷ [])

pub items_joined : {l : Items} {k : List Lexeme} → ItemsBefore l k → {r : List Lexeme} {i : Item} → ReadsItem r i → ReadsItems (k ++ r) (add l i)
items_joined items-begin d = items-one d
items_joined {l = l} (items-go_on {s = s} m) {r} {i} d =
    subst (λ (z : List Lexeme). ReadsItems z (add l i)) (sym (append_assoc s (Comma ∷ []) r)) (items-more m d)

-- A brace after which an invariant may stand, and a group after which a semicolon may stand.
pub data Noting : List Lexeme → Phrase → Type 0 where
  noting : {s q : List Lexeme} {a b : Phrase} → ReadsBrace s a → ReadsStar q a b → Noting (s ++ q) b

pub data Ending : List Lexeme → Phrase → Type 0 where
  ending : {s q i : List Lexeme} {a b c : Phrase} → ReadsBrace s a → ReadsStar q a b → ReadsInv i b c → Ending (s ++ (q ++ i)) c

pub note_brace : {s : List Lexeme} {a : Phrase} → ReadsBrace s a → Noting s a
note_brace {s} {a} d = subst (λ (z : List Lexeme). Noting z a) (append-nil s) (noting d star-none)

pub end_note : {r : List Lexeme} {b : Phrase} → Noting r b → Ending r b
end_note (noting {s = s} {q = q} {b = b} d st) =
    subst (λ (z : List Lexeme). Ending z b) (ap (λ (z : List Lexeme). s ++ z) (append-nil q)) (ending d st inv-none)

pub end_stmt : {r : List Lexeme} {c : Phrase} → Ending r c → Reads stmt r c
end_stmt (ending {s = s} {q = q} {i = i} {c = c} d st inv) =
    subst (λ (z : List Lexeme). Reads stmt z c) (ap (λ (z : List Lexeme). s ++ (q ++ z)) (append-nil i)) (stmt-group d st inv semi-none)

pub end_semi : {r : List Lexeme} {c : Phrase} → Ending r c → Reads stmt (r ++ Semi ∷ []) c
end_semi (ending {s = s} {q = q} {i = i} {c = c} d st inv) =
    subst (λ (z : List Lexeme). Reads stmt z c) (sym (three_parts s q i (Semi ∷ []))) (stmt-group d st inv semi-some)
  where
    three_parts : (s q i e : List Lexeme) → (s ++ (q ++ i)) ++ e ≡ s ++ (q ++ (i ++ e))
    three_parts s q i e = simp append_assoc

invariants_text : (s q k r : List Lexeme) → s ++ (q ++ Invariant ∷ Open ∷ ((k ++ r) ++ Close ∷ [])) ≡ ((s ++ q) ++ Invariant ∷ Open ∷ k) ++ (r ++ Close ∷ [])
invariants_text s q k r = sym (simp append_assoc)

-- the last formula of an invariant
pub end_invariants : {i k : List Lexeme} {b : Phrase} {l : Phrases} → Noting i b → ListBefore formula l k → (r : List Lexeme) (t : Phrase)
    → Reads formula r t → Ending ((i ++ Invariant ∷ Open ∷ k) ++ (r ++ Close ∷ [])) (Noted b (snoc l t))
end_invariants {k = k} {b = b} {l = l} (noting {s = s} {q = q} d st) begun r t e =
    subst (λ (z : List Lexeme). Ending z (Noted b (snoc l t))) (invariants_text s q k r) (ending d st (inv-some (list_joined begun r t e)))

-- The tokens before what a holder holds, where the holder may stand.
pub data HolderText (g : Sort) : Holder → List Part → List Lexeme → Type 0 where
  round-text : {S : List Part} {b : Bool} → b ≡ fits g Formula S → fits g Term S ≡ true → HolderText g (Round b) S (Open ∷ [])
  args-text : {S : List Part} {n : ℕ} {x : Word} {l : Phrases} {k : List Lexeme} → ListBefore term l k → fits g Term S ≡ true
      → HolderText g (Args n x l) S (Name n x ∷ Open ∷ k)
  context-text : {S : List Part} {n m : ℕ} {x : Word} → fits g Formula S ≡ true → HolderText g (InContext x) S (Name n x ∷ OpenBrace m ∷ [])
  box-text : {S : List Part} → fits g Formula S ≡ true → HolderText g (In InBox) S (OpenBox ∷ [])
  in_dia-text : {S : List Part} → fits g Formula S ≡ true → HolderText g (In InDia) S (Op Less ∷ [])
  brace-text : {S : List Part} {n : ℕ} → fits g Program S ≡ true → HolderText g InBrace S (OpenBrace n ∷ [])
  assigns-text : {S : List Part} {n : ℕ} {x : Word} → fits g Program S ≡ true → HolderText g (Assigns x false) S (Name n x ∷ Gets ∷ [])
  assigns_prime-text : {S : List Part} {n : ℕ} {x : Word} → fits g Program S ≡ true → HolderText g (Assigns x true) S (Name n x ∷ Prime ∷ Gets ∷ [])
  tests-text : {S : List Part} → fits g Program S ≡ true → HolderText g Tests S (Query ∷ [])
  evolves-text : {S : List Part} {n : ℕ} {l : Items} {x : Word} {k : List Lexeme} (m : ℕ) → ItemsBefore l k → fits g Program S ≡ true
      → HolderText g (Evolves n l x) S (OpenBrace n ∷ (k ++ Name m x ∷ Prime ∷ Op Equal ∷ []))
  domain-text : {S : List Part} {n : ℕ} {l : Items} {s : List Lexeme} → ReadsItems s l → fits g Program S ≡ true
      → HolderText g (Domain n l) S (OpenBrace n ∷ (s ++ Op And ∷ []))
  notes-text : {S : List Part} {b : Phrase} {l : Phrases} {r k : List Lexeme} → Noting r b → ListBefore formula l k → fits g Program S ≡ true
      → HolderText g (Notes b l) S (r ++ Invariant ∷ Open ∷ k)

-- The parts spell the tokens, each where it may stand.
pub data Spells (g : Sort) : List Part → List Lexeme → Type 0 where
  nothing : Spells g [] []
  left : {S : List Part} {s r : List Lexeme} {o : Between} {a : Phrase} → Spells g S s → Reads (left_form o) r a → Loose (level o) S
      → fits g (result_sort o) S ≡ true → Spells g (Left o a ∷ S) (s ++ (r ++ mark o))
  before : {S : List Part} {s k : List Lexeme} {o : Prefix} → Spells g S s → PrefixText o k → Loose (prefix_level o) S → fits g (prefix_sort o) S ≡ true
      → Spells g (Before o ∷ S) (s ++ k)
  inside : {S : List Part} {s k : List Lexeme} {h : Holder} → Spells g S s → HolderText g h S k → Spells g (Inside h ∷ S) (s ++ k)

-- At a level, the tokens are a text of each nonterminal for which the piece has a tree.
abbrev pub Known : ℕ → Piece → List Lexeme → Type 0
Known n p s = (m : Nonterminal) (t : Phrase) → need m ≤ n → as_sort (form_sort m) p ≡ Some t → Reads m s t

pub tree_of : (s r : Sort) (t u : Phrase) (l : Tail) → as_sort r (Is s t l) ≡ Some u → (s ≡ r) × (t ≡ u)
tree_of Term Term t u l e = (refl, cc)
tree_of Formula Formula t u l e = (refl, cc)
tree_of Program Program t u l e = (refl, cc)
tree_of Term Formula t u l e = absurd cc
tree_of Term Program t u l e = absurd cc
tree_of Formula Term t u l e = absurd cc
tree_of Formula Program t u l e = absurd cc
tree_of Program Term t u l e = absurd cc
tree_of Program Formula t u l e = absurd cc

is_sort : (s : Sort) (t : Phrase) (l : Tail) → as_sort s (Is s t l) ≡ Some t
is_sort Term t l = refl
is_sort Formula t l = refl
is_sort Program t l = refl

pub known_tree : (n : Nonterminal) (k : ℕ) (r : Sort) (s : List Lexeme) (t : Phrase) (l : Tail) → form_sort n ≡ r → Reads n s t → k ≡ form_level n
    → Known k (Is r t l) s
known_tree n k r s t l e d h m u need_m a =
    let w = tree_of r (form_sort m) t u l a in
    subst (λ (x : Phrase). Reads m s x) w.1 (stands n m s t (omega arith) (e ∙ w.0) d)

-- The piece has a tree of a sort that can stand there.
abbrev pub Good : Sort → List Part → Piece → Type 0
Good g S p = (r : Sort) × (t : Phrase) × (as_sort r p ≡ Some t) × (fits g r S ≡ true)

abbrev pub part_level : Part → ℕ
part_level (Left o a) = level o
part_level (Before o) = prefix_level o
part_level (Inside h) = 0

-- a part with its operand
join_known : (g : Sort) (k : ℕ) (e : Part) (S : List Part) (s r : List Lexeme) (p q : Piece) → Spells g (e ∷ S) s → wanted e ≤ k → Known k p r
    → join e p ≡ Some q
    → (s' r' : List Lexeme) × Spells g S s' × Known (part_level e) q r' × Loose (part_level e) S × (1 ≤ part_level e) × (s ++ r ≡ s' ++ r') × Good g S q
join_known g k (Left o a) S s r p q (left {s = s'} {r = l} sp d loose f) w known j =
    let t = table o in
    let b = bind_some (as_sort (operand_sort o) p) (λ b. Some (Is (result_sort o) (binary o a b) Done)) q j in
    let operand = known (right_form o) b.0 (omega (arith, t.right)) (subst (λ (k : Sort). as_sort k p ≡ Some b.0) (sym t.right_sort) b.1) in
    let q-is : Is (result_sort o) (binary o a b.0) Done ≡ q = cc in (
      s',
      l ++ (mark o ++ r),
      sp,
      subst (λ (x : Piece). Known (level o) x (l ++ (mark o ++ r))) q-is
          (known_tree (own_form o) (level o) (result_sort o) _ _ Done t.own_sort (binary_reads o l r a b.0 d operand) (sym t.own)),
      loose,
      t.above,
      simp append_assoc,
      subst (λ (x : Piece). Good g S x) q-is (result_sort o, binary o a b.0, is_sort (result_sort o) _ Done, f),
    )
join_known g k (Before o) S s r p q (before {s = s'} {k = c} sp text loose f) w known j =
    let t = prefix_table o in
    let b = bind_some (as_sort (prefix_sort o) p) (λ b. Some (Is (prefix_sort o) (unary o b) Done)) q j in
    let operand = known (prefix_form o) b.0 (omega (arith, t.operand)) (subst (λ (k : Sort). as_sort k p ≡ Some b.0) (sym t.sort) b.1) in
    let q-is : Is (prefix_sort o) (unary o b.0) Done ≡ q = cc in (
      s',
      c ++ r,
      sp,
      subst (λ (x : Piece). Known (prefix_level o) x (c ++ r)) q-is
          (known_tree (prefix_form o) (prefix_level o) (prefix_sort o) _ _ Done t.sort (unary_reads text r b.0 operand) (sym t.own)),
      loose,
      t.above,
      append_assoc s' c r,
      subst (λ (x : Piece). Good g S x) q-is (prefix_sort o, unary o b.0, is_sort (prefix_sort o) _ Done, f),
    )
join_known g k (Inside h) S s r p q sp w known j = absurd cc

-- After parts were closed: what is left open, and what the piece is.
pub record Reduced (g : Sort) (n : ℕ) (S : List Part) (q : Piece) (all : List Lexeme) : Type 0 where
  pub front : List Lexeme
  pub back : List Lexeme
  pub height : ℕ
  pub spells : Spells g S front
  pub known : Known height q back
  pub loose : Loose n S
  pub some : 1 ≤ height
  pub good : Good g S q
  pub left : (o : Between) → n ≡ level o → need (left_form o) ≤ height
  pub parts : all ≡ front ++ back

-- a part that is closed before an operator is one of its left operands
left_of : (o : Between) (e : Part) → level o < wanted e → need (left_form o) ≤ part_level e
left_of o (Left x a) h =
    let t = table o in
    let u = table x in
    elim t.left [
      | inl l ↦ omega (arith, u.tight)
      | inr (inl l) ↦ elim u.assoc [ inl a ↦ omega (arith, l.0) | inr a ↦ omega (arith, l.0, l.1) ]
      | inr (inr l) ↦ absurd (omega (arith, l.1, u.low))
    ]
left_of o (Before x) h =
    let t = table o in
    let u = prefix_table x in
    elim t.left [ inl l ↦ omega arith | inr (inl l) ↦ omega (arith, l.0) | inr (inr l) ↦ absurd (omega (arith, l.1, u.low)) ]
left_of o (Inside b) h = absurd (omega arith)

pub left_of_top : (o : Between) → need (left_form o) ≤ 11
left_of_top o =
    let t = table o in
    elim t.left [ inl l ↦ omega (arith, l, t.level_low) | inr (inl l) ↦ omega (arith, l.0, l.1) | inr (inr l) ↦ omega (arith, l.0) ]

-- the test of reduce
pub chosen : {A : Type 0} (b : Bool) (x y z : A) → cond b x y ≡ z → ((b ≡ true) × (x ≡ z)) ⊎ ((b ≡ false) × (y ≡ z))
chosen true x y z e = inl (refl, e)
chosen false x y z e = inr (refl, e)

pub some_eq : {A : Type 0} (x y : A) → Some x ≡ Some y → x ≡ y
some_eq x y e = cc

abbrev pub pair : {A B : Type 0} → A → B → Option (A × B)
pair a b = Some (a, b)

pub pair_is : {A B : Type 0} (a c : A) (b d : B) → pair a b ≡ pair c d → (a ≡ c) × (b ≡ d)
pair_is a c b d e = let w = some_eq (a, b) (c, d) e in (ap (λ p. p.0) w, ap (λ p. p.1) w)

pub reduced : (g : Sort) (n k : ℕ) (S : List Part) (s r : List Lexeme) (p : Piece) (T : List Part) (q : Piece) → Spells g S s → Known k p r → Loose k S
    → 1 ≤ k → ((o : Between) → n ≡ level o → need (left_form o) ≤ k) → Good g S p
    → reduce n S p ≡ Some (T, q) → Reduced g n T q (s ++ r)
reduced g n k [] s r p T q sp known loose some lefts good e =
    let w = pair_is [] T p q e in
    record {
      front = s;
      back = r;
      height = k;
      spells = subst (λ (x : List Part). Spells g x s) w.0 sp;
      known = subst (λ (x : Piece). Known k x r) w.1 known;
      loose = subst (λ (x : List Part). Loose n x) w.0 tt;
      some = some;
      left = lefts;
      good = subst (λ (x : List Part). Good g x q) w.0 (subst (λ (x : Piece). Good g [] x) w.1 good);
      parts = refl;
    }
reduced g n k (x ∷ S) s r p T q sp known loose some lefts good e =
    elim (chosen (ltb n (wanted x)) (join x p >>= λ v. reduce n S v) (Some (x ∷ S, p)) (Some (T, q)) e) [
      | inl h ↦
          let b = bind_some (join x p) (λ v. reduce n S v) (T, q) h.1 in
          let more = ltb-true _ _ h.0 in
          let j = join_known g k x S s r p b.0 sp loose known b.1 in
          let again = reduced g n (part_level x) S j.0 j.1 b.0 T q j.2 j.3 j.4 j.5 (λ o e. left_of o x (subst (λ (m : ℕ). m < wanted x) e more)) j.7 b.2 in
          subst (λ (l : List Lexeme). Reduced g n T q l) (sym j.6) again
      | inr h ↦
          let w = pair_is (x ∷ S) T p q h.1 in
          record {
            front = s;
            back = r;
            height = k;
            spells = subst (λ (y : List Part). Spells g y s) w.0 sp;
            known = subst (λ (y : Piece). Known k y r) w.1 known;
            loose = subst (λ (y : List Part). Loose n y) w.0 (ltb-false _ _ h.0);
            some = some;
            left = lefts;
            good = subst (λ (y : List Part). Good g y q) w.0 (subst (λ (y : Piece). Good g (x ∷ S) y) w.1 good);
            parts = refl;
          }
    ]

pub loose_nine : (S : List Part) → Loose 9 S
loose_nine [] = tt
loose_nine (Left o a ∷ S) = let t = table o in t.low
loose_nine (Before o ∷ S) = let t = prefix_table o in t.low
loose_nine (Inside h ∷ S) = omega arith

pub loose_top : (S : List Part) → Loose 11 S
loose_top [] = tt
loose_top (Left o a ∷ S) = let t = table o in omega (arith, t.low)
loose_top (Before o ∷ S) = let t = prefix_table o in omega (arith, t.low)
loose_top (Inside h ∷ S) = omega arith

pub loose_formula : (g : Sort) (S : List Part) → fits g Formula S ≡ true → Loose 5 S
loose_formula g [] f = tt
loose_formula g (Left (By Equiv) a ∷ S) f = omega arith
loose_formula g (Left (By Imply) a ∷ S) f = omega arith
loose_formula g (Left (By Or) a ∷ S) f = omega arith
loose_formula g (Left (By And) a ∷ S) f = omega arith
loose_formula g (Left (By Equal) a ∷ S) f = absurd cc
loose_formula g (Left (By NotEqual) a ∷ S) f = absurd cc
loose_formula g (Left (By AtLeast) a ∷ S) f = absurd cc
loose_formula g (Left (By Greater) a ∷ S) f = absurd cc
loose_formula g (Left (By AtMost) a ∷ S) f = absurd cc
loose_formula g (Left (By Less) a ∷ S) f = absurd cc
loose_formula g (Left (By Add) a ∷ S) f = absurd cc
loose_formula g (Left (By Sub) a ∷ S) f = absurd cc
loose_formula g (Left (By Mul) a ∷ S) f = absurd cc
loose_formula g (Left (By Div) a ∷ S) f = absurd cc
loose_formula g (Left (By Pow) a ∷ S) f = absurd cc
loose_formula g (Left (By Choice) a ∷ S) f = absurd cc
loose_formula g (Left Next a ∷ S) f = absurd cc
loose_formula g (Before Minus ∷ S) f = absurd cc
loose_formula g (Before Bang' ∷ S) f = omega arith
loose_formula g (Before (Bound q x) ∷ S) f = omega arith
loose_formula g (Before (Modal m p) ∷ S) f = omega arith
loose_formula g (Inside h ∷ S) f = omega arith

-- What the tail says of the tokens of the piece.
abbrev pub Tailed : Tail → Piece → List Lexeme → Type 0
Tailed Done p r = Unit {0}
Tailed (Bare n x) p r = (r ≡ Name n x ∷ []) × (p ≡ Is Term (Variable x false) (Bare n x))
Tailed Grouped p r =
    (s : List Lexeme) × (r ≡ Open ∷ (s ++ Close ∷ [])) × ((t : Phrase) → as_sort Term p ≡ Some t → Reads term s t) ×
    ((t : Phrase) → as_sort Formula p ≡ Some t → Reads formula s t) × (is_program p ≡ false)
Tailed Braced p r = (t : Phrase) × ReadsBrace r t × (p ≡ Is Program t Braced)
Tailed Starred p r = (t : Phrase) × Noting r t × (p ≡ Is Program t Starred)
Tailed Annotated p r = (t : Phrase) × Ending r t × (p ≡ Is Program t Annotated)

pub record HasRead (g : Sort) (S : List Part) (p : Piece) (all : List Lexeme) : Type 0 where
  pub front : List Lexeme
  pub back : List Lexeme
  pub spells : Spells g S front
  pub known : Known 11 p back
  pub tail : Tailed (tail_of p) p back
  pub good : Good g S p
  pub parts : all ≡ front ++ back

-- A state with tokens of its own behind the open parts, where a sort may stand.
pub record Midway (g : Sort) (S : List Part) (own : List Lexeme) (r : Sort) (all : List Lexeme) : Type 0 where
  pub front : List Lexeme
  pub spells : Spells g S front
  pub fit : fits g r S ≡ true
  pub parts : all ≡ front ++ own

abbrev pub quantifier_token : Quantifier → Lexeme
quantifier_token ForAll = All
quantifier_token ForSome = Exist

-- The state after these tokens.
abbrev pub After : Sort → State → List Lexeme → Type 0
After g (Wants S) all = Spells g S all
After g (Has S p) all = HasRead g S p all
After g (Calls S n x) all = Midway g S (Name n x ∷ Open ∷ []) Term all
After g (Bars S x) all = (n : ℕ) × Midway g S (Name n x ∷ RoundBar ∷ []) Term all
After g (BarsName S x y) all = (n m : ℕ) × Midway g S (Name n x ∷ RoundBar ∷ Name m y ∷ []) Term all
After g (Binds S q) all = Midway g S (quantifier_token q ∷ []) Formula all
After g (Starts S x) all = (n : ℕ) × Midway g S (Name n x ∷ []) Program all
After g (StartsPrime S x) all = (n : ℕ) × Midway g S (Name n x ∷ Prime ∷ []) Program all
After g (StartsGets S x) all = (n : ℕ) × Midway g S (Name n x ∷ Gets ∷ []) Program all
After g (StartsStar S x) all = (n : ℕ) × Midway g S (Name n x ∷ Gets ∷ Op Mul ∷ []) Program all
After g (Opens S n) all = Midway g S (OpenBrace n ∷ []) Program all
After g (OpensName S n x) all = (m : ℕ) × Midway g S (OpenBrace n ∷ Name m x ∷ []) Program all
After g (OpensPrime S n x) all = (m : ℕ) × Midway g S (OpenBrace n ∷ Name m x ∷ Prime ∷ []) Program all
After g (WantsItem S n l) all = (k : List Lexeme) × ItemsBefore l k × Midway g S (OpenBrace n ∷ k) Program all
After g (ItemName S n l x) all = (k : List Lexeme) × (m : ℕ) × ItemsBefore l k × Midway g S (OpenBrace n ∷ (k ++ Name m x ∷ [])) Program all
After g (ItemPrime S n l x) all = (k : List Lexeme) × (m : ℕ) × ItemsBefore l k × Midway g S (OpenBrace n ∷ (k ++ Name m x ∷ Prime ∷ [])) Program all
After g (ItemBar S n l x) all = (k : List Lexeme) × (m : ℕ) × ItemsBefore l k × Midway g S (OpenBrace n ∷ (k ++ Name m x ∷ BraceBar ∷ [])) Program all
After g (ItemBarName S n l x y) all =
    (k : List Lexeme) × (m o : ℕ) × ItemsBefore l k × Midway g S (OpenBrace n ∷ (k ++ Name m x ∷ BraceBar ∷ Name o y ∷ [])) Program all
After g (ItemEnds S n l) all = (s : List Lexeme) × ReadsItems s l × Midway g S (OpenBrace n ∷ s) Program all
After g (Invariants S t) all = (r : List Lexeme) × Noting r t × Midway g S (r ++ Invariant ∷ []) Program all
