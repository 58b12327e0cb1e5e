-- The items of a pair's system: how they are read, and what their tokens are.
use Rattle.std.proofs.Common.{◌≡◌, ℕ, ◌⊎◌, inl, inr, List, [], ◌∷◌, ◌++◌, Option, Some, refl, sym, ap, subst, ◌∙◌, append_assoc}
use Rattle.dlk_tree.specs.declared.op.Sort.TheVariants.{Term, Program}
use Rattle.dlk_tree.specs.declared.op.Sym.{Sym}
use Rattle.dlk_grammar.specs.declared.token.Infix.TheVariants.{And, Equal}
use Rattle.dlk_grammar.specs.Lexemes.{Word, Lexeme, Name, Number, BraceBar, OpenBrace, CloseBrace, Prime, Gets, Query, Semi, Comma, Op}
use Rattle.dlk_grammar.specs.Phrases.{Phrase, Phrases, Truth, System, Item, Items, no_items}
use Rattle.dlk_grammar.specs.Grammar.{Nonterminal, term, Reads, term-mul, term-add, term-sub, mul-neg, mul-times, mul-over, neg-pow, neg-minus}
use Rattle.dlk_grammar.specs.Grammar.{pow-prim, pow-power, prim-number, prim-dot, prim-name, prim-primed, prim-nullary, prim-apply, prim-any}
use Rattle.dlk_grammar.specs.Grammar.{prim-except, prim-bracket, prim-diff, prog-seq, prog-choice, seq-stmt, seq-then, stmt-const, stmt-assign}
use Rattle.dlk_grammar.specs.Grammar.{stmt-assign_prime, stmt-any, stmt-test, stmt-group, ReadsList, list-one, list-more, ReadsBrace, brace-prog}
use Rattle.dlk_grammar.specs.Grammar.{brace-items, brace-domain, ReadsItems, items-one, items-more, ReadsItem, item-evolve, item-flow, item-except}
use Rattle.dlk_machine.specs.Levels.{form_sort}
use Rattle.dlk_machine.specs.Machine.{◌>>=◌, Braced, Is, State, Has, WantsItem, step}
use Rattle.dlk_machine.specs.Parse.{reader}
use Rattle.dlk_machine.specs.Pairs.{PairState, InSystem, SystemEnds, system_state, pair_step, pair_reader}
use Rattle.dlk_machine.proofs.Opening.{some_is, bind_some, states, states_then, states_split}
use Rattle.dlk_machine.proofs.Parsing.{none_some}
use Rattle.dlk_machine.proofs.Firsts.{ProgramFront, front-query, front-brace, front-const, front-assign, front-assign_prime, program_append, first}
use Rattle.dlk_machine.proofs.Only.{item-brace, only_items}
use Rattle.dlk_machine.proofs.Spelled.{items-begin, nothing, After}
use Rattle.dlk_machine.proofs.Found.{moves, spells_nothing}
use Rattle.dlk_machine.proofs.Live.{live, states_after, nought, zero_reads}
use Rattle.dlk_machine.proofs.Formed.{Each, each_parts, each_append}
use Rattle.dlk_machine.proofs.PairTargets.{Passes, goes_on}

-- a token that items may have: neither } nor &
abbrev Inner : Lexeme → Type 0
Inner CloseBrace = ⊥
Inner (Op And) = ⊥
Inner _ = Unit {0}

between : (s r : List Lexeme) (k : Lexeme) → Each Inner s → Inner k → Each Inner r → Each Inner (s ++ k ∷ r)
between s r k d h e = each_append Inner s (k ∷ r) d (h, e)

mutual
  term_inner : {n : Nonterminal} {s : List Lexeme} {t : Phrase} → Reads n s t → form_sort n ≡ Term → Each Inner s
  term_inner (term-mul d) h = term_inner d refl
  term_inner (term-add d e) h = between _ _ _ (term_inner d refl) tt (term_inner e refl)
  term_inner (term-sub d e) h = between _ _ _ (term_inner d refl) tt (term_inner e refl)
  term_inner (mul-neg d) h = term_inner d refl
  term_inner (mul-times d e) h = between _ _ _ (term_inner d refl) tt (term_inner e refl)
  term_inner (mul-over d e) h = between _ _ _ (term_inner d refl) tt (term_inner e refl)
  term_inner (neg-pow d) h = term_inner d refl
  term_inner (neg-minus d) h = (tt, term_inner d refl)
  term_inner (pow-prim d) h = term_inner d refl
  term_inner (pow-power d e) h = between _ _ _ (term_inner d refl) tt (term_inner e refl)
  term_inner prim-number h = (tt, tt)
  term_inner prim-dot h = (tt, tt)
  term_inner prim-name h = (tt, tt)
  term_inner prim-primed h = (tt, (tt, tt))
  term_inner prim-nullary h = (tt, (tt, (tt, tt)))
  term_inner (prim-apply d) h = (tt, (tt, between _ _ _ (list_inner d) tt tt))
  term_inner prim-any h = (tt, (tt, tt))
  term_inner prim-except h = (tt, (tt, (tt, (tt, tt))))
  term_inner (prim-bracket d) h = (tt, between _ _ _ (term_inner d refl) tt tt)
  term_inner (prim-diff d) h = (tt, between _ _ _ (term_inner d refl) tt (tt, tt))
  term_inner _ h = absurd cc

  list_inner : {s : List Lexeme} {l : Phrases} → ReadsList term s l → Each Inner s
  list_inner (list-one d) = term_inner d refl
  list_inner (list-more l d) = between _ _ _ (list_inner l) tt (term_inner d refl)

item_inner : {s : List Lexeme} {i : Item} → ReadsItem s i → Each Inner s
item_inner (item-evolve d) = (tt, (tt, (tt, term_inner d refl)))
item_inner item-flow = (tt, tt)
item_inner item-except = (tt, (tt, (tt, (tt, tt))))

items_inner : {s : List Lexeme} {l : Items} → ReadsItems s l → Each Inner s
items_inner (items-one d) = item_inner d
items_inner (items-more l d) = between _ _ _ (items_inner l) tt (item_inner d)

-- a whole brace has } or &
brace_not_inner : {s : List Lexeme} {t : Phrase} → ReadsBrace s t → Each Inner s → ⊥
brace_not_inner (brace-prog {s = s} d) h = (each_parts Inner s _ h.1).1.0
brace_not_inner (brace-items {s = s} d) h = (each_parts Inner s _ h.1).1.0
brace_not_inner (brace-domain {s = s} d e) h = (each_parts Inner s _ h.1).1.0

-- where a system of a pair begins
abbrev pub system_start : ℕ → State
system_start m = WantsItem [] m no_items

begun : (m : ℕ) → After Program (system_start m) (OpenBrace m ∷ [])
begun m = ([], items-begin, record { front = []; spells = nothing; fit = refl; parts = refl })

-- Items are read.
goes_in : (s : Sym) (z : State) (all : List Lexeme) → After Program z all → Each Inner all → system_state s z ≡ InSystem s z
goes_in s (Has [] (Is Program t Braced)) all a h = absurd (brace_not_inner a.tail.1 (each_parts Inner a.front a.back (subst (Each Inner) a.parts h)).1)
goes_in s _ all a h = refl

inner_step : (s : Sym) (x : State) (k : Lexeme) (z : State) → Inner k → step Program x k ≡ Some z → system_state s z ≡ InSystem s z
    → pair_step (InSystem s x) k ≡ Some (InSystem s z)
inner_step s x (Op And) z h e f = absurd h
inner_step s x k z h e f = ap (λ (o : Option State). o >>= λ u. Some (system_state s u)) e ∙ ap (λ (p : PairState). Some p) f

inner_passes : (s : Sym) (r : List Lexeme) (x y : State) (all : List Lexeme) → After Program x all → Each Inner all → Each Inner r
    → states (reader Program) x r ≡ Some y → Passes (InSystem s x) r (InSystem s y)
inner_passes s [] x y all a h g e = ap (λ (u : State). Some (InSystem s u)) (some_is x y e)
inner_passes s (k ∷ r) x y all a h g e =
    let b = bind_some (step Program x k) (λ u. states (reader Program) u r) y e in
    let after : After Program b.0 (all ++ k ∷ []) = moves Program x k b.0 all a b.1 in
    let own : Each Inner (all ++ k ∷ []) = each_append Inner all (k ∷ []) h (g.0, tt) in
    let one : pair_step (InSystem s x) k ≡ Some (InSystem s b.0) = inner_step s x k b.0 g.0 b.1 (goes_in s b.0 (all ++ k ∷ []) after own) in
    ap (λ (o : Option PairState). o >>= λ u. states pair_reader u r) one ∙ inner_passes s r b.0 y (all ++ k ∷ []) after own g.1 b.2

pub system_read : {r : List Lexeme} {l : Items} → ReadsItems r l → (s : Sym) (m : ℕ)
    → Passes (InSystem s (system_start m)) (r ++ CloseBrace ∷ []) (SystemEnds s (System m l Truth))
system_read {r} {l} d s m =
    let whole : State = Has [] (Is Program (System m l Truth) Braced) in
    let w = states_split (reader Program) r (CloseBrace ∷ []) (system_start m) whole (only_items d Program [] m item-brace []) in
    let b = bind_some (step Program w.0 CloseBrace) (λ u. Some u) whole w.2 in
    let last : Passes (InSystem s w.0) (CloseBrace ∷ []) (SystemEnds s (System m l Truth)) =
    ap (λ (o : Option State). (o >>= λ u. Some (system_state s u)) >>= λ u. Some u) (b.1 ∙ b.2) in
    goes_on (InSystem s (system_start m)) (InSystem s w.0) (SystemEnds s (System m l Truth)) r (CloseBrace ∷ [])
    (inner_passes s r (system_start m) w.0 (OpenBrace m ∷ []) (begun m) (tt, tt) (items_inner d) w.1) last

-- The reader of programs has read what is read of a system, which has no &.
data Shows (s : Sym) : State → PairState → Type 0 where
  inside : {x : State} → Shows s x (InSystem s x)
  behind : {t : Phrase} → Shows s (Has [] (Is Program t Braced)) (SystemEnds s t)

shows : (s : Sym) (x : State) → Shows s x (system_state s x)
shows s (Has [] (Is Program t Braced)) = behind
shows s _ = inside

abbrev NotAnd : Lexeme → Type 0
NotAnd (Op And) = ⊥
NotAnd _ = Unit {0}

record HasPassed (s : Sym) (x : State) (own : List Lexeme) (y : PairState) : Type 0 where
  state : State
  run : states (reader Program) x own ≡ Some state
  shown : Shows s state y
  no_domain : Each NotAnd own

one_step : (s : Sym) (x : State) (k : Lexeme) (y : PairState) → pair_step (InSystem s x) k ≡ Some y
    → (z : State) × (step Program x k ≡ Some z) × Shows s z y × NotAnd k
one_step s x (Op And) y e = absurd (none_some y e)
one_step s x k y e =
    let b = bind_some (step Program x k) (λ z. Some (system_state s z)) y e in
    (b.0, b.1, subst (Shows s b.0) (some_is (system_state s b.0) y b.2) (shows s b.0), tt)

has_passed : (s : Sym) (own : List Lexeme) (x : State) (p y : PairState) → Shows s x p → Passes p own y → HasPassed s x own y
has_passed s [] x p y h e = record { state = x; run = refl; shown = subst (Shows s x) (some_is p y e) h; no_domain = tt }
has_passed s (k ∷ r) x _ y inside e =
    let b = bind_some (pair_step (InSystem s x) k) (λ u. states pair_reader u r) y e in
    let c = one_step s x k b.0 b.1 in
    let w = has_passed s r c.0 b.0 y c.2 b.2 in
    record {
      state = w.state;
      run = ap (λ (o : Option State). o >>= λ u. states (reader Program) u r) c.1 ∙ w.run;
      shown = w.shown;
      no_domain = (c.3, w.no_domain);
    }
has_passed s (k ∷ r) _ _ y behind e = absurd (none_some y e)

whole_is : {s : Sym} {x : State} {y : PairState} → Shows s x y → (r : Sym) (t : Phrase) → y ≡ SystemEnds r t → x ≡ Has [] (Is Program t Braced)
whole_is inside r t e = absurd cc
whole_is behind r t e = cc

-- A whole system.
pub record WholeSystem (m : ℕ) (own : List Lexeme) (t : Phrase) : Type 0 where
  pub front : List Lexeme
  pub items : Items
  pub reads : ReadsItems front items
  pub parts : own ≡ front ++ CloseBrace ∷ []
  pub tree : System m items Truth ≡ t

whole_brace : (t : Phrase) (all : List Lexeme) → After Program (Has [] (Is Program t Braced)) all → ReadsBrace all t
whole_brace t all a =
    let same : a.tail.0 ≡ t = cc in
    subst (λ (z : List Lexeme). ReadsBrace z t) (sym (a.parts ∙ ap (λ (z : List Lexeme). z ++ a.back) (spells_nothing a.spells)))
    (subst (ReadsBrace a.back) same a.tail.1)

-- no program is read where an item is wanted
no_items_read : {s : List Lexeme} → ProgramFront s → (m : ℕ) (r : List Lexeme) (y : State) → states (reader Program) (system_start m) (s ++ r) ≡ Some y → ⊥
no_items_read front-query m r y e = none_some y e
no_items_read front-brace m r y e = none_some y e
no_items_read front-const m r y e = none_some y e
no_items_read front-assign m r y e = none_some y e
no_items_read front-assign_prime m r y e = none_some y e

whole_items : {m : ℕ} {own : List Lexeme} {t : Phrase} → ReadsBrace (OpenBrace m ∷ own) t → Each NotAnd own → (y : State)
    → states (reader Program) (system_start m) own ≡ Some y → WholeSystem m own t
whole_items (brace-items {s = s} {l = l} d) h y e = record { front = s; items = l; reads = d; parts = refl; tree = refl }
whole_items (brace-domain {s = s} d f) h y e = absurd (each_parts NotAnd s _ h).1.0
whole_items {m} (brace-prog d) h y e = absurd (no_items_read (first d) m (CloseBrace ∷ []) y e)

pub found_system : (s : Sym) (m : ℕ) (own : List Lexeme) (t : Phrase) → Passes (InSystem s (system_start m)) own (SystemEnds s t) → WholeSystem m own t
found_system s m own t e =
    let p = has_passed s own (system_start m) (InSystem s (system_start m)) (SystemEnds s t) inside e in
    let after = states_after Program (system_start m) (OpenBrace m ∷ []) own p.state (begun m) p.run in
    let brace = whole_brace t (OpenBrace m ∷ own) (subst (λ (z : State). After Program z (OpenBrace m ∷ own)) (whole_is p.shown s t refl) after) in
    whole_items brace p.no_domain p.state p.run

-- How a program begins: with a brace, or with a token that is none.
abbrev OpensNot : Lexeme → Type 0
OpensNot (OpenBrace n) = ⊥
OpensNot _ = Unit {0}

data BeginsSo : List Lexeme → Type 0 where
  so-brace : {all s : List Lexeme} {t : Phrase} (r : List Lexeme) → ReadsBrace s t → all ≡ s ++ r → BeginsSo all
  so-other : (k : Lexeme) (r : List Lexeme) → OpensNot k → BeginsSo (k ∷ r)

begins_more : {s : List Lexeme} (r : List Lexeme) → BeginsSo s → BeginsSo (s ++ r)
begins_more r (so-brace {s = s} q d e) = so-brace (q ++ r) d (ap (λ (z : List Lexeme). z ++ r) e ∙ append_assoc s q r)
begins_more r (so-other k q h) = so-other k (q ++ r) h

begins_so : {n : Nonterminal} {s : List Lexeme} {t : Phrase} → Reads n s t → form_sort n ≡ Program → BeginsSo s
begins_so (prog-seq d) h = begins_so d refl
begins_so (prog-choice d e) h = begins_more _ (begins_so d refl)
begins_so (seq-stmt d) h = begins_so d refl
begins_so (seq-then d e) h = begins_more _ (begins_so d refl)
begins_so stmt-const h = so-other _ _ tt
begins_so (stmt-assign d) h = so-other _ _ tt
begins_so (stmt-assign_prime d) h = so-other _ _ tt
begins_so stmt-any h = so-other _ _ tt
begins_so (stmt-test d) h = so-other _ _ tt
begins_so (stmt-group d q i e) h = so-brace _ d refl
begins_so _ h = absurd cc

-- Tokens of a system that tell no program from it yet, or that tell it.
data Fronts : List Lexeme → Type 0 where
  at-start : Fronts []
  at-name : {n : ℕ} {x : Word} → Fronts (Name n x ∷ [])
  at-prime : {n : ℕ} {x : Word} → Fronts (Name n x ∷ Prime ∷ [])
  told : {s : List Lexeme} → ((more : List Lexeme) → ¬ ProgramFront (s ++ more)) → Fronts s

-- whether tokens may begin a program
abbrev MayBegin : List Lexeme → Type 0
MayBegin (Query ∷ s) = Unit {0}
MayBegin (OpenBrace n ∷ s) = Unit {0}
MayBegin (Name n x ∷ Semi ∷ s) = Unit {0}
MayBegin (Name n x ∷ Gets ∷ s) = Unit {0}
MayBegin (Name n x ∷ Prime ∷ Gets ∷ s) = Unit {0}
MayBegin _ = ⊥

may_begin : {s : List Lexeme} → ProgramFront s → MayBegin s
may_begin front-query = tt
may_begin front-brace = tt
may_begin front-const = tt
may_begin front-assign = tt
may_begin front-assign_prime = tt

fronts : (m : ℕ) (own : List Lexeme) (y : State) → states (reader Program) (system_start m) own ≡ Some y → Fronts own
fronts m [] y e = at-start
fronts m (Name n x ∷ []) y e = at-name
fronts m (Name n x ∷ Prime ∷ []) y e = at-prime
fronts m (Name n x ∷ Prime ∷ Op Equal ∷ r) y e = told (λ more h. may_begin h)
fronts m (Name n x ∷ Prime ∷ k ∷ r) y e = absurd (none_some y e)
fronts m (Name n x ∷ BraceBar ∷ r) y e = told (λ more h. may_begin h)
fronts m (Name n x ∷ Comma ∷ r) y e = told (λ more h. may_begin h)
fronts m (Name n x ∷ CloseBrace ∷ r) y e = told (λ more h. may_begin h)
fronts m (Name n x ∷ Op And ∷ r) y e = told (λ more h. may_begin h)
fronts m (Name n x ∷ k ∷ r) y e = absurd (none_some y e)
fronts m (k ∷ r) y e = absurd (none_some y e)

-- two ways to split one list, of which one has a middle
parted : (s own r more : List Lexeme) (k : Lexeme) → s ++ k ∷ r ≡ own ++ more → ((q : List Lexeme) × (s ≡ own ++ q)) ⊎ ((q : List Lexeme) × (own ≡ s ++ k ∷ q))
parted s [] r more k e = inl (s, refl)
parted [] (j ∷ own) r more k e = let same : j ≡ k = cc in inr (own, ap (λ (i : Lexeme). i ∷ own) same)
parted (i ∷ s) (j ∷ own) r more k e =
    let same : i ≡ j = cc in
    let rest : s ++ k ∷ r ≡ own ++ more = cc in
    elim (parted s own r more k rest) [
      | inl w ↦ inl (w.0, ap (λ (z : List Lexeme). i ∷ z) w.1 ∙ ap (λ (l : Lexeme). l ∷ (own ++ w.0)) same)
      | inr w ↦ inr (w.0, ap (λ (z : List Lexeme). j ∷ z) w.1 ∙ ap (λ (l : Lexeme). l ∷ (s ++ k ∷ w.0)) (sym same))
    ]

-- Tokens of a system are the front of items.
pub record ItemsFront (own : List Lexeme) : Type 0 where
  pub more : List Lexeme
  pub items : Items
  pub reads : ReadsItems (own ++ more) items

not_over : (s : Sym) (t : Phrase) (r : List Lexeme) (y : State) → Passes (SystemEnds s t) r (InSystem s y) → ⊥
not_over s t [] y e = absurd cc
not_over s t (k ∷ r) y e = none_some (InSystem s y) e

module _ (s : Sym) (m : ℕ) (own : List Lexeme) (y : State) (e : Passes (InSystem s (system_start m)) own (InSystem s y)) where
  read_so : HasPassed s (system_start m) own (InSystem s y)
  read_so = has_passed s own (system_start m) (InSystem s (system_start m)) (InSystem s y) inside e

  -- the items of a brace go on where the tokens end
  items_front : {q : List Lexeme} {l : Items} (more : List Lexeme) (k : Lexeme) (r : List Lexeme) → ReadsItems q l → own ++ more ≡ q ++ k ∷ r
      → ((z : List Lexeme) → ¬ (own ≡ q ++ k ∷ z)) → ItemsFront own
  items_front {q} {l} more k r d f never = elim (parted q own r more k (sym f)) [
    | inl w ↦ record { more = w.0; items = l; reads = subst (λ (z : List Lexeme). ReadsItems z l) w.1 d }
    | inr w ↦ absurd (never w.0 w.1)
  ]

  -- behind its brace a system doesn't go on
  not_behind : {q : List Lexeme} {l : Items} → ReadsItems q l → (z : List Lexeme) → own ≡ q ++ CloseBrace ∷ z → ⊥
  not_behind {q} {l} d z f =
      let whole : PairState = SystemEnds s (System m l Truth) in
      let at : own ≡ (q ++ CloseBrace ∷ []) ++ z = f ∙ sym (append_assoc q (CloseBrace ∷ []) z) in
      let on = states_then pair_reader (q ++ CloseBrace ∷ []) z (InSystem s (system_start m)) whole (system_read d s m) in
      not_over s (System m l Truth) z y (sym on ∙ sym (ap (states pair_reader (InSystem s (system_start m))) at) ∙ e)

  brace_front : {b : List Lexeme} {t : Phrase} (more r : List Lexeme) → ReadsBrace b t → OpenBrace m ∷ (own ++ more) ≡ b ++ r
      → ((z : List Lexeme) → ¬ ProgramFront (own ++ z)) → ItemsFront own
  brace_front more r (brace-prog {s = q} d) f h =
      let at : own ++ more ≡ (q ++ CloseBrace ∷ []) ++ r = cc in
      absurd (h more (subst ProgramFront (sym (at ∙ append_assoc q (CloseBrace ∷ []) r)) (program_append (CloseBrace ∷ r) (first d))))
  brace_front more r (brace-items {s = q} d) f h =
      let at : own ++ more ≡ (q ++ CloseBrace ∷ []) ++ r = cc in
      items_front more CloseBrace r d (at ∙ append_assoc q (CloseBrace ∷ []) r) (not_behind d)
  brace_front more r (brace-domain {s = q} {r = c} d g) f h =
      let at : own ++ more ≡ (q ++ Op And ∷ (c ++ CloseBrace ∷ [])) ++ r = cc in
      items_front more (Op And) ((c ++ CloseBrace ∷ []) ++ r) d (at ∙ append_assoc q (Op And ∷ (c ++ CloseBrace ∷ [])) r)
      (λ z f. (each_parts NotAnd q (Op And ∷ z) (subst (Each NotAnd) f read_so.no_domain)).1.0)

  program_front : (more : List Lexeme) → BeginsSo (OpenBrace m ∷ (own ++ more)) → ((z : List Lexeme) → ¬ ProgramFront (own ++ z)) → ItemsFront own
  program_front more (so-brace r d f) h = brace_front more r d f h
  program_front more (so-other k r n) h = absurd n

  front_items : Fronts own → ItemsFront own
  front_items f = by f refl
    where
      by : {z : List Lexeme} → Fronts z → z ≡ own → ItemsFront own
      by at-start g = subst ItemsFront g (record { more = Name 0 [] ∷ []; items = _; reads = items-one item-flow })
      by at-name g = subst ItemsFront g (record { more = []; items = _; reads = items-one item-flow })
      by at-prime g = subst ItemsFront g (record { more = Op Equal ∷ Number nought ∷ []; items = _; reads = items-one (item-evolve zero_reads) })
      by (told h) g =
          let b =
          live Program read_so.state (OpenBrace m ∷ own) (states_after Program (system_start m) (OpenBrace m ∷ []) own read_so.state (begun m) read_so.run) in
          program_front b.more (begins_so b.reads refl) (subst (λ (z : List Lexeme). (more : List Lexeme) → ¬ ProgramFront (z ++ more)) g h)

  pub system_front : ItemsFront own
  system_front = front_items (fronts m own read_so.state read_so.run)
