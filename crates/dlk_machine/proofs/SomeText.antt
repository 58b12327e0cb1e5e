-- Tokens say something or have a fault.
use Rattle.std.proofs.Common.{◌≡◌, ℕ, ◌<◌, ◌≤◌, min, List, [], ◌∷◌, ◌++◌, length, map, Some, None, Result, Ok, Err, refl, sym, ap, subst, ◌∙◌, arith}
use Rattle.std.proofs.Common.{length-append, append_assoc, ◌⊎◌, inl, inr}
use Rattle.std.specs.List.{All, flat_map, fold}
use Rattle.std.proofs.lemmas.Bool.{cases_lt, cases_eq, cases_Bool, both_ways}
use Rattle.std.proofs.lemmas.List.{append-nil}
use Rattle.std.proofs.lemmas.List.Elements.{All-nil, All-cons, All-tail}
use Rattle.dlk_tree.specs.Trees.{Tree, size, depth}
use Rattle.dlk_calculus.specs.Sequents.{Sequent}
use Rattle.dlk_calculus.specs.Pairs.{Pair, Extra}
use Rattle.dlk_grammar.specs.declared.token.Token.{Token}
use Rattle.dlk_grammar.specs.declared.token.TokenKind.{TokenKind}
use Rattle.dlk_grammar.specs.declared.token.TokenKind.TheVariants as kind
use Rattle.dlk_grammar.specs.declared.token.Dots.{Dots}
use Rattle.dlk_grammar.specs.declared.token.Dots.TheVariants.{Refused, Allowed}
use Rattle.dlk_grammar.specs.declared.token.Form.{Form}
use Rattle.dlk_grammar.specs.RealTokens.{AreTokens}
use Rattle.dlk_grammar.specs.Splits.{Splits}
use Rattle.dlk_grammar.specs.Lexemes.{Lexeme, lexemes}
use Rattle.dlk_grammar.specs.Phrases.{Phrase}
use Rattle.dlk_grammar.specs.Grammar.{Sides, ReadsSequent}
use Rattle.dlk_grammar.specs.Erased.{erase, ills, lowest}
use Rattle.dlk_calculus.specs.Limits.{most_nodes, greatest_depth}
use Rattle.dlk_grammar.specs.Readings.{Says, Stops, FirstAt, IsLong, bracket_level, opens, OpensTooDeep, FirstPast, ReadFault, Literal, Nesting}
use Rattle.dlk_grammar.specs.Readings.{Syntax, Shape, TooBig, TooDeep, fault_rank, SpeaksAgainst, IsReadFault, IsRead, grammar, itself, both_sides}
use Rattle.dlk_grammar.specs.Readings.{erase_sides}
use Rattle.dlk_grammar.specs.Substitutions.{PairPhrase, ReadsSubstitution, replacements, erase_pairs}
use Rattle.dlk_grammar.specs.Extras.{ExtraPhrase, ReadsExtra, extra_replacements, erase_extra}
use Rattle.dlk_grammar.specs.Texts.{TreeText, SequentText, PairsText, ExtraText, TextFault, BadByte, Unread, TreeTextFault, SequentTextFault}
use Rattle.dlk_grammar.specs.Texts.{PairsTextFault, ExtraTextFault}
use Rattle.dlk_grammar.proofs.SomeSplit.{some_split}
use Rattle.dlk_grammar.proofs.Real.{split_tokens}
use Rattle.dlk_machine.specs.Parse.{parse}
use Rattle.dlk_machine.specs.Sequents.{sequent_reader}
use Rattle.dlk_machine.specs.Pairs.{pairs_reader}
use Rattle.dlk_machine.specs.Extras.{extra_reader}
use Rattle.dlk_machine.proofs.ParseLaws.{form_read_says, form_fault_stops, sequent_read_says, sequent_fault_stops, one_sides_read, pairs_read_says}
use Rattle.dlk_machine.proofs.ParseLaws.{pairs_fault_stops, one_pairs_read, extra_read_says, extra_fault_stops, one_extra_read}
use Rattle.dlk_machine.proofs.Stopping.{said_nowhere, stops_within}
use Rattle.dlk_machine.specs.Forms.{machine_of}
use Rattle.dlk_machine.proofs.Formed.{Each}
use Rattle.dlk_machine.proofs.TextLaws.{same, sooner, later, seams, fewer_lexemes, token_at, least_below, one_grammar, form_ills_below}
use Rattle.dlk_machine.proofs.TextLaws.{sequent_ills_below, pairs_ills_below, extra_ills_below}

-- none, or the first
data Search {X : Type 0} (Is : X → Type 0) : Type 0 where
  found : (x : X) → Is x → Search Is
  missing : ((x : X) → ¬ Is x) → Search Is

-- the first token with a property that each token has or has not
long_or_not : (before : List Token) (k : TokenKind) → (IsLong before k) ⊎ (¬ IsLong before k)
long_or_not before kind.LongNumber = inl refl
long_or_not before (kind.Word x) = inr (λ e. absurd cc)
long_or_not before kind.True = inr (λ e. absurd cc)
long_or_not before kind.False = inr (λ e. absurd cc)
long_or_not before (kind.Number d) = inr (λ e. absurd cc)
long_or_not before (kind.Dot n) = inr (λ e. absurd cc)
long_or_not before kind.Hole = inr (λ e. absurd cc)
long_or_not before (kind.Mark m) = inr (λ e. absurd cc)
long_or_not before kind.End = inr (λ e. absurd cc)

deep_or_not : (before : List Token) (k : TokenKind) → (OpensTooDeep before k) ⊎ (¬ OpensTooDeep before k)
deep_or_not before k = elim (cases_eq (bracket_level before) 1200) [
  | inl e ↦ elim (cases_Bool (opens k)) [ inl o ↦ inl (e, o) | inr o ↦ inr (λ h. both_ways (opens k) o h.1) ]
  | inr never ↦ inr (λ h. never h.0)
]

-- no token of the list has the property
abbrev Clear : (List Token → TokenKind → Type 0) → List Token → Type 0
Clear Is b = (sooner after : List Token) (t : Token) → b ≡ sooner ++ t ∷ after → ¬ Is sooner t.kind

clear_more : (Is : List Token → TokenKind → Type 0) (b : List Token) (t : Token) → Clear Is b → ¬ Is b t.kind → Clear Is (b ++ t ∷ [])
clear_more Is b t clear never s after u e is = elim (seams b s t u [] after e) [
  | same f g ↦ never (subst (λ (l : List Token). Is l t.kind) (sym f) (subst (λ (x : Token). Is s x.kind) (sym g) is))
  | sooner rest f ↦ absurd (omega (arith, ap length e, ap length f, length-append b (t ∷ []), length-append s (u ∷ after), length-append b (t ∷ rest)))
  | later rest f ↦ clear s rest u f is
]

first_at : (Is : List Token → TokenKind → Type 0) → ((before : List Token) (k : TokenKind) → (Is before k) ⊎ (¬ Is before k)) → (b ts : List Token)
    → Clear Is b → Search (FirstAt Is (b ++ ts))
first_at Is test b [] clear = missing (λ at f. clear f.before f.behind f.token (sym (append-nil b) ∙ f.tokens_are) f.is)
first_at Is test b (t ∷ ts) clear = elim (test b t.kind) [
  | inl is ↦ found t.at (record { before = b; token = t; behind = ts; tokens_are = refl; is = is; first = clear; place = refl })
  | inr never ↦
      subst (λ (l : List Token). Search (FirstAt Is l)) (append_assoc b (t ∷ []) ts) (first_at Is test (b ++ t ∷ []) ts (clear_more Is b t clear never))
]

nothing_sooner : (Is : List Token → TokenKind → Type 0) → Clear Is []
nothing_sooner Is s after t e is = absurd (omega (arith, ap length e, length-append s (t ∷ after)))

first_in : (Is : List Token → TokenKind → Type 0) → ((before : List Token) (k : TokenKind) → (Is before k) ⊎ (¬ Is before k)) → (ts : List Token)
    → Search (FirstAt Is ts)
first_in Is test ts = first_at Is test [] ts (nothing_sooner Is)

-- the first tree past a limit
not_past : (measure : Tree → ℕ) (limit : ℕ) (t : Tree) (ts : List Tree) → measure t ≤ limit → ((n : ℕ) → ¬ FirstPast measure limit ts n)
    → (n : ℕ) (b : List Tree) (u : Tree) (r : List Tree) → t ∷ ts ≡ b ++ u ∷ r → limit < measure u → All (λ x. measure x ≤ limit) b
    → n ≡ min (measure u) 4294967295 → ⊥
not_past measure limit t ts low never n [] u r e past first number = let f : t ≡ u = cc in absurd (omega (arith, ap measure f))
not_past measure limit t ts low never n (v ∷ b) u r e past first number =
    let f : ts ≡ b ++ u ∷ r = cc in
    never n (record { before = b; tree = u; behind = r; trees_are = f; past = past; first = All-tail (λ x. measure x ≤ limit) v b first; number = number })

none_past : (measure : Tree → ℕ) (limit n : ℕ) → ¬ FirstPast measure limit [] n
none_past measure limit n f = absurd (omega (arith, ap length f.trees_are, length-append f.before (f.tree ∷ f.behind)))

past_in : (measure : Tree → ℕ) (limit : ℕ) (ts : List Tree) → Search (FirstPast measure limit ts)
past_in measure limit [] = missing (none_past measure limit)
past_in measure limit (t ∷ ts) = elim (cases_lt limit (measure t)) [
  | inl past ↦
      found (min (measure t) 4294967295)
      (record { before = []; tree = t; behind = ts; trees_are = refl; past = past; first = All-nil (λ x. measure x ≤ limit); number = refl })
  | inr low ↦ elim (past_in measure limit ts) [
    | found n f ↦
        found n
        (record {
          before = t ∷ f.before;
          tree = f.tree;
          behind = f.behind;
          trees_are = ap (λ (l : List Tree). t ∷ l) f.trees_are;
          past = f.past;
          first = All-cons (λ x. measure x ≤ limit) t f.before low f.first;
          number = f.number;
        })
    | missing never ↦ missing (λ n f. not_past measure limit t ts low never n f.before f.tree f.behind f.trees_are f.past f.first f.number)
  ]
]

-- what is known of lexemes by parsing them
data SaysOrStops {P : Type 0} (d : Dots) (G : List Lexeme → P → Type 0) (s : List Lexeme) : Type 0 where
  it_says : (p : P) → Says d G s p → SaysOrStops d G s
  it_stops : (place : ℕ) → Stops d G s place → SaysOrStops d G s

-- A form of text.
module _ {P : Type 0} (G : List Lexeme → P → Type 0) (parts : P → List Phrase) (one : (s : List Lexeme) (p q : P) → G s p → G s q → p ≡ q) (d : Dots)
    (tokens : List Token) where
  -- no fault below a rank applies
  abbrev Free : ℕ → Type 0
  Free k = (other : ReadFault) → fault_rank other < k → ¬ SpeaksAgainst G parts d tokens other

  free_none : Free 1
  free_none (Literal at) h a = absurd (omega arith)
  free_none (Nesting at) h a = absurd (omega arith)
  free_none (Syntax at) h a = absurd (omega arith)
  free_none (Shape at) h a = absurd (omega arith)
  free_none (TooBig n) h a = absurd (omega arith)
  free_none (TooDeep n) h a = absurd (omega arith)

  free_literal : ((at : ℕ) → ¬ SpeaksAgainst G parts d tokens (Literal at)) → Free 2
  free_literal never (Literal at) h a = never at a
  free_literal never _ h a = absurd (omega arith)

  free_nesting : Free 2 → ((at : ℕ) → ¬ SpeaksAgainst G parts d tokens (Nesting at)) → Free 3
  free_nesting free never (Literal at) h a = free (Literal at) (omega arith) a
  free_nesting free never (Nesting at) h a = never at a
  free_nesting free never _ h a = absurd (omega arith)

  free_syntax : Free 3 → ((at : ℕ) → ¬ SpeaksAgainst G parts d tokens (Syntax at)) → Free 4
  free_syntax free never (Literal at) h a = free (Literal at) (omega arith) a
  free_syntax free never (Nesting at) h a = free (Nesting at) (omega arith) a
  free_syntax free never (Syntax at) h a = never at a
  free_syntax free never _ h a = absurd (omega arith)

  free_shape : Free 4 → ((at : ℕ) → ¬ SpeaksAgainst G parts d tokens (Shape at)) → Free 5
  free_shape free never (Literal at) h a = free (Literal at) (omega arith) a
  free_shape free never (Nesting at) h a = free (Nesting at) (omega arith) a
  free_shape free never (Syntax at) h a = free (Syntax at) (omega arith) a
  free_shape free never (Shape at) h a = never at a
  free_shape free never _ h a = absurd (omega arith)

  free_big : Free 5 → ((n : ℕ) → ¬ SpeaksAgainst G parts d tokens (TooBig n)) → Free 6
  free_big free never (Literal at) h a = free (Literal at) (omega arith) a
  free_big free never (Nesting at) h a = free (Nesting at) (omega arith) a
  free_big free never (Syntax at) h a = free (Syntax at) (omega arith) a
  free_big free never (Shape at) h a = free (Shape at) (omega arith) a
  free_big free never (TooBig n) h a = never n a
  free_big free never (TooDeep n) h a = absurd (omega arith)

  free_deep : Free 6 → ((n : ℕ) → ¬ SpeaksAgainst G parts d tokens (TooDeep n)) → (why : ReadFault) → ¬ SpeaksAgainst G parts d tokens why
  free_deep free never (Literal at) a = free (Literal at) (omega arith) a
  free_deep free never (Nesting at) a = free (Nesting at) (omega arith) a
  free_deep free never (Syntax at) a = free (Syntax at) (omega arith) a
  free_deep free never (Shape at) a = free (Shape at) (omega arith) a
  free_deep free never (TooBig n) a = free (TooBig n) (omega arith) a
  free_deep free never (TooDeep n) a = never n a

  -- the tokens say something, or stop at one of them
  stopped : (place : ℕ) → AreTokens tokens → Stops d G (lexemes tokens) place → (at : ℕ) × SpeaksAgainst G parts d tokens (Syntax at)
  stopped place real a =
      let w = token_at tokens place (omega (arith, stops_within d G a, fewer_lexemes tokens real)) in
      (w.at, (place, a, w.token))

  -- what the tokens say is read, or there is a fault
  data Outcome {R : Type 0} (value : P → R) : Type 0 where
    is_read : (r : R) → IsRead G parts d tokens value r → Outcome value
    is_fault : (why : ReadFault) → IsReadFault G parts d tokens why → Outcome value

  past_or_not : (measure : Tree → ℕ) (limit : ℕ) (p : P) → Says d G (lexemes tokens) p
      → Search (λ n. (q : P) × Says d G (lexemes tokens) q × FirstPast measure limit (map erase (parts q)) n)
  past_or_not measure limit p says = elim (past_in measure limit (map erase (parts p))) [
    | found n f ↦ found n (p, says, f)
    | missing never ↦
        missing (λ n f. never n (subst (λ (q : P). FirstPast measure limit (map erase (parts q)) n) (one (lexemes tokens) f.0 p f.1.reads says.reads) f.2))
  ]

  ill_or_not : (p : P) (ns : List ℕ) → flat_map ills (parts p) ≡ ns → Says d G (lexemes tokens) p → Each (λ n. n < length tokens) ns
      → Search (λ at. SpeaksAgainst G parts d tokens (Shape at))
  ill_or_not p [] e says below = missing (λ at f.
      let same : lowest (flat_map ills (parts f.0)) ≡ None =
      ap (λ (q : P). lowest (flat_map ills (parts q))) (one (lexemes tokens) f.0 p f.1.reads says.reads) ∙ ap lowest e in
      let none : Some f.2.0 ≡ None = sym f.2.1 ∙ same in absurd cc)
  ill_or_not p (n ∷ ns) e says below =
      let at = token_at tokens (fold min n ns) (least_below (length tokens) n ns below.0 below.1) in
      found at.at (p, says, (fold min n ns, ap lowest e, at.token))

  module _ {R : Type 0} (value : P → R) (below : (p : P) → G (lexemes tokens) p → Each (λ n. n < length tokens) (flat_map ills (parts p))) where
    said : Free 3 → (p : P) → Says d G (lexemes tokens) p → Outcome value
    said free p says =
        let syntax_free = free_syntax free (λ at a. said_nowhere d G p says a.1) in
        elim (ill_or_not p (flat_map ills (parts p)) refl says (below p says.reads)) [
          | found at f ↦ is_fault (Shape at) (record { applies = f; first = syntax_free })
          | missing never ↦
              let shape_free = free_shape syntax_free never in
              elim (past_or_not size most_nodes p says) [
                | found n f ↦ is_fault (TooBig n) (record { applies = f; first = shape_free })
                | missing small ↦
                    let big_free = free_big shape_free small in
                    elim (past_or_not depth greatest_depth p says) [
                      | found n f ↦ is_fault (TooDeep n) (record { applies = f; first = big_free })
                      | missing flat ↦ is_read (value p) (record { phrase = p; says = says; value_is = refl; no_fault = free_deep big_free flat })
                    ]
              ]
        ]

    outcome : AreTokens tokens → SaysOrStops d G (lexemes tokens) → Outcome value
    outcome real said_or_not =
        elim (first_in IsLong long_or_not tokens) [
          | found at f ↦ is_fault (Literal at) (record { applies = f; first = free_none })
          | missing short ↦
              let short_free = free_literal short in
              elim (first_in OpensTooDeep deep_or_not tokens) [
                | found at f ↦ is_fault (Nesting at) (record { applies = f; first = short_free })
                | missing shallow ↦
                    let free = free_nesting short_free shallow in
                    elim said_or_not [
                      | it_says p says ↦ said free p says
                      | it_stops place a ↦ let w = stopped place real a in is_fault (Syntax w.0) (record { applies = w.1; first = free })
                    ]
              ]
        ]

parsed_tree : (form : Form) (d : Dots) (s : List Lexeme) (r : Result Phrase ℕ) → parse d (machine_of form) s ≡ r → SaysOrStops d (grammar form) s
parsed_tree form d s (Ok p) e = it_says p (form_read_says d form s p e)
parsed_tree form d s (Err n) e = it_stops n (form_fault_stops d form s n e)

parsed_sides : (s : List Lexeme) (r : Result Sides ℕ) → parse Refused sequent_reader s ≡ r → SaysOrStops Refused ReadsSequent s
parsed_sides s (Ok p) e = it_says p (sequent_read_says Refused s p e)
parsed_sides s (Err n) e = it_stops n (sequent_fault_stops Refused s n e)

parsed_pairs : (s : List Lexeme) (r : Result (List PairPhrase) ℕ) → parse Allowed pairs_reader s ≡ r → SaysOrStops Allowed ReadsSubstitution s
parsed_pairs s (Ok l) e = it_says l (pairs_read_says s l e)
parsed_pairs s (Err n) e = it_stops n (pairs_fault_stops s n e)

parsed_extra : (s : List Lexeme) (r : Result ExtraPhrase ℕ) → parse Allowed extra_reader s ≡ r → SaysOrStops Allowed ReadsExtra s
parsed_extra s (Ok l) e = it_says l (extra_read_says s l e)
parsed_extra s (Err n) e = it_stops n (extra_fault_stops s n e)

-- tokens are those of a tree, or there is a fault
split_tree : (form : Form) (d : Dots) (bytes : List ℕ) (ts : List Token) → Splits 0 bytes ts
    → ((t : Tree) × TreeText form d bytes t) ⊎ ((why : TextFault) × TreeTextFault form d bytes why)
split_tree form d bytes ts splits =
    let parsed = parsed_tree form d (lexemes ts) (parse d (machine_of form) (lexemes ts)) refl in
    elim (outcome (grammar form) itself (one_grammar form) d ts erase (form_ills_below form ts) (split_tokens splits) parsed) [
      | is_read t h ↦ inl (t, record { tokens = ts; splits = splits; reads = h })
      | is_fault why h ↦ inr (Unread why, (ts, splits, h))
    ]

split_sequent : (bytes : List ℕ) (ts : List Token) → Splits 0 bytes ts
    → ((s : Sequent) × SequentText bytes s) ⊎ ((why : TextFault) × SequentTextFault bytes why)
split_sequent bytes ts splits =
    let parsed = parsed_sides (lexemes ts) (parse Refused sequent_reader (lexemes ts)) refl in
    elim (outcome ReadsSequent both_sides one_sides_read Refused ts erase_sides (sequent_ills_below ts) (split_tokens splits) parsed) [
      | is_read s h ↦ inl (s, record { tokens = ts; splits = splits; reads = h })
      | is_fault why h ↦ inr (Unread why, (ts, splits, h))
    ]

split_pairs : (bytes : List ℕ) (ts : List Token) → Splits 0 bytes ts
    → ((pairs : List Pair) × PairsText bytes pairs) ⊎ ((why : TextFault) × PairsTextFault bytes why)
split_pairs bytes ts splits =
    let parsed = parsed_pairs (lexemes ts) (parse Allowed pairs_reader (lexemes ts)) refl in
    elim (outcome ReadsSubstitution replacements one_pairs_read Allowed ts erase_pairs (pairs_ills_below ts) (split_tokens splits) parsed) [
      | is_read pairs h ↦ inl (pairs, record { tokens = ts; splits = splits; reads = h })
      | is_fault why h ↦ inr (Unread why, (ts, splits, h))
    ]

split_extra : (bytes : List ℕ) (ts : List Token) → Splits 0 bytes ts
    → ((extra : Extra) × ExtraText bytes extra) ⊎ ((why : TextFault) × ExtraTextFault bytes why)
split_extra bytes ts splits =
    let parsed = parsed_extra (lexemes ts) (parse Allowed extra_reader (lexemes ts)) refl in
    elim (outcome ReadsExtra extra_replacements one_extra_read Allowed ts erase_extra (extra_ills_below ts) (split_tokens splits) parsed) [
      | is_read extra h ↦ inl (extra, record { tokens = ts; splits = splits; reads = h })
      | is_fault why h ↦ inr (Unread why, (ts, splits, h))
    ]

-- Bytes are a text, or there is a fault.
pub some_tree : (form : Form) (d : Dots) (bytes : List ℕ) → ((t : Tree) × TreeText form d bytes t) ⊎ ((why : TextFault) × TreeTextFault form d bytes why)
some_tree form d bytes = elim (some_split 0 bytes) [ inl w ↦ split_tree form d bytes w.0 w.1 | inr w ↦ inr (BadByte w.0, w.1) ]

pub some_sequent : (bytes : List ℕ) → ((s : Sequent) × SequentText bytes s) ⊎ ((why : TextFault) × SequentTextFault bytes why)
some_sequent bytes = elim (some_split 0 bytes) [ inl w ↦ split_sequent bytes w.0 w.1 | inr w ↦ inr (BadByte w.0, w.1) ]

pub some_pairs : (bytes : List ℕ) → ((pairs : List Pair) × PairsText bytes pairs) ⊎ ((why : TextFault) × PairsTextFault bytes why)
some_pairs bytes = elim (some_split 0 bytes) [ inl w ↦ split_pairs bytes w.0 w.1 | inr w ↦ inr (BadByte w.0, w.1) ]

pub some_extra : (bytes : List ℕ) → ((extra : Extra) × ExtraText bytes extra) ⊎ ((why : TextFault) × ExtraTextFault bytes why)
some_extra bytes = elim (some_split 0 bytes) [ inl w ↦ split_extra bytes w.0 w.1 | inr w ↦ inr (BadByte w.0, w.1) ]
