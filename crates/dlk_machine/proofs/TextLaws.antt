-- The laws of texts.
use Rattle.std.proofs.Common.{◌≡◌, ℕ, zero, suc, ◌+◌, ◌<◌, ◌≤◌, min, List, [], ◌∷◌, ◌++◌, length, map, Some, refl, sym, ap, subst, ◌∙◌, arith}
use Rattle.std.proofs.Common.{length-append, inl, inr}
use Rattle.std.specs.List.{All, flat_map, fold}
use Rattle.std.proofs.lemmas.Bool.{cases_order}
use Rattle.std.proofs.lemmas.Grind.{flat_map-append}
use Rattle.std.proofs.lemmas.List.{append-nil}
use Rattle.std.proofs.lemmas.List.Elements.{All-head, All-tail}
use Rattle.std.proofs.lemmas.Option.{same_Some}
use Rattle.dlk_tree.specs.Trees.{Tree, WellMade, size, depth}
use Rattle.dlk_calculus.specs.Sequents.{Sequent, IsFormula, IsSequent}
use Rattle.dlk_calculus.specs.Pairs.{Pair, Extra, AreWellMade}
use Rattle.dlk_grammar.specs.declared.token.Token.{Token}
use Rattle.dlk_grammar.specs.declared.token.TokenKind.{TokenKind}
use Rattle.dlk_grammar.specs.declared.token.TokenKind.TheVariants as kind
use Rattle.dlk_grammar.specs.declared.token.Mark.{Mark}
use Rattle.dlk_grammar.specs.declared.token.Mark.TheVariants as mark
use Rattle.dlk_grammar.specs.declared.token.Dots.{Dots}
use Rattle.dlk_grammar.specs.declared.token.Dots.TheVariants.{Refused, Allowed}
use Rattle.dlk_grammar.specs.declared.token.Form.{Form}
use Rattle.dlk_grammar.specs.declared.token.Form.TheVariants.{Formula, Term, Program, Expression}
use Rattle.dlk_grammar.specs.RealTokens.{IsReal as IsRealToken, AreTokens}
use Rattle.dlk_grammar.specs.Lexemes.{Lexeme, lexeme_of, lexeme_of_mark, lexemes, lexemes_from}
use Rattle.dlk_grammar.specs.Phrases.{Phrase, Phrases, none, snoc}
use Rattle.dlk_grammar.specs.Grammar.{formula, term, prog, Sides, Turned, ReadsSequent}
use Rattle.dlk_grammar.specs.Erased.{erase, ills, ills_of_all, lowest}
use Rattle.dlk_calculus.specs.Limits.{most_nodes, greatest_depth}
use Rattle.dlk_grammar.specs.Readings.{Says, FirstAt, IsLong, OpensTooDeep, TokenAt, FirstPast, ReadFault, Literal, Nesting, Syntax, Shape, TooBig}
use Rattle.dlk_grammar.specs.Readings.{TooDeep, fault_rank, SpeaksAgainst, IsReadFault, IsRead, grammar, itself, IsTree, IsTreeFault, phrases_in}
use Rattle.dlk_grammar.specs.Readings.{both_sides, erase_sides, IsSequentOf, IsSequentFault}
use Rattle.dlk_grammar.specs.Substitutions.{PairPhrase, ReadsSubstitution, replacements, erase_pairs, ArePairs, ArePairsFault}
use Rattle.dlk_grammar.specs.Extras.{ExtraPhrase, ReadsExtra, extra_replacements, erase_extra, AreExtra, AreExtraFault}
use Rattle.dlk_grammar.specs.Texts.{TreeText, SequentText, PairsText, ExtraText, TextFault, BadByte, Unread, TreeTextFault, SequentTextFault}
use Rattle.dlk_grammar.specs.Texts.{PairsTextFault, ExtraTextFault}
use Rattle.dlk_grammar.proofs.Splitting.{one_split, bad_is_no_split, one_bad}
use Rattle.dlk_grammar.proofs.Real.{split_tokens}
use Rattle.dlk_machine.proofs.Stopping.{one_stop}
use Rattle.dlk_machine.proofs.ParseLaws.{one_read, one_expression_read, one_sides_read, one_pairs_read, one_extra_read}
use Rattle.dlk_machine.proofs.PairsFormed.{ills_of_pairs, pairs_below, pairs_formed, extra_below, extra_formed}
use Rattle.dlk_machine.proofs.Formed.{Each, each_append, IsReal, AreReal, IsBelow, AreBelow, grown, grown_expression, grown_sides, formed}
use Rattle.dlk_machine.proofs.Formed.{expression_formed, formula_formed, sequent_formed, ills_of_sides}

-- the lexemes of tokens that are real are real
mark_real : (n : ℕ) (m : Mark) → IsReal (lexeme_of_mark n m)
mark_real n mark.OpenBrace = tt
mark_real n _ = tt

lexeme_real : (n : ℕ) (k : TokenKind) → IsRealToken k → AreReal (lexeme_of n k)
lexeme_real n (kind.Word x) h = (h, tt)
lexeme_real n kind.True h = (tt, tt)
lexeme_real n kind.False h = (tt, tt)
lexeme_real n (kind.Number d) h = (h, tt)
lexeme_real n kind.LongNumber h = (refl, tt)
lexeme_real n (kind.Dot d) h = (h, tt)
lexeme_real n kind.Hole h = (tt, tt)
lexeme_real n (kind.Mark m) h = (mark_real n m, tt)
lexeme_real n kind.End h = tt

pub lexemes_real : (n : ℕ) (ts : List Token) → All (λ t. IsRealToken t.kind) ts → AreReal (lexemes_from n ts)
lexemes_real n [] h = tt
lexemes_real n (t ∷ ts) h =
    each_append IsReal (lexeme_of n t.kind) (lexemes_from (n + 1) ts) (lexeme_real n t.kind (All-head (λ t. IsRealToken t.kind) t ts h))
    (lexemes_real (n + 1) ts (All-tail (λ t. IsRealToken t.kind) t ts h))

-- and their places are below the number of the tokens
mark_below : (n m : ℕ) (k : Mark) → n < m → IsBelow m (lexeme_of_mark n k)
mark_below n m mark.OpenBrace h = h
mark_below n m _ h = tt

lexeme_below : (n m : ℕ) (k : TokenKind) → n < m → AreBelow m (lexeme_of n k)
lexeme_below n m (kind.Word x) h = (h, tt)
lexeme_below n m kind.True h = (tt, tt)
lexeme_below n m kind.False h = (tt, tt)
lexeme_below n m (kind.Number d) h = (tt, tt)
lexeme_below n m kind.LongNumber h = (tt, tt)
lexeme_below n m (kind.Dot d) h = (tt, tt)
lexeme_below n m kind.Hole h = (tt, tt)
lexeme_below n m (kind.Mark k) h = (mark_below n m k h, tt)
lexeme_below n m kind.End h = tt

pub lexemes_below : (n m : ℕ) (ts : List Token) → n + length ts ≤ m → AreBelow m (lexemes_from n ts)
lexemes_below n m [] h = tt
lexemes_below n m (t ∷ ts) h =
    each_append (IsBelow m) (lexeme_of n t.kind) (lexemes_from (n + 1) ts) (lexeme_below n m t.kind (omega arith)) (lexemes_below (n + 1) m ts (omega arith))

-- and there are fewer of them, since the end gives none
one_lexeme : (n : ℕ) (k : TokenKind) → length (lexeme_of n k) ≤ 1
one_lexeme n (kind.Word x) = omega arith
one_lexeme n kind.True = omega arith
one_lexeme n kind.False = omega arith
one_lexeme n (kind.Number d) = omega arith
one_lexeme n kind.LongNumber = omega arith
one_lexeme n (kind.Dot d) = omega arith
one_lexeme n kind.Hole = omega arith
one_lexeme n (kind.Mark m) = omega arith
one_lexeme n kind.End = omega arith

lexemes_before : (n : ℕ) (ts : List Token) (last : Token) → last.kind ≡ kind.End → length (lexemes_from n (ts ++ last ∷ [])) ≤ length ts
lexemes_before n [] last e = rw e (omega arith)
lexemes_before n (t ∷ ts) last e =
    let own = lexeme_of n t.kind in
    let more = lexemes_from (n + 1) (ts ++ last ∷ []) in
    omega (arith, length-append own more, one_lexeme n t.kind, lexemes_before (n + 1) ts last e)

pub fewer_lexemes : (ts : List Token) → AreTokens ts → length (lexemes ts) < length ts
fewer_lexemes ts real =
    let few : length (lexemes ts) ≤ length real.before =
    subst (λ (l : List Token). length (lexemes l) ≤ length real.before) (sym real.tokens_are) (lexemes_before 0 real.before real.last real.ends) in
    omega (arith, ap length real.tokens_are, length-append real.before (real.last ∷ []))

-- the token of a place
pub record HasToken (ts : List Token) (place : ℕ) : Type 0 where
  pub at : ℕ
  pub token : TokenAt ts place at

pub token_at : (ts : List Token) (place : ℕ) → place < length ts → HasToken ts place
token_at [] place h = absurd (omega arith)
token_at (t ∷ ts) zero h = record { at = t.at; token = record { before = []; token = t; behind = ts; tokens_are = refl; count = refl; at_is = refl } }
token_at (t ∷ ts) (suc place) h =
    let w = token_at ts place (omega arith) in
    let x = w.token in
    record {
      at = w.at;
      token =
          record {
            before = t ∷ x.before;
            token = x.token;
            behind = x.behind;
            tokens_are = ap (λ (l : List Token). t ∷ l) x.tokens_are;
            count = ap suc x.count;
            at_is = x.at_is;
          };
    }

pub least_below : (m n : ℕ) (ns : List ℕ) → n < m → Each (λ k. k < m) ns → fold min n ns < m
least_below m n [] h g = h
least_below m n (k ∷ ns) h g = least_below m (min n k) ns (omega arith) g.1

-- two ways to split one list
pub data Seams {X : Type 0} (b c : List X) (x y : X) : Type 0 where
  same : b ≡ c → x ≡ y → Seams b c x y
  sooner : (after : List X) → c ≡ b ++ x ∷ after → Seams b c x y
  later : (after : List X) → b ≡ c ++ y ∷ after → Seams b c x y

one_more : {X : Type 0} (b c : List X) (x y z w : X) → z ≡ w → Seams b c x y → Seams (z ∷ b) (w ∷ c) x y
one_more b c x y z w e (same f g) = same (cc) g
one_more b c x y z w e (sooner after f) = sooner after (cc)
one_more b c x y z w e (later after f) = later after (cc)

pub seams : {X : Type 0} (b c : List X) (x y : X) (r s : List X) → b ++ x ∷ r ≡ c ++ y ∷ s → Seams b c x y
seams [] [] x y r s e = same refl (cc)
seams [] (z ∷ c) x y r s e = sooner c (cc)
seams (z ∷ b) [] x y r s e = later b (cc)
seams (z ∷ b) (w ∷ c) x y r s e =
    let first : z ≡ w = cc in
    let rest : b ++ x ∷ r ≡ c ++ y ∷ s = cc in
    one_more b c x y z w first (seams b c x y r s rest)

-- the first token with a property has one place
first_is : (Is : List Token → TokenKind → Type 0) (ts : List Token) (at other : ℕ) → FirstAt Is ts at → FirstAt Is ts other → at ≡ other
first_is Is ts at other a b = elim (seams a.before b.before a.token b.token a.behind b.behind (sym a.tokens_are ∙ b.tokens_are)) [
  | same e f ↦ a.place ∙ ap (λ (t : Token). t.at) f ∙ sym b.place
  | sooner after e ↦ absurd (b.first a.before after a.token e a.is)
  | later after e ↦ absurd (a.first b.before after b.token e b.is)
]

-- a place has one token
token_is : (ts : List Token) (place at other : ℕ) → TokenAt ts place at → TokenAt ts place other → at ≡ other
token_is ts place at other a b = elim (seams a.before b.before a.token b.token a.behind b.behind (sym a.tokens_are ∙ b.tokens_are)) [
  | same e f ↦ a.at_is ∙ ap (λ (t : Token). t.at) f ∙ sym b.at_is
  | sooner after e ↦ absurd (omega (arith, ap length e, length-append a.before (a.token ∷ after), a.count, b.count))
  | later after e ↦ absurd (omega (arith, ap length e, length-append b.before (b.token ∷ after), a.count, b.count))
]

at_seam : {X : Type 0} (Is : X → Type 0) (xs : List X) (x : X) (ys : List X) → All Is (xs ++ x ∷ ys) → Is x
at_seam Is [] x ys h = All-head Is x ys h
at_seam Is (z ∷ xs) x ys h = at_seam Is xs x ys (All-tail Is z (xs ++ x ∷ ys) h)

-- the first tree past a limit has one measure
past_is : (measure : Tree → ℕ) (limit : ℕ) (ts : List Tree) (n m : ℕ) → FirstPast measure limit ts n → FirstPast measure limit ts m → n ≡ m
past_is measure limit ts n m a b = elim (seams a.before b.before a.tree b.tree a.behind b.behind (sym a.trees_are ∙ b.trees_are)) [
  | same e f ↦ a.number ∙ ap (λ (t : Tree). min (measure t) 4294967295) f ∙ sym b.number
  | sooner after e ↦
      let low : measure a.tree ≤ limit =
      at_seam (λ (t : Tree). measure t ≤ limit) a.before a.tree after (subst (All (λ (t : Tree). measure t ≤ limit)) e b.first) in
      absurd (omega (arith, a.past))
  | later after e ↦
      let low : measure b.tree ≤ limit =
      at_seam (λ (t : Tree). measure t ≤ limit) b.before b.tree after (subst (All (λ (t : Tree). measure t ≤ limit)) e a.first) in
      absurd (omega (arith, b.past))
]

-- A form of text: its grammar, the phrases of its trees, and that lexemes say one thing.
module _ {P : Type 0} (G : List Lexeme → P → Type 0) (parts : P → List Phrase) (one : (s : List Lexeme) (p q : P) → G s p → G s q → p ≡ q) (d : Dots)
    (tokens : List Token) where
  one_value : {R : Type 0} (value : P → R) (r q : R) → IsRead G parts d tokens value r → IsRead G parts d tokens value q → r ≡ q
  one_value value r q a b = sym a.value_is ∙ ap value (one (lexemes tokens) a.phrase b.phrase a.says.reads b.says.reads) ∙ b.value_is

  one_shape : (p q : P) (at other : ℕ) → p ≡ q → ((place : ℕ) × (lowest (flat_map ills (parts p)) ≡ Some place) × TokenAt tokens place at)
      → ((place : ℕ) × (lowest (flat_map ills (parts q)) ≡ Some place) × TokenAt tokens place other) → at ≡ other
  one_shape p q at other e a b =
      let place : a.0 ≡ b.0 = same_Some a.0 b.0 (sym a.1 ∙ ap (λ (x : P). lowest (flat_map ills (parts x))) e ∙ b.1) in
      token_is tokens b.0 at other (subst (λ (n : ℕ). TokenAt tokens n at) place a.2) b.2

  one_measure : (measure : Tree → ℕ) (limit : ℕ) (p q : P) (n m : ℕ) → p ≡ q → FirstPast measure limit (map erase (parts p)) n
      → FirstPast measure limit (map erase (parts q)) m → n ≡ m
  one_measure measure limit p q n m e a b =
      past_is measure limit (map erase (parts q)) n m (subst (λ (x : P). FirstPast measure limit (map erase (parts x)) n) e a) b

  one_syntax : (at other : ℕ) → SpeaksAgainst G parts d tokens (Syntax at) → SpeaksAgainst G parts d tokens (Syntax other) → at ≡ other
  one_syntax at other a b = token_is tokens b.0 at other (subst (λ (n : ℕ). TokenAt tokens n at) (one_stop d G a.1 b.1) a.2) b.2

  -- faults of one rank are one
  one_ranked : (why other : ReadFault) → fault_rank why ≡ fault_rank other → SpeaksAgainst G parts d tokens why → SpeaksAgainst G parts d tokens other
      → why ≡ other
  one_ranked (Literal at) (Literal other) e a b = ap Literal (first_is IsLong tokens at other a b)
  one_ranked (Nesting at) (Nesting other) e a b = ap Nesting (first_is OpensTooDeep tokens at other a b)
  one_ranked (Syntax at) (Syntax other) e a b = ap Syntax (one_syntax at other a b)
  one_ranked (Shape at) (Shape other) e a b = ap Shape (one_shape a.0 b.0 at other (one (lexemes tokens) a.0 b.0 a.1.reads b.1.reads) a.2 b.2)
  one_ranked (TooBig n) (TooBig m) e a b = ap TooBig (one_measure size most_nodes a.0 b.0 n m (one (lexemes tokens) a.0 b.0 a.1.reads b.1.reads) a.2 b.2)
  one_ranked (TooDeep n) (TooDeep m) e a b =
      ap TooDeep (one_measure depth greatest_depth a.0 b.0 n m (one (lexemes tokens) a.0 b.0 a.1.reads b.1.reads) a.2 b.2)
  one_ranked _ _ e a b = absurd (omega arith)

  one_fault : (why other : ReadFault) → IsReadFault G parts d tokens why → IsReadFault G parts d tokens other → why ≡ other
  one_fault why other a b = elim (cases_order (fault_rank why) (fault_rank other)) [
    | inl e ↦ one_ranked why other e a.applies b.applies
    | inr (inl less) ↦ absurd (b.first why less a.applies)
    | inr (inr more) ↦ absurd (a.first other more b.applies)
  ]

  -- where there is no fault, nothing is of ill shape
  none_ill : (p : P) (ns : List ℕ) → flat_map ills (parts p) ≡ ns → Says d G (lexemes tokens) p → ((why : ReadFault) → ¬ SpeaksAgainst G parts d tokens why)
      → Each (λ n. n < length tokens) ns → ns ≡ []
  none_ill p [] e says free below = refl
  none_ill p (n ∷ ns) e says free below =
      let at = token_at tokens (fold min n ns) (least_below (length tokens) n ns below.0 below.1) in
      absurd (free (Shape at.at) (p, says, (fold min n ns, ap lowest e, at.token)))

-- texts of trees
pub one_grammar : (form : Form) (s : List Lexeme) (p q : Phrase) → grammar form s p → grammar form s q → p ≡ q
one_grammar Formula s p q d e = one_read formula s p q d e
one_grammar Term s p q d e = one_read term s p q d e
one_grammar Program s p q d e = one_read prog s p q d e
one_grammar Expression s p q d e = one_expression_read s p q d e

ills_below : (form : Form) (s : List Lexeme) (p : Phrase) (m : ℕ) → grammar form s p → AreBelow m s → Each (λ n. n < m) (ills p)
ills_below Formula s p m d h = (grown d).below m h
ills_below Term s p m d h = (grown d).below m h
ills_below Program s p m d h = (grown d).below m h
ills_below Expression s p m d h = (grown_expression d).grown.below m h

form_formed : (form : Form) (s : List Lexeme) (p : Phrase) → grammar form s p → AreReal s → ills p ≡ [] → WellMade (erase p)
form_formed Formula s p d h e = (formed d h e).well_made
form_formed Term s p d h e = (formed d h e).well_made
form_formed Program s p d h e = (formed d h e).well_made
form_formed Expression s p d h e = expression_formed d h e

pub form_ills_below : (form : Form) (tokens : List Token) (p : Phrase) → grammar form (lexemes tokens) p
    → Each (λ n. n < length tokens) (flat_map ills (itself p))
form_ills_below form tokens p d =
    rw (append-nil (ills p)) (ills_below form (lexemes tokens) p (length tokens) d (lexemes_below 0 (length tokens) tokens (omega arith)))

pub tree_not_ill : (form : Form) (d : Dots) (tokens : List Token) (t : Tree) (a : IsTree form d tokens t) → ills a.phrase ≡ []
tree_not_ill form d tokens t a =
    let below = ills_below form (lexemes tokens) a.phrase (length tokens) a.says.reads (lexemes_below 0 (length tokens) tokens (omega arith)) in
    none_ill (grammar form) itself (one_grammar form) d tokens a.phrase (ills a.phrase) (append-nil (ills a.phrase)) a.says a.no_fault below

pub tree_well_made : (form : Form) (d : Dots) (tokens : List Token) (t : Tree) → AreTokens tokens → IsTree form d tokens t → WellMade t
tree_well_made form d tokens t real a =
    subst WellMade a.value_is (form_formed form (lexemes tokens) a.phrase a.says.reads (lexemes_real 0 tokens real.real) (tree_not_ill form d tokens t a))

pub tree_formula : (tokens : List Token) (t : Tree) → AreTokens tokens → IsTree Formula Refused tokens t → IsFormula t
tree_formula tokens t real a =
    subst IsFormula a.value_is (formula_formed a.says.reads (lexemes_real 0 tokens real.real) a.says.permitted (tree_not_ill Formula Refused tokens t a))

pub one_tree_text : (form : Form) (d : Dots) (bytes : List ℕ) (t u : Tree) → TreeText form d bytes t → TreeText form d bytes u → t ≡ u
one_tree_text form d bytes t u a b =
    one_value (grammar form) itself (one_grammar form) d a.tokens erase t u a.reads
    (subst (λ (ts : List Token). IsTree form d ts u) (one_split b.splits a.splits) b.reads)

pub tree_or_fault : (form : Form) (d : Dots) (bytes : List ℕ) (t : Tree) (why : TextFault) → TreeText form d bytes t → TreeTextFault form d bytes why → ⊥
tree_or_fault form d bytes t (BadByte at) a f = bad_is_no_split f a.splits
tree_or_fault form d bytes t (Unread why) a f =
    a.reads.no_fault why (subst (λ (ts : List Token). IsTreeFault form d ts why) (one_split f.1 a.splits) f.2).applies

pub one_tree_fault : (form : Form) (d : Dots) (bytes : List ℕ) (why other : TextFault) → TreeTextFault form d bytes why → TreeTextFault form d bytes other
    → why ≡ other
one_tree_fault form d bytes (BadByte at) (BadByte other) f g = ap BadByte (one_bad f g)
one_tree_fault form d bytes (BadByte at) (Unread other) f g = absurd (bad_is_no_split f g.1)
one_tree_fault form d bytes (Unread why) (BadByte other) f g = absurd (bad_is_no_split g f.1)
one_tree_fault form d bytes (Unread why) (Unread other) f g =
    ap Unread
    (one_fault (grammar form) itself (one_grammar form) d f.0 why other f.2 (subst (λ (ts : List Token). IsTreeFault form d ts other) (one_split g.1 f.1) g.2))

pub tree_text_well_made : (form : Form) (d : Dots) (bytes : List ℕ) (t : Tree) → TreeText form d bytes t → WellMade t
tree_text_well_made form d bytes t a = tree_well_made form d a.tokens t (split_tokens a.splits) a.reads

pub tree_text_formula : (bytes : List ℕ) (t : Tree) → TreeText Formula Refused bytes t → IsFormula t
tree_text_formula bytes t a = tree_formula a.tokens t (split_tokens a.splits) a.reads

-- texts of sequents
ills_in : (l : Phrases) → flat_map ills (phrases_in l) ≡ ills_of_all l
ills_in none = refl
ills_in (snoc l p) =
    flat_map-append ills (phrases_in l) (p ∷ []) ∙ ap (λ (ns : List ℕ). ns ++ (ills p ++ [])) (ills_in l)
    ∙ ap (λ (ns : List ℕ). ills_of_all l ++ ns) (append-nil (ills p))

ills_in_sides : (z : Sides) → flat_map ills (both_sides z) ≡ ills_of_sides z
ills_in_sides (Turned l m) =
    flat_map-append ills (phrases_in l) (phrases_in m) ∙ ap (λ (ns : List ℕ). ns ++ flat_map ills (phrases_in m)) (ills_in l)
    ∙ ap (λ (ns : List ℕ). ills_of_all l ++ ns) (ills_in m)

sides_below : (s : List Lexeme) (z : Sides) (m : ℕ) → ReadsSequent s z → AreBelow m s → Each (λ n. n < m) (ills_of_sides z)
sides_below s (Turned l r) m d h = (grown_sides d).below m h

pub sequent_ills_below : (tokens : List Token) (z : Sides) → ReadsSequent (lexemes tokens) z → Each (λ n. n < length tokens) (flat_map ills (both_sides z))
sequent_ills_below tokens z d = rw (ills_in_sides z) (sides_below (lexemes tokens) z (length tokens) d (lexemes_below 0 (length tokens) tokens (omega arith)))

pub sequent_not_ill : (tokens : List Token) (s : Sequent) (a : IsSequentOf tokens s) → ills_of_sides a.phrase ≡ []
sequent_not_ill tokens s a =
    let below = sides_below (lexemes tokens) a.phrase (length tokens) a.says.reads (lexemes_below 0 (length tokens) tokens (omega arith)) in
    none_ill ReadsSequent both_sides one_sides_read Refused tokens a.phrase (ills_of_sides a.phrase) (ills_in_sides a.phrase) a.says a.no_fault below

pub sequent_formulas : (tokens : List Token) (s : Sequent) → AreTokens tokens → IsSequentOf tokens s → IsSequent s
sequent_formulas tokens s real a =
    subst IsSequent a.value_is (sequent_formed a.says.reads (lexemes_real 0 tokens real.real) a.says.permitted (sequent_not_ill tokens s a))

pub one_sequent_text : (bytes : List ℕ) (s z : Sequent) → SequentText bytes s → SequentText bytes z → s ≡ z
one_sequent_text bytes s z a b =
    one_value ReadsSequent both_sides one_sides_read Refused a.tokens erase_sides s z a.reads
    (subst (λ (ts : List Token). IsSequentOf ts z) (one_split b.splits a.splits) b.reads)

pub sequent_or_fault : (bytes : List ℕ) (s : Sequent) (why : TextFault) → SequentText bytes s → SequentTextFault bytes why → ⊥
sequent_or_fault bytes s (BadByte at) a f = bad_is_no_split f a.splits
sequent_or_fault bytes s (Unread why) a f = a.reads.no_fault why (subst (λ (ts : List Token). IsSequentFault ts why) (one_split f.1 a.splits) f.2).applies

pub one_sequent_fault : (bytes : List ℕ) (why other : TextFault) → SequentTextFault bytes why → SequentTextFault bytes other → why ≡ other
one_sequent_fault bytes (BadByte at) (BadByte other) f g = ap BadByte (one_bad f g)
one_sequent_fault bytes (BadByte at) (Unread other) f g = absurd (bad_is_no_split f g.1)
one_sequent_fault bytes (Unread why) (BadByte other) f g = absurd (bad_is_no_split g f.1)
one_sequent_fault bytes (Unread why) (Unread other) f g =
    ap Unread
    (one_fault ReadsSequent both_sides one_sides_read Refused f.0 why other f.2 (subst (λ (ts : List Token). IsSequentFault ts other) (one_split g.1 f.1) g.2))

pub sequent_text_formulas : (bytes : List ℕ) (s : Sequent) → SequentText bytes s → IsSequent s
sequent_text_formulas bytes s a = sequent_formulas a.tokens s (split_tokens a.splits) a.reads

-- texts of pairs
pub pairs_ills_below : (tokens : List Token) (l : List PairPhrase) → ReadsSubstitution (lexemes tokens) l → Each (λ n. n < length tokens) (ills_of_pairs l)
pairs_ills_below tokens l d = pairs_below d (length tokens) (lexemes_below 0 (length tokens) tokens (omega arith))

pub pairs_not_ill : (tokens : List Token) (pairs : List Pair) (a : ArePairs tokens pairs) → ills_of_pairs a.phrase ≡ []
pairs_not_ill tokens pairs a =
    none_ill ReadsSubstitution replacements one_pairs_read Allowed tokens a.phrase (ills_of_pairs a.phrase) refl a.says a.no_fault
    (pairs_ills_below tokens a.phrase a.says.reads)

pub pairs_well_made : (tokens : List Token) (pairs : List Pair) → AreTokens tokens → ArePairs tokens pairs → AreWellMade pairs
pairs_well_made tokens pairs real a = subst AreWellMade a.value_is (pairs_formed a.says.reads (lexemes_real 0 tokens real.real) (pairs_not_ill tokens pairs a))

pub one_pairs_text : (bytes : List ℕ) (pairs others : List Pair) → PairsText bytes pairs → PairsText bytes others → pairs ≡ others
one_pairs_text bytes pairs others a b =
    one_value ReadsSubstitution replacements one_pairs_read Allowed a.tokens erase_pairs pairs others a.reads
    (subst (λ (ts : List Token). ArePairs ts others) (one_split b.splits a.splits) b.reads)

pub pairs_or_fault : (bytes : List ℕ) (pairs : List Pair) (why : TextFault) → PairsText bytes pairs → PairsTextFault bytes why → ⊥
pairs_or_fault bytes pairs (BadByte at) a f = bad_is_no_split f a.splits
pairs_or_fault bytes pairs (Unread why) a f = a.reads.no_fault why (subst (λ (ts : List Token). ArePairsFault ts why) (one_split f.1 a.splits) f.2).applies

pub one_pairs_fault : (bytes : List ℕ) (why other : TextFault) → PairsTextFault bytes why → PairsTextFault bytes other → why ≡ other
one_pairs_fault bytes (BadByte at) (BadByte other) f g = ap BadByte (one_bad f g)
one_pairs_fault bytes (BadByte at) (Unread other) f g = absurd (bad_is_no_split f g.1)
one_pairs_fault bytes (Unread why) (BadByte other) f g = absurd (bad_is_no_split g f.1)
one_pairs_fault bytes (Unread why) (Unread other) f g =
    ap Unread
    (one_fault ReadsSubstitution replacements one_pairs_read Allowed f.0 why other f.2
    (subst (λ (ts : List Token). ArePairsFault ts other) (one_split g.1 f.1) g.2))

pub pairs_text_well_made : (bytes : List ℕ) (pairs : List Pair) → PairsText bytes pairs → AreWellMade pairs
pairs_text_well_made bytes pairs a = pairs_well_made a.tokens pairs (split_tokens a.splits) a.reads

-- texts of renames and pairs
pub extra_ills_below : (tokens : List Token) (e : ExtraPhrase) → ReadsExtra (lexemes tokens) e → Each (λ n. n < length tokens) (ills_of_pairs e.pairs)
extra_ills_below tokens e d = extra_below d (length tokens) (lexemes_below 0 (length tokens) tokens (omega arith))

extra_not_ill : (tokens : List Token) (extra : Extra) (a : AreExtra tokens extra) → ills_of_pairs a.phrase.pairs ≡ []
extra_not_ill tokens extra a =
    none_ill ReadsExtra extra_replacements one_extra_read Allowed tokens a.phrase (ills_of_pairs a.phrase.pairs) refl a.says a.no_fault
    (extra_ills_below tokens a.phrase a.says.reads)

pub extra_well_made : (tokens : List Token) (extra : Extra) → AreTokens tokens → AreExtra tokens extra → AreWellMade extra.pairs
extra_well_made tokens extra real a =
    subst (λ (e : Extra). AreWellMade e.pairs) a.value_is (extra_formed a.says.reads (lexemes_real 0 tokens real.real) (extra_not_ill tokens extra a))

pub one_extra_text : (bytes : List ℕ) (extra other : Extra) → ExtraText bytes extra → ExtraText bytes other → extra ≡ other
one_extra_text bytes extra other a b =
    one_value ReadsExtra extra_replacements one_extra_read Allowed a.tokens erase_extra extra other a.reads
    (subst (λ (ts : List Token). AreExtra ts other) (one_split b.splits a.splits) b.reads)

pub extra_or_fault : (bytes : List ℕ) (extra : Extra) (why : TextFault) → ExtraText bytes extra → ExtraTextFault bytes why → ⊥
extra_or_fault bytes extra (BadByte at) a f = bad_is_no_split f a.splits
extra_or_fault bytes extra (Unread why) a f = a.reads.no_fault why (subst (λ (ts : List Token). AreExtraFault ts why) (one_split f.1 a.splits) f.2).applies

pub one_extra_fault : (bytes : List ℕ) (why other : TextFault) → ExtraTextFault bytes why → ExtraTextFault bytes other → why ≡ other
one_extra_fault bytes (BadByte at) (BadByte other) f g = ap BadByte (one_bad f g)
one_extra_fault bytes (BadByte at) (Unread other) f g = absurd (bad_is_no_split f g.1)
one_extra_fault bytes (Unread why) (BadByte other) f g = absurd (bad_is_no_split g f.1)
one_extra_fault bytes (Unread why) (Unread other) f g =
    ap Unread
    (one_fault ReadsExtra extra_replacements one_extra_read Allowed f.0 why other f.2
    (subst (λ (ts : List Token). AreExtraFault ts other) (one_split g.1 f.1) g.2))

pub extra_text_well_made : (bytes : List ℕ) (extra : Extra) → ExtraText bytes extra → AreWellMade extra.pairs
extra_text_well_made bytes extra a = extra_well_made a.tokens extra (split_tokens a.splits) a.reads
