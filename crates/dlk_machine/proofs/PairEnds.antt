-- What is read of a pair is one, and each state of its reader has a text that ends it.
use Rattle.std.proofs.Common.{◌≡◌, ℕ, ◌+◌, ◌<◌, Bool, true, List, [], ◌∷◌, ◌++◌, Option, Some, inl, inr, refl, sym, subst, ap, ◌∙◌, append_assoc}
use Rattle.std.proofs.lemmas.List.{append-nil}
use Rattle.dlk_tree.specs.declared.op.Sort.TheVariants.{Term, Formula, Program}
use Rattle.dlk_tree.specs.declared.op.Sym.{Sym}
use Rattle.dlk_grammar.specs.Lexemes.{Word, Lexeme, Name, Dot, Blank, RoundBar, BarRound, BraceBar, BarBrace, Open, Close, OpenBrace, CloseBrace}
use Rattle.dlk_grammar.specs.Lexemes.{Comma, Becomes}
use Rattle.dlk_grammar.specs.Phrases.{Phrase, Truth, System}
use Rattle.dlk_grammar.specs.Grammar.{items-one, item-flow}
use Rattle.dlk_grammar.specs.Substitutions.{Target, function, predicate, PairPhrase, to, most_dots, ReadsDots, dots-more, ReadsTarget, target-nullary}
use Rattle.dlk_grammar.specs.Substitutions.{target-dots, target-except, ReadsPair}
use Rattle.dlk_machine.specs.Machine.{State, Wants, ended}
use Rattle.dlk_machine.proofs.Opening.{some_is, bind_some}
use Rattle.dlk_machine.proofs.Parsing.{known, none_some}
use Rattle.dlk_machine.proofs.Found.{ends}
use Rattle.dlk_machine.proofs.Live.{live, zero_reads, true_reads}
use Rattle.dlk_machine.proofs.Reading.{passed_after}
use Rattle.dlk_machine.proofs.ExpressionLaws.{no_formula}
use Rattle.dlk_machine.specs.Pairs.{Right, EitherOf, TextOf, SystemOf, PairState, Begins, LeftName, TermName, Calls, DotsOf, DotWanted, Bars}
use Rattle.dlk_machine.specs.Pairs.{BarsName, InContext, ContextHole, FlowOpens, FlowName, FlowBar, FlowBarName, FlowExcept, LeftEnds, InRight}
use Rattle.dlk_machine.specs.Pairs.{BraceWanted, InSystem, SystemEnds, right_ended, pair_ended}
use Rattle.dlk_machine.proofs.PairTargets.{LeftText, left-either, left-context, left-flow, left-flow-except, Behind, behind_append, behind_more, target_left}
use Rattle.dlk_machine.proofs.PairItems.{RightText, right-formula, right-term, right-text, right-system, pair_joined, chosen_pair}
use Rattle.dlk_machine.proofs.PairSystems.{found_system, system_front}
use Rattle.dlk_machine.proofs.PairStates.{InText, IsText, either-text, sort-text, SystemText, PairAfter}

-- What is read of a pair is one.
pair_is : (all : List Lexeme) (p q : PairPhrase) → Some p ≡ Some q → ReadsPair all p → ReadsPair all q
pair_is all p q e d = subst (λ (z : PairPhrase). ReadsPair all z) (some_is p q e) d

text_pair : {w : Right} {y : State} {all : List Lexeme} {p : PairPhrase} (a : InText w y all) → RightText w a.own p → ReadsPair all p
text_pair {p = p} a r = subst (λ (z : List Lexeme). ReadsPair z p) (sym a.parts) (pair_joined a.left_text r)

found_either : (h : Target) (y : State) (all : List Lexeme) (p : PairPhrase) → InText (EitherOf h) y all → chosen_pair h y (ended Formula y) ≡ Some p
    → ReadsPair all p
found_either h y all p a e = elim (known (ended Formula y)) [
  | inr o ↦
      pair_is all (to (predicate h) o.0) p (subst (λ (q : Option Phrase). chosen_pair h y q ≡ Some p) o.1 e)
      (text_pair a (right-formula (ends Formula Formula y a.own o.0 (passed_after Formula a.own y a.passed) o.1)))
  | inl o ↦
      let b = bind_some (ended Term y) (λ t. Some (to (function h) t)) p (subst (λ (q : Option Phrase). chosen_pair h y q ≡ Some p) o e) in
      pair_is all (to (function h) b.0) p b.2
      (text_pair a (right-term (ends Formula Term y a.own b.0 (passed_after Formula a.own y a.passed) b.1) (no_formula a.own y a.passed o)))
]

found_text : (w : Right) (y : State) (all : List Lexeme) (p : PairPhrase) → InText w y all → right_ended w y ≡ Some p → ReadsPair all p
found_text (EitherOf h) y all p a e = found_either h y all p a e
found_text (TextOf g s) y all p a e =
    let b = bind_some (ended g y) (λ t. Some (to s t)) p e in
    pair_is all (to s b.0) p b.2 (text_pair a (right-text (ends g g y a.own b.0 (passed_after g a.own y a.passed) b.1)))
found_text (SystemOf s) y all p a e = absurd (none_some p e)

-- a whole system
system_pair : (s : Sym) (t : Phrase) (all : List Lexeme) → SystemText s (SystemEnds s t) all → ReadsPair all (to s t)
system_pair s t all a =
    let w = found_system s a.place a.own t a.passed in
    let at : all ≡ a.front ++ Becomes ∷ OpenBrace a.place ∷ (w.front ++ CloseBrace ∷ []) =
    a.parts ∙ ap (λ (z : List Lexeme). a.front ++ Becomes ∷ OpenBrace a.place ∷ z) w.parts in
    subst (λ (u : Phrase). ReadsPair all (to s u)) w.tree
    (subst (λ (z : List Lexeme). ReadsPair z (to s (System a.place w.items Truth))) (sym at) (pair_joined a.left_text (right-system w.reads)))

pub found_pair : (x : PairState) (all : List Lexeme) (p : PairPhrase) → PairAfter x all → pair_ended x ≡ Some p → ReadsPair all p
found_pair (InRight w y) all p a e = found_text w y all p a.1 e
found_pair (SystemEnds s t) all p a e = pair_is all (to s t) p e (system_pair s t all a)
found_pair _ all p a e = absurd (none_some p e)

-- The tokens are the front of a pair.
pub record Opened (all : List Lexeme) : Type 0 where
  pub more : List Lexeme
  pub pair : PairPhrase
  pub reads : ReadsPair (all ++ more) pair

opened : (all r : List Lexeme) (p : PairPhrase) → ReadsPair (all ++ r) p → Opened all
opened all r p d = record { more = r; pair = p; reads = d }

opened_more : (all r : List Lexeme) → Opened (all ++ r) → Opened all
opened_more all r b = record { more = r ++ b.more; pair = b.pair; reads = subst (λ (z : List Lexeme). ReadsPair z b.pair) (append_assoc all r b.more) b.reads }

opened_is : (all own : List Lexeme) → all ≡ own → Opened own → Opened all
opened_is all own e b = subst Opened (sym e) b

-- Some right side for each left side.
some_right : (w : Right) → (r : List Lexeme) × (p : PairPhrase) × RightText w r p
some_right (EitherOf h) = (_, _, right-formula true_reads)
some_right (TextOf Term s) = (_, _, right-text {g = Term} zero_reads)
some_right (TextOf Formula s) = (_, _, right-text {g = Formula} true_reads)
some_right (TextOf Program s) = let b = live Program (Wants []) [] (passed_after Program [] (Wants []) refl) in (_, _, right-text {g = Program} b.reads)
some_right (SystemOf s) = (_, _, right-system {k = 0} (items-one (item-flow {n = 0} {x = []})))

left_live : {w : Right} {all : List Lexeme} → LeftText w all → Opened all
left_live {w} {all} l = let r = some_right w in opened all (Becomes ∷ r.0) r.1 (pair_joined l r.2)

-- a left side that is begun
front_live : {w : Right} (all own r : List Lexeme) → all ≡ own → LeftText w (own ++ r) → Opened all
front_live all own r e l = opened_is all own e (opened_more own r (left_live l))

target_live : {h : Target} (e : Bool) (own all r : List Lexeme) → Behind e own all → ReadsTarget (own ++ r) h → Opened all
target_live e own all r a d = opened_more all r (left_live (target_left (behind_append e own all r a) d))

-- a right side that is begun
right_live : {p : PairPhrase} (all front own r : List Lexeme) → all ≡ front ++ Becomes ∷ own → ReadsPair (front ++ Becomes ∷ (own ++ r)) p → Opened all
right_live {p} all front own r e d =
    opened_is all (front ++ Becomes ∷ own) e
    (opened (front ++ Becomes ∷ own) r p (subst (λ (z : List Lexeme). ReadsPair z p) (sym (append_assoc front (Becomes ∷ own) r)) d))

text_live : {w : Right} → IsText w → (y : State) (all : List Lexeme) → InText w y all → Opened all
text_live either-text y all a =
    let b = live Formula y a.own (passed_after Formula a.own y a.passed) in
    right_live all a.front a.own b.more a.parts (pair_joined a.left_text (right-formula b.reads))
text_live (sort-text {g = g}) y all a =
    let b = live g y a.own (passed_after g a.own y a.passed) in right_live all a.front a.own b.more a.parts (pair_joined a.left_text (right-text b.reads))

system_live : {s : Sym} (y : State) (all : List Lexeme) → SystemText s (InSystem s y) all → Opened all
system_live {s} y all a =
    let w = system_front s a.place a.own y a.passed in
    let at : (a.own ++ w.more) ++ CloseBrace ∷ [] ≡ a.own ++ (w.more ++ CloseBrace ∷ []) = append_assoc a.own w.more (CloseBrace ∷ []) in
    let p : ReadsPair (a.front ++ Becomes ∷ OpenBrace a.place ∷ ((a.own ++ w.more) ++ CloseBrace ∷ [])) (to s (System a.place w.items Truth)) =
    pair_joined a.left_text (right-system w.reads) in
    right_live all a.front (OpenBrace a.place ∷ a.own) (w.more ++ CloseBrace ∷ []) a.parts
    (subst (λ (z : List Lexeme). ReadsPair (a.front ++ Becomes ∷ OpenBrace a.place ∷ z) (to s (System a.place w.items Truth))) at p)

dots_live : (e : Bool) (x : Word) (m : ℕ) (all : List Lexeme) (n : ℕ) (s : List Lexeme) → m < most_dots → ReadsDots s m
    → Behind e (Name n x ∷ Open ∷ (s ++ Comma ∷ [])) all → Opened all
dots_live e x m all n s below d a =
    let at : s ++ Comma ∷ Dot m ∷ [] ≡ (s ++ Comma ∷ []) ++ Dot m ∷ [] = sym (append_assoc s (Comma ∷ []) (Dot m ∷ [])) in
    let dots : ReadsDots ((s ++ Comma ∷ []) ++ Dot m ∷ []) (m + 1) = subst (λ (z : List Lexeme). ReadsDots z (m + 1)) at (dots-more below d) in
    let own : Behind e (Name n x ∷ Open ∷ ((s ++ Comma ∷ []) ++ Dot m ∷ [])) (all ++ Dot m ∷ []) =
    behind_more e (Name n x ∷ Open ∷ (s ++ Comma ∷ [])) all (Dot m) a in
    opened_more all (Dot m ∷ []) (target_live e (Name n x ∷ Open ∷ ((s ++ Comma ∷ []) ++ Dot m ∷ [])) (all ++ Dot m ∷ []) (Close ∷ []) own (target-dots dots))

pub pair_live : (x : PairState) (all : List Lexeme) → PairAfter x all → Opened all
pair_live Begins all a = front_live all [] (Name 0 [] ∷ Open ∷ Close ∷ []) a (left-either target-nullary)
pair_live (LeftName x) all a = front_live all (Name a.0 x ∷ []) (Open ∷ Close ∷ []) a.1 (left-either target-nullary)
pair_live (TermName x) all a = target_live true (Name a.0 x ∷ []) all (Open ∷ Close ∷ []) a.1 target-nullary
pair_live (Calls e x) all a = target_live e (Name a.0 x ∷ Open ∷ []) all (Close ∷ []) a.1 target-nullary
pair_live (DotsOf e x m) all a = target_live e (Name a.0 x ∷ Open ∷ a.1) all (Close ∷ []) a.3 (target-dots a.2)
pair_live (DotWanted e x m) all a = dots_live e x m all a.0 a.1 a.2 a.3 a.4
pair_live (Bars e x) all a = target_live e (Name a.0 x ∷ RoundBar ∷ []) all (Name 0 [] ∷ BarRound ∷ []) a.1 target-except
pair_live (BarsName e x y) all a = target_live e (Name a.0 x ∷ RoundBar ∷ Name a.1 y ∷ []) all (BarRound ∷ []) a.2 target-except
pair_live (InContext x) all a = front_live all (Name a.0 x ∷ OpenBrace a.1 ∷ []) (Blank ∷ CloseBrace ∷ []) a.2 left-context
pair_live (ContextHole x) all a = front_live all (Name a.0 x ∷ OpenBrace a.1 ∷ Blank ∷ []) (CloseBrace ∷ []) a.2 left-context
pair_live FlowOpens all a = front_live all (OpenBrace a.0 ∷ []) (Name 0 [] ∷ CloseBrace ∷ []) a.1 left-flow
pair_live (FlowName x) all a = front_live all (OpenBrace a.0 ∷ Name a.1 x ∷ []) (CloseBrace ∷ []) a.2 left-flow
pair_live (FlowBar x) all a = front_live all (OpenBrace a.0 ∷ Name a.1 x ∷ BraceBar ∷ []) (Name 0 [] ∷ BarBrace ∷ CloseBrace ∷ []) a.2 left-flow-except
pair_live (FlowBarName x y) all a = front_live all (OpenBrace a.0 ∷ Name a.1 x ∷ BraceBar ∷ Name a.2 y ∷ []) (BarBrace ∷ CloseBrace ∷ []) a.3 left-flow-except
pair_live (FlowExcept x y) all a = front_live all (OpenBrace a.0 ∷ Name a.1 x ∷ BraceBar ∷ Name a.2 y ∷ BarBrace ∷ []) (CloseBrace ∷ []) a.3 left-flow-except
pair_live (LeftEnds w) all a = left_live a
pair_live (InRight w y) all a = text_live a.0 y all a.1
pair_live (BraceWanted s) all a = let r = some_right (SystemOf s) in right_live all a.0 [] r.0 a.2 (pair_joined a.1 r.2)
pair_live (InSystem s y) all a = system_live y all a
pair_live (SystemEnds s t) all a = opened all [] (to s t) (rw append-nil (system_pair s t all a))
