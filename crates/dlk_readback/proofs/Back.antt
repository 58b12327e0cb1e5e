-- The tokens of shown text say its tree.
use Rattle.std.proofs.Common.{◌≡◌, ℕ, ◌+◌, Bool, true, false, nat_lt, List, [], ◌∷◌, ◌++◌, Option, Some, None, refl, ap, ◌∙◌, arith, ltb-false}
use Rattle.dlk_tree.specs.declared.op.Kind.TheVariants.{UnitFunc, UnitPred, Quant, Prog}
use Rattle.dlk_tree.specs.declared.op.Sort.{Sort}
use Rattle.dlk_tree.specs.declared.op.Sort.TheVariants.{Term, Formula, Program}
use Rattle.dlk_tree.specs.declared.op.Sym.{Sym}
use Rattle.dlk_tree.specs.declared.op.Op.{Op}
use Rattle.dlk_tree.specs.declared.op.Op.TheVariants as op
use Rattle.dlk_tree.specs.Table.{sort_of, Fits, is_sym_of}
use Rattle.dlk_tree.specs.Trees.{Tree, Forest, node, no_kids, kid, sort, sorts, WellMade, AllWellMade}
use Rattle.dlk_grammar.specs.declared.token.Infix.{Infix}
use Rattle.dlk_grammar.specs.declared.token.Infix.TheVariants as sign
use Rattle.dlk_grammar.specs.declared.token.Mark.TheVariants as mark
use Rattle.dlk_grammar.specs.Lexemes.{Lexeme, Open, OpenBrace, Op as Between}
use Rattle.dlk_grammar.specs.Phrases
use Rattle.dlk_grammar.specs.Phrases.{Phrase}
use Rattle.dlk_grammar.specs.Grammar
use Rattle.dlk_grammar.specs.Grammar.{Nonterminal, Reads, prim, atom}
use Rattle.dlk_grammar.specs.Erased.{erase, infix_op}
use Rattle.dlk_grammar.specs.Shown.{Piece, mark, word, level, opening, between, closing, bracketed, unit_brackets, shown_at}
use Rattle.dlk_readback.proofs.Climb.{form_at, lower, any_level}
use Rattle.dlk_readback.proofs.Rows.{AllKids, none_of, one_of, two_of}
use Rattle.dlk_readback.proofs.Kids.{body}
use Rattle.dlk_readback.proofs.Told.{said, behind, said-append, one_kid, last_kid, two_kids, Told, same_text, same_told, one_told, two_told, TellsTree, Back}
use Rattle.dlk_readback.proofs.Symbols.{space_of, unit_symbol, bare_symbol}
use Rattle.dlk_readback.proofs.Enclosed.{BodyBack, apply_back, holds_back, system_back, brace_stmt, loop_stmt}

-- brackets make the highest level
in_brackets : (s : Sort) {t : Tree} (n : ℕ) (text : List Piece) → TellsTree (form_at s 0) text t → Told (form_at s 6) (said n (bracketed true s text)) t
in_brackets Formula n text d = same_text (ap (λ (l : List Lexeme). Open ∷ l) (said-append (n + 1) text (mark mark.CloseRound ∷ [])))
    (same_told (λ p. Grammar.atom-bracket) (d (n + 1)))
in_brackets Term n text d = same_text (ap (λ (l : List Lexeme). Open ∷ l) (said-append (n + 1) text (mark mark.CloseRound ∷ [])))
    (same_told (λ p. Grammar.prim-bracket) (d (n + 1)))
in_brackets Program n text d = same_text (ap (λ (l : List Lexeme). OpenBrace n ∷ l) (said-append (n + 1) text (mark mark.CloseBrace ∷ [])))
    (same_told (λ p r. brace_stmt (Grammar.brace-prog r)) (d (n + 1)))

placed : (o : Op) (kids : Forest) → BodyBack o kids → Back (sort_of o) (node o kids)
placed o kids r l n = go (nat_lt (level o) l) refl
  where
    go : (b : Bool) → nat_lt (level o) l ≡ b → Told (form_at (sort_of o) l) (said n (bracketed b (sort_of o) (body o kids))) (node o kids)
    go true e = same_told (λ p. any_level (sort_of o) l)
        (in_brackets (sort_of o) n (body o kids) (λ m. same_told (λ p. lower (sort_of o) (level o) 0 (omega arith)) (r m)))
    go false e = same_told (λ p. lower (sort_of o) (level o) l (ltb-false (level o) l e)) (r n)

-- an operator between two kids
around : {g h f : Nonterminal} (i : Infix) (m x y : List Piece) {a b : Tree} → ((n : ℕ) → said n m ≡ Between i ∷ []) →
    ((s r : List Lexeme) (p q : Phrase) → Reads g s p → Reads h r q → Reads f (s ++ Between i ∷ r) (Phrases.Binary i p q)) → TellsTree g x a →
    TellsTree h y b → (n : ℕ) → Told f (said n ((x ++ ((m ++ y) ++ [])) ++ [])) (node (infix_op i) (kid a (kid b no_kids)))
around i m x y {a} {b} lexeme make d e n =
    let k = behind (behind n x) m in
    same_text (two_kids n [] x m y ∙ ap (λ (l : List Lexeme). said n x ++ (l ++ said k y)) (lexeme (behind n x)))
    (two_told (Phrases.Binary i) (infix_op i) (make (said n x) (said k y)) (λ p q. refl) (λ p q. refl) (d n) (e k))

leaf_back : (o : Op) (kids : Forest) → sorts kids ≡ [] → BodyBack o no_kids → BodyBack o kids
leaf_back o kids e r = none_of (λ (ks : Forest). BodyBack o ks) kids e r

variable_back : (x : List ℕ) (primed : Bool) → BodyBack (op.Variable (record { name = x; primed = primed })) no_kids
variable_back x true n = record { phrase = Phrases.Variable x true; reads = Grammar.prim-primed; erased = refl; no_ills = refl }
variable_back x false n = record { phrase = Phrases.Variable x false; reads = Grammar.prim-name; erased = refl; no_ills = refl }

assign_back : (x : List ℕ) (primed : Bool) (a : Tree) → Back Term a → BodyBack (op.Assign (record { name = x; primed = primed })) (kid a no_kids)
assign_back x true a d n = same_text (one_kid n (opening (op.Assign (record { name = x; primed = true }))) (shown_at 1 a) (mark mark.Semicolon ∷ []))
    (one_told (Phrases.Assign x true) (op.Assign (record { name = x; primed = true })) (λ p. Grammar.stmt-assign_prime) (λ p. refl) (λ p. refl)
    (d 1 (n + 1 + 1 + 1)))
assign_back x false a d n = same_text (one_kid n (opening (op.Assign (record { name = x; primed = false }))) (shown_at 1 a) (mark mark.Semicolon ∷ []))
    (one_told (Phrases.Assign x false) (op.Assign (record { name = x; primed = false })) (λ p. Grammar.stmt-assign) (λ p. refl) (λ p. refl) (d 1 (n + 1 + 1)))

-- a symbol of all variables, or of all but one
any_term : (x : List ℕ) (y : Option (List ℕ)) (t : Tree) → erase (Phrases.Apply (Phrases.Any x (space_of y))) ≡ t →
    TellsTree prim (word x ∷ (unit_brackets y)) t
any_term x None t e n = record { phrase = Phrases.Apply (Phrases.Any x Phrases.Everywhere); reads = Grammar.prim-any; erased = e; no_ills = refl }
any_term x (Some y) t e n = record { phrase = Phrases.Apply (Phrases.Any x (Phrases.Except y)); reads = Grammar.prim-except; erased = e; no_ills = refl }

any_formula : (x : List ℕ) (y : Option (List ℕ)) (t : Tree) → erase (Phrases.Holds (Phrases.Any x (space_of y))) ≡ t →
    TellsTree atom (word x ∷ (unit_brackets y)) t
any_formula x None t e n = record { phrase = Phrases.Holds (Phrases.Any x Phrases.Everywhere); reads = Grammar.atom-any; erased = e; no_ills = refl }
any_formula x (Some y) t e n = record { phrase = Phrases.Holds (Phrases.Any x (Phrases.Except y)); reads = Grammar.atom-except; erased = e; no_ills = refl }

context_back : (s : Sym) → is_sym_of Quant s ≡ true → (a : Tree) → Back Formula a → BodyBack (op.Predicational s) (kid a no_kids)
context_back s h a d n =
    let c = d 1 (n + 1 + 1) in
    same_text (one_kid n (opening (op.Predicational s)) (shown_at 1 a) (closing (op.Predicational s)))
    (record {
      phrase = Phrases.Context s.name c.phrase;
      reads = Grammar.atom-context c.reads;
      erased = ap (λ (y : Sym). node (op.Predicational y) (kid (erase c.phrase) no_kids)) (bare_symbol Quant s h (λ m. refl) refl)
          ∙ ap (λ (t : Tree). node (op.Predicational s) (kid t no_kids)) c.erased;
      no_ills = c.no_ills;
    })

body_back : (o : Op) (kids : Forest) → Fits o (sorts kids) → AllKids Back kids → AllWellMade kids → BodyBack o kids
body_back (op.Variable v) kids e all w = leaf_back (op.Variable v) kids e.kids_fit (variable_back v.name v.primed)
body_back (op.Number d) kids e all w = leaf_back (op.Number d) kids e.kids_fit
    (λ n. record { phrase = Phrases.Literal d; reads = Grammar.prim-number; erased = refl; no_ills = refl })
body_back (op.Dot i) kids e all w = leaf_back (op.Dot i) kids e.kids_fit
    (λ n. record { phrase = Phrases.Argument i; reads = Grammar.prim-dot; erased = refl; no_ills = refl })
body_back (op.UnitFun s) kids e all w = leaf_back (op.UnitFun s) kids e.kids_fit
    (λ n. same_text (ap (λ (l : List Piece). said n (word s.name ∷ l)) {x = unit_brackets s.taboo} refl)
    (any_term s.name s.taboo (node (op.UnitFun s) no_kids) (ap (λ (y : Sym). node (op.UnitFun y) no_kids) (unit_symbol UnitFunc s e.parts_fit (λ m. refl))) n))
body_back (op.Apply s) kids e all w = apply_back s kids e.parts_fit e.kids_fit all
body_back op.Neg kids e all w = one_of Back (BodyBack op.Neg) Term kids e.kids_fit all
    (λ a d n. same_text (last_kid n (opening op.Neg) (shown_at 3 a))
    (one_told Phrases.Negate op.Neg (λ p. Grammar.neg-minus) (λ p. refl) (λ p. refl) (d 3 (n + 1))))
body_back op.Diff kids e all w = one_of Back (BodyBack op.Diff) Term kids e.kids_fit all
    (λ a d n. same_text (one_kid n (opening op.Diff) (shown_at 1 a) (closing op.Diff))
    (one_told Phrases.Diff op.Diff (λ p. Grammar.prim-diff) (λ p. refl) (λ p. refl) (d 1 (n + 1))))
body_back op.Add kids e all w = two_of Back (BodyBack op.Add) Term Term kids e.kids_fit all
    (λ a b d f. around sign.Add (between op.Add) (shown_at 1 a) (shown_at 2 b) (λ n. refl) (λ s r p q. Grammar.term-add) (d 1) (f 2))
body_back op.Sub kids e all w = two_of Back (BodyBack op.Sub) Term Term kids e.kids_fit all
    (λ a b d f. around sign.Sub (between op.Sub) (shown_at 1 a) (shown_at 2 b) (λ n. refl) (λ s r p q. Grammar.term-sub) (d 1) (f 2))
body_back op.Mul kids e all w = two_of Back (BodyBack op.Mul) Term Term kids e.kids_fit all
    (λ a b d f. around sign.Mul (between op.Mul) (shown_at 2 a) (shown_at 3 b) (λ n. refl) (λ s r p q. Grammar.mul-times) (d 2) (f 3))
body_back op.Div kids e all w = two_of Back (BodyBack op.Div) Term Term kids e.kids_fit all
    (λ a b d f. around sign.Div (between op.Div) (shown_at 2 a) (shown_at 3 b) (λ n. refl) (λ s r p q. Grammar.mul-over) (d 2) (f 3))
body_back op.Pow kids e all w = two_of Back (BodyBack op.Pow) Term Term kids e.kids_fit all
    (λ a b d f. around sign.Pow (between op.Pow) (shown_at 5 a) (shown_at 3 b) (λ n. refl) (λ s r p q. Grammar.pow-power) (d 5) (f 3))
body_back op.True kids e all w = leaf_back op.True kids e.kids_fit
    (λ n. record { phrase = Phrases.Truth; reads = Grammar.atom-true; erased = refl; no_ills = refl })
body_back op.False kids e all w = leaf_back op.False kids e.kids_fit
    (λ n. record { phrase = Phrases.Falsity; reads = Grammar.atom-false; erased = refl; no_ills = refl })
body_back op.Hole kids e all w = leaf_back op.Hole kids e.kids_fit
    (λ n. record { phrase = Phrases.Hole; reads = Grammar.atom-hole; erased = refl; no_ills = refl })
body_back (op.UnitPred s) kids e all w =
    leaf_back (op.UnitPred s) kids e.kids_fit
    (λ n. same_text (ap (λ (l : List Piece). said n (word s.name ∷ l)) {x = unit_brackets s.taboo} refl)
    (any_formula s.name s.taboo (node (op.UnitPred s) no_kids)
    (ap (λ (y : Sym). node (op.UnitPred y) no_kids) (unit_symbol UnitPred s e.parts_fit (λ m. refl))) n))
body_back (op.Holds s) kids e all w = holds_back s kids e.parts_fit e.kids_fit all
body_back op.Eq kids e all w = two_of Back (BodyBack op.Eq) Term Term kids e.kids_fit all
    (λ a b d f. around sign.Equal (between op.Eq) (shown_at 1 a) (shown_at 1 b) (λ n. refl) (λ s r p q. Grammar.atom-compare Grammar.cmp-equal) (d 1) (f 1))
body_back op.Ne kids e all w = two_of Back (BodyBack op.Ne) Term Term kids e.kids_fit all
    (λ a b d f. around sign.NotEqual (between op.Ne) (shown_at 1 a) (shown_at 1 b) (λ n. refl) (λ s r p q. Grammar.atom-compare Grammar.cmp-not_equal)
    (d 1) (f 1))
body_back op.Ge kids e all w = two_of Back (BodyBack op.Ge) Term Term kids e.kids_fit all
    (λ a b d f. around sign.AtLeast (between op.Ge) (shown_at 1 a) (shown_at 1 b) (λ n. refl) (λ s r p q. Grammar.atom-compare Grammar.cmp-at_least)
    (d 1) (f 1))
body_back op.Gt kids e all w = two_of Back (BodyBack op.Gt) Term Term kids e.kids_fit all
    (λ a b d f. around sign.Greater (between op.Gt) (shown_at 1 a) (shown_at 1 b) (λ n. refl) (λ s r p q. Grammar.atom-compare Grammar.cmp-greater) (d 1) (f 1))
body_back op.Le kids e all w = two_of Back (BodyBack op.Le) Term Term kids e.kids_fit all
    (λ a b d f. around sign.AtMost (between op.Le) (shown_at 1 a) (shown_at 1 b) (λ n. refl) (λ s r p q. Grammar.atom-compare Grammar.cmp-at_most) (d 1) (f 1))
body_back op.Lt kids e all w = two_of Back (BodyBack op.Lt) Term Term kids e.kids_fit all
    (λ a b d f. around sign.Less (between op.Lt) (shown_at 1 a) (shown_at 1 b) (λ n. refl) (λ s r p q. Grammar.atom-compare Grammar.cmp-less) (d 1) (f 1))
body_back (op.Predicational s) kids e all w = one_of Back (BodyBack (op.Predicational s)) Formula kids e.kids_fit all (context_back s e.parts_fit)
body_back op.Not kids e all w = one_of Back (BodyBack op.Not) Formula kids e.kids_fit all
    (λ a d n. same_text (last_kid n (opening op.Not) (shown_at 5 a)) (one_told Phrases.Not op.Not (λ p. Grammar.unf-not) (λ p. refl) (λ p. refl) (d 5 (n + 1))))
body_back op.DiffF kids e all w = one_of Back (BodyBack op.DiffF) Formula kids e.kids_fit all
    (λ a d n. same_text (one_kid n (opening op.DiffF) (shown_at 1 a) (closing op.DiffF))
    (one_told Phrases.DiffF op.DiffF (λ p. Grammar.atom-diff) (λ p. refl) (λ p. refl) (d 1 (n + 1))))
body_back (op.Forall x) kids e all w = one_of Back (BodyBack (op.Forall x)) Formula kids e.kids_fit all
    (λ a d n. same_text (last_kid n (opening (op.Forall x)) (shown_at 5 a))
    (one_told (Phrases.Forall x) (op.Forall x) (λ p. Grammar.unf-forall) (λ p. refl) (λ p. refl) (d 5 (n + 1 + 1))))
body_back (op.Exists x) kids e all w = one_of Back (BodyBack (op.Exists x)) Formula kids e.kids_fit all
    (λ a d n. same_text (last_kid n (opening (op.Exists x)) (shown_at 5 a))
    (one_told (Phrases.Exists x) (op.Exists x) (λ p. Grammar.unf-exists) (λ p. refl) (λ p. refl) (d 5 (n + 1 + 1))))
body_back op.And kids e all w = two_of Back (BodyBack op.And) Formula Formula kids e.kids_fit all
    (λ a b d f. around sign.And (between op.And) (shown_at 5 a) (shown_at 4 b) (λ n. refl) (λ s r p q. Grammar.conj-and) (d 5) (f 4))
body_back op.Or kids e all w = two_of Back (BodyBack op.Or) Formula Formula kids e.kids_fit all
    (λ a b d f. around sign.Or (between op.Or) (shown_at 4 a) (shown_at 3 b) (λ n. refl) (λ s r p q. Grammar.disj-or) (d 4) (f 3))
body_back op.Imply kids e all w = two_of Back (BodyBack op.Imply) Formula Formula kids e.kids_fit all
    (λ a b d f. around sign.Imply (between op.Imply) (shown_at 3 a) (shown_at 2 b) (λ n. refl) (λ s r p q. Grammar.imp-imply) (d 3) (f 2))
body_back op.Equiv kids e all w = two_of Back (BodyBack op.Equiv) Formula Formula kids e.kids_fit all
    (λ a b d f. around sign.Equiv (between op.Equiv) (shown_at 2 a) (shown_at 1 b) (λ n. refl) (λ s r p q. Grammar.formula-equiv) (d 2) (f 1))
body_back op.Box kids e all w = two_of Back (BodyBack op.Box) Program Formula kids e.kids_fit all
    (λ a b d f n. same_text (two_kids n (opening op.Box) (shown_at 1 a) (between op.Box) (shown_at 5 b))
    (two_told Phrases.Box op.Box (λ p q. Grammar.unf-box) (λ p q. refl) (λ p q. refl) (d 1 (n + 1)) (f 5 (behind (n + 1) (shown_at 1 a) + 1))))
body_back op.Dia kids e all w = two_of Back (BodyBack op.Dia) Program Formula kids e.kids_fit all
    (λ a b d f n. same_text (two_kids n (opening op.Dia) (shown_at 1 a) (between op.Dia) (shown_at 5 b))
    (two_told Phrases.Dia op.Dia (λ p q. Grammar.unf-dia) (λ p q. refl) (λ p q. refl) (d 1 (n + 1)) (f 5 (behind (n + 1) (shown_at 1 a) + 1))))
body_back (op.Const s) kids e all w = leaf_back (op.Const s) kids e.kids_fit
    (λ n. record {
      phrase = Phrases.Const s.name;
      reads = Grammar.stmt-const;
      erased =
          ap (λ (y : Sym). node (op.Const y) no_kids) (bare_symbol Prog s e.parts_fit (λ m. refl) refl);
      no_ills = refl;
    })
body_back (op.Assign v) kids e all w = one_of Back (BodyBack (op.Assign v)) Term kids e.kids_fit all (assign_back v.name v.primed)
body_back (op.Any x) kids e all w = leaf_back (op.Any x) kids e.kids_fit
    (λ n. record { phrase = Phrases.AssignAny x; reads = Grammar.stmt-any; erased = refl; no_ills = refl })
body_back op.Test kids e all w = one_of Back (BodyBack op.Test) Formula kids e.kids_fit all
    (λ a d n. same_text (one_kid n (opening op.Test) (shown_at 1 a) (closing op.Test))
    (one_told Phrases.Test op.Test (λ p. Grammar.stmt-test) (λ p. refl) (λ p. refl) (d 1 (n + 1))))
body_back (op.System items) kids e all w = system_back items kids e.parts_fit e.kids_fit all w
body_back op.Choice kids e all w = two_of Back (BodyBack op.Choice) Program Program kids e.kids_fit all
    (λ a b d f. around sign.Choice (between op.Choice) (shown_at 2 a) (shown_at 1 b) (λ n. refl) (λ s r p q. Grammar.prog-choice) (d 2) (f 1))
body_back op.Seq kids e all w = two_of Back (BodyBack op.Seq) Program Program kids e.kids_fit all
    (λ a b d f n. same_text (two_kids n [] (shown_at 3 a) [] (shown_at 2 b))
    (two_told Phrases.Then op.Seq (λ p q. Grammar.seq-then) (λ p q. refl) (λ p q. refl) (d 3 n) (f 2 (behind n (shown_at 3 a)))))
body_back op.Loop kids e all w = one_of Back (BodyBack op.Loop) Program kids e.kids_fit all
    (λ a d n. same_text (one_kid n (opening op.Loop) (shown_at 1 a) (closing op.Loop))
    (one_told Phrases.Loop op.Loop (λ p. loop_stmt) (λ p. refl) (λ p. refl) (d 1 (n + 1))))

mutual
  pub back : (t : Tree) → WellMade t → Back (sort t) t
  back (node o kids) w = placed o kids (body_back o kids w.0 (all_back kids w.1) w.1)

  pub all_back : (kids : Forest) → AllWellMade kids → AllKids Back kids
  all_back no_kids w = tt
  all_back (kid t rest) w = (back t w.0, all_back rest w.1)
