-- The grammar, one case a production.
use Rattle.std.specs.Prelude.{ℕ, true, false, List, [], ◌∷◌, ◌++◌}
use Rattle.dlk_tree.specs.declared.op.Num.{Num}
use Rattle.dlk_grammar.specs.declared.token.Infix.{Infix}
use Rattle.dlk_grammar.specs.declared.token.Infix.TheVariants.{Equiv, Imply, Or, And, Equal, NotEqual, AtLeast, Greater, AtMost, Less, Add, Sub, Mul}
use Rattle.dlk_grammar.specs.declared.token.Infix.TheVariants.{Div, Pow, Choice}
use Rattle.dlk_grammar.specs.Lexemes.{Word, Lexeme, Name, Number, Dot, Blank, True, False, All, Exist, Invariant, RoundBars, RoundBar, BarRound}
use Rattle.dlk_grammar.specs.Lexemes.{BraceBar, BarBrace, Open, Close, OpenBox, CloseBox, OpenBrace, CloseBrace, Bang, Prime, Gets, Query, Semi}
use Rattle.dlk_grammar.specs.Lexemes.{Comma, Turnstile, Op}
use Rattle.dlk_grammar.specs.Phrases.{Everywhere, Except, Phrase, Literal, Argument, Variable, Apply, Negate, Diff, Truth, Falsity, Hole, Holds}
use Rattle.dlk_grammar.specs.Phrases.{Context, Not, DiffF, Forall, Exists, Box, Dia, Binary, Const, Assign, AssignAny, Test, Then, Loop, System}
use Rattle.dlk_grammar.specs.Phrases.{Noted, Phrases, none, snoc, Call, Any, Item, Evolve, Flow, Items, no_items, add}

-- the nonterminals of formulas, terms and programs: `disj` and `conj` for or and and
pub data Nonterminal : Type 0 where
  formula : Nonterminal
  imp : Nonterminal
  disj : Nonterminal
  conj : Nonterminal
  unf : Nonterminal
  atom : Nonterminal
  term : Nonterminal
  mul : Nonterminal
  neg : Nonterminal
  pow : Nonterminal
  prim : Nonterminal
  prog : Nonterminal
  seq : Nonterminal
  stmt : Nonterminal

mutual
  -- Reads f tokens t: the tokens are a text of f, and t is the phrase that they say.
  pub data Reads : Nonterminal → List Lexeme → Phrase → Type 0 where
    -- formula = imp | imp "<->" formula
    formula-imp : {s : List Lexeme} {a : Phrase} → Reads imp s a → Reads formula s a
    formula-equiv : {s r : List Lexeme} {a b : Phrase} → Reads imp s a → Reads formula r b → Reads formula (s ++ Op Equiv ∷ r) (Binary Equiv a b)
    -- imp = or | or "->" imp
    imp-disj : {s : List Lexeme} {a : Phrase} → Reads disj s a → Reads imp s a
    imp-imply : {s r : List Lexeme} {a b : Phrase} → Reads disj s a → Reads imp r b → Reads imp (s ++ Op Imply ∷ r) (Binary Imply a b)
    -- or = and | and "|" or
    disj-conj : {s : List Lexeme} {a : Phrase} → Reads conj s a → Reads disj s a
    disj-or : {s r : List Lexeme} {a b : Phrase} → Reads conj s a → Reads disj r b → Reads disj (s ++ Op Or ∷ r) (Binary Or a b)
    -- and = unf | unf "&" and
    conj-unf : {s : List Lexeme} {a : Phrase} → Reads unf s a → Reads conj s a
    conj-and : {s r : List Lexeme} {a b : Phrase} → Reads unf s a → Reads conj r b → Reads conj (s ++ Op And ∷ r) (Binary And a b)
    -- unf = "!" unf | "\forall" name unf | "\exists" name unf | "[" prog "]" unf | "<" prog ">" unf | atom
    unf-not : {s : List Lexeme} {a : Phrase} → Reads unf s a → Reads unf (Bang ∷ s) (Not a)
    unf-forall : {n : ℕ} {x : Word} {s : List Lexeme} {a : Phrase} → Reads unf s a → Reads unf (All ∷ Name n x ∷ s) (Forall x a)
    unf-exists : {n : ℕ} {x : Word} {s : List Lexeme} {a : Phrase} → Reads unf s a → Reads unf (Exist ∷ Name n x ∷ s) (Exists x a)
    unf-box : {s r : List Lexeme} {p a : Phrase} → Reads prog s p → Reads unf r a → Reads unf (OpenBox ∷ (s ++ CloseBox ∷ r)) (Box p a)
    unf-dia : {s r : List Lexeme} {p a : Phrase} → Reads prog s p → Reads unf r a → Reads unf (Op Less ∷ (s ++ Op Greater ∷ r)) (Dia p a)
    unf-atom : {s : List Lexeme} {a : Phrase} → Reads atom s a → Reads unf s a
    -- atom = "true" | "false" | "_" | term cmp term
    --      | name "(" ")" | name "(" term-list ")"
    --      | name "(||)" | name "(|" name "|)"
    --      | name "{" formula "}"
    --      | "(" formula ")" | "(" formula ")" "'"
    atom-true : Reads atom (True ∷ []) Truth
    atom-false : Reads atom (False ∷ []) Falsity
    atom-hole : Reads atom (Blank ∷ []) Hole
    atom-compare : {o : Infix} {s r : List Lexeme} {a b : Phrase} → Compares o → Reads term s a → Reads term r b → Reads atom (s ++ Op o ∷ r) (Binary o a b)
    atom-nullary : {n : ℕ} {x : Word} → Reads atom (Name n x ∷ Open ∷ Close ∷ []) (Holds (Call n x none))
    atom-holds : {n : ℕ} {x : Word} {s : List Lexeme} {l : Phrases} → ReadsList term s l → Reads atom (Name n x ∷ Open ∷ (s ++ Close ∷ [])) (Holds (Call n x l))
    atom-any : {n : ℕ} {x : Word} → Reads atom (Name n x ∷ RoundBars ∷ []) (Holds (Any x Everywhere))
    atom-except : {n m : ℕ} {x y : Word} → Reads atom (Name n x ∷ RoundBar ∷ Name m y ∷ BarRound ∷ []) (Holds (Any x (Except y)))
    atom-context : {n m : ℕ} {x : Word} {s : List Lexeme} {a : Phrase} → Reads formula s a →
        Reads atom (Name n x ∷ OpenBrace m ∷ (s ++ CloseBrace ∷ [])) (Context x a)
    atom-bracket : {s : List Lexeme} {a : Phrase} → Reads formula s a → Reads atom (Open ∷ (s ++ Close ∷ [])) a
    atom-diff : {s : List Lexeme} {a : Phrase} → Reads formula s a → Reads atom (Open ∷ (s ++ Close ∷ Prime ∷ [])) (DiffF a)
    -- term = mul | term "+" mul | term "-" mul
    term-mul : {s : List Lexeme} {a : Phrase} → Reads mul s a → Reads term s a
    term-add : {s r : List Lexeme} {a b : Phrase} → Reads term s a → Reads mul r b → Reads term (s ++ Op Add ∷ r) (Binary Add a b)
    term-sub : {s r : List Lexeme} {a b : Phrase} → Reads term s a → Reads mul r b → Reads term (s ++ Op Sub ∷ r) (Binary Sub a b)
    -- mul = neg | mul "*" neg | mul "/" neg
    mul-neg : {s : List Lexeme} {a : Phrase} → Reads neg s a → Reads mul s a
    mul-times : {s r : List Lexeme} {a b : Phrase} → Reads mul s a → Reads neg r b → Reads mul (s ++ Op Mul ∷ r) (Binary Mul a b)
    mul-over : {s r : List Lexeme} {a b : Phrase} → Reads mul s a → Reads neg r b → Reads mul (s ++ Op Div ∷ r) (Binary Div a b)
    -- neg = pow | "-" neg
    neg-pow : {s : List Lexeme} {a : Phrase} → Reads pow s a → Reads neg s a
    neg-minus : {s : List Lexeme} {a : Phrase} → Reads neg s a → Reads neg (Op Sub ∷ s) (Negate a)
    -- pow = prim | prim "^" neg
    pow-prim : {s : List Lexeme} {a : Phrase} → Reads prim s a → Reads pow s a
    pow-power : {s r : List Lexeme} {a b : Phrase} → Reads prim s a → Reads neg r b → Reads pow (s ++ Op Pow ∷ r) (Binary Pow a b)
    -- prim = number | dot | name | name "'"
    --      | name "(" ")" | name "(" term-list ")"
    --      | name "(||)" | name "(|" name "|)"
    --      | "(" term ")" | "(" term ")" "'"
    prim-number : {n : Num} → Reads prim (Number n ∷ []) (Literal n)
    prim-dot : {n : ℕ} → Reads prim (Dot n ∷ []) (Argument n)
    prim-name : {n : ℕ} {x : Word} → Reads prim (Name n x ∷ []) (Variable x false)
    prim-primed : {n : ℕ} {x : Word} → Reads prim (Name n x ∷ Prime ∷ []) (Variable x true)
    prim-nullary : {n : ℕ} {x : Word} → Reads prim (Name n x ∷ Open ∷ Close ∷ []) (Apply (Call n x none))
    prim-apply : {n : ℕ} {x : Word} {s : List Lexeme} {l : Phrases} → ReadsList term s l → Reads prim (Name n x ∷ Open ∷ (s ++ Close ∷ [])) (Apply (Call n x l))
    prim-any : {n : ℕ} {x : Word} → Reads prim (Name n x ∷ RoundBars ∷ []) (Apply (Any x Everywhere))
    prim-except : {n m : ℕ} {x y : Word} → Reads prim (Name n x ∷ RoundBar ∷ Name m y ∷ BarRound ∷ []) (Apply (Any x (Except y)))
    prim-bracket : {s : List Lexeme} {a : Phrase} → Reads term s a → Reads prim (Open ∷ (s ++ Close ∷ [])) a
    prim-diff : {s : List Lexeme} {a : Phrase} → Reads term s a → Reads prim (Open ∷ (s ++ Close ∷ Prime ∷ [])) (Diff a)
    -- prog = seq | seq "++" prog
    prog-seq : {s : List Lexeme} {a : Phrase} → Reads seq s a → Reads prog s a
    prog-choice : {s r : List Lexeme} {a b : Phrase} → Reads seq s a → Reads prog r b → Reads prog (s ++ Op Choice ∷ r) (Binary Choice a b)
    -- seq = stmt | stmt seq
    seq-stmt : {s : List Lexeme} {a : Phrase} → Reads stmt s a → Reads seq s a
    seq-then : {s r : List Lexeme} {a b : Phrase} → Reads stmt s a → Reads seq r b → Reads seq (s ++ r) (Then a b)
    -- stmt = name ";" | name ":=" term ";" | name "'" ":=" term ";" | name ":=" "*" ";" | "?" formula ";" | group
    -- group = brace, then "*" or nothing, then inv or nothing, then ";" or nothing
    stmt-const : {n : ℕ} {x : Word} → Reads stmt (Name n x ∷ Semi ∷ []) (Const x)
    stmt-assign : {n : ℕ} {x : Word} {s : List Lexeme} {a : Phrase} → Reads term s a → Reads stmt (Name n x ∷ Gets ∷ (s ++ Semi ∷ [])) (Assign x false a)
    stmt-assign_prime : {n : ℕ} {x : Word} {s : List Lexeme} {a : Phrase} → Reads term s a →
        Reads stmt (Name n x ∷ Prime ∷ Gets ∷ (s ++ Semi ∷ [])) (Assign x true a)
    stmt-any : {n : ℕ} {x : Word} → Reads stmt (Name n x ∷ Gets ∷ Op Mul ∷ Semi ∷ []) (AssignAny x)
    stmt-test : {s : List Lexeme} {a : Phrase} → Reads formula s a → Reads stmt (Query ∷ (s ++ Semi ∷ [])) (Test a)
    stmt-group : {s q i e : List Lexeme} {a b c : Phrase} → ReadsBrace s a → ReadsStar q a b → ReadsInv i b c → ReadsSemi e →
        Reads stmt (s ++ (q ++ (i ++ e))) c

  -- cmp = "=" | "!=" | ">=" | ">" | "<=" | "<"
  pub data Compares : Infix → Type 0 where
    cmp-equal : Compares Equal
    cmp-not_equal : Compares NotEqual
    cmp-at_least : Compares AtLeast
    cmp-greater : Compares Greater
    cmp-at_most : Compares AtMost
    cmp-less : Compares Less

  -- X-list = X | X-list "," X
  pub data ReadsList : Nonterminal → List Lexeme → Phrases → Type 0 where
    list-one : {f : Nonterminal} {s : List Lexeme} {a : Phrase} → Reads f s a → ReadsList f s (snoc none a)
    list-more : {f : Nonterminal} {s r : List Lexeme} {l : Phrases} {a : Phrase} → ReadsList f s l → Reads f r a → ReadsList f (s ++ Comma ∷ r) (snoc l a)

  -- brace = "{" prog "}" | "{" item-list "}" | "{" item-list "&" formula "}"
  pub data ReadsBrace : List Lexeme → Phrase → Type 0 where
    brace-prog : {n : ℕ} {s : List Lexeme} {a : Phrase} → Reads prog s a → ReadsBrace (OpenBrace n ∷ (s ++ CloseBrace ∷ [])) a
    brace-items : {n : ℕ} {s : List Lexeme} {l : Items} → ReadsItems s l → ReadsBrace (OpenBrace n ∷ (s ++ CloseBrace ∷ [])) (System n l Truth)
    brace-domain : {n : ℕ} {s r : List Lexeme} {l : Items} {a : Phrase} → ReadsItems s l → Reads formula r a →
        ReadsBrace (OpenBrace n ∷ (s ++ Op And ∷ (r ++ CloseBrace ∷ []))) (System n l a)

  -- item-list = item | item-list "," item
  pub data ReadsItems : List Lexeme → Items → Type 0 where
    items-one : {s : List Lexeme} {i : Item} → ReadsItem s i → ReadsItems s (add no_items i)
    items-more : {s r : List Lexeme} {l : Items} {i : Item} → ReadsItems s l → ReadsItem r i → ReadsItems (s ++ Comma ∷ r) (add l i)

  -- item = name "'" "=" term | name | name "{|" name "|}"
  pub data ReadsItem : List Lexeme → Item → Type 0 where
    item-evolve : {n : ℕ} {x : Word} {s : List Lexeme} {a : Phrase} → Reads term s a → ReadsItem (Name n x ∷ Prime ∷ Op Equal ∷ s) (Evolve x a)
    item-flow : {n : ℕ} {x : Word} → ReadsItem (Name n x ∷ []) (Flow x Everywhere)
    item-except : {n m : ℕ} {x y : Word} → ReadsItem (Name n x ∷ BraceBar ∷ Name m y ∷ BarBrace ∷ []) (Flow x (Except y))

  -- "*" or nothing
  pub data ReadsStar : List Lexeme → Phrase → Phrase → Type 0 where
    star-none : {a : Phrase} → ReadsStar [] a a
    star-loop : {a : Phrase} → ReadsStar (Op Mul ∷ []) a (Loop a)

  -- inv or nothing: inv = "@invariant" "(" formula-list ")"
  pub data ReadsInv : List Lexeme → Phrase → Phrase → Type 0 where
    inv-none : {a : Phrase} → ReadsInv [] a a
    inv-some : {s : List Lexeme} {a : Phrase} {l : Phrases} → ReadsList formula s l → ReadsInv (Invariant ∷ Open ∷ (s ++ Close ∷ [])) a (Noted a l)

  -- ";" or nothing
  pub data ReadsSemi : List Lexeme → Type 0 where
    semi-none : ReadsSemi []
    semi-some : ReadsSemi (Semi ∷ [])

-- side = nothing | formula-list
pub data ReadsSide : List Lexeme → Phrases → Type 0 where
  side-nothing : ReadsSide [] none
  side-list : {s : List Lexeme} {l : Phrases} → ReadsList formula s l → ReadsSide s l

-- the phrases of a sequent's two sides
pub data Sides : Type 0 where
  Turned : Phrases → Phrases → Sides

-- sequent = side "==>" side
pub data ReadsSequent : List Lexeme → Sides → Type 0 where
  sequent-sides : {s r : List Lexeme} {l m : Phrases} → ReadsSide s l → ReadsSide r m → ReadsSequent (s ++ Turnstile ∷ r) (Turned l m)

-- An expression is a formula, a program, or a term that is no formula.
pub data ReadsExpression : List Lexeme → Phrase → Type 0 where
  as-formula : {s : List Lexeme} {a : Phrase} → Reads formula s a → ReadsExpression s a
  as-program : {s : List Lexeme} {a : Phrase} → Reads prog s a → ReadsExpression s a
  as-term : {s : List Lexeme} {a : Phrase} → Reads term s a → ((b : Phrase) → ¬ Reads formula s b) → ReadsExpression s a
