-- The parts of the texts of a script.
use Rattle.std.proofs.Common.{◌≡◌, ◌≢◌, ℕ, zero, suc, ◌+◌, ◌-◌, ◌<◌, length, get_or, drop, drop-cons, add-one, Bool, true, false, cond, ne_eqb, List}
use Rattle.std.proofs.Common.{[], ◌∷◌, ◌++◌, map, Option, Some, refl, sym, ap, ◌∙◌, append_assoc, arith, codes}
use Rattle.std.specs.Prelude.{if◌then◌else◌, ◌==◌}
use Rattle.std.proofs.lemmas.List.{append-nil}
use Rattle.dlk_tree.specs.Trees.{Tree, Forest, node, no_kids, kid, root, WellMade}
use Rattle.dlk_tree.specs.declared.op.Num.{Num}
use Rattle.dlk_tree.specs.declared.op.Op.TheVariants.{Number}
use Rattle.dlk_tree.specs.Table.{kid_sorts}
use Rattle.dlk_tree.specs.Trees.{sorts}
use Rattle.dlk_grammar.specs.Shown as canonical
use Rattle.dlk_calculus.specs.Sequents.{Sequent}
use Rattle.dlk_print.proofs.Left.{Left}
use Rattle.dlk_smt.specs.Smt.{Expr, real, bind, call, power, line, shown, shown_all, times, symbol, base_symbol, declaration, declarations, assertion}
use Rattle.dlk_smt.specs.Smt.{assertions, variable_symbol, function_symbol, free_variables, functions, expression, denied, smt}

-- one name of a power's base more
pub one_base : (n : ℕ) → n ≢ 0 → codes " |e|" ++ shown_all (times (n - 1) (symbol base_symbol)) ≡ shown_all (times n (symbol base_symbol))
one_base zero h = absurd (h refl)
one_base (suc n) h = let less : suc n - 1 ≡ n = omega arith in ap (λ k. codes " |e|" ++ shown_all (times k (symbol base_symbol))) less

-- a number's canonical text
pub number_text : (t : Tree) (n : Num) → WellMade t → root t ≡ Number n → canonical.spell (canonical.shown t) ≡ canonical.literal n
number_text (node op kids) n w e = ap (λ o. canonical.spell (canonical.shown (node o kids))) e ∙ by kids (w.0.kids_fit ∙ ap kid_sorts e)
  where
    by : (kids : Forest) → sorts kids ≡ [] → canonical.spell (canonical.shown (node (Number n) kids)) ≡ canonical.literal n
    by no_kids h = append-nil (canonical.literal n)
    by (kid t rest) h = absurd (cc)

power_text : (n : ℕ) (e : Expr)
    → codes "(let ((|e| " ++ (shown e ++ (codes ")) (*" ++ (shown_all (times n (symbol base_symbol)) ++ codes "))")))
    ≡ shown (bind base_symbol e (call (codes "*") (times n (symbol base_symbol))))
power_text n e = ap (λ l. codes "(let ((|e| " ++ (shown e ++ (codes ")) (*" ++ l)))
    (sym (append_assoc (shown_all (times n (symbol base_symbol))) (codes ")") (codes ")")))

pub number_parts : (n : Num) (text end : List ℕ) → text ≡ canonical.literal n → end ≡ if◌then◌else◌ (n.scale == 0) (codes ".0") [] → text ++ end ≡ real n
number_parts n text end t e = λ i. t i ++ e i

-- a power whose exponent isn't 1
pub power_parts : (n : ℕ) (m : Option ℕ) (e : Expr) → Some n ≡ m → n ≢ 1 →
    codes "(let ((|e| " ++ (shown e ++ (codes ")) (*" ++ (shown_all (times n (symbol base_symbol)) ++ codes "))"))) ≡ shown (power m e)
power_parts n m e h g = power_text n e ∙ ap (λ b. shown (cond b e (bind base_symbol e (call (codes "*") (times n (symbol base_symbol))))))
    (sym (ne_eqb n 1 g)) ∙ ap (λ o. shown (power o e)) h

-- nothing is left of a text
pub all_left : {old text now : List ℕ} → Left old text now [] → now ≡ old ++ text
all_left {old} {text} {now} a = sym (append-nil now) ∙ a.left

-- a line in three parts
pub line_parts : (a s b : List ℕ) → a ++ (s ++ (b ++ 10 ∷ [])) ≡ line (a ++ (s ++ b))
line_parts a s b = sym (simp append_assoc)

denied_end : (e : List ℕ) → e ++ (codes "))" ++ 10 ∷ []) ≡ (((e ++ []) ++ codes ")") ++ codes ")") ++ 10 ∷ []
denied_end e = sym (ap (λ l. ((l ++ codes ")") ++ codes ")") ++ 10 ∷ []) (append-nil e) ∙ append_assoc (e ++ codes ")") (codes ")") (10 ∷ []) ∙
    append_assoc e (codes ")") (codes ")" ++ 10 ∷ []))

pub denial_parts : (e : List ℕ)
    → codes "(assert (not " ++ (e ++ (codes "))" ++ 10 ∷ [])) ≡ line (codes "(assert " ++ ((codes "(not " ++ ((e ++ []) ++ codes ")")) ++ codes ")"))
denial_parts e = ap (λ l. codes "(assert (not " ++ l) (denied_end e)

pub declarations-append : (xs ys : List (List ℕ)) → declarations (xs ++ ys) ≡ declarations xs ++ declarations ys
declarations-append [] ys = refl
declarations-append (x ∷ xs) ys = ap (λ l. declaration x ++ l) (declarations-append xs ys) ∙ sym
    (append_assoc (declaration x) (declarations xs) (declarations ys))

pub assertions-append : (xs ys : List Expr) → assertions (xs ++ ys) ≡ assertions xs ++ assertions ys
assertions-append [] ys = refl
assertions-append (x ∷ xs) ys = ap (λ l. assertion x ++ l) (assertions-append xs ys) ∙ sym (append_assoc (assertion x) (assertions xs) (assertions ys))

-- the elements from place i on: the i-th, and the later ones
pub drop_next : {X : Type 0} (xs : List X) (i : ℕ) (x : X) → x ≡ get_or xs i x → i < length xs → drop i xs ≡ x ∷ drop (i + 1) xs
drop_next xs i x e h = rw add-one (drop-cons xs i x h ∙ ap (λ y. y ∷ drop (suc i) xs) (sym e))

-- one element that is kept or left out, and the later ones
pub declarations-filter : {X : Type 0} (f : X → List ℕ) (b : Bool) (x : X) (xs : List X)
    → declarations (map f (cond b (x ∷ xs) xs)) ≡ cond b (declaration (f x)) [] ++ declarations (map f xs)
declarations-filter f true x xs = refl
declarations-filter f false x xs = refl

-- a script in parts
pub smt_parts : (s : Sequent) → line (codes "(set-logic NRA)") ++ (declarations (map variable_symbol (free_variables s)) ++
    (declarations (map function_symbol (functions s)) ++ (assertions (map expression s.ante) ++
    (assertions (map denied s.succ) ++ line (codes "(check-sat)"))))) ≡ smt s
smt_parts s =
    let vs = map variable_symbol (free_variables s) in
    let fs = map function_symbol (functions s) in
    let ls = map expression s.ante in
    let rs = map denied s.succ in
    sym (rw (declarations-append vs fs, assertions-append ls rs) (ap (λ l. line (codes "(set-logic NRA)") ++ l) (simp append_assoc)))

-- a quantifier
pub quantified_parts : (word s f : List ℕ)
    → codes "(" ++ (word ++ (codes " ((" ++ (s ++ (codes " Real)) " ++ (f ++ codes ")")))))
    ≡ codes "(" ++ (word ++ (codes " ((" ++ (s ++ (codes " Real)) " ++ (f ++ codes ")")))))
quantified_parts word s f = refl
