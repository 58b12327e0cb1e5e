-- Symbols by themselves, and their argument dots from one place on.
use Rattle.std.proofs.Common.{◌≡◌, ◌⊎◌, inl, inr, ℕ, suc, ◌+◌, ◌-◌, ◌<◌, ◌≤◌, List, [], ◌∷◌, ◌++◌, map, refl, sym, ap, ◌∙◌, arith, append_assoc, codes, decimal}
use Rattle.std.specs.List.{range_with_len}
use Rattle.std.proofs.lemmas.List.{append-nil}
use Rattle.dlk_tree.specs.declared.op.Kind.TheVariants.{Func, UnitFunc, Pred, UnitPred, Ode}
use Rattle.dlk_tree.specs.declared.op.Sym.{Sym}
use Rattle.dlk_grammar.specs.Shown.{Piece, one, mark, spell, joined, unit_brackets, ode_brackets}
use Rattle.dlk_grammar.specs.Symbols.{dots, shown_symbol}
use Rattle.dlk_grammar.specs.declared.token.Mark.TheVariants.{CloseRound, CloseBrace, Comma}
use Rattle.dlk_grammar.specs.declared.token.TokenKind.TheVariants.{Dot}
use Rattle.dlk_print.specs.Printed.{gap}
use Rattle.dlk_print.proofs.Left.{Left, same_rest, unbegun}
use Rattle.dlk_print.proofs.Joined.{spell-append, pending, pending-next, pending-none}

abbrev dots_from : ℕ → ℕ → List (List Piece)
dots_from i count = map (λ n. one (Dot n) ∷ []) (range_with_len i count)

-- the dots from the i-th on, what stands between them, and the bracket behind them
abbrev pub later_dots : ℕ → ℕ → List ℕ
later_dots i count = spell (pending (λ t. t) (mark Comma ∷ []) i (dots_from i (count - i))) ++ 41 ∷ []

pub unbegun_dots : (old : List ℕ) (count : ℕ) → Left old (spell (dots count)) old (40 ∷ [] ++ later_dots 0 count)
unbegun_dots old count =
    let all : count - 0 ≡ count = omega arith in
    unbegun old (rw all (ap (λ l. 40 ∷ l) (sym (spell-append (joined (mark Comma ∷ []) (dots_from 0 count)) (mark CloseRound ∷ [])))))

-- what stands before the i-th dot, the dot, and the later ones
pub at_dot : {old text now : List ℕ} (i count : ℕ) → i < count → Left old text now (later_dots i count) →
    Left old text now (gap i (44 ∷ []) ++ ((codes "._" ++ decimal i) ++ later_dots (i + 1) count))
at_dot i count h a =
    let more : count - i ≡ suc (count - (i + 1)) = omega arith in
    let later = dots_from (i + 1) (count - (i + 1)) in
    let dot = codes "._" ++ decimal i in
    let behind = spell (pending (λ t. t) (mark Comma ∷ []) (i + 1) later) in
    same_rest (
    ap (λ n. spell (pending (λ t. t) (mark Comma ∷ []) i (dots_from i n)) ++ 41 ∷ []) more
    ∙ ap (λ l. l ++ 41 ∷ []) (pending-next (λ t. t) (mark Comma ∷ []) i (one (Dot i) ∷ []) later)
    ∙ append_assoc (gap i (44 ∷ [])) ((dot ++ []) ++ behind) (41 ∷ [])
    ∙ ap (λ l. gap i (44 ∷ []) ++ l) (append_assoc (dot ++ []) behind (41 ∷ []) ∙ ap (λ d. d ++ (behind ++ 41 ∷ [])) (append-nil dot))) a

-- no dot is left
pub past_dots : {old text now : List ℕ} (i count : ℕ) → count ≤ i → Left old text now (later_dots i count) → Left old text now (41 ∷ [])
past_dots i count h a =
    let none : count - i ≡ 0 = omega arith in
    same_rest (ap (λ n. spell (pending (λ t. t) (mark Comma ∷ []) i (dots_from i n)) ++ 41 ∷ []) none
    ∙ ap (λ l. l ++ 41 ∷ []) (pending-none (λ t. t) (mark Comma ∷ []) i)) a

-- of a symbol nothing was appended yet
pub unbegun_dotted : (old : List ℕ) (s : Sym) → (s.kind ≡ Func) ⊎ (s.kind ≡ Pred) →
    Left old (spell (shown_symbol s)) old ((s.name ++ []) ++ spell (dots s.arity))
unbegun_dotted old s (inl e) = unbegun old (rw (e, append-nil s.name) refl)
unbegun_dotted old s (inr e) = unbegun old (rw (e, append-nil s.name) refl)

pub unbegun_unit : (old : List ℕ) (s : Sym) → (s.kind ≡ UnitFunc) ⊎ (s.kind ≡ UnitPred) →
    Left old (spell (shown_symbol s)) old ((s.name ++ []) ++ spell (unit_brackets s.taboo))
unbegun_unit old s (inl e) = unbegun old (rw (e, append-nil s.name) refl)
unbegun_unit old s (inr e) = unbegun old (rw (e, append-nil s.name) refl)

pub unbegun_ode : (old : List ℕ) (s : Sym) → s.kind ≡ Ode →
    Left old (spell (shown_symbol s)) old ((123 ∷ (s.name ++ [])) ++ (spell (ode_brackets s.taboo) ++ 125 ∷ []))
unbegun_ode old s e = unbegun old (rw (e, append-nil s.name) (ap (λ l. 123 ∷ (s.name ++ l)) (sym (spell-append (ode_brackets s.taboo) (mark CloseBrace ∷ [])))))
