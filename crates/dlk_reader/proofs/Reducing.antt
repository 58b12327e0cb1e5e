-- One turn of the loop that closes open parts.
use Rattle.std.proofs.Common.{◌≡◌, ℕ, Bool, true, false, ltb, List, [], ◌∷◌, ◌++◌, Option, Some, None, Result, Ok, Err, refl, ap, ◌∙◌, append_assoc}
use Rattle.dlk_machine.specs.Machine.{◌>>=◌, Part, Piece, wanted, join, reduce}
use Rattle.dlk_reader.specs.declared.stop.LexemeFault.{LexemeFault}
use Rattle.dlk_reader.specs.declared.code.Code.{Code}
use Rattle.dlk_reader.specs.declared.parts.Part.{Part as OpenPart}
use Rattle.dlk_reader.specs.declared.parts.Last.{Last}
use Rattle.dlk_reader.specs.declared.stack.Stack.{Stack}
use Rattle.dlk_reader.specs.Shows.{shape, shapes, part_code, piece_code, stack_code, IsLast, Stands, Agrees, TakesAbove, TakesIf, Reduces, Joins}
use Rattle.dlk_reader.proofs.Agree.{agrees_ok, agrees_err}

-- the part that was taken, and what is left to close
taken : (n : ℕ) (T : List Part) (x : OpenPart) (items : List OpenPart) → TakesAbove n T (Some x) items →
    (e : Part) × (S : List Part) × (T ≡ e ∷ S) × (x ≡ shape e) × (items ≡ shapes S) × ((q : Piece) → reduce n T q ≡ (join e q >>= reduce n S))
taken n [] x items t = absurd (let h = t.0 in cc)
taken n (e ∷ S) x items t = go (ltb n (wanted e)) refl t
  where
    go : (b : Bool) → ltb n (wanted e) ≡ b → TakesIf b (shape e) (shapes S) (Some x) items →
        (d : Part) × (U : List Part) × (e ∷ S ≡ d ∷ U) × (x ≡ shape d) × (items ≡ shapes U) × ((q : Piece) → reduce n (e ∷ S) q ≡ (join d q >>= reduce n U))
    go true h t = (e, S, refl, (let k = t.0 in cc), t.1, λ q. rw h refl)
    go false h t = absurd (let k = t.0 in cc)

none_taken : (n : ℕ) (T : List Part) (items : List OpenPart) (q : Piece) → TakesAbove n T None items → (items ≡ shapes T) × (reduce n T q ≡ Some (T, q))
none_taken n [] items q t = (t.1, refl)
none_taken n (e ∷ S) items q t = go (ltb n (wanted e)) refl t
  where
    go : (b : Bool) → ltb n (wanted e) ≡ b → TakesIf b (shape e) (shapes S) None items → (items ≡ shapes (e ∷ S)) × (reduce n (e ∷ S) q ≡ Some (e ∷ S, q))
    go true h t = absurd (let k = t.0 in cc)
    go false h t = (t.1, rw h refl)

-- what join answers for the part, whatever its phrase
abbrev pub JoinsTo : OpenPart → Last → List Code → List Code → Result Last LexemeFault → Type 0
JoinsTo x l out new r = (e : Part) (p : Piece) (before : List Code) → x ≡ shape e → IsLast l p → out ≡ before ++ (part_code e ++ piece_code p) →
    Agrees (Joins new before) r (join e p)

pub closed_one : (n : ℕ) (T : List Part) (q : Piece) (x : OpenPart) (items : List OpenPart) (out new : List Code) (l m : Last) (k : Stack) →
    TakesAbove n T (Some x) items → IsLast l q → out ≡ stack_code T ++ piece_code q → JoinsTo x l out new (Ok m) → k.parts.items ≡ items → k.out.items ≡ new
    → (U : List Part) × (v : Piece) × Stands k m U v × (reduce n T q ≡ reduce n U v)
closed_one n T q x items out new l m k t is at j ki ko =
    let w = taken n T x items t in
    let at' : out ≡ stack_code w.1 ++ (part_code w.0 ++ piece_code q) = at ∙ ap (λ (S : List Part). stack_code S ++ piece_code q) w.2
    ∙ append_assoc (stack_code w.1) (part_code w.0) (piece_code q) in
    let a = agrees_ok (Joins new (stack_code w.1)) m (join w.0 q) (j w.0 q (stack_code w.1) w.3 is at') in
    (w.1, a.0, record { last = a.2.last; lists = record { parts = ki ∙ w.4; out = ko ∙ a.2.out } }, w.5 q ∙ ap (λ (o : Option Piece). o >>= reduce n w.1) a.1)

pub closed_err : (n : ℕ) (T : List Part) (q : Piece) (x : OpenPart) (items : List OpenPart) (out new : List Code) (l : Last) (k : Stack) (f : LexemeFault) →
    TakesAbove n T (Some x) items → IsLast l q → out ≡ stack_code T ++ piece_code q → JoinsTo x l out new (Err f)
    → Agrees (Reduces k) (Err f) (reduce n T q)
closed_err n T q x items out new l k f t is at j =
    let w = taken n T x items t in
    let at' : out ≡ stack_code w.1 ++ (part_code w.0 ++ piece_code q) = at ∙ ap (λ (S : List Part). stack_code S ++ piece_code q) w.2
    ∙ append_assoc (stack_code w.1) (part_code w.0) (piece_code q) in
    rw (w.5 q) (agrees_err (Joins new (stack_code w.1)) (Reduces k) f (join w.0 q) (reduce n w.1) (j w.0 q (stack_code w.1) w.3 is at'))
