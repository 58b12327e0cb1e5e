-- The innermost open part stands at the end of a reader's list.
use Rattle.std.proofs.Common.{◌≡◌, ℕ, ◌-◌, ◌<◌, ◌≤◌, List, [], ◌∷◌, ◌++◌, length, get_or, take, Option, Some, None, refl, ap, ◌∙◌, length-append, arith}
use Rattle.std.specs.List.{slice_get}
use Rattle.std.proofs.lemmas.Bool.{le-ltb, lt-ltb}
use Rattle.std.proofs.lemmas.Option.{slice_get-get_or}
use Rattle.std.proofs.Math.Seq.{get_or-append_seam, take-append_seam, take-nil}
use Rattle.dlk_tree.specs.declared.op.Sort.{Sort}
use Rattle.dlk_reader.specs.declared.parts.Part.{Part as OpenPart}
use Rattle.dlk_machine.specs.Machine.{Part, wanted, place}
use Rattle.dlk_reader.specs.Shows.{shape, shapes, Pops, TakesAbove}

abbrev pub top : List Part → Option OpenPart
top [] = None
top (e ∷ S) = Some (shape e)

last_place : {A : Type 0} (xs : List A) (x : A) → length (xs ++ x ∷ []) - 1 ≡ length xs
last_place xs x = omega (arith, length-append xs (x ∷ []))

last_is : {A : Type 0} (xs : List A) (x : A) → slice_get (xs ++ x ∷ []) (length (xs ++ x ∷ []) - 1) ≡ Some x
last_is xs x =
    ap (slice_get (xs ++ x ∷ [])) (last_place xs x) ∙ slice_get-get_or (xs ++ x ∷ []) (length xs) x (omega (arith, length-append xs (x ∷ [])))
    ∙ ap Some (get_or-append_seam xs x [] x)

pub top_is : (S : List Part) (items : List OpenPart) → items ≡ shapes S → slice_get items (length items - 1) ≡ top S
top_is [] items e = ap (λ (l : List OpenPart). slice_get l (length l - 1)) e
top_is (x ∷ S) items e = ap (λ (l : List OpenPart). slice_get l (length l - 1)) e ∙ last_is (shapes S) (shape x)

-- what pop answers and leaves
pub pops : (S : List Part) (items rest : List OpenPart) (n : ℕ) (r : Option OpenPart) → items ≡ shapes S → n ≡ length items → (n ≡ 0 → r ≡ None) →
    ((d : OpenPart) → 0 < n → r ≡ Some (get_or items (n - 1) d)) → rest ≡ take (n - 1) items → Pops S r rest
pops [] items rest n r e m none value left = (none (m ∙ ap length e), left ∙ ap (take (n - 1)) e ∙ take-nil (n - 1))
pops (y ∷ S) items rest n r e m none value left =
    let place : n - 1 ≡ length (shapes S) = omega (arith, m, ap length e, length-append (shapes S) (shape y ∷ [])) in
    let some : 0 < n = omega (arith, m, ap length e, length-append (shapes S) (shape y ∷ [])) in
    let value-is : get_or items (n - 1) (shape y) ≡ shape y = ap (λ (l : List OpenPart). get_or l (n - 1) (shape y)) e
    ∙ ap (λ (i : ℕ). get_or (shapes S ++ shape y ∷ []) i (shape y)) place ∙ get_or-append_seam (shapes S) (shape y) [] (shape y) in
    let rest-is : take (n - 1) items ≡ shapes S = ap (take (n - 1)) e ∙ ap (λ (i : ℕ). take i (shapes S ++ shape y ∷ [])) place
    ∙ take-append_seam (shapes S) (shape y ∷ []) in
    (value (shape y) some ∙ ap Some value-is, left ∙ rest-is)

pub sort_at_top : (g : Sort) (S : List Part) (items : List OpenPart) (x : OpenPart) (r : Sort) → items ≡ shapes S →
    Some x ≡ slice_get items (length items - 1) → ((g : Sort) (e : Part) (S : List Part) → x ≡ shape e → r ≡ place g (e ∷ S)) → r ≡ place g S
sort_at_top g [] items x r e h is = let k : Some x ≡ None = h ∙ top_is [] items e in absurd cc
sort_at_top g (y ∷ S) items x r e h is = let k : Some x ≡ Some (shape y) = h ∙ top_is (y ∷ S) items e in is g y S cc

pub take_stays : (n w : ℕ) (S : List Part) (items : List OpenPart) (x : OpenPart) → items ≡ shapes S → Some x ≡ slice_get items (length items - 1) →
    ((e : Part) → x ≡ shape e → w ≡ wanted e) → w ≤ n → TakesAbove n S None items
take_stays n w [] items x e h want le = (refl, e)
take_stays n w (y ∷ S) items x e h want le =
    let k : Some x ≡ Some (shape y) = h ∙ top_is (y ∷ S) items e in
    let at : w ≡ wanted y = want y cc in
    rw (le-ltb n (wanted y) (omega arith)) (refl, e)

pub take_pops : (n w : ℕ) (S : List Part) (items rest : List OpenPart) (x : OpenPart) (r : Option OpenPart) → items ≡ shapes S →
    Some x ≡ slice_get items (length items - 1) → ((e : Part) → x ≡ shape e → w ≡ wanted e) → n < w → Pops S r rest → TakesAbove n S r rest
take_pops n w [] items rest x r e h want lt p = p
take_pops n w (y ∷ S) items rest x r e h want lt p =
    let k : Some x ≡ Some (shape y) = h ∙ top_is (y ∷ S) items e in
    let at : w ≡ wanted y = want y cc in
    rw (lt-ltb n (wanted y) (omega arith)) p

pub got : (l items : List OpenPart) (x : OpenPart) → l ≡ items → Some x ≡ slice_get l (length l - 1) → Some x ≡ slice_get items (length items - 1)
got l items x e h = h ∙ ap (λ (l : List OpenPart). slice_get l (length l - 1)) e
