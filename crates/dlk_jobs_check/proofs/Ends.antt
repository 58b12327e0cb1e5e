-- The last of a list, and the formula of a model.
use Rattle.std.proofs.Common.{◌≡◌, ◌≤◌, ℕ, ◌+◌, ◌-◌, List, [], ◌∷◌, ◌++◌, length, get_or, refl, ap, sym, ◌∙◌, arith}
use Rattle.std.proofs.lemmas.List.{length_push}
use Rattle.std.proofs.Math.Seq.{get_or-append_seam}
use Rattle.dlk_tree.specs.Trees.{Tree}
use Rattle.dlk_calculus.specs.Places.{At}
use Rattle.dlk_calculus.proofs.PlaceLaws.{At_read}
use Rattle.dlk_grammar.specs.declared.token.Dots.TheVariants.{Refused}
use Rattle.dlk_grammar.specs.declared.token.Form.TheVariants.{Formula}
use Rattle.dlk_grammar.specs.Texts.{TextFault}
use Rattle.dlk_machine.proofs.TextLaws.{one_tree_text, tree_or_fault}
use Rattle.dlk_jobs_check.specs.Terms.{ModelText, ModelFault}

-- a list with an item has a last one
pub last_of : {A : Type 0} (xs : List A) → 1 ≤ length xs → (before : List A) × (x : A) × (xs ≡ before ++ x ∷ [])
last_of [] some = absurd (omega (arith, some))
last_of (x ∷ []) some = ([], x, refl)
last_of (x ∷ y ∷ ys) some =
    let rest = last_of (y ∷ ys) (omega arith) in
    (x ∷ rest.0, rest.1, ap (λ l. x ∷ l) rest.2)

-- a list has one last item
pub one_last : {A : Type 0} (xs ys : List A) (x y : A) → xs ++ x ∷ [] ≡ ys ++ y ∷ [] → x ≡ y
one_last [] [] x y e = cc
one_last [] (z ∷ []) x y e = cc
one_last [] (z ∷ w ∷ ys) x y e = cc
one_last (z ∷ []) [] x y e = cc
one_last (z ∷ w ∷ xs) [] x y e = cc
one_last (z ∷ xs) (w ∷ ys) x y e = let tail : xs ++ x ∷ [] ≡ ys ++ y ∷ [] = cc in one_last xs ys x y tail

-- and it stands at the place of their number
pub last_item : {A : Type 0} (items before : List A) (x : A) → items ≡ before ++ x ∷ [] → At items (length items) x
last_item items before x is =
    let count : length items ≡ length before + 1 = ap length is ∙ length_push before x in
    let place : length items - 1 ≡ length before = omega (arith, count) in
    At_read items (length items) x (omega (arith, count), omega arith)
    (sym (ap (λ n. get_or items n x) place ∙ ap (λ (l : List _). get_or l (length before) x) is ∙ get_or-append_seam before x [] x))

-- a model is one formula, or has one fault
pub one_model : {model : List ℕ} {f g : Tree} → ModelText model f → ModelText model g → f ≡ g
one_model {model} {f} {g} a b = one_tree_text Formula Refused model f g a b

pub model_or_fault : {model : List ℕ} {f : Tree} (why : TextFault) → ModelText model f → ModelFault model why → ⊥
model_or_fault {model} {f} why a b = tree_or_fault Formula Refused model f why a b
