-- Texts that say a script, and texts that stop, with the place.
use Rattle.std.proofs.Common.{◌≡◌, ℕ, ◌+◌, List, [], ◌∷◌, ◌++◌, length, Option, Some, None, refl, ap, subst, ◌∙◌, append_assoc, length-append, codes}
use Rattle.std.proofs.lemmas.List.{append-nil}
use Rattle.dlk_scripts.specs.declared.state.State.{State}
use Rattle.dlk_scripts.specs.Texts.{Stops}
use Rattle.dlk_scripts.specs.Steps.{step, ended, first_state}
use Rattle.dlk_scripts.proofs.Reached.{Reached, reached_first}
use Rattle.dlk_scripts.proofs.Stepped.{stepped}
use Rattle.dlk_scripts.proofs.Reading.{read}
use Rattle.dlk_scripts.proofs.Answered.{stops_here, stops_at_end, step_read}

-- where reading on from a place ends
abbrev place_of_end : Option State → ℕ → Option ℕ
place_of_end None n = Some n
place_of_end (Some z) n = None

abbrev then_place : Option State → ℕ → (State → Option ℕ) → Option ℕ
then_place None n f = Some n
then_place (Some z) n f = f z

abbrev stop_from : State → ℕ → List ℕ → Option ℕ
stop_from y n [] = place_of_end (ended y) n
stop_from y n (b ∷ s) = then_place (step y n b) n (λ z. stop_from z (n + 1) s)

stop_is : (bytes rest : List ℕ) (y : State) (i : ℕ) → Reached bytes y → read first_state 0 bytes ≡ Some y → stop_from y (length bytes) rest ≡ Some i →
    Stops (bytes ++ rest) i
stop_is bytes [] y i r e h = rw (append-nil bytes) (from (ended y) refl h)
  where
    from : (o : Option State) → ended y ≡ o → place_of_end o (length bytes) ≡ Some i → Stops bytes i
    from None f g = let same : length bytes ≡ i = cc in subst (Stops bytes) same (stops_at_end bytes y r e f)
    from (Some z) f g = absurd (cc)
stop_is bytes (b ∷ rest) y i r e h = from (step y (length bytes) b) refl h
    (λ u s g. stop_is (bytes ++ b ∷ []) rest u i (stepped bytes y u b r s) (step_read bytes y u b e s)
    (ap (λ (n : ℕ). stop_from u n rest) (length-append bytes (b ∷ [])) ∙ g))
  where
    from : (o : Option State) → step y (length bytes) b ≡ o → then_place o (length bytes) (λ z. stop_from z (length bytes + 1) rest) ≡ Some i →
        ((u : State) → step y (length bytes) b ≡ Some u → stop_from u (length bytes + 1) rest ≡ Some i → Stops ((bytes ++ b ∷ []) ++ rest) i) →
        Stops (bytes ++ b ∷ rest) i
    from None s g f = let same : length bytes ≡ i = cc in subst (Stops (bytes ++ b ∷ rest)) same (stops_here bytes rest b y r e s)
    from (Some u) s g f = subst (λ (x : List ℕ). Stops x i) (append_assoc bytes (b ∷ []) rest) (f u s g)

abbrev stop_of : List ℕ → Option ℕ
stop_of bytes = stop_from first_state 0 bytes

stops : (bytes : List ℕ) (i : ℕ) → stop_of bytes ≡ Some i → Stops bytes i
stops bytes i h = stop_is [] bytes first_state i reached_first refl h

-- a bracket that isn't closed, at the end
no_close : Stops (codes "(nil") 4
no_close = stops (codes "(nil") 4 refl

-- `true` could go on as a name, but not with `;`
true_first : Stops (codes "true;nil") 4
true_first = stops (codes "true;nil") 4 refl

true_alone : Stops (codes "true") 4
true_alone = stops (codes "true") 4 refl

-- with the ninth zero no first number of a place goes on
nine_zeros : Stops (codes "hideR(000000000)") 14
nine_zeros = stops (codes "hideR(000000000)") 14 refl

-- `<` could go on as `<(`, and `/` as a comment
less : Stops (codes "nil;<x") 5
less = stops (codes "nil;<x") 5 refl

slash : Stops (codes "nil/x") 4
slash = stops (codes "nil/x") 4 refl

-- `<(` stands behind `;` alone
fork_first : Stops (codes "<(nil)") 0
fork_first = stops (codes "<(nil)") 0 refl

fork_behind : Stops (codes "nil<(nil)") 3
fork_behind = stops (codes "nil<(nil)") 3 refl

-- a comment and a string that aren't closed, and a comment that its own slash doesn't close
open_comment : Stops (codes "nil /*/ x") 9
open_comment = stops (codes "nil /*/ x") 9 refl

open_string : Stops (codes "cut(\"x") 6
open_string = stops (codes "cut(\"x") 6 refl

-- a tenth digit, and a ninth repeat
tenth_digit : Stops (codes "nil*0000000001") 13
tenth_digit = stops (codes "nil*0000000001") 13 refl

ninth_repeat : Stops (codes "a*1*1*1*1*1*1*1*1*1") 17
ninth_repeat = stops (codes "a*1*1*1*1*1*1*1*1*1") 17 refl

-- no arguments in brackets, no name behind a name, nothing at all
no_arguments : Stops (codes "nil()") 4
no_arguments = stops (codes "nil()") 4 refl

two_names : Stops (codes "nil leaf") 4
two_names = stops (codes "nil leaf") 4 refl

nothing : Stops (codes "") 0
nothing = stops (codes "") 0 refl

-- texts that are read to their end
implies : stop_of (codes "implyR(1); close") ≡ None
implies = refl

choices : stop_of (codes "(implyR(1)|andR(1))*1000") ≡ None
choices = refl

branches : stop_of (codes "andR(1);<(implyR(1);leaf,leaf) /* done */") ≡ None
branches = refl

spaced : stop_of (codes " useAt ( assignb , - 1 . 0 , \"x\" ) * 2\r\n") ≡ None
spaced = refl

locators : stop_of (codes "((nil*0)*1000)|hide('L);exchangeL(-1,'R)") ≡ None
locators = refl
