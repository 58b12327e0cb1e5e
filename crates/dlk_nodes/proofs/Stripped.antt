-- What stands behind the front of a text, or before its end.
use Rattle.std.proofs.Common.{◌≡◌, ◌≢◌, ℕ, ◌+◌, ◌-◌, true, false, List, ◌++◌, length, take, drop, Option, Some, None, Bor}
use Rattle.std.specs.Prelude.{MatchOption, IfSome, IfNone, eqb}
use Rattle.std.specs.Cmp.Lexicographic.{pointwise}
use Rattle.std.proofs.lemmas.Bool.Decides.{Decides-eqb}
use Rattle.std.proofs.lemmas.Slice.Eq.{strip_prefix_is, strip_suffix_is}

abbrev pub Prefix : List ℕ → List ℕ → Option (Bor (List ℕ)) → Type 0
Prefix s p r = MatchOption r (pointwise eqb (take (length p) s) p ≡ false) (λ x. (pointwise eqb (take (length p) s) p ≡ true) ×
    (x.now ≡ drop (length p) s) × (length x.now + length p ≡ length s))

pub prefix_found : (s p : List ℕ) (r : Option (Bor (List ℕ))) → Prefix s p r → IfSome r (λ x. s ≡ p ++ x.now)
prefix_found s p None h = tt
prefix_found s p (Some x) h = strip_prefix_is Decides-eqb s p (Some x) h

pub no_prefix : (s p : List ℕ) (r : Option (Bor (List ℕ))) → Prefix s p r → IfNone r ((rest : List ℕ) → s ≢ p ++ rest)
no_prefix s p None h = strip_prefix_is Decides-eqb s p None h
no_prefix s p (Some x) h = tt

abbrev pub Suffix : List ℕ → List ℕ → Option (Bor (List ℕ)) → Type 0
Suffix s p r = MatchOption r (pointwise eqb (drop (length s - length p) s) p ≡ false) (λ x. (pointwise eqb (drop (length s - length p) s) p ≡ true) ×
    (x.now ≡ take (length s - length p) s) × (length x.now + length p ≡ length s))

pub suffix_found : (s p : List ℕ) (r : Option (Bor (List ℕ))) → Suffix s p r → IfSome r (λ x. s ≡ x.now ++ p)
suffix_found s p None h = tt
suffix_found s p (Some x) h = strip_suffix_is Decides-eqb s p (Some x) h

pub no_suffix : (s p : List ℕ) (r : Option (Bor (List ℕ))) → Suffix s p r → IfNone r ((front : List ℕ) → s ≢ front ++ p)
no_suffix s p None h = strip_suffix_is Decides-eqb s p None h
no_suffix s p (Some x) h = tt
