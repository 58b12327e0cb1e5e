use Rattle.std.proofs.Common.{◌≡◌, ℕ, List, [], ◌∷◌, ◌++◌, refl, ap, arith}
use Rattle.std.specs.Prelude.{All}
use Rattle.std.specs.List.{flat_map}
use Rattle.std.proofs.lemmas.List.Elements.{All-head, All-tail}
use Rattle.std.proofs.lemmas.Bool.Decides.{nat_tests}
use Rattle.dlk_report.specs.Json.{escaped, IsPlain, backslash_twice}
use Rattle.dlk_report.proofs.laws.escapes.Goals as goal

escaped_plain : (b : ℕ) → IsPlain b → escaped b ≡ backslash_twice b
escaped_plain b h = grind (arith, nat_tests)

escapes_plain : (text : List ℕ) → All IsPlain text → flat_map escaped text ≡ flat_map backslash_twice text
escapes_plain [] h = refl
escapes_plain (b ∷ text) h = rw (escaped_plain b (All-head IsPlain b text h), escapes_plain text (All-tail IsPlain b text h))

pub returns : goal.returns
returns c text h = ap (λ rest. 34 ∷ (rest ++ 34 ∷ [])) (escapes_plain text h)
