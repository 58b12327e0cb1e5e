-- What a printer has appended.
use Rattle.std.specs.Prelude.{◌≡◌, ℕ, ◌==◌, List, [], ◌++◌, if◌then◌else◌, Result, OnOk}
use Rattle.dlk_print.specs.declared.fault.PrintFault.{PrintFault}

abbrev pub IsPrefix : List ℕ → List ℕ → Type 0
IsPrefix xs ys = (rest : List ℕ) × (ys ≡ xs ++ rest)

-- a prefix of the text was appended, and nothing else
pub record Begun (old new text : List ℕ) : Type 0 where
  pub grown : IsPrefix old new
  pub within : IsPrefix new (old ++ text)

-- the text was appended, and without memory a prefix of it
pub record Appends {A : Type 0} (old new text : List ℕ) (result : Result A PrintFault) : Type 0 where
  pub ok : OnOk result (new ≡ old ++ text)
  pub begun : Begun old new text

-- what stands before the part at place i of several
abbrev pub gap : ℕ → List ℕ → List ℕ
gap i between = if i == 0 then [] else between
