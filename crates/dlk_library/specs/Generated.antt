-- The model and the strategy of `gen`: so many assignments one behind another.
use Rattle.std.specs.Prelude.{ℕ, List, [], ◌++◌, zero, suc, codes, decimal}

-- [x:=x+1;] so many times
abbrev pub increments : ℕ → List ℕ
increments zero = []
increments (suc n) = codes "[x:=x+1;]" ++ increments n

-- x>=0 -> [x:=x+1;][x:=x+1;]..x>=0
abbrev pub generated_model : ℕ → List ℕ
generated_model n = codes "x>=0 -> " ++ (increments n ++ codes "x>=0")

-- implyR(1); useAt(assignb,1)*N; leaf
abbrev pub generated_strategy : ℕ → List ℕ
generated_strategy n = codes "implyR(1); useAt(assignb,1)*" ++ (decimal n ++ codes "; leaf")
