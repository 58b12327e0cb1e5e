-- What is read of inputs, each to its end or to one byte past its limit.
use Rattle.std.specs.Prelude.{ℕ, ◌+◌, List, [], ◌∷◌, take, Option, Some, option_map, option_and_then}
use Rattle.dlk_desk.specs.Outside.{Files}
use Rattle.dlk_replies.specs.Forms.{Word}

-- the bytes of all these files, each cut one byte past its limit, if each is there
abbrev pub cut_bytes_of : Files → List Word → List ℕ → Option (List (List ℕ))
cut_bytes_of files (name ∷ names) (limit ∷ limits) =
    option_and_then (λ bytes. option_map (λ others. take (limit + 1) bytes ∷ others) (cut_bytes_of files names limits)) (files name)
cut_bytes_of files _ _ = Some []
