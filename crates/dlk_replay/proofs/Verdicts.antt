-- What becomes of a term file.
use Rattle.std.proofs.Common.{◌≡◌, ℕ, ◌≤◌, List, length}
use Rattle.dlk_calculus.specs.Provables.{Provable}
use Rattle.dlk_calculus.specs.Steps.{History}
use Rattle.dlk_replay.specs.Files.{Answer, accepted, Verdict, whole}
use Rattle.dlk_replay.specs.Formats.{SaysInFile}
use Rattle.dlk_replay.proofs.AnyFormat.{one_becomes, some_becomes, steps_history}
use Rattle.dlk_replay.proofs.OneSaid.{one_said_in_file}
use Rattle.dlk_replay.proofs.SomeSaid.{some_said_in_file}
use Rattle.dlk_replay.proofs.ProperSteps.{said_proper_in_file}

pub one_verdict : (lines : List (List ℕ)) (a b : Answer) → Verdict lines a → Verdict lines b → a ≡ b
one_verdict lines a b x y = one_becomes SaysInFile one_said_in_file lines a b x y

pub some_verdict : (lines : List (List ℕ)) → (a : Answer) × Verdict lines a
some_verdict lines = some_becomes SaysInFile some_said_in_file said_proper_in_file lines

pub accepted_history : (lines : List (List ℕ)) (rows : List Provable) (last : ℕ) → Verdict lines (accepted rows last) → History rows
accepted_history _ _ _ (whole {steps} {rows} {last} {line} is some ends) = steps_history SaysInFile steps rows last is

-- an accepted file has a row
pub accepted_some : (lines : List (List ℕ)) (rows : List Provable) (last : ℕ) → Verdict lines (accepted rows last) → 1 ≤ length rows
accepted_some _ _ _ (whole is some ends) = some
