-- The file that a reply writes.
use Rattle.std.specs.Prelude.{◌⊎◌, ℕ, List, take, Option, Some, None, if◌then◌else◌, bytes_eq}
use Rattle.dlk_desk.specs.Outside.{Files, SameFiles}
use Rattle.dlk_replies.specs.Forms.{Word}

-- a file's name, and the bytes that it is to hold
pub record Output : Type 0 where
  pub name : Word
  pub bytes : List ℕ

-- the file that is written where the words have this name for it and the reply these bytes
abbrev pub output_with : Option Word → Option (List ℕ) → Option Output
output_with None written = None
output_with (Some name) None = None
output_with (Some name) (Some bytes) = Some (record { name = name; bytes = bytes })

-- the files where the file of this name holds these bytes, and every other file is as it was
abbrev pub written_to : Word → List ℕ → Files → Files
written_to name bytes files = λ other. if bytes_eq other name then Some bytes else files other

-- the files after an output
abbrev pub after : Option Output → Files → Files
after None files = files
after (Some output) files = written_to output.name output.bytes files

-- no file has changed, or that of the output alone, which holds a front of its bytes
abbrev pub WrittenInPart : Option Output → Files → Files → Type 0
WrittenInPart None old new = SameFiles old new
WrittenInPart (Some output) old new = SameFiles old new ⊎ ((bytes : ℕ) × SameFiles (written_to output.name (take bytes output.bytes) old) new)
