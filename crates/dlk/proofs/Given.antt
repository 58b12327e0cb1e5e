-- From what was read and what was given to what a run does.
use Rattle.std.proofs.Common.{◌≡◌, ℕ, Bool, true, false, List, take, Option, None, Some, IsNone, refl, ap, sym, ◌∙◌, ◌⊎◌, inl, inr}
use Rattle.std.proofs.lemmas.Bool.{true≢false}
use Rattle.std.proofs.lemmas.Slice.Eq.{bytes_eq-Decides}
use Rattle.std.specs.Prelude.{cond, bytes_eq}
use Rattle.dlk_desk.specs.Outside.{Files, SameFiles, SameOtherFiles}
use Rattle.dlk_replies.specs.Forms.{Word}
use Rattle.dlk.specs.Outputs.{Output, output_with, written_to, after, WrittenInPart}

-- the same files but for those that were the same before
pub same_through : (old mid new : Files) → SameFiles old mid → SameFiles mid new → SameFiles old new
same_through old mid new a b name = b name ∙ a name

pub after_through : (output : Option Output) (old mid new : Files) → SameFiles old mid → SameFiles (after output mid) new → SameFiles (after output old) new
after_through None old mid new a b name = b name ∙ a name
after_through (Some output) old mid new a b name = b name ∙ ap (λ (o : Option (List ℕ)). cond (bytes_eq name output.name) (Some output.bytes) o) (a name)

written_through : (name : Word) (bytes : List ℕ) (old mid new : Files) → SameFiles old mid → SameFiles (written_to name bytes mid) new →
    SameFiles (written_to name bytes old) new
written_through name bytes old mid new a b other = b other ∙ ap (λ (o : Option (List ℕ)). cond (bytes_eq other name) (Some bytes) o) (a other)

pub part_through : (output : Option Output) (old mid new : Files) → SameFiles old mid → WrittenInPart output mid new → WrittenInPart output old new
part_through None old mid new a b = same_through old mid new a b
part_through (Some output) old mid new a (inl b) = inl (same_through old mid new a b)
part_through (Some output) old mid new a (inr b) = inr (b.0, written_through output.name (take b.0 output.bytes) old mid new a b.1)

pub no_name : (name : Option Word) (written : Option (List ℕ)) → IsNone name → IsNone (output_with name written)
no_name None written none = none
no_name (Some name) written none = absurd cc

pub no_bytes : (name : Option Word) (written : Option (List ℕ)) → IsNone written → IsNone (output_with name written)
no_bytes None written none = cc
no_bytes (Some name) None none = none
no_bytes (Some name) (Some bytes) none = absurd cc

-- what the file of this name holds now, and every other file as it was
pub written_is : (name : Word) (bytes : List ℕ) (old new : Files) → new name ≡ Some bytes → SameOtherFiles name old new →
    SameFiles (written_to name bytes old) new
written_is name bytes old new here others other = by_test (bytes_eq other name) refl
  where
    by_test : (b : Bool) → bytes_eq other name ≡ b → new other ≡ cond b (Some bytes) (old other)
    by_test true e = ap new ((bytes_eq-Decides other name).0 e) ∙ here
    by_test false e = others other (λ same. true≢false (sym ((bytes_eq-Decides other name).1 same) ∙ e))

all_same : (name : Word) (old new : Files) → new name ≡ old name → SameOtherFiles name old new → SameFiles old new
all_same name old new here others other = by_test (bytes_eq other name) refl
  where
    by_test : (b : Bool) → bytes_eq other name ≡ b → new other ≡ old other
    by_test true e = let is = (bytes_eq-Decides other name).0 e in ap new is ∙ here ∙ sym (ap old is)
    by_test false e = others other (λ same. true≢false (sym ((bytes_eq-Decides other name).1 same) ∙ e))

pub part_is : (name : Word) (bytes : List ℕ) (old new : Files) → (new name ≡ old name) ⊎ ((n : ℕ) × (new name ≡ Some (take n bytes))) →
    SameOtherFiles name old new →
    WrittenInPart (Some (record { name = name; bytes = bytes })) old new
part_is name bytes old new (inl here) others = inl (all_same name old new here others)
part_is name bytes old new (inr here) others = inr (here.0, written_is name (take here.0 bytes) old new here.1 others)
