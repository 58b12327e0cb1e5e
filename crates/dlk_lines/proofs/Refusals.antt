-- Lines that are refused for one of their parts.
use Rattle.std.proofs.Common.{◌≡◌, ℕ, List, Result, Ok, Err, inl, inr}
use Rattle.std.specs.Prelude.{◌↔◌, IfErr, IsTrue, IsFalse}
use Rattle.std.proofs.lemmas.Bool.{cases_Bool}
use Rattle.dlk_tree.specs.Names.{is_name}
use Rattle.dlk_tree.specs.declared.name.NameFault.{NameFault}
use Rattle.dlk_tree.specs.declared.name.NameFault.TheVariants as name
use Rattle.dlk_lines.specs.declared.fault.LineFault.{LineFault}
use Rattle.dlk_lines.specs.declared.fault.LineFault.TheVariants as fault
use Rattle.dlk_lines.specs.Read.{IsLineFaultOf, of_name}

-- a fault of a part is one of the whole, where the whole needs the part
pub fault_of_whole : {part whole : Type 0} → (part → whole) → (why : LineFault) → IsLineFaultOf part why → IsLineFaultOf whole why
fault_of_whole up fault.Malformed f = up f
fault_of_whole up fault.Memory f = tt

pub err_of_whole : {A part whole : Type 0} → (part → whole) → (r : Result A LineFault) → IfErr r (IsLineFaultOf part) → IfErr r (IsLineFaultOf whole)
err_of_whole up (Ok x) f = tt
err_of_whole up (Err why) f = fault_of_whole up why f

-- a name that isn't made for want of memory is one
pub name_wants : {A B : Type 0} (text : List ℕ) (why : NameFault) (r : Result A LineFault) (q : Result B NameFault) → r ≡ Err (of_name why) → q ≡ Err why →
    ((q ≡ Err name.NotAName) ↔ IsFalse (is_name text)) → r ≡ Err fault.Memory → IsTrue (is_name text)
name_wants text name.NotAName r q is from decides wants = absurd (cc)
name_wants text name.Memory r q is from decides wants = elim (cases_Bool (is_name text)) [
  | inl real ↦ real
  | inr unreal ↦ let clash = decides.1 unreal in absurd (cc)
]
