-- The relocations of an object, one by one.
use Rattle.std.proofs.Common.{◌≡◌, ℕ, ◌-◌, ◌/◌, ◌<◌, ◌≤◌, List, [], ◌∷◌, length, drop, take, arith, length-drop}
use Rattle.goblin_base.specs.declared.endian.Endian.TheVariants.{Little}
use Rattle.goblin_base.proofs.RecordItems.{length-records_in, records_in-more, records_in-none}
use Rattle.goblin_pe_sect.specs.Relocations.{relocation_record, relocations_in}

-- a whole record comes first, then those after it
pub relocations_more : (bytes : List ℕ) → 10 ≤ length bytes → relocations_in bytes ≡ relocation_record Little (take 10 bytes) ∷ relocations_in (drop 10 bytes)
relocations_more bytes le =
    let left = length-drop 10 bytes in
    records_in-more 10 ((length bytes - 10) / 10) (relocation_record Little) bytes (omega (arith, le)) (omega (arith, left))

-- fewer bytes have no record
pub relocations_none : (bytes : List ℕ) → length bytes < 10 → relocations_in bytes ≡ []
relocations_none bytes few = records_in-none 10 (relocation_record Little) bytes (omega (arith, few))

pub length_relocations : (bytes : List ℕ) → length (relocations_in bytes) ≡ length bytes / 10
length_relocations bytes = length-records_in 10 (relocation_record Little) bytes

pub ruleset relocations = (relocations_more, relocations_none)
