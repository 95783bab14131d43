-- The relocations of a section of an object, as a call gives them.
use Rattle.std.specs.Prelude.{ℕ, ◌*◌, ◌==◌, ◌&&◌, Bool, if◌then◌else◌, List, [], bit_and, not}
use Rattle.goblin_base.specs.{declared.endian.Endian.TheVariants.Little, Reading.Reading}
use Rattle.readings.specs.Reads.{◌>>=◌, given, mapped, number_at, pick, slice_at}
use Rattle.goblin_pe_sect.specs.declared.relocation.Relocation.{Relocation}
use Rattle.goblin_pe_sect.specs.{Relocations.relocations_in, SectionTable.Section}
use Rattle.goblin_pe_c_headers.specs.declared.cursor.PeCoffRelocationCursor.{PeCoffRelocationCursor}

-- the first relocation of a section is none, but their number: the number in the header is 65,535,
-- and the bit IMAGE_SCN_LNK_NRELOC_OVFL is set
abbrev pub begins_with_number : Section → Bool
begins_with_number s =
    (s.number_of_relocations == 0xFFFF) && not (bit_and s.characteristics 0x0100_0000 == 0)

-- where the walk over the relocations of a section begins: behind that number
abbrev pub relocations_begin : Section → PeCoffRelocationCursor
relocations_begin s = record {
  index = if begins_with_number s then 1 else 0;
  offset = s.pointer_to_relocations;
  count = s.number_of_relocations;
  is_extended = begins_with_number s;
  reserved = 0;
}

abbrev pub record_count : PeCoffRelocationCursor → Reading ℕ
record_count c = pick c.is_extended (number_at Little 4 c.offset) (given c.count)

-- all relocations of a walk; of none, the offset does not matter
unfoldable pub all_relocations : PeCoffRelocationCursor → Reading (List Relocation)
all_relocations c =
    record_count c
    >>= λ n. pick (n == 0) (given []) (mapped relocations_in (slice_at c.offset (10 * n)))
