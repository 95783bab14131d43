-- The tables that a COFF header leads to: sections, symbols and the string table.
use Rattle.std.specs.Prelude.{ℕ, ◌+◌, ◌-◌, ◌*◌, ◌/◌, ◌≤◌, ◌⊎◌, ◌==◌, Bool, nat_lt, List, length}
use Rattle.std.specs.Prelude.{Option, None, Some}
use Rattle.std.proofs.Common.{inl, inr}
use Rattle.goblin_base.specs.declared.endian.Endian.TheVariants.{Little}
use Rattle.goblin_base.specs.declared.error.CauseOf.TheVariants.{CoffLength}
use Rattle.goblin_base.specs.{declared.error.ErrorOf.ErrorOf, Answers.IsMemory, Reading.Reading}
use Rattle.goblin_base.proofs.Picks.{by_cases-not_memory}
use Rattle.readings.specs.Reads.{◌>>=◌, because_by, each, given, mapped, needs, number_at, pick}
use Rattle.readings.specs.Reads.{slice_at, string_table}
use Rattle.goblin_pe_sect.specs.{SectionReadings.named_section_at, SectionTable.Section}
use Rattle.goblin_pe_head.specs.CoffHeader.{CoffHeader, IsTooManySections, string_table_offset}

-- Source: PE Format, "Section Table (Section Headers)", "COFF Symbol Table" and "COFF String
-- Table".

-- ---- the section table

pub room-not_memory : {A : Type 0} (n : ℕ) (r : Reading A) (bytes : List ℕ) (e : ErrorOf)
    → IsTooManySections n bytes e ⊎ ((n ≤ length bytes / 40) × r.IsCause bytes e) → ¬ IsMemory e
room-not_memory n r bytes e (inl many) =
    by_cases-not_memory (IsTooManySections n bytes) (λ m h. h) e many
room-not_memory n r bytes e (inr own) = r.not_memory bytes e own.1

-- a read of n sections, but if the file has no room for n section headers anywhere, that is the
-- cause
abbrev pub with_room : {A : Type 0} → ℕ → Reading A → Reading A
with_room n r =
    because_by
    (λ bytes e. IsTooManySections n bytes e ⊎ ((n ≤ length bytes / 40) × r.IsCause bytes e))
    (room-not_memory n r) r

-- n sections, whose section headers of 40 bytes follow one another from p on, with their names from
-- the string table at `table`
unfoldable pub sections_at : Bool → ℕ → ℕ → ℕ → Reading (List Section)
sections_at strict table n p =
    with_room n (each (λ i. named_section_at strict table (p + 40 * i)) n)

-- ---- the symbol table and the string table

-- the bytes of the symbol table, whose records have 18 bytes; none if the pointer is 0
unfoldable pub symbols_of : CoffHeader → Reading (Option (List ℕ))
symbols_of header =
    pick (header.pointer_to_symbol_table == 0) (given None)
    (mapped (λ table. Some table)
    (slice_at header.pointer_to_symbol_table (18 * header.number_of_symbol_table)))

-- the string table at p, after the four bytes of its length; the length includes these four
abbrev pub strings_at : ℕ → Reading (List ℕ)
strings_at p =
    number_at Little 4 p
    >>= λ n. pick (nat_lt n 4) (needs None CoffLength) (string_table (p + 4) (n - 4))

-- the string table at a place, or none without a place
abbrev pub strings_where : Option ℕ → Reading (Option (List ℕ))
strings_where None = given None
strings_where (Some p) = mapped (λ table. Some table) (strings_at p)

-- the string table, if there is one
unfoldable pub strings_of : CoffHeader → Reading (Option (List ℕ))
strings_of header = strings_where (string_table_offset header)
