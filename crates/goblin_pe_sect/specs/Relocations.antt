-- The relocations of a section of an object.
use Rattle.std.specs.Prelude.{◌<◌, ◌≤◌, ℕ, ◌*◌, ◌^◌, List, [], ◌∷◌}
use Rattle.goblin_base.specs.declared.endian.Endian.{Endian}
use Rattle.goblin_base.specs.declared.endian.Endian.TheVariants.{Little}
use Rattle.goblin_base.specs.declared.error.CauseOf.TheVariants.{Overflow}
use Rattle.goblin_base.specs.{declared.error.ErrorOf.ErrorOf, Bytes.number, Answers.IsSliceFault}
use Rattle.goblin_base.specs.{Reading.Reading, Record.FieldValue, Record.FieldValue.uint}
use Rattle.goblin_base.specs.Tables.{records_in}
use Rattle.goblin_base.specs.declared.error.ErrorOf.TheVariants.{Malformed, Read}
use Rattle.goblin_base.proofs.Picks.{by_cases-not_memory}
use Rattle.readings.specs.Reads.{because_by, mapped, slice_at}
pub use Rattle.goblin_pe_sect.specs.declared.relocation.Relocation.{Relocation}
use Rattle.goblin_pe_sect.specs.declared.relocation.Relocations.{Relocations}

-- Source: PE Format, "COFF Relocations (Object Only)".

-- the relocation in a record's 10 bytes
abbrev pub relocation_record : Endian → List ℕ → Relocation
relocation_record endian bytes = record {
  virtual_address = number endian 4 bytes 0;
  symbol_table_index = number endian 4 bytes 4;
  typ = number endian 2 bytes 8;
}

-- the fields of a relocation, in order
abbrev pub relocation_fields : Relocation → List FieldValue
relocation_fields r = uint 4 r.virtual_address ∷ uint 4 r.symbol_table_index ∷ uint 2 r.typ ∷ []

-- the relocations in these bytes
abbrev pub relocations_in : List ℕ → List Relocation
relocations_in bytes = records_in 10 (relocation_record Little) bytes

-- which cause is true if the bytes have no n relocations at p: their size overflows 64 bits, or
-- they begin at or past the end, or run past it
abbrev pub IsRelocationsFault : List ℕ → ℕ → ℕ → ErrorOf → Type 0
IsRelocationsFault bytes p n (Malformed Overflow) = 2 ^ 64 ≤ 10 * n
IsRelocationsFault bytes p n (Read fault) =
    (10 * n < 2 ^ 64) × IsSliceFault bytes p (10 * n) (Read fault)
IsRelocationsFault bytes p n e = ⊥

-- the n relocations at p
abbrev pub relocations_at : ℕ → ℕ → Reading (List Relocation)
relocations_at p n =
    because_by (λ bytes. IsRelocationsFault bytes p n)
    (λ bytes. by_cases-not_memory (IsRelocationsFault bytes p n) (λ m h. h))
    (mapped relocations_in (slice_at p (10 * n)))

-- the relocations that an iterator has yet to yield
abbrev pub relocations_left : Relocations → List Relocation
relocations_left it = relocations_in it.relocations.now
