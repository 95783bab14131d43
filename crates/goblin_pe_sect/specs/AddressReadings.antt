-- Readings at an address, over a map from addresses to file offsets.
use Rattle.std.specs.Prelude.{ℕ, Bool, List, Option, None, Some}
use Rattle.goblin_base.specs.declared.endian.Endian.{Endian}
use Rattle.goblin_base.specs.declared.endian.Endian.TheVariants.{Little}
use Rattle.goblin_base.specs.{declared.error.ErrorOf.ErrorOf, Reading.Reading}
use Rattle.goblin_base.specs.declared.error.CauseOf.TheVariants.{NameRead, RelocRange, Unmapped}
use Rattle.readings.specs.Reads.{◌>>=◌, because, counted_if, mapped, needs, or_else, slice_at}
use Rattle.readings.specs.Reads.{text_at, text_within, up_to, value_at}
use Rattle.goblin_pe_sect.specs.{Addresses.Addressing, DataDirectories.DataDirectory}
use Rattle.std.specs.Prelude.{option_map}
use Rattle.goblin_base.specs.{Parts.stored, Tables.Format}
use Rattle.goblin_pe_sect.specs.Addresses.{with_whole_names}

-- the file offset of an address
abbrev pub offset_at : (ℕ → Option ℕ) → ℕ → Reading ℕ
offset_at offset_of rva = needs (offset_of rva) (Unmapped rva)

-- a reading at the file offset of an address, of what is mapped there in memory
abbrev pub at_address : {A : Type 0} → Addressing → ℕ → (ℕ → Reading A) → Reading A
at_address addressing rva read =
    offset_at addressing.offset rva >>= (λ p. up_to (addressing.end rva) (read p))

-- a reading there of bytes of the file alone, without the zeros that follow in memory
abbrev pub stored_at : {A : Type 0} → Addressing → ℕ → (ℕ → Reading A) → Reading A
stored_at addressing rva read =
    offset_at addressing.offset rva
    >>= (λ p. up_to (option_map stored (addressing.end rva)) (read p))

-- the entries of a table of `count` entries at an address, up to the first incomplete entry; an
-- address without an offset has none
abbrev pub counted_at : {V : Type 0} → Format V → ℕ → Addressing → ℕ → Reading (List V)
counted_at format count addressing rva =
    up_to (addressing.end rva) (counted_if format count (addressing.offset rva))

-- the text at an address
unfoldable pub text_at_address : (ℕ → Option ℕ) → ℕ → Reading (List ℕ)
text_at_address offset_of rva = at_address (with_whole_names offset_of) rva text_at

-- the name at an address: the text there, cut if there is a limit; if there is no text, the cause
-- is `NameRead`
unfoldable pub name_at : Addressing → ℕ → Reading (List ℕ)
name_at addressing rva =
    at_address addressing rva (λ p. because (NameRead p) (text_within addressing.longest p))

-- the name at an address, as an option; if there is no name, strict mode refuses, and permissive
-- mode has none
abbrev pub name_or_none : Bool → Addressing → ℕ → Reading (Option (List ℕ))
name_or_none strict addressing rva =
    or_else strict None (mapped (λ name. Some name) (name_at addressing rva))

-- the value of a type at an address, little-endian; `refusal` says which causes are true if the
-- type refuses the bytes
unfoldable pub data_at : {Y : Type 0} → (ℕ → Option ℕ) → (Endian → List ℕ → Option (Y × ℕ))
    → (refusal : Endian → List ℕ → ErrorOf → Type 0) → ℕ → Reading Y
data_at offset_of value_of refusal rva =
    at_address (with_whole_names offset_of) rva (value_at value_of refusal Little)

-- the bytes of a base relocation directory, which must all be in the file
unfoldable pub relocation_data : Addressing → DataDirectory → Reading (List ℕ)
relocation_data addressing d =
    stored_at addressing d.virtual_address
    (λ o. because (RelocRange o d.size) (slice_at o d.size))
