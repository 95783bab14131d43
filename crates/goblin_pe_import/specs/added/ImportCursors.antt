-- Where the imports of an image begin.
use Rattle.std.specs.Prelude.{ℕ, ◌-◌, ◌^◌, Bool, List, Option, Some, None, IsSomeAnd, Result, Ok, Err}
use Rattle.goblin_base.specs.{declared.error.ErrorOf.ErrorOf, Reading.IsRefused, Reading.Reading}
use Rattle.readings.specs.Reads.{mapped, or_else}
use Rattle.goblin_pe_sect.specs.AddressReadings.{offset_at}
use Rattle.goblin_pe_sect.specs.Addresses.{MapOfAddresses, Addressing}
use Rattle.goblin_pe_import.specs.{ImportReadings.first_record_offset, added.Libraries.at_record}
use Rattle.goblin_pe_import.specs.added.ImportWalks.{IsWalkAt, ImportCursor, Imports}

-- the cursor before the first import descriptor of a directory, which lies at this offset
abbrev pub before_record : ℕ → ImportCursor
before_record p = at_record p p

-- The same if there is such a descriptor. Else the directory is skipped as a whole: the cursor is
-- behind any file, which so ends the directory.
abbrev pub before_first : Option ℕ → ImportCursor
before_first None = before_record (2 ^ 64 - 1)
before_first (Some p) = before_record p

-- The cursor before the first import of a directory at an address. Permissive mode treats an
-- address without an offset as one that leads to the front of the file.
abbrev pub first_import : Bool → Addressing → ℕ → Reading ImportCursor
first_import strict addressing rva =
    mapped (λ o. before_first (first_record_offset strict (Some o)))
    (or_else strict 0 (offset_at addressing.offset rva))

-- A call gives the walk at the cursor that `first` reads, or it is refused as `first` is.
abbrev pub BeginsAt : {T : Type 0} → MapOfAddresses → List ℕ → Reading ImportCursor
    → Result (Imports T) ErrorOf → Type 0
BeginsAt m bytes first (Ok it) = IsSomeAnd (first.value bytes) (λ c. IsWalkAt m bytes c it)
BeginsAt m bytes first (Err e) = IsRefused first bytes e
