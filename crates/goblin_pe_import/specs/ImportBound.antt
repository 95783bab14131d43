-- How many imports a file can have.
use Rattle.std.specs.Prelude.{◌≡◌, ◌≤◌, ℕ, ◌*◌, ◌/◌, Bool, List, length, Some}
use Rattle.goblin_base.specs.Tables.{Format}
use Rattle.goblin_pe_import.specs.{ImportReadings.import_data, ImportRecords.ImportedLibrary}
use Rattle.goblin_pe_import.specs.{ImportLookup.EntryValue, Imports.ImportValue}
use Rattle.goblin_pe_sect.specs.Addresses.{Addressing}

-- If the libraries are the import data of some file, in either mode and with any map of addresses,
-- the number of imports is at most the number of import descriptors that fit the file, times the
-- number of entries that fit it.
unfoldable pub AreFew : Format EntryValue → List ImportedLibrary → List ImportValue → Type 0
AreFew format libraries imports =
    (strict : Bool) (addressing : Addressing) (file : List ℕ) (rva : ℕ)
    → (import_data strict format addressing rva).value file ≡ Some libraries
    → length imports ≤ length file / 20 * (length file / format.width)
