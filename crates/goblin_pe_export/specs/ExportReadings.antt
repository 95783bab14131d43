-- The exports: the export directory, its tables, and a row for each name pointer, over a map of
-- addresses to file offsets.
use Rattle.std.specs.Prelude.{ℕ, ◌==◌, if◌then◌else◌, nat_le, List, [], length, map, slice_get}
use Rattle.std.specs.Prelude.{Option, Some, None, codes}
use Rattle.goblin_base.specs.declared.endian.Endian.TheVariants.{Little}
use Rattle.goblin_base.specs.{declared.error.CauseOf.TheVariants.ExportTable, Answers.IsTooShort}
use Rattle.goblin_base.specs.Reading.{Reading}
use Rattle.goblin_base.proofs.Picks.{by_cases-not_memory}
use Rattle.readings.specs.Reads.{◌>>=◌, ◌beside◌, because, each_kept, file_length, up_to}
use Rattle.readings.specs.Reads.{given, mapped, needs_by, or_none, record_at, taken}
use Rattle.goblin_pe_sect.specs.declared.data_directories.DataDirectory.{DataDirectory}
use Rattle.goblin_pe_export.specs.ExportRecords.{ExportRow, ExportTables, addresses, NumberedExport}
use Rattle.goblin_pe_export.specs.ExportRecords.{name_pointers, numbered_by, read_rows}
use Rattle.goblin_pe_export.specs.ExportRecords.{export_directory_record, ordinals, rva_of}
use Rattle.goblin_pe_export.specs.ExportRecords.{ExportAddressTableEntry, ExportDirectoryTable}
use Rattle.goblin_pe_export.specs.Forwarders.{Forwarder, forwarder_within}
use Rattle.goblin_pe_sect.specs.AddressReadings.{at_address, counted_at, name_at, offset_at}
use Rattle.goblin_pe_sect.specs.Addresses.{Addressing}
use Rattle.goblin_pe_export.specs.declared.export.tables as tables
use tables.ExportAddressTableEntry.TheVariants as variant

-- ---- export data

-- the record at an offset
abbrev pub export_record_at : ℕ → Reading ExportDirectoryTable
export_record_at p = because (ExportTable p) (record_at 40 (export_directory_record Little) p)

-- a record with this count of entries of a kind, if that is no more than the file has bytes
abbrev pub with_count : ℕ → List ℕ → ExportDirectoryTable → Reading ExportDirectoryTable
with_count count kind t =
    file_length
    >>= (λ n.
    needs_by (if nat_le count n then Some t else None) (IsTooShort count kind n)
    (by_cases-not_memory (IsTooShort count kind n) (λ m h. h)))

-- a record, if it counts no more addresses than the file has bytes
abbrev pub fitting_addresses : ExportDirectoryTable → Reading ExportDirectoryTable
fitting_addresses t = with_count t.address_table_entries (codes "address table entries") t

-- the same if it counts no more name pointers than that, either
abbrev pub fitting : ExportDirectoryTable → Reading ExportDirectoryTable
fitting t =
    mapped (λ both. both.1)
    (with_count t.number_of_name_pointers (codes "name pointers") t beside fitting_addresses t)

-- What a record leads to: the library's name, and the three tables, each empty if its address has
-- no offset. The record's number of name pointers also counts the ordinals, even if fewer name
-- pointers are whole.
unfoldable pub export_tables : Addressing → DataDirectory → ExportDirectoryTable
    → Reading ExportTables
export_tables addressing d t =
    mapped (λ parts. record {
      name = parts.0.0.0;
      export_directory_table = t;
      export_name_pointer_table = parts.0.0.1;
      export_ordinal_table = parts.0.1;
      export_address_table = parts.1;
    })
    (or_none (name_at addressing t.name_rva)
    beside counted_at name_pointers t.number_of_name_pointers addressing t.name_pointer_rva
    beside counted_at ordinals t.number_of_name_pointers addressing t.ordinal_table_rva
    beside counted_at (addresses d) t.address_table_entries addressing t.export_address_table_rva)

-- the export data of a directory: what the record at its address leads to, if its counts fit the
-- file
unfoldable pub export_data : Addressing → DataDirectory → Reading ExportTables
export_data addressing d =
    offset_at addressing.offset d.virtual_address
    >>= (λ p. up_to (addressing.end d.virtual_address) (export_record_at p)
    >>= λ t. fitting t >>= export_tables addressing d)

-- ---- the exports

-- What an entry refers to in another library: nothing if it is not a forwarder, else what the
-- forwarder's text says.
abbrev pub reexport_of : Addressing → ExportAddressTableEntry → Reading (Option Forwarder)
reexport_of addressing (variant.ExportRVA rva) = given None
reexport_of addressing (variant.ForwarderRVA rva) =
    mapped (λ f. Some f) (at_address addressing rva (forwarder_within addressing.longest))

-- the row of a name pointer and an address; a name that can't be read is left out of it
unfoldable pub row_of : Addressing → ℕ → ExportAddressTableEntry → Reading ExportRow
row_of addressing pointer address =
    mapped (λ parts. record {
      name = parts.0;
      offset = addressing.offset (rva_of address);
      rva = rva_of address;
      size = 0;
      reexport = parts.1;
    })
    (or_none (name_at addressing pointer) beside reexport_of addressing address)

-- an entry of a table that was read; without it there is no row, so there is no cause
abbrev pub entry_of : {A : Type 0} → List A → ℕ → Reading A
entry_of entries x = taken (slice_get entries x)

-- The export of the name pointer at index x. The entry of the ordinal table at x is the index of
-- its address; with the ordinal base added, that entry is its ordinal.
unfoldable pub numbered_row : Addressing → ExportTables → ℕ → Reading NumberedExport
numbered_row addressing tables x =
    entry_of tables.export_name_pointer_table x
    >>= (λ pointer.
    entry_of tables.export_ordinal_table x
    >>= (λ ordinal.
    entry_of tables.export_address_table ordinal
    >>= (λ address.
    mapped (numbered_by tables x pointer ordinal) (row_of addressing pointer address))))

-- the row of that export alone
unfoldable pub export_row : Addressing → ExportTables → ℕ → Reading ExportRow
export_row addressing tables x = mapped (λ x. x.row) (numbered_row addressing tables x)

-- The exports that export data lists: those that exist, in the order of the name pointers. An empty
-- file has none.
unfoldable pub numbered_rows : Addressing → ExportTables → Reading (List NumberedExport)
numbered_rows addressing tables =
    mapped (λ read. if read.0 == 0 then [] else read.1)
    (file_length
    beside each_kept (numbered_row addressing tables) (length tables.export_name_pointer_table))

-- the rows of these exports alone
unfoldable pub exports : Addressing → ExportTables → Reading (List ExportRow)
exports addressing tables = mapped (map (λ x. x.row)) (numbered_rows addressing tables)

-- the export data of a directory, and the exports that it lists
unfoldable pub numbered_read : Addressing → DataDirectory
    → Reading (ExportTables × List NumberedExport)
numbered_read addressing d =
    export_data addressing d >>= (λ tables. given tables beside numbered_rows addressing tables)

-- the same, with the rows alone
unfoldable pub export_read : Addressing → DataDirectory
    → Reading (ExportTables × List ExportRow)
export_read addressing d = mapped read_rows (numbered_read addressing d)

-- the export of the name pointer at index x, if it has one
abbrev pub numbered_export : Addressing → List ℕ → ExportTables → ℕ → Option NumberedExport
numbered_export addressing bytes tables x = (numbered_row addressing tables x).value bytes
