-- Export directories, the tables that they lead to, and the exports that these list, over a map of
-- addresses to file offsets. The words here are parts of the readings of `ExportReadings`.
use Rattle.std.specs.Prelude.{ℕ, List, [], Option, unwrap_or}
use Rattle.goblin_pe_sect.specs.Addresses.{Addressing}
pub use Rattle.goblin_pe_export.specs.ExportRecords.{ExportRow, ExportTables, export_read_model}
pub use Rattle.goblin_pe_export.specs.ExportRecords.{rva_of}
use Rattle.goblin_pe_export.specs.ExportReadings as reading

-- the row of the name pointer at index x
abbrev pub export_row : Addressing → List ℕ → ExportTables → ℕ → Option ExportRow
export_row addressing bytes tables x = (reading.export_row addressing tables x).value bytes

-- the exports that export data lists; there always is a list
abbrev pub exports : Addressing → List ℕ → ExportTables → List ExportRow
exports addressing bytes tables = unwrap_or ((reading.exports addressing tables).value bytes) []
