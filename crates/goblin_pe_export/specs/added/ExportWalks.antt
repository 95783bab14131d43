-- The walk over the exports of an image: what is still to come.
use Rattle.std.specs.Prelude.{◌≡◌, ℕ, ◌+◌, ◌-◌, ◌/◌, ◌<◌, ◌≤◌, List, MatchOption, Option}
use Rattle.std.specs.Prelude.{Some, filter_map, length, max, min}
use Rattle.std.specs.{Iterator.YieldsFirstBy, List.range_with_len}
use Rattle.goblin_base.specs.Parts.{bytes_in}
use Rattle.goblin_pe_sect.specs.Addresses.{MapOfAddresses, map_of, Addressing}
use Rattle.goblin_pe_export.specs.ExportRecords.{ExportTables, tables_in}
pub use Rattle.goblin_pe_export.specs.ExportRecords.{NumberedExport}
use Rattle.goblin_pe_export.specs.declared.added.exports.Exports.{Exports}
use Rattle.goblin_pe_export.specs.declared.added.exports.WalkedExport.{WalkedExport}
use Rattle.goblin_pe_export.specs.ExportReadings.{numbered_export}

-- ---- the exports with their numbers

-- the exports of the name pointers from x on, in order
unfoldable pub numbered_from : Addressing → List ℕ → ExportTables → ℕ → List NumberedExport
numbered_from addressing bytes tables x =
    filter_map (numbered_export addressing bytes tables)
    (range_with_len x (length tables.export_name_pointer_table - x))

-- ---- the walk as callers see it

-- an export that a walk yields
abbrev pub walked_export : WalkedExport → NumberedExport
walked_export x =
    record { hint = x.hint; ordinal = x.ordinal; name_rva = x.name_rva; row = x.export }

-- the bytes that a walk is over, and how it maps addresses
abbrev pub exports_bytes : Exports → List ℕ
exports_bytes walk = walk.bytes.now

abbrev pub exports_map : Exports → MapOfAddresses
exports_map walk = map_of walk.finder

-- the tables that a walk reads
abbrev pub walked_tables : Exports → ExportTables
walked_tables walk = tables_in walk.tables

-- the exports that a walk yields from a name pointer on
abbrev pub exports_at : Exports → ℕ → List NumberedExport
exports_at walk x =
    numbered_from (exports_map walk).addressing (exports_bytes walk) (walked_tables walk) x

-- where a walk is: the index of the name pointer that is read next
abbrev pub exports_position : Exports → ℕ
exports_position walk = walk.next

-- the exports that a walk has yet to yield
abbrev pub exports_left : Exports → List NumberedExport
exports_left walk = exports_at walk (exports_position walk)

-- the walk is over these bytes, with their addresses mapped by m
abbrev pub AreExportsOver : List ℕ → MapOfAddresses → Exports → Type 0
AreExportsOver bytes m walk = (exports_bytes walk ≡ bytes) × (exports_map walk ≡ m)

-- the second walk is over the bytes, the map and the tables of the first
abbrev pub KeepsOver : Exports → Exports → Type 0
KeepsOver s t =
    AreExportsOver (exports_bytes s) (exports_map s) t × (walked_tables t ≡ walked_tables s)

-- how many whole name pointers there are
abbrev pub pointer_count : Exports → ℕ
pointer_count walk = length (bytes_in walk.tables.name_pointers) / 4

-- A call of `next` gives the next export. It keeps the bytes, the map and the tables, and moves the
-- walk just past the name pointer of that export. If no export comes, it moves the walk past the
-- last name pointer; a walk that was past it stays where it was.
abbrev pub GivesExport : Exports → Option WalkedExport → Exports → Type 0
GivesExport s result t =
    YieldsFirstBy walked_export exports_left s result t × KeepsOver s t
    × MatchOption result (exports_position t ≡ max (exports_position s) (pointer_count s))
    (λ x. exports_position t ≡ x.hint + 1)

-- A call of `next_before` gives the next export, if its name pointer has an index below `end`. Else
-- the walk has the same exports yet to yield, and is at `end`, or at the end of the name pointers
-- if that comes first. A walk that was past that place stays where it was.
abbrev pub GivesExportBefore : ℕ → Exports → Option WalkedExport → Exports → Type 0
GivesExportBefore end s result t =
    let last = min end (pointer_count s) in
    MatchOption result
    (KeepsOver s t × (exports_left t ≡ exports_left s)
    × (exports_position t ≡ max (exports_position s) last))
    (λ x. GivesExport s (Some x) t × (exports_position s < exports_position t)
    × (exports_position t ≤ last))

-- an upper bound of the number of exports to come
abbrev pub exports_bound : Exports → ℕ
exports_bound walk = pointer_count walk - exports_position walk
