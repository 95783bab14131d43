-- The exports, row by row.
use Rattle.std.proofs.Common.{◌≡◌, ◌++◌, ◌+◌, ℕ, List, [], ◌∷◌, Option, Some, None, length, refl, sym, ap, ◌∙◌, arith, append-nil, ◌==◌, false, map, option_map, option_to_list, zero, suc}
use Rattle.std.proofs.lemmas.List.{map-append}
use Rattle.goblin_base.specs.Tables.{concat_below}
use Rattle.goblin_base.proofs.Below.{concat_below-next}
use Rattle.goblin_pe_export.specs.ExportReadings as reading
use Rattle.goblin_pe_export.specs.ExportRecords.{ExportRow, ExportTables}
use Rattle.goblin_pe_export.specs.Exports.{export_row}
use Rattle.goblin_pe_export.specs.ExportRecords.{ExportDirectoryTable, addresses, entries_in, name_pointers, ordinals, table_bytes}
use Rattle.goblin_pe_export.proofs.WholeEntries.{counted_is}
use Rattle.goblin_base.specs.Answers as answers
use Rattle.goblin_base.specs.{declared.mapped.MappedEnd.MappedEnd, Parts.in_memory}
use Rattle.readings.specs.Reads.{text_within}
use Rattle.std.specs.Option.{option_and_then}
use Rattle.goblin_pe_sect.specs.declared.data_directories.DataDirectory.{DataDirectory}
use Rattle.goblin_pe_sect.specs.{AddressReadings.name_at, Addresses.Addressing}

module _ {A : Type 0} (row : ℕ → Option A) (n : ℕ) (rows : List A)
    (so_far : rows ≡ concat_below (λ x. option_to_list (row x)) n) where
  rows-more : (o : Option A) → o ≡ row n
      → rows ++ option_to_list o ≡ concat_below (λ x. option_to_list (row x)) (n + 1)
  rows-more o is =
      ap (λ (xs : List A). xs ++ option_to_list o) so_far
      ∙ ap (λ (x : Option A). concat_below (λ x. option_to_list (row x)) n ++ option_to_list x) is
      ∙ sym (concat_below-next (λ x. option_to_list (row x)) n)

  -- one name pointer further, which has a row
  pub row_more : (x : A) → Some x ≡ row n
      → rows ++ x ∷ [] ≡ concat_below (λ x. option_to_list (row x)) (n + 1)
  row_more x is = rows-more (Some x) is

  -- one that has none
  pub row_none : None ≡ row n → rows ≡ concat_below (λ x. option_to_list (row x)) (n + 1)
  row_none is = sym (append-nil rows) ∙ rows-more None is

-- what is made of each that is kept
map-below : {A B : Type 0} (of : A → B) (f : ℕ → Option A) (n : ℕ)
    → map of (concat_below (λ x. option_to_list (f x)) n)
    ≡ concat_below (λ x. option_to_list (option_map of (f x))) n
map-below of f zero = refl
map-below {A} {B} of f (suc n) =
    map-append of (concat_below (λ x. option_to_list (f x)) n) (option_to_list (f n))
    ∙ ap (λ (xs : List B). xs ++ map of (option_to_list (f n))) (map-below of f n)
    ∙ ap (λ (xs : List B). concat_below (λ x. option_to_list (option_map of (f x))) n ++ xs)
    (elim (f n) as (λ o. map of (option_to_list o) ≡ option_to_list (option_map of o)) [ None ↦ refl | Some x ↦ refl ])

-- a file with bytes lists these rows
pub rows_listed : (addressing : Addressing) (bytes : List ℕ) (tables : ExportTables)
    → (length bytes == 0) ≡ false
    → (reading.exports addressing tables).value bytes
    ≡ Some (concat_below (λ x. option_to_list (export_row addressing bytes tables x))
    (length tables.export_name_pointer_table))
unfolding reading.exports reading.numbered_rows reading.export_row
rows_listed addressing bytes tables some =
    rw some (ap (λ (rows : List ExportRow). Some rows) (map-below (λ x. x.row) (λ x. (reading.numbered_row addressing tables x).value bytes) (length tables.export_name_pointer_table)))

name-at : (addressing : Addressing) (bytes : List ℕ) (end : Option MappedEnd) (place : Option ℕ) → answers.◌>>=◌ place (λ p. (text_within addressing.longest p).value (in_memory end bytes)) ≡ option_and_then (λ (p : ℕ). (text_within addressing.longest p).value (in_memory end bytes)) place
name-at addressing bytes end None = refl
name-at addressing bytes end (Some p) = refl

-- the name that is found at an address
pub named_at : (addressing : Addressing) (rva : ℕ) (bytes part : List ℕ) (place longest : Option ℕ) (found : Option (List ℕ)) → part ≡ in_memory (addressing.end rva) bytes → place ≡ addressing.offset rva → longest ≡ addressing.longest
    → found ≡ option_and_then (λ (p : ℕ). (text_within longest p).value part) place → (name_at addressing rva).value bytes ≡ found
unfolding name_at
named_at addressing rva bytes part place longest found in_part at limit is =
    name-at addressing bytes (addressing.end rva) (addressing.offset rva) ∙ sym (rw (← in_part, ← at, ← limit) is)

-- what a record leads to, by the bytes of its tables
pub tables_are : (addressing : Addressing) (d : DataDirectory) (t : ExportDirectoryTable) (bytes : List ℕ) (name : Option (List ℕ)) (pointers ords addrs : List ℕ)
    → (name_at addressing t.name_rva).value bytes ≡ name
    → table_bytes 4 t.number_of_name_pointers (in_memory (addressing.end t.name_pointer_rva) bytes) (addressing.offset t.name_pointer_rva) ≡ pointers
    → table_bytes 2 t.number_of_name_pointers (in_memory (addressing.end t.ordinal_table_rva) bytes) (addressing.offset t.ordinal_table_rva) ≡ ords
    → table_bytes 4 t.address_table_entries (in_memory (addressing.end t.export_address_table_rva) bytes) (addressing.offset t.export_address_table_rva) ≡ addrs
    → (reading.export_tables addressing d t).value bytes
    ≡ Some (record { name = name; export_directory_table = t; export_name_pointer_table = entries_in name_pointers pointers; export_ordinal_table = entries_in ordinals ords; export_address_table = entries_in (addresses d) addrs })
unfolding reading.export_tables
tables_are addressing d t bytes name pointers ords addrs named first second third =
    rw (
      counted_is name_pointers t.number_of_name_pointers (in_memory (addressing.end t.name_pointer_rva) bytes) (addressing.offset t.name_pointer_rva) (omega arith),
      counted_is ordinals t.number_of_name_pointers (in_memory (addressing.end t.ordinal_table_rva) bytes) (addressing.offset t.ordinal_table_rva) (omega arith),
      counted_is (addresses d) t.address_table_entries (in_memory (addressing.end t.export_address_table_rva) bytes) (addressing.offset t.export_address_table_rva) (omega arith),
      named,
      first,
      second,
      third,
    ) refl
