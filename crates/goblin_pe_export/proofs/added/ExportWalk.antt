-- What comes of a walk over exports.
use Rattle.std.proofs.Common.{◌≡◌, ◌<◌, ◌≤◌, ◌++◌, ◌+◌, ◌-◌, ℕ, zero, suc, List, [], ◌∷◌, Option, Some, None, length, refl, sym, ap, ◌∙◌, arith, ◌==◌, false, filter_map, option_to_list, ne_eqb}
use Rattle.std.specs.List.{cons_option, range_with_len}
use Rattle.std.proofs.lemmas.List.Elements.{filter_map-append}
use Rattle.std.proofs.lemmas.List.FromFn.{length-range_with_len}
use Rattle.goblin_base.specs.{declared.endian.Endian.TheVariants.Little, Tables.concat_below}
use Rattle.goblin_base.specs.Parts.{bytes_in, in_memory}
use Rattle.goblin_base.proofs.{InMemory.bytes_there, Records.record_at-some, Steps.step}
use Rattle.readings.proofs.WalkValues.{range-next}
use Rattle.goblin_pe_sect.specs.declared.data_directories.DataDirectory.{DataDirectory}
use Rattle.goblin_pe_sect.specs.Addresses.{Addressing}
use Rattle.goblin_pe_export.specs.ExportReadings as reading
use Rattle.goblin_pe_export.specs.ExportRecords.{ExportTables, export_directory_record, name_pointers}
use Rattle.goblin_pe_export.specs.ExportReadings.{numbered_export}
use Rattle.goblin_pe_export.specs.declared.added.exports.Exports.{Exports}
use Rattle.goblin_pe_export.specs.declared.added.exports.WalkedExport.{WalkedExport}
use Rattle.goblin_pe_export.specs.added.ExportWalks.{GivesExport, GivesExportBefore, NumberedExport, exports_position, numbered_from, walked_tables}
use Rattle.goblin_pe_export.proofs.WholeEntries.{entry_count}

-- ---- what is kept of a list of indexes

module _ {A : Type 0} (f : ℕ → Option A) where
  single : (n : ℕ) → option_to_list (f n) ≡ filter_map f (n ∷ [])
  single n = elim (f n) as (λ o. option_to_list o ≡ cons_option o []) [ None ↦ refl | Some x ↦ refl ]

  -- joined below n, they are those of the first n indexes
  joined : (n : ℕ) → concat_below (λ i. option_to_list (f i)) n ≡ filter_map f (range_with_len 0 n)
  joined zero = refl
  joined (suc n) =
      ap (λ (xs : List A). xs ++ option_to_list (f n)) (joined n)
      ∙ ap (λ (xs : List A). filter_map f (range_with_len 0 n) ++ xs) (single n)
      ∙ sym (filter_map-append f (range_with_len 0 n) (n ∷ []))
      ∙ ap (filter_map f) (sym (range-next n))

  -- no more are kept than there are indexes
  length-kept : (xs : List ℕ) → length (filter_map f xs) ≤ length xs
  length-kept [] = omega arith
  length-kept (x ∷ xs) =
      let rest = length-kept xs in
      elim (f x) as (λ o. length (cons_option o (filter_map f xs)) ≤ length (x ∷ xs)) [
        | None ↦ omega arith
        | Some y ↦ omega arith
      ]

-- ---- the exports from a name pointer on

module _ (addressing : Addressing) (bytes : List ℕ) (tables : ExportTables) where
  abbrev numbered : ℕ → Option NumberedExport
  numbered = numbered_export addressing bytes tables

  abbrev count : ℕ
  count = length tables.export_name_pointer_table

  -- those from x on begin with that of x, if it has one
  from-first : (x : ℕ) → x < count
      → numbered_from addressing bytes tables x
      ≡ cons_option (numbered x) (numbered_from addressing bytes tables (x + 1))
  unfolding numbered_from
  from-first x below =
      let more : count - x ≡ suc (count - (x + 1)) = omega arith in
      ap (λ (k : ℕ). filter_map numbered (range_with_len x k)) more

  pub from_export : (x : ℕ) (n : NumberedExport) → x < count → numbered x ≡ Some n
      → numbered_from addressing bytes tables x ≡ n ∷ numbered_from addressing bytes tables (x + 1)
  from_export x n below is =
      from-first x below
      ∙ ap (λ (o : Option NumberedExport). cons_option o (numbered_from addressing bytes tables (x + 1))) is

  pub from_none : (x : ℕ) → x < count → numbered x ≡ None
      → numbered_from addressing bytes tables x ≡ numbered_from addressing bytes tables (x + 1)
  from_none x below is =
      from-first x below
      ∙ ap (λ (o : Option NumberedExport). cons_option o (numbered_from addressing bytes tables (x + 1))) is

  pub from_end : (x : ℕ) → count ≤ x → numbered_from addressing bytes tables x ≡ []
  unfolding numbered_from
  from_end x past =
      let none : count - x ≡ 0 = omega arith in
      ap (λ (k : ℕ). filter_map numbered (range_with_len x k)) none

  -- no more come than there are name pointers left
  pub from_most : (x : ℕ) → length (numbered_from addressing bytes tables x) ≤ count - x
  unfolding numbered_from
  from_most x =
      omega (arith, length-kept numbered (range_with_len x (count - x)), length-range_with_len x (count - x))

-- ---- a call of the walk

-- before an end that no name pointer passes, the next of all is given
pub given-all : (end : ℕ) (s t : Exports) (result : Option WalkedExport)
    → GivesExportBefore end s result t → length (walked_tables s).export_name_pointer_table ≤ end
    → GivesExport s result t
given-all end s t (Some x) given all = given.0
given-all end s t None given all =
    let first = entry_count 4 name_pointers.value_of (bytes_in s.tables.name_pointers) in
    let same = ap (λ (tables : ExportTables). length tables.export_name_pointer_table) given.0.1 in
    let past = from_end _ _ (walked_tables t) (exports_position t) (omega (arith, given.2, first, same, all)) in
    ((sym given.1 ∙ past, past), given.0, omega (arith, given.2, first, all))

-- ---- a directory that was read

-- the file has bytes, since it has the record
data-there : (addressing : Addressing) (d : DataDirectory) (bytes : List ℕ)
    (tables : ExportTables) → (reading.export_data addressing d).value bytes ≡ Some tables
    → (length bytes == 0) ≡ false
unfolding reading.export_data
data-there addressing d bytes tables is =
    let at = step (addressing.offset d.virtual_address) _ tables is in
    let part = in_memory (addressing.end d.virtual_address) bytes in
    let here = step ((reading.export_record_at at.value).value part) _ tables at.then in
    let found = record_at-some 40 (export_directory_record Little) part at.value here.value here.is in
    ne_eqb (length bytes) 0
    (λ none. omega (arith, bytes_there (addressing.end d.virtual_address) bytes (omega (arith, found.start))))

-- the tables of a directory with all that comes are what is read
pub read_walked : (addressing : Addressing) (d : DataDirectory) (bytes : List ℕ)
    (tables : ExportTables) → (reading.export_data addressing d).value bytes ≡ Some tables
    → (reading.numbered_read addressing d).value bytes
    ≡ Some (tables, numbered_from addressing bytes tables 0)
unfolding reading.numbered_read reading.numbered_rows numbered_from
read_walked addressing d bytes tables is =
    let n = length tables.export_name_pointer_table in
    let all : n - 0 ≡ n = omega arith in
    rw (is, data-there addressing d bytes tables is, all)
    (ap (λ (exports : List NumberedExport). Some (tables, exports)) (joined (numbered_export addressing bytes tables) n))
