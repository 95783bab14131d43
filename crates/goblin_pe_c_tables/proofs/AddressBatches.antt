-- The entries of the export address table of a file, from an index on.
use Rattle.std.proofs.Common.{◌≡◌, ◌∙◌, ◌+◌, ◌≤◌, ℕ, List, [], Option, Some, None, ap, arith, drop_of_length-le, inl, inr, refl, length, slice_get, subst, sym, true, IsSomeAnd, option_map}
use Rattle.std.specs.List.{enumerate_from}
use Rattle.std.proofs.lemmas.List.{length-map}
use Rattle.std.proofs.lemmas.List.FromFn.{get_or-enumerate_from, length-enumerate_from}
use Rattle.std.proofs.lemmas.Option.{slice_get-get_or, slice_get-map, slice_get_cases, slice_get_past}
use Rattle.goblin_pe_sect.specs.Addresses.{Addressing, MapOfAddresses}
use Rattle.goblin_pe_export.specs.declared.export.tables.ExportAddressTableEntry.{ExportAddressTableEntry}
use Rattle.goblin_pe_c_tables.specs.ExportDirectories.{PeExportAddress}
use Rattle.goblin_pe_export.specs.declared.added.exports.Exports.{Exports}
use Rattle.goblin_pe_export.specs.ExportRecords.{ExportTables}
use Rattle.goblin_pe_export.specs.added.ExportWalks.{walked_tables}
use Rattle.goblin_pe.specs.{added.Layouts.address_part, declared.whole.Part.Part}
use Rattle.goblin_pe.specs.Whole.{TablePlaces, part_map}
use Rattle.goblin_pe.specs.declared.whole.Part.TheVariants.{Absent, Refused}
use Rattle.goblin_pe_c_headers.specs.Onward.{CountsRows, GivesOnward, row_table, unrefused, Batch}
use Rattle.goblin_pe_c_headers.specs.declared.batch.PeBatch.{PeBatch}
use Rattle.goblin_pe_c_headers.proofs.Batches.{none-given}
use Rattle.goblin_pe_c_tables.specs.Batches.{GivesAddresses, GivesAddressesOf, SkipsTable, at_room}
use Rattle.goblin_pe.specs.added.Layouts.{read_or}
use Rattle.goblin_pe_c_tables.specs.ExportDirectories.{address_for_c, addresses_for_c}

-- ---- items with their indexes

numbered : {A : Type 0} (xs : List A) (i : ℕ) → slice_get (enumerate_from 0 xs) i ≡ option_map (λ x. (i, x)) (slice_get xs i)
numbered {A} xs i = elim (slice_get_cases xs i).1 [
  | inl there ↦
      let x = there.0 in
      slice_get-get_or (enumerate_from 0 xs) i (i, x) (let within = there.1 in omega (arith, within, length-enumerate_from 0 xs))
      ∙ ap (λ (y : ℕ × A). Some y) (get_or-enumerate_from 0 xs i (i, x) there.1 ∙ ap (λ (y : A). (0 + i, y)) there.3)
      ∙ ap (λ (j : ℕ). Some (j, x)) (let same : 0 + i ≡ i = omega arith in same)
      ∙ ap (option_map (λ (y : A). (i, y))) (sym there.2)
  | inr past ↦
      slice_get_past (enumerate_from 0 xs) i (let after = past.0 in omega (arith, after, length-enumerate_from 0 xs))
      ∙ ap (option_map (λ (y : A). (i, y))) (sym past.1)
]

module _ (addressing : Addressing) (tables : ExportTables) where
  abbrev one : ℕ × ExportAddressTableEntry → PeExportAddress
  one x = address_for_c addressing (tables.export_directory_table.ordinal_base + x.0) x.1

  -- the record at an index
  pub address-some : (i : ℕ) (entry : ExportAddressTableEntry) → Some entry ≡ slice_get tables.export_address_table i
      → Some (address_for_c addressing (tables.export_directory_table.ordinal_base + i) entry) ≡ slice_get (addresses_for_c addressing tables) i
  address-some i entry is =
      ap (λ (o : Option ExportAddressTableEntry). option_map one (option_map (λ x. (i, x)) o)) is
      ∙ ap (option_map one) (sym (numbered tables.export_address_table i))
      ∙ sym (slice_get-map one (enumerate_from 0 tables.export_address_table) i)

  pub address-none : (i : ℕ) → None ≡ slice_get tables.export_address_table i → None ≡ slice_get (addresses_for_c addressing tables) i
  address-none i is =
      ap (λ (o : Option ExportAddressTableEntry). option_map one (option_map (λ x. (i, x)) o)) is
      ∙ ap (option_map one) (sym (numbered tables.export_address_table i))
      ∙ sym (slice_get-map one (enumerate_from 0 tables.export_address_table) i)

  pub length-addresses : length (addresses_for_c addressing tables) ≡ length tables.export_address_table
  length-addresses =
      length-map (enumerate_from 0 tables.export_address_table) one ∙ length-enumerate_from 0 tables.export_address_table

-- where no item is left
pub onward-none : {W : Type 0} (items : List W) (from : ℕ) (old : List W) → length items ≤ from
    → GivesOnward items (record { position = from; records = old }) (record { position = from; records = old }) (at_room (length old) 0 0 true)
onward-none {W} items from old past =
    let stays : from ≡ from + 0 = omega arith in
    none-given (row_table (λ (w : W). w) items) ⊥ (λ left. (from ≡ from + 0) × CountsRows (at_room (length old) 0 0 true)) from old
    (ap (λ (xs : List W). Some (unrefused xs)) (drop_of_length-le items past)) (stays, (refl, refl))

-- ---- in a file

module _ (m : MapOfAddresses) (places : TablePlaces) (bytes : List ℕ) (found : Part Exports)
    (read : (address_part m.opts m.addressing places).value bytes ≡ Some (part_map walked_tables found)) (old : Batch ℕ PeExportAddress) where
  given : (p : Part ExportTables) → part_map walked_tables found ≡ p → (batch : PeBatch) (new : Batch ℕ PeExportAddress) → GivesAddressesOf m p old new batch
      → GivesAddresses m places bytes old new batch
  given p is batch new gives =
      subst (λ (v : Option (Part ExportTables)). IsSomeAnd v (λ p. GivesAddressesOf m p old new batch))
      (sym (read ∙ ap (λ (p : Part ExportTables). Some p) is)) gives

  -- where there are none
  pub addresses-absent : found ≡ Absent → GivesAddresses m places bytes old old (at_room (length old.records) 0 0 true)
  addresses-absent none = given Absent (ap (part_map walked_tables) none) (at_room (length old.records) 0 0 true) old (onward-none [] old.position old.records (omega arith))

  pub addresses-refused : found ≡ Refused → (new : Batch ℕ PeExportAddress) (batch : PeBatch) → SkipsTable old new batch → GivesAddresses m places bytes old new batch
  addresses-refused none new batch skips = given Refused (ap (part_map walked_tables) none) batch new skips
