-- What is made of a file's imports and of its exports is made of the file's own tables.
use Rattle.std.proofs.Common.{◌≡◌, ◌∙◌, ℕ, List, Some, refl, ap}
use Rattle.goblin_base.specs.{declared.error.ErrorOf.ErrorOf, Reading.IsRefused, Reading.Reading}
use Rattle.goblin_base.proofs.Steps as steps
use Rattle.readings.specs.Reads.{mapped}
use Rattle.goblin_pe_sect.specs.{declared.options.ParseOptions.ParseOptions, Addresses.Addressing}
use Rattle.goblin_pe_export.specs.ExportRecords.{ExportTables, NumberedExport}
use Rattle.goblin_pe_import.specs.ImportRecords.{NumberedLibrary}
use Rattle.goblin_pe.specs.Whole.{Part, TableParts, TablePlaces, collected_tables, export_part, numbered_data_part, relocation_part, table_parts}

-- ---- the tables, of whose imports and exports something is made

module _ {X Y : Type 0} (imports_of : Part (List NumberedLibrary) → X)
    (exports_of : Part (ExportTables × List NumberedExport) → Y)
    (opts : ParseOptions) (addressing : Addressing) (places : TablePlaces) (bytes : List ℕ) where
  abbrev imports_made : Reading (X)
  imports_made = mapped imports_of (numbered_data_part opts addressing places)

  abbrev exports_made : Reading Y
  exports_made = mapped exports_of (export_part opts addressing places)

  abbrev all_made : Reading (TableParts X Y)
  all_made = mapped (collected_tables imports_of exports_of) (table_parts opts addressing places)

  pub first-refused : (e : ErrorOf) → IsRefused imports_made bytes e → IsRefused all_made bytes e
  unfolding table_parts
  first-refused e h = rw (steps.unmapped _ _ h.0) (refl, h.1)

  pub second-refused : (x : X) (e : ErrorOf) → imports_made.value bytes ≡ Some x
      → IsRefused exports_made bytes e → IsRefused all_made bytes e
  unfolding table_parts
  second-refused x e made h =
      rw ((steps.mapped _ _ x made).is, steps.unmapped _ _ h.0) (refl, h.1)

  pub third-refused : (x : X) (y : Y) (e : ErrorOf)
      → imports_made.value bytes ≡ Some x → exports_made.value bytes ≡ Some y
      → IsRefused (relocation_part opts addressing places) bytes e → IsRefused all_made bytes e
  unfolding table_parts
  third-refused x y e first second h =
      rw ((steps.mapped _ _ x first).is, (steps.mapped _ _ y second).is, h.0) (refl, h.1)

  abbrev parts_of : X → Y → Part (List ℕ) → TableParts X Y
  parts_of x y z = record { imports = x; exports = y; relocations = z }

  pub all-read : (x : X) (y : Y) (z : Part (List ℕ))
      → imports_made.value bytes ≡ Some x → exports_made.value bytes ≡ Some y
      → (relocation_part opts addressing places).value bytes ≡ Some z
      → all_made.value bytes ≡ Some (parts_of x y z)
  unfolding table_parts
  all-read x y z first second third =
      let m = steps.mapped _ _ x first in
      let n = steps.mapped _ _ y second in
      rw (m.is, n.is, third)
      (ap (λ (x : X). Some (parts_of x (exports_of n.value) z)) m.made
      ∙ ap (λ (y : Y). Some (parts_of x y z)) n.made)
