use Rattle.std.proofs.Common.{ℕ, ◌∷◌, ◌+◌, ap, arith, length, Some, sym, ◌∙◌}
use Rattle.goblin_base.specs.Parts.{bytes_in}
use Rattle.goblin_pe_sect.specs.{Addresses.map_of, declared.address_map.AddressMap.AddressMap}
use Rattle.goblin_pe_export.specs.ExportRecords.{ExportTables, name_pointers, tables_in}
use Rattle.goblin_pe_export.specs.added.ExportWalks.{NumberedExport, exports_at, numbered_from, walked_export}
use Rattle.goblin_pe_export.proofs.added.ExportWalk.{from_export, from_none}
use Rattle.goblin_pe_export.proofs.WholeEntries.{entry_count}
use Rattle.goblin_pe_export.proofs.added.exports.Exports.next_before.Goals as goal

pub pointers-preserved : goal.pointers-preserved
pointers-preserved c =
    let before = c.pointers.invariant in
    let count = ap (λ (t : ExportTables). length t.export_name_pointer_table) before.over.1 in
    let same = c.of_pointer-read.ensures.same in
    record {
      begun = omega (arith, before.begun);
      at = omega arith;
      most = omega (arith, c.pointers-test.true);
      over = ((before.over.0.0, ap map_of same ∙ before.over.0.1), before.over.1);
      left = before.left
          ∙ from_none _ _ _ c.pointers.index (omega (arith, c.pointers-test.true, c.min-end.ensures, c.pointers-2.ensures, count))
          c.in_default.ensures.value
          ∙ ap (λ (m : AddressMap). numbered_from (map_of m).addressing c.pointers.self.bytes.now (tables_in c.pointers.self.tables) (c.pointers.index + 1))
          (sym same);
    }

pub returns-in-Some : goal.returns-in-Some
returns-in-Some c =
    let before = c.pointers.invariant in
    let count = ap (λ (t : ExportTables). length t.export_name_pointer_table) before.over.1 in
    let first = entry_count 4 name_pointers.value_of (bytes_in c.args.self.now.tables.name_pointers) in
    let same = c.of_pointer-read.ensures.same in (
      (
        before.left
            ∙ from_export _ _ _ c.pointers.index _ (omega (arith, c.pointers-test.true, c.min-end.ensures, c.pointers-2.ensures, count))
            (c.in-Some.ensures.value ∙ ap (λ (n : NumberedExport). Some n) (sym c.numbered.ensures))
            ∙ ap (λ (m : AddressMap). walked_export c.numbered.result ∷ numbered_from (map_of m).addressing c.pointers.self.bytes.now (tables_in c.pointers.self.tables) (c.pointers.index + 1))
            (sym same),
        ((before.over.0.0, ap map_of same ∙ before.over.0.1), before.over.1),
        omega (arith, ap (λ (n : NumberedExport). n.hint) c.numbered.ensures),
      ),
      omega (arith, before.begun),
      omega (arith, c.pointers-test.true, c.min-end.ensures, c.pointers-2.ensures, first),
    )

pub returns : goal.returns
returns c =
    let before = c.pointers.invariant in
    let first = entry_count 4 name_pointers.value_of (bytes_in c.args.self.now.tables.name_pointers) in
    let left = ap (λ (x : ℕ). exports_at c.pointers.self x) before.at in (
      before.over,
      left ∙ sym before.left,
      omega (arith, before.begun, before.at, before.most, c.pointers-test.false, c.min-end.ensures, c.pointers-2.ensures, first),
    )
