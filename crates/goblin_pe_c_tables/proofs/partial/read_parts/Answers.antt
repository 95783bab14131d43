use Rattle.std.proofs.Common.{◌≡◌, ℕ, List, Some, Result, Ok, Err, subst, sym, unwrap_or}
use Rattle.goblin_base.specs.{declared.error.ErrorOf.ErrorOf, Reading.Reading}
use Rattle.goblin_pe_sect.specs.{Options.is_strict, declared.options.ParseOptions.ParseOptions}
use Rattle.goblin_pe_c_headers.specs.{Options.header_options, declared.image.PeImage.PeImage}
use Rattle.goblin_pe_c_headers.specs.{Calls.ReadsWithout, Places.image_places}
use Rattle.goblin_pe_c_headers.specs.Places.{placed_sections}
use Rattle.goblin_pe.specs.Whole.{layout}
use Rattle.goblin_pe_head.specs.PeHeader.{PeHeader}
use Rattle.goblin_pe_sect.specs.SectionTable.{Section}
use Rattle.goblin_pe_c_headers.specs.ImageRecords.{IsImage}
use Rattle.goblin_pe_c_tables.specs.ReadImages.{image_of}
use Rattle.goblin_pe_c_tables.specs.PartialImages.{AreTableFaults, HoldsParts, given_sections}
use Rattle.goblin_pe_c_tables.proofs.Placed.{given_led, whole_given}
use Rattle.goblin_pe_c_tables.proofs.partial.read_parts.Goals as goal

-- what a refused read leaves may be said otherwise
leaves : {A L M : Type 0} (reading : Reading A) (bytes : List ℕ) (Says : A → Type 0) (r : Result Unit ErrorOf) → (L → M)
    → ReadsWithout reading bytes Says L r → ReadsWithout reading bytes Says M r
leaves reading bytes Says (Ok x) said reads = reads
leaves reading bytes Says (Err e) said reads = (reads.0, reads.1, said reads.2)

pub returns : goal.returns
returns c =
    let parts = c.read-parts.result in
    let bytes = c.args.bytes.now in
    let o = c.args.options.now in
    let opts = c.header_options-opts.ensures in
    let table = c.table_faults-table.result in
    let place = unwrap_or parts.section_table 0 in
    let made = c.partial_image.ensures in
    let led = subst (λ (i : PeImage). (placed_sections (image_places i)).value bytes ≡ Some (given_sections parts)) (sym made.1) (given_led bytes parts c.read-parts.ensures.parts) in
    record {
      parts = parts;
      stub = c.file_stub-stub.result;
      rich = c.parse-rich.result;
      table = table;
      are = c.read-parts.ensures.parts;
      whole = c.read-parts.ensures.whole;
      sections = whole_given bytes parts c.read-parts.ensures.parts;
      stub_read = c.file_stub-stub.ensures;
      rich_read = c.parse-rich.ensures.value;
      table_read =
          subst (λ (n : ℕ). AreTableFaults bytes parts.coff_header place n (is_strict (header_options o).parse_mode) table) c.count_given.ensures
          (subst (λ (p : ParseOptions). AreTableFaults bytes parts.coff_header place c.count_given.result (is_strict p.parse_mode) table) opts c.table_faults-table.ensures);
      faults = c.faults_of.ensures;
      image = leaves (layout (header_options o)) bytes (λ (l : PeHeader × List Section). IsImage bytes c.read.new.image (image_of o l.0)) c.read.result
          (λ same. subst (λ (i : PeImage). HoldsParts o bytes parts c.file_stub-stub.result c.parse-rich.result i) (sym same) (made, led)) c.read.ensures.read;
    }
