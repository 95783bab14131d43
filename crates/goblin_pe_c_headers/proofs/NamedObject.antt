-- Sections of an object that were read have their names from its string table.
use Rattle.std.proofs.Common.{◌≡◌, ◌+◌, ◌∙◌, ap, subst, None}
use Rattle.goblin_base.specs.{declared.endian.Endian.TheVariants.Little, Record.record_at}
use Rattle.goblin_base.proofs.Steps.{mapped, step}
use Rattle.goblin_pe_sect.specs.Options.{is_strict}
use Rattle.goblin_pe_head.specs.CoffHeader.{coff_header, symbols_end}
use Rattle.goblin_pe_head.specs.CoffReadings.{sections_at}
use Rattle.goblin_pe_c_headers.specs.Objects.{ObjectFile, ObjectRowsAreRead, object_file, object_image}
use Rattle.goblin_pe_c_headers.specs.Options.{header_options}
use Rattle.goblin_pe_c_headers.specs.Sections.{RowsHold, displacement_of}
use Rattle.goblin_pe_c_headers.proofs.Named.{read_sections, rows_hold, unmoved}

pub object_rows : ObjectRowsAreRead
unfolding ObjectRowsAreRead object_file sections_at
object_rows image x whole read is =
    let strict = is_strict (header_options image.options).parse_mode in
    let header = step (record_at 20 (coff_header Little) image.bytes.now 0) _ x read in
    let h = header.value in
    let sections = mapped ((sections_at strict (symbols_end h) h.number_of_sections (20 + h.size_of_optional_header)).value image.bytes.now) _ x header.then in
    subst (λ (y : ObjectFile). image ≡ object_image image.options y.header image → RowsHold image y.sections) sections.made
    (λ filled.
    subst (RowsHold image) (unmoved sections.value)
    (rows_hold image sections.value None whole (ap displacement_of filled) (ap (read_sections strict image.bytes.now) filled ∙ sections.is)))
    is
