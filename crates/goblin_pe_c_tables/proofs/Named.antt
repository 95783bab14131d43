-- The sections of an image that was read have their names from its string table.
use Rattle.std.proofs.Common.{◌≡◌, List, ap, refl, subst, None}
use Rattle.goblin_base.proofs.Steps.{mapped, step}
use Rattle.goblin_pe_sect.specs.{Options.is_strict, SectionTable.Section}
use Rattle.goblin_pe_head.specs.{CoffReadings.sections_at, HeaderReadings.pe_header}
use Rattle.goblin_pe_head.specs.PeHeader.{PeHeader}
use Rattle.goblin_pe.specs.Whole.{layout, sections_after}
use Rattle.goblin_pe_c_headers.specs.{declared.image.PeImage.PeImage, Options.header_options}
use Rattle.goblin_pe_c_headers.specs.Sections.{RowsHold}
use Rattle.goblin_pe_c_headers.proofs.Named.{rows_hold, unmoved}
use Rattle.goblin_pe_c_tables.specs.ReadImages.{ImageRowsAreRead, image_of}

pub image_rows : ImageRowsAreRead
unfolding ImageRowsAreRead layout sections_after sections_at
image_rows image l whole read is =
    let strict = is_strict (header_options image.options).parse_mode in
    let header = step ((pe_header strict).value image.bytes.now) _ l read in
    let sections = mapped ((sections_after strict header.value).value image.bytes.now) _ l header.then in
    subst (λ (y : PeHeader × List Section). image ≡ image_of image.options y.0 image → RowsHold image y.1) sections.made
    (λ filled.
    let kind = ap (λ (i : PeImage). i.kind) filled in
    let coff = ap (λ (i : PeImage). i.coff_header) filled in
    let table = ap (λ (i : PeImage). i.section_table) filled in
    let count = ap (λ (i : PeImage). i.section_count) filled in
    subst (RowsHold image) (unmoved sections.value)
    (rows_hold image sections.value None whole (rw kind refl) (rw (coff, table, count) sections.is)))
    is
