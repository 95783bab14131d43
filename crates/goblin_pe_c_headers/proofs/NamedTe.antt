-- Sections of a Terse Executable that were read have their names from the front of the file.
use Rattle.std.proofs.Common.{◌≡◌, ◌∙◌, ℕ, true, List, map, ap, subst, Some, option_map, sym}
use Rattle.std.specs.List.{range_with_len}
use Rattle.std.proofs.{lemmas.Option.cond_some, lemmas.Simd.map-map}
use Rattle.goblin_base.specs.Answers.{all_at, all_of}
use Rattle.goblin_base.proofs.Steps.{all_of-map, mapped, step}
use Rattle.goblin_pe_sect.specs.SectionTable.{Section}
use Rattle.goblin_pe_head.specs.declared.header.te.TeHeader.{TeHeader}
use Rattle.goblin_pe_head.specs.TeHeader.{displacement, section_moved, te_header, te_image, te_sections_at}
use Rattle.goblin_pe_c_headers.specs.Sections.{RowsHold, displacement_of}
use Rattle.goblin_pe_c_headers.specs.TeImages.{TeRowsAreRead, te_file, te_record_of}
use Rattle.goblin_pe_c_headers.proofs.{Named.read_sections, Named.rows_hold, PlacedSections.value}

pub te_rows : TeRowsAreRead
unfolding TeRowsAreRead te_file te_image te_sections_at
te_rows image x whole strict read is =
    let bytes = image.bytes.now in
    let s1 = step ((te_header 0).value bytes) _ x read in
    let s2 = mapped ((te_sections_at s1.value 40).value bytes) (λ (sections : List Section). (s1.value, sections)) x s1.then in
    let s = step (displacement s1.value) _ s2.value s2.is in
    let n = s1.value.number_of_sections in
    let read_all = value true 0 bytes 40 in
    let move = section_moved (Some s.value) in
    let moved_all = ap all_of (sym (map-map (option_map move) read_all (range_with_len 0 n))) ∙ all_of-map move (map read_all (range_with_len 0 n)) in
    let own = mapped (all_at read_all n) (map move) s2.value (sym moved_all ∙ s.then) in
    subst (λ (both : TeHeader × List Section). image ≡ te_record_of image.options both.0 image → RowsHold image both.1) s2.made
    (λ filled.
    subst (RowsHold image) own.made
    (rows_hold image own.value (Some s.value) whole (ap displacement_of filled ∙ ap (λ (d : ℕ). Some d) (cond_some _ _ s.value s.is).1)
    (rw strict (ap (read_sections true bytes) filled ∙ own.is))))
    is
