use Rattle.std.proofs.Common.{◌++◌, ap, ◌∙◌, codes, List, string_bytes, length, flat_map}
use Rattle.goblin_pe.specs.sect.SectionTable.{Section}
use Rattle.goblin_pe.specs.head.PeHeader.{header_value}
use Rattle.goblin_pe.specs.sect.BaseRelocations.{relocation_bytes}
use Rattle.goblin_pe.specs.Whole.{items_part, part_map}
use Rattle.pe_listing.specs.Lines.{export_line, header_line, import_line, part_lines, relocation_lines, section_line, whole_lines}
use Rattle.pe_listing.proofs.Pushed.{pushed, pushed_last}
use Rattle.pe_listing.proofs.lines.push_whole.Goals as goal

pub returns : goal.returns
unfolding whole_lines
returns c =
    let sections = c.in_ok-push_lines.ensures ∙ ap (λ (xs : List Section). string_bytes c.push_header.new.text ++ flat_map section_line xs) c.deref.ensures.value in
    rw (← c.whole.view_is) (pushed (string_bytes c.args.text.now) (string_bytes c.push_header.new.text) (string_bytes c.push_relocations.new.text) (header_line (header_value c.whole.inside.header)) _ c.in_ok-push_header.ensures
    (pushed (string_bytes c.push_header.new.text) (string_bytes c.push_lines.new.text) (string_bytes c.push_relocations.new.text) (flat_map section_line c.whole.inside.sections.items) _ sections
    (pushed (string_bytes c.push_lines.new.text) (string_bytes c.push_part.new.text) (string_bytes c.push_relocations.new.text) (part_lines (codes "imports") length (flat_map import_line) (items_part c.whole.inside.imports)) _ c.in_ok-push_part.ensures
    (pushed (string_bytes c.push_part.new.text) (string_bytes c.push_part-2.new.text) (string_bytes c.push_relocations.new.text) (part_lines (codes "exports") length (flat_map export_line) (items_part c.whole.inside.exports)) _ c.in_ok-push_part-2.ensures
    (pushed_last (string_bytes c.push_part-2.new.text) (string_bytes c.push_relocations.new.text) (relocation_lines (part_map relocation_bytes c.whole.inside.relocations)) c.in_ok-push_relocations.ensures)))))
