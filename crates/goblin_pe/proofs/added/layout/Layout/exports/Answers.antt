use Rattle.std.proofs.Common.{◌∙◌, subst, sym}
use Rattle.goblin_base.specs.Reading.{Reads}
use Rattle.goblin_pe_sect.specs.Addresses.{MapOfAddresses, reads_strictly}
use Rattle.goblin_pe_export.specs.ExportReadings.{numbered_read}
use Rattle.goblin_pe.specs.Whole.{export_part}
use Rattle.goblin_pe.specs.added.Layouts.{layout_bytes, layout_map, walked_exports}
use Rattle.goblin_pe.proofs.Parts.{becomes_read}
use Rattle.goblin_pe.proofs.added.layout.Layout.exports.Goals as goal

pub returns-clause-value : goal.returns-clause-value
unfolding export_part
returns-clause-value c =
    let m = layout_map c.args.self.now in
    let bytes = layout_bytes c.args.self.now in
    let read = subst (λ (n : MapOfAddresses). Reads walked_exports c.by.result (numbered_read n.addressing c.in-Some.directory) bytes) c.finder.ensures c.by.ensures.value in
    rw (sym c.directory.ensures ∙ c.in-Some.is)
    (becomes_read walked_exports (numbered_read m.addressing c.in-Some.directory) bytes (reads_strictly m) c.by.result c.part.result read c.part.ensures)
