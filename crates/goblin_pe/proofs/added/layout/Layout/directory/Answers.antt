use Rattle.std.proofs.Common.{◌∙◌, sym}
use Rattle.goblin_pe_sect.specs.Addresses.{reads_strictly}
use Rattle.goblin_pe.specs.added.Layouts.{directory_data, directory_part, layout_bytes, layout_map}
use Rattle.goblin_pe.proofs.Parts.{becomes_read}
use Rattle.goblin_pe.proofs.added.layout.Layout.directory.Goals as goal

pub returns : goal.returns
unfolding directory_part
returns c =
    let m = layout_map c.args.self.now in
    rw (sym c.directory.ensures ∙ c.in-Some.is)
    (becomes_read _ (directory_data m.addressing c.in-Some.directory) (layout_bytes c.args.self.now) (reads_strictly m) c.bytes_of.result c.part.result c.bytes_of.ensures c.part.ensures)
