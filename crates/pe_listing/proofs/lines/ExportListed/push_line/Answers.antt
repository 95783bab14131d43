use Rattle.std.proofs.Common.{append_assoc, refl}
use Rattle.pe_listing.specs.Lines.{export_line}
use Rattle.pe_listing.proofs.lines.ExportListed.push_line.Goals as goal

pub returns : goal.returns
unfolding export_line
returns c =
    simp (c.in_ok-push_str.ensures.bytes, c.in_ok-push_export_name.ensures, c.in_ok-push_reexport.ensures, c.in_ok-push_offset.ensures, c.in_ok-push_hex.ensures, append_assoc) (rw (← c.self.view_is) refl)
