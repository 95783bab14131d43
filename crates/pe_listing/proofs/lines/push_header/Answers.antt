use Rattle.std.specs.Prelude.{codes, string_bytes}
use Rattle.pe_listing.specs.Lines.{header_line, if_there, optional_fields}
use Rattle.pe_listing.specs.Text.{decimal_field, hex_field}
use Rattle.pe_listing.proofs.Pushed.{pushed, pushed_last}
use Rattle.pe_listing.proofs.lines.push_header.Goals as goal

pub returns : goal.returns
unfolding header_line
returns c =
    pushed (string_bytes c.args.text.now) (string_bytes c.push_hex.new.text) (string_bytes c.push_str.new.self) (hex_field (codes "header machine=") c.args.header.now.coff_header.machine) _ c.in_ok-push_hex.ensures
    (pushed (string_bytes c.push_hex.new.text) (string_bytes c.push_decimal.new.text) (string_bytes c.push_str.new.self) (decimal_field (codes " sections=") c.args.header.now.coff_header.number_of_sections) _ c.in_ok-push_decimal.ensures
    (pushed (string_bytes c.push_decimal.new.text) (string_bytes c.push_optional_header.new.text) (string_bytes c.push_str.new.self) (if_there optional_fields c.args.header.now.optional_header) _ c.in_ok-push_optional_header.ensures
    (pushed_last (string_bytes c.push_optional_header.new.text) (string_bytes c.push_str.new.self) (codes "\n") c.in_ok-push_str.ensures.bytes)))
