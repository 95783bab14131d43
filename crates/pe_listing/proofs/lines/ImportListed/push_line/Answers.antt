use Rattle.std.proofs.Common.{◌++◌, ap, ◌∙◌, codes, List, ℕ, string_bytes}
use Rattle.std.specs.Cow.{cow_str_bytes}
use Rattle.pe_listing.specs.Lines.{import_line}
use Rattle.pe_listing.specs.Text.{decimal_field, hex_field, name_field}
use Rattle.pe_listing.proofs.Pushed.{pushed, pushed_last}
use Rattle.pe_listing.proofs.lines.ImportListed.push_line.Goals as goal

pub returns : goal.returns
unfolding import_line
returns c =
    let name = c.in_ok-push_name-2.ensures ∙ ap (λ (n : List ℕ). string_bytes c.push_name.new.text ++ name_field (codes " name=") n) c.as_str.ensures.value in
    rw (← c.self.view_is) (pushed (string_bytes c.args.text.now) (string_bytes c.push_hex.new.text) (string_bytes c.push_str.new.self) (hex_field (codes "import offset=") c.self.inside.offset) _ c.in_ok-push_hex.ensures
    (pushed (string_bytes c.push_hex.new.text) (string_bytes c.push_decimal.new.text) (string_bytes c.push_str.new.self) (decimal_field (codes " ordinal=") c.self.inside.ordinal) _ c.in_ok-push_decimal.ensures
    (pushed (string_bytes c.push_decimal.new.text) (string_bytes c.push_hex-2.new.text) (string_bytes c.push_str.new.self) (hex_field (codes " rva=") c.self.inside.rva) _ c.in_ok-push_hex-2.ensures
    (pushed (string_bytes c.push_hex-2.new.text) (string_bytes c.push_decimal-2.new.text) (string_bytes c.push_str.new.self) (decimal_field (codes " size=") c.self.inside.size) _ c.in_ok-push_decimal-2.ensures
    (pushed (string_bytes c.push_decimal-2.new.text) (string_bytes c.push_decimal-3.new.text) (string_bytes c.push_str.new.self) (decimal_field (codes " slot=") c.self.inside.slot) _ c.in_ok-push_decimal-3.ensures
    (pushed (string_bytes c.push_decimal-3.new.text) (string_bytes c.push_name.new.text) (string_bytes c.push_str.new.self) (name_field (codes " dll=") (c.self.inside.dll.now)) _ c.in_ok-push_name.ensures
    (pushed (string_bytes c.push_name.new.text) (string_bytes c.push_name-2.new.text) (string_bytes c.push_str.new.self) (name_field (codes " name=") (cow_str_bytes c.self.inside.name)) _ name
    (pushed_last (string_bytes c.push_name-2.new.text) (string_bytes c.push_str.new.self) (codes "\n") c.in_ok-push_str.ensures.bytes))))))))
