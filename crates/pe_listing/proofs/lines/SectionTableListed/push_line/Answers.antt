use Rattle.std.proofs.Common.{◌++◌, ap, ◌∙◌, sym, codes, List, ℕ, string_bytes}
use Rattle.pe_listing.specs.Lines.{section_line, shown_name}
use Rattle.pe_listing.specs.Text.{hex_field, name_field}
use Rattle.pe_listing.proofs.Pushed.{pushed, pushed_last}
use Rattle.pe_listing.proofs.lines.SectionTableListed.push_line.Goals as goal

pub returns : goal.returns
unfolding section_line
returns c =
    let name = c.in_ok-push_name_bytes.ensures ∙ ap (λ (n : List ℕ). string_bytes c.push_hex-4.new.text ++ name_field (codes " name=") n) (c.shown_name.ensures ∙ ap shown_name (sym c.self.view_is)) in
    rw (← c.self.view_is) (pushed (string_bytes c.args.text.now) (string_bytes c.push_hex.new.text) (string_bytes c.push_str.new.self) (hex_field (codes "section va=") c.self.inside.virtual_address) _ c.in_ok-push_hex.ensures
    (pushed (string_bytes c.push_hex.new.text) (string_bytes c.push_hex-2.new.text) (string_bytes c.push_str.new.self) (hex_field (codes " vsize=") c.self.inside.virtual_size) _ c.in_ok-push_hex-2.ensures
    (pushed (string_bytes c.push_hex-2.new.text) (string_bytes c.push_hex-3.new.text) (string_bytes c.push_str.new.self) (hex_field (codes " raw=") c.self.inside.size_of_raw_data) _ c.in_ok-push_hex-3.ensures
    (pushed (string_bytes c.push_hex-3.new.text) (string_bytes c.push_hex-4.new.text) (string_bytes c.push_str.new.self) (hex_field (codes " ptr=") c.self.inside.pointer_to_raw_data) _ c.in_ok-push_hex-4.ensures
    (pushed (string_bytes c.push_hex-4.new.text) (string_bytes c.push_name_bytes.new.text) (string_bytes c.push_str.new.self) (_) _ name
    (pushed_last (string_bytes c.push_name_bytes.new.text) (string_bytes c.push_str.new.self) (codes "\n") c.in_ok-push_str.ensures.bytes))))))
