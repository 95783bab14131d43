use Rattle.std.proofs.Common.{◌++◌, ap, ◌∙◌, codes, ℕ, string_bytes, flat_map}
use Rattle.goblin_pe.specs.sect.BaseRelocations.{block_items, relocation_bytes}
use Rattle.pe_listing.specs.Lines.{block_count, block_line, part_lines}
use Rattle.pe_listing.specs.Text.{decimal_field}
use Rattle.pe_listing.proofs.Pushed.{pushed, pushed_last}
use Rattle.pe_listing.proofs.lines.push_relocations.Goals as goal

pub returns-in_ok-push_str-in-Absent : goal.returns-in_ok-push_str-in-Absent
unfolding part_lines
returns-in_ok-push_str-in-Absent c = rw c.in-Absent.is (pushed (string_bytes c.args.text.now) (string_bytes c.push_str.new.self) (string_bytes c.push_str-in-Absent.new.self) (codes "relocations") _ c.in_ok-push_str.ensures.bytes c.in_ok-push_str-in-Absent.ensures.bytes)

pub returns-in_ok-push_str-in-Refused : goal.returns-in_ok-push_str-in-Refused
unfolding part_lines
returns-in_ok-push_str-in-Refused c = rw c.in-Refused.is (pushed (string_bytes c.args.text.now) (string_bytes c.push_str.new.self) (string_bytes c.push_str-in-Refused.new.self) (codes "relocations") _ c.in_ok-push_str.ensures.bytes c.in_ok-push_str-in-Refused.ensures.bytes)

pub returns-in_ok-push_blocks-in-Read : goal.returns-in_ok-push_blocks-in-Read
unfolding part_lines
returns-in_ok-push_blocks-in-Read c =
    let count = c.in_ok-push_decimal-in-Read.ensures ∙ ap (λ (n : ℕ). string_bytes c.push_str.new.self ++ decimal_field (codes " ") n) c.block_count.ensures in
    rw c.in-Read.is (pushed (string_bytes c.args.text.now) (string_bytes c.push_str.new.self) (string_bytes c.push_blocks.new.text) (codes "relocations") _ c.in_ok-push_str.ensures.bytes
    (pushed (string_bytes c.push_str.new.self) (string_bytes c.push_decimal.new.text) (string_bytes c.push_blocks.new.text) (decimal_field (codes " ") (block_count (block_items (relocation_bytes c.in-Read.relocations) 0))) _ count
    (pushed (string_bytes c.push_decimal.new.text) (string_bytes c.push_str-in-Read.new.self) (string_bytes c.push_blocks.new.text) (codes "\n") _ c.in_ok-push_str-in-Read.ensures.bytes
    (pushed_last (string_bytes c.push_str-in-Read.new.self) (string_bytes c.push_blocks.new.text) (flat_map block_line (block_items (relocation_bytes c.in-Read.relocations) 0)) c.in_ok-push_blocks-in-Read.ensures))))
