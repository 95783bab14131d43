-- The options that a caller passes.
use Rattle.std.specs.Prelude.{ℕ, ◌^◌, ◌==◌, ◌&&◌, nat_le, nat_lt, false, true, if◌then◌else◌, Bool}
use Rattle.std.specs.Prelude.{Option, Some, None}
use Rattle.std.specs.List.{list_all}
use Rattle.goblin_base.specs.declared.permissive.ParseMode.TheVariants.{Strict, Permissive}
use Rattle.goblin_pe_sect.specs.declared.options.ParseOptions.{ParseOptions}
use Rattle.goblin_pe_sect.specs.declared.options.RawPointerRule.TheVariants.{AsStored}
use Rattle.goblin_pe_sect.specs.declared.options.View.{View}
use Rattle.goblin_pe_sect.specs.declared.options.View.TheVariants.{LoadedSections, Loader, Sections}
use Rattle.goblin_pe_sect.specs.Options.{default_options, rule_by_alignment}
pub use Rattle.goblin_pe_c_headers.specs.declared.options.PeOptions.{PeOptions}

-- the options are known: the mapping has a number of its own, and zeros follow
abbrev pub are_known : PeOptions → Bool
are_known o = nat_le o.mapping 3 && list_all (λ b. b == 0) o.reserved

-- what addresses are mapped by: with the mapping 0 as the Windows loader does, and with 1 without
-- the front
abbrev pub view_of : PeOptions → View
view_of o =
    if o.mapping == 0 then Loader
    else if o.mapping == 1 then LoadedSections
    else Sections

-- the options by which a header is read: the mode
abbrev pub header_options : PeOptions → ParseOptions
header_options o =
    record default_options { parse_mode = if o.is_permissive then Permissive else Strict }

-- RVAs are mapped to offsets; if not, they are offsets
abbrev pub maps_addresses : PeOptions → Bool
maps_addresses o = if o.mapping == 3 then false else true

-- The options that a caller says, of a file with this file alignment. Those that a caller can't say
-- have their defaults.
abbrev pub options_at : PeOptions → ℕ → ParseOptions
options_at o alignment = record (header_options o) {
  resolve_rva = maps_addresses o;
  raw_pointer_rule =
      if o.mapping == 0 then rule_by_alignment alignment
      else if o.mapping == 1 then rule_by_alignment alignment
      else AsStored;
}

-- the limit of a name's length that a number says: 4,096 if it is 0, and none from 2^32 on
abbrev pub name_limit : ℕ → Option ℕ
name_limit longest =
    if longest == 0 then Some 4096
    else if nat_lt longest (2 ^ 32) then Some longest
    else None

-- how many bytes of a name are read, if there is a limit
abbrev pub longest_of : PeOptions → Option ℕ
longest_of o = name_limit o.longest_name
