-- Named options, and the meaning of a file alignment, a view and a parse mode.
use Rattle.std.specs.Prelude.{ℕ, Bool, true, false, if◌then◌else◌, nat_lt, Option, None, Some}
use Rattle.goblin_base.specs.declared.permissive.ParseMode.{ParseMode}
use Rattle.goblin_base.specs.declared.permissive.ParseMode.TheVariants.{Strict, Permissive}
use Rattle.goblin_pe_sect.specs.declared.options.Mapping.{Mapping}
use Rattle.goblin_pe_sect.specs.declared.options.ParseOptions.{ParseOptions}
use Rattle.goblin_pe_sect.specs.declared.options.RawPointerRule.{RawPointerRule}
use Rattle.goblin_pe_sect.specs.declared.options.RawPointerRule.TheVariants.{AsStored, RoundedTo512}
use Rattle.goblin_pe_sect.specs.declared.options.View.{View}
use Rattle.goblin_pe_sect.specs.declared.options.View.TheVariants.{LoadedSections, Loader, Sections}

-- the options for a file on disk: everything is read in strict mode, and addresses are mapped by
-- the sections, from their raw pointers as stored
abbrev pub default_options : ParseOptions
default_options = record {
  resolve_rva = true;
  parse_attribute_certificates = true;
  parse_tls_data = true;
  parse_resources = true;
  parse_mode = Strict;
  parse_imports = true;
  raw_pointer_rule = AsStored;
}

-- the options for a TE image: addresses are offsets, and there are no certificates
abbrev pub te_options : ParseOptions
te_options = record default_options { resolve_rva = false; parse_attribute_certificates = false }

-- the rule for raw pointers that is right for an image with this file alignment
abbrev pub rule_by_alignment : ℕ → RawPointerRule
rule_by_alignment alignment = if nat_lt alignment 512 then AsStored else RoundedTo512

-- the size of the headers if the file's front is mapped, which is so in the loader's view only; the
-- window of `front_section` says how many bytes of the front are mapped for this size
abbrev pub front_of : View → ℕ → Option ℕ
front_of Sections size_of_headers = None
front_of LoadedSections size_of_headers = None
front_of Loader size_of_headers = Some size_of_headers

-- how addresses are mapped in a view, with these options; and in goblin
abbrev pub mapping_in : View → ParseOptions → Mapping
mapping_in view opts = record {
  resolve_rva = opts.resolve_rva;
  raw_pointer_rule = opts.raw_pointer_rule;
  view = view;
}

abbrev pub mapping_by : ParseOptions → Mapping
mapping_by opts = mapping_in Sections opts

-- the mode is strict
abbrev pub is_strict : ParseMode → Bool
is_strict Strict = true
is_strict Permissive = false
