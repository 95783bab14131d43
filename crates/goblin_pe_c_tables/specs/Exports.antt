-- The records of exports, as definitions.
use Rattle.std.specs.Prelude.{ℕ, ◌+◌, ◌-◌, Bool, false, List, [], ◌∷◌, ◌++◌, length, Option, Some}
use Rattle.std.specs.Prelude.{None, option_map, unwrap_or, is_some}
use Rattle.goblin_base.specs.Reading.{Reading}
use Rattle.goblin_pe_sect.specs.AddressReadings.{at_address}
use Rattle.goblin_pe_export.specs.added.ExportWalks.{NumberedExport}
use Rattle.goblin_pe_c_headers.specs.{Addresses.image_addressing, Names.cut_name}
use Rattle.goblin_pe_c_headers.specs.Options.{longest_of}
use Rattle.goblin_pe_c_headers.specs.declared.image.PeImage.{PeImage}
use Rattle.goblin_pe_export.specs.Forwarders.{Forwarder, forwarder_within, is_longer}
use Rattle.goblin_pe_export.specs.Forwarders.Forwarder.{ByName, ByOrdinal}
pub use Rattle.goblin_pe_c_tables.specs.declared.export.PeExport.{PeExport}
use Rattle.goblin_pe_c_tables.specs.declared.forwarder.PeForwarder.{PeForwarder}

-- a record of a forwarder, its slices as lists
pub record ForwarderModel : Type 0 where
  pub dll : List ℕ
  pub name : List ℕ
  pub ordinal : ℕ
  pub kind : ℕ
  pub is_cut : Bool
  pub reserved : List ℕ

-- a record of an export, its slices as lists
pub record ExportModel : Type 0 where
  pub name : List ℕ
  pub forwarder : ForwarderModel
  pub ordinal : ℕ
  pub hint : ℕ
  pub rva : ℕ
  pub name_rva : ℕ
  pub offset : ℕ
  pub has_name : Bool
  pub is_name_cut : Bool
  pub has_offset : Bool
  pub reserved : List ℕ

abbrev pub no_forwarder : ForwarderModel
no_forwarder = record {
  dll = [];
  name = [];
  ordinal = 0;
  kind = 0;
  is_cut = false;
  reserved = 0 ∷ 0 ∷ 0 ∷ [];
}

-- how many bytes the limit leaves for the name of a forwarder, after the library and a dot
abbrev pub name_room : Option ℕ → List ℕ → Option ℕ
name_room longest lib = option_map (λ n. n - (length lib + 1)) longest

-- The record of a forwarder, which is by name or by ordinal; zeros without one. It is cut as one
-- text: the library, a dot (46) and the name.
abbrev pub forwarder_for_c : Option ℕ → Option Forwarder → ForwarderModel
forwarder_for_c longest None = no_forwarder
forwarder_for_c longest (Some (ByName name lib)) = record no_forwarder {
  dll = (cut_name longest lib).0;
  name = (cut_name (name_room longest lib) name).0;
  kind = 1;
  is_cut = is_longer longest (lib ++ 46 ∷ name);
}
forwarder_for_c longest (Some (ByOrdinal ordinal lib)) =
    record no_forwarder { dll = lib; ordinal = ordinal; kind = 2 }

-- the record of an export with this forwarder; what the export does not have is nothing, or 0
abbrev pub export_with : Option ℕ → NumberedExport → ForwarderModel → ExportModel
export_with longest x forwarder =
    let name = cut_name longest (unwrap_or x.row.name []) in
    record {
      name = name.0;
      forwarder = forwarder;
      ordinal = x.ordinal;
      hint = x.hint;
      rva = x.row.rva;
      name_rva = x.name_rva;
      offset = unwrap_or x.row.offset 0;
      has_name = is_some x.row.name;
      is_name_cut = name.1;
      has_offset = is_some x.row.offset;
      reserved = 0 ∷ 0 ∷ 0 ∷ 0 ∷ 0 ∷ [];
    }

abbrev pub export_for_c : Option ℕ → NumberedExport → ExportModel
export_for_c longest x = export_with longest x (forwarder_for_c longest x.row.reexport)

abbrev pub forwarder_model : PeForwarder → ForwarderModel
forwarder_model f = record {
  dll = f.dll.now;
  name = f.name.now;
  ordinal = f.ordinal;
  kind = f.kind;
  is_cut = f.is_cut;
  reserved = f.reserved;
}

abbrev pub export_model : PeExport → ExportModel
export_model x = record {
  name = x.name.now;
  forwarder = forwarder_model x.forwarder;
  ordinal = x.ordinal;
  hint = x.hint;
  rva = x.rva;
  name_rva = x.name_rva;
  offset = x.offset;
  has_name = x.has_name;
  is_name_cut = x.is_name_cut;
  has_offset = x.has_offset;
  reserved = x.reserved;
}

-- the forwarder whose text is at an RVA of an image, up to the limit that its options say
abbrev pub forwarder_at_address : PeImage → ℕ → Reading Forwarder
forwarder_at_address image rva =
    at_address (image_addressing image) rva
    (forwarder_within (longest_of image.options))
