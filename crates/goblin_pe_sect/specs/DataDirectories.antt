-- The data directories of an optional header: the values in their bytes, and the bytes that are
-- written.
use Rattle.std.specs.Prelude.{◌≡◌, ℕ, ◌==◌, ◌&&◌, if◌then◌else◌, List, [], ◌∷◌, drop}
use Rattle.std.specs.Prelude.{slice_get, Option, Some, None, option_map}
use Rattle.std.specs.Prelude.{option_and_then, zip, filter_map, flat_map}
use Rattle.goblin_base.specs.{declared.endian.Endian.Endian, declared.error.ErrorOf.ErrorOf}
use Rattle.goblin_base.specs.declared.error.ErrorOf.TheVariants.{Malformed}
use Rattle.goblin_base.specs.{declared.error.CauseOf.TheVariants.DirectoryIndex, Bytes.number}
use Rattle.goblin_base.specs.Record.{FieldValue, uint}
pub use Rattle.goblin_pe_sect.specs.declared.data_directories.DataDirectory.{DataDirectory}
use Rattle.goblin_pe_sect.specs.declared.data_directories.DataDirectoryType.{DataDirectoryType}
use Rattle.goblin_pe_sect.specs.declared.data_directories.Dirs.{Dirs}
use Rattle.goblin_pe_sect.specs.declared.data_directories.DataDirectoryType.TheVariants as dir

-- Source: PE Format, "Optional Header Data Directories (Image Only)".

-- the data directory in a record's 8 bytes
abbrev pub directory_record : Endian → List ℕ → DataDirectory
directory_record endian bytes = record {
  virtual_address = number endian 4 bytes 0;
  size = number endian 4 bytes 4;
}

-- the fields of a data directory, in order
abbrev pub directory_fields : DataDirectory → List FieldValue
directory_fields d = uint 4 d.virtual_address ∷ uint 4 d.size ∷ []

-- the entry of a data directory: the directory paired with the offset just past it, or none if it
-- is all zeros
abbrev pub entry_ending : ℕ → DataDirectory → Option (ℕ × DataDirectory)
entry_ending end d = if d.virtual_address == 0 && d.size == 0 then None else Some (end, d)

-- the data directory that is all zeros
abbrev pub zero_directory : DataDirectory
zero_directory = record { virtual_address = 0; size = 0 }

-- the directory of an entry, or zeros if the entry is none
abbrev pub directory_or_zeros : Option (ℕ × DataDirectory) → DataDirectory
directory_or_zeros None = zero_directory
directory_or_zeros (Some entry) = entry.1

-- the fields of all entries, in order
abbrev pub entries_fields : List (Option (ℕ × DataDirectory)) → List FieldValue
entries_fields entries = flat_map (λ entry. directory_fields (directory_or_zeros entry)) entries

-- the directory of the entry at index i
abbrev pub directory_in : List (Option (ℕ × DataDirectory)) → ℕ → Option DataDirectory
directory_in entries i =
    option_and_then (λ entry. option_map (λ e. e.1) entry) (slice_get entries i)

-- the kinds of directories, each at its index
unfoldable pub kinds : List DataDirectoryType
kinds =
    dir.ExportTable ∷ dir.ImportTable ∷ dir.ResourceTable ∷ dir.ExceptionTable
    ∷ dir.CertificateTable ∷ dir.BaseRelocationTable ∷ dir.DebugTable ∷ dir.Architecture
    ∷ dir.GlobalPtr ∷ dir.TlsTable ∷ dir.LoadConfigTable ∷ dir.BoundImportTable
    ∷ dir.ImportAddressTable ∷ dir.DelayImportDescriptor ∷ dir.ClrRuntimeHeader ∷ []

-- which cause is true if an index has no kind
abbrev pub IsNoKind : ℕ → ErrorOf → Type 0
IsNoKind i (Malformed (DirectoryIndex n)) = n ≡ i
IsNoKind i e = ⊥

-- a kind paired with its directory, if the entry has one
abbrev pub with_kind : DataDirectoryType × Option (ℕ × DataDirectory)
    → Option (DataDirectoryType × DataDirectory)
with_kind (kind, entry) = option_map (λ e. (kind, e.1)) entry

-- the directories that are there from index i on, each paired with its kind, in order; the
-- sixteenth entry has no kind
abbrev pub present_from : ℕ → List (Option (ℕ × DataDirectory))
    → List (DataDirectoryType × DataDirectory)
present_from i entries = filter_map with_kind (drop i (zip kinds entries))

-- the directories that an iterator has yet to yield
abbrev pub dirs_left : Dirs → List (DataDirectoryType × DataDirectory)
dirs_left dirs = present_from dirs.index dirs.directories.data_directories
