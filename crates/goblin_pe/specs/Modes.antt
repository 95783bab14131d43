-- One reader in both modes. If strict mode has a value, permissive mode has the same, with one
-- exception: an import directory at file offset 0 is an empty list there, whatever it holds.
use Rattle.std.specs.Prelude.{◌≡◌, ℕ, ◌==◌, Bool, false, if◌then◌else◌, List, [], Option, None}
use Rattle.std.specs.Prelude.{Some, Result}
use Rattle.goblin_base.specs.declared.error.ErrorOf.{ErrorOf}
use Rattle.goblin_base.specs.{declared.permissive.ParseMode.ParseMode, Answers.◌>>=◌}
use Rattle.goblin_base.specs.Reading.{Reading, Reads}
use Rattle.goblin_pe_sect.specs.declared.options.ParseOptions.{ParseOptions}
use Rattle.goblin_pe_sect.specs.declared.options.View.TheVariants.{Sections}
use Rattle.goblin_pe.specs.Whole.{TablePlaces, WholeFile, addressing_by, directory_at, mapped_in}
use Rattle.goblin_pe.specs.Whole.{part_map, places_in}

-- these options in a mode
abbrev pub in_mode : ParseMode → ParseOptions → ParseOptions
in_mode mode opts = record opts { parse_mode = mode }

-- A reader that takes no memory, in strict and in permissive mode. `InModes` is for a reader that
-- takes memory.
pub record ReadsInModes {X Y : Type 0} (view : X → Y) (becomes : Y → Y)
    (strict permissive : Reading Y) (bytes : List ℕ)
    (both : Result X ErrorOf × Result X ErrorOf) : Type 0 where
  pub first : Reads view both.0 strict bytes
  pub second : Reads view both.1 permissive bytes
  pub repeats : (x : Y) → strict.value bytes ≡ Some x
      → permissive.value bytes ≡ Some (becomes x)

-- whether an offset is that of the front of the file
abbrev pub is_front : Option ℕ → Bool
is_front None = false
is_front (Some o) = o == 0

-- the list of a directory at an offset, in permissive mode: a directory at the front of the file is
-- empty there
abbrev pub unless_front : {A : Type 0} → Option ℕ → List A → List A
unless_front place xs = if is_front place then [] else xs

-- the file offset of the import directory of a file, with the file's own header and sections
abbrev pub import_place : ParseOptions → WholeFile → Option ℕ
import_place opts whole =
    let places : TablePlaces = places_in whole.header.optional_header in
    directory_at places 1
    >>= λ directory.
    (addressing_by opts (mapped_in Sections whole.header whole.sections) places).offset
    directory.virtual_address

-- what permissive mode has if strict mode has this
unfoldable pub in_permissive_mode : ParseOptions → WholeFile → WholeFile
in_permissive_mode opts whole =
    record whole {
      import_data = part_map (unless_front (import_place opts whole)) whole.import_data;
      imports = part_map (unless_front (import_place opts whole)) whole.imports;
    }
