-- The data directories of an optional header.
use Rattle.std.specs.Prelude.{◌≡◌, ℕ, ◌+◌, ◌-◌, ◌*◌, nat_le, List, ◌++◌, map, replicate, Option}
use Rattle.std.specs.Prelude.{None, Some, option_and_then, slice_get, slice_range}
use Rattle.std.specs.List.{range_with_len}
use Rattle.goblin_base.specs.declared.endian.Endian.TheVariants.{Little}
use Rattle.goblin_base.specs.{declared.error.CauseOf.TheVariants.DirectoryCount, Bytes.IsBytes}
use Rattle.goblin_base.specs.{Reading.Reading, Record.encoding}
use Rattle.readings.specs.Reads.{each, mapped, needs, pick, record_at}
use Rattle.goblin_pe_sect.specs.DataDirectories.{DataDirectory}
use Rattle.goblin_pe_sect.specs.DataDirectories.{directory_record, entries_fields, entry_ending}

-- the sixteen entries of the directories from p on; each has the offset just past its directory,
-- and the entries after the last directory are none
abbrev pub sixteen : ℕ → List DataDirectory → List (Option (ℕ × DataDirectory))
sixteen p directories =
    map (λ i. option_and_then (entry_ending (p + 8 * i + 8)) (slice_get directories i))
    (range_with_len 0 16)

-- the sixteen entries; the file has the first `count` from p on; a count above sixteen is refused
unfoldable pub directories_at : ℕ → ℕ → Reading (List (Option (ℕ × DataDirectory)))
directories_at count p =
    pick (nat_le count 16)
    (mapped (sixteen p) (each (λ i. record_at 8 (directory_record Little) (p + 8 * i)) count))
    (needs None (DirectoryCount count))

-- Entries that were read are written back unchanged. The entries after them, up to the sixteenth,
-- are written as zeros.
abbrev pub EntriesWriteBack : Type 0
EntriesWriteBack =
    (count : ℕ) (bytes : List ℕ) (p : ℕ) (entries : List (Option (ℕ × DataDirectory)))
    → IsBytes bytes → (directories_at count p).value bytes ≡ Some entries
    → encoding Little (entries_fields entries)
    ≡ slice_range bytes p (p + 8 * count) ++ replicate (8 * (16 - count)) 0
