-- The map from file offsets back to addresses.
use Rattle.std.specs.Prelude.{ℕ, ◌+◌, ◌-◌, ◌==◌, Bool, ◌&&◌, nat_le, false, nat_lt}
use Rattle.std.specs.Prelude.{if◌then◌else◌, Option, Some, None}
use Rattle.std.specs.Int.{is_power_of_two}
use Rattle.goblin_pe_sect.specs.{declared.options.Mapping.Mapping, SectionTable.Section}
use Rattle.goblin_pe_sect.specs.Mapping.{read_size, raw_begin}

-- the address that a section's window has at a file offset; none if the window has no address
-- there, or if the alignment is not a power of two
abbrev pub rva_in : Mapping → ℕ → ℕ → Section → Option ℕ
rva_in mapping alignment p s =
    let begin = raw_begin mapping s in
    let end = begin + read_size mapping.view s alignment in
    if is_power_of_two alignment && (nat_le begin p && nat_lt p end)
    then Some (s.virtual_address + (p - begin))
    else None

-- an offset was found, and it is this one
abbrev pub is_at : ℕ → Option ℕ → Bool
is_at p None = false
is_at p (Some found) = found == p
