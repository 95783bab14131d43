-- An import entry of two bytes, for the tests.
use Rattle.std.specs.Prelude.{ℕ, ◌%◌, ◌^◌, nat_le}
use Rattle.goblin_pe.specs.import.ImportLookup.{EntryValue}

-- the entry of a number: by ordinal from 2^15 on; the lower bits are the ordinal or the address
abbrev pub short_value : ℕ → EntryValue
short_value n =
    record { number = n; is_ordinal = nat_le (2 ^ 15) n; ordinal = n % 2 ^ 15; rva = n % 2 ^ 15 }
