-- Runs of addresses, whose file offsets need no walk.
use Rattle.std.specs.Prelude.{ℕ, ◌+◌, ◌-◌, ◌≡◌, ◌<◌, ◌≤◌, ◌^◌, ◌&&◌, nat_le, nat_lt}
use Rattle.std.specs.Prelude.{if◌then◌else◌, Option, Some, None, option_map}
use Rattle.goblin_pe_sect.specs.declared.address_map.run.Run.{Run}
use Rattle.goblin_pe_sect.specs.declared.address_map.run.Place.{Place}

-- the file offset of an address of a run
abbrev pub offset_in_run : Run → ℕ → Option ℕ
offset_in_run r rva =
    if nat_le r.first rva && nat_lt (rva - r.first) r.size then Some (r.offset + (rva - r.first))
    else None

-- its place
abbrev pub place_in_run : Run → ℕ → Option Place
place_in_run r rva = option_map (λ p. record { offset = p; end = r.end }) (offset_in_run r rva)

-- the run without address 0
abbrev pub past_null : Run → Run
past_null r =
    if nat_lt 0 r.first then r
    else if nat_lt 0 r.size then record r { first = 1; size = r.size - 1; offset = r.offset + 1 }
    else r

-- each address of the run has the place that the run gives, and the ends of both fit into 64 bits
pub record IsRun (place_of : ℕ → Option Place) (r : Run) : Type 0 where
  pub offsets_fit : r.offset + r.size < 2 ^ 64
  pub addresses_fit : r.first + r.size < 2 ^ 64
  pub answers : (rva : ℕ) → r.first ≤ rva → rva - r.first < r.size
      → place_of rva ≡ Some (record { offset = r.offset + (rva - r.first); end = r.end })
