-- Parts of a file: the bytes between two offsets, and the least place of a number that passes a
-- test. Also what a read of a part reaches, as positions in all bytes.
use Rattle.std.specs.Prelude.{ℕ, ◌+◌, ◌-◌, Bool, ◌&&◌, nat_le, if◌then◌else◌, List, length, map}
use Rattle.std.specs.Prelude.{Option, None, Some, option_map, slice_range, take, ◌^◌, min, nat_lt}
use Rattle.std.specs.Prelude.{[], ◌∷◌, ◌++◌, replicate}
use Rattle.std.specs.List.{find, range_with_len}
use Rattle.goblin_base.specs.{declared.endian.Endian.Endian, Bytes.cut_window, Bytes.number}
use Rattle.goblin_base.specs.Footprints.{Range, led_to, positions, slot_footprint, slots_reached}
use Rattle.goblin_base.specs.Footprints.{stretch_footprint}
use Rattle.goblin_base.specs.Tables.{SlotFormat, concat_below, slot_at, slot_place, stop}
pub use Rattle.goblin_base.specs.declared.mapped.MappedEnd.{MappedEnd}
pub use Rattle.goblin_base.specs.declared.mapped.MappedBytes.{MappedBytes}

-- positions in the bytes from p on, as positions in all bytes
abbrev pub moved_by : ℕ → List Range → List Range
moved_by p ranges = map (λ range. (p + range.0, p + range.1)) ranges

-- What is read of a file where the mapped bytes end so: in memory, zeros follow the last byte that
-- is mapped. If that is not in the file, or if there is no end, the file is read as it is.
abbrev pub in_memory : Option MappedEnd → List ℕ → List ℕ
in_memory None bytes = bytes
in_memory (Some e) bytes =
    if nat_lt e.last (length bytes) then take (e.last + 1) bytes ++ replicate e.zeros 0 else bytes

-- all bytes of a part, with the zeros behind those of the file
abbrev pub bytes_in : MappedBytes → List ℕ
bytes_in m = m.bytes.now ++ replicate m.zeros 0

-- those of the file alone
abbrev pub stored_in : MappedBytes → List ℕ
stored_in m = m.bytes.now

-- the positions before an end
abbrev pub positions_before : ℕ → List Range → List Range
positions_before end [] = []
positions_before end (range ∷ ranges) =
    if nat_lt range.0 end
    then (range.0, min range.1 end) ∷ positions_before end ranges
    else positions_before end ranges

-- of these positions in what is read, those that are in the file
abbrev pub positions_in_file : Option MappedEnd → List Range → List Range
positions_in_file None ranges = ranges
positions_in_file (Some e) ranges = positions_before (e.last + 1) ranges

-- what a table of slots at o reaches, as `slot_footprint`, if its slots are read up to an end; what
-- their entries lead to is not
abbrev pub slot_footprint_to : {V : Type 0} → Option MappedEnd → SlotFormat V → (V → List Range)
    → List ℕ → ℕ → List Range
slot_footprint_to None slots leads_to bytes o = slot_footprint slots leads_to bytes o
slot_footprint_to (Some e) slots leads_to bytes o =
    let part = in_memory (Some e) bytes in
    concat_below (λ i. led_to (slot_at slots part o i) leads_to) (stop slots part o)
    ++ positions_before (e.last + 1)
    (positions o (slot_place slots o (slots_reached slots part o)))

-- an end without zeros: the bytes of the file alone
abbrev pub stored : MappedEnd → MappedEnd
stored e = record e { zeros = 0 }

-- the end past every file, and an end or this one
abbrev pub no_end : MappedEnd
no_end = record { last = 2 ^ 64 - 1; zeros = 0 }

abbrev pub end_or_none : Option MappedEnd → MappedEnd
end_or_none None = no_end
end_or_none (Some e) = e

-- the bytes from `begin` up to `end`, if `begin` is at most `end` and they are all in the file;
-- there may be no bytes
abbrev pub bytes_between : List ℕ → ℕ → ℕ → Option (List ℕ)
bytes_between bytes begin end =
    if nat_le begin end && nat_le end (length bytes)
    then Some (slice_range bytes begin end)
    else None

-- the positions of these bytes
abbrev pub between_footprint : List ℕ → ℕ → ℕ → List Range
between_footprint bytes begin end =
    led_to (bytes_between bytes begin end) (λ _. positions begin end)

-- the least place at which the number in n bytes passes the test; `more` bytes must follow these
abbrev pub least_place : Endian → ℕ → ℕ → (ℕ → Bool) → List ℕ → Option ℕ
least_place endian n more test bytes =
    find (λ i. test (number endian n bytes i)) (range_with_len 0 (length bytes - (n + more - 1)))

-- that place, and all bytes up to the end of the `more` bytes that follow
abbrev pub front_through : Endian → ℕ → ℕ → (ℕ → Bool) → List ℕ → Option (ℕ × List ℕ)
front_through endian n more test bytes =
    option_map (λ i. (i, take (i + (n + more)) bytes)) (least_place endian n more test bytes)

-- a search from the front: the bytes up to the end of the `width` bytes at the place that is found,
-- or all bytes if none is found
abbrev pub search_footprint : ℕ → Option ℕ → List ℕ → List Range
search_footprint width None bytes = positions 0 (length bytes)
search_footprint width (Some i) bytes = positions 0 (i + width)

-- what the text at p reaches; if there is a limit, no more than the bytes on which the cut text
-- depends
abbrev pub text_footprint : Option ℕ → List ℕ → ℕ → List Range
text_footprint None bytes p = stretch_footprint bytes p
text_footprint (Some n) bytes p = moved_by p (stretch_footprint (cut_window bytes p n) 0)
