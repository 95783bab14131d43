-- The windows of sections, as they are passed on from a range of the address space to its halves.
use Rattle.std.specs.Prelude.{ℕ, ◌≡◌, ◌≤◌, ◌<◌, Bool, ◌&&◌, nat_le, nat_lt, List, Option, find}
use Rattle.std.specs.Prelude.{length, map, slice_index, option_map}
use Rattle.std.specs.List.{enumerate_from}
use Rattle.goblin_pe_sect.specs.declared.options.Mapping.{Mapping}
use Rattle.goblin_pe_sect.specs.declared.windows.bounds.Piece.{Piece}
use Rattle.goblin_pe_sect.specs.declared.windows.owners.Owner.{Owner}
use Rattle.goblin_pe_sect.specs.{declared.windows.owners.Window.Window, Mapping.window_end}
use Rattle.goblin_pe_sect.specs.{SectionTable.Section, WindowIndex.owner_of_section}

-- a window holds this address
abbrev pub window_holds : ℕ → Window → Bool
window_holds rva w = nat_le w.begin rva && nat_lt rva w.end

-- a window holds each address from first to last; and a window may hold some of them
abbrev pub window_covers : ℕ → ℕ → Window → Bool
window_covers first last w = nat_le w.begin first && nat_lt last w.end

abbrev pub window_meets : ℕ → ℕ → Window → Bool
window_meets first last w = nat_le w.begin last && nat_lt first w.end

-- the owner of the first of these windows that holds an address
abbrev pub owner_among : List Window → ℕ → Option Owner
owner_among windows rva = option_map (λ (w : Window). w.owner) (find (window_holds rva) windows)

-- the piece that begins at an address, owned by the first of these windows that holds it
abbrev pub piece_among : List Window → ℕ → Piece
piece_among windows begin = record { begin = begin; owner = owner_among windows begin }

-- for each address from first to last, the first window that holds it is the same among the fewer
-- windows as among all
abbrev pub FindTheSame : ℕ → ℕ → List Window → List Window → Type 0
FindTheSame first last fewer windows =
    (rva : ℕ) → first ≤ rva → rva ≤ last
    → find (window_holds rva) fewer ≡ find (window_holds rva) windows

-- the window of the section at this index of the table; and the windows of all sections, in the
-- order of the table
abbrev pub section_window_at : Mapping → ℕ → ℕ → Section → Window
section_window_at mapping alignment i s =
    record {
      begin = s.virtual_address;
      end = window_end mapping.view s alignment;
      owner = owner_of_section mapping i s;
    }

abbrev pub section_windows : Mapping → ℕ → List Section → List Window
section_windows mapping alignment sections =
    map (λ (r : ℕ × Section). section_window_at mapping alignment r.0 r.1)
    (enumerate_from 0 sections)

-- the numbers do not fall
abbrev pub IsRising : List ℕ → Type 0
IsRising xs = (i j : ℕ) → i ≤ j → j < length xs → slice_index xs i ≤ slice_index xs j
