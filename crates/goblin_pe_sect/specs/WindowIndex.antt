-- The address space, cut into pieces at the windows of sections, and the answers of an index of the
-- pieces.
use Rattle.std.specs.Prelude.{ℕ, zero, suc, ◌+◌, ◌-◌, ◌*◌, ◌/◌, ◌≡◌, ◌<◌, ◌≤◌, ◌^◌, ◌==◌, ◌⊎◌, Bool}
use Rattle.std.specs.Prelude.{false, nat_le, nat_lt, if◌then◌else◌, List, [], Option, Some, None}
use Rattle.std.specs.Prelude.{length, map, slice_index, slice_index_or, slice_get, Contains}
use Rattle.std.specs.Prelude.{position, IsTrue, option_map, option_and_then}
use Rattle.std.specs.{List.prefix_len, List.Sorted.IsStrictlyIncreasing, Int.is_power_of_two}
use Rattle.goblin_pe_sect.specs.{declared.options.Mapping.Mapping, declared.options.View.View}
use Rattle.goblin_pe_sect.specs.declared.windows.bounds.Piece.{Piece}
use Rattle.goblin_pe_sect.specs.{declared.windows.owners.Owner.Owner, SectionTable.Section}
use Rattle.goblin_pe_sect.specs.Mapping.{read_size, window_end, is_in_window, raw_begin}

-- an index: whether it maps addresses at all, where each piece begins, and what is kept of the
-- section to which each piece belongs
pub record Pieces : Type 0 where
  pub resolves : Bool
  pub begins : List ℕ
  pub owners : List (Option Owner)

-- where each of these pieces begins, and what is kept of the section to which each belongs
abbrev pub begins_of : List Piece → List ℕ
begins_of pieces = map (λ (p : Piece). p.begin) pieces

abbrev pub owners_of : List Piece → List (Option Owner)
owners_of pieces = map (λ (p : Piece). p.owner) pieces

-- an index has pieces: addresses are mapped, and the alignment is a power of two
abbrev pub HasPieces : Bool → ℕ → Type 0
HasPieces resolves alignment = IsTrue resolves × IsTrue (is_power_of_two alignment)

-- ---- the pieces

-- x is a place where the address space is cut: 0, or a start or an end of a window that is not
-- empty
abbrev pub IsBorder : View → List Section → ℕ → ℕ → Type 0
IsBorder view sections alignment x =
    (x ≡ 0)
    ⊎ ((k : ℕ) × (s : Section) × (slice_get sections k ≡ Some s)
    × (0 < read_size view s alignment)
    × ((x ≡ s.virtual_address) ⊎ (x ≡ window_end view s alignment)))

-- the pieces begin where the address space is cut, in rising order; there are at most two for each
-- section, and the one at 0
pub record IsCut (view : View) (sections : List Section) (alignment : ℕ)
    (begins : List ℕ) : Type 0 where
  pub rising : IsStrictlyIncreasing begins
  pub all : (x : ℕ) → IsBorder view sections alignment x → Contains begins x
  pub only : (x : ℕ) → Contains begins x → IsBorder view sections alignment x
  pub few : length begins ≤ 2 * length sections + 1

-- what an index of windows keeps of a section, with the index of the section in the table
abbrev pub owner_of_section : Mapping → ℕ → Section → Owner
owner_of_section mapping i s =
    record { index = i; address = s.virtual_address; pointer = raw_begin mapping s }

-- what an index keeps of the first section whose window holds an address
abbrev pub first_owner : Mapping → List Section → ℕ → ℕ → Option Owner
first_owner mapping sections alignment rva =
    option_and_then (λ (i : ℕ). option_map (owner_of_section mapping i) (slice_get sections i))
    (position (is_in_window mapping.view alignment rva) sections)

-- ---- what an index returns

-- how many pieces begin at or before an address
abbrev pub reached : List ℕ → ℕ → ℕ
reached begins rva = prefix_len (λ b. nat_le b rva) begins

-- the comparisons that `halvings` counts, up to `most` of them: none if there are no numbers; else
-- one with the number in the middle, and those in the half that is left
unfoldable pub halvings_within : ℕ → ℕ → ℕ → ℕ
halvings_within zero n k = 0
halvings_within (suc most) n k =
    if n == 0 then 0
    else if nat_lt (n / 2) k then 1 + halvings_within most (n - n / 2 - 1) (k - n / 2 - 1)
    else 1 + halvings_within most (n / 2) k

-- The number of comparisons that a binary search makes to find that k of n rising numbers are at
-- most the number sought, if it splits evenly, with the larger half below. It is at most n.
unfoldable pub halvings : ℕ → ℕ → ℕ
halvings n k = halvings_within n n k

-- the owner of the last of the first n pieces
abbrev pub last_owner : List (Option Owner) → ℕ → Option Owner
last_owner owners zero = None
last_owner owners (suc k) = slice_index_or owners k None

-- the file offset of an address in a piece with this owner
abbrev pub owner_offset : ℕ → Owner → ℕ
owner_offset rva o = o.pointer + (rva - o.address)

-- the file offset of an address, by the owner of the last piece that begins at or before it
unfoldable pub located : Pieces → ℕ → Option ℕ
located w rva =
    if w.resolves
    then option_map (owner_offset rva) (last_owner w.owners (reached w.begins rva))
    else Some rva

-- ---- what is true of every index

-- The begins rise, and each piece has one entry among the owners. A piece with an owner begins at
-- or after the owner's address, and ends at most 2 ^ 33 after it. There are no pieces if addresses
-- are not mapped.
pub record IsIndex (resolves : Bool) (begins : List ℕ) (owners : List (Option Owner)) : Type 0 where
  pub rising : IsStrictlyIncreasing begins
  pub one_each : length owners ≡ length begins
  pub low : (k : ℕ) (o : Owner) → slice_index_or owners k None ≡ Some o
      → o.address ≤ slice_index begins k
  pub high : (k : ℕ) (o : Owner) → slice_index_or owners k None ≡ Some o
      → (k + 1 < length begins) × (slice_index begins (k + 1) ≤ o.address + 2 ^ 33)
  pub unmapped : resolves ≡ false → begins ≡ []

-- every section's window has at most 2 ^ 33 bytes
abbrev pub AreNear : View → List Section → ℕ → Type 0
AreNear view sections alignment =
    (k : ℕ) (s : Section) → slice_get sections k ≡ Some s → read_size view s alignment ≤ 2 ^ 33
