-- What is in memory where an address has an offset inside the file.
use Rattle.std.proofs.Common.{◌≡◌, ℕ, IsSomeAnd, IsTrue, ◌+◌, ◌-◌, ◌<◌, ◌^◌, Bool, true, false, cond, List, Option, Some, None, find, length, max, min, nat_lt, refl, arith, rules, tests, option_and_then, option_map, slice_range, subst}
use Rattle.std.proofs.lemmas.Bool.{false_from_ne_true, ltb-true}
use Rattle.std.specs.{Int.is_power_of_two, Option.unwrap_or}
use Rattle.goblin_base.proofs.{RecordRoundTrip.length-slice, Steps.same_value}
use Rattle.goblin_pe_sect.specs.Mapping.{InWindow, file_offset, is_in_window, offset_in, raw_begin, read_size}
use Rattle.goblin_pe_sect.specs.SectionTable.{Section}
use Rattle.goblin_pe_sect.proofs.Mapped.{found_in_window}
use Rattle.goblin_pe_c_headers.specs.{Images.PeImage, Addresses.MappedImage, Addresses.mapped_image}
use Rattle.goblin_pe_c_headers.proofs.Holders.{window_within}
use Rattle.goblin_pe_c_headers.specs.Memory.{Memory, SeesFile, addressed, front_at, holder, holder_index, is_unstored, maps_pages, memory_at, memory_by, memory_in_file, memory_length, memory_mapped, stored_in_memory, stored_size, window_size}

module _ (file : List ℕ) (p : ℕ) (inside : p < length file) where
  -- the byte at the offset, and nothing else, is known
  abbrev Sees : Memory → Type 0
  Sees seen = (seen.bytes ≡ slice_range file p (p + 1)) × (seen.missing ≡ 0)

  one-byte : front_at file p 1 ≡ slice_range file p (p + 1)
  one-byte =
      let begin : min p (length file) ≡ p = omega (arith, inside) in
      let end : min (p + 1) (length file) ≡ p + 1 = omega (arith, inside) in
      rw (begin, end) refl

  length-one : length (slice_range file p (p + 1)) ≡ 1
  length-one = length-slice file p 1 (omega (arith, inside))

  addressed-one : (rva : ℕ) → rva < 2 ^ 32 → addressed rva 1 ≡ 1
  addressed-one rva small = omega (arith, small)

  in_file : (outside : ℕ) → p < 2 ^ 32 → Sees (memory_in_file file outside p 1)
  in_file outside small = rw (addressed-one p small, one-byte, length-one) (refl, refl)

  module _ (m : MappedImage) (outside rva : ℕ) (small : rva < 2 ^ 32) (even : is_power_of_two m.alignment ≡ true) where
    -- the section that holds the address in its window has the offset there
    record Holds (s : Section) : Type 0 where
      within : InWindow m.mapping.view m.alignment rva s
      at : raw_begin m.mapping s + (rva - s.virtual_address) ≡ p
      there : is_unstored s ≡ false

    stored-one : (s : Section) → Holds s → min 1 (stored_in_memory m (length file) s - (rva - s.virtual_address)) ≡ 1
    stored-one s h =
        let window : window_size m s ≡ read_size m.mapping.view s m.alignment = rw even refl in
        let most : stored_in_memory m (length file) s ≡ max (min (window_size m s) (length file - raw_begin m.mapping s)) (min (memory_length m s) (stored_size m.mapping s)) = rw (h.there) refl in
        omega (arith, window, most, h.within.0, h.within.1, h.at, inside)

    most-one : (s : Section) → Holds s → min 1 (memory_length m s - (rva - s.virtual_address)) ≡ 1
    most-one s h =
        let window : window_size m s ≡ read_size m.mapping.view s m.alignment = rw even refl in
        omega (arith, window, window_within m s, h.within.0, h.within.1)

    in_section : (index : ℕ) (s : Section) → Holds s → Sees (memory_by m file outside rva 1 index (Some s))
    in_section index s h =
        rw (addressed-one rva small, most-one s h, stored-one s h, h.at, one-byte, length-one) (refl, refl)

    -- what holds the address is the section whose window does
    held : (s : Section) → find (is_in_window m.mapping.view m.alignment rva) m.sections ≡ Some s → holder m rva ≡ Some s
    held s found = rw (even, found) refl

    by_section : (found : Option Section) → find (is_in_window m.mapping.view m.alignment rva) m.sections ≡ found
        → option_map (λ s. offset_in m.mapping s rva) found ≡ Some p
        → ((s : Section) → holder m rva ≡ Some s → is_unstored s ≡ false)
        → Sees (memory_by m file outside rva 1 (unwrap_or (holder_index m rva) outside) (holder m rva))
    by_section None found at stored = absurd cc
    by_section (Some s) found at stored =
        rw (held s found)
        (in_section (unwrap_or (holder_index m rva) outside) s (record {
          within = found_in_window m.mapping.view m.alignment rva m.sections s found;
          at = same_value _ _ at;
          there = stored s (held s found);
        }))

  by_map : (m : MappedImage) (outside rva : ℕ) → rva < 2 ^ 32
      → (b even : Bool) → m.mapping.resolve_rva ≡ b → is_power_of_two m.alignment ≡ even
      → cond b (cond even (option_map (λ s. offset_in m.mapping s rva) (find (is_in_window m.mapping.view m.alignment rva) m.sections)) None) (Some rva) ≡ Some p
      → ((s : Section) → holder m rva ≡ Some s → is_unstored s ≡ false)
      → Sees (memory_mapped file outside rva 1 (Some m))
  unfolding maps_pages
  by_map m outside rva small true true on even at stored = rw on (by_section m outside rva small even _ refl at stored)
  by_map m outside rva small true false on even at stored = absurd cc
  by_map m outside rva small false even on is at stored =
      let same : rva ≡ p = same_value rva p at in
      rw (on, same) (in_file outside (subst (λ (n : ℕ). n < 2 ^ 32) same small))

pub sees_file : (i : PeImage) → SeesFile i
unfolding memory_at file_offset
sees_file i = λ rva offset at inside stored. by rva offset (nat_lt rva (2 ^ 32)) refl (mapped_image i) at inside stored
  where
    file : List ℕ
    file = i.bytes.now

    Sees : ℕ → Memory → Type 0
    Sees offset seen = (seen.bytes ≡ slice_range file offset (offset + 1)) × (seen.missing ≡ 0)

    by : (rva offset : ℕ) (small : Bool) → nat_lt rva (2 ^ 32) ≡ small → (m : Option MappedImage)
        → option_and_then (λ m. cond small (file_offset m.mapping m.sections m.alignment rva) None) m ≡ Some offset → offset < length file
        → ¬ IsSomeAnd (option_and_then (λ m. holder m rva) m) (λ s. IsTrue (is_unstored s))
        → Sees offset (memory_mapped file i.section_count rva 1 (cond small m None))
    by rva offset true small None at inside stored = absurd cc
    by rva offset false small None at inside stored = absurd cc
    by rva offset false small (Some m) at inside stored = absurd cc
    by rva offset true small (Some m) at inside stored =
        by_map file offset inside m i.section_count rva (ltb-true rva (2 ^ 32) small) m.mapping.resolve_rva (is_power_of_two m.alignment) refl refl at
        (λ s held. false_from_ne_true (is_unstored s) (λ yes. stored (rw held (search (rules, tests, yes)))))
